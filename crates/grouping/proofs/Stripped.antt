-- A sheet without its programs: it has the same trees, and none of them rejects.
-- Assumes nothing.
use mathlib.Core.Path.{◌≡◌, refl, ◌∙◌, ap}
use mathlib.Core.List.{List, [], ◌∷◌}
use mathlib.Core.Option.{Option, some}
use Prim.Native.Nat.{ℕ, zero, suc, ◌+◌}
use Rattle.expressions.specs.Expr.{Exp, nodes, Content}
use Rattle.expressions.specs.Grammar.{Production}
use Rattle.sheet.specs.Fields.{Visits}
use Rattle.sheet.specs.Sheet.{Rule, Sheet, grammar_of}
use Rattle.runs.specs.Options.{bind}
use Rattle.runs.specs.Visits.{Env, Saved, saved, no_programs_lem, programs_of, visit, opens, revisits, closes, enters, leaves, reads}
use Rattle.runs.specs.Parse.{Element, element, Children, childless, children, Parse, child, one_char, pair, first_of, second_of, repeat, void, Parses, done, next, around, eval, eval_C, eval_P, eval_ps}
use Rattle.grouping.specs.Regrouped.{Which, RegroupedGrammar, no_production, and_production}

abbrev without_programs : List Rule → List Rule
without_programs [] = []
without_programs (r ∷ rs) = record { production = r.production; own = no_programs_lem; of_nodes = [] } ∷ without_programs rs

abbrev pub stripped : Sheet → Sheet
stripped a = record { names = a.names; rules = without_programs a.rules; strings = a.strings; start_nonterminal = a.start_nonterminal }

pub into_stripped : {w : Which} {g : List Production} (rs : List Rule) → RegroupedGrammar w g (grammar_of rs) → RegroupedGrammar w g (grammar_of (without_programs rs))
into_stripped [] no_production = no_production
into_stripped (r ∷ rs) (and_production p k) = and_production p (into_stripped rs k)

none_left : (rs : List Rule) (q i : ℕ) → programs_of (without_programs rs) q i ≡ no_programs_lem
none_left [] q i = refl
none_left (r ∷ rs) zero zero = refl
none_left (r ∷ rs) zero (suc i) = refl
none_left (r ∷ rs) (suc q) i = none_left rs q i

-- what a step comes to, which it always does
abbrev Comes : Option Env → Type 0
Comes o = (w : Env) × (o ≡ some w)

then_comes : (o : Option Env) (f : Env → Option Env) → Comes o → ((x : Env) → Comes (f x)) → Comes (bind o f)
then_comes o f (x, e) h = ((h x).0, ap (λ (z : Option Env). bind z f) e ∙ (h x).1)

module _ (a : Sheet) where
  visit_comes : (k : List ℕ) (p : Visits) (v : Env) → p ≡ no_programs_lem → Comes (visit (stripped a) k p.first_visit v) × Comes (visit (stripped a) k p.second_visit v)
  visit_comes k p v e = (
    (_, ap (λ (z : Visits). visit (stripped a) k z.first_visit v) e),
    (_, ap (λ (z : Visits). visit (stripped a) k z.second_visit v) e),
  )

  opens_comes : (q i : ℕ) (v : Env) → Comes (opens (stripped a) q i v)
  opens_comes q i v = (visit_comes [] (programs_of (without_programs a.rules) q i) v (none_left a.rules q i)).0

  revisits_comes : (q i : ℕ) (k : Saved) (v : Env) → Comes (revisits (stripped a) q i k v)
  revisits_comes q i k v = (visit_comes k.values (programs_of (without_programs a.rules) q i) v (none_left a.rules q i)).1

  enters_comes : (q : ℕ) (v : Env) → Comes (enters (stripped a) q v)
  enters_comes q v = then_comes (opens (stripped a) q 0 v) _ (opens_comes q 0 v) (λ x. (_, refl))

  closes_comes : (q i : ℕ) (k : Saved) (v : Env) → Comes (closes (stripped a) q i k v)
  closes_comes q i k v = then_comes (revisits (stripped a) q i k v) _ (revisits_comes q i k v) (λ x. (_, refl))

  leaves_comes : (q : ℕ) (k : Saved) (v : Env) → Comes (leaves (stripped a) q k v)
  leaves_comes q k v = then_comes (revisits (stripped a) q 0 k v) _ (revisits_comes q 0 k v) (λ x. (_, refl))

  around_comes : (q i : ℕ) (f : Env → Option Env) → ((v : Env) → Comes (f v)) → (v : Env) → Comes (around (stripped a) q i f v)
  around_comes q i f h v =
      then_comes (opens (stripped a) q i v) _ (opens_comes q i v) (λ v₁. then_comes (f v₁) _ (h v₁) (λ v₂. closes_comes q i (saved v v₁) v₂))

  mutual
    pub eval_comes : {g : List Production} {n : ℕ} (t : Element g n) (v : Env) → Comes (eval t (stripped a) v)
    eval_comes (element q h c) v =
        then_comes (enters (stripped a) q v) _ (enters_comes q v) (λ v₁. then_comes (eval_C c (stripped a) q v₁) _ (eval_C_comes c q v₁) (λ v₂. leaves_comes q (saved v v₁) v₂))

    eval_C_comes : {g : List Production} {c : Content} (t : Children g c) (q : ℕ) (v : Env) → Comes (eval_C t (stripped a) q v)
    eval_C_comes childless q v = (v, refl)
    eval_C_comes (children p) q v = eval_P_comes p q 1 v

    eval_P_comes : {g : List Production} {e : Exp} (p : Parse g e) (q i : ℕ) (v : Env) → Comes (eval_P p (stripped a) q i v)
    eval_P_comes (child t) q i v = around_comes q i (λ w. eval t (stripped a) w) (λ w. eval_comes t w) v
    eval_P_comes (one_char c) q i v = around_comes q i (reads (stripped a) c) (λ w. (_, refl)) v
    eval_P_comes (pair {l} x y) q i v =
        around_comes q i (λ w. bind (eval_P x (stripped a) q (suc i) w) (λ u. eval_P y (stripped a) q (suc i + nodes l) u))
        (λ w. then_comes (eval_P x (stripped a) q (suc i) w) _ (eval_P_comes x q (suc i) w) (λ u. eval_P_comes y q (suc i + nodes l) u)) v
    eval_P_comes (first_of x) q i v = around_comes q i (λ w. eval_P x (stripped a) q (suc i) w) (λ w. eval_P_comes x q (suc i) w) v
    eval_P_comes (second_of {l} y) q i v = around_comes q i (λ w. eval_P y (stripped a) q (suc i + nodes l) w) (λ w. eval_P_comes y q (suc i + nodes l) w) v
    eval_P_comes (repeat ps) q i v = around_comes q i (λ w. eval_ps ps (stripped a) q (suc i) w) (λ w. eval_ps_comes ps q (suc i) w) v
    eval_P_comes void q i v = around_comes q i (λ w. some w) (λ w. (w, refl)) v

    eval_ps_comes : {g : List Production} {e : Exp} (ps : Parses g e) (q i : ℕ) (v : Env) → Comes (eval_ps ps (stripped a) q i v)
    eval_ps_comes done q i v = (v, refl)
    eval_ps_comes (next p ps) q i v = then_comes (eval_P p (stripped a) q i v) _ (eval_P_comes p q i v) (λ w. eval_ps_comes ps q i w)
