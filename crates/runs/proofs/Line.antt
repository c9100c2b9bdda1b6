-- A tree's acts do what its evaluation does, whatever is kept: acts one after the other do one after the other, and a node's or an element's two visits
-- around them keep its set and take it back.
-- Assumes nothing.
use mathlib.Core.Path.{◌≡◌, refl, ◌∙◌, ap}
use mathlib.Core.List.{List, [], ◌∷◌, ◌++◌}
use mathlib.Core.Option.{Option, none, some}
use Prim.Native.Nat.{ℕ, suc, ◌+◌}
use Rattle.expressions.specs.Expr.{Exp, nodes, Content}
use Rattle.expressions.specs.Grammar.{Production}
use Rattle.sheet.specs.Sheet.{Sheet}
use Rattle.runs.specs.Visits.{Env, Saved, saved, opens, closes, enters, leaves, reads}
use Rattle.runs.specs.Options.{bind}
use Rattle.runs.specs.Parse.{Element, element, Children, childless, children, Parse, child, one_char, pair, first_of, second_of, repeat, void, Parses, done, next, around, eval, eval_C, eval_P, eval_ps}
use Rattle.runs.specs.Acts.{Act, node_second, start_tag, end_tag, letter_read, Store, act, acts}
use Rattle.runs.specs.Line.{wrap, line, line_C, line_P, line_ps}

abbrev store : List (List Saved) → Env → Store
store kss v = record { kept = kss; env = v }

abbrev with_kept : List (List Saved) → Option Env → Option Store
with_kept kss o = bind o (λ w. some (store kss w))

pub acts_append : (s : Sheet) (bs cs : List Act) (m : Store) → acts s (bs ++ cs) m ≡ bind (acts s bs m) (λ m'. acts s cs m')
acts_append s [] cs m = refl
acts_append s (b ∷ bs) cs m = go (λ m'. acts_append s bs cs m') (act s b m)
  where
    go : ((m' : Store) → acts s (bs ++ cs) m' ≡ bind (acts s bs m') (λ m''. acts s cs m'')) →
        (o : Option Store) → bind o (λ m'. acts s (bs ++ cs) m') ≡ bind (bind o (λ m'. acts s bs m')) (λ m'. acts s cs m')
    go later none = refl
    go later (some m') = later m'

-- acts that do what f does, inside an open element
abbrev Does : Sheet → List Act → (Env → Option Env) → Type 0
Does s bs f = (ks : List Saved) (kss : List (List Saved)) (v : Env) → acts s bs (store (ks ∷ kss) v) ≡ with_kept (ks ∷ kss) (f v)

module _ (s : Sheet) where
  does_nil : Does s [] (λ v. some v)
  does_nil ks kss v = refl

  does_append : (bs cs : List Act) (f g : Env → Option Env) → Does s bs f → Does s cs g → Does s (bs ++ cs) (λ v. bind (f v) (λ w. g w))
  does_append bs cs f g F G ks kss v = acts_append s bs cs _ ∙ (ap (λ (o : Option Store). bind o (λ m'. acts s cs m')) (F ks kss v) ∙ go (f v))
    where
      go : (o : Option Env) → bind (with_kept (ks ∷ kss) o) (λ m'. acts s cs m') ≡ with_kept (ks ∷ kss) (bind o (λ w. g w))
      go none = refl
      go (some w) = G ks kss w

  does_wrap : (q i : ℕ) (bs : List Act) (f : Env → Option Env) → Does s bs f → Does s (wrap q i bs) (around s q i f)
  does_wrap q i bs f F ks kss v = opening_up (opens s q i v)
    where
      closing_up : (v₁ : Env) (o : Option Env) →
          bind (with_kept ((saved v v₁ ∷ ks) ∷ kss) o) (λ m'. acts s (node_second q i ∷ []) m') ≡ with_kept (ks ∷ kss) (bind o (λ v₂. closes s q i (saved v v₁) v₂))
      closing_up v₁ none = refl
      closing_up v₁ (some v₂) = last (closes s q i (saved v v₁) v₂)
        where
          last : (o : Option Env) → bind (with_kept (ks ∷ kss) o) (λ m'. some m') ≡ with_kept (ks ∷ kss) o
          last none = refl
          last (some w) = refl

      opening_up : (o : Option Env) →
          bind (bind o (λ w. some (store ((saved v w ∷ ks) ∷ kss) w))) (λ m'. acts s (bs ++ node_second q i ∷ []) m')
          ≡ with_kept (ks ∷ kss) (bind o (λ v₁. bind (f v₁) (λ v₂. closes s q i (saved v v₁) v₂)))
      opening_up none = refl
      opening_up (some v₁) =
          acts_append s bs (node_second q i ∷ []) _
          ∙ (ap (λ (o : Option Store). bind o (λ m'. acts s (node_second q i ∷ []) m')) (F (saved v v₁ ∷ ks) kss v₁) ∙ closing_up v₁ (f v₁))

  -- an element, wherever it stands
  does_element : (q : ℕ) (bs : List Act) (f : Env → Option Env) → Does s bs f → (kss : List (List Saved)) (v : Env) →
      acts s (start_tag q ∷ (bs ++ end_tag q ∷ [])) (store kss v) ≡ with_kept kss (bind (enters s q v) (λ v₁. bind (f v₁) (λ v₂. leaves s q (saved v v₁) v₂)))
  does_element q bs f F kss v = opening_up (enters s q v)
    where
      closing_up : (v₁ : Env) (o : Option Env) →
          bind (with_kept ((saved v v₁ ∷ []) ∷ kss) o) (λ m'. acts s (end_tag q ∷ []) m') ≡ with_kept kss (bind o (λ v₂. leaves s q (saved v v₁) v₂))
      closing_up v₁ none = refl
      closing_up v₁ (some v₂) = last (leaves s q (saved v v₁) v₂)
        where
          last : (o : Option Env) → bind (with_kept kss o) (λ m'. some m') ≡ with_kept kss o
          last none = refl
          last (some w) = refl

      opening_up : (o : Option Env) →
          bind (bind o (λ w. some (store ((saved v w ∷ []) ∷ kss) w))) (λ m'. acts s (bs ++ end_tag q ∷ []) m')
          ≡ with_kept kss (bind o (λ v₁. bind (f v₁) (λ v₂. leaves s q (saved v v₁) v₂)))
      opening_up none = refl
      opening_up (some v₁) =
          acts_append s bs (end_tag q ∷ []) _
          ∙ (ap (λ (o : Option Store). bind o (λ m'. acts s (end_tag q ∷ []) m')) (F (saved v v₁ ∷ []) kss v₁) ∙ closing_up v₁ (f v₁))

mutual
  pub line_eval : {g : List Production} {n : ℕ} (t : Element g n) (s : Sheet) (kss : List (List Saved)) (v : Env) →
      acts s (line t) (store kss v) ≡ with_kept kss (eval t s v)
  line_eval (element q h c) s kss v = does_element s q (line_C c q) (λ w. eval_C c s q w) (line_eval_C c s q) kss v

  line_eval_C : {g : List Production} {c : Content} (p : Children g c) (s : Sheet) (q : ℕ) → Does s (line_C p q) (λ w. eval_C p s q w)
  line_eval_C childless s q = does_nil s
  line_eval_C (children p) s q = line_eval_P p s q 1

  line_eval_P : {g : List Production} {e : Exp} (p : Parse g e) (s : Sheet) (q i : ℕ) → Does s (line_P p q i) (λ w. eval_P p s q i w)
  line_eval_P (child t) s q i = does_wrap s q i (line t) (λ w. eval t s w) (λ ks kss v. line_eval t s (ks ∷ kss) v)
  line_eval_P (one_char c) s q i = does_wrap s q i (letter_read c ∷ []) (λ w. reads s c w) (λ ks kss v. refl)
  line_eval_P (pair {l} a b) s q i =
      does_wrap s q i (line_P a q (suc i) ++ line_P b q (suc i + nodes l)) (λ w. bind (eval_P a s q (suc i) w) (λ x. eval_P b s q (suc i + nodes l) x))
      (does_append s (line_P a q (suc i)) (line_P b q (suc i + nodes l)) (λ w. eval_P a s q (suc i) w) (λ w. eval_P b s q (suc i + nodes l) w)
      (line_eval_P a s q (suc i)) (line_eval_P b s q (suc i + nodes l)))
  line_eval_P (first_of a) s q i = does_wrap s q i (line_P a q (suc i)) (λ w. eval_P a s q (suc i) w) (line_eval_P a s q (suc i))
  line_eval_P (second_of {l} b) s q i =
      does_wrap s q i (line_P b q (suc i + nodes l)) (λ w. eval_P b s q (suc i + nodes l) w) (line_eval_P b s q (suc i + nodes l))
  line_eval_P (repeat ps) s q i = does_wrap s q i (line_ps ps q (suc i)) (λ w. eval_ps ps s q (suc i) w) (line_eval_ps ps s q (suc i))
  line_eval_P void s q i = does_wrap s q i [] (λ w. some w) (does_nil s)

  line_eval_ps : {g : List Production} {e : Exp} (p : Parses g e) (s : Sheet) (q i : ℕ) → Does s (line_ps p q i) (λ w. eval_ps p s q i w)
  line_eval_ps done s q i = does_nil s
  line_eval_ps (next p ps) s q i =
      does_append s (line_P p q i) (line_ps ps q i) (λ w. eval_P p s q i w) (λ w. eval_ps ps s q i w) (line_eval_P p s q i) (line_eval_ps ps s q i)
