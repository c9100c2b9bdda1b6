-- The machine goes through the tokens of all rules. Assumes nothing.
use mathlib.Core.Path.{◌≡◌, refl, sym, ◌∙◌, ap, subst}
use mathlib.Core.Bool.{true}
use mathlib.Core.Option.{Option, none, some}
use mathlib.Core.List.{List, [], ◌∷◌, ◌++◌, append_assoc, append-nil}
use Prim.Native.Nat.{ℕ, ◌<◌}
use native.Mathlib.Omega.{arith}
use Rattle.expressions.specs.Grammar.{nonterminals}
use Rattle.programs.specs.Limits.{first, second}
use Rattle.notation.specs.Program.{TextProgram}
use Rattle.notation.specs.Rules.{Tree, TextRule, Rules}
use Rattle.notation.specs.Tokens.{TextToken, nonterminal, name, sign, DEFINED, OPEN, CLOSE, BRACE, UNBRACE, TagName}
use Rattle.notation.specs.Statements.{BracesAre, absent, braces}
use Rattle.notation.specs.Productions.{ContentIs, RuleIs, production, ProductionsAre, one, more, RulesAre, start_alone, start_first}
use Rattle.reading.specs.Machine.{and_then, walk}
use Rattle.reading.specs.Reads.{Ends}
use Rattle.reading.specs.Tests.{tag_name?}
use Rattle.reading.specs.Statements.{Listing, list_start}
use Rattle.reading.specs.Expressions.{Parsing, fresh_expression, nonterminal?, step_expression, value_of_content}
use Rattle.reading.specs.Rules.{Key, a_nonterminal, a_name, key_if, key_of, Head, head, Progress, beginning, first_word, named, defined, own_front, wants_tag, tagged, within, closed, own_back, complete, rule_read, rules_read, next_head, step_key, closes_content, parsing, step_rules, value_of_rules, rules}
use Rattle.reading.proofs.Telling.{none≢some}
use Rattle.reading.proofs.Braces.{braces_walk}
use Rattle.reading.proofs.ExpressionWalk.{content_walk}

key_if_lem : {P : Type 0} (d : Dec P) (k : Key) → P → key_if d k ≡ k
key_if_lem (yes h) k p = refl
key_if_lem (no h) k p = absurd (h p)

abbrev go : Progress → List TextToken → Option Progress
go s ts = walk step_rules s ts

-- a state at which a text may end, or go on with one more production
record RuleEnd (s : Progress) (h : Head) (r : TextRule) : Type 0 where
  value_is : value_of_rules s ≡ some (rules_read r h)
  goes_on : (n : ℕ) → n < nonterminals → step_rules s (nonterminal n) ≡ some (named (next_head r h n))

content_lift : (x y : Parsing) (f : Option TextProgram) (t : List ℕ) (h : Head) (us rest : List TextToken) → walk step_expression x us ≡ some y → go (within x f t h) (us ++ rest) ≡ go (within y f t h) rest
content_lift x y f t h [] rest e = let same : x ≡ y = cc in ap (λ z. go (within z f t h) rest) same
content_lift x y f t h (u ∷ us) rest e = on (λ z. content_lift z y f t h us rest) (step_expression x u) refl
  where
    on : ((z : Parsing) → walk step_expression z us ≡ some y → go (within z f t h) (us ++ rest) ≡ go (within y f t h) rest)
        → (o : Option Parsing) → step_expression x u ≡ o → go (within x f t h) (u ∷ (us ++ rest)) ≡ go (within y f t h) rest
    on ih none k = absurd (none≢some (ap (λ o. and_then o (λ z. walk step_expression z us)) k) e)
    on ih (some z) k =
        ap (λ o. and_then (parsing o (closes_content (key_of u) (value_of_content x) f t h) f t h) (λ s. go s (us ++ rest))) k
        ∙ ih z (sym (ap (λ o. and_then o (λ w. walk step_expression w us)) k) ∙ e)

content_close : {us : List TextToken} {e : Option Tree} → ContentIs us e → (f : Option TextProgram) (t : List ℕ) (h : Head) (rest : List TextToken)
    → go (within (Parsing.wants true fresh_expression []) f t h) (us ++ sign CLOSE ∷ rest) ≡ go (closed f t e h) rest
content_close {us} {e} c f t h rest =
    let w = content_walk c in
    content_lift (Parsing.wants true fresh_expression []) w.0 f t h us (sign CLOSE ∷ rest) w.1
    ∙ ap (λ o. and_then (parsing o (closes_content (key_of (sign CLOSE)) (value_of_content w.0) f t h) f t h) (λ s. go s rest)) w.3
    ∙ ap (λ o. and_then (closes_content (key_of (sign CLOSE)) o f t h) (λ s. go s rest)) w.2

name_step : (s : Progress) (t : List ℕ) (rest : List TextToken) → ((k : Key) → step_rules s (name t) ≡ step_key s (key_of (name t))) → TagName t → go s (name t ∷ rest) ≡ and_then (step_key s (a_name t)) (λ z. go z rest)
name_step s t rest i h = ap (λ o. and_then o (λ z. go z rest)) (i Key.other ∙ ap (step_key s) (key_if_lem (tag_name? t) (a_name t) h))

front_name : {fs : List TextToken} {f : Option TextProgram} → BracesAre first fs f → (t : List ℕ) (h : Head) (rest : List TextToken) → TagName t → go (defined h) (fs ++ name t ∷ rest) ≡ go (tagged f t h) rest
front_name absent t h rest n = name_step (defined h) t rest (λ k. refl) n
front_name (braces {ts = ts} {p = p} l) t h rest n =
    ap (go (own_front list_start h)) (append_assoc ts (sign UNBRACE ∷ []) (name t ∷ rest))
    ∙ braces_walk step_rules first (λ q. own_front q h) (λ p. wants_tag (some p) h) (λ q u. refl) l (name t ∷ rest)
    ∙ name_step (wants_tag (some p) h) t rest (λ k. refl) n

nonterminal_key : (n : ℕ) → n < nonterminals → key_of (nonterminal n) ≡ a_nonterminal n
nonterminal_key n i = key_if_lem (nonterminal? n) (a_nonterminal n) i

back_end : {gs : List TextToken} {g : Option TextProgram} → BracesAre second gs g → (f : Option TextProgram) (t : List ℕ) (e : Option Tree) (h : Head) (rest : List TextToken)
    → (s : Progress) × (go (closed f t e h) (gs ++ rest) ≡ go s rest) × RuleEnd s h (rule_read f g t e h)
back_end absent f t e h rest = (closed f t e h, refl, record { value_is = refl; goes_on = λ n i. ap (step_key (closed f t e h)) (nonterminal_key n i) })
back_end (braces {ts = ts} {p = p} l) f t e h rest = (
  complete (rule_read f (some p) t e h) h,
  ap (go (own_back list_start f t e h)) (append_assoc ts (sign UNBRACE ∷ []) rest)
      ∙ braces_walk step_rules second (λ q. own_back q f t e h) (λ p. complete (rule_read f (some p) t e h) h) (λ q u. refl) l rest,
  record { value_is = refl; goes_on = λ n i. ap (step_key (complete (rule_read f (some p) t e h) h)) (nonterminal_key n i) },
)

-- a state that takes a production's nonterminal and its ::=
abbrev Enters : Progress → ℕ → List TextRule → ℕ → Type 0
Enters s start earlier n = n < nonterminals → (rest : List TextToken) → go s (nonterminal n ∷ sign DEFINED ∷ rest) ≡ go (defined (head start earlier n)) rest

production_walk : {ts : List TextToken} {r : TextRule} → RuleIs ts r → (s : Progress) (start : ℕ) (earlier : List TextRule) (rest : List TextToken) → Enters s start earlier r.nonterminal
    → (z : Progress) × (go s (ts ++ rest) ≡ go z rest) × RuleEnd z (head start earlier r.nonterminal) r
production_walk (production {n = n} {tag = t} {fs = fs} {ts = ts} {gs = gs} {before = f} {e = e} i fb tn c gb) s start earlier rest enter =
    let h = head start earlier n in
    let b = back_end gb f t e h rest in (
      b.0,
      enter i ((fs ++ name t ∷ sign OPEN ∷ (ts ++ sign CLOSE ∷ gs)) ++ rest)
          ∙ ap (go (defined h)) (append_assoc fs (name t ∷ sign OPEN ∷ (ts ++ sign CLOSE ∷ gs)) rest)
          ∙ front_name fb t h (sign OPEN ∷ ((ts ++ sign CLOSE ∷ gs) ++ rest)) tn
          ∙ ap (go (within (Parsing.wants true fresh_expression []) f t h)) (append_assoc ts (sign CLOSE ∷ gs) rest)
          ∙ content_close c f t h (gs ++ rest)
          ∙ b.1,
      b.2,
    )

enters_next : (s : Progress) (h : Head) (r : TextRule) (n : ℕ) → RuleEnd s h r → Enters s h.start (h.earlier ++ r ∷ []) n
enters_next s h r n e = λ i rest. ap (λ o. and_then o (λ z. go z (sign DEFINED ∷ rest))) (e.goes_on n i)

no_empty : {ts : List TextToken} {rs : List TextRule} → ProductionsAre ts rs → rs ≡ [] → ⊥
no_empty (one x) e = let z : ◌≡◌ {A = ℕ} 0 1 = cc in omega arith
no_empty (more x y) e = let z : ◌≡◌ {A = ℕ} 0 1 = cc in omega arith

productions_walk : {ts : List TextToken} {r : TextRule} {rs : List TextRule} → ProductionsAre ts (r ∷ rs) → (s : Progress) (start : ℕ) (earlier : List TextRule) → Enters s start earlier r.nonterminal
    → (z : Progress) × (go s ts ≡ some z) × (value_of_rules z ≡ some (record { start = start; productions = earlier ++ r ∷ rs }))
productions_walk {ts} {r} (one p) s start earlier enter =
    let w = production_walk p s start earlier [] enter in
    (w.0, rw append-nil at w.1, w.2.value_is)
productions_walk (more {us = us} {r = r} {rs = q ∷ rs} p ps) s start earlier enter =
    let w = production_walk p s start earlier us enter in
    let v = productions_walk ps w.0 start (earlier ++ r ∷ []) (enters_next w.0 (head start earlier r.nonterminal) r q.nonterminal w.2) in
    (v.0, w.1 ∙ v.1, v.2 ∙ ap (λ x. some (record { start = start; productions = x })) (append_assoc earlier (r ∷ []) (q ∷ rs)))
productions_walk (more {us = us} {r = r} {rs = []} p ps) s start earlier enter = absurd (no_empty ps refl)

first_step : (n : ℕ) → n < nonterminals → step_rules beginning (nonterminal n) ≡ some (first_word n)
first_step n i = ap (step_key beginning) (nonterminal_key n i)

pub ends : (ts : List TextToken) (r : Rules) → RulesAre ts r → Ends rules ts r
ends ts r (start_alone {n = n} {ts = us} {rs = q ∷ rs} i ps) =
    let w = productions_walk ps (first_word n) n [] (λ j rest. ap (λ k. and_then (step_key (first_word n) k) (λ z. go z (sign DEFINED ∷ rest))) (nonterminal_key q.nonterminal j)) in
    record { last = w.0; walked = ap (λ o. and_then o (λ z. go z us)) (first_step n i) ∙ w.1; told = w.2 }
ends ts r (start_alone {n = n} {ts = us} {rs = []} i ps) = absurd (no_empty ps refl)
ends ts r (start_first {r = q} ps) =
    let w = productions_walk ps beginning q.nonterminal [] (λ j rest. ap (λ o. and_then o (λ z. go z (sign DEFINED ∷ rest))) (first_step q.nonterminal j)) in
    record { last = w.0; walked = w.1; told = w.2 }
