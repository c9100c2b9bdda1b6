-- Where more parentheses may be open the machine takes what it took, and goes to the same state. Assumes nothing.
use mathlib.Core.Path.{◌≡◌, refl, sym, ◌∙◌, ap, subst}
use mathlib.Core.Logic.{◌⊎◌, inl, inr}
use mathlib.Core.Bool.{Bool, true, false, cond}
use mathlib.Core.Option.{Option, none, some}
use mathlib.Core.List.{List, [], ◌∷◌}
use Prim.Native.Nat.{ℕ, suc, ◌+◌, ◌≤◌, ◌<◌}
use native.Mathlib.Omega.{arith}
use lib.Dec.{eqb, ltb}
use lib.ListN.{length}
use borrow.Author.Tests.{lt-ltb, ltb-true}
use Rattle.text.specs.Names.{name_first, blank}
use Rattle.reading.specs.Machine.{and_then, walk}
use Rattle.reading.proofs.Telling.{none≢some, cases, IfSome}
use Rattle.models.specs.Models.{Declaration}
use Rattle.models.specs.Reader.{LeftOf, fresh, Phase, opening, naming, named, contents, emptying, inside, hashing, mixing, barred, mixed_name, mixed_closed, wants, in_name, marking, after, group_closed, ended, Move, to, over, only_if_true, step_item, step_phase, DtdProgress, outside, within, moved_by, step_declarations}

-- what the one takes the other takes, to the same
abbrev Too : {S : Type 0} → Option S → Option S → Type 0
Too o o' = IfSome (λ m. o' ≡ some m) o

itself : {S : Type 0} (o : Option S) → Too o o
itself none = tt
itself (some m) = refl

past : (t : Bool) (a o o' : Option Move) → Too o o' → Too (cond t a o) (cond t a o')
past true a o o' h = itself a
past false a o o' h = h

-- how many are open where one more may be
abbrev open_in : Phase → ℕ
open_in (opening rest) = 0
open_in naming = 0
open_in (named n) = 0
open_in (contents n) = 0
open_in (emptying n rest) = 0
open_in (inside n) = 1
open_in (hashing n rest) = 0
open_in (mixing n names) = 0
open_in (barred n names) = 0
open_in (mixed_name n names m) = 0
open_in (mixed_closed n names) = 0
open_in (wants n l ls) = suc (length ls)
open_in (in_name n m l ls) = 0
open_in (marking n x l ls) = 0
open_in (after n x l ls) = 0
open_in (group_closed n x) = 0
open_in (ended n c) = 0

abbrev pub open_around : DtdProgress → ℕ
open_around (outside ds) = 0
open_around (within ds q) = open_in q

module _ (p p' : ℕ) where
  abbrev Allows : ℕ → Type 0
  Allows k = k < p → k < p'

  item_too : (n : List ℕ) (l : LeftOf) (ls : List LeftOf) (b : ℕ) → Allows (suc (length ls)) → Too (step_item p n l ls b) (step_item p' n l ls b)
  item_too n l ls b h = on (name_first b) (eqb b 40) (ltb (suc (length ls)) p) (ltb (suc (length ls)) p') (λ e. lt-ltb (suc (length ls)) p' (h (ltb-true (suc (length ls)) p e)))
    where
      on : (t u v w : Bool) → (v ≡ true → w ≡ true)
          → Too (cond t (some (to (in_name n (b ∷ []) l ls))) (cond u (only_if_true v (wants n fresh (l ∷ ls))) none)) (cond t (some (to (in_name n (b ∷ []) l ls))) (cond u (only_if_true w (wants n fresh (l ∷ ls))) none))
      on true u v w k = refl
      on false true true w k = ap (λ x. only_if_true x (wants n fresh (l ∷ ls))) (k refl)
      on false true false w k = tt
      on false false v w k = tt

  phase_too : (q : Phase) (b : ℕ) → Allows (open_in q) → Too (step_phase p q b) (step_phase p' q b)
  phase_too (opening []) b h = itself (step_phase p (opening []) b)
  phase_too (opening (c ∷ rest)) b h = itself (step_phase p (opening (c ∷ rest)) b)
  phase_too naming b h = itself (step_phase p naming b)
  phase_too (named n) b h = itself (step_phase p (named n) b)
  phase_too (contents n) b h = itself (step_phase p (contents n) b)
  phase_too (emptying n []) b h = itself (step_phase p (emptying n []) b)
  phase_too (emptying n (c ∷ rest)) b h = itself (step_phase p (emptying n (c ∷ rest)) b)
  phase_too (inside n) b h =
      let hash = some (to (hashing n (80 ∷ 67 ∷ 68 ∷ 65 ∷ 84 ∷ 65 ∷ []))) in
      past (blank b) (some (to (inside n))) (cond (eqb b 35) hash (step_item p n fresh [] b)) (cond (eqb b 35) hash (step_item p' n fresh [] b))
      (past (eqb b 35) hash (step_item p n fresh [] b) (step_item p' n fresh [] b) (item_too n fresh [] b h))
  phase_too (hashing n []) b h = itself (step_phase p (hashing n []) b)
  phase_too (hashing n (c ∷ rest)) b h = itself (step_phase p (hashing n (c ∷ rest)) b)
  phase_too (mixing n names) b h = itself (step_phase p (mixing n names) b)
  phase_too (barred n names) b h = itself (step_phase p (barred n names) b)
  phase_too (mixed_name n names m) b h = itself (step_phase p (mixed_name n names m) b)
  phase_too (mixed_closed n names) b h = itself (step_phase p (mixed_closed n names) b)
  phase_too (wants n l ls) b h = past (blank b) (some (to (wants n l ls))) (step_item p n l ls b) (step_item p' n l ls b) (item_too n l ls b h)
  phase_too (in_name n m l ls) b h = itself (step_phase p (in_name n m l ls) b)
  phase_too (marking n x l ls) b h = itself (step_phase p (marking n x l ls) b)
  phase_too (after n x l ls) b h = itself (step_phase p (after n x l ls) b)
  phase_too (group_closed n x) b h = itself (step_phase p (group_closed n x) b)
  phase_too (ended n c) b h = itself (step_phase p (ended n c) b)

  moved_too : (ds : List Declaration) (o o' : Option Move) → Too o o' → Too (moved_by ds o) (moved_by ds o')
  moved_too ds none o' h = tt
  moved_too ds (some (to q)) o' h = ap (moved_by ds) h
  moved_too ds (some (over d)) o' h = ap (moved_by ds) h

  step_too : (s : DtdProgress) (b : ℕ) → Allows (open_around s) → Too (step_declarations p s b) (step_declarations p' s b)
  step_too (outside ds) b h = itself (step_declarations p (outside ds) b)
  step_too (within ds q) b h = moved_too ds (step_phase p q b) (step_phase p' q b) (phase_too q b h)

  takes_too : (s s' : DtdProgress) (b : ℕ) → Allows (open_around s) → step_declarations p s b ≡ some s' → step_declarations p' s b ≡ some s'
  takes_too s s' b h e = subst (λ o. Too o (step_declarations p' s b)) e (step_too s b h)

  pub more_open : p ≤ p' → (s s' : DtdProgress) (b : ℕ) → step_declarations p s b ≡ some s' → step_declarations p' s b ≡ some s'
  more_open h s s' b e = takes_too s s' b (λ k. omega (arith, k, h)) e

  pub walk_more : p ≤ p' → (s t : DtdProgress) (w : List ℕ) → walk (step_declarations p) s w ≡ some t → walk (step_declarations p') s w ≡ some t
  walk_more h s t [] e = e
  walk_more h s t (b ∷ w) e = go (λ s'. walk_more h s' t w) (cases (step_declarations p s b))
    where
      go : ((s' : DtdProgress) → walk (step_declarations p) s' w ≡ some t → walk (step_declarations p') s' w ≡ some t) → (step_declarations p s b ≡ none) ⊎ ((s' : DtdProgress) × (step_declarations p s b ≡ some s'))
          → walk (step_declarations p') s (b ∷ w) ≡ some t
      go ih (inl f) = absurd (none≢some (ap (λ o. and_then o (λ z. walk (step_declarations p) z w)) f) e)
      go ih (inr (s', f)) =
          ap (λ o. and_then o (λ z. walk (step_declarations p') z w)) (more_open h s s' b f) ∙ ih s' (sym (ap (λ o. and_then o (λ z. walk (step_declarations p) z w)) f) ∙ e)

-- what is not taken where one more may be open than are is never taken
pub never : (s : DtdProgress) (b : ℕ) → step_declarations (suc (open_around s)) s b ≡ none → (p : ℕ) → step_declarations p s b ≡ none
never s b h p = on (cases (step_declarations p s b))
  where
    on : (step_declarations p s b ≡ none) ⊎ ((s' : DtdProgress) × (step_declarations p s b ≡ some s')) → step_declarations p s b ≡ none
    on (inl e) = e
    on (inr (s', e)) = absurd (none≢some h (takes_too p (suc (open_around s)) s s' b (λ k. omega arith) e))

pub one_state : (p q b : ℕ) (s t t' : DtdProgress) → step_declarations p s b ≡ some t → step_declarations q s b ≡ some t' → t ≡ t'
one_state p q b s t t' e f =
    let x = more_open p (p + q) (omega arith) s t b e in
    let y = more_open q (p + q) (omega arith) s t' b f in
    let same : ◌≡◌ {A = Option DtdProgress} (some t) (some t') = sym x ∙ y in
    cc
