-- The tag of a name is the tag that has the name; and a character that a reference stands for does what it does as a literal one.
-- Assumes nothing.
use mathlib.Core.Path.{◌≡◌, refl, sym, ap, ap₂, ◌∙◌}
use mathlib.Core.Bool.{Bool, true, false, ◌&&◌}
use mathlib.Core.List.{List, [], ◌∷◌}
use mathlib.Core.Option.{Option, none, some}
use Prim.Native.Nat.{ℕ, zero, suc, ◌<◌}
use native.Mathlib.Omega.{arith}
use lib.Dec.{eqb}
use lib.ListN.{length}
use borrow.Author.Tests.{eqb-true, eq-eqb}
use Rattle.tokens.specs.Tokens.{Ref, amp, lt, gt, apos, quot, stands}
use Rattle.sheet.specs.Sheet.{Sheet}
use Rattle.runs.specs.Execute.{name_of}
use Rattle.runs.specs.Lookup.{or_later}
use Rattle.runs.specs.Machine.{Configuration}
use Rattle.runs.specs.Spells.{literal, reference, step_token}
use Rattle.calls.specs.Names.{same_name, tag_named}

same_is : (n m : List ℕ) → same_name n m ≡ true → n ≡ m
same_is [] [] e = refl
same_is [] (y ∷ m) e = absurd (let z : ◌≡◌ {A = ℕ} 0 1 = cc in omega arith)
same_is (x ∷ n) [] e = absurd (let z : ◌≡◌ {A = ℕ} 0 1 = cc in omega arith)
same_is (x ∷ n) (y ∷ m) e = by (same_is n m) (eqb x y) refl e
  where
    by : (same_name n m ≡ true → n ≡ m) → (b : Bool) → eqb x y ≡ b → b && same_name n m ≡ true → x ∷ n ≡ y ∷ m
    by f true h e = ap₂ (λ (z : ℕ) (l : List ℕ). z ∷ l) (eqb-true x y h) (f e)
    by f false h e = absurd (let z : ◌≡◌ {A = ℕ} 0 1 = cc in omega arith)

same_self : (n : List ℕ) → same_name n n ≡ true
same_self [] = refl
same_self (x ∷ n) = ap₂ (λ (b c : Bool). b && c) (eq-eqb x x refl) (same_self n)

-- the tag that is named is one of the sheet's, and has the name
pub named_is : (ns : List (List ℕ)) (n : List ℕ) (t : ℕ) → tag_named ns n ≡ some t → (t < length ns) × (name_of ns t ≡ n)
named_is [] n t e = absurd (let z : ◌≡◌ {A = ℕ} 0 1 = cc in omega arith)
named_is (m ∷ ms) n t e = by (λ u h. named_is ms n u h) (same_name m n) refl e
  where
    later : ((u : ℕ) → tag_named ms n ≡ some u → (u < length ms) × (name_of ms u ≡ n)) → (o : Option ℕ) → tag_named ms n ≡ o → or_later false o ≡ some t → (t < length (m ∷ ms)) × (name_of (m ∷ ms) t ≡ n)
    later f none h e = absurd (let z : ◌≡◌ {A = ℕ} 0 1 = cc in omega arith)
    later f (some u) h e =
        let q : suc u ≡ t = cc in
        let i = f u h in
        (omega (arith, i.0), ap (name_of (m ∷ ms)) (sym q) ∙ i.1)

    by : ((u : ℕ) → tag_named ms n ≡ some u → (u < length ms) × (name_of ms u ≡ n)) → (b : Bool) → same_name m n ≡ b → or_later b (tag_named ms n) ≡ some t → (t < length (m ∷ ms)) × (name_of (m ∷ ms) t ≡ n)
    by f true h e = let q : 0 ≡ t = cc in (omega arith, ap (name_of (m ∷ ms)) (sym q) ∙ same_is m n h)
    by f false h e = later f (tag_named ms n) refl e

-- where none is named, no tag has the name
pub none_named : (ns : List (List ℕ)) (n : List ℕ) → tag_named ns n ≡ none → (t : ℕ) → t < length ns → name_of ns t ≡ n → ⊥
none_named [] n e t h q = omega arith
none_named (m ∷ ms) n e t h q = by (λ i u. none_named ms n i u) (same_name m n) refl e t h q
  where
    later : (o : Option ℕ) → tag_named ms n ≡ o → or_later false o ≡ none → tag_named ms n ≡ none
    later none h e = h
    later (some u) h e = absurd (let z : ◌≡◌ {A = ℕ} 0 1 = cc in omega arith)

    by : (tag_named ms n ≡ none → (u : ℕ) → u < length ms → name_of ms u ≡ n → ⊥) → (b : Bool) → same_name m n ≡ b → or_later b (tag_named ms n) ≡ none → (t : ℕ) → t < length (m ∷ ms) → name_of (m ∷ ms) t ≡ n → ⊥
    by f true i e t h q = let z : ◌≡◌ {A = ℕ} 0 1 = cc in omega arith
    by f false i e zero h q = let w : same_name m n ≡ true = ap (same_name m) (sym q) ∙ same_self m in let z : ◌≡◌ {A = ℕ} 0 1 = cc in omega arith
    by f false i e (suc t) h q = f (later (tag_named ms n) refl e) t (omega arith) q

pub reference_is : (a : Sheet) (z : Configuration) (x : Ref) → step_token a z (reference (stands x)) ≡ step_token a z (literal (stands x))
reference_is a z amp = refl
reference_is a z lt = refl
reference_is a z gt = refl
reference_is a z apos = refl
reference_is a z quot = refl
