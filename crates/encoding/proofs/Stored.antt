-- What is stored once is there: its place is below their number, and its bytes lie at its offset. Assumes nothing.
use mathlib.Core.Path.{◌≡◌, refl, sym, ◌∙◌, ap, subst}
use mathlib.Core.Logic.{◌⊎◌, inl, inr}
use mathlib.Core.Bool.{Bool, true, false, cond, ◌&&◌, ◌||◌}
use mathlib.Core.List.{List, [], ◌∷◌, ◌++◌, append_assoc}
use Prim.Native.Nat.{ℕ, zero, suc, ◌+◌, ◌≤◌, ◌<◌}
use native.Mathlib.Omega.{arith}
use lib.Dec.{eqb}
use lib.ListN.{length, take, drop, length-append}
use lib.Seq.{take-append_seam, drop-append-add}
use borrow.Author.Tests.{eqb-true, eq-eqb}
use Rattle.text.specs.Characters.{WholeCharacters}
use Rattle.programs.specs.Limits.{Printable}
use Rattle.encoding.specs.Distinct.{equal, has, added, distinct, AllDifferent, place_of, offset_of, run_together}

true_or_false : (b : Bool) → (b ≡ true) ⊎ (b ≡ false)
true_or_false true = inl refl
true_or_false false = inr refl

pub and_parts : (a b : Bool) → a && b ≡ true → (a ≡ true) × (b ≡ true)
and_parts true b e = (refl, e)
and_parts false b e = absurd (let z : ◌≡◌ {A = ℕ} 0 1 = cc in omega arith)

pub equal_true : (a b : List ℕ) → equal a b ≡ true → a ≡ b
equal_true [] [] e = refl
equal_true [] (y ∷ b) e = absurd (let z : ◌≡◌ {A = ℕ} 0 1 = cc in omega arith)
equal_true (x ∷ a) [] e = absurd (let z : ◌≡◌ {A = ℕ} 0 1 = cc in omega arith)
equal_true (x ∷ a) (y ∷ b) e =
    let p = and_parts (eqb x y) (equal a b) e in
    let f = eqb-true x y p.0 in
    let g = equal_true a b p.1 in
    cc

pub equal_same : (a : List ℕ) → equal a a ≡ true
equal_same [] = refl
equal_same (x ∷ a) = rw (eq-eqb x x refl) (equal_same a)

pub or_left : (a b : Bool) → a ≡ true → a || b ≡ true
or_left true b e = refl
or_left false b e = absurd (let z : ◌≡◌ {A = ℕ} 0 1 = cc in omega arith)

pub or_right : (a b : Bool) → b ≡ true → a || b ≡ true
or_right true b e = refl
or_right false b e = e

pub or_parts : (a b : Bool) → a || b ≡ true → a ≡ false → b ≡ true
or_parts true b e f = absurd (let z : ◌≡◌ {A = ℕ} 0 1 = cc in omega arith)
or_parts false b e f = e

has_left : (a b : List (List ℕ)) (x : List ℕ) → has a x ≡ true → has (a ++ b) x ≡ true
has_left [] b x e = absurd (let z : ◌≡◌ {A = ℕ} 0 1 = cc in omega arith)
has_left (y ∷ a) b x e = on (λ f. has_left a b x f) (true_or_false (equal x y))
  where
    on : (has a x ≡ true → has (a ++ b) x ≡ true) → (equal x y ≡ true) ⊎ (equal x y ≡ false) → equal x y || has (a ++ b) x ≡ true
    on ih (inl f) = or_left (equal x y) (has (a ++ b) x) f
    on ih (inr f) = or_right (equal x y) (has (a ++ b) x) (ih (or_parts (equal x y) (has a x) e f))

has_at : (a b : List (List ℕ)) (x : List ℕ) → has (a ++ x ∷ b) x ≡ true
has_at [] b x = or_left (equal x x) (has b x) (equal_same x)
has_at (y ∷ a) b x = or_right (equal x y) (has (a ++ x ∷ b) x) (has_at a b x)

-- each of these is there
abbrev pub AllHad : List (List ℕ) → List (List ℕ) → Type 0
AllHad l [] = Unit {0}
AllHad l (x ∷ xs) = (has l x ≡ true) × AllHad l xs

added_all : (seen l : List (List ℕ)) → AllHad (seen ++ added seen l) l
added_all seen [] = tt
added_all seen (x ∷ l) = on (has seen x) refl (added_all seen l) (added_all (seen ++ x ∷ []) l)
  where
    on : (b : Bool) → has seen x ≡ b → AllHad (seen ++ added seen l) l → AllHad ((seen ++ x ∷ []) ++ added (seen ++ x ∷ []) l) l
        → AllHad (seen ++ cond b (added seen l) (x ∷ added (seen ++ x ∷ []) l)) (x ∷ l)
    on true e h k = (has_left seen (added seen l) x e, h)
    on false e h k = (has_at seen (added (seen ++ x ∷ []) l) x, subst (λ z. AllHad z l) (append_assoc seen (x ∷ []) (added (seen ++ x ∷ []) l)) k)

pub distinct_all : (l : List (List ℕ)) → AllHad (distinct l) l
distinct_all l = added_all [] l

-- what was seen is not added again, so no two are equal
seen_not_added : (seen l : List (List ℕ)) (y : List ℕ) → has seen y ≡ true → has (added seen l) y ≡ false
seen_not_added seen [] y h = refl
seen_not_added seen (x ∷ l) y h = on (has seen x) refl (seen_not_added seen l y h) (seen_not_added (seen ++ x ∷ []) l y (has_left seen (x ∷ []) y h))
  where
    apart : has seen x ≡ false → (equal y x ≡ true) ⊎ (equal y x ≡ false) → equal y x ≡ false
    apart e (inl f) = let same : y ≡ x = equal_true y x f in absurd (let g = subst (λ z. has seen z ≡ true) same h in let z : ◌≡◌ {A = ℕ} 0 1 = cc in omega arith)
    apart e (inr f) = f

    on : (b : Bool) → has seen x ≡ b → has (added seen l) y ≡ false → has (added (seen ++ x ∷ []) l) y ≡ false → has (cond b (added seen l) (x ∷ added (seen ++ x ∷ []) l)) y ≡ false
    on true e i j = i
    on false e i j = rw (apart e (true_or_false (equal y x)), j) refl

pub added_different : (seen l : List (List ℕ)) → AllDifferent (added seen l)
added_different seen [] = tt
added_different seen (x ∷ l) = on (has seen x) (added_different seen l) (added_different (seen ++ x ∷ []) l)
  where
    on : (b : Bool) → AllDifferent (added seen l) → AllDifferent (added (seen ++ x ∷ []) l) → AllDifferent (cond b (added seen l) (x ∷ added (seen ++ x ∷ []) l))
    on true h k = h
    on false h k = (seen_not_added (seen ++ x ∷ []) l x (has_at seen [] x), k)

pub place_below : (l : List (List ℕ)) (x : List ℕ) → has l x ≡ true → place_of l x < length l
place_below [] x e = absurd (let z : ◌≡◌ {A = ℕ} 0 1 = cc in omega arith)
place_below (y ∷ l) x e = on (equal x y) refl (λ f. place_below l x (or_parts (equal x y) (has l x) e f))
  where
    on : (b : Bool) → equal x y ≡ b → (equal x y ≡ false → place_of l x < length l) → cond b 0 (suc (place_of l x)) < suc (length l)
    on true f ih = omega arith
    on false f ih = omega (arith, ih f)

-- its bytes at its offset
pub record Lies (l : List (List ℕ)) (x : List ℕ) (o : ℕ) : Type 0 where
  pub inside : o + length x ≤ length (run_together l)
  pub there : take (length x) (drop o (run_together l)) ≡ x

pub lies : (l : List (List ℕ)) (x : List ℕ) → has l x ≡ true → Lies l x (offset_of l x)
lies [] x e = absurd (let z : ◌≡◌ {A = ℕ} 0 1 = cc in omega arith)
lies (y ∷ l) x e = on (equal x y) refl (λ f. lies l x (or_parts (equal x y) (has l x) e f))
  where
    on : (b : Bool) → equal x y ≡ b → (equal x y ≡ false → Lies l x (offset_of l x)) → Lies (y ∷ l) x (cond b 0 (length y + offset_of l x))
    on true f ih =
        let same : x ≡ y = equal_true x y f in
        record { inside = simp length-append (omega (arith, ap length same)); there = subst (λ z. take (length x) (z ++ run_together l) ≡ x) same (take-append_seam x (run_together l)) }
    on false f ih =
        let h = ih f in
        record { inside = simp length-append (omega (arith, h.inside)); there = ap (take (length x)) (drop-append-add y (run_together l) (offset_of l x)) ∙ h.there }

pub printable : (l : List (List ℕ)) (x : List ℕ) → has l x ≡ true → WholeCharacters x → Printable (run_together l) (offset_of l x) (length x)
printable l x e w = let h = lies l x e in record { inside = h.inside; whole = subst WholeCharacters (sym h.there) w }
