-- A row put behind the others: it is none of them, it is the last one then, and all are different still. Assumes nothing.
use mathlib.Core.Path.{◌≡◌, refl, sym, ap, ap₂, subst, ◌∙◌}
use mathlib.Core.Bool.{Bool, true, false, cond, ◌||◌}
use mathlib.Core.List.{List, [], ◌∷◌, ◌++◌, append-nil, append_assoc}
use Prim.Native.Nat.{ℕ, suc, ◌+◌, ◌≤◌, ◌<◌}
use native.Mathlib.Omega.{arith}
use lib.ListN.{length, get_or, take, drop, set, length-append}
use lib.Seq.{take-append_seam, set_split}
use Rattle.std.proofs.Common.{length-take-le}
use Rattle.std.proofs.lemmas.List.{get_or-take}
use Rattle.encoding.specs.Distinct.{equal, has, AllDifferent, place_of, offset_of, run_together}
use Rattle.encoding.proofs.Stored.{equal_true, equal_same, place_below}
use Rattle.stores.specs.Rows.{ends_from, RowsIn, HasRows}

-- a place below their number is a row's own
pub had_below : (l : List (List ℕ)) (x : List ℕ) → place_of l x < length l → has l x ≡ true
had_below [] x h = absurd (omega arith)
had_below (y ∷ l) x h = on (equal x y) h (λ f. had_below l x f)
  where
    on : (b : Bool) → cond b 0 (suc (place_of l x)) < suc (length l) → (place_of l x < length l → has l x ≡ true) → b || has l x ≡ true
    on true h ih = refl
    on false h ih = ih (omega arith)

pub new_beyond : (l : List (List ℕ)) (x : List ℕ) → length l ≤ place_of l x → has l x ≡ false
new_beyond l x h = on (has l x) refl
  where
    on : (b : Bool) → has l x ≡ b → b ≡ false
    on true e = absurd (omega (arith, place_below l x e))
    on false e = refl

neither : (a b : Bool) → a || b ≡ false → (a ≡ false) × (b ≡ false)
neither true b e = absurd (let z : ◌≡◌ {A = ℕ} 0 1 = cc in omega arith)
neither false b e = (refl, e)

pub new_place : (l m : List (List ℕ)) (x : List ℕ) → has l x ≡ false → place_of (l ++ m) x ≡ length l + place_of m x
new_place [] m x e = omega arith
new_place (y ∷ l) m x e =
    let p = neither (equal x y) (has l x) e in
    ap (λ (b : Bool). cond b 0 (suc (place_of (l ++ m) x))) p.0 ∙ (let k = new_place l m x p.1 in omega (arith, k))

pub new_offset : (l m : List (List ℕ)) (x : List ℕ) → has l x ≡ false → offset_of (l ++ m) x ≡ length (run_together l) + offset_of m x
new_offset [] m x e = omega arith
new_offset (y ∷ l) m x e =
    let p = neither (equal x y) (has l x) e in
    ap (λ (b : Bool). cond b 0 (length y + offset_of (l ++ m) x)) p.0 ∙ (let k = new_offset l m x p.1 in omega (arith, k, length-append y (run_together l)))

-- of the row alone, both are 0
first_place : (x : List ℕ) → place_of (x ∷ []) x ≡ 0
first_place x = ap (λ (b : Bool). cond b 0 1) (equal_same x)

first_offset : (x : List ℕ) → offset_of (x ∷ []) x ≡ 0
first_offset x = ap (λ (b : Bool). cond b 0 (length x + 0)) (equal_same x)

pub last_place : (l : List (List ℕ)) (x : List ℕ) → has l x ≡ false → place_of (l ++ x ∷ []) x ≡ length l
last_place l x e = omega (arith, new_place l (x ∷ []) x e, first_place x)

pub last_offset : (l : List (List ℕ)) (x : List ℕ) → has l x ≡ false → offset_of (l ++ x ∷ []) x ≡ length (run_together l)
last_offset l x e = omega (arith, new_offset l (x ∷ []) x e, first_offset x)

pub past_offset : (l : List (List ℕ)) (x : List ℕ) → has l x ≡ false → offset_of l x ≡ length (run_together l)
past_offset l x e = ap (λ (z : List (List ℕ)). offset_of z x) (sym (append-nil l)) ∙ (let k = new_offset l [] x e in omega (arith, k))

pub together : (l m : List (List ℕ)) → run_together (l ++ m) ≡ run_together l ++ run_together m
together [] m = refl
together (y ∷ l) m = ap (λ (z : List ℕ). y ++ z) (together l m) ∙ sym (append_assoc y (run_together l) (run_together m))

ends_on : (at : ℕ) (l : List (List ℕ)) (x : List ℕ) → ends_from at (l ++ x ∷ []) ≡ ends_from at l ++ (at + length (run_together l) + length x) ∷ []
ends_on at [] x = let k : at + length x ≡ at + 0 + length x = omega arith in ap (λ (n : ℕ). n ∷ []) k
ends_on at (y ∷ l) x =
    let k : at + length y + length (run_together l) + length x ≡ at + length (y ++ run_together l) + length x = omega (arith, length-append y (run_together l)) in
    ap (λ (z : List ℕ). (at + length y) ∷ z) (ends_on (at + length y) l x ∙ ap (λ (n : ℕ). ends_from (at + length y) l ++ n ∷ []) k)

ends_number : (at : ℕ) (l : List (List ℕ)) → length (ends_from at l) ≡ length l
ends_number at [] = refl
ends_number at (y ∷ l) = ap suc (ends_number (at + length y) l)

-- each row has its end
pub ends_enough : (bytes ends : List ℕ) (count : ℕ) → HasRows bytes ends count → count ≤ length ends
ends_enough bytes ends count h =
    let l = h.rows in
    omega (arith, h.are.number, ap length h.are.ends_are, length-append (ends_from 0 l) h.are.free_ends, ends_number 0 l)

pub ends_counted : (bytes ends : List ℕ) (count : ℕ) → HasRows bytes ends count → length (take count ends) ≡ count
ends_counted bytes ends count h = length-take-le count ends (ends_enough bytes ends count h)

-- an end that is read among the first is the store's
pub end_read : (bytes ends : List ℕ) (count i : ℕ) → HasRows bytes ends count → i < length (take count ends) → (i < count) × (get_or (take count ends) i 0 ≡ get_or ends i 0)
end_read bytes ends count i h s =
    let k : i < count = omega (arith, ends_counted bytes ends count h) in
    (k, get_or-take count ends i 0 k)

-- all are different still
turned_about : (x y : List ℕ) → equal x y ≡ false → equal y x ≡ false
turned_about x y e = on (equal y x) refl
  where
    on : (b : Bool) → equal y x ≡ b → b ≡ false
    on true f = let same : y ≡ x = equal_true y x f in absurd (let g = subst (λ (z : List ℕ). equal z y ≡ true) same (equal_same y) in let z : ◌≡◌ {A = ℕ} 0 1 = cc in omega arith)
    on false f = refl

new_in : (l : List (List ℕ)) (x y : List ℕ) → has l y ≡ false → equal y x ≡ false → has (l ++ x ∷ []) y ≡ false
new_in [] x y e f = ap (λ (b : Bool). b || false) f
new_in (z ∷ l) x y e f =
    let p = neither (equal y z) (has l y) e in
    ap₂ (λ (a b : Bool). a || b) p.0 (new_in l x y p.1 f)

different_still : (l : List (List ℕ)) (x : List ℕ) → AllDifferent l → has l x ≡ false → AllDifferent (l ++ x ∷ [])
different_still [] x d e = (refl, tt)
different_still (y ∷ l) x d e =
    let p = neither (equal x y) (has l x) e in
    (new_in l x y d.0 (turned_about x y p.0), different_still l x d.1 p.1)

-- the store with the row behind the others
pub rows_with : (bytes ends : List ℕ) (count : ℕ) (l : List (List ℕ)) (x : List ℕ) (o : ℕ) → RowsIn bytes ends count l → has l x ≡ false → o ≡ length (run_together l) → count < length ends →
    RowsIn (take o bytes ++ x ++ drop (o + length x) bytes) (set ends count (o + length x)) (count + 1) (l ++ x ∷ [])
rows_with bytes ends count l x o h new at room =
    let front : take o bytes ≡ run_together l = ap₂ (λ (n : ℕ) (z : List ℕ). take n z) at h.bytes_are ∙ take-append_seam (run_together l) h.free_bytes in
    let rest : List ℕ = drop (o + length x) bytes in
    let number : count ≡ length (ends_from 0 l) = h.number ∙ sym (ends_number 0 l) in
    let before : take count ends ≡ ends_from 0 l = ap₂ (λ (n : ℕ) (z : List ℕ). take n z) number h.ends_are ∙ take-append_seam (ends_from 0 l) h.free_ends in
    let end : o + length x ≡ 0 + length (run_together l) + length x = omega (arith, at) in
    record {
      free_bytes = rest;
      bytes_are = ap (λ (z : List ℕ). z ++ x ++ rest) front
          ∙ ap (λ (z : List ℕ). z ++ rest) (ap (λ (z : List ℕ). run_together l ++ z) (sym (append-nil x)) ∙ sym (together l (x ∷ [])));
      free_ends = drop (suc count) ends;
      ends_are = set_split ends count (o + length x) room ∙ ap₂ (λ (z : List ℕ) (n : ℕ). z ++ n ∷ drop (suc count) ends) before end
          ∙ sym (append_assoc (ends_from 0 l) ((0 + length (run_together l) + length x) ∷ []) (drop (suc count) ends))
          ∙ ap (λ (z : List ℕ). z ++ drop (suc count) ends) (sym (ends_on 0 l x));
      number = omega (arith, h.number, length-append l (x ∷ []));
      different = different_still l x h.different new;
    }
