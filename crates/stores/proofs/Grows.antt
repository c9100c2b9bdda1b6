-- A store of one row more, and where its rows stay. Assumes nothing.
use mathlib.Core.Path.{◌≡◌, refl, sym, ◌∙◌, ap}
use mathlib.Core.Bool.{Bool, true, false, cond}
use mathlib.Core.List.{List, [], ◌∷◌, ◌++◌, append-nil, append_assoc}
use Prim.Native.Nat.{ℕ, suc, ◌+◌}
use native.Mathlib.Omega.{arith}
use lib.ListN.{length}
use Rattle.encoding.specs.Distinct.{equal, has, added, distinct, place_of, offset_of}
use Rattle.encoding.proofs.Stored.{or_parts}
use Rattle.stores.specs.Promises.{GrowsBehind, GrowsByOne, PlacesStay, OffsetsStay}

grown : (seen l more : List (List ℕ)) → added seen (l ++ more) ≡ added seen l ++ added (seen ++ added seen l) more
grown seen [] more = ap (λ (z : List (List ℕ)). added z more) (sym (append-nil seen))
grown seen (y ∷ l) more = on (has seen y) (grown seen l more) (grown (seen ++ y ∷ []) l more)
  where
    on : (b : Bool) → added seen (l ++ more) ≡ added seen l ++ added (seen ++ added seen l) more
        → added (seen ++ y ∷ []) (l ++ more) ≡ added (seen ++ y ∷ []) l ++ added ((seen ++ y ∷ []) ++ added (seen ++ y ∷ []) l) more
        → cond b (added seen (l ++ more)) (y ∷ added (seen ++ y ∷ []) (l ++ more))
        ≡ cond b (added seen l) (y ∷ added (seen ++ y ∷ []) l) ++ added (seen ++ cond b (added seen l) (y ∷ added (seen ++ y ∷ []) l)) more
    on true h k = h
    on false h k =
        let m : List (List ℕ) = added (seen ++ y ∷ []) l in
        ap (λ (z : List (List ℕ)). y ∷ z) (k ∙ ap (λ (z : List (List ℕ)). m ++ added z more) (append_assoc seen (y ∷ []) m))

pub grows_behind : GrowsBehind
grows_behind l more = grown [] l more

pub grows_by_one : GrowsByOne
grows_by_one l x = grows_behind l (x ∷ []) ∙ on (has (distinct l) x)
  where
    on : (b : Bool) → distinct l ++ cond b [] (x ∷ []) ≡ cond b (distinct l) (distinct l ++ x ∷ [])
    on true = append-nil (distinct l)
    on false = refl

pub places_stay : PlacesStay
places_stay [] more x e = absurd (let z : ◌≡◌ {A = ℕ} 0 1 = cc in omega arith)
places_stay (y ∷ l) more x e = on (equal x y) refl (λ f. places_stay l more x (or_parts (equal x y) (has l x) e f))
  where
    on : (b : Bool) → equal x y ≡ b → (equal x y ≡ false → place_of (l ++ more) x ≡ place_of l x) → cond b 0 (suc (place_of (l ++ more) x)) ≡ cond b 0 (suc (place_of l x))
    on true f ih = refl
    on false f ih = ap suc (ih f)

pub offsets_stay : OffsetsStay
offsets_stay [] more x e = absurd (let z : ◌≡◌ {A = ℕ} 0 1 = cc in omega arith)
offsets_stay (y ∷ l) more x e = on (equal x y) refl (λ f. offsets_stay l more x (or_parts (equal x y) (has l x) e f))
  where
    on : (b : Bool) → equal x y ≡ b → (equal x y ≡ false → offset_of (l ++ more) x ≡ offset_of l x) → cond b 0 (length y + offset_of (l ++ more) x) ≡ cond b 0 (length y + offset_of l x)
    on true f ih = refl
    on false f ih = ap (λ (z : ℕ). length y + z) (ih f)
