-- Different ones that all lie among others are no more than those, by number or by length. Assumes nothing.
use mathlib.Core.Path.{◌≡◌, refl, sym, ◌∙◌, ap, subst}
use mathlib.Core.Bool.{Bool, true, false, cond, ◌||◌}
use mathlib.Core.List.{List, [], ◌∷◌, ◌++◌}
use Prim.Native.Nat.{ℕ, suc, ◌+◌, ◌≤◌}
use native.Mathlib.Omega.{arith}
use lib.ListN.{length, length-append}
use Rattle.encoding.specs.Distinct.{equal, has, added, distinct, AllDifferent, run_together}
use Rattle.encoding.proofs.Stored.{equal_true, equal_same, or_left, or_right, or_parts, AllHad, added_different}

module _ (weight : List ℕ → ℕ) where
  abbrev pub total : List (List ℕ) → ℕ
  total [] = 0
  total (x ∷ l) = weight x + total l

  -- the others, where one is left out
  record Without (l : List (List ℕ)) (x : List ℕ) : Type 0 where
    others : List (List ℕ)
    weighs : total l ≡ weight x + total others
    still : (y : List ℕ) → has l y ≡ true → equal y x ≡ false → has others y ≡ true

  without : (l : List (List ℕ)) (x : List ℕ) → has l x ≡ true → Without l x
  without [] x e = absurd (let z : ◌≡◌ {A = ℕ} 0 1 = cc in omega arith)
  without (z ∷ l) x e = on (equal x z) refl (λ f. without l x (or_parts (equal x z) (has l x) e f))
    where
      on : (b : Bool) → equal x z ≡ b → (equal x z ≡ false → Without l x) → Without (z ∷ l) x
      on true f ih =
          let same : x ≡ z = equal_true x z f in
          record { others = l; weighs = ap (λ (y : List ℕ). weight y + total l) (sym same); still = λ y h g. or_parts (equal y z) (has l y) h (subst (λ w. equal y w ≡ false) same g) }
      on false f ih =
          let r = ih f in
          record { others = z ∷ r.others; weighs = omega (arith, r.weighs); still = λ y h g. both y h g (equal y z) refl }
        where
          both : (y : List ℕ) → has (z ∷ l) y ≡ true → equal y x ≡ false → (b : Bool) → equal y z ≡ b → has (z ∷ (ih f).others) y ≡ true
          both y h g true i = or_left (equal y z) (has (ih f).others y) i
          both y h g false i = or_right (equal y z) (has (ih f).others y) ((ih f).still y (or_parts (equal y z) (has l y) h i) g)

  pub no_heavier : (xs l : List (List ℕ)) → AllDifferent xs → AllHad l xs → total xs ≤ total l
  no_heavier [] l d h = omega arith
  no_heavier (x ∷ xs) l d h =
      let w = without l x h.0 in
      omega (arith, w.weighs, no_heavier xs w.others d.1 (rest xs d.0 h.1))
    where
      apart : (y : List ℕ) (ys : List (List ℕ)) → has (y ∷ ys) x ≡ false → (equal y x ≡ false) × (has ys x ≡ false)
      apart y ys e = on (equal x y) refl
        where
          turned : (b : Bool) → equal y x ≡ b → equal x y ≡ false → equal y x ≡ false
          turned false f g = f
          turned true f g = absurd (let s : y ≡ x = equal_true y x f in let t = subst (λ z. equal x z ≡ true) (sym s) (equal_same x) in let z : ◌≡◌ {A = ℕ} 0 1 = cc in omega arith)

          on : (b : Bool) → equal x y ≡ b → (equal y x ≡ false) × (has ys x ≡ false)
          on true f = absurd (let t = or_left (equal x y) (has ys x) f in let z : ◌≡◌ {A = ℕ} 0 1 = cc in omega arith)
          on false f = (turned (equal y x) refl f, subst (λ b. b || has ys x ≡ false) f e)

      rest : (ys : List (List ℕ)) → has ys x ≡ false → AllHad l ys → AllHad (without l x h.0).others ys
      rest [] e k = tt
      rest (y ∷ ys) e k = let a = apart y ys e in ((without l x h.0).still y k.0 a.0, rest ys a.1 k.1)

pub one_each : (l : List (List ℕ)) → total (λ x. 1) l ≡ length l
one_each [] = refl
one_each (x ∷ l) = omega (arith, one_each l)

pub by_length : (l : List (List ℕ)) → total length l ≡ length (run_together l)
by_length [] = refl
by_length (x ∷ l) = ap (λ n. length x + n) (by_length l) ∙ sym (length-append x (run_together l))

-- those that are stored once are among those that there were
had_added : (l seen xs : List (List ℕ)) → AllHad l xs → AllHad l (added seen xs)
had_added l seen [] h = tt
had_added l seen (x ∷ xs) h = on (has seen x) (had_added l seen xs h.1) (had_added l (seen ++ x ∷ []) xs h.1)
  where
    on : (b : Bool) → AllHad l (added seen xs) → AllHad l (added (seen ++ x ∷ []) xs) → AllHad l (cond b (added seen xs) (x ∷ added (seen ++ x ∷ []) xs))
    on true i j = i
    on false i j = (h.0, j)

pub few_distinct : (l xs : List (List ℕ)) → AllHad l xs → length (distinct xs) ≤ length l
few_distinct l xs h = omega (arith, one_each (distinct xs), one_each l, no_heavier (λ x. 1) (distinct xs) l (added_different [] xs) (had_added l [] xs h))

pub short_distinct : (l xs : List (List ℕ)) → AllHad l xs → length (run_together (distinct xs)) ≤ length (run_together l)
short_distinct l xs h = omega (arith, by_length (distinct xs), by_length l, no_heavier length (distinct xs) l (added_different [] xs) (had_added l [] xs h))
