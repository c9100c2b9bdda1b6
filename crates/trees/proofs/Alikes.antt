-- The cells that count productions alike: one production more raises the cell of its nonterminal and its tag, and no other.
-- Assumes nothing.
use mathlib.Core.Path.{◌≡◌, refl, sym, ◌∙◌, ap}
use mathlib.Core.Bool.{Bool, true, false, cond, ◌&&◌}
use mathlib.Core.List.{List}
use Prim.Native.Nat.{ℕ, zero, suc, ◌+◌, ◌≤◌, ◌<◌}
use native.Mathlib.Nat.{add-zero}
use native.Mathlib.Omega.{arith}
use native.Mathlib.Numerals.{add-one}
use lib.Dec.{eqb, ltb}
use lib.ListN.{length, get_or, set, replicate}
use lib.Seq.{get_or-set_same, get_or-set_other}
use borrow.Author.Tests.{eqb-true, eqb-false, ne_eqb}
use Rattle.expressions.specs.Count.{Count, mul, bit}
use Rattle.layout.specs.Layout.{production_count}
use Rattle.layout.specs.Records.{nonterminal_of, tag_number_of}
use Rattle.trees.specs.Answers.{alike_before}
use Rattle.trees.specs.Sums.{Zeros, RoomForOne, cells, cell_of, OneAlike, AllAlike, raised, TagsRaised}
use Rattle.limits.specs.Limits.{most_tags}
use Rattle.expressions.specs.Grammar.{nonterminals}

and_false : (a : Bool) → (a && false) ≡ false
and_false true = refl
and_false false = refl

-- memory that is lent as zeros
zero_at : (n i : ℕ) → ◌≡◌ {A = ℕ} (get_or (replicate n 0) i 0) 0
zero_at zero i = refl
zero_at (suc n) zero = refl
zero_at (suc n) (suc i) = zero_at n i

pub zeros : (n : ℕ) → Zeros (replicate n 0)
zeros n = record { each = zero_at n }

module _ (m t : ℕ) (k : List ℕ) where
  -- numbers that have no cell
  not_counted : ((n u : ℕ) → n < nonterminals → u < most_tags → (eqb n m && eqb u t) ≡ false) → OneAlike m t k k
  not_counted h = record {
    most = λ i. omega arith;
    is = λ n u a b. sym (add-zero _) ∙ ap (λ (z : Bool). get_or k (cell_of n u) 0 + cond z 1 0) (sym (h n u a b));
  }

  pub no_such_nonterminal : nonterminals ≤ m → OneAlike m t k k
  no_such_nonterminal h = not_counted (λ n u a b. ap (λ (z : Bool). z && eqb u t) (ne_eqb n m (λ e. omega arith)))

  pub no_such_tag : most_tags ≤ t → OneAlike m t k k
  no_such_tag h = not_counted (λ n u a b. ap (λ (z : Bool). eqb n m && z) (ne_eqb u t (λ e. omega arith)) ∙ and_false (eqb n m))

  module _ (mm : m < nonterminals) (tt' : t < most_tags) (long : length k ≡ cells) where
    abbrev cell : ℕ
    cell = cell_of m t

    abbrev after : List ℕ
    after = set k cell (get_or k cell 0 + 1)

    at_cell : (i : ℕ) → i ≡ cell → get_or after i 0 ≡ get_or k i 0 + 1
    at_cell i e = rw e (get_or-set_same k cell (get_or k cell 0 + 1) 0 (omega arith))

    elsewhere : (i : ℕ) → (i ≡ cell → ⊥) → get_or after i 0 ≡ get_or k i 0
    elsewhere i h = get_or-set_other k cell i (get_or k cell 0 + 1) 0 h

    most_one : (i : ℕ) (b : Bool) → eqb i cell ≡ b → get_or after i 0 ≤ get_or k i 0 + 1
    most_one i true e = omega (arith, at_cell i (eqb-true i cell e))
    most_one i false e = omega (arith, elsewhere i (eqb-false i cell e))

    counted : (n u : ℕ) → n < nonterminals → u < most_tags → (x y : Bool) → eqb n m ≡ x → eqb u t ≡ y → get_or after (cell_of n u) 0 ≡ get_or k (cell_of n u) 0 + cond (x && y) 1 0
    counted n u a b true true e f = let p = eqb-true n m e in let q = eqb-true u t f in at_cell (cell_of n u) (omega (arith, p, q))
    counted n u a b true false e f = let p = eqb-true n m e in elsewhere (cell_of n u) (λ z. eqb-false u t f (omega (arith, p, z))) ∙ sym (add-zero _)
    counted n u a b false y e f = elsewhere (cell_of n u) (λ z. eqb-false n m e (omega (arith, z))) ∙ sym (add-zero _)

    pub one_more : OneAlike m t k after
    one_more = record { most = λ i. most_one i (eqb i cell) refl; is = λ n u a b. counted n u a b (eqb n m) (eqb u t) refl refl }

-- the productions before q are counted
pub record CountedBefore (s : List ℕ) (q : ℕ) (known : List ℕ) : Type 0 where
  pub low : (i : ℕ) → get_or known i 0 ≤ q
  pub is : (n u : ℕ) → n < nonterminals → u < most_tags → get_or known (cell_of n u) 0 ≡ alike_before s n u q

module _ (s : List ℕ) where
  pub none_counted : (k : List ℕ) → Zeros k → CountedBefore s 0 k
  none_counted k z = record { low = λ i. omega (arith, z.each i); is = λ n u a b. z.each (cell_of n u) }

  pub room_left : (q : ℕ) (k : List ℕ) → CountedBefore s q k → q < 255 → RoomForOne k
  room_left q k h b = record { each = λ i. omega (arith, h.low i) }

  pub counted_one : (q m t : ℕ) (k after : List ℕ) → CountedBefore s q k → m ≡ nonterminal_of s q → t ≡ tag_number_of s q → OneAlike m t k after → CountedBefore s (q + 1) after
  counted_one q m t k after h a b o = record {
    low = λ i. omega (arith, h.low i, o.most i);
    is = λ n u c d. o.is n u c d ∙ rw (add-one, a, b, h.is n u c d) refl;
  }

  pub all_counted : (q : ℕ) (k : List ℕ) → CountedBefore s q k → q ≡ production_count s → length k ≡ cells → AllAlike s k
  all_counted q k h e l = record { long = l; is = λ n u a b. h.is n u a b ∙ ap (alike_before s n u) e }

-- the sums below t are raised
pub record RaisedBelow (known : List ℕ) (m : ℕ) (n : Count) (t : ℕ) (before after : List ℕ) : Type 0 where
  pub done : (i : ℕ) → i < t → get_or after i 0 ≡ raised (get_or before i 0) (mul n (bit (ltb 0 (get_or known (cell_of m i) 0))))
  pub rest : (i : ℕ) → t ≤ i → get_or after i 0 ≡ get_or before i 0

module _ (known : List ℕ) (m : ℕ) (n : Count) (before : List ℕ) where
  pub none_raised : RaisedBelow known m n 0 before before
  none_raised = record { done = λ i h. absurd (omega arith); rest = λ i h. refl }

  module _ (t v : ℕ) (mid : List ℕ) (h : RaisedBelow known m n t before mid) (room : t < length mid)
      (e : v ≡ raised (get_or mid t 0) (mul n (bit (ltb 0 (get_or known (cell_of m t) 0))))) where
    raised_at : (i : ℕ) → i < t + 1 → (b : Bool) → eqb i t ≡ b → get_or (set mid t v) i 0 ≡ raised (get_or before i 0) (mul n (bit (ltb 0 (get_or known (cell_of m i) 0))))
    raised_at i l true f =
        let z = eqb-true i t f in
        rw z (get_or-set_same mid t v 0 room ∙ e ∙ ap (λ (b : ℕ). raised b (mul n (bit (ltb 0 (get_or known (cell_of m t) 0))))) (h.rest t (omega arith)))
    raised_at i l false f = let z = eqb-false i t f in get_or-set_other mid t i v 0 z ∙ h.done i (omega (arith, z))

    pub one_raised : RaisedBelow known m n (t + 1) before (set mid t v)
    one_raised = record {
      done = λ i l. raised_at i l (eqb i t) refl;
      rest = λ i l. get_or-set_other mid t i v 0 (λ z. omega arith) ∙ h.rest i (omega arith);
    }

  pub all_raised : (t : ℕ) (after : List ℕ) → t ≡ most_tags → RaisedBelow known m n t before after → TagsRaised known m n before after
  all_raised t after e h = record { tags = λ i l. h.done i (omega arith); character = h.rest most_tags (omega arith) }
