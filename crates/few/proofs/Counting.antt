-- Two weights tell what is promised: where every bracket weighs one, a string weighs as much as it is long; where one bracket weighs one and the others
-- nothing, as often as it has that bracket.
-- Assumes nothing.
use mathlib.Core.Path.{◌≡◌, refl, sym, ◌∙◌, ap}
use mathlib.Core.Bool.{Bool, true, false, cond}
use mathlib.Core.List.Memᴰ
use mathlib.Core.List.{List, [], ◌∷◌, Memᴰ}
use mathlib.Core.Logic.{⊎_elim}
use Prim.Native.Nat.{ℕ, suc, ◌+◌, ◌*◌, ◌≤◌, ◌<◌}
use native.Mathlib.Omega.{arith}
use native.Mathlib.Decide.{dec_lt}
use lib.Dec.{eqb}
use lib.ListN.{length}
use borrow.Author.Tests.{eq-eqb, ne_eqb}
use Rattle.expressions.specs.Expr.{Exp, atom, cat, alt, star, empty, nodes}
use Rattle.expressions.specs.Words.{Bracket, opening, closing}
use Rattle.few.specs.Once.{Once}
use Rattle.few.proofs.Weighed.{weigh, own, total}

-- one for each bracket
abbrev pub one_each : Bracket → ℕ
one_each c = 1

pub weigh_length : (α : List Bracket) → weigh one_each α ≡ length α
weigh_length [] = refl
weigh_length (c ∷ α) = let h = weigh_length α in omega arith

pub total_nodes : (e : Exp) (i : ℕ) → total one_each e i ≡ 2 * nodes e
total_nodes (atom k) i = omega arith
total_nodes (cat l r) i = let a = total_nodes l (suc i) in let b = total_nodes r (suc i + nodes l) in omega arith
total_nodes (alt l r) i = let a = total_nodes l (suc i) in let b = total_nodes r (suc i + nodes l) in omega arith
total_nodes (star e) i = let a = total_nodes e (suc i) in omega arith
total_nodes empty i = omega arith

-- one for the bracket c, and none for any other
abbrev same : ℕ → ℕ → ℕ
same n i = cond (eqb n i) 1 0

abbrev pub only : Bracket → Bracket → ℕ
only (opening n) (opening i) = same n i
only (opening n) (closing i) = 0
only (closing n) (opening i) = 0
only (closing n) (closing i) = same n i

abbrev number : Bracket → ℕ
number (opening n) = n
number (closing n) = n

same_is : (n : ℕ) → same n n ≡ 1
same_is n = ap (λ (b : Bool). cond b 1 0) (eq-eqb n n refl)

not_same : (n i : ℕ) → (n ≡ i → ⊥) → same n i ≡ 0
not_same n i h = ap (λ (b : Bool). cond b 1 0) (ne_eqb n i h)

most_one : (n i : ℕ) → same n i ≤ 1
most_one n i = by (eqb n i)
  where
    by : (b : Bool) → cond b 1 0 ≤ 1
    by true = omega arith
    by false = omega arith

own_is : (c : Bracket) (i : ℕ) → own (only c) i ≡ same (number c) i
own_is (opening n) i = omega arith
own_is (closing n) i = omega arith

-- t counts how often n is among m numbers from i on
record Spread (n i m t : ℕ) : Type 0 where
  pub most : t ≤ 1
  pub before : n < i → t ≡ 0
  pub past : i + m ≤ n → t ≡ 0

module _ (n : ℕ) where
  spread_one : (i t : ℕ) → t ≡ same n i → Spread n i 1 t
  spread_one i t e = record {
    most = omega (arith, most_one n i);
    before = λ h. e ∙ not_same n i (λ z. omega (arith, h, z));
    past = λ h. e ∙ not_same n i (λ z. omega (arith, h, z));
  }

  spread_join : (i a b j m x y : ℕ) → j ≡ i + a → m ≡ a + b → Spread n i a x → Spread n j b y → Spread n i m (x + y)
  spread_join i a b j m x y e f s t = record { most = by (dec_lt n j); before = λ h. both (s.before h) (t.before (omega (arith, h, e))); past = λ h. both (s.past (omega (arith, h, f))) (t.past (omega (arith, h, e, f))) }
    where
      both : x ≡ 0 → y ≡ 0 → x + y ≡ 0
      both p q = omega (arith, p, q)

      by : Dec (n < j) → x + y ≤ 1
      by (yes h) = omega (arith, t.before h, s.most)
      by (no h) = omega (arith, s.past (omega (arith, h, e)), t.most)

module _ (c : Bracket) where
  spread_own : (i : ℕ) → Spread (number c) i 1 (own (only c) i)
  spread_own i = spread_one (number c) i (own (only c) i) (own_is c i)

  spread_two : (i a b x y : ℕ) → Spread (number c) (suc i) a x → Spread (number c) (suc i + a) b y → Spread (number c) i (suc (a + b)) (own (only c) i + (x + y))
  spread_two i a b x y s t =
      spread_join (number c) i 1 (a + b) (suc i) (suc (a + b)) (own (only c) i) (x + y) (omega arith) (omega arith) (spread_own i)
      (spread_join (number c) (suc i) a b (suc i + a) (a + b) x y refl refl s t)

  spread_total : (e : Exp) (i : ℕ) → Spread (number c) i (nodes e) (total (only c) e i)
  spread_total (atom k) i = spread_own i
  spread_total (cat l r) i =
      spread_two i (nodes l) (nodes r) (total (only c) l (suc i)) (total (only c) r (suc i + nodes l)) (spread_total l (suc i)) (spread_total r (suc i + nodes l))
  spread_total (alt l r) i =
      spread_two i (nodes l) (nodes r) (total (only c) l (suc i)) (total (only c) r (suc i + nodes l)) (spread_total l (suc i)) (spread_total r (suc i + nodes l))
  spread_total (star e) i =
      spread_join (number c) i 1 (nodes e) (suc i) (suc (nodes e)) (own (only c) i) (total (only c) e (suc i)) (omega arith) (omega arith) (spread_own i) (spread_total e (suc i))
  spread_total empty i = spread_own i

pub total_once : (c : Bracket) (e : Exp) (i : ℕ) → total (only c) e i ≤ 1
total_once c e i = (spread_total c e i).most

-- a string in which no bracket weighs more than one has none twice
only_self : (c : Bracket) → only c c ≡ 1
only_self (opening n) = same_is n
only_self (closing n) = same_is n

weighs_one : (c : Bracket) (α : List Bracket) → Memᴰ c α → 1 ≤ weigh (only c) α
weighs_one c [] m = absurd (Memᴰ.not-nil m)
weighs_one c (d ∷ α) m =
    ⊎_elim (λ e. omega (arith, sym (ap (only c) e) ∙ only_self c)) (λ k. omega (arith, weighs_one c α k)) (Memᴰ.cases_cons m)

pub weighed_once : (α : List Bracket) → ((c : Bracket) → weigh (only c) α ≤ 1) → Once α
weighed_once [] h = tt
weighed_once (c ∷ α) h = ((λ m. omega (arith, h c, only_self c, weighs_one c α m)), weighed_once α (λ d. omega (arith, h d)))
