-- Laws of a stack: one more, the top, the rest; and the marks up to the list or the if that is looked for. Assumes nothing.
use mathlib.Core.Path.{◌≡◌, refl, sym, ◌∙◌, ap}
use mathlib.Core.List.{List, [], ◌∷◌}
use Prim.Native.Nat.{ℕ, zero, suc, ◌+◌, ◌*◌, ◌-◌, ◌≤◌, ◌<◌}
use native.Mathlib.Omega.{arith}
use borrow.Author.Tests.{lt-ltb, le-ltb, eq-eqb, ne_eqb}
use lib.ListN.{length, set, get_or}
use Rattle.extents.proofs.Stacks as stacks
use Rattle.strokes.specs.Strokes.{most_stacked, stacked, topped, first_of, rest_of, zeros_of, owed, unwound, else_owed, skipped}
use Rattle.pages.specs.Pages.{stack_at}

stack_long : (xs : List ℕ) (n : ℕ) → length (stack_at xs n) ≡ n
stack_long xs n = stacks.long (λ (x : ℕ). x) 0 xs n

stack_top : (xs : List ℕ) (n : ℕ) → 0 < n → n ≤ length xs → stack_at xs n ≡ get_or xs (n - 1) 0 ∷ stack_at xs (n - 1)
stack_top xs n h g = stacks.top (λ (x : ℕ). x) 0 xs n 0 h g

none_left : (xs : List ℕ) (n : ℕ) → n ≤ 0 → stack_at xs n ≡ []
none_left xs zero h = refl
none_left xs (suc n) h = absurd (omega arith)

module _ (xs : List ℕ) (n : ℕ) where
  pub stack_full : (m : ℕ) → most_stacked ≤ n → stack_at xs n ≡ stacked m (stack_at xs n)
  stack_full m h = rw (le-ltb (length (stack_at xs n)) most_stacked (omega (arith, stack_long xs n)))

  pub stack_room : (m : ℕ) → length xs ≡ most_stacked → n < most_stacked → stack_at (set xs n m) (n + 1) ≡ stacked m (stack_at xs n)
  stack_room m e h = rw (lt-ltb (length (stack_at xs n)) most_stacked (omega (arith, stack_long xs n))) (stacks.pushed (λ (x : ℕ). x) 0 xs n m (omega arith))

  pub no_top : n ≡ 0 → 0 ≡ first_of (stack_at xs n)
  no_top h = sym (ap first_of (none_left xs n (omega arith)))

  pub no_rest : n ≡ 0 → stack_at xs n ≡ rest_of (stack_at xs n)
  no_rest h = none_left xs n (omega arith) ∙ sym (ap rest_of (none_left xs n (omega arith)))

  pub none_topped : (m : ℕ) → n ≡ 0 → stack_at xs n ≡ topped m (stack_at xs n)
  none_topped m h = none_left xs n (omega arith) ∙ sym (ap (topped m) (none_left xs n (omega arith)))

  module _ (some : n ≡ 0 → ⊥) (inside : n ≤ length xs) where
    above : stack_at xs n ≡ get_or xs (n - 1) 0 ∷ stack_at xs (n - 1)
    above = stack_top xs n (omega arith) inside

    pub a_top : get_or xs (n - 1) 0 ≡ first_of (stack_at xs n)
    a_top = sym (ap first_of above)

    pub a_rest : stack_at xs (n - 1) ≡ rest_of (stack_at xs n)
    a_rest = sym (ap rest_of above)

    pub one_topped : (m : ℕ) → stack_at (set xs (n - 1) m) n ≡ topped m (stack_at xs n)
    one_topped m =
        let same : n ≡ n - 1 + 1 = omega arith in
        ap (stack_at (set xs (n - 1) m)) same ∙ (stacks.pushed (λ (x : ℕ). x) 0 xs (n - 1) m (omega arith) ∙ sym (ap (topped m) above))

-- while the marks are looked through from the top: what is counted, and what is left
pub record Unwinding (xs : List ℕ) (n i z : ℕ) : Type 0 where
  pub at_most : i ≤ n
  pub counted : z + 2 * i ≤ 2 * n
  pub owing : z + owed (stack_at xs i) ≡ owed (stack_at xs n)
  pub leaving : unwound (stack_at xs i) ≡ unwound (stack_at xs n)

pub unwinding : (xs : List ℕ) (n : ℕ) → Unwinding xs n n 0
unwinding xs n = record { at_most = omega arith; counted = omega arith; owing = omega arith; leaving = refl }

owed_at : (m : ℕ) (ms : List ℕ) → m ≡ 0 → owed (m ∷ ms) ≡ 0
owed_at m ms e = rw (eq-eqb m 0 e)

owed_past : (m : ℕ) (ms : List ℕ) → (m ≡ 0 → ⊥) → owed (m ∷ ms) ≡ zeros_of m + owed ms
owed_past m ms e = rw (ne_eqb m 0 e)

unwound_at : (m : ℕ) (ms : List ℕ) → m ≡ 0 → unwound (m ∷ ms) ≡ m ∷ ms
unwound_at m ms e = rw (eq-eqb m 0 e)

unwound_past : (m : ℕ) (ms : List ℕ) → (m ≡ 0 → ⊥) → unwound (m ∷ ms) ≡ unwound ms
unwound_past m ms e = rw (ne_eqb m 0 e)

module _ (xs : List ℕ) (n i z : ℕ) (u : Unwinding xs n i z) where
  pub over_zeros : i ≤ 0 → z ≡ owed (stack_at xs n)
  over_zeros h = omega (arith, u.owing, ap owed (none_left xs i h))

  pub over_left : i ≤ 0 → stack_at xs 0 ≡ unwound (stack_at xs n)
  over_left h = sym (ap unwound (none_left xs i h)) ∙ u.leaving

  module _ (h : 0 < i) (g : i ≤ length xs) where
    head : stack_at xs i ≡ get_or xs (i - 1) 0 ∷ stack_at xs (i - 1)
    head = stack_top xs i h g

    pub at_zeros : get_or xs (i - 1) 0 ≡ 0 → z ≡ owed (stack_at xs n)
    at_zeros e = omega (arith, u.owing, ap owed head, owed_at (get_or xs (i - 1) 0) (stack_at xs (i - 1)) e)

    pub at_left : get_or xs (i - 1) 0 ≡ 0 → stack_at xs i ≡ unwound (stack_at xs n)
    at_left e = head ∙ (sym (unwound_at (get_or xs (i - 1) 0) (stack_at xs (i - 1)) e) ∙ (sym (ap unwound head) ∙ u.leaving))

    pub unwinding_on : (w : ℕ) → (get_or xs (i - 1) 0 ≡ 0 → ⊥) → w ≡ zeros_of (get_or xs (i - 1) 0) → w ≤ 2 → Unwinding xs n (i - 1) (z + w)
    unwinding_on w e f k =
        record { at_most = omega (arith, u.at_most); counted = omega (arith, u.counted); owing = omega (arith, u.owing, ap owed head, owed_past (get_or xs (i - 1) 0) (stack_at xs (i - 1)) e); leaving = sym (unwound_past (get_or xs (i - 1) 0) (stack_at xs (i - 1)) e) ∙ (sym (ap unwound head) ∙ u.leaving) }

pub record Skipping (xs : List ℕ) (n i z : ℕ) : Type 0 where
  pub at_most : i ≤ n
  pub counted : z + i ≤ 1 + n
  pub owing : z + else_owed (stack_at xs i) ≡ 1 + else_owed (stack_at xs n)
  pub leaving : skipped (stack_at xs i) ≡ skipped (stack_at xs n)

pub skipping : (xs : List ℕ) (n : ℕ) → Skipping xs n n 1
skipping xs n = record { at_most = omega arith; counted = omega arith; owing = refl; leaving = refl }

else_at : (m : ℕ) (ms : List ℕ) → (m ≡ 1 → ⊥) → else_owed (m ∷ ms) ≡ 1
else_at m ms e = rw (ne_eqb m 1 e)

else_past : (m : ℕ) (ms : List ℕ) → m ≡ 1 → else_owed (m ∷ ms) ≡ suc (else_owed ms)
else_past m ms e = rw (eq-eqb m 1 e)

skipped_at : (m : ℕ) (ms : List ℕ) → (m ≡ 1 → ⊥) → skipped (m ∷ ms) ≡ m ∷ ms
skipped_at m ms e = rw (ne_eqb m 1 e)

skipped_past : (m : ℕ) (ms : List ℕ) → m ≡ 1 → skipped (m ∷ ms) ≡ skipped ms
skipped_past m ms e = rw (eq-eqb m 1 e)

module _ (xs : List ℕ) (n i z : ℕ) (u : Skipping xs n i z) where
  pub past_zeros : i ≤ 0 → z ≡ else_owed (stack_at xs n)
  past_zeros h = omega (arith, u.owing, ap else_owed (none_left xs i h))

  pub past_left : i ≤ 0 → stack_at xs 0 ≡ skipped (stack_at xs n)
  past_left h = sym (ap skipped (none_left xs i h)) ∙ u.leaving

  module _ (h : 0 < i) (g : i ≤ length xs) where
    first : stack_at xs i ≡ get_or xs (i - 1) 0 ∷ stack_at xs (i - 1)
    first = stack_top xs i h g

    pub if_zeros : (get_or xs (i - 1) 0 ≡ 1 → ⊥) → z ≡ else_owed (stack_at xs n)
    if_zeros e = omega (arith, u.owing, ap else_owed first, else_at (get_or xs (i - 1) 0) (stack_at xs (i - 1)) e)

    pub if_left : (get_or xs (i - 1) 0 ≡ 1 → ⊥) → stack_at xs i ≡ skipped (stack_at xs n)
    if_left e = first ∙ (sym (skipped_at (get_or xs (i - 1) 0) (stack_at xs (i - 1)) e) ∙ (sym (ap skipped first) ∙ u.leaving))

    pub skipping_on : get_or xs (i - 1) 0 ≡ 1 → Skipping xs n (i - 1) (z + 1)
    skipping_on e =
        record { at_most = omega (arith, u.at_most); counted = omega (arith, u.counted); owing = omega (arith, u.owing, ap else_owed first, else_past (get_or xs (i - 1) 0) (stack_at xs (i - 1)) e); leaving = sym (skipped_past (get_or xs (i - 1) 0) (stack_at xs (i - 1)) e) ∙ (sym (ap skipped first) ∙ u.leaving) }
