-- Operands and conditions: the first byte tells the form, and a condition's answer comes from those of its parts, one after the other.
-- Assumes nothing.
use mathlib.Core.Path.{◌≡◌, refl, sym, ap, ◌∙◌, subst}
use mathlib.Core.Bool.{false, not, ◌&&◌, ◌||◌}
use mathlib.Core.List.{List, [], ◌∷◌, ◌++◌}
use Prim.Native.Nat.{ℕ, ◌+◌, ◌-◌, ◌≤◌, ◌<◌}
use native.Mathlib.Omega.{arith}
use lib.ListN.{length, get_or, drop, length-append, length-drop}
use lib.Dec.{eqb}
use Rattle.text.specs.Chars.{Starts}
use Rattle.programs.specs.Program.{Operand, constant, current, recalled, operand_bytes, Condition, equal, negated, both, either, condition_bytes}
use Rattle.programs.proofs.Agree.{condition_some}
use Rattle.programs.proofs.Reading.{byte_of, first_byte, starts_length}
use Rattle.runs.specs.Execute.{operand_value, holds}
use Rattle.visits.specs.Evaluated.{LiesAt, ValueIs, JudgedAs}
use Rattle.visits.specs.declared.Judged.{Judged}
use Rattle.visits.proofs.Lying.{first_part, second_part, operand_of, condition_of}

module _ (s : List ℕ) (i : ℕ) (kept values : List ℕ) where
  -- ---- operands
  pub current_value : i < length s → get_or s i 0 ≡ 1 → (v : ℕ) → v ≡ get_or values (get_or s (i + 1) 0) 0 → ValueIs s i kept values v
  current_value h e v q x st =
      let w = operand_of s i h e x st in
      let b = byte_of s i (1 ∷ w.0 ∷ []) (rw w.1 at st) 1 (omega arith) in
      rw w.1 (q ∙ ap (λ (n : ℕ). get_or values n 0) b.1)

  pub recalled_value : i < length s → get_or s i 0 ≡ 2 → (v : ℕ) → v ≡ get_or kept (get_or s (i + 1) 0) 0 → ValueIs s i kept values v
  recalled_value h e v q x st =
      let w = operand_of s i h e x st in
      let b = byte_of s i (2 ∷ w.0 ∷ []) (rw w.1 at st) 1 (omega arith) in
      rw w.1 (q ∙ ap (λ (n : ℕ). get_or kept n 0) b.1)

  pub constant_value : (get_or s i 0 ≡ 1 → ⊥) → (get_or s i 0 ≡ 2 → ⊥) → ValueIs s i kept values (get_or s (i + 1) 0)
  constant_value f g (constant v) st = (byte_of s i (0 ∷ v ∷ []) st 1 (omega arith)).1
  constant_value f g (current a) st = absurd (f (first_byte s i 1 (a ∷ []) st))
  constant_value f g (recalled a) st = absurd (g (first_byte s i 2 (a ∷ []) st))

-- an operand is two bytes
operand_length : (x : Operand) → length (operand_bytes x) ≡ 2
operand_length (constant v) = refl
operand_length (current a) = refl
operand_length (recalled a) = refl

module _ (s : List ℕ) (i : ℕ) (kept values : List ℕ) where
  -- ---- conditions
  pub nothing_left : i ≤ length s → length s ≤ i → JudgedAs s i kept values (record { yes = false; next = i })
  nothing_left l h =
      record { low = omega arith; high = l; right = λ c st. absurd (omega (arith, condition_some c, starts_length (drop i s) (condition_bytes c) st, length-drop i s)) }

  module _ (h : i < length s) where
    pub too_short : get_or s i 0 ≡ 0 → length s - i < 5 → JudgedAs s i kept values (record { yes = false; next = i })
    too_short e short = record { low = omega arith; high = omega arith; right = λ c st. absurd (no c st) }
      where
        no : (c : Condition) → LiesAt condition_bytes s i c → ⊥
        no c st =
            let w = condition_of s i h e c st in
            let x = w.0 in
            let y = w.1 in
            omega (arith, starts_length (drop i s) (0 ∷ (operand_bytes x ++ operand_bytes y)) (rw w.2 at st), length-drop i s, length-append (operand_bytes x) (operand_bytes y), operand_length x, operand_length y)

    pub compared : get_or s i 0 ≡ 0 → i + 5 ≤ length s → (v u : ℕ) → ValueIs s (i + 1) kept values v → ValueIs s (i + 3) kept values u
        → JudgedAs s i kept values (record { yes = eqb v u; next = i + 5 })
    compared e long v u is-v is_u = record { low = omega arith; high = long; right = go }
      where
        go : (c : Condition) → LiesAt condition_bytes s i c → (eqb v u ≡ holds kept c values) × (i + 5 ≡ i + length (condition_bytes c))
        go c st =
            let w = condition_of s i h e c st in
            let x = w.0 in
            let y = w.1 in
            let lie : Starts (drop i s) ((0 ∷ []) ++ (operand_bytes x ++ operand_bytes y)) = rw w.2 at st in
            let two = second_part s i (0 ∷ []) (operand_bytes x ++ operand_bytes y) lie in
            let one : v ≡ operand_value kept x values = is-v x (first_part s (i + 1) (operand_bytes x) (operand_bytes y) two) in
            let at : i + 1 + length (operand_bytes x) ≡ i + 3 = omega (arith, operand_length x) in
            let other : u ≡ operand_value kept y values = is_u y (subst (λ (n : ℕ). Starts (drop n s) (operand_bytes y)) at (second_part s (i + 1) (operand_bytes x) (operand_bytes y) two)) in
            rw w.2 (rw (one, other) (refl, omega (arith, length-append (operand_bytes x) (operand_bytes y), operand_length x, operand_length y)))

    -- a first condition after the first byte
    module _ (r : Judged) (R : JudgedAs s (i + 1) kept values r) where
      pub opposite : get_or s i 0 ≡ 1 → JudgedAs s i kept values (record { yes = not r.yes; next = r.next })
      opposite e = record { low = omega (arith, R.low); high = R.high; right = go }
        where
          go : (c : Condition) → LiesAt condition_bytes s i c → (not r.yes ≡ holds kept c values) × (r.next ≡ i + length (condition_bytes c))
          go c st =
              let w = condition_of s i h e c st in
              let d = w.0 in
              let lie : Starts (drop i s) ((1 ∷ []) ++ condition_bytes d) = rw w.1 at st in
              let q = R.right d (second_part s i (1 ∷ []) (condition_bytes d) lie) in
              rw w.1 (ap not q.0, omega (arith, q.1))

      -- and a second one behind it
      module _ (q : Judged) (Q : JudgedAs s r.next kept values q) where
        two_parts : (k : ℕ) (c d : Condition) → Starts (drop i s) (k ∷ (condition_bytes c ++ condition_bytes d))
            → (r.yes ≡ holds kept c values) × (q.yes ≡ holds kept d values) × (q.next ≡ i + length (k ∷ (condition_bytes c ++ condition_bytes d)))
        two_parts k c d st =
            let two = second_part s i (k ∷ []) (condition_bytes c ++ condition_bytes d) st in
            let x = R.right c (first_part s (i + 1) (condition_bytes c) (condition_bytes d) two) in
            let y = Q.right d (subst (λ (n : ℕ). Starts (drop n s) (condition_bytes d)) (sym x.1) (second_part s (i + 1) (condition_bytes c) (condition_bytes d) two)) in
            (x.0, y.0, omega (arith, x.1, y.1, length-append (condition_bytes c) (condition_bytes d)))

        pub both_hold : get_or s i 0 ≡ 2 → JudgedAs s i kept values (record { yes = r.yes && q.yes; next = q.next })
        both_hold e = record { low = omega (arith, R.low, Q.low); high = Q.high; right = go }
          where
            go : (c : Condition) → LiesAt condition_bytes s i c → (r.yes && q.yes ≡ holds kept c values) × (q.next ≡ i + length (condition_bytes c))
            go c st =
                let w = condition_of s i h e c st in
                let p = two_parts 2 w.0 w.1 (rw w.2 at st) in
                rw w.2 (rw (p.0, p.1) refl, p.2)

        pub either_holds : (get_or s i 0 ≡ 0 → ⊥) → (get_or s i 0 ≡ 1 → ⊥) → (get_or s i 0 ≡ 2 → ⊥) → JudgedAs s i kept values (record { yes = r.yes || q.yes; next = q.next })
        either_holds f g k = record { low = omega (arith, R.low, Q.low); high = Q.high; right = go }
          where
            go : (c : Condition) → LiesAt condition_bytes s i c → (r.yes || q.yes ≡ holds kept c values) × (q.next ≡ i + length (condition_bytes c))
            go (equal x z) st = absurd (f (first_byte s i 0 (operand_bytes x ++ operand_bytes z) st))
            go (negated c) st = absurd (g (first_byte s i 1 (condition_bytes c) st))
            go (both c d) st = absurd (k (first_byte s i 2 (condition_bytes c ++ condition_bytes d) st))
            go (either c d) st =
                let p = two_parts 3 c d st in
                (rw (p.0, p.1), p.2)
