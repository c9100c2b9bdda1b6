-- The machine of conditions goes through every condition. Assumes nothing.
use mathlib.Core.Path.{◌≡◌, refl, sym, ◌∙◌, ap}
use mathlib.Core.Bool.{true}
use mathlib.Core.Option.{Option, none, some}
use mathlib.Core.List.{List, [], ◌∷◌, ◌++◌, append_assoc}
use Prim.Native.Nat.{ℕ, suc, ◌+◌, ◌≤◌, ◌<◌}
use native.Mathlib.Omega.{arith}
use lib.Dec.{ltb}
use lib.ListN.{length}
use borrow.Author.Tests.{lt-ltb}
use Rattle.programs.specs.Program.{Operand, constant, current, Condition, equal, both, either}
use Rattle.programs.specs.Limits.{Visit, first, second, Value, Attribute}
use Rattle.notation.specs.Tokens.{TextToken, word, AND, OR, NOT, sign, OPEN, CLOSE, EQUALS}
use Rattle.notation.specs.Conditions.{CurrentIs, of_either, of_first, of_second, OperandIs, a_value, a_current, a_recalled, ConditionIs, no_or, or, BothIs, no_and, and, SingleIs, compared, not, parenthesised}
use Rattle.reading.specs.Machine.{and_then, walk}
use Rattle.reading.specs.Conditions.{ConditionPart, operand, part_if, value?, attribute?, part_of, ConditionLevel, condition_level, fresh_condition, disjoined, Reading, wants, compares, wants_other, after, got, condition_opened, step_part, step_condition}

part_if_lem : {P : Type 0} (d : Dec P) (x : Operand) → P → part_if d x ≡ operand x
part_if_lem (yes h) x p = refl
part_if_lem (no h) x p = absurd (h p)

pub operand_part : {v : Visit} {t : TextToken} {x : Operand} → OperandIs v t x → part_of v t ≡ operand x
operand_part (a_value {n = n} h) = part_if_lem (value? n) (constant n) h
operand_part (a_current {a = a} (of_either h)) = part_if_lem (attribute? a) (current a) h
operand_part (a_current {a = a} (of_first h)) = part_if_lem (attribute? a) (current a) h
operand_part (a_current {a = a} (of_second h)) = part_if_lem (attribute? a) (current a) h
operand_part (a_recalled {a = a} h) = part_if_lem (attribute? a) (Operand.recalled a) h

module _ (v : Visit) (p : ℕ) where
  abbrev go : Reading → List TextToken → Option Reading
  go s ts = walk (step_condition v p) s ts

  by_part : (s : Reading) (t : TextToken) (row : List TextToken) {k : ConditionPart} → part_of v t ≡ k → go s (t ∷ row) ≡ and_then (step_part p s k) (λ s'. go s' row)
  by_part s t row e = ap (λ k. and_then (step_part p s k) (λ s'. go s' row)) e

  open_step : (l : ConditionLevel) (ls : List ConditionLevel) → length ls < p → step_condition v p (wants l ls) (sign OPEN) ≡ some (wants fresh_condition (l ∷ ls))
  open_step l ls h = ap (λ b. condition_opened b l ls) (lt-ltb (length ls) p h)

  mutual
    single_walk : {q : ℕ} {ts : List TextToken} {c : Condition} → SingleIs v q ts c → (l : ConditionLevel) (ls : List ConditionLevel) (rest : List TextToken) → q + length ls ≤ p
        → go (wants l ls) (ts ++ rest) ≡ go (got l ls c) rest
    single_walk (compared {s = s} {t = t} {x = x} ox oy) l ls rest h = by_part (wants l ls) s (sign EQUALS ∷ t ∷ rest) (operand_part ox) ∙ by_part (wants_other x l ls) t rest (operand_part oy)
    single_walk (not s) l ls rest h = single_walk s (condition_level l.or_left l.and_left (suc l.nots)) ls rest h
    single_walk (parenthesised {ts = ts} c e) l ls rest h =
        let w = condition_walk c (l ∷ ls) (sign CLOSE ∷ rest) (omega arith) in
        ap (λ ws. go (wants l ls) (ws ++ rest)) e
        ∙ ap (λ o. and_then o (λ s'. go s' ((ts ++ sign CLOSE ∷ []) ++ rest))) (open_step l ls (omega arith))
        ∙ ap (go (wants fresh_condition (l ∷ ls))) (append_assoc ts (sign CLOSE ∷ []) rest)
        ∙ w.3
        ∙ ap (λ d. go (got l ls d) rest) w.2

    both_walk : {q : ℕ} {ts : List TextToken} {c : Condition} → BothIs v q ts c → (o : Option Condition) (ls : List ConditionLevel) (rest : List TextToken) → q + length ls ≤ p
        → go (wants (condition_level o none 0) ls) (ts ++ rest) ≡ go (after c o ls) rest
    both_walk (no_and s) o ls rest h = single_walk s (condition_level o none 0) ls rest h
    both_walk (and {ts = ts} {us = us} {c = c} b s e) o ls rest h =
        ap (λ ws. go (wants (condition_level o none 0) ls) (ws ++ rest)) e
        ∙ ap (go (wants (condition_level o none 0) ls)) (append_assoc ts (word AND ∷ us) rest)
        ∙ both_walk b o ls (word AND ∷ (us ++ rest)) h
        ∙ single_walk s (condition_level o (some c) 0) ls rest h

    pub condition_walk : {q : ℕ} {ts : List TextToken} {c : Condition} → ConditionIs v q ts c → (ls : List ConditionLevel) (rest : List TextToken) → q + length ls ≤ p
        → (d : Condition) × (o : Option Condition) × (disjoined o d ≡ c) × (go (wants fresh_condition ls) (ts ++ rest) ≡ go (after d o ls) rest)
    condition_walk (no_or {c = c} b) ls rest h = (c, none, refl, both_walk b none ls rest h)
    condition_walk (or {ts = ts} {us = us} {d = d} c b e) ls rest h =
        let w = condition_walk c ls (word OR ∷ (us ++ rest)) h in
        let x = disjoined w.1 w.0 in (
          d,
          some x,
          ap (λ y. either y d) w.2,
          ap (λ ws. go (wants fresh_condition ls) (ws ++ rest)) e ∙ ap (go (wants fresh_condition ls)) (append_assoc ts (word OR ∷ us) rest) ∙ w.3 ∙ both_walk b (some x) ls rest h,
        )
