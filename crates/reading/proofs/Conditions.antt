-- The machine reads conditions. Assumes nothing.
use mathlib.Core.Path.{◌≡◌, refl, sym, ◌∙◌, ap, subst}
use mathlib.Core.Option.{Option, none, some}
use mathlib.Core.List.{List, [], ◌∷◌, ◌++◌, append_assoc, append-nil}
use Prim.Native.Nat.{ℕ, zero, suc, ◌+◌, ◌≤◌, ◌<◌}
use native.Mathlib.Omega.{arith}
use lib.ListN.{length}
use Rattle.programs.specs.Program.{constant, Condition, equal}
use Rattle.programs.specs.Limits.{Visit}
use Rattle.notation.specs.Tokens.{TextToken}
use Rattle.notation.specs.Conditions.{ConditionIs}
use Rattle.reading.specs.Machine.{and_then, walk}
use Rattle.reading.specs.Reads.{Ends, ReadBy}
use Rattle.reading.specs.Conditions.{part_of, fresh_condition, disjoined, Reading, wants, compares, wants_other, after, step_part, step_condition, value_of_condition, finished_of, conditions}
use Rattle.reading.specs.Promises.{SmallCondition, ReadsConditions}
use Rattle.reading.proofs.Telling.{none≢some, held_after}
use Rattle.reading.proofs.ConditionWalk.{condition_walk}
use Rattle.reading.proofs.ConditionHeld.{Held, held_step, held_start, held_value, held_shortest}
use Rattle.reading.proofs.ConditionSize.{equal_size, Under, Grown, part_grows}

pub finished_value : (s : Reading) (c : Condition) → value_of_condition s ≡ some c → finished_of s ≡ c
finished_value (wants l ls) c e = absurd (none≢some refl e)
finished_value (compares x l ls) c e = absurd (none≢some refl e)
finished_value (wants_other x l ls) c e = absurd (none≢some refl e)
finished_value (after d o []) c e = cc
finished_value (after d o (l ∷ ls)) c e = absurd (none≢some refl e)

module _ (v : Visit) (p : ℕ) where
  held : (ts : List TextToken) (s : Reading) → walk (step_condition v p) (wants fresh_condition []) ts ≡ some s → Held v p s ts
  held ts s e = held_after (step_condition v p) (Held v p) (held_step v p) (wants fresh_condition []) s ts (held_start v p) e

  ends : (ts : List TextToken) (c : Condition) → ConditionIs v p ts c → Ends (conditions v p) ts c
  ends ts c h =
      let w = condition_walk v p h [] [] (omega arith) in
      record { last = after w.0 w.1 []; walked = rw append-nil at w.3; told = ap some w.2 }

  grows : (s s' : Reading) (t : TextToken) → step_condition v p s t ≡ some s' → Under (finished_of s) (finished_of s')
  grows s s' t e = subst (Grown s) e (part_grows p s (part_of v t))

pub reads_conditions : ReadsConditions
reads_conditions v p size deep room = record {
  complete = ends v p;
  sound = λ ts s c e t. held_value v p s ts c (held v p ts s e) t;
  shortest = λ ts s e. held_shortest v p s ts (held v p ts s e);
  finished_last = finished_value;
  grows = λ s s' t e f. let u = grows v p s s' t e in record { short = omega arith; shallow = omega arith };
  starts = record { short = omega (arith, equal_size (constant 0) (constant 0)); shallow = omega arith };
}
