-- The machine reads lists of statements. Assumes nothing.
use mathlib.Core.Path.{◌≡◌, refl, sym, ◌∙◌, ap, subst}
use mathlib.Core.Option.{Option, none, some}
use mathlib.Core.List.{List, [], ◌∷◌, ◌++◌, append_assoc, append-nil}
use Prim.Native.Nat.{ℕ, ◌≤◌}
use native.Mathlib.Omega.{arith}
use Rattle.programs.specs.Limits.{Visit}
use Rattle.notation.specs.Program.{TextProgram, done}
use Rattle.notation.specs.Limits.{ProgramWithin}
use Rattle.notation.specs.Tokens.{TextToken}
use Rattle.notation.specs.Statements.{ListIs}
use Rattle.reading.specs.Machine.{and_then, walk}
use Rattle.reading.specs.Reads.{Ends, ReadBy}
use Rattle.reading.specs.Statements.{list_level, ListLevel, Place, opening, separated, branching, Listing, wants, target, assigning, printing, testing, after, listed, around_list, step_statements, empty_list_value, whole_list_value, value_of_list, shortest_list, finished_list, list_start, statements}
use Rattle.reading.specs.Promises.{ReadsStatements}
use Rattle.reading.proofs.Telling.{none≢some, held_after}
use Rattle.reading.proofs.StatementWalk.{list_walk}
use Rattle.reading.proofs.StatementHeld.{Held, held_step, held_start, held_value, held_shortest}
use Rattle.reading.proofs.StatementSize.{Under, Grown, step_grows}

empty_finished : (w : Place) (l : ListLevel) (ls : List ListLevel) (p : TextProgram) → empty_list_value w ls ≡ some p → shortest_list w l ls ≡ p
empty_finished opening l [] p e = cc
empty_finished opening l (x ∷ ls) p e = absurd (none≢some refl e)
empty_finished separated l ls p e = absurd (none≢some refl e)
empty_finished branching l ls p e = absurd (none≢some refl e)

whole_finished : (ls : List ListLevel) (q p : TextProgram) → whole_list_value ls q ≡ some p → around_list ls q ≡ p
whole_finished [] q p e = cc
whole_finished (l ∷ ls) q p e = absurd (none≢some refl e)

pub finished_value : (s : Listing) (p : TextProgram) → value_of_list s ≡ some p → finished_list s ≡ p
finished_value (wants w l ls) p e = empty_finished w l ls p e
finished_value (target a l ls) p e = absurd (none≢some refl e)
finished_value (assigning a l ls) p e = absurd (none≢some refl e)
finished_value (printing l ls) p e = absurd (none≢some refl e)
finished_value (testing r l ls) p e = absurd (none≢some refl e)
finished_value (after b q l ls) p e = whole_finished ls (listed l q) p e

module _ (v : Visit) where
  held : (ts : List TextToken) (s : Listing) → walk (step_statements v) list_start ts ≡ some s → Held v s ts
  held ts s e = held_after (step_statements v) (Held v) (held_step v) list_start s ts (held_start v) e

  pub ends : (ts : List TextToken) (p : TextProgram) → ListIs v ts p → Ends (statements v) ts p
  ends ts p h =
      let w = list_walk v h [] [] in
      record { last = w.0; walked = rw append-nil at w.1; told = w.2.value_is }

pub reads_statements : ReadsStatements
reads_statements v = record {
  complete = ends v;
  sound = λ ts s p e t. held_value v s ts p (held v ts s e) t;
  shortest = λ ts s e. held_shortest v s ts (held v ts s e);
  finished_last = finished_value;
  grows = λ s s' t e f. let u : Under (finished_list s) (finished_list s') = subst (Grown s) e (step_grows v s t) in record { short = omega arith; shallow = omega arith };
  starts = record { short = omega arith; shallow = omega arith };
}
