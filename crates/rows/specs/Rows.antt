-- The row of kinds that may come next, and the kinds that a place does not refuse by itself, whatever lies around it. Assumes nothing.
use Rattle.std.specs.Prelude.{◌≡◌, Bool, true, false, ◌||◌, List, ℕ, ◌<◌, eqb, get_or}
use Rattle.programs.specs.Limits.{Visit}
use Rattle.notation.specs.Tokens.{plain, left, right, ECHO, ECHO-OFF, REJECT, PRINT, IF, THEN, ELSE, BEGIN, END, AND, OR, NOT, ASSIGNED, OPEN, CLOSE, UNBRACE, SEMICOLON, EQUALS}
use Rattle.lexemes.specs.Kinds.{kinds, mark_number, sign_number}
use Rattle.sketches.specs.declared.Move.{Move}
use Rattle.sketches.specs.Figures.{present}
use Rattle.sketches.specs.Moves.{step_sketch}
use Rattle.drafts.specs.declared.Draft.{Draft}
use Rattle.drafts.specs.Drafted.{sketch_of}
use Rattle.outlines.specs.Kinds.{is_word, is_sign}
use Rattle.outlines.specs.Statements.{Outline, ends_here}
use Rattle.outlines.specs.Promises.{OutlineKeeps}
use Rattle.scripts.specs.declared.Stage.{Stage}
use Rattle.scripts.specs.declared.Stage.TheVariants.{At, Assign, Operand, Item, Single, Equals, Other, Behind, Past}
use Rattle.scripts.specs.declared.Script.{Script}
use Rattle.scripts.specs.Scripts.{outline_of}

abbrev pub is_move : Move → Bool
is_move Move.Refused = false
is_move (Move.To p) = true
is_move (Move.Opened p) = true
is_move (Move.Closed e) = true
is_move Move.Emptied = true
is_move (Move.Next n) = true

-- outside programs
pub record TextRow (d : Draft) (may : List Bool) : Type 0 where
  pub marks : (k : ℕ) → k < kinds → get_or may k false ≡ present (step_sketch (sketch_of d) k)

-- in a program, whichever its visit
abbrev pub could_start : ℕ → Bool
could_start k =
    eqb k (mark_number plain)
    || (eqb k (mark_number left)
    || (eqb k (mark_number right)
    || (is_word ECHO k || (is_word ECHO-OFF k || (is_word REJECT k || (is_word PRINT k || (is_word IF k || (is_word BEGIN k || is_word END k))))))))

abbrev pub could_be_operand : ℕ → Bool
could_be_operand k = eqb k 1 || (eqb k (mark_number plain) || (eqb k (mark_number left) || eqb k (mark_number right)))

abbrev pub could_be_item : ℕ → Bool
could_be_item k = eqb k 6 || (eqb k 7 || (eqb k 8 || eqb k 9))

abbrev pub could_be : Stage → ℕ → Bool
could_be (At w) k = could_start k
could_be Assign k = is_sign ASSIGNED k
could_be Operand k = could_be_operand k
could_be Item k = could_be_item k
could_be Single k = is_word NOT k || (is_sign OPEN k || could_be_operand k)
could_be Equals k = is_sign EQUALS k
could_be Other k = could_be_operand k
could_be (Behind d o) k = is_word THEN k || (is_word AND k || (is_word OR k || is_sign CLOSE k))
could_be (Past b p) k = is_word ELSE k || (is_word END k || (is_sign SEMICOLON k || could_be_item k))

-- what the outline takes within the limits, and its brace where it may end
abbrev pub Marked : Visit → Script → ℕ → Bool → Type 0
Marked v s k b = (b ≡ true → (o : Outline) × OutlineKeeps v (outline_of s) k o) × ((o : Outline) → OutlineKeeps v (outline_of s) k o → b ≡ true)

pub record OutlineRow (v : Visit) (s : Script) (may : List Bool) : Type 0 where
  pub marks : (k : ℕ) → k < kinds → (k ≡ sign_number UNBRACE → ⊥) → Marked v s k (get_or may k false)
  pub brace : get_or may (sign_number UNBRACE) false ≡ ends_here (outline_of s)
