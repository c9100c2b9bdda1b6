use Rattle.std.proofs.Common.{◌-◌, length, drop, refl, subst, arith, length-drop, take_all}
use Rattle.places.specs.Lines.{GoesOnTo}
use Rattle.places.specs.Shown.{most_shown}
use Rattle.places.proofs.ShownLaws.{shown_whole, shown_last}
use Rattle.places.proofs.shown_before.Goals as goal

-- All of the line, or the last bytes of it.
pub returns-then-bytes-start-le-BEFORE : goal.returns-then-bytes-start-le-BEFORE
returns-then-bytes-start-le-BEFORE c = shown_whole _ _ c.last_line-start.ensures c.if-bytes-start-le-BEFORE.true

pub returns : goal.returns
returns c =
    let s = c.args.bytes.now in
    let from = length s - most_shown in
    shown_last s _ from _ c.last_line-start.ensures c.if-bytes-start-le-BEFORE.false refl
    (subst (λ l. GoesOnTo l c.rest_of_character.result) (take_all (length s - from) (drop from s) (omega (arith, length-drop from s))) c.rest_of_character.ensures)
