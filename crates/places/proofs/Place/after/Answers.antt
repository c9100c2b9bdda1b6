use Rattle.std.proofs.Common.{◌≡◌, ◌+◌, ◌-◌, ◌%◌, ◌^◌, length, drop, refl, ap, ◌∙◌, arith, length-drop, take_all}
use Rattle.places.specs.Lines.{characters_in}
use Rattle.places.proofs.Laws.{on_line, on_new_line, passes}
use Rattle.places.proofs.Place.after.Goals as goal
use Rattle.places.proofs.Place.after.Goals.{then-from-eq0, else-from-eq0}

pub returns : goal.returns
returns c = λ u short is line.
    let args = c.args in
    let last = c.last_line-from in
    let column = c.if-from-eq0 in
    let new = characters_in (drop last.result args.bytes.now) in
    let counted : c.characters.result ≡ new =
    c.characters.ensures
    ∙ ap characters_in (take_all (length args.bytes.now - last.result) (drop last.result args.bytes.now) (omega (arith, length-drop last.result args.bytes.now))) in
    passes u args.bytes.now args.self _ _ (column.column + new) short is line
    (elim c.if-from-eq0.branch [
      | then-from-eq0 w ↦ on_line u _ _ last.result column.column is last.ensures w.if-from-eq0.true w.column-is
      | else-from-eq0 w ↦ on_new_line u _ last.result column.column last.ensures w.if-from-eq0.false w.column-is
    ])
    c.wrapping_add_u64.ensures.value
    refl
    (c.wrapping_add_u64-2.ensures.value ∙ ap (λ n. (column.column + n) % 2 ^ 64) counted)
