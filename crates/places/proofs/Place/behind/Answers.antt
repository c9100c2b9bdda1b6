use Rattle.std.proofs.Common.{◌≡◌, ◌+◌, ◌%◌, ◌^◌, [], ap, ◌∙◌, mod-eq_of_lt, arith}
use Rattle.places.specs.Lines.{ends_line, line_ends}
use Rattle.places.proofs.Laws.{count_few}
use Rattle.places.proofs.Place.behind.Goals as goal

pub returns : goal.returns
returns c =
    let s = c.args.bytes.now in
    let ends = c.line_ends.ensures in
    let fits : (1 + line_ends s) % 2 ^ 64 ≡ 1 + line_ends s = mod-eq_of_lt (omega (arith, count_few ends_line s)) in
    c.after.ensures [] (omega arith) c.start-start.ensures
    (c.wrapping_add_u64.ensures.value ∙ ap (λ n. (1 + n) % 2 ^ 64) ends ∙ fits)
