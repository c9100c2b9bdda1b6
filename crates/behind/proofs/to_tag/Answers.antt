use Rattle.std.proofs.Common.{◌<◌, length, sym, refl, ◌∙◌, rules}
use Rattle.behind.proofs.LineLaws.{line_ends_lem, line_same, no_line_end, before_on, line_on, found, ended}
use Rattle.behind.proofs.to_tag.Goals as goal
use Rattle.behind.proofs.to_tag.Goals.{then-b-le-CARRIAGE_RETURN+then-ends_line, then-b-le-CARRIAGE_RETURN+else-ends_line, else-b-le-CARRIAGE_RETURN}

pub loop-i-init : goal.loop-i-init
loop-i-init c = (refl, refl)

pub returns-then-b-eq60 : goal.returns-then-b-eq60
returns-then-b-eq60 c =
    let at = c.loop-i in
    found _ _ _ at.i at.here (search rules) c.if-b-eq60.true (search rules) at.invariant.0 at.invariant.1

pub loop-i-preserved : goal.loop-i-preserved
loop-i-preserved c =
    let at = c.loop-i in
    let s = c.args.bytes.now in
    let below : at.i < length s = search rules in (
      before_on _ at.i _ below c.if-b-eq60.false at.invariant.0,
      line_on _ at.i at.here c.if-b-le-CARRIAGE_RETURN.here _ below c.if-b-eq60.false at.invariant.1
          (elim c.if-b-le-CARRIAGE_RETURN.branch [
            | then-b-le-CARRIAGE_RETURN+then-ends_line w ↦ line_ends_lem _ _ at.here _ (sym w.ends_line.ensures ∙ w.if-ends_line.true) (w.here-is ∙ w.wrapping_add_u64-here.ensures.value)
            | then-b-le-CARRIAGE_RETURN+else-ends_line w ↦ line_same _ _ at.here _ (sym w.ends_line.ensures ∙ w.if-ends_line.false) w.here-is
            | else-b-le-CARRIAGE_RETURN w ↦ line_same _ _ at.here _ (no_line_end _ _ w.if-b-le-CARRIAGE_RETURN.false) w.here-is
          ]),
    )

pub returns : goal.returns
returns c =
    let at = c.loop-i in
    ended _ _ _ at.i at.here c.loop-i-test.false (search rules) (search rules) at.invariant.0 at.invariant.1
