use Rattle.std.proofs.Common.{◌≡◌, ◌++◌, length, replicate, arith, length-append, rules}
use Rattle.behind.specs.Tails.{most_kept}
use Rattle.behind.proofs.TailLaws.{filled_none, filled_on, filled_all}
use Rattle.behind.proofs.Tail.after.Goals as goal

pub loop-j-init : goal.loop-j-init
loop-j-init c = (search rules, filled_none (c.args.self.bytes ++ c.args.passed.now) (replicate most_kept 0) (search rules))

pub loop-j-preserved : goal.loop-j-preserved
loop-j-preserved c =
    let at = c.loop-j in
    let args = c.args in
    let kept : length args.self.bytes ≡ most_kept = search rules in
    let all = args.self.bytes ++ args.passed.now in (
      search rules,
      filled_on all at.bytes at.j _ (search rules) at.invariant.0 (omega (arith, length-append args.self.bytes args.passed.now)) c.from_end.ensures at.invariant.1,
    )

pub returns : goal.returns
returns c =
    let at = c.loop-j in
    let args = c.args in
    filled_all args.self args.passed.now at.bytes at.j _ c.loop-j-test.false (search rules) at.invariant.1 (omega arith)
