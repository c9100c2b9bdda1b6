use native.Mathlib.Omega.{arith}
use Rattle.stretches.specs.Stretched.{BlanksAs}
use mathlib.Core.Path.{◌≡◌, subst, sym, ◌∙◌}
use mathlib.Core.Bool.{true}
use lib.ListN.{get_or, length}
use Rattle.stretches.specs.Literal.{space}
use Rattle.stretches.proofs.Nexts.{alone_space, alone_next, blank_space}
use Rattle.stretches.proofs.Stretching.{no_blank_yet, one_blank}
use Rattle.stretches.proofs.blanks.Goals as goal

pub loop-behind-init : goal.loop-behind-init
loop-behind-init c = no_blank_yet _ _ c.requires

pub returns-then-not-is_space : goal.returns-then-not-is_space
returns-then-not-is_space c = c.loop-behind.invariant

pub loop-behind-preserved : goal.loop-behind-preserved
loop-behind-preserved c =
    let part = c.args.part.now in
    let b = get_or part c.loop-behind.behind 0 in
    let spaced : space b ≡ true = sym c.is_space.ensures ∙ c.if-not-is_space.false in
    one_blank part c.args.from c.loop-behind.behind c.loop-behind.invariant _ _ (alone_next part c.loop-behind.behind (omega arith) (alone_space b spaced)) (blank_space b spaced)

pub returns : goal.returns
returns c =
    let a = c.args in
    let e : c.loop-behind.behind ≡ length a.part.now = omega arith in
    subst (BlanksAs a.part.now a.from) e c.loop-behind.invariant
