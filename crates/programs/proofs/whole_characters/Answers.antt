use mathlib.Core.Path.{sym, ◌∙◌, subst}
use native.Mathlib.Omega.{arith}
use lib.ListN.{length-drop}
use borrow.Author.Tests.{eqb-true, eqb-false}
use Rattle.text.specs.Characters.{WholeCharacters}
use Rattle.tells.specs.Tells.{holds, fails}
use Rattle.programs.proofs.Characters.{tail, whole_nothing, past_character, no_character}
use Rattle.programs.proofs.whole_characters.Goals as goal

pub returns-in_default : goal.returns-in_default
returns-in_default c =
    let z = eqb-false _ _ (sym c.is_empty.ensures ∙ c.loop-rest-test.true) in
    fails (λ w. no_character c.loop-rest.rest.now c.decode.result c.decode.ensures (λ d n q. c.in_default.not-Whole d n q) (omega arith) (c.loop-rest.invariant.1 w))

pub loop-rest-smaller : goal.loop-rest-smaller
loop-rest-smaller c =
    let p = past_character c.loop-rest.rest.now _ _ (rw c.in-Whole.is at c.decode.ensures) in
    rw (tail c.loop-rest.rest.now c.in-Whole.n) (omega (arith, length-drop c.in-Whole.n c.loop-rest.rest.now))

pub loop-rest-preserved : goal.loop-rest-preserved
loop-rest-preserved c =
    let p = past_character c.loop-rest.rest.now _ _ (rw c.in-Whole.is at c.decode.ensures) in
    let e = tail c.loop-rest.rest.now c.in-Whole.n in
    (λ w. c.loop-rest.invariant.0 (p.2 (subst WholeCharacters e w)), λ w. subst WholeCharacters (sym e) (p.3 (c.loop-rest.invariant.1 w)))

pub returns : goal.returns
returns c = holds (c.loop-rest.invariant.0 (whole_nothing c.loop-rest.rest.now (eqb-true _ _ (sym c.is_empty.ensures ∙ c.loop-rest-test.false))))
