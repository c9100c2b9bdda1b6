use native.Mathlib.Omega.{arith}
use mathlib.Core.Path.{sym, subst, ◌≡◌, ◌∙◌}
use lib.ListN.{take}
use Rattle.text.specs.Names.{Name}
use Rattle.lexing.proofs.Sorts.{name_one, name_more}
use Rattle.lexing.proofs.name_run.Goals as goal

pub returns-then-x-eq0 : goal.returns-then-x-eq0
returns-then-x-eq0 c = record { reached = omega arith; short = omega arith; named = λ l. absurd (omega arith); none = λ e l. absurd (omega arith); no_more = λ l m n. absurd (omega arith) }

pub loop-i-init : goal.loop-i-init
loop-i-init c = (omega arith, name_one c.args.x.now (omega arith) (sym c.name_first.ensures ∙ c.if-name_first.true))

pub returns-then-i-x : goal.returns-then-i-x
returns-then-i-x c = record { reached = omega arith; short = omega arith; named = λ l. c.loop-i.invariant.1; none = λ e l. absurd (omega arith); no_more = λ l m n. absurd (omega arith) }

pub loop-i-preserved : goal.loop-i-preserved
loop-i-preserved c = (omega arith, name_more c.args.x.now c.loop-i.i (omega arith) c.loop-i.invariant.1 (sym c.name_byte.ensures ∙ c.if-not-name_byte.false))

pub returns-then-not-name_byte : goal.returns-then-not-name_byte
returns-then-not-name_byte c = record { reached = omega arith; short = omega arith; named = λ l. c.loop-i.invariant.1; none = λ e l. absurd (omega arith); no_more = λ l m n. sym c.name_byte.ensures ∙ c.if-not-name_byte.true }

pub returns-then-name_first : goal.returns-then-name_first
returns-then-name_first c = let e : c.loop-i.i ≡ 15 = omega arith in record { reached = omega arith; short = omega arith; named = λ l. subst (λ n. Name (take n c.args.x.now)) e c.loop-i.invariant.1; none = λ e l. absurd (omega arith); no_more = λ l m n. absurd (omega arith) }

pub returns : goal.returns
returns c = record { reached = omega arith; short = omega arith; named = λ l. absurd (omega arith); none = λ e l. sym c.name_first.ensures ∙ c.if-name_first.false; no_more = λ l m n. absurd (omega arith) }
