use mathlib.Core.Path.{◌∙◌, ap, refl, subst, sym}
use mathlib.Core.Bool.{Bool, ◌&&◌}
use native.Mathlib.Omega.{arith}
use Rattle.steps.specs.Parts.{PassesAs}
use Rattle.steps.proofs.Tokens.{not_blank, blank_passes, blank_read}
use Rattle.steps.specs.declared.Stepped.{Stepped}
use Rattle.steps.specs.Seen.{whole}
use Rattle.steps.proofs.Run.text.Goals as goal

-- By whether the character is white space, and whether that passes here.
-- Assumes nothing.
pub character-requires : goal.character-requires
character-requires c =
    record { laid_out = c.requires.laid_out; ready_at = c.requires.ready_at; char = c.requires.char; at_bound = omega (arith, c.requires.at_bound); count_bound = omega (arith, c.requires.count_le_most_visits) }

pub returns-then-not-literal-is_blank : goal.returns-then-not-literal-is_blank
returns-then-not-literal-is_blank c =
    not_blank c.args.literal c.args.c (ap (λ (b : Bool). c.args.literal && b) (sym c.is_blank.ensures) ∙ c.if-not-literal-is_blank.true) c.character.ensures

pub returns-then-passes : goal.returns-then-passes
returns-then-passes c =
    blank_passes c.args.literal c.args.c (subst (PassesAs _ _) c.if-passes.true c.passes.ensures) (ap (λ (b : Bool). c.args.literal && b) (sym c.is_blank.ensures) ∙ c.if-not-literal-is_blank.false) (ap (λ (y : Stepped). whole y c.args.stack.now) c.refuse.ensures) refl

pub character-requires-2 : goal.character-requires-2
character-requires-2 c =
    record { laid_out = c.requires.laid_out; ready_at = c.requires.ready_at; char = c.requires.char; at_bound = omega (arith, c.requires.at_bound); count_bound = omega (arith, c.requires.count_le_most_visits) }

pub returns : goal.returns
returns c =
    blank_read c.args.literal c.args.c (subst (PassesAs _ _) c.if-passes.false c.passes.ensures) (ap (λ (b : Bool). c.args.literal && b) (sym c.is_blank.ensures) ∙ c.if-not-literal-is_blank.false) c.character-2.ensures
