use native.Mathlib.Omega.{arith}
use Rattle.stretches.proofs.Nexts.{no_token, no_character, by_reference, read_character, reaches}
use Rattle.stretches.proofs.read_literal.Goals as goal

pub returns-in_default : goal.returns-in_default
returns-in_default c =
    no_token c.args.part.now c.args.at c.read-answer.result c.read-answer.ensures c.in_default.not-Token

pub returns-in_default-event : goal.returns-in_default-event
returns-in_default-event c =
    no_character c.args.part.now c.args.at c.read-answer.result c.read-answer.ensures _ _ c.in-Token.is c.in_default-event.not-Character

pub returns-then-not-literal : goal.returns-then-not-literal
returns-then-not-literal c =
    by_reference c.args.part.now c.args.at c.read-answer.result c.read-answer.ensures c.in-Token.event c.in-Token.next c.in-Token.is
    c.in-Character.c c.in-Character.literal c.in-Character.is c.if-not-literal.true

pub overflow_sub-result : goal.overflow_sub-result
overflow_sub-result c =
    omega (
      arith,
      reaches c.args.part.now c.args.at c.read-answer.result c.read-answer.ensures c.in-Token.event c.in-Token.next c.in-Token.is c.requires
          c.in-Character.c c.in-Character.literal c.in-Character.is c.if-not-literal.false,
    )

pub returns : goal.returns
returns c =
    read_character c.args.part.now c.args.at c.read-answer.result c.read-answer.ensures c.in-Token.event c.in-Token.next c.in-Token.is c.requires
    c.in-Character.c c.in-Character.literal c.in-Character.is c.if-not-literal.false
