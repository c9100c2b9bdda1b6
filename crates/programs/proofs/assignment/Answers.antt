use native.Mathlib.Omega.{arith}
use mathlib.Core.Path.{refl}
use mathlib.Core.Logic.{inl}
use Prim.Native.Nat.{◌+◌}
use lib.ListN.{get_or}
use Rattle.programs.specs.Program.{become, copy, recall}
use Rattle.tells.proofs.Laws.{told, not_told}
use Rattle.programs.proofs.Forms.{two_whole, no_become, no_copy, no_recall, no_statement}
use Rattle.programs.proofs.assignment.Goals as goal

-- By the first byte, which tells the form: the statement with the two numbers that follow, where these are within the limits, and none otherwise.
-- Assumes nothing.
pub returns-then-two_numbers : goal.returns-then-two_numbers
returns-then-two_numbers c =
    let w = told c.two_numbers.ensures c.if-two_numbers.true in
    two_whole c.args.s.now c.args.i c.requires.0 c.args.tags c.args.strings.now 1 (become (get_or c.args.s.now (c.args.i + 1) 0) (get_or c.args.s.now (c.args.i + 2) 0)) w.0 c.in-1.is refl (w.1, w.2) refl c.for_both.ensures.next_is c.for_both.ensures.first_is c.for_both.ensures.second_is

pub returns-else-two_numbers : goal.returns-else-two_numbers
returns-else-two_numbers c =
    no_become c.args.s.now c.args.i c.requires.0 c.args.tags c.args.strings.now c.in-1.is (not_told c.two_numbers.ensures c.if-two_numbers.false)

pub returns-then-two_numbers-2 : goal.returns-then-two_numbers-2
returns-then-two_numbers-2 c =
    let w = told c.two_numbers-in-2.ensures c.if-two_numbers-2.true in
    two_whole c.args.s.now c.args.i c.requires.0 c.args.tags c.args.strings.now 2 (copy (get_or c.args.s.now (c.args.i + 1) 0) (get_or c.args.s.now (c.args.i + 2) 0)) w.0 c.in-2.is refl (w.1, w.2) refl c.for_both-then-two_numbers-2.ensures.next_is c.for_both-then-two_numbers-2.ensures.first_is c.for_both-then-two_numbers-2.ensures.second_is

pub returns-else-two_numbers-2 : goal.returns-else-two_numbers-2
returns-else-two_numbers-2 c =
    no_copy c.args.s.now c.args.i c.requires.0 c.args.tags c.args.strings.now c.in-2.is (not_told c.two_numbers-in-2.ensures c.if-two_numbers-2.false)

pub returns-then-two_numbers-3 : goal.returns-then-two_numbers-3
returns-then-two_numbers-3 c =
    let w = told c.two_numbers-in-3.ensures c.if-two_numbers-3.true in
    two_whole c.args.s.now c.args.i c.requires.0 c.args.tags c.args.strings.now 3 (recall (get_or c.args.s.now (c.args.i + 1) 0) (get_or c.args.s.now (c.args.i + 2) 0)) w.0 c.in-3.is refl (w.1, w.2) refl refl refl refl

pub returns-else-two_numbers-3 : goal.returns-else-two_numbers-3
returns-else-two_numbers-3 c =
    no_recall c.args.s.now c.args.i c.requires.0 c.args.tags c.args.strings.now c.in-3.is (not_told c.two_numbers-in-3.ensures c.if-two_numbers-3.false)

pub returns-in_default : goal.returns-in_default
returns-in_default c =
    no_statement c.args.s.now c.args.i c.requires.0 c.args.tags c.args.strings.now (inl (omega arith))
