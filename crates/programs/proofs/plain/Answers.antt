use native.Mathlib.Omega.{arith}
use mathlib.Core.Path.{refl}
use mathlib.Core.Logic.{inl, inr}
use Prim.Native.Nat.{◌+◌}
use Rattle.programs.specs.Program.{reject}
use Rattle.tells.proofs.Laws.{told, not_told}
use Rattle.programs.proofs.Forms.{one_of_two, ten_apart, byte_whole, text_whole, tag_at, echo_at, no_tag, no_text, no_statement}
use Rattle.programs.proofs.plain.Goals as goal

-- By the first byte, which tells the form: the statement with the bytes that follow, where these are within the limits, and none otherwise.
-- Assumes nothing.
pub returns-in-4 : goal.returns-in-4
returns-in-4 c = byte_whole c.args.s.now c.args.i c.requires.0 c.args.tags c.args.strings.now 4 reject c.in-4.is refl tt refl c.for_both.ensures.next_is c.for_both.ensures.first_is c.for_both.ensures.second_is

pub returns-then-text_range : goal.returns-then-text_range
returns-then-text_range c =
    let w = told c.text_range.ensures c.if-text_range.true in
    text_whole c.args.s.now c.args.i c.requires.0 c.args.tags c.args.strings.now c.in-7.is w.0 (omega (arith, c.shared_slice_known-3-1.given (c.args.i + 1))) w.1 c.for_both-then-text_range.ensures

pub returns-else-text_range : goal.returns-else-text_range
returns-else-text_range c =
    no_text c.args.s.now c.args.i c.requires.0 c.args.tags c.args.strings.now c.in-7.is (not_told c.text_range.ensures c.if-text_range.false)

pub returns-then-tag_number : goal.returns-then-tag_number
returns-then-tag_number c =
    let w = told c.tag_number.ensures c.if-tag_number.true in
    tag_at c.args.s.now c.args.i c.requires.0 c.args.tags c.args.strings.now (one_of_two 5 _ (omega arith) (omega arith)) w.0 w.1 c.for_both-then-tag_number.ensures

pub returns-else-tag_number : goal.returns-else-tag_number
returns-else-tag_number c =
    no_tag c.args.s.now c.args.i c.requires.0 c.args.tags c.args.strings.now (one_of_two 5 _ (omega arith) (omega arith)) (not_told c.tag_number.ensures c.if-tag_number.false)

pub returns-in-8 : goal.returns-in-8
returns-in-8 c =
    echo_at c.args.s.now c.args.i c.requires.0 c.args.tags c.args.strings.now (one_of_two 8 _ (omega arith) (omega arith))

pub returns-in_default : goal.returns-in_default
returns-in_default c =
    no_statement c.args.s.now c.args.i c.requires.0 c.args.tags c.args.strings.now (inl (omega arith))

pub returns-in_default-2 : goal.returns-in_default-2
returns-in_default-2 c =
    no_statement c.args.s.now c.args.i c.requires.0 c.args.tags c.args.strings.now (inr (ten_apart _ (omega arith) c.requires.1))
