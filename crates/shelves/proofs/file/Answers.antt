use mathlib.Core.Path.{refl}
use Rattle.std.specs.Prelude.{Some, None}
use native.Mathlib.Omega.{arith}
use Rattle.shelves.proofs.Files.{filed_string, filed_program, filed_tag, filed_low, filed_high}
use borrow.Author.Rules.{rules}
use Rattle.shelves.proofs.file.Goals as goal

-- A row of a sort is filed among its own, or has no room there.
pub returns-then-kind-eq9 : goal.returns-then-kind-eq9
returns-then-kind-eq9 c = filed_string c.args.kind c.args.row.now c.args.old c.args.tags.now c.args.tagends.now c.args.strings.now c.args.stringends.now c.args.programs.now c.args.programends.now c.requires _ _ (Some _) _ refl c.if-kind-eq9.true c.in_ok-a.ensures

pub returns-in_err-a : goal.returns-in_err-a
returns-in_err-a c = filed_string c.args.kind c.args.row.now c.args.old c.args.tags.now c.args.tagends.now c.args.strings.now c.args.stringends.now c.args.programs.now c.args.programends.now c.requires _ _ None _ c.from_residual.ensures c.if-kind-eq9.true c.in_err-a.ensures

pub returns-then-kind-eq28 : goal.returns-then-kind-eq28
returns-then-kind-eq28 c = filed_program c.args.kind c.args.row.now c.args.old c.args.tags.now c.args.tagends.now c.args.strings.now c.args.stringends.now c.args.programs.now c.args.programends.now c.requires _ _ (Some _) _ refl c.if-kind-eq28.true c.in_ok-a-2.ensures

pub returns-in_err-a-2 : goal.returns-in_err-a-2
returns-in_err-a-2 c = filed_program c.args.kind c.args.row.now c.args.old c.args.tags.now c.args.tagends.now c.args.strings.now c.args.stringends.now c.args.programs.now c.args.programends.now c.requires _ _ None _ c.from_residual-in_err-a-2.ensures c.if-kind-eq28.true c.in_err-a-2.ensures

pub returns-then-kind-lt5 : goal.returns-then-kind-lt5
returns-then-kind-lt5 c = search (filed_low, rules)

pub returns-then-kind-lt9 : goal.returns-then-kind-lt9
returns-then-kind-lt9 c = filed_tag c.args.kind c.args.row.now c.args.old c.args.tags.now c.args.tagends.now c.args.strings.now c.args.stringends.now c.args.programs.now c.args.programends.now c.requires _ _ (Some _) _ refl (omega (arith, c.if-kind-lt5.false)) c.if-kind-lt9.true c.in_ok-a-3.ensures

pub returns-in_err-a-3 : goal.returns-in_err-a-3
returns-in_err-a-3 c = filed_tag c.args.kind c.args.row.now c.args.old c.args.tags.now c.args.tagends.now c.args.strings.now c.args.stringends.now c.args.programs.now c.args.programends.now c.requires _ _ None _ c.from_residual-in_err-a-3.ensures (omega (arith, c.if-kind-lt5.false)) c.if-kind-lt9.true c.in_err-a-3.ensures

pub returns : goal.returns
returns c = search (filed_high, rules)
