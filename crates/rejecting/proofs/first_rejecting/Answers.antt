use borrow.Author.Tests.{not-true, not-false}
use mathlib.Core.Path.{◌≡◌, sym, subst}
use Prim.Native.Nat.{ℕ, ◌+◌}
use native.Mathlib.Omega.{arith}
use native.Mathlib.Numerals.{add-one}
use lib.ListN.{length, length-take}
use lib.Seq.{length-take-le}
use Rattle.live.specs.Live.{full}
use Rattle.rejecting.specs.Told.{FirstBracketAs}
use Rattle.rejecting.proofs.Rows.{none_yet, one_more, rejects_here, none_rejects}
use borrow.Author.Rules.{rules}
use Rattle.rejecting.proofs.first_rejecting.Goals as goal

pub loop-i-init : goal.loop-i-init
loop-i-init c =
    let a = c.args in
    λ b. none_yet a.s.now a.q a.line.now (full a.z b)

pub overflow_add-end : goal.overflow_add-end
overflow_add-end c = search rules

pub slice_bounds-brackets-end : goal.slice_bounds-brackets-end
slice_bounds-brackets-end c =
    let n = c.loop-i.i in
    sym (length-take-le (n + 1) c.args.line.now (omega arith))

pub slice_bounds-brackets-end-in-loop-i : goal.slice_bounds-brackets-end-in-loop-i
slice_bounds-brackets-end-in-loop-i c = search rules

pub brackets-requires : goal.brackets-requires
brackets-requires c =
    let n = c.loop-i.i in
    record { laid_out = c.requires.laid_out; q_lt_productions = c.requires.q_lt_productions; line_len_bound = omega (arith, c.requires.line_len_bound, length-take (n + 1) c.args.line.now); at_bound = omega arith; count_bound = omega (arith, c.requires.count_bound); well_formed = c.requires.well_formed }

pub returns-in_default : goal.returns-in_default
returns-in_default c =
    let a = c.args in
    let l = c.loop-i in
    λ b. rejects_here a.s.now a.q a.line.now (full a.z b) l.i (l.i + 1) (add-one l.i) (omega arith) (l.invariant b) (rw c.in_default.is at (c.brackets.ensures b))

pub loop-i-preserved : goal.loop-i-preserved
loop-i-preserved c =
    let a = c.args in
    let l = c.loop-i in
    λ b. one_more a.s.now a.q a.line.now (full a.z b) (l.i + 1) (rw c.in-Some.is at (c.brackets.ensures b))

pub returns : goal.returns
returns c =
    let a = c.args in
    let l = c.loop-i in
    let e : l.i ≡ length a.line.now = omega arith in
    λ b. subst (λ (n : ℕ). FirstBracketAs a.s.now a.q a.line.now (full a.z b) n) e (none_rejects a.s.now a.q a.line.now (full a.z b) l.i (omega arith) (l.invariant b))
