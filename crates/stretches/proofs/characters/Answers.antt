use mathlib.Core.Path.{sym, ◌∙◌}
use mathlib.Core.Bool.{true}
use Prim.Native.Nat.{◌-◌}
use native.Mathlib.Omega.{arith}
use lib.ListN.{length}
use Rattle.tokens.specs.Tokens.{front}
use Rattle.tokens.proofs.Streams.{event_char}
use Rattle.stretches.proofs.Nexts.{allowed_is, stands, onward}
use Rattle.stretches.proofs.Stretching.{none_yet, one_more}
use Rattle.stretches.proofs.characters.Goals as goal

pub loop-far-init : goal.loop-far-init
loop-far-init c =
    none_yet c.args.part.now c.args.from c.args.on c.args.k c.args.n c.args.out.now c.args.put c.requires.from_in_bounds c.requires.put_in_bounds c.requires.n_le_most_visits

pub plains-far-requires : goal.plains-far-requires
plains-far-requires c =
    let l = c.loop-far in
    record { at_in_bounds = l.invariant.within; put_in_bounds = omega (arith, l.invariant.room, l.invariant.long); k_le_most_visits = c.requires.k_le_most_visits; count_le_most_visits = l.invariant.count }

pub shape_of-out-then-tag_or_end : goal.shape_of-out-then-tag_or_end
shape_of-out-then-tag_or_end c = (c.plains-far.ensures.carries _ _ _ _ c.loop-far.invariant).long

pub returns-then-tag_or_end : goal.returns-then-tag_or_end
returns-then-tag_or_end c = c.plains-far.ensures.carries _ _ _ _ c.loop-far.invariant

pub read_literal-requires : goal.read_literal-requires
read_literal-requires c = (c.plains-far.ensures.carries _ _ _ _ c.loop-far.invariant).within

pub shape_of-out-in_default : goal.shape_of-out-in_default
shape_of-out-in_default c = (c.plains-far.ensures.carries _ _ _ _ c.loop-far.invariant).long

pub returns-in_default : goal.returns-in_default
returns-in_default c = c.plains-far.ensures.carries _ _ _ _ c.loop-far.invariant

pub overflow_sub-out : goal.overflow_sub-out
overflow_sub-out c = let e = c.plains-far.ensures.carries _ _ _ _ c.loop-far.invariant in omega (arith, e.room, e.long)

pub shape_of-out-then-not-allowed : goal.shape_of-out-then-not-allowed
shape_of-out-then-not-allowed c = (c.plains-far.ensures.carries _ _ _ _ c.loop-far.invariant).long

pub returns-then-not-allowed : goal.returns-then-not-allowed
returns-then-not-allowed c = c.plains-far.ensures.carries _ _ _ _ c.loop-far.invariant

pub show-to-requires : goal.show-to-requires
show-to-requires c =
    let part = c.args.part.now in
    let e = c.plains-far.ensures.carries _ _ _ _ c.loop-far.invariant in
    let here = stands part c.plains-far.result.at c.read_literal.result c.read_literal.ensures _ c.in-Some.is in
    let may = allowed_is c.args.k c.plains-far.result.count (length c.plains-far.new.out - c.plains-far.result.put) c.plains-far.result.put c.requires.k_le_most_visits (sym c.allowed.ensures ∙ c.if-not-allowed.false) in
    record { at_le_farthest = may.reach; char = event_char (front part c.plains-far.result.at) c.plains-far.result.at _ true _ here.0 }

pub overflow_add-count : goal.overflow_add-count
overflow_add-count c = let e = c.plains-far.ensures.carries _ _ _ _ c.loop-far.invariant in omega (arith, e.count, c.requires.k_le_most_visits)

pub overflow_add-at : goal.overflow_add-at
overflow_add-at c =
    let part = c.args.part.now in
    let e = c.plains-far.ensures.carries _ _ _ _ c.loop-far.invariant in
    let here = stands part c.plains-far.result.at c.read_literal.result c.read_literal.ensures _ c.in-Some.is in
    omega (arith, onward part c.plains-far.result.at _ _ e.within here)

pub loop-far-smaller : goal.loop-far-smaller
loop-far-smaller c =
    let part = c.args.part.now in
    let e = c.plains-far.ensures.carries _ _ _ _ c.loop-far.invariant in
    let here = stands part c.plains-far.result.at c.read_literal.result c.read_literal.ensures _ c.in-Some.is in
    omega (arith, c.plains-far.ensures.forward, onward part c.plains-far.result.at _ _ e.within here)

pub loop-far-preserved : goal.loop-far-preserved
loop-far-preserved c =
    let part = c.args.part.now in
    let e = c.plains-far.ensures.carries _ _ _ _ c.loop-far.invariant in
    let here = stands part c.plains-far.result.at c.read_literal.result c.read_literal.ensures _ c.in-Some.is in
    let may = allowed_is c.args.k c.plains-far.result.count (length c.plains-far.new.out - c.plains-far.result.put) c.plains-far.result.put c.requires.k_le_most_visits (sym c.allowed.ensures ∙ c.if-not-allowed.false) in
    one_more part c.args.from c.args.on c.args.k c.args.n c.args.out.now c.args.put
    c.plains-far.result.at c.plains-far.result.put c.plains-far.result.count _ e _ _ here may.visits (omega (arith, may.longest, e.long, e.room)) _ _ c.show-to.ensures
