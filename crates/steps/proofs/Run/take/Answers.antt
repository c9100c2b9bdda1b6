use mathlib.Core.Path.{◌≡◌, refl, sym, ap, ◌∙◌}
use native.Mathlib.Omega.{arith}
use lib.ListN.{length, length-take}
use lib.Seq.{length-take-le}
use Rattle.lent.proofs.Laws.{put_length}
use Rattle.state.specs.declared.State.{State}
use Rattle.live.proofs.Stacks.{full_same}
use Rattle.steps.specs.declared.Stepped.{Stepped}
use Rattle.steps.specs.Seen.{whole}
use Rattle.steps.proofs.Takings.{ready_still, as_dry, take_refused, take_counted, take_full, take_copied, take_done}
use borrow.Author.Rules.{rules}
use Rattle.steps.proofs.Run.take.Goals as goal

-- The token is run into memory of its own first; each test that fails after that is a refusal. Then its output is copied, or, where it is longer than that memory, the
-- token is run once more, from a state that reads the same of the stack.
-- Assumes nothing.
pub token-once-requires : goal.token-once-requires
token-once-requires c =
    record { laid_out = c.requires.laid_out; ready_at = c.requires.ready_at; event_in = c.requires.event_in; at_bound = omega arith; count_le_most_visits = c.requires.count_le_most_visits }

pub returns-then-once-ne0 : goal.returns-then-once-ne0
returns-then-once-ne0 c =
    let b = c.token-once.new.stack in
    record { stepped = take_refused c.requires.at_in_bounds c.requires.count_le_most_visits _ _ (as_dry c.args.out.now c.token-once.ensures.stepped) c.if-once-ne0.true _ (ap (λ (y : Stepped). whole y b) c.refuse.ensures ∙ ap (λ (x : State). record { number = c.token-once.result.number; at = c.args.self.at; state = x }) (full_same c.args.self.live c.args.stack.now b c.token-once.ensures.below)); below = c.token-once.ensures.below; long = c.token-once.ensures.long }

pub returns-then-after-gt-MOST_VISITS : goal.returns-then-after-gt-MOST_VISITS
returns-then-after-gt-MOST_VISITS c =
    let b = c.token-once.new.stack in
    record { stepped = take_counted c.requires.at_in_bounds c.requires.count_le_most_visits _ _ (as_dry c.args.out.now c.token-once.ensures.stepped) c.if-once-ne0.false (omega (arith, c.if-after-gt-MOST_VISITS.true)) _ (ap (λ (y : Stepped). whole y b) c.refuse-then-after-gt-MOST_VISITS.ensures ∙ ap (λ (x : State). record { number = 30; at = c.args.self.at; state = x }) (full_same c.args.self.live c.args.stack.now b c.token-once.ensures.below)); below = c.token-once.ensures.below; long = c.token-once.ensures.long }

pub overflow_sub-out : goal.overflow_sub-out
overflow_sub-out c =
    omega (arith, c.requires.at_in_bounds)

pub returns-then-out-at : goal.returns-then-out-at
returns-then-out-at c =
    let b = c.token-once.new.stack in
    record { stepped = take_full c.requires.at_in_bounds c.requires.count_le_most_visits _ _ (as_dry c.args.out.now c.token-once.ensures.stepped) c.if-once-ne0.false (omega (arith, c.if-after-gt-MOST_VISITS.false)) (omega (arith, c.if-out-at.true, c.requires.at_in_bounds)) _ (ap (λ (y : Stepped). whole y b) c.refuse-then-out-at.ensures ∙ ap (λ (x : State). record { number = 17; at = c.args.self.at; state = x }) (full_same c.args.self.live c.args.stack.now b c.token-once.ensures.below)); below = c.token-once.ensures.below; long = c.token-once.ensures.long }

pub slice_bounds-put_bytes-end : goal.slice_bounds-put_bytes-end
slice_bounds-put_bytes-end c =
    let k : length c.token-once.new.out ≡ 64 = search rules in
    sym (length-take-le c.token-once.result.at c.token-once.new.out (omega (arith, c.if-n-le-SCRATCH.true, k)))

pub put_bytes-requires : goal.put_bytes-requires
put_bytes-requires c =
    omega (arith, length-take c.token-once.result.at c.token-once.new.out, c.if-n-le-SCRATCH.true, c.requires.at_in_bounds)

pub overflow_add-result : goal.overflow_add-result
overflow_add-result c =
    omega (arith, c.requires.at_in_bounds, c.if-out-at.false)

pub shape_of-stack-then-n-le-SCRATCH : goal.shape_of-stack-then-n-le-SCRATCH
shape_of-stack-then-n-le-SCRATCH c =
    c.token-once.ensures.long

pub shape_of-out-then-n-le-SCRATCH : goal.shape_of-out-then-n-le-SCRATCH
shape_of-out-then-n-le-SCRATCH c =
    ap length c.put_bytes.ensures.left ∙ put_length _ _ _ _

pub returns-then-n-le-SCRATCH : goal.returns-then-n-le-SCRATCH
returns-then-n-le-SCRATCH c =
    record { stepped = take_copied c.requires.at_in_bounds c.requires.count_le_most_visits _ _ (as_dry c.args.out.now c.token-once.ensures.stepped) c.if-once-ne0.false (omega (arith, c.if-after-gt-MOST_VISITS.false)) (omega (arith, c.if-out-at.false, c.requires.at_in_bounds)) _ _ c.token-once.ensures.stepped (omega (arith, c.if-n-le-SCRATCH.true)) _ _ c.put_bytes.ensures _ refl; below = c.token-once.ensures.below; long = c.token-once.ensures.long }

pub slice_bounds-token-count : goal.slice_bounds-token-count
slice_bounds-token-count c =
    omega (arith, c.requires.at_in_bounds)

pub slice_bounds-token-start : goal.slice_bounds-token-start
slice_bounds-token-start c =
    omega (arith, c.requires.at_in_bounds)

pub token-again-requires : goal.token-again-requires
token-again-requires c =
    let b = c.token-once.new.stack in
    record { laid_out = c.requires.laid_out; ready_at = ready_still (full_same c.args.self.live c.args.stack.now b c.token-once.ensures.below) c.token-once.ensures.long c.requires.ready_at; event_in = c.requires.event_in; at_bound = omega arith; count_le_most_visits = c.requires.count_le_most_visits }

pub overflow_add-result-2 : goal.overflow_add-result-2
overflow_add-result-2 c =
    omega (arith, c.requires.at_in_bounds, c.if-out-at.false)

pub shape_of-stack : goal.shape_of-stack
shape_of-stack c =
    c.token-again.ensures.long ∙ c.token-once.ensures.long

pub returns : goal.returns
returns c =
    let b = c.token-once.new.stack in
    record { stepped = take_done c.requires.at_in_bounds c.requires.count_le_most_visits _ _ (as_dry c.args.out.now c.token-once.ensures.stepped) c.if-once-ne0.false (omega (arith, c.if-after-gt-MOST_VISITS.false)) c.requires.ready_at.ready (omega (arith, c.if-out-at.false, c.requires.at_in_bounds)) _ (full_same c.args.self.live c.args.stack.now b c.token-once.ensures.below) _ _ c.token-again.ensures.stepped _ refl; below = λ i h. c.token-again.ensures.below i h ∙ c.token-once.ensures.below i h; long = c.token-again.ensures.long ∙ c.token-once.ensures.long }
