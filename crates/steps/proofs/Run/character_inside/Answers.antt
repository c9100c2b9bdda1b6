use mathlib.Core.Path.{◌∙◌, ap, refl, sym}
use native.Mathlib.Omega.{arith}
use Rattle.steps.proofs.Tops.{follows, well, runs_in, top_inside, top_few, top_way, place_below}
use Rattle.steps.proofs.Letters.{char_no_way, char_rejected, char_done}
use Rattle.live.specs.Live.{full}
use Rattle.live.proofs.Stacks.{top_full}
use Rattle.steps.specs.declared.Stepped.{Stepped}
use Rattle.steps.specs.Seen.{whole}
use mathlib.Core.Path.{◌≡◌}
use lib.ListN.{length, take}
use lib.Seq.{length-take-le}
use Rattle.steps.proofs.Run.character_inside.Goals as goal

-- Inside an element: no way to a character, a visit that rejects; else the character is read.
-- Assumes nothing.
pub find_way-requires : goal.find_way-requires
find_way-requires c =
    record { laid_out = c.requires.laid_out; runs_inside = runs_in c.requires.ready_at.ready; trees = (well c.requires.ready_at.ready).trees; follows_s = follows c.requires.ready_at.ready; q_lt_productions = top_inside c.requires.ready_at.ready c.requires.depth_nonzero (c.top-f.ensures ∙ sym (top_full c.args.self.live c.args.stack.now c.requires.depth_nonzero)) c.requires.laid_out; q_bound = top_few c.requires.ready_at.ready c.requires.depth_nonzero (c.top-f.ensures ∙ sym (top_full c.args.self.live c.args.stack.now c.requires.depth_nonzero)); most_brackets_in_bounds = omega arith }

pub returns-in_default : goal.returns-in_default
returns-in_default c =
    char_no_way _ c.requires.depth_nonzero (top_way c.args.s.now (full c.args.self.live c.args.stack.now) (c.top-f.ensures ∙ sym (top_full c.args.self.live c.args.stack.now c.requires.depth_nonzero)) c.in_default.ensures.told) (ap (λ (y : Stepped). whole y c.args.stack.now) c.refuse.ensures) refl

pub slice_bounds-line-end : goal.slice_bounds-line-end
slice_bounds-line-end c =
    omega (arith, c.in-Some.ensures.few)

pub slice_bounds-follow-end : goal.slice_bounds-follow-end
slice_bounds-follow-end c =
    let long : length (take c.in-Some.w.length c.find_way.new.line) ≡ c.in-Some.w.length =
    length-take-le c.in-Some.w.length c.find_way.new.line (omega (arith, c.in-Some.ensures.few, c.in-Some.ensures.long)) in
    sym long

pub follow-requires : goal.follow-requires
follow-requires c =
    let long : length (take c.in-Some.w.length c.find_way.new.line) ≡ c.in-Some.w.length =
    length-take-le c.in-Some.w.length c.find_way.new.line (omega (arith, c.in-Some.ensures.few, c.in-Some.ensures.long)) in
    record { laid_out = c.requires.laid_out; ready_at = c.requires.ready_at; depth_nonzero = c.requires.depth_nonzero; place_bound = place_below c.requires.ready_at.ready c.requires.depth_nonzero (top_way c.args.s.now (full c.args.self.live c.args.stack.now) (c.top-f.ensures ∙ sym (top_full c.args.self.live c.args.stack.now c.requires.depth_nonzero)) c.in-Some.ensures.told); line_len_bound = omega (arith, long, c.in-Some.ensures.few); at_bound = c.requires.at_bound; count_bound = c.requires.count_bound }

pub returns-in_default-follow : goal.returns-in_default-follow
returns-in_default-follow c =
    char_rejected _ c.requires.depth_nonzero (top_way c.args.s.now (full c.args.self.live c.args.stack.now) (c.top-f.ensures ∙ sym (top_full c.args.self.live c.args.stack.now c.requires.depth_nonzero)) c.in-Some.ensures.told) (rw c.in_default-follow.is at c.follow.ensures) refl (ap (λ (y : Stepped). whole y c.args.stack.now) c.refuse-in_default-follow.ensures)

pub read_character-read-requires : goal.read_character-read-requires
read_character-read-requires c =
    record { at_bound = omega (arith, c.requires.at_bound, (rw c.in-Some-follow.is at c.follow.ensures).reach); char = c.requires.char }

pub returns : goal.returns
returns c =
    char_done _ c.requires.depth_nonzero (top_way c.args.s.now (full c.args.self.live c.args.stack.now) (c.top-f.ensures ∙ sym (top_full c.args.self.live c.args.stack.now c.requires.depth_nonzero)) c.in-Some.ensures.told) (rw c.in-Some-follow.is at c.follow.ensures) _ (c.read_character-read.ensures c.args.stack.now) (ap (λ (y : Stepped). whole y c.args.stack.now) c.answer.ensures)
