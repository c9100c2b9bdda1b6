use mathlib.Core.Path.{◌≡◌, sym, ap, ◌∙◌, subst}
use mathlib.Core.Bool.{true}
use lib.ListN.{length, take}
use lib.Seq.{length-take-le}
use Rattle.lent.proofs.Laws.{put_length}
use native.Mathlib.Omega.{arith}
use Rattle.ways.specs.Answers.{WayAs}
use Rattle.ways.proofs.Tellings.{told_few, way_none, way_found}
use Rattle.ways.proofs.find_way.Goals as goal

-- `find_way`: what was tried is put into the lent bytes where a way was found.
-- Assumes nothing.
pub search-requires : goal.search-requires
search-requires c =
    record { laid_out = c.requires.laid_out; runs_inside = c.requires.runs_inside; trees = c.requires.trees; follows_s = c.requires.follows_s; q_lt_productions = c.requires.q_lt_productions; q_bound = c.requires.q_bound; most_brackets_in_bounds = omega arith }

pub returns-in_err-way : goal.returns-in_err-way
returns-in_err-way c =
    subst (λ r. WayAs c.args.s.now c.args.q c.args.p c.args.x c.args.line.now r c.args.line.now) (sym c.from_residual.ensures)
    (way_none _ _ _ _ _ _ c.requires.most_brackets_in_bounds c.in_err-way.ensures.way_told)

pub slice_bounds-tried-end : goal.slice_bounds-tried-end
slice_bounds-tried-end c =
    omega (arith, told_few c.args.s.now c.args.q c.args.p c.args.x _ _ c.in_ok-way.ensures.way_told)

pub slice_bounds-put_bytes-end : goal.slice_bounds-put_bytes-end
slice_bounds-put_bytes-end c =
    let b = c.search.new.line in
    let n = c.in_ok-way.way.length in
    let few = told_few c.args.s.now c.args.q c.args.p c.args.x _ _ c.in_ok-way.ensures.way_told in
    let long : length (take n b) ≡ n = length-take-le n b (omega (arith, few, c.in_ok-way.ensures.line_len_unchanged)) in
    sym long

pub put_bytes-requires : goal.put_bytes-requires
put_bytes-requires c =
    let b = c.search.new.line in
    let n = c.in_ok-way.way.length in
    let few = told_few c.args.s.now c.args.q c.args.p c.args.x _ _ c.in_ok-way.ensures.way_told in
    let long : length (take n b) ≡ n = length-take-le n b (omega (arith, few, c.in_ok-way.ensures.line_len_unchanged)) in
    omega (arith, few, long)

pub shape_of-line : goal.shape_of-line
shape_of-line c = ap length c.put_bytes.ensures.left ∙ put_length true _ 0 _

pub returns : goal.returns
returns c = way_found _ _ _ _ _ _ c.requires.most_brackets_in_bounds _ c.in_ok-way.ensures.way_told (omega (arith, c.in_ok-way.ensures.line_len_unchanged)) _ _ c.put_bytes.ensures
