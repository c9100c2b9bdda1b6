use native.Mathlib.Omega.{arith}
use Rattle.layout.specs.Layout.{production_count}
use Rattle.layout.specs.Records.{first_program_of, second_program_of}
use Rattle.hoards.proofs.Laws.{each_left, one_less, one_full, none_left}
use Rattle.hoards.proofs.keep_productions.Goals as goal

pub loop-q-init : goal.loop-q-init
loop-q-init c = each_left c.args.s.now (first_program_of c.args.s.now) (second_program_of c.args.s.now) (production_count c.args.s.now) c.args.bytes.now c.args.ends.now c.args.count c.requires.has_rows

pub first_program_of-first-requires : goal.first_program_of-first-requires
first_program_of-first-requires c = record { laid_out = c.requires.laid_out; q_lt_productions = omega arith }

pub second_program_of-second-requires : goal.second_program_of-second-requires
second_program_of-second-requires c = record { laid_out = c.requires.laid_out; q_lt_productions = omega arith }

pub keep_both-requires : goal.keep_both-requires
keep_both-requires c = record { laid_out = c.requires.laid_out; has_rows = c.loop-q.invariant.rows }

pub returns-in_err-n : goal.returns-in_err-n
returns-in_err-n c =
    let l = c.loop-q in
    one_full c.args.s.now (first_program_of c.args.s.now) (second_program_of c.args.s.now) (production_count c.args.s.now) c.args.bytes.now c.args.ends.now c.args.count l.q l.n l.bytes l.ends (omega (arith, c.requires.laid_out.layout_is.productions_is.is)) l.invariant _ _ c.first_program_of-first.ensures.is c.second_program_of-second.ensures.is _ _ _ c.from_residual.ensures c.in_err-n.ensures

pub loop-q-preserved : goal.loop-q-preserved
loop-q-preserved c =
    let l = c.loop-q in
    one_less c.args.s.now (first_program_of c.args.s.now) (second_program_of c.args.s.now) (production_count c.args.s.now) c.args.bytes.now c.args.ends.now c.args.count l.q l.n l.bytes l.ends (omega (arith, c.requires.laid_out.layout_is.productions_is.is)) l.invariant _ _ c.first_program_of-first.ensures.is c.second_program_of-second.ensures.is _ _ _ c.in_ok-n.ensures

pub shape_of-bytes : goal.shape_of-bytes
shape_of-bytes c = c.loop-q.invariant.as_many_bytes

pub shape_of-ends : goal.shape_of-ends
shape_of-ends c = c.loop-q.invariant.as_many_ends

pub returns : goal.returns
returns c =
    let l = c.loop-q in
    none_left c.args.s.now (first_program_of c.args.s.now) (second_program_of c.args.s.now) (production_count c.args.s.now) c.args.bytes.now c.args.ends.now c.args.count l.q l.n l.bytes l.ends (omega (arith, c.requires.laid_out.layout_is.productions_is.is)) l.invariant
