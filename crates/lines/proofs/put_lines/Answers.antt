use borrow.Author.Rules.{rules}
use mathlib.Core.Path.{refl}
use native.Mathlib.Omega.{arith}
use Rattle.lines.proofs.Laws.{all_left, one_less, none_left}
use Rattle.lines.proofs.put_lines.Goals as goal

pub loop-q-init : goal.loop-q-init
loop-q-init c = (omega arith, refl, all_left c.args.s.now (record { write = c.args.write; lent = c.args.out.now; at = c.args.at }))

pub put_line-n-requires : goal.put_line-n-requires
put_line-n-requires c = let l = c.loop-q in record { laid_out = c.requires.laid_out; runs_inside = c.requires.runs_inside; q_lt_productions = omega (arith, l.invariant.0, c.requires.most_of_atext_bound, c.requires.laid_out.few_productions) }

pub loop-q-preserved : goal.loop-q-preserved
loop-q-preserved c =
    let l = c.loop-q in
    let R = c.put_line-n.ensures in (
      omega (arith, l.invariant.0, R.reach),
      search rules,
      one_less c.args.s.now (record { write = c.args.write; lent = c.args.out.now; at = c.args.at }) l.q l.n _ l.out _ (omega (arith, c.requires.laid_out.layout_is.productions_is.is)) l.invariant.2 R,
    )

pub shape_of-out : goal.shape_of-out
shape_of-out c = c.loop-q.invariant.1

pub returns : goal.returns
returns c =
    let l = c.loop-q in
    none_left c.args.s.now (record { write = c.args.write; lent = c.args.out.now; at = c.args.at }) l.q l.n l.out (omega (arith, c.requires.laid_out.layout_is.productions_is.is)) (omega (arith, l.invariant.0, c.requires.laid_out.few_productions)) l.invariant.2
