use mathlib.Core.Path.{ap₂, sym, ◌∙◌}
use mathlib.Core.Bool.{◌&&◌}
use Prim.Native.Nat.{ℕ}
use native.Mathlib.Omega.{arith}
use lib.Dec.{eqb}
use borrow.Author.Count.{below_more}
use borrow.Author.Rules.{rules}
use Rattle.lookups.proofs.Firsts.{production_found, no_production_found}
use Rattle.lookups.proofs.production_for.Goals as goal

pub loop-q-init : goal.loop-q-init
loop-q-init c = λ k z. absurd (omega arith)

pub returns-then-n-nonterminal : goal.returns-then-n-nonterminal
returns-then-n-nonterminal c =
    let e = ap₂ (λ (x y : ℕ). eqb c.args.n x && eqb c.args.t y) c.nonterminal_of-nonterminal.ensures.is c.tag_number_of-tag.ensures.is in
    production_found c.args.s.now c.args.n c.args.t c.loop-q.q (search rules) (omega (arith, c.requires.layout_is.productions_is.is)) c.loop-q.invariant (sym e ∙ c.if-n-nonterminal.true)

pub loop-q-preserved : goal.loop-q-preserved
loop-q-preserved c =
    let e = ap₂ (λ (x y : ℕ). eqb c.args.n x && eqb c.args.t y) c.nonterminal_of-nonterminal.ensures.is c.tag_number_of-tag.ensures.is in
    below_more _ _ c.loop-q.invariant (sym e ∙ c.if-n-nonterminal.false)

pub returns : goal.returns
returns c =
    no_production_found c.args.s.now c.args.n c.args.t (λ k z. c.loop-q.invariant k (omega (arith, c.requires.layout_is.productions_is.is)))
