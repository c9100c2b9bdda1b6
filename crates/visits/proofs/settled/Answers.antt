use mathlib.Core.Path.{refl, ◌∙◌}
use native.Mathlib.Omega.{arith}
use Rattle.visits.proofs.Settling.{becomes, copies, recalls, goes_on, goes_off, stays}
use Rattle.visits.proofs.settled.Goals as goal

-- The first byte tells which attribute changes or how echo does; each return is one form.
pub returns-then-k-eq8 : goal.returns-then-k-eq8
returns-then-k-eq8 c =
    goes_on c.args.s.now c.args.i c.args.kept c.args.env c.requires.0 _ c.if-k-eq8.true refl refl

pub returns-then-k-eq9 : goal.returns-then-k-eq9
returns-then-k-eq9 c =
    goes_off c.args.s.now c.args.i c.args.kept c.args.env c.requires.0 _ c.if-k-eq9.true refl refl

pub returns-then-a-ge-ATTRIBUTES : goal.returns-then-a-ge-ATTRIBUTES
returns-then-a-ge-ATTRIBUTES c =
    stays c.args.s.now c.args.i c.args.kept c.args.env
    (λ k z. omega (arith, c.if-a-ge-ATTRIBUTES.true, c.from-a.ensures, c.byte.ensures)) (λ k z. omega (arith, c.if-a-ge-ATTRIBUTES.true, c.from-a.ensures, c.byte.ensures)) (λ k z. omega (arith, c.if-a-ge-ATTRIBUTES.true, c.from-a.ensures, c.byte.ensures))
    c.if-k-eq8.false c.if-k-eq9.false c.requires.2

pub returns-then-k-eq1 : goal.returns-then-k-eq1
returns-then-k-eq1 c =
    becomes c.args.s.now c.args.i c.args.kept c.args.env c.requires.0 _ _ _ (c.from-a.ensures ∙ c.byte.ensures) c.with_value.ensures.0 c.with_value.ensures.1 c.if-k-eq1.true c.byte-b.ensures

pub returns-then-k-eq2 : goal.returns-then-k-eq2
returns-then-k-eq2 c =
    copies c.args.s.now c.args.i c.args.kept c.args.env c.requires.0 _ _ _ (c.from-a.ensures ∙ c.byte.ensures) c.with_value-then-k-eq2.ensures.0 c.with_value-then-k-eq2.ensures.1 c.if-k-eq2.true _ (c.from.ensures ∙ c.byte-b.ensures) c.byte-then-k-eq2.ensures

pub returns-then-k-eq3 : goal.returns-then-k-eq3
returns-then-k-eq3 c =
    recalls c.args.s.now c.args.i c.args.kept c.args.env c.requires.0 _ _ _ (c.from-a.ensures ∙ c.byte.ensures) c.with_value-then-k-eq3.ensures.0 c.with_value-then-k-eq3.ensures.1 c.if-k-eq3.true _ (c.from-then-k-eq3.ensures ∙ c.byte-b.ensures) c.byte-then-k-eq3.ensures

pub returns : goal.returns
returns c =
    stays c.args.s.now c.args.i c.args.kept c.args.env (λ k z. c.if-k-eq1.false k) (λ k z. c.if-k-eq2.false k) (λ k z. c.if-k-eq3.false k) c.if-k-eq8.false c.if-k-eq9.false c.requires.2
