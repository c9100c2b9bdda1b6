use borrow.Author.Rules.{rules}
use native.Mathlib.Omega.{arith}
use mathlib.Core.Logic.{inl, inr, ⊎_elim}
use mathlib.Core.Path.{refl}
use lib.ListN.{get_or, drop}
use Rattle.text.specs.declared.Decoded.TheVariants.{Whole, Bad}
use Rattle.text.proofs.Decoding
use Rattle.text.proofs.decode.Goals as goal

-- Each return cites the law of `Decoding` for the byte it has read; `two`, `three` and `four` answer for longer characters.
pub returns-then-f-eq0 : goal.returns-then-f-eq0
returns-then-f-eq0 c = let f = c.args.f.now in Decoding.all0 f c.if-f-eq0.true

pub returns-then-a-eq9 : goal.returns-then-a-eq9
returns-then-a-eq9 c = let f = c.args.f.now in Decoding.on1 f (Whole 9 1) (omega arith) (Decoding.whole_of 9 (get_or f 0 0) (drop 1 f) c.if-a-eq9.true (omega arith) (inl refl))

pub returns-then-a-eq10 : goal.returns-then-a-eq10
returns-then-a-eq10 c = let f = c.args.f.now in Decoding.on1 f (Whole 10 1) (omega arith) (Decoding.whole_of 10 (get_or f 0 0) (drop 1 f) c.if-a-eq10.true (omega arith) (inr (inl refl)))

pub returns-then-a-eq13 : goal.returns-then-a-eq13
returns-then-a-eq13 c = let f = c.args.f.now in Decoding.on1 f (Whole 13 1) (omega arith) (Decoding.whole_of 13 (get_or f 0 0) (drop 1 f) c.if-a-eq13.true (omega arith) (inr (inr (inl refl))))

pub returns-then-a-lt32 : goal.returns-then-a-lt32
returns-then-a-lt32 c = let f = c.args.f.now in Decoding.on1 f Bad (omega arith) (Decoding.bad_low (get_or f 0 0) (drop 1 f) (omega arith) (⊎_elim c.if-a-eq9.false (⊎_elim c.if-a-eq10.false c.if-a-eq13.false)))

pub returns-then-a-lt128 : goal.returns-then-a-lt128
returns-then-a-lt128 c = let f = c.args.f.now in Decoding.on1 f (Whole _ _) (omega arith) (Decoding.whole1 (get_or f 0 0) (drop 1 f) (omega arith) (inr (inr (inr (inl (omega arith))))))

pub returns-then-a-lt194 : goal.returns-then-a-lt194
returns-then-a-lt194 c = let f = c.args.f.now in Decoding.on1 f Bad (omega arith) (Decoding.bad_lead (get_or f 0 0) (drop 1 f) (omega arith) (inl (omega arith)))

pub returns : goal.returns
returns c = let f = c.args.f.now in Decoding.on1 f Bad (omega arith) (Decoding.bad_lead (get_or f 0 0) (drop 1 f) (omega arith) (inr (omega arith)))
