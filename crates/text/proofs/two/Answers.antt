use borrow.Author.Rules.{rules}
use native.Mathlib.Omega.{arith}
use mathlib.Core.Logic.{inl, inr, ⊎_elim}
use Prim.Native.Nat.{◌<◌}
use lib.ListN.{get_or, drop}
use Rattle.text.specs.declared.Decoded.TheVariants.{Whole, Bad}
use Rattle.text.proofs.Decoding
use Rattle.text.proofs.two.Goals as goal

-- Each return cites the law of `Decoding` for the bytes read so far.
pub returns-then-f-lt2 : goal.returns-then-f-lt2
returns-then-f-lt2 c = let f = c.args.f.now in Decoding.all1 f (omega arith) (omega arith) (Decoding.begun2 (get_or f 0 0) (omega arith) (omega arith))

pub returns-then-b-lt128 : goal.returns-then-b-lt128
returns-then-b-lt128 c = let f = c.args.f.now in Decoding.on2 f Bad (omega arith) (Decoding.bad2 (get_or f 0 0) (get_or f 1 0) (drop 2 f) (omega arith) (omega arith) (⊎_elim (λ w. inl w) (λ w. inr w.1) c.then-b-lt128.either))

pub overflow_add-result : goal.overflow_add-result
overflow_add-result c = let f = c.args.f.now in let t1 : get_or f 1 0 < 192 = c.if-b-ge192.false in omega arith

pub returns : goal.returns
returns c = let f = c.args.f.now in let t1 : get_or f 1 0 < 192 = c.if-b-ge192.false in Decoding.on2 f (Whole _ _) (omega arith) (Decoding.whole2 (get_or f 0 0) (get_or f 1 0) (drop 2 f) (omega arith) (omega arith) (omega arith) (omega arith))
