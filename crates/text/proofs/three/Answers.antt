use borrow.Author.Rules.{rules}
use native.Mathlib.Omega.{arith}
use mathlib.Core.Logic.{inl, inr, ⊎_elim}
use Prim.Native.Nat.{◌<◌}
use lib.ListN.{get_or, drop}
use Rattle.text.specs.declared.Decoded.TheVariants.{Whole, Bad}
use Rattle.text.proofs.Decoding
use Rattle.text.proofs.three.Goals as goal
use Rattle.text.proofs.three.Goals.{then-y-ge864+else-y-lt896, else-y-ge864}

-- Each return cites the law of `Decoding` for the bytes read so far; t1 and t2 are what the tests of the tail bytes left.
pub returns-then-f-lt2 : goal.returns-then-f-lt2
returns-then-f-lt2 c = let f = c.args.f.now in Decoding.all1 f (omega arith) (omega arith) (Decoding.begun3 (get_or f 0 0) (omega arith) (omega arith))

pub returns-then-b-lt128 : goal.returns-then-b-lt128
returns-then-b-lt128 c = let f = c.args.f.now in Decoding.on2 f Bad (omega arith) (Decoding.bad3_second (get_or f 0 0) (get_or f 1 0) (drop 2 f) (omega arith) (omega arith) (⊎_elim (λ w. inl w) (λ w. inr w.1) c.then-b-lt128.either))

pub overflow_add-y : goal.overflow_add-y
overflow_add-y c = let f = c.args.f.now in let t1 : get_or f 1 0 < 192 = c.if-b-ge192.false in omega arith

pub returns-then-y-lt32 : goal.returns-then-y-lt32
returns-then-y-lt32 c = let f = c.args.f.now in let t1 : get_or f 1 0 < 192 = c.if-b-ge192.false in Decoding.on2 f Bad (omega arith) (Decoding.bad3_short (get_or f 0 0) (get_or f 1 0) (drop 2 f) (omega arith) (omega arith) (omega arith) (omega arith))

pub returns-then-y-lt896 : goal.returns-then-y-lt896
returns-then-y-lt896 c = let f = c.args.f.now in let t1 : get_or f 1 0 < 192 = c.if-b-ge192.false in Decoding.on2 f Bad (omega arith) (Decoding.bad3_surrogate (get_or f 0 0) (get_or f 1 0) (drop 2 f) (omega arith) (omega arith) (omega arith) (omega arith) (omega arith))

pub returns-then-f-lt3 : goal.returns-then-f-lt3
returns-then-f-lt3 c = let f = c.args.f.now in let t1 : get_or f 1 0 < 192 = c.if-b-ge192.false in Decoding.all2 f (omega arith) (omega arith) (Decoding.begun3_second (get_or f 0 0) (get_or f 1 0) (omega arith) (omega arith) (omega arith) (omega arith) (omega arith) (elim c.if-y-ge864.branch [ then-y-ge864+else-y-lt896 w ↦ inr w.if-y-lt896.false | else-y-ge864 w ↦ inl w.if-y-ge864.false ]))

pub returns-then-d-lt128 : goal.returns-then-d-lt128
returns-then-d-lt128 c = let f = c.args.f.now in Decoding.on3 f Bad (omega arith) (Decoding.bad3_third (get_or f 0 0) (get_or f 1 0) (get_or f 2 0) (drop 3 f) (omega arith) (omega arith) (⊎_elim (λ w. inl w) (λ w. inr w.1) c.then-d-lt128.either))

pub overflow_mul-c : goal.overflow_mul-c
overflow_mul-c c = let f = c.args.f.now in let t1 : get_or f 1 0 < 192 = c.if-b-ge192.false in let t2 : get_or f 2 0 < 192 = c.if-d-ge192.false in omega arith

pub overflow_cast-c : goal.overflow_cast-c
overflow_cast-c c = let f = c.args.f.now in let t1 : get_or f 1 0 < 192 = c.if-b-ge192.false in let t2 : get_or f 2 0 < 192 = c.if-d-ge192.false in omega arith

pub overflow_add-c : goal.overflow_add-c
overflow_add-c c = let f = c.args.f.now in let t1 : get_or f 1 0 < 192 = c.if-b-ge192.false in let t2 : get_or f 2 0 < 192 = c.if-d-ge192.false in omega arith

pub returns-then-c-ge65534 : goal.returns-then-c-ge65534
returns-then-c-ge65534 c = let f = c.args.f.now in let t1 : get_or f 1 0 < 192 = c.if-b-ge192.false in let t2 : get_or f 2 0 < 192 = c.if-d-ge192.false in Decoding.on3 f Bad (omega arith) (Decoding.bad3_fffe (get_or f 0 0) (get_or f 1 0) (get_or f 2 0) (drop 3 f) (omega arith) (omega arith) (omega arith) (omega arith) (omega arith) (omega arith))

pub returns : goal.returns
returns c = let f = c.args.f.now in let t1 : get_or f 1 0 < 192 = c.if-b-ge192.false in let t2 : get_or f 2 0 < 192 = c.if-d-ge192.false in Decoding.on3 f (Whole _ _) (omega arith) (Decoding.whole3 (get_or f 0 0) (get_or f 1 0) (get_or f 2 0) (drop 3 f) (omega arith) (omega arith) (omega arith) (omega arith) (omega arith) (omega arith) (omega arith) (elim c.if-y-ge864.branch [ then-y-ge864+else-y-lt896 w ↦ inr w.if-y-lt896.false | else-y-ge864 w ↦ inl w.if-y-ge864.false ]) (omega arith))
