use borrow.Author.Rules.{rules}
use native.Mathlib.Omega.{arith}
use mathlib.Core.Logic.{inl, inr, ⊎_elim}
use Prim.Native.Nat.{◌+◌, ◌-◌, ◌*◌, ◌<◌}
use lib.ListN.{get_or, drop}
use Rattle.text.specs.declared.Decoded.TheVariants.{Whole, Bad}
use Rattle.text.proofs.Decoding
use Rattle.text.proofs.four.Goals as goal

-- Each return cites the law of `Decoding` for the bytes read so far; t1, t2 and t3 are what the tests of the tail bytes left, y what that of the range.
pub returns-then-f-lt2 : goal.returns-then-f-lt2
returns-then-f-lt2 c = let f = c.args.f.now in Decoding.all1 f (omega arith) (omega arith) (Decoding.begun4 (get_or f 0 0) (omega arith) (omega arith))

pub returns-then-b-lt128 : goal.returns-then-b-lt128
returns-then-b-lt128 c = let f = c.args.f.now in Decoding.on2 f Bad (omega arith) (Decoding.bad4_second (get_or f 0 0) (get_or f 1 0) (drop 2 f) (omega arith) (⊎_elim (λ w. inl w) (λ w. inr w.1) c.then-b-lt128.either))

pub overflow_add-y : goal.overflow_add-y
overflow_add-y c = let f = c.args.f.now in let t1 : get_or f 1 0 < 192 = c.if-b-ge192.false in omega arith

pub returns-then-y-lt16 : goal.returns-then-y-lt16
returns-then-y-lt16 c = let f = c.args.f.now in Decoding.on2 f Bad (omega arith) (Decoding.bad4_range (get_or f 0 0) (get_or f 1 0) (drop 2 f) (omega arith) (omega arith) (⊎_elim (λ w. inl w) (λ w. inr w.1) c.then-y-lt16.either))

pub returns-then-f-lt3 : goal.returns-then-f-lt3
returns-then-f-lt3 c = let f = c.args.f.now in let t1 : get_or f 1 0 < 192 = c.if-b-ge192.false in let y : (get_or f 0 0 - 0xF0) * 64 + (get_or f 1 0 - 0x80) < 272 = c.if-y-ge272.false in Decoding.all2 f (omega arith) (omega arith) (Decoding.begun4_second (get_or f 0 0) (get_or f 1 0) (omega arith) (omega arith) (omega arith) (omega arith) (omega arith) (omega arith))

pub returns-then-d-lt128 : goal.returns-then-d-lt128
returns-then-d-lt128 c = let f = c.args.f.now in Decoding.on3 f Bad (omega arith) (Decoding.bad4_third (get_or f 0 0) (get_or f 1 0) (get_or f 2 0) (drop 3 f) (omega arith) (⊎_elim (λ w. inl w) (λ w. inr w.1) c.then-d-lt128.either))

pub returns-then-f-lt4 : goal.returns-then-f-lt4
returns-then-f-lt4 c = let f = c.args.f.now in let t1 : get_or f 1 0 < 192 = c.if-b-ge192.false in let t2 : get_or f 2 0 < 192 = c.if-d-ge192.false in let y : (get_or f 0 0 - 0xF0) * 64 + (get_or f 1 0 - 0x80) < 272 = c.if-y-ge272.false in Decoding.all3 f (omega arith) (omega arith) (Decoding.begun4_third (get_or f 0 0) (get_or f 1 0) (get_or f 2 0) (omega arith) (omega arith) (omega arith) (omega arith) (omega arith) (omega arith) (omega arith) (omega arith))

pub returns-then-e-lt128 : goal.returns-then-e-lt128
returns-then-e-lt128 c = let f = c.args.f.now in Decoding.on4 f Bad (omega arith) (Decoding.bad4_fourth (get_or f 0 0) (get_or f 1 0) (get_or f 2 0) (get_or f 3 0) (drop 4 f) (omega arith) (⊎_elim (λ w. inl w) (λ w. inr w.1) c.then-e-lt128.either))

pub overflow_mul-result : goal.overflow_mul-result
overflow_mul-result c = let f = c.args.f.now in let t1 : get_or f 1 0 < 192 = c.if-b-ge192.false in let t2 : get_or f 2 0 < 192 = c.if-d-ge192.false in let t3 : get_or f 3 0 < 192 = c.if-e-ge192.false in let y : (get_or f 0 0 - 0xF0) * 64 + (get_or f 1 0 - 0x80) < 272 = c.if-y-ge272.false in omega arith

pub overflow_cast-result : goal.overflow_cast-result
overflow_cast-result c = let f = c.args.f.now in let t1 : get_or f 1 0 < 192 = c.if-b-ge192.false in let t2 : get_or f 2 0 < 192 = c.if-d-ge192.false in let t3 : get_or f 3 0 < 192 = c.if-e-ge192.false in let y : (get_or f 0 0 - 0xF0) * 64 + (get_or f 1 0 - 0x80) < 272 = c.if-y-ge272.false in omega arith

pub overflow_add-result : goal.overflow_add-result
overflow_add-result c = let f = c.args.f.now in let t1 : get_or f 1 0 < 192 = c.if-b-ge192.false in let t2 : get_or f 2 0 < 192 = c.if-d-ge192.false in let t3 : get_or f 3 0 < 192 = c.if-e-ge192.false in let y : (get_or f 0 0 - 0xF0) * 64 + (get_or f 1 0 - 0x80) < 272 = c.if-y-ge272.false in omega arith

pub overflow_mul-result-2 : goal.overflow_mul-result-2
overflow_mul-result-2 c = let f = c.args.f.now in let t1 : get_or f 1 0 < 192 = c.if-b-ge192.false in let t2 : get_or f 2 0 < 192 = c.if-d-ge192.false in let t3 : get_or f 3 0 < 192 = c.if-e-ge192.false in let y : (get_or f 0 0 - 0xF0) * 64 + (get_or f 1 0 - 0x80) < 272 = c.if-y-ge272.false in omega arith

pub overflow_cast-result-2 : goal.overflow_cast-result-2
overflow_cast-result-2 c = let f = c.args.f.now in let t1 : get_or f 1 0 < 192 = c.if-b-ge192.false in let t2 : get_or f 2 0 < 192 = c.if-d-ge192.false in let t3 : get_or f 3 0 < 192 = c.if-e-ge192.false in let y : (get_or f 0 0 - 0xF0) * 64 + (get_or f 1 0 - 0x80) < 272 = c.if-y-ge272.false in omega arith

pub overflow_add-result-2 : goal.overflow_add-result-2
overflow_add-result-2 c = let f = c.args.f.now in let t1 : get_or f 1 0 < 192 = c.if-b-ge192.false in let t2 : get_or f 2 0 < 192 = c.if-d-ge192.false in let t3 : get_or f 3 0 < 192 = c.if-e-ge192.false in let y : (get_or f 0 0 - 0xF0) * 64 + (get_or f 1 0 - 0x80) < 272 = c.if-y-ge272.false in omega arith

pub returns : goal.returns
returns c = let f = c.args.f.now in let t1 : get_or f 1 0 < 192 = c.if-b-ge192.false in let t2 : get_or f 2 0 < 192 = c.if-d-ge192.false in let t3 : get_or f 3 0 < 192 = c.if-e-ge192.false in let y : (get_or f 0 0 - 0xF0) * 64 + (get_or f 1 0 - 0x80) < 272 = c.if-y-ge272.false in Decoding.on4 f (Whole _ _) (omega arith) (Decoding.whole4 (get_or f 0 0) (get_or f 1 0) (get_or f 2 0) (get_or f 3 0) (drop 4 f) (omega arith) (omega arith) (omega arith) (omega arith) (omega arith) (omega arith) (omega arith) (omega arith) (omega arith) (omega arith))
