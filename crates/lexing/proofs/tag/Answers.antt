use native.Mathlib.Omega.{arith}
use mathlib.Core.Path.{subst}
use Prim.Native.Nat.{◌+◌}
use Rattle.lexing.specs.Reads.{Common, NameRun}
use Rattle.lexing.proofs.Spellings.{part_is}
use Rattle.lexing.proofs.Sorts.{tag_differs, tag_no_name, tag_halts, tag_whole}
use borrow.Author.Rules.{rules}
use Rattle.lexing.proofs.tag.Goals as goal

-- Each answer is a law of tags.
-- src/lib.rt:155:9
-- src/lib.rt:157:9
pub returns-then-k-a : goal.returns-then-k-a
returns-then-k-a c = let a = c.args in tag_differs a.x.now a.a.now a.b.now c.common-k.result c.common-k.ensures c.if-k-a.true

-- src/lib.rt:159:22
-- src/lib.rt:159:22
-- src/lib.rt:159:22
-- src/lib.rt:159:9
-- src/lib.rt:161:9
pub returns-then-n-eq0 : goal.returns-then-n-eq0
returns-then-n-eq0 c =
    let a = c.args in
    let k = c.common-k.result in
    tag_no_name a.x.now a.a.now a.b.now k c.common-k.ensures (omega arith) (subst (λ z. NameRun z 0) (part_is a.x.now k) (subst (NameRun _) c.if-n-eq0.true c.name_run-n.ensures))

-- src/lib.rt:163:14
-- src/lib.rt:164:20
-- src/lib.rt:164:20
-- src/lib.rt:164:20
-- src/lib.rt:164:9
-- src/lib.rt:165:15
-- src/lib.rt:167:9
pub returns-then-m-b : goal.returns-then-m-b
returns-then-m-b c =
    let a = c.args in
    let k = c.common-k.result in
    let n = c.name_run-n.result in
    tag_halts a.x.now a.a.now a.b.now k c.common-k.ensures (omega arith) n c.common-m.result (record { some = c.requires.0; apart = c.requires.1 }) (omega arith)
    (subst (λ z. NameRun z n) (part_is a.x.now k) c.name_run-n.ensures) (subst (λ z. Common z a.b.now c.common-m.result) (part_is a.x.now (k + n)) c.common-m.ensures) c.if-m-b.true

-- src/lib.rt:151:1
pub returns : goal.returns
returns c =
    let a = c.args in
    let k = c.common-k.result in
    let n = c.name_run-n.result in
    tag_whole a.x.now a.a.now a.b.now k c.common-k.ensures (omega arith) n c.common-m.result (record { some = c.requires.0; apart = c.requires.1 }) (omega arith)
    (subst (λ z. NameRun z n) (part_is a.x.now k) c.name_run-n.ensures) (subst (λ z. Common z a.b.now c.common-m.result) (part_is a.x.now (k + n)) c.common-m.ensures) (omega arith)
