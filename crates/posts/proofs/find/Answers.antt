use native.Mathlib.Omega.{arith}
use Rattle.posts.proofs.Walking.{onward_first, token_reach, onward_next, onward_found, onward_ended}
use borrow.Author.Rules.{rules}
use Rattle.posts.proofs.find.Goals as goal

pub loop-token-init : goal.loop-token-init
loop-token-init c = search (onward_first, rules)

pub returns-then-meets : goal.returns-then-meets
returns-then-meets c =
    let l = c.loop-token in
    onward_found c.args.text.now c.args.wanted l.from l.m l.reader l.invariant c.look.result c.look.ensures c.in-Ok.token c.in-Ok.is c.meets.result c.meets.ensures c.if-meets.true

pub pass-m-requires-clause-productions_lt_behind : goal.pass-m-requires-clause-productions_lt_behind
pass-m-requires-clause-productions_lt_behind c =
    let l = c.loop-token in
    let z = token_reach c.args.text.now c.args.wanted l.from l.m l.reader l.invariant c.look.result c.look.ensures c.in-Ok.token c.in-Ok.is in
    omega (arith, z.0, l.invariant.few_productions)

pub pass-m-requires-clause-posts_lt_behind : goal.pass-m-requires-clause-posts_lt_behind
pass-m-requires-clause-posts_lt_behind c =
    let l = c.loop-token in
    let z = token_reach c.args.text.now c.args.wanted l.from l.m l.reader l.invariant c.look.result c.look.ensures c.in-Ok.token c.in-Ok.is in
    omega (arith, z.0, l.invariant.few_posts)

pub loop-token-smaller : goal.loop-token-smaller
loop-token-smaller c =
    let l = c.loop-token in
    let z = token_reach c.args.text.now c.args.wanted l.from l.m l.reader l.invariant c.look.result c.look.ensures c.in-Ok.token c.in-Ok.is in
    omega (arith, z.0, z.1)

pub loop-token-preserved : goal.loop-token-preserved
loop-token-preserved c =
    let l = c.loop-token in
    onward_next c.args.text.now c.args.wanted l.from l.m l.reader l.invariant c.look.result c.look.ensures c.in-Ok.token c.in-Ok.is c.meets.result c.meets.ensures c.if-meets.false c.pass-m.result c.pass-m.ensures

pub returns : goal.returns
returns c =
    let l = c.loop-token in
    onward_ended c.args.text.now c.args.wanted l.from l.m l.reader l.invariant c.look.result c.look.ensures c.in_default.field-0 c.in_default.is
