use mathlib.Core.Path.{sym, subst, ◌∙◌}
use Prim.Native.Nat.{ℕ}
use lib.ListN.{length, get_or}
use borrow.Author.Rules.{rules}
use Rattle.std.proofs.lemmas.Slice.Zip.{zip_turn, zip_end}
use Rattle.witness.specs.Answers.{SignAt}
use Rattle.witness.proofs.Signs.{ended, sign_found}
use Rattle.witness.proofs.sign_of.Goals as goal

pub returns-then-c-d : goal.returns-then-c-d
returns-then-c-d c =
    let a = c.args.a.now in
    let b = c.args.b.now in
    let k = length c.loop-c.yielded in
    let r = c.sign_at.result in
    let turn = zip_turn a b c.loop-c.yielded c.into_iter-c-iterator.result c.loop-c.c-iterator c.next.new.self c.next.result (search rules) (search rules) c.loop-c.yielded_by _ c.in-Some.is c.next.ensures.steps in
    sign_found _ _ _ c.loop-c.invariant (λ e. c.if-c-d.true (turn.2 0 ∙ e ∙ sym (turn.3 0))) r
    (subst (λ (x : ℕ). SignAt x (get_or b k 0) r) (turn.2 0) (subst (λ (y : ℕ). SignAt c.in-Some.c.now y r) (turn.3 0) c.sign_at.ensures))

pub returns : goal.returns
returns c =
    ended _ _ _ c.loop-c.invariant
    (zip_end c.args.a.now c.args.b.now c.loop-c.yielded c.into_iter-c-iterator.result c.loop-c.c-iterator c.next.new.self c.next.result (search rules) (search rules) c.loop-c.yielded_by c.in-None.is c.next.ensures.steps)
