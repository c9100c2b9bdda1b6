use mathlib.Core.Path.{◌≡◌, refl, sym, ap, ap₂, ◌∙◌}
use mathlib.Core.List.{List, ◌++◌}
use Prim.Native.Nat.{ℕ, ◌+◌, ◌-◌}
use native.Mathlib.Omega.{arith}
use lib.ListN.{length, replicate, take, drop, length-replicate}
use lib.Seq.{take_all}
use borrow.Author.Rules.{rules}
use Rattle.std.proofs.lemmas.Slice.{put_mid-paste}
use Rattle.lent.proofs.Laws.{put_all}
use Rattle.apart.proofs.Parting.{clear_none}
use Rattle.apart.proofs.clear_from.Goals as goal

pub returns-then-at-memory : goal.returns-then-at-memory
returns-then-at-memory c =
    let d = c.args.memory.now in
    let at = c.args.at in
    let n : ℕ = length d - at in
    let zeros : List ℕ = replicate n 0 in
    let long : length zeros ≡ n = length-replicate n 0 in
    let part : length (take n (drop at d)) ≡ n = search rules in
    let e : c.fill.new.self ≡ zeros = c.fill.ensures.after (λ y h. h) ∙ ap (λ (k : ℕ). replicate k 0) part in
    put_mid-paste at n d c.fill.new.self zeros n e refl (sym long)
    ∙ ap₂ (λ (l : List ℕ) (k : ℕ). take at d ++ l ++ drop (at + k) d) (take_all n zeros (omega (arith, long))) (sym long)
    ∙ sym (put_all d at zeros (omega (arith, long, c.if-at-memory.true)))

pub returns-else-at-memory : goal.returns-else-at-memory
returns-else-at-memory c = sym (clear_none c.args.memory.now c.args.memory.now c.args.at c.if-at-memory.false)
