use mathlib.Core.Path.{◌≡◌, sym, ap, ◌∙◌}
use mathlib.Core.List.{List, ◌∷◌}
use mathlib.Core.Bool.{true}
use lib.ListN.{length, take}
use Prim.Native.Nat.{ℕ}
use Rattle.std.proofs.lemmas.List.{take_min}
use Rattle.std.specs.Prelude.{min}
use Rattle.lent.specs.Put.{put}
use Rattle.state.specs.Bounds.{most_sets}
use Rattle.state.specs.Bytes.{used_bytes, each_bytes, saved_bytes}
use Rattle.state.specs.declared.Saved.{Saved}
use Rattle.state.proofs.Laws.{length_mapped}
use Rattle.state.proofs.Written.{put_after, put_wrote}
use borrow.Author.Rules.{rules}
use Rattle.state.proofs.bytes.put_used.Goals as goal

-- The head of three bytes, then the sets in use.
pub returns : goal.returns
unfolding used_bytes
returns c =
    let f = c.args.f in
    let n : length f.saved ≡ most_sets = search (length_mapped, rules) in
    let used : take c.min-used.result f.saved ≡ take f.«open» f.saved = ap (λ (k : ℕ). take k f.saved) (c.min-used.ensures ∙ ap (min f.«open») (sym n)) ∙ take_min f.«open» f.saved in
    put_after c.put_bytes-next.ensures (put_wrote c.put_sets.ensures)
    ∙ ap (λ (l : List Saved). put true c.args.memory.now c.args.at (f.production ∷ f.place ∷ f.«open» ∷ each_bytes saved_bytes l)) used
