use mathlib.Core.Path.{◌≡◌}
use mathlib.Core.Bool.{false}
use mathlib.Core.List.{List}
use Prim.Native.Nat.{ℕ, ◌+◌, ◌*◌, ◌-◌, ◌≤◌}
use lib.ListN.{length, drop}
use Rattle.lent.specs.Put.{put}
use Rattle.text.specs.Characters.{WholeCharacters}
use Rattle.output.specs.Escape.{text}
use Rattle.runs.specs.Characters.{characters_of}
use Rattle.visits.proofs.put_text.Given as goal

-- The loop is stated by what is left: writing the text of the rest at n now leaves what writing the whole text at `at` would have left, where
-- the rest is whole characters; each character takes a byte at least and writes five at most.
abbrev Left : List ℕ → ℕ → List ℕ
Left f i = text (characters_of (drop i f))

abbrev pub invariant-loop-i : goal.invariant-loop-i
invariant-loop-i l =
    (l.i ≤ length l.f) × (l.n + 5 * (length l.f - l.i) ≤ l.at + 5 * length l.f) × (length l.out ≡ length l.initial.out) × (l.write ≡ false → l.out ≡ l.initial.out)
    × (WholeCharacters l.f → WholeCharacters (drop l.i l.f) × (l.n + length (Left l.f l.i) ≡ l.at + length (Left l.f 0)) × (put l.write l.out l.n (Left l.f l.i) ≡ put l.write l.initial.out l.at (Left l.f 0)))

abbrev pub decreases-loop-i : goal.decreases-loop-i
decreases-loop-i l = length l.f - l.i
