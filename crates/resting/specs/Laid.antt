-- The bytes in which a salvage run hands its state back, as they are laid down.
-- Assumes nothing.
use Rattle.std.specs.Prelude.{◌≡◌, true, List, [], ◌∷◌, ◌++◌, ℕ, length, take, drop, replicate}
use Rattle.state.specs.Bounds.{frame_width, rooted_at, head_width, state_width}
use Rattle.state.specs.Bytes.{number_bytes, bytes_of}
use Rattle.state.specs.Changes.{tidied}
use Rattle.live.specs.declared.Live.{Live}
use Rattle.live.specs.Live.{full}
use Rattle.rescued.specs.Bytes.{returns_at, tail_bytes, no_return}
use Rattle.lent.specs.Put.{put}
use Rattle.turns.specs.declared.Stand.{Stand}

-- the bytes of a run's own state, over the frames of the bytes b
abbrev pub run_bytes : Live → List ℕ → List ℕ
run_bytes h b = bytes_of (tidied (full h (drop head_width (take state_width b))))

pub record RunPut (h : Live) (b b' : List ℕ) : Type 0 where
  pub is : b' ≡ run_bytes h b ++ drop state_width b
  pub long : length (run_bytes h b) ≡ state_width

-- where the salvage run stands, but for what returns
unfoldable pub tail_of : (mode passed first refused waiting : ℕ) → List ℕ
tail_of m p f n k = m ∷ (number_bytes 8 p ++ (number_bytes 8 f ++ n ∷ number_bytes 8 k))

-- what returns: attributes, echo and count, and the root's frame, as they stand in a state of its own
abbrev pub own_bytes : Live → List ℕ
own_bytes z = bytes_of (tidied (full z (drop head_width (replicate state_width 0))))

abbrev pub returns_of : Live → List ℕ
returns_of z = take rooted_at (own_bytes z) ++ take frame_width (drop head_width (own_bytes z))

pub record ReturnsPut (z : Live) (b b' : List ℕ) : Type 0 where
  pub is : b' ≡ put true b returns_at (returns_of z)
  pub long : length (own_bytes z) ≡ state_width

-- all of it, by the mode
pub data StandPut (t : Stand) (h : Live) (passed : ℕ) (b b' : List ℕ) : Type 0 where
  put_between_lem : t.mode ≡ 0 → b' ≡ run_bytes h b ++ tail_bytes 0 passed 0 0 0 no_return → StandPut t h passed b b'
  put_inside_lem : t.mode ≡ 1 → b' ≡ run_bytes h b ++ tail_bytes 1 passed t.first 0 t.waits (returns_of t.before) → StandPut t h passed b b'
  put_skipping : (t.mode ≡ 0 → ⊥) → (t.mode ≡ 1 → ⊥) → b' ≡ run_bytes h b ++ tail_bytes 2 passed t.first t.number 0 no_return → StandPut t h passed b b'
