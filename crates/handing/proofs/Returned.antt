-- What returns when a record is dropped, read from the bytes of a state that was handed back, is the state of the run before the record.
-- Assumes nothing.
use mathlib.Core.Path.{◌≡◌, sym, ap, ◌∙◌}
use mathlib.Core.Bool.{true, true≢false}
use mathlib.Core.List.{List, [], ◌∷◌, ◌++◌}
use Prim.Native.Nat.{ℕ, ◌+◌, ◌*◌, ◌-◌}
use lib.ListN.{length, take, drop, replicate}
use lib.Seq.{drop-drop}
use Rattle.sheet.specs.Sheet.{Sheet, IsSheet}
use Rattle.runs.specs.Visits.{Env, Saved as Kept}
use Rattle.runs.specs.Machine.{Open, Control, before, inside, after, most, Configuration}
use Rattle.salvage.specs.Salvage.{root_only}
use Rattle.state.specs.Bounds.{frame_width, rooted_at, head_width}
use Rattle.state.specs.Bytes.{flag, number_bytes, each_bytes, frame_bytes, bytes_of, state_from, SizedFrame, Sized}
use Rattle.state.specs.Changes.{not_closed, bare_frame}
use Rattle.state.specs.Canonical.{frame_for, state_for}
use Rattle.state.specs.Meaning.{Every, more}
use Rattle.state.proofs.Back.{frame_back, state_back}
use Rattle.state.proofs.Written.{number_wide}
use Rattle.rescued.specs.Bytes.{returns_at, returning_bytes, returning_in, return_bytes}
use Rattle.handing.proofs.Canonical.{Good, state_for_lem}
use Rattle.handing.proofs.Tail.{zeros, frames_zeros, put_together}

-- the root alone is open
abbrev root_run : Open → List Kept → Env → Configuration
root_run o ks e = record { control = inside o []; store = record { kept = ks ∷ []; env = e } }

root_bytes : (o : Open) (ks : List Kept) (e : Env) →
    bytes_of (state_for (root_run o ks e) not_closed) ≡
    e.values ++ flag e.echo ∷ (number_bytes 8 e.count ++ 0 ∷ not_closed ∷ (number_bytes 8 1 ++ (frame_bytes (frame_for o ks) ++ zeros (frame_width * (most - 1)))))
unfolding bytes_of state_for each_bytes
root_bytes o ks e =
    ap (λ (l : List ℕ). e.values ++ flag e.echo ∷ (number_bytes 8 e.count ++ 0 ∷ not_closed ∷ (number_bytes 8 1 ++ (frame_bytes (frame_for o ks) ++ l)))) (frames_zeros (most - 1))

returning_root : (b : List ℕ) (o : Open) (ks : List Kept) (e : Env) → Sized (state_for (root_run o ks e) not_closed) → drop returns_at b ≡ return_bytes (root_run o ks e) →
    returning_bytes b ≡ bytes_of (state_for (root_run o ks e) not_closed)
unfolding returning_bytes return_bytes state_for
returning_root b o ks e h d =
    let q = root_bytes o ks e in
    let f : length (frame_bytes (frame_for o ks)) ≡ frame_width = first_wide h.each in
    let ret = drop returns_at b in
    ap (λ (l : List ℕ). take rooted_at ret ++ 0 ∷ not_closed ∷ (number_bytes 8 1 ++ (take frame_width l ++ zeros (frame_width * (most - 1))))) (sym (drop-drop rooted_at returns_at b))
    ∙ put_together e.values (flag e.echo) (number_bytes 8 e.count) (frame_bytes (frame_for o ks)) h.values (number_wide 8 e.count) f ret
    (d ∙ ap (λ (l : List ℕ). take rooted_at l ++ take frame_width (drop head_width l)) q)
    ∙ sym q
  where
    first_wide : Every SizedFrame (frame_for o ks ∷ replicate (most - 1) bare_frame) → length (frame_bytes (frame_for o ks)) ≡ frame_width
    first_wide (more p a) = (frame_back (frame_for o ks) p).wide

module _ {s : List ℕ} {a : Sheet} (i : IsSheet s a) where
  by_parts : (b : List ℕ) (c : Control) (kss : List (List Kept)) (e : Env) → Good i (record { control = c; store = record { kept = kss; env = e } }) → root_only c ≡ true →
      drop returns_at b ≡ return_bytes (record { control = c; store = record { kept = kss; env = e } }) →
      returning_in b ≡ state_for (record { control = c; store = record { kept = kss; env = e } }) not_closed
  by_parts b before kss e h r d = absurd (true≢false (sym r))
  by_parts b (inside o []) [] e h r d = absurd h.fits.kept
  by_parts b (inside o []) (ks ∷ []) e h r d =
      let k = (state_for_lem i (root_run o ks e) h not_closed).sized in
      ap state_from (returning_root b o ks e k d) ∙ state_back (state_for (root_run o ks e) not_closed) k
  by_parts b (inside o []) (ks ∷ ls ∷ kss) e h r d = absurd h.fits.kept.1
  by_parts b (inside o (o' ∷ os)) kss e h r d = absurd (true≢false (sym r))
  by_parts b after kss e h r d = absurd (true≢false (sym r))

  pub returning_back : (b : List ℕ) (z : Configuration) → Good i z → root_only z.control ≡ true → drop returns_at b ≡ return_bytes z → returning_in b ≡ state_for z not_closed
  returning_back b z h r d = by_parts b z.control z.store.kept z.store.env h r d
