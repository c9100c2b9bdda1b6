-- What a call of the code writes reads back, and what calls answer is what trees say: each is the law of the calls (`calls_read_back`, `explained_exactly`, `explained_read_back`), as a
-- reply is a call's answer (`is_call`), and calls that feed a stream are one call on all of it (`feeds_as_one`).
-- Assumes nothing.
use mathlib.Core.Path.{◌≡◌, refl, sym, ap, ◌∙◌, subst}
use mathlib.Core.Bool.{Bool, not}
use mathlib.Core.List.{List, []}
use Prim.Native.Nat.{ℕ}
use native.Mathlib.Omega.{arith}
use lib.ListN.{length, take}
use Rattle.sheet.specs.Sheet.{Sheet, IsSheet}
use Rattle.runs.specs.Visits.{attributes, grammar}
use Rattle.runs.specs.Machine.{most}
use Rattle.runs.specs.Taken.{Passed}
use Rattle.calls.specs.Held.{Held, fresh_held}
use Rattle.calls.specs.Call.{Result, Called}
use Rattle.calls.specs.ReadsBack.{ReadsBack}
use Rattle.calls.specs.Explained.{Explained}
use Rattle.calls.specs.SameCharacters.{SameCharacters}
use Rattle.calls.specs.Parts.{Feeds, CallOf}
use Rattle.calls.proofs.ReadsBack.{text_back, calls_read_back}
use Rattle.calls.proofs.Explained.{explained_exactly}
use Rattle.calls.proofs.SameCharacters.{explained_read_back}
use Rattle.calls.proofs.Parts.{feeds_as_one, feeds_visits, each_call}
use Rattle.state.specs.Changes.{fresh_state}
use Rattle.state.specs.Bounds.{frame_width, head_width}
use Rattle.layout.specs.Layout.{byte_at}
use Rattle.state.specs.Bytes.{frame_at, state_from, SizedFrame, Sized}
use Rattle.state.proofs.Gathered.{length_gathered}
use Rattle.state.specs.declared.State.{State}
use Rattle.fit.proofs.RunsFit.{fit_run}
use Rattle.state.proofs.Widths.{all_read, frame_read}
use Rattle.fit.proofs.Theorems.{fresh_fit}
use Rattle.converter.specs.declared.Reply.{Reply}
use Rattle.converter.specs.Answered.{FitsSheet, held_of, Ran, as_given, runs}
use Rattle.converter.specs.Bytes.{as_given as bytes_given, runs as bytes_run}
use Rattle.converter.specs.Fed.{result_of, ValueAsLent, BytesAsLent}
use Rattle.converter.specs.ReadsBack.{WrittenReadsBack, BytesWrittenReadBack}
use Rattle.converter.specs.Explained.{RepliesExactly, RepliesReadBack, FedAs, ValueFedExactly, BytesFedExactly, ValueFedReadBack, BytesFedReadBack}
use Rattle.converter.proofs.Replies.{first_bytes, is_call, ran_result, written_are, visits_held}
use Rattle.converter.proofs.Theorems.{held_fresh, same_visits, same_rest, value_as_lent, bytes_as_lent, fed_fresh, bytes_fresh}

-- a run's output reads back
ran_back : {s : List ℕ} {z : State} {part : List ℕ} {ended : Bool} {lent after : List ℕ} {r : Reply} → Sized z → Ran s z part ended lent after r → ReadsBack (take r.written after)
ran_back {s} {z} {part} {ended} {lent} {after} {r} sized w =
    subst ReadsBack (sym (ap (λ (x : Result). x.output) (ran_result w)))
    (calls_read_back w.is_sheet part (not ended) (length lent) (held_of z) w.answer (fit_run w.is_sheet z sized w.fits).store w.called)

-- nothing is written
none_back : (after : List ℕ) (n : ℕ) → n ≡ 0 → ReadsBack (take n after)
none_back after n e = subst ReadsBack (sym (ap (λ (n : ℕ). take n after) e)) (text_back [] tt)

pub written_reads_back : WrittenReadsBack
written_reads_back s z part ended lent after r sized (as_given g k v) = none_back after r.written k.written
written_reads_back s z part ended lent after r sized (runs w v) = ran_back sized w

-- a state that was read off bytes is as code holds one
sized_from : (a : Sheet) (b : List ℕ) → FitsSheet a (state_from b) → Sized (state_from b)
unfolding state_from
sized_from a b f =
    record {
      values = length_gathered (byte_at b) 1 0 attributes;
      count = omega (arith, f.count);
      depth = omega (arith, f.few);
      frames = length_gathered (frame_at b) frame_width head_width most;
      each = all_read SizedFrame (frame_at b) frame_width (frame_read b) head_width most;
    }

pub bytes_written_read_back : BytesWrittenReadBack
bytes_written_read_back s b b' part ended lent after r (bytes_given g k) = none_back after r.written k.written
bytes_written_read_back s b b' part ended lent after r (bytes_run e q w c h i) =
    subst (λ (n : ℕ). ReadsBack (take n after)) (sym c.written) (ran_back (sized_from w.sheet b w.fits) w)

module _ {s : List ℕ} {a : Sheet} (i : IsSheet s a) (ok : Passed a) where
  from_fresh : {part : List ℕ} {more : Bool} {room : ℕ} {x : Result} → Called a part more room (held_of fresh_state) x → Called a part more room fresh_held x
  from_fresh {part} {more} {room} {x} d = subst (λ (h : Held). Called a part more room h x) held_fresh d

  pub replies_exactly : RepliesExactly s a
  replies_exactly part ended lent after r w n t o v =
      let d = from_fresh (is_call i ok (fresh_fit (grammar a) a.start_nonterminal) w) in
      let e = explained_exactly a ok part (not ended) (length lent) (result_of after r) d n t o v in
      let k = visits_held w in (
        (λ h. e.0 (record { is_number = h.is_number; is_taken = h.is_taken; is_output = first_bytes o lent after r.written h.is_written h.is_left; is_visits = sym k ∙ h.is_visits })),
        (λ x.
            let h = e.1 x in
            let f = written_are w o h.is_output in
            record { is_number = h.is_number; is_taken = h.is_taken; is_written = f.0; is_left = f.1; is_visits = k ∙ h.is_visits }),
      )

  -- whatever explains an answer, what was written reads back as what that tree puts out
  with_characters : {part : List ℕ} {more : Bool} {room n t : ℕ} {o : List ℕ} {v : ℕ} → Explained a part more room n t o v → SameCharacters a part more room n t o v
  with_characters {part} {more} {room} {n} {t} {o} {v} x = record { explained = x; reads_back = explained_read_back i ok part more room n t o v x }

  pub replies_read_back : RepliesReadBack s a
  replies_read_back part ended lent after r w =
      let f = written_are w (take r.written after) refl in
      with_characters ((replies_exactly part ended lent after r w r.number r.taken (take r.written after) r.visits).0
      (record { is_number = refl; is_taken = refl; is_written = f.0; is_left = f.1; is_visits = refl }))

  -- the same of calls that feed a stream as the definition's do
  module _ {whole : List ℕ} {more : Bool} {room : ℕ} {x : Result} {told : ℕ} (d : Feeds (CallOf a) more whole room fresh_held x told) where
    fed_as : FedAs a whole more room x told
    fed_as =
        let one = feeds_as_one a more d in
        record {
          answer = one.answer;
          same = one.same;
          tells = feeds_visits a more d ∙ same_visits whole x one.answer one.same;
          exactly = explained_exactly a ok whole more room one.answer one.called;
        }

    told_back : (number : ℕ) × SameCharacters a whole more room number x.taken x.output told
    told_back =
        let y = fed_as in
        let q = same_rest whole x y.answer y.same in (
          y.answer.number,
          with_characters ((y.exactly y.answer.number x.taken x.output told).0
              (record { is_number = refl; is_taken = q.0; is_output = q.1; is_visits = sym y.tells })),
        )

  pub fed_exactly : ValueFedExactly s a
  fed_exactly whole more room x told d = (each_call (ValueAsLent s) value_as_lent d, fed_as (fed_fresh i ok d))

  pub bytes_fed_exactly : BytesFedExactly s a
  bytes_fed_exactly whole more room x told d = (each_call (BytesAsLent s) bytes_as_lent d, fed_as (bytes_fresh i ok d))

  pub fed_read_back : ValueFedReadBack s a
  fed_read_back whole more room x told d = told_back (fed_fresh i ok d)

  pub bytes_fed_read_back : BytesFedReadBack s a
  bytes_fed_read_back whole more room x told d = told_back (bytes_fresh i ok d)
