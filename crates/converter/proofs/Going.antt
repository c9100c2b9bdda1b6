-- How the loop over the tokens goes. What is kept from token to token (`Going`) says what is left: whatever the rest of the part comes to, written behind
-- what is written so far, is what the whole part comes to. A token that is taken keeps it (`goes_on`); the number of one that is not, or of no token, ends
-- the run there (`ends_at_token`, `ends_without`). Over the live part and the stack it is the same run (`stops_seen`), and so it is from a state with
-- nothing left in what is not in use (`may_tidied`, `ran_tidied`).
-- Assumes nothing.
use mathlib.Core.Path.{◌≡◌, refl, sym, ap, ap₂, ◌∙◌, subst}
use mathlib.Core.Logic.{inl, inr}
use mathlib.Core.Bool.{Bool, true, false, not, cond}
use mathlib.Core.List.{List, [], ◌∷◌, ◌++◌, append-nil, append_assoc}
use mathlib.Core.Option.{Option, none, some}
use Prim.Native.Nat.{ℕ, ◌+◌, ◌-◌, ◌≤◌}
use native.Mathlib.Omega.{arith}
use lib.ListN.{length, take, drop, length-append, length-drop}
use lib.Seq.{drop-drop, drop-append_seam, take-append_seam}
use borrow.Author.Tests.{ne_eqb}
use Rattle.tokens.specs.declared.Cursor.{Cursor}
use Rattle.tokens.specs.declared.Event.{Event}
use Rattle.tokens.specs.declared.Event.TheVariants.{Start, End, Empty, Character}
use Rattle.tokens.specs.declared.Answer.{Answer}
use Rattle.tokens.specs.declared.Answer.TheVariants.{Token, Waiting, Begun, Bad, Long}
use Rattle.tokens.specs.Tokens.{start, end, empty, front, Means}
use Rattle.tokens.specs.Stream.{settled, ReadAs}
use Rattle.sheet.specs.Sheet.{Sheet}
use Rattle.runs.specs.Visits.{most_visits}
use Rattle.runs.specs.Machine.{Control, most, Configuration as Standing, answered, run}
use Rattle.runs.proofs.SheetFits.{sheet_fits}
use Rattle.calls.specs.Names.{token_of}
use Rattle.calls.specs.Limits.{Taking, taken, refuses, no_room, one_token}
use Rattle.runs.specs.Closing.{Closing, closed_by_end, closed_by_refusal, closed_by_count}
use Rattle.calls.specs.Held.{Held, leaves_open, closing_of, handed}
use Rattle.calls.specs.Call.{Result, room_left, stopped_at, after_writing, number_at, stops, full as no_space, no_token, Runs, takes, halts as run_halts, CalledBy, Called}
use Rattle.calls.proofs.Read.{read_moves, read_name, read_char, never_waits}
use Rattle.calls.proofs.Steps.{takes_one, refuses_over}
use Rattle.calls.proofs.Exactly.{closing_fits}
use Rattle.state.specs.Changes.{not_closed, closed_with, with_env, tidied}
use Rattle.state.specs.Canonical.{state_for}
use Rattle.state.specs.Meaning.{meaning_of, Shaped}
use Rattle.state.specs.declared.State.{State}
use Rattle.state.proofs.Meant.{meaning_closed, shaped_closed, shaped_env}
use Rattle.state.proofs.Tidy.{meaning_tidied, shaped_tidied, tidied_for}
use Rattle.fit.specs.Fit.{ClosingFits}
use Rattle.fit.specs.RunFits.{RunFits}
use Rattle.fit.proofs.RunsFit.{run_fit}
use Rattle.steps.proofs.Onward.{event_fits, taken_fits}
use Rattle.steps.specs.Taken.{EventIn, Taken, TakingIs, TakenAs}
use Rattle.steps.specs.Seen.{SteppedSeen}
use Rattle.steps.specs.declared.Run.{Run}
use Rattle.steady.specs.Steady.{counting}
use Rattle.stretches.specs.declared.Stretch.{Stretch}
use Rattle.ahead.specs.Ahead.{OnwardAs}
use Rattle.live.specs.declared.Live.{Live}
use Rattle.live.specs.Live.{full}
use Rattle.converter.specs.declared.Reply.{Reply}
use Rattle.converter.specs.declared.LiveReply.{LiveReply}
use Rattle.converter.specs.Answered.{FitsSheet, closing_in, held_of, closing_byte, state_of, Ran}
use Rattle.converter.specs.Inner.{MayRun, NumberedAs, left_with, StopsAs, closed_live, left_live, StopsLive, seen, RanLive}
use Rattle.converter.specs.Promises.{InTable}
use Rattle.converter.proofs.Replies.{run_number, fits_here}

-- what the reader answers of a part lies in it
pub event_in : (more : Bool) (part : List ℕ) (at : ℕ) (e : Event) (next : ℕ) → ReadAs more part at (Token e (record { at = next })) → EventIn part e
event_in more part at (Start from len) next m = (read_name more start part at from len next m).within
event_in more part at (End from len) next m = (read_name more end part at from len next m).within
event_in more part at (Empty from len) next m = (read_name more empty part at from len next m).within
event_in more part at (Character c literal) next m = read_char more part at c literal next m

-- z₀ is the state that was handed in; at the place `at` of the part the state is z, `put` bytes are written and the lent memory is d
pub record Going (s : List ℕ) (z₀ : State) (part : List ℕ) (more : Bool) (lent d : List ℕ) (at put : ℕ) (z : State) : Type 0 where
  pub within : at ≤ length part
  pub room : put ≤ length lent
  pub long : length d ≡ length lent
  pub count : z.count ≤ most_visits
  pub is_open : z.closed ≡ not_closed
  pub shaped : Shaped z
  pub given : MayRun s z₀
  pub fits : RunFits given.sheet (meaning_of z)
  pub written : List ℕ
  pub as_long : length written ≡ put
  pub first : d ≡ written ++ drop put lent
  pub rest : (x : Result) → Runs given.sheet part more at (length lent - put) (meaning_of z) x →
      Runs given.sheet part more 0 (length lent) (meaning_of z₀) (after_writing written x)

pub begins : {s : List ℕ} {z : State} (part : List ℕ) (more : Bool) (lent : List ℕ) → MayRun s z → Going s z part more lent lent 0 0 z
begins {z = z} part more lent m =
    record {
      within = omega arith;
      room = omega arith;
      long = refl;
      count = m.fits.count;
      is_open = m.is_open;
      shaped = m.shaped;
      given = m;
      fits = m.run_fits;
      written = [];
      as_long = refl;
      first = refl;
      rest = λ x c. subst (λ (n : ℕ). Runs m.sheet part more 0 n (meaning_of z) x) (omega arith) c;
    }

module _ {s : List ℕ} {z₀ : State} {part : List ℕ} {more : Bool} {lent d : List ℕ} {at put : ℕ} {z : State} (g : Going s z₀ part more lent d at put z) where
  abbrev sheet : Sheet
  sheet = g.given.sheet

  abbrev left : ℕ
  left = length lent - put

  -- the memory after more is written
  then_written : (w d' : List ℕ) → put + length w ≤ length lent → d' ≡ take put d ++ (w ++ drop (put + length w) d) → d' ≡ (g.written ++ w) ++ drop (put + length w) lent
  then_written w d' h e =
      let u : List ℕ = g.written in
      let t : take put d ≡ u =
      ap₂ take (sym g.as_long) g.first ∙ take-append_seam u (drop put lent) in
      let r : drop put d ≡ drop put lent = ap₂ drop (sym g.as_long) g.first ∙ drop-append_seam u (drop put lent) in
      let v : drop (put + length w) d ≡ drop (put + length w) lent =
      sym (drop-drop (length w) put d) ∙ ap (drop (length w)) r ∙ drop-drop (length w) put lent in
      e ∙ ap₂ (λ (x y : List ℕ). x ++ (w ++ y)) t v ∙ sym (append_assoc u w (drop (put + length w) lent))

  module _ (e : Event) (next : ℕ) (means : ReadAs more part at (Token e (record { at = next }))) where
    abbrev here : Taking
    here = one_token sheet (meaning_of z) left (token_of sheet part e)

    -- the token's answer, with the room that there is
    takes_here : (r : SteppedSeen) (d' : List ℕ) → TakenAs s part e z d put r d' → TakingIs here z d put r d'
    takes_here r d' t =
        subst (λ (n : ℕ). TakingIs (one_token sheet (meaning_of z) n (token_of sheet part e)) z d put r d') (ap (λ (n : ℕ). n - put) g.long)
        (t.right sheet g.given.is_sheet g.shaped g.fits)

    taken_on : (r : SteppedSeen) (d' : List ℕ) → TakenAs s part e z d put r d' → (y : Standing) (w : List ℕ) → here ≡ taken y w → Taken y w z d put r d' →
        Going s z₀ part more lent d' next r.at r.state
    taken_on r d' T y w q k =
        let o = takes_one sheet (meaning_of z) left (token_of sheet part e) y w q in
        let h : put + length w ≤ length lent = omega (arith, o.fits, ap length o.writes, g.room) in
        let m = read_moves more part at e next means g.within in
        let n : r.at ≡ put + length w = k.next in
        let f = then_written w d' h k.left in
        record {
          within = m.1;
          room = omega (arith, n, h);
          long = ap length f ∙ omega (arith, length-append (g.written ++ w) (drop (put + length w) lent), length-append g.written w, g.as_long, length-drop (put + length w) lent, h);
          count = T.count;
          is_open = k.closed ∙ g.is_open;
          shaped = k.shaped;
          given = g.given;
          fits = subst (RunFits sheet) (sym k.means)
              (taken_fits sheet (sheet_fits g.given.is_sheet) (meaning_of z) left (token_of sheet part e) y w
              (event_fits sheet part e (event_in more part at e next means)) g.fits q);
          written = g.written ++ w;
          as_long = length-append g.written w ∙ omega (arith, n, g.as_long);
          first = f ∙ ap (λ (i : ℕ). (g.written ++ w) ++ drop i lent) (sym n);
          rest = λ x c.
              subst (Runs sheet part more 0 (length lent) (meaning_of z₀))
              (ap (λ (l : List ℕ). record { number = x.number; taken = x.taken; output = l; held = x.held }) (sym (append_assoc g.written w x.output)))
              (g.rest (after_writing w x)
              (takes e next y w means q
              (subst (λ (i : Standing). Runs sheet part more next (room_left left w) i x) k.means
              (subst (λ (i : ℕ). Runs sheet part more next i (meaning_of r.state) x) (omega (arith, n)) c))));
        }

    pub goes_on : (r : SteppedSeen) (d' : List ℕ) → TakenAs s part e z d put r d' → r.number ≡ 0 → Going s z₀ part more lent d' next r.at r.state
    goes_on r d' T o = by here refl (takes_here r d' T)
      where
        by : (t : Taking) → here ≡ t → TakingIs t z d put r d' → Going s z₀ part more lent d' next r.at r.state
        by (taken y w) q k = taken_on r d' T y w q k
        by (refuses n) q k = absurd (omega (arith, o, k.number, refuses_over sheet (meaning_of z) left (token_of sheet part e) n q))
        by no_room q k = absurd (omega (arith, o, k.number))

    -- a number other than 0: the run stops before the token
    halts : (r : SteppedSeen) (d' : List ℕ) → TakenAs s part e z d put r d' → (r.number ≡ 0 → ⊥) →
        Runs sheet part more at left (meaning_of z) (stopped_at r.number at (meaning_of z)) × (d ≡ d')
    halts r d' T w = by here refl (takes_here r d' T)
      where
        by : (t : Taking) → here ≡ t → TakingIs t z d put r d' → Runs sheet part more at left (meaning_of z) (stopped_at r.number at (meaning_of z)) × (d ≡ d')
        by (taken y u) q k = absurd (w k.number)
        by (refuses n) q k = (subst (λ (i : ℕ). Runs sheet part more at left (meaning_of z) (stopped_at i at (meaning_of z))) (sym k.number) (run_halts (stops e next n means q)), sym k.left)
        by no_room q k = (subst (λ (i : ℕ). Runs sheet part more at left (meaning_of z) (stopped_at i at (meaning_of z))) (sym k.number) (run_halts (no_space e next means q)), sym k.left)

-- the same run at another count
counted_on : (z : State) (n : ℕ) → meaning_of (with_env z z.values z.echo n) ≡ counting (meaning_of z) n
unfolding meaning_of
counted_on z n = refl

counting_fits : (a : Sheet) (m : Standing) (n : ℕ) → RunFits a m → RunFits a (counting m n)
counting_fits a m n f =
    record { chain = f.chain; kept = f.kept; store = record { values_fit = f.store.values_fit; kept_fit = f.store.kept_fit; output_fits = tt } }

-- a stretch was taken at once
module _ {s : List ℕ} {z₀ : State} {part : List ℕ} {more : Bool} {lent d : List ℕ} {at put : ℕ} {z : State} (g : Going s z₀ part more lent d at put z) where
  pub goes_far : (r : Stretch) (d' : List ℕ) → OnwardAs s part z d at put r d' → Going s z₀ part more lent d' r.at r.put (with_env z z.values z.echo r.count)
  goes_far r d' O =
      let a : Sheet = g.given.sheet in
      let w : List ℕ = O.written in
      let n : r.put ≡ put + length w = O.next in
      let h : put + length w ≤ length lent = omega (arith, n, O.room, g.long) in
      let e = then_written g w d' h O.left in
      let m : meaning_of (with_env z z.values z.echo r.count) ≡ counting (meaning_of z) r.count = counted_on z r.count in
      record {
        within = O.within;
        room = omega (arith, n, h);
        long = O.long ∙ g.long;
        count = O.count;
        is_open = g.is_open;
        shaped = shaped_env z z.values z.echo r.count g.shaped;
        given = g.given;
        fits = subst (RunFits a) (sym m) (counting_fits a (meaning_of z) r.count g.fits);
        written = g.written ++ w;
        as_long = length-append g.written w ∙ omega (arith, n, g.as_long);
        first = e ∙ ap (λ (i : ℕ). (g.written ++ w) ++ drop i lent) (sym n);
        rest = λ x c.
            let here : Runs a part more r.at (length d - r.put) (counting (meaning_of z) r.count) x =
            subst (λ (i : Standing). Runs a part more r.at (length d - r.put) i x) m
            (subst (λ (i : ℕ). Runs a part more r.at (i - r.put) (meaning_of (with_env z z.values z.echo r.count)) x) (sym g.long) c) in
            let there : Runs a part more at (length lent - put) (meaning_of z) (after_writing w x) =
            subst (λ (i : ℕ). Runs a part more at (i - put) (meaning_of z) (after_writing w x)) g.long (O.rest a g.given.is_sheet g.shaped g.fits more x here) in
            subst (Runs a part more 0 (length lent) (meaning_of z₀))
            (ap (λ (l : List ℕ). record { number = x.number; taken = x.taken; output = l; held = x.held }) (sym (append_assoc g.written w x.output)))
            (g.rest (after_writing w x) there);
      }

pub at_run : {s : List ℕ} {z₀ : State} {part : List ℕ} {more : Bool} {lent d : List ℕ} {at : ℕ} (b : List ℕ) {x y : Run} → x ≡ y → Going s z₀ part more lent d at y.at (full y.live b) →
    Going s z₀ part more lent d at x.at (full x.live b)
at_run {s} {z₀} {part} {more} {lent} {d} {at} b e g = subst (λ (r : Run). Going s z₀ part more lent d at r.at (full r.live b)) (sym e) g

-- what is handed back with a number
closing_is : {n : ℕ} → Closing n → ClosingFits n × (n ≤ 30)
closing_is closed_by_end = (inr closed_by_end, omega arith)
closing_is (closed_by_refusal h k) = (inr (closed_by_refusal h k), omega arith)
closing_is closed_by_count = (inr closed_by_count, omega arith)

module _ {s : List ℕ} {z₀ : State} {part : List ℕ} (ended_now : Bool) {lent d : List ℕ} {at put : ℕ} {z : State}
    (g : Going s z₀ part (not ended_now) lent d at put z) (n : ℕ)
    (stops_here : Runs g.given.sheet part (not ended_now) at (length lent - put) (meaning_of z) (stopped_at n at (meaning_of z))) where
  abbrev a : Sheet
  a = g.given.sheet

  -- what is left is handed back with nothing in what is not in use: it holds what the answer says, fits, and is the one state that holds it
  abbrev Handed : State → Type 0
  Handed y = (held_of (tidied y) ≡ handed n (meaning_of z)) × FitsSheet a (tidied y) × (tidied y ≡ state_of (handed n (meaning_of z)))

  handed_as : (y : State) → Shaped y → meaning_of y ≡ meaning_of z → y.count ≤ most_visits → ClosingFits y.closed → closing_in y.closed ≡ closing_of (leaves_open n) n →
      y.closed ≡ closing_byte (closing_of (leaves_open n) n) → Handed y
  handed_as y w m k f c b =
      let t : meaning_of (tidied y) ≡ meaning_of z = meaning_tidied y w ∙ m in (
        ap₂ (λ (x : Standing) (o : Option ℕ). record { run = x; closing = o }) t c,
        run_fit a (tidied y) (shaped_tidied y w) (subst (RunFits a) (sym t) g.fits) k f,
        tidied_for y w ∙ ap₂ state_for m b,
      )

  handed_open : leaves_open n ≡ true → Handed z
  handed_open b =
      handed_as z g.shaped refl g.count (inl g.is_open) (ap closing_in g.is_open ∙ ap (λ (x : Bool). closing_of x n) (sym b))
      (g.is_open ∙ ap (λ (x : Bool). closing_byte (closing_of x n)) (sym b))

  handed_closed : leaves_open n ≡ false → Handed (closed_with z n)
  handed_closed b =
      let k = closing_is (closing_fits stops_here n (ap (λ (x : Bool). closing_of x n) b)) in
      let few = k.1 in
      handed_as (closed_with z n) (shaped_closed z n g.shaped) (meaning_closed z n) g.count k.0
      (ap (λ (x : Bool). cond x none (some n)) (ne_eqb n not_closed (λ e. omega arith)) ∙ ap (λ (x : Bool). closing_of x n) (sym b))
      (ap (λ (x : Bool). closing_byte (closing_of x n)) (sym b))

  handed_back : Handed (left_with n z)
  handed_back = by (leaves_open n) refl
    where
      by : (b : Bool) → leaves_open n ≡ b → Handed (cond b z (closed_with z n))
      by true e = handed_open e
      by false e = handed_closed e

  -- the run ends with the number n
  pub ends_with : (r : Reply) → StopsAs n at put z r → Ran s z₀ part ended_now lent d r
  ends_with r t =
      let m = g.given in
      let u : List ℕ = g.written in
      let e : u ++ [] ≡ u = append-nil u in
      let open_then : (held_of z₀).closing ≡ none = ap closing_in m.is_open in
      record {
        sheet = m.sheet;
        is_sheet = m.is_sheet;
        passed = m.passed;
        fits = m.fits;
        is_open = open_then;
        answer = after_writing u (stopped_at n at (meaning_of z));
        called = subst (λ (c : Option ℕ). CalledBy a part (not ended_now) (length lent) (meaning_of z₀) c (after_writing u (stopped_at n at (meaning_of z)))) (sym open_then)
            (g.rest (stopped_at n at (meaning_of z)) stops_here);
        number = t.number;
        taken = t.taken;
        within = omega (arith, t.taken, g.within);
        written = t.written ∙ sym g.as_long ∙ sym (ap length e);
        room = omega (arith, ap length e, g.as_long, g.room);
        left = g.first ∙ ap₂ (λ (x : List ℕ) (i : ℕ). x ++ drop i lent) (sym e) (sym g.as_long ∙ sym (ap length e));
        state = t.state ∙ handed_back.2;
        held = ap held_of t.state ∙ handed_back.0;
        fits_again = subst (FitsSheet a) (sym t.state) handed_back.1;
      }

-- it is one that a byte holds
few : {a : Sheet} {part : List ℕ} {more : Bool} {at room n : ℕ} {z : Standing} → Runs a part more at room z (stopped_at n at z) → n ≤ 30
few d = by (run_number d)
  where
    by : {n : ℕ} → InTable n → n ≤ 30
    by (inl h) = omega arith
    by (inr (inl h)) = omega arith
    by (inr (inr (inl h))) = omega arith
    by (inr (inr (inr h))) = h.1

-- a token that is not taken
module _ {s : List ℕ} {z₀ : State} {part : List ℕ} (ended_now : Bool) {lent d : List ℕ} {at put : ℕ} {z : State} (g : Going s z₀ part (not ended_now) lent d at put z)
    (e : Event) (next : ℕ) (means : ReadAs (not ended_now) part at (Token e (record { at = next })))
    (r : SteppedSeen) (d' : List ℕ) (taking : TakenAs s part e z d put r d') (w : r.number ≡ 0 → ⊥) where
  pub refused_few : r.number ≤ 30
  refused_few = few (halts g e next means r d' taking w).0

  pub ends_at_token : (q : Reply) → StopsAs r.number at put z q → Ran s z₀ part ended_now lent d' q
  ends_at_token q t =
      let h = halts g e next means r d' taking w in
      subst (λ (x : List ℕ). Ran s z₀ part ended_now lent x q) h.1 (ends_with ended_now g r.number h.0 q t)

-- no token comes next
numbered : (more : Bool) (part : List ℕ) (at left : ℕ) (c : Control) (x : Answer) (n : ℕ) → ReadAs more part at x → ((e : Event) (next : Cursor) → x ≡ Token e next → ⊥) →
    NumberedAs more left c x n → number_at more left c x ≡ some n
numbered more part at left c (Token e next) n r w h = absurd (w e next refl)
numbered more part at left c (Waiting e next) n r w h = absurd (never_waits more part at e next r)
numbered more part at left c Begun n r w h = h
numbered more part at left c Bad n r w h = h
numbered more part at left c Long n r w h = h

module _ {s : List ℕ} {z₀ : State} {part : List ℕ} (ended_now : Bool) {lent d : List ℕ} {at put : ℕ} {z : State} (g : Going s z₀ part (not ended_now) lent d at put z)
    (x : Answer) (n : ℕ) (means : ReadAs (not ended_now) part at x) (w : (e : Event) (next : Cursor) → x ≡ Token e next → ⊥)
    (h : NumberedAs (not ended_now) (length part - at) (meaning_of z).control x n) where
  without : Runs g.given.sheet part (not ended_now) at (length lent - put) (meaning_of z) (stopped_at n at (meaning_of z))
  without =
      run_halts
      (no_token x n means
      (ap (λ (i : ℕ). number_at (not ended_now) i (meaning_of z).control x) (length-drop at part)
      ∙ numbered (not ended_now) part at (length part - at) (meaning_of z).control x n means w h))

  pub without_few : n ≤ 30
  without_few = few without

  pub ends_without : (q : Reply) → StopsAs n at put z q → Ran s z₀ part ended_now lent d q
  ends_without q t = ends_with ended_now g n without q t

-- the reader's answer, settled: one that does not wait stays, one that waits is a token where the stream has ended, and else begun
module _ (ended_now : Bool) (part : List ℕ) (at : ℕ) (y : Answer) (m : Means (front part at) at y) where
  pub settled_same : ((e : Event) (next : Cursor) → y ≡ Waiting e next → ⊥) → ReadAs (not ended_now) part at y
  settled_same h = (y, m, by y h)
    where
      by : (x : Answer) → ((e : Event) (next : Cursor) → x ≡ Waiting e next → ⊥) → x ≡ settled (not ended_now) x
      by (Token e next) h = refl
      by (Waiting e next) h = absurd (h e next refl)
      by Begun h = refl
      by Bad h = refl
      by Long h = refl

  pub settled_token : (e : Event) (next : Cursor) → y ≡ Waiting e next → ended_now ≡ true → ReadAs (not ended_now) part at (Token e next)
  settled_token e next q f = (y, m, sym (ap₂ (λ (b : Bool) (x : Answer). settled (not b) x) f q))

  pub settled_begun : (e : Event) (next : Cursor) → y ≡ Waiting e next → ended_now ≡ false → ReadAs (not ended_now) part at Begun
  settled_begun e next q f = (y, m, sym (ap₂ (λ (b : Bool) (x : Answer). settled (not b) x) f q))

-- what was read is the token that was bound
pub bound : (more : Bool) (part : List ℕ) (at : ℕ) (x : Answer) (e : Event) (next : Cursor) → ReadAs more part at x → x ≡ Token e next → ReadAs more part at (Token e next)
bound more part at x e next m q = subst (ReadAs more part at) q m

-- the live part of a state is closed as the state is
full_left : (n : ℕ) (h : Live) (b : List ℕ) → full (left_live n h) b ≡ left_with n (full h b)
full_left n h b = by (leaves_open n)
  where
    by : (c : Bool) → full (cond c h (closed_live h n)) b ≡ cond c (full h b) (closed_with (full h b) n)
    by true = refl
    by false = refl

depth_left : (n : ℕ) (h : Live) → (left_live n h).depth ≡ h.depth
depth_left n h = by (leaves_open n)
  where
    by : (c : Bool) → (cond c h (closed_live h n)).depth ≡ h.depth
    by true = refl
    by false = refl

-- what a run stops with, with the whole state
module _ {n at put : ℕ} {h : Live} {r : LiveReply} (t : StopsLive n at put h r) (b : List ℕ) where
  pub stops_seen : (z : State) → full h b ≡ z → StopsAs n at put z (seen r b)
  stops_seen z e =
      record {
        number = t.number;
        taken = t.taken;
        written = t.written;
        visits = t.visits;
        state = ap (λ (l : Live). tidied (full l b)) t.live ∙ ap tidied (full_left n h b ∙ ap (left_with n) e);
      }

  pub ran_live : {s : List ℕ} {z : State} {part : List ℕ} {ended_now : Bool} {lent d : List ℕ} → h.depth ≤ most → Ran s z part ended_now lent d (seen r b) → RanLive s z part ended_now lent d r b
  ran_live k w = record { deep = omega (arith, k, ap (λ (l : Live). l.depth) t.live, depth_left n h); visits = t.visits; ran = w }

-- a state with nothing left in what is not in use runs as it does
module _ {s : List ℕ} {z : State} (m : MayRun s z) where
  pub may_tidied : MayRun s (tidied z)
  may_tidied =
      let f : RunFits m.sheet (meaning_of (tidied z)) = subst (RunFits m.sheet) (sym (meaning_tidied z m.shaped)) m.run_fits in
      record {
        sheet = m.sheet;
        is_sheet = m.is_sheet;
        passed = m.passed;
        fits = run_fit m.sheet (tidied z) (shaped_tidied z m.shaped) f m.fits.count (inl m.is_open);
        is_open = m.is_open;
        shaped = shaped_tidied z m.shaped;
        run_fits = f;
      }

  pub ran_tidied : {part : List ℕ} {ended_now : Bool} {lent d : List ℕ} {r : Reply} → Ran s (tidied z) part ended_now lent d r → Ran s z part ended_now lent d r
  ran_tidied {part} {ended_now} {lent} w =
      let e : held_of (tidied z) ≡ held_of z = ap (λ (x : Standing). record { run = x; closing = closing_in z.closed }) (meaning_tidied z m.shaped) in
      record {
        sheet = w.sheet;
        is_sheet = w.is_sheet;
        passed = w.passed;
        fits = fits_here w.is_sheet w.passed m.is_sheet m.fits;
        is_open = ap closing_in m.is_open;
        answer = w.answer;
        called = subst (λ (x : Held). Called w.sheet part (not ended_now) (length lent) x w.answer) e w.called;
        number = w.number;
        taken = w.taken;
        within = w.within;
        written = w.written;
        room = w.room;
        left = w.left;
        state = w.state;
        held = w.held;
        fits_again = w.fits_again;
      }
