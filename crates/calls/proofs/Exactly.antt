-- The numbers of a call are given exactly when document 01 says so: 22 to 26 by the events (`stopped_iff` of the runs), for which the states between calls
-- have to be reached ones, and they are; 30 and 17 by the count and the output; a closed state repeats its number.
-- Assumes nothing.
use mathlib.Core.Path.{◌≡◌, refl, sym, ap, ap₂, ◌∙◌, subst}
use mathlib.Core.Logic.{◌⊎◌, inl, inr, ◌↔◌}
use mathlib.Core.Bool.{Bool, true, false, ◌&&◌}
use mathlib.Core.List.{List, [], ◌++◌, append-nil}
use mathlib.Core.Option.{Option, none, some}
use Prim.Native.Nat.{ℕ, zero, suc, ◌≤◌, ◌<◌}
use native.Mathlib.Omega.{arith}
use lib.Dec.{leb}
use lib.ListN.{length, drop}
use borrow.Author.Tests.{leb-true, leb-false, le-leb, lt-leb}
use Rattle.tokens.specs.declared.Answer.TheVariants.{Waiting, Begun, Bad, Long}
use Rattle.output.specs.Escape.{Piece}
use Rattle.sheet.specs.Sheet.{Sheet}
use Rattle.runs.specs.Visits.{grammar}
use Rattle.runs.specs.Events.{Event}
use Rattle.runs.specs.Machine.{Control, before, inside, after, Configuration, fresh_configuration, Answer, took, refused, Outcome, finished, stopped, answered, run}
use Rattle.runs.specs.Taken.{Passed}
use Rattle.runs.specs.Spells.{Token, events_of_token, is_blank, passes_at, unless_blank, step_token}
use Rattle.runs.proofs.Moves.{run_through, run_stops}
use Rattle.runs.proofs.Answers.{run_append, stopped_iff}
use Rattle.runs.proofs.Spells.{token_refused}
use Rattle.calls.specs.Names.{token_of}
use Rattle.runs.specs.Visits.{most_visits}
use Rattle.calls.specs.Limits.{silent, output_of, Taking, taken, refuses, no_room, limited, within, one_token, Over, Full}
use Rattle.runs.specs.Closing.{Closing, closed_by_end, closed_by_refusal, closed_by_count}
use Rattle.calls.specs.Held.{Held, leaves_open, closing_of}
use Rattle.calls.specs.Call.{Result, number_at, stops, full, no_token, Runs, takes, halts, again, CalledBy, Called}
use Rattle.calls.specs.Reached.{ReachedBy, StopsAt}
use Rattle.calls.proofs.Frame.{state_behind, answer_behind, token_frame, count_of, token_number}
use Rattle.calls.proofs.Steps.{out_of, behind_silent, takes_one}

-- a token in a state without output, and in the same with it
module _ (a : Sheet) (y : Configuration) (k : Token) where
  from_silent : step_token a y k ≡ answer_behind (out_of y) (step_token a (silent y) k)
  from_silent = ap (λ (x : Configuration). step_token a x k) (behind_silent [] y) ∙ token_frame a (out_of y) (silent y) k

  -- taken: it is white space that passes, or its events are
  pub took_events : (z : Configuration) → step_token a y k ≡ took z → (xs : List Event) × (run a y xs ≡ finished z)
  took_events z e = by (is_blank k && passes_at (grammar a) y.control) e
    where
      by : (b : Bool) → unless_blank b y (answered (run a y (events_of_token k))) ≡ took z → (xs : List Event) × (run a y xs ≡ finished z)
      by true e = let h : y ≡ z = cc in ([], ap finished h)
      by false e = (events_of_token k, run_through (run a y (events_of_token k)) z e)

module _ (a : Sheet) where
  pub fresh_reached : ReachedBy a fresh_configuration
  fresh_reached = record { events = []; full = fresh_configuration; runs = refl; is = refl }

  token_reached : (z : Configuration) (k : Token) (y : Configuration) → ReachedBy a z → step_token a z k ≡ took y → ReachedBy a (silent y)
  token_reached z k y h e =
      let w : Configuration = h.full in
      let o : List Piece = out_of w in
      let t = took_events a w k (state_behind o y) (from_silent a w k ∙ ap (λ (x : Configuration). answer_behind o (step_token a x k)) (sym h.is) ∙ ap (answer_behind o) e) in
      record {
        events = h.events ++ t.0;
        full = state_behind o y;
        runs = run_append a fresh_configuration w h.events t.0 h.runs ∙ t.1;
        is = refl;
      }

  runs_reached : {part : List ℕ} {more : Bool} {at room : ℕ} {z : Configuration} {r : Result} → Runs a part more at room z r → ReachedBy a z → ReachedBy a r.held.run
  runs_reached {part} (takes {at} {room} {z} e next z' w m t d) h =
      let o = takes_one a z room (token_of a part e) z' w t in
      runs_reached d (subst (ReachedBy a) (sym o.silenced) (token_reached z (token_of a part e) o.reached h o.stepped))
  runs_reached (halts q) h = h

  -- the states handed back are reached where those handed in are
  pub call_reached : (part : List ℕ) (more : Bool) (room : ℕ) (h : Held) (r : Result) → Called a part more room h r → ReachedBy a h.run → ReachedBy a r.held.run
  call_reached part more room h r d w = by h.closing d
    where
      by : (c : Option ℕ) → CalledBy a part more room h.run c r → ReachedBy a r.held.run
      by none d = runs_reached d w
      by (some n) d = subst (λ (x : Result). ReachedBy a x.held.run) (sym d) w

-- 22 to 26: the first of the token's events that is refused after those so far
module _ (a : Sheet) (ok : Passed a) (z : Configuration) (h : ReachedBy a z) (k : Token) (n : ℕ) where
  same_refusal : step_token a h.full k ≡ answer_behind (out_of h.full) (step_token a z k)
  same_refusal = from_silent a h.full k ∙ ap (λ (x : Configuration). answer_behind (out_of h.full) (step_token a x k)) (sym h.is)

  to_stops : step_token a z k ≡ refused n → StopsAt h k n
  to_stops e =
      let t = (token_refused a h.full k n (same_refusal ∙ ap (answer_behind (out_of h.full)) e)).1 in
      let y : Configuration = t.0 in (
        y.store,
        t.1,
        (stopped_iff a ok (h.events ++ events_of_token k) n y.store t.1).0
            (y.control, run_append a fresh_configuration h.full h.events (events_of_token k) h.runs ∙ t.2),
      )

  from_stops : is_blank k && passes_at (grammar a) z.control ≡ false → StopsAt h k n → step_token a z k ≡ refused n
  from_stops b (m, left, s) =
      let t = (stopped_iff a ok (h.events ++ events_of_token k) n m left).1 s in
      let r : run a h.full (events_of_token k) ≡ stopped n (record { control = t.0; store = m }) left =
      sym (run_append a fresh_configuration h.full h.events (events_of_token k) h.runs) ∙ t.1 in
      let c : is_blank k && passes_at (grammar a) h.full.control ≡ false = ap (λ (x : Configuration). is_blank k && passes_at (grammar a) x.control) (sym h.is) ∙ b in
      let e : step_token a h.full k ≡ refused n =
      ap (λ (x : Bool). unless_blank x h.full (answered (run a h.full (events_of_token k)))) c ∙ ap answered r in
      by (step_token a z k) (sym same_refusal ∙ e)
    where
      by : (x : Answer) → answer_behind (out_of h.full) x ≡ refused n → x ≡ refused n
      by (took y) e = absurd (let i : ◌≡◌ {A = ℕ} 0 1 = cc in omega arith)
      by (refused j) e = let i : j ≡ n = cc in ap refused i

  -- white space that passes is never refused
  pub refused_iff : (step_token a z k ≡ refused n) ↔ ((is_blank k && passes_at (grammar a) z.control ≡ false) × StopsAt h k n)
  refused_iff = ((λ e. ((token_refused a z k n e).0, to_stops e)), (λ p. from_stops p.0 p.1))

module _ (a : Sheet) (z : Configuration) (room : ℕ) (k : Token) where
  -- 30: it would be taken, and takes the count over the limit
  pub refuses_iff : (n : ℕ) → (one_token a z room k ≡ refuses n) ↔ ((step_token a z k ≡ refused n) ⊎ Over a z k n)
  refuses_iff n = (to (step_token a z k) refl, from)
    where
      by_tests : (y : Configuration) → step_token a z k ≡ took y → (c f : Bool) → leb (count_of y) most_visits ≡ c → limited y c f ≡ refuses n → (step_token a z k ≡ refused n) ⊎ Over a z k n
      by_tests y t false f hc e = let h : 30 ≡ n = cc in inr (sym h, (y, t, leb-false (count_of y) most_visits hc))
      by_tests y t true false hc e = absurd (let x : ◌≡◌ {A = ℕ} 0 1 = cc in omega arith)
      by_tests y t true true hc e = absurd (let x : ◌≡◌ {A = ℕ} 0 1 = cc in omega arith)

      to : (x : Answer) → step_token a z k ≡ x → within room x ≡ refuses n → (step_token a z k ≡ refused n) ⊎ Over a z k n
      to (took y) t e = by_tests y t (leb (count_of y) most_visits) (leb (length (output_of y)) room) refl e
      to (refused m) t e = let h : m ≡ n = cc in inl (t ∙ ap refused h)

      from : (step_token a z k ≡ refused n) ⊎ Over a z k n → one_token a z room k ≡ refuses n
      from (inl e) = ap (within room) e
      from (inr (h, (y, t, c))) =
          ap (within room) t ∙ ap (λ (b : Bool). limited y b (leb (length (output_of y)) room)) (lt-leb (count_of y) most_visits c) ∙ ap refuses (sym h)

  -- 17: it would be taken within the limit, and its output is longer than the room
  pub no_room_iff : (one_token a z room k ≡ no_room) ↔ Full a z room k
  no_room_iff = (to (step_token a z k) refl, from)
    where
      by_tests : (y : Configuration) → step_token a z k ≡ took y → (c f : Bool) → leb (count_of y) most_visits ≡ c → leb (length (output_of y)) room ≡ f → limited y c f ≡ no_room → Full a z room k
      by_tests y t false f hc hf e = absurd (let x : ◌≡◌ {A = ℕ} 0 1 = cc in omega arith)
      by_tests y t true false hc hf e = (y, t, leb-true (count_of y) most_visits hc, leb-false (length (output_of y)) room hf)
      by_tests y t true true hc hf e = absurd (let x : ◌≡◌ {A = ℕ} 0 1 = cc in omega arith)

      to : (x : Answer) → step_token a z k ≡ x → within room x ≡ no_room → Full a z room k
      to (took y) t e = by_tests y t (leb (count_of y) most_visits) (leb (length (output_of y)) room) refl refl e
      to (refused m) t e = absurd (let x : ◌≡◌ {A = ℕ} 0 1 = cc in omega arith)

      from : Full a z room k → one_token a z room k ≡ no_room
      from (y, t, c, f) =
          ap (within room) t ∙ ap₂ (λ (b b' : Bool). limited y b b') (le-leb (count_of y) most_visits c) (lt-leb (length (output_of y)) room f)

-- a closed state answers the same for ever: it is handed back as given
pub closed_again : (a : Sheet) (part : List ℕ) (more : Bool) (room : ℕ) (h : Held) (r : Result) (n : ℕ) → h.closing ≡ some n → Called a part more room h r →
    r ≡ record { number = again n; taken = 0; output = []; held = h }
closed_again a part more room h r n e d =
    let i = subst (λ (c : Option ℕ). CalledBy a part more room h.run c r) e d in
    i ∙ ap (λ (c : Option ℕ). record { number = again n; taken = 0; output = []; held = record { run = h.run; closing = c } }) (sym e)

closing_is : (b : Bool) (n m : ℕ) → closing_of b n ≡ some m → n ≡ m
closing_is true n m e = absurd (let x : ◌≡◌ {A = ℕ} 0 1 = cc in omega arith)
closing_is false n m e = cc

-- and it is closed by the number that the call answered
pub closed_by : {a : Sheet} {part : List ℕ} {more : Bool} {at room : ℕ} {z : Configuration} {r : Result} → Runs a part more at room z r → (n : ℕ) → r.held.closing ≡ some n →
    r.number ≡ n
closed_by (takes e next z' w m t d) n h = closed_by d n h
closed_by (halts {n = j} q) n h = closing_is (leaves_open j) j n h

-- called again after 0, and after a refusal
pub after_end : (a : Sheet) (part : List ℕ) (more : Bool) (room : ℕ) (h : Held) (r : Result) → h.closing ≡ some 0 → Called a part more room h r → r.number ≡ 28
after_end a part more room h r e d = ap (λ (x : Result). x.number) (closed_again a part more room h r 0 e d)

pub after_refusal : (a : Sheet) (part : List ℕ) (more : Bool) (room : ℕ) (h : Held) (r : Result) (n : ℕ) → h.closing ≡ some n → 0 < n → Called a part more room h r →
    r.number ≡ n
after_refusal a part more room h r zero e l d = absurd (omega arith)
after_refusal a part more room h r (suc n) e l d = ap (λ (x : Result). x.number) (closed_again a part more room h r (suc n) e d)

-- what is handed back is fit to be handed in: the closing number is one of 01's, and the count is within the limit
none_closes : (n : ℕ) → closing_of (leaves_open 16) 16 ≡ some n → ⊥
none_closes n e = let x : ◌≡◌ {A = ℕ} 0 1 = cc in omega arith

none_number : (more : Bool) (left : ℕ) (c : Control) (x : Rattle.tokens.specs.declared.Answer.Answer) (j : ℕ) → number_at more left c x ≡ some j → (j ≡ 16) ⊎ Closing j
none_number more left c (Rattle.tokens.specs.declared.Answer.TheVariants.Token e next) j q = absurd (let y : ◌≡◌ {A = ℕ} 0 1 = cc in omega arith)
none_number more left c (Waiting e next) j q = absurd (let y : ◌≡◌ {A = ℕ} 0 1 = cc in omega arith)
none_number true left c Begun j q = let h : 16 ≡ j = cc in inl (sym h)
none_number false zero before Begun j q = let h : 27 ≡ j = cc in inr (closed_by_refusal {n = j} (omega arith) (omega arith))
none_number false zero (inside o os) Begun j q = let h : 27 ≡ j = cc in inr (closed_by_refusal {n = j} (omega arith) (omega arith))
none_number false zero after Begun j q = let h : 0 ≡ j = cc in inr (subst Closing h closed_by_end)
none_number false (suc left) c Begun j q = let h : 27 ≡ j = cc in inr (closed_by_refusal {n = j} (omega arith) (omega arith))
none_number more left c Bad j q = let h : 20 ≡ j = cc in inr (closed_by_refusal {n = j} (omega arith) (omega arith))
none_number more left c Long j q = let h : 21 ≡ j = cc in inr (closed_by_refusal {n = j} (omega arith) (omega arith))

module _ {a : Sheet} {part : List ℕ} {more : Bool} where
  pub closing_fits : {at room : ℕ} {z : Configuration} {r : Result} → Runs a part more at room z r → (n : ℕ) → r.held.closing ≡ some n → Closing n
  closing_fits (takes e next z' w m t d) n h = closing_fits d n h
  closing_fits (halts {at} {room} {z} (stops e next j m t)) n h =
      subst Closing (closing_is (leaves_open j) j n h) (by ((refuses_iff a z room (token_of a part e) j).0 t))
    where
      by : (step_token a z (token_of a part e) ≡ refused j) ⊎ Over a z (token_of a part e) j → Closing j
      by (inl r) = let i = token_number a z (token_of a part e) j r in closed_by_refusal {n = j} (omega (arith, i.0)) (omega (arith, i.1))
      by (inr o) = subst Closing (sym o.0) closed_by_count
  closing_fits (halts (full e next m t)) n h = absurd (let x : ◌≡◌ {A = ℕ} 0 1 = cc in omega arith)
  closing_fits (halts {at} {room} {z} (no_token x j m q)) n h = by (none_number more (length (drop at part)) z.control x j q)
    where
      by : (j ≡ 16) ⊎ Closing j → Closing n
      by (inl e) = absurd (none_closes n (subst (λ (i : ℕ). closing_of (leaves_open i) i ≡ some n) e h))
      by (inr c) = subst Closing (closing_is (leaves_open j) j n h) c

  pub count_fits : {at room : ℕ} {z : Configuration} {r : Result} → Runs a part more at room z r → count_of z ≤ most_visits → count_of r.held.run ≤ most_visits
  count_fits (takes {at} {room} {z} e next z' w m t d) h =
      let o = takes_one a z room (token_of a part e) z' w t in
      count_fits d (subst (λ (y : Configuration). count_of y ≤ most_visits) (sym o.silenced) o.counts)
  count_fits (halts q) h = h
