-- A call on a stream, said of trees, both ways. The tokens that it takes are those that spell a tree, whole or open (`so_far_iff` of the runs), and the reason for which it
-- stops (`Stop`) is one that the tree and the bytes left give (`Why`), and back; any two answers of a call are equal, so no other number is given.
-- Assumes nothing.
use mathlib.Core.Path.{◌≡◌, refl, sym, ap, ap₂, ◌∙◌, subst}
use mathlib.Core.Logic.{◌⊎◌, inl, inr, ◌↔◌}
use mathlib.Core.Bool.{Bool, true, false}
use mathlib.Core.List.{List, [], ◌∷◌, ◌++◌, append-nil}
use mathlib.Core.Option.{some}
use Prim.Native.Nat.{ℕ, zero, suc, ◌+◌, ◌-◌, ◌≤◌}
use native.Mathlib.Omega.{arith}
use lib.ListN.{length, drop, length-append}
use lib.Seq.{drop-append_seam}
use Rattle.tokens.specs.declared.Event.{Event}
use Rattle.tokens.specs.declared.Answer.{Answer}
use Rattle.tokens.specs.declared.Answer.TheVariants.{Token, Waiting, Begun, Bad, Long}
use Rattle.tokens.specs.Tokens.{Tok, bytes, event_of}
use Rattle.tokens.specs.Stream.{ReadAs, Reads, flat, AllGood, AllShort, AllWhole, events_at}
use Rattle.tokens.proofs.Streams.{reads_flat}
use Rattle.output.specs.Escape.{Piece, render}
use Rattle.output.proofs.Writing.{render_append}
use Rattle.sheet.specs.Sheet.{Sheet}
use Rattle.runs.specs.Visits.{most_visits}
use Rattle.runs.specs.Events.{letter}
use Rattle.runs.specs.Acts.{Store}
use Rattle.runs.specs.Machine.{Control, before, inside, after, Configuration, fresh_configuration, took, refused}
use Rattle.runs.specs.Taken.{Passed, RootClosed}
use Rattle.runs.specs.Spells.{step_token, through, onward_token, run_tokens}
use Rattle.runs.specs.SoFar.{SpelledSoFar, events_so_far, TokenRefused}
use Rattle.runs.proofs.Answers.{closed_after, after_closed}
use Rattle.runs.proofs.Spells.{RunSoFar, so_far_run, so_far_iff, token_refused_iff}
use Rattle.calls.specs.Names.{token_for, tokens_for, token_of}
use Rattle.calls.specs.Limits.{output_of, Over}
use Rattle.calls.specs.Held.{fresh_held, handed}
use Rattle.calls.specs.Call.{Result, number_at, Stop, stops, full, no_token, Called}
use Rattle.calls.specs.Explained.{NextToken, Why, all_taken, used_up, no_space, begins_none, too_long, next_refused, cut_off, not_closed, too_many, Explained, Answers, ExplainedExactly}
use Rattle.calls.proofs.Answers.{call_one}
use Rattle.calls.proofs.Empty.{tokens_behind}
use Rattle.calls.proofs.Exactly.{refuses_iff, no_room_iff}
use Rattle.calls.proofs.Frame.{state_behind, answer_behind, token_frame, count_of}
use Rattle.calls.proofs.Main.{tokens_at}
use Rattle.calls.proofs.Read.{NoToken, none_read, read_token, read_tokens, token_reads, token_at, token_of_lem, none_there}
use Rattle.calls.proofs.Steps.{RunToken, RunAnswer, out_of, tokens_of, steps_silent, steps_count, steps_run, run_steps, run_does, steps_stop}

-- a run over more tokens
run_more : (a : Sheet) (z z' : Configuration) (ks us : List RunToken) → run_tokens a z ks ≡ through z' → run_tokens a z (ks ++ us) ≡ run_tokens a z' us
run_more a z z' [] us e = let h : z ≡ z' = cc in ap (λ (y : Configuration). run_tokens a y us) h
run_more a z z' (k ∷ ks) us e = by (λ y h. run_more a y z' ks us h) (step_token a z k) e
  where
    by : ((y : Configuration) → run_tokens a y ks ≡ through z' → run_tokens a y (ks ++ us) ≡ run_tokens a z' us) → (x : RunAnswer) →
        onward_token z (k ∷ ks) x (λ y. run_tokens a y ks) ≡ through z' → onward_token z (k ∷ (ks ++ us)) x (λ y. run_tokens a y (ks ++ us)) ≡ run_tokens a z' us
    by f (took y) e = f y e
    by f (refused n) e = absurd (let q : ◌≡◌ {A = ℕ} 0 1 = cc in omega arith)

through_one : (z z' : Configuration) → through z ≡ through z' → z ≡ z'
through_one z z' e = cc

nil_of : (l : List ℕ) → length l ≡ 0 → l ≡ []
nil_of [] h = refl
nil_of (x ∷ l) h = absurd (omega (arith, h))

some_length : (l : List ℕ) → (l ≡ [] → ⊥) → (n : ℕ) × (length l ≡ suc n)
some_length [] h = absurd (h refl)
some_length (x ∷ l) h = (length l, refl)

-- after the tokens ts the bytes `left` are still to be read; they were printed as p, and the run stands at `last`
module _ (a : Sheet) (ok : Passed a) (s : List ℕ) (more : Bool) (room : ℕ) (ts : List Tok) (left : List ℕ) (s-is : s ≡ flat ts ++ left) (p : List Piece) (last : Configuration)
    (fits : length (render p) ≤ room) (so : SpelledSoFar a (tokens_for a ts) (state_behind p last).store)
    (ran : run_tokens a fresh_configuration (tokens_for a ts) ≡ through (state_behind p last)) where
  abbrev at : ℕ
  at = length (flat ts)

  abbrev behind : Configuration
  behind = state_behind p last

  here : drop at s ≡ left
  here = ap (drop at) s-is ∙ drop-append_seam (flat ts) left

  of_run : RunSoFar a ok (tokens_for a ts) behind.store so
  of_run = so_far_run a ok (tokens_for a ts) behind.store so

  abbrev found : Configuration
  found = record { control = of_run.control; store = behind.store }

  same_state_lem : found ≡ behind
  same_state_lem = through_one found behind (sym of_run.tokens_run ∙ ran)

  -- the root is closed exactly where the control stands after it
  closed_here : RootClosed a (events_so_far so) → last.control ≡ after
  closed_here h =
      sym (ap (λ (z : Configuration). z.control) same_state_lem) ∙ closed_after a ok (events_so_far so) found of_run.events_run (letter 0) h

  here_closed : last.control ≡ after → RootClosed a (events_so_far so)
  here_closed c = after_closed a ok (events_so_far so) found of_run.events_run (letter 0) (ap (λ (z : Configuration). z.control) same_state_lem ∙ c)

  -- the token that comes next
  record Coming (e : Event) : Type 0 where
    pub tok : Tok
    pub rest : List ℕ
    pub next : NextToken more left tok rest
    pub same : token_of a s e ≡ token_for a tok

  comes : (e : Event) (to : ℕ) → ReadAs more s at (Token e (record { at = to })) → Coming e
  comes e to m =
      let t = read_token more s at e to m in
      record {
        tok = t.tok;
        rest = drop to s;
        next = record { good = t.good; short = t.short; whole = t.whole; are_bytes = sym here ∙ t.split };
        same = token_of_lem a s t;
      }

  -- and back
  reads_next : (t : Tok) (rest : List ℕ) → NextToken more left t rest →
      ReadAs more s at (Token (event_of at t) (record { at = at + length (bytes t) })) × (token_of a s (event_of at t) ≡ token_for a t)
  reads_next t rest n =
      let stands : drop at s ≡ bytes t ++ rest = here ∙ n.are_bytes in
      (token_reads s at t rest stands n.good n.short more n.whole, token_at a s t at rest stands)

  -- a token that is taken here, and one that is refused
  on_token : (t : Tok) (y : Configuration) → step_token a last (token_for a t) ≡ took y → SpelledSoFar a (tokens_for a (ts ++ t ∷ [])) (state_behind p y).store
  on_token t y e =
      (so_far_iff a ok (tokens_for a (ts ++ t ∷ [])) (state_behind p y).store).0 (
        y.control,
        ap (run_tokens a fresh_configuration) (tokens_behind a ts (t ∷ [])) ∙ run_more a fresh_configuration behind (tokens_for a ts) (token_for a t ∷ []) ran
            ∙ ap (λ (x : RunAnswer). onward_token behind (token_for a t ∷ []) x (λ z. through z)) (token_frame a p last (token_for a t) ∙ ap (answer_behind p) e),
      )

  record Took (t : Tok) (m : Store) : Type 0 where
    pub reached : Configuration
    pub stepped : step_token a last (token_for a t) ≡ took reached
    pub store_is : (state_behind p reached).store ≡ m

  token_on : (t : Tok) (m : Store) → SpelledSoFar a (tokens_for a (ts ++ t ∷ [])) m → Took t m
  token_on t m h =
      let r = (so_far_iff a ok (tokens_for a (ts ++ t ∷ [])) m).1 h in
      by (step_token a last (token_for a t)) refl r.0
      (ap (λ (x : RunAnswer). onward_token behind (token_for a t ∷ []) x (λ z. through z)) (sym (token_frame a p last (token_for a t)))
      ∙ sym (ap (run_tokens a fresh_configuration) (tokens_behind a ts (t ∷ [])) ∙ run_more a fresh_configuration behind (tokens_for a ts) (token_for a t ∷ []) ran) ∙ r.1)
    where
      by : (x : RunAnswer) → step_token a last (token_for a t) ≡ x → (c : Control) →
          onward_token behind (token_for a t ∷ []) (answer_behind p x) (λ z. through z) ≡ through (record { control = c; store = m }) → Took t m
      by (took y) e c q = record { reached = y; stepped = e; store_is = ap (λ (z : Configuration). z.store) (through_one (state_behind p y) (record { control = c; store = m }) q) }
      by (refused n) e c q = absurd (let z : ◌≡◌ {A = ℕ} 0 1 = cc in omega arith)

  refused_here : (t : Tok) (n : ℕ) → (step_token a last (token_for a t) ≡ refused n) ↔ TokenRefused so (token_for a t) n
  refused_here t n = (
    (λ e. i.0 (ap (λ (z : Configuration). step_token a z (token_for a t)) same_state_lem ∙ token_frame a p last (token_for a t) ∙ ap (answer_behind p) e)),
    (λ d. by (step_token a last (token_for a t)) (sym (token_frame a p last (token_for a t)) ∙ ap (λ (z : Configuration). step_token a z (token_for a t)) (sym same_state_lem) ∙ i.1 d)),
  )
    where
      i : (step_token a found (token_for a t) ≡ refused n) ↔ TokenRefused so (token_for a t) n
      i = token_refused_iff a ok (tokens_for a ts) behind.store so of_run (token_for a t) n

      by : (x : RunAnswer) → answer_behind p x ≡ refused n → x ≡ refused n
      by (took y) e = absurd (let z : ◌≡◌ {A = ℕ} 0 1 = cc in omega arith)
      by (refused j) e = let h : j ≡ n = cc in ap refused h

  -- what is printed with one token more
  longer : (y : Configuration) → length (render (state_behind p y).store.env.out) ≡ length (render p) + length (output_of y)
  longer y = ap length (render_append p (out_of y)) ∙ length-append (render p) (output_of y)

  abbrev leftover : ℕ
  leftover = room - length (render p)

  -- no token: what is read of the bytes left
  none_left : (x : Answer) → NoToken x → ReadAs more s at x → ReadAs more left 0 x
  none_left x k m = none_there more s left at 0 here x k m

  left_none : (x : Answer) → NoToken x → ReadAs more left 0 x → ReadAs more s at x
  left_none x k m = none_there more left s 0 at (sym here) x k m

  stop_why : (n : ℕ) → Stop a s more at leftover last n → Why a more room ts left so n
  stop_why n (stops e to j m t) =
      let c = comes e to m in
      by c ((refuses_iff a last leftover (token_of a s e) n).0 t)
    where
      by : (c : Coming e) → (step_token a last (token_of a s e) ≡ refused n) ⊎ Over a last (token_of a s e) n → Why a more room ts left so n
      by c (inl r) = next_refused c.tok c.rest n c.next ((refused_here c.tok n).0 (ap (step_token a last) (sym c.same) ∙ r))
      by c (inr (h, (y, st, over))) =
          subst (Why a more room ts left so) (sym h)
          (too_many c.tok c.rest c.next (state_behind p y).store (on_token c.tok y (ap (step_token a last) (sym c.same) ∙ st)) over)
  stop_why n (full e to m t) =
      let c = comes e to m in
      let (y, st, k, f) = (no_room_iff a last leftover (token_of a s e)).0 t in
      no_space c.tok c.rest c.next (state_behind p y).store (on_token c.tok y (ap (step_token a last) (sym c.same) ∙ st)) k (omega (arith, longer y, f, fits))
  stop_why n (no_token x j m q) = by_answer x m q
    where
      at_end : (b : Bool) → more ≡ b → ReadAs more left 0 Begun → (l : ℕ) → length left ≡ l → (c : Control) → last.control ≡ c → number_at b l c Begun ≡ some n → Why a more room ts left so n
      at_end true e m l h c k q = let i : 16 ≡ n = cc in subst (Why a more room ts left so) i (used_up e m)
      at_end false e m zero h after k q = let i : 0 ≡ n = cc in subst (Why a more room ts left so) i (all_taken e (nil_of left h) (here_closed k))
      at_end false e m zero h before k q = let i : 27 ≡ n = cc in subst (Why a more room ts left so) i (not_closed e (nil_of left h) (λ r. not_before (sym (closed_here r) ∙ k)))
        where
          not_before : after ≡ before → ⊥
          not_before e = let z : ◌≡◌ {A = ℕ} 0 1 = cc in omega arith
      at_end false e m zero h (inside o os) k q = let i : 27 ≡ n = cc in subst (Why a more room ts left so) i (not_closed e (nil_of left h) (λ r. not_inside (sym (closed_here r) ∙ k)))
        where
          not_inside : after ≡ inside o os → ⊥
          not_inside e = let z : ◌≡◌ {A = ℕ} 0 1 = cc in omega arith
      at_end false e m (suc l) h c k q = let i : 27 ≡ n = cc in subst (Why a more room ts left so) i (cut_off e (λ z. omega (arith, h, ap length z)) m)

      by_answer : (x : Answer) → ReadAs more s at x → number_at more (length (drop at s)) last.control x ≡ some n → Why a more room ts left so n
      by_answer (Token e to) m q = absurd (let z : ◌≡◌ {A = ℕ} 0 1 = cc in omega arith)
      by_answer (Waiting e to) m q = absurd (let z : ◌≡◌ {A = ℕ} 0 1 = cc in omega arith)
      by_answer Begun m q = at_end more refl (none_left Begun tt m) (length left) refl last.control refl (ap (λ (l : List ℕ). number_at more (length l) last.control Begun) (sym here) ∙ q)
      by_answer Bad m q = let i : 20 ≡ n = cc in subst (Why a more room ts left so) i (begins_none (none_left Bad tt m))
      by_answer Long m q = let i : 21 ≡ n = cc in subst (Why a more room ts left so) i (too_long (none_left Long tt m))

  -- where no token comes next
  none_here : (x : Answer) (n : ℕ) → ReadAs more s at x → number_at more (length left) last.control x ≡ some n → Stop a s more at leftover last n
  none_here x n m q = no_token x n m (ap (λ (l : List ℕ). number_at more (length l) last.control x) here ∙ q)

  why_stop : (n : ℕ) → Why a more room ts left so n → Stop a s more at leftover last n
  why_stop n (all_taken e l c) =
      none_here Begun 0 (none_read more s at (ap length (here ∙ l)))
      (ap₂ (λ (b : Bool) (i : ℕ). number_at b i last.control Begun) e (ap length l) ∙ ap (λ (d : Control). number_at false 0 d Begun) (closed_here c))
  why_stop n (used_up e m) =
      none_here Begun 16 (left_none Begun tt m) (ap (λ (b : Bool). number_at b (length left) last.control Begun) e)
  why_stop n (no_space t rest nx m' h k over) =
      let d = token_on t m' h in
      let r = reads_next t rest nx in
      let y : Configuration = d.reached in
      full (event_of at t) (at + length (bytes t)) r.0
      ((no_room_iff a last leftover (token_of a s (event_of at t))).1
      (y, ap (step_token a last) r.1 ∙ d.stepped, omega (arith, k, ap (λ (m : Store). m.env.count) d.store_is), omega (arith, over, longer y, ap (λ (m : Store). length (render m.env.out)) d.store_is, fits)))
  why_stop n (begins_none m) = none_here Bad 20 (left_none Bad tt m) refl
  why_stop n (too_long m) = none_here Long 21 (left_none Long tt m) refl
  why_stop n (next_refused t rest j nx d) =
      let r = reads_next t rest nx in
      stops (event_of at t) (at + length (bytes t)) n r.0 ((refuses_iff a last leftover (token_of a s (event_of at t)) n).1 (inl (ap (step_token a last) r.1 ∙ (refused_here t n).1 d)))
  why_stop n (cut_off e l m) =
      let i = some_length left l in
      none_here Begun 27 (left_none Begun tt m)
      (ap₂ (λ (b : Bool) (j : ℕ). number_at b j last.control Begun) e i.1)
  why_stop n (not_closed e l c) =
      none_here Begun 27 (none_read more s at (ap length (here ∙ l)))
      (ap₂ (λ (b : Bool) (i : ℕ). number_at b i last.control Begun) e (ap length l) ∙ by last.control refl)
    where
      by : (d : Control) → last.control ≡ d → number_at false 0 d Begun ≡ some 27
      by before k = refl
      by (inside o os) k = refl
      by after k = absurd (c (here_closed k))
  why_stop n (too_many t rest nx m' h over) =
      let d = token_on t m' h in
      let r = reads_next t rest nx in
      let y : Configuration = d.reached in
      stops (event_of at t) (at + length (bytes t)) 30 r.0
      ((refuses_iff a last leftover (token_of a s (event_of at t)) 30).1
      (inr (refl, (y, ap (step_token a last) r.1 ∙ d.stepped, omega (arith, over, ap (λ (m : Store). m.env.count) d.store_is)))))

module _ (a : Sheet) (ok : Passed a) (s : List ℕ) (more : Bool) (room : ℕ) where
  behind_out : (p : List Piece) (z : Configuration) → out_of z ≡ [] → (state_behind p z).store.env.out ≡ p
  behind_out p z h = ap (λ (l : List Piece). p ++ l) h ∙ append-nil p

  explain : (r : Result) → Called a s more room fresh_held r → Explained a s more room r.number r.taken r.output (count_of r.held.run)
  explain r d =
      let w = run_does a s d in
      let p : List Piece = w.printed in
      let last : Configuration = r.held.run in
      let ks : List RunToken = tokens_of a s w.events in
      let k = read_tokens more s 0 w.events r.taken w.reads in
      let ts : List Tok = k.toks in
      let i = k.events in
      let e = k.split in
      let left : List ℕ = drop r.taken s in
      let n : r.taken ≡ length (flat ts) = omega (arith, k.ends) in
      let same : ks ≡ tokens_for a ts = ap (tokens_of a s) i ∙ tokens_at a s ts 0 left e in
      let ran : run_tokens a fresh_configuration (tokens_for a ts) ≡ through (state_behind p last) =
      ap (run_tokens a fresh_configuration) (sym same) ∙ steps_run a fresh_configuration ks last p [] w.steps in
      let quiet : out_of last ≡ [] = steps_silent a fresh_configuration ks last p refl w.steps in
      let o : (state_behind p last).store.env.out ≡ p = behind_out p last quiet in
      let f = w.fits in
      let so = (so_far_iff a ok (tokens_for a ts) (state_behind p last).store).0 (last.control, ran) in
      let st : Stop a s more (length (flat ts)) (room - length (render p)) last r.number =
      subst (λ (m : ℕ). Stop a s more (length (flat ts)) m last r.number) (ap (λ (l : List ℕ). room - length l) w.writes)
      (subst (λ (m : ℕ). Stop a s more m (room - length r.output) last r.number) n w.stop) in
      record {
        tokens = ts;
        good = k.good;
        short = k.short;
        left = left;
        whole = k.whole;
        are_bytes = e;
        store = (state_behind p last).store;
        so_far_lem = so;
        counts = steps_count a fresh_configuration ks last p (omega arith) w.steps;
        has_room = omega (arith, f, ap (λ (l : List Piece). length (render l)) o);
        why = stop_why a ok s more room ts left e p last f so ran r.number st;
        is_taken = n;
        is_output = w.writes ∙ ap render (sym o);
        is_visits = refl;
      }

  -- a call that answers so
  record Calls (number taken : ℕ) (output : List ℕ) (visits : ℕ) : Type 0 where
    pub result : Result
    pub called : Called a s more room fresh_held result
    pub answers : Answers result number taken output visits

  unexplain : (n t : ℕ) (o : List ℕ) (v : ℕ) → Explained a s more room n t o v → Calls n t o v
  unexplain n t o v x =
      let ts : List Tok = x.tokens in
      let es : List Event = events_at 0 ts in
      let to : 0 + length (flat ts) ≡ length (flat ts) = omega arith in
      let rd : Reads more s 0 es (length (flat ts)) =
      subst (Reads more s 0 es) to (subst (λ (l : List ℕ). Reads more l 0 es (0 + length (flat ts))) (sym x.are_bytes) (reads_flat more ts [] x.left x.good x.short x.whole)) in
      let same : tokens_of a s es ≡ tokens_for a ts = tokens_at a s ts 0 x.left x.are_bytes in
      let r = (so_far_iff a ok (tokens_for a ts) x.store).1 x.so_far_lem in
      let st = run_steps a fresh_configuration (tokens_of a s es) [] (record { control = r.0; store = x.store }) (ap (run_tokens a fresh_configuration) same ∙ r.1) x.counts in
      let p : List Piece = st.printed in
      let last : Configuration = st.last in
      let quiet : out_of last ≡ [] = steps_silent a fresh_configuration (tokens_of a s es) last p refl st.steps in
      let is : x.store ≡ (state_behind p last).store = ap (λ (z : Configuration). z.store) st.is in
      let out : render x.store.env.out ≡ render p = ap (λ (m : Store). render m.env.out) is ∙ ap render (behind_out p last quiet) in
      let ran : run_tokens a fresh_configuration (tokens_for a ts) ≡ through (state_behind p last) = r.1 ∙ ap through st.is in
      let fits : length (render p) ≤ room = omega (arith, x.has_room, ap length out) in
      let stop = by ts x.left x.are_bytes p last fits x.store is x.so_far_lem ran x.why in
      record {
        result = record { number = n; taken = length (flat ts); output = render p; held = handed n last };
        called = steps_stop a s more es 0 room fresh_configuration (length (flat ts)) last p n rd st.steps fits stop;
        answers = record { is_number = refl; is_taken = sym x.is_taken; is_output = sym (x.is_output ∙ out); is_visits = sym (x.is_visits ∙ ap (λ (m : Store). m.env.count) is) };
      }
    where
      by : (ts : List Tok) (left : List ℕ) → s ≡ flat ts ++ left → (p : List Piece) (last : Configuration) → length (render p) ≤ room → (m : Store) → m ≡ (state_behind p last).store →
          (so : SpelledSoFar a (tokens_for a ts) m) → run_tokens a fresh_configuration (tokens_for a ts) ≡ through (state_behind p last) → Why a more room ts left so n →
          Stop a s more (length (flat ts)) (room - length (render p)) last n
      by ts left e p last f m i so ran w =
          subst (λ (m : Store). (so : SpelledSoFar a (tokens_for a ts) m) → Why a more room ts left so n → Stop a s more (length (flat ts)) (room - length (render p)) last n) (sym i)
          (λ so w. why_stop a ok s more room ts left e p last f so ran n w) so w

pub explained_exactly : (a : Sheet) → Passed a → ExplainedExactly a
explained_exactly a ok s more room r d n t o v = (
  (λ h.
      let x = explain a ok s more room r d in
      let i = h.is_number in
      let j = h.is_taken in
      let k = h.is_output in
      let l = h.is_visits in
      by r.number r.taken r.output (count_of r.held.run) i j k l x),
  (λ x.
      let c = unexplain a ok s more room n t o v x in
      let e = call_one a s more room fresh_held r c.result d c.called in
      let h = c.answers in
      record {
        is_number = ap (λ (y : Result). y.number) e ∙ h.is_number;
        is_taken = ap (λ (y : Result). y.taken) e ∙ h.is_taken;
        is_output = ap (λ (y : Result). y.output) e ∙ h.is_output;
        is_visits = ap (λ (y : Result). count_of y.held.run) e ∙ h.is_visits;
      }),
)
  where
    by : (n' t' : ℕ) (o' : List ℕ) (v' : ℕ) → n' ≡ n → t' ≡ t → o' ≡ o → v' ≡ v → Explained a s more room n' t' o' v' → Explained a s more room n t o v
    by n' t' o' v' i j k l x =
        record {
          tokens = x.tokens;
          good = x.good;
          short = x.short;
          left = x.left;
          whole = x.whole;
          are_bytes = x.are_bytes;
          store = x.store;
          so_far_lem = x.so_far_lem;
          counts = x.counts;
          has_room = x.has_room;
          why = subst (Why a more room x.tokens x.left x.so_far_lem) i x.why;
          is_taken = sym j ∙ x.is_taken;
          is_output = sym k ∙ x.is_output;
          is_visits = sym l ∙ x.is_visits;
        }

-- a stream of which a token is refused, from the run over the tokens before it
pub halt_explained : (a : Sheet) → Passed a → (s : List ℕ) (more : Bool) (room n taken : ℕ) (o : List ℕ) (ts : List Tok) → AllGood ts → AllShort ts → (t : Tok) (rest : List ℕ) → AllWhole more ts (bytes t ++ rest) →
    NextToken more (bytes t ++ rest) t rest → s ≡ flat ts ++ (bytes t ++ rest) → (z : Configuration) → run_tokens a fresh_configuration (tokens_for a ts) ≡ through z → step_token a z (token_for a t) ≡ refused n → count_of z ≤ most_visits →
    length (flat ts) ≡ taken → render (out_of z) ≡ o → length o ≤ room → Explained a s more room n taken o (count_of z)
halt_explained a ok s more room n taken o ts g h t rest l next e z ran r c at w f =
    let so = (so_far_iff a ok (tokens_for a ts) z.store).0 (z.control, ran) in
    let d = so_far_run a ok (tokens_for a ts) z.store so in
    let same : record { control = d.control; store = z.store } ≡ z = through_one (record { control = d.control; store = z.store }) z (sym d.tokens_run ∙ ran) in
    record {
      tokens = ts;
      good = g;
      short = h;
      left = bytes t ++ rest;
      whole = l;
      are_bytes = e;
      store = z.store;
      so_far_lem = so;
      counts = c;
      has_room = omega (arith, f, ap length w);
      why = next_refused t rest n next ((token_refused_iff a ok (tokens_for a ts) z.store so d (token_for a t) n).0 (ap (λ (x : Configuration). step_token a x (token_for a t)) same ∙ r));
      is_taken = sym at;
      is_output = sym w;
      is_visits = refl;
    }
