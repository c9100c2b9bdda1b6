-- Tokens taken one after another within the limits, each from a state without output. A run over all the tokens is this, by the laws of one token; and
-- a call that ends with 0 is this over the tokens that it reads.
-- Assumes nothing.
use mathlib.Core.Path.{◌≡◌, refl, sym, ap, ap₂, ◌∙◌, subst}
use mathlib.Core.Bool.{Bool, true, false}
use mathlib.Core.List.{List, [], ◌∷◌, ◌++◌, append-nil, append_assoc}
use mathlib.Core.Option.{Option, none, some}
use Prim.Native.Nat.{ℕ, zero, suc, ◌+◌, ◌-◌, ◌≤◌}
use native.Mathlib.Omega.{arith}
use lib.Dec.{leb}
use lib.ListN.{length, take, drop, length-append, length-take}
use borrow.Author.Tests.{leb-true, le-leb}
use Rattle.tokens.specs.declared.Event.{Event}
use Rattle.tokens.specs.declared.Answer.{Answer}
use Rattle.tokens.specs.declared.Answer.TheVariants.{Token, Waiting, Begun, Bad, Long}
use Rattle.output.specs.Escape.{Piece, render}
use Rattle.output.proofs.Writing.{render_append}
use Rattle.sheet.specs.Sheet.{Sheet}
use Rattle.runs.specs.Machine.{Control, before, inside, after, Configuration, took, refused}
use Rattle.runs.specs.Spells.{step_token, TokenOutcome, through, onward_token, run_tokens}
use Rattle.calls.specs.Names.{token_of}
use Rattle.runs.specs.Visits.{most_visits}
use Rattle.calls.specs.Limits.{silent, output_of, Taking, taken, refuses, no_room, limited, within, one_token}
use Rattle.calls.specs.Held.{Held, handed}
use Rattle.tokens.specs.Stream.{ReadAs, Reads}
use Rattle.calls.specs.Call.{Result, stopped_at, after_writing, at_end, number_at, Stop, stops, full, no_token, Runs, takes, halts}
use Rattle.calls.proofs.Read.{none_read}
use Rattle.calls.proofs.Frame.{state_behind, answer_behind, token_frame, count_of, tokens_count, token_number}

abbrev pub RunToken : Type 0
RunToken = Rattle.runs.specs.Spells.Token

abbrev pub RunAnswer : Type 0
RunAnswer = Rattle.runs.specs.Machine.Answer

abbrev pub out_of : Configuration → List Piece
out_of z = z.store.env.out

-- what it is for a token to be taken within the limits
pub record TakesOne (a : Sheet) (z : Configuration) (room : ℕ) (k : RunToken) (z' : Configuration) (w : List ℕ) : Type 0 where
  pub reached : Configuration
  pub stepped : step_token a z k ≡ took reached
  pub counts : count_of reached ≤ most_visits
  pub fits : length (output_of reached) ≤ room
  pub silenced : z' ≡ silent reached
  pub writes : w ≡ output_of reached

module _ (a : Sheet) (z : Configuration) (room : ℕ) (k : RunToken) where
  pub takes_one : (z' : Configuration) (w : List ℕ) → one_token a z room k ≡ taken z' w → TakesOne a z room k z' w
  takes_one z' w e = by (step_token a z k) refl e
    where
      by_tests : (y : Configuration) → step_token a z k ≡ took y → (c : Bool) → leb (count_of y) most_visits ≡ c → (f : Bool) → leb (length (output_of y)) room ≡ f →
          limited y c f ≡ taken z' w → TakesOne a z room k z' w
      by_tests y t false hc f hf e = absurd (let x : ◌≡◌ {A = ℕ} 0 1 = cc in omega arith)
      by_tests y t true hc false hf e = absurd (let x : ◌≡◌ {A = ℕ} 0 1 = cc in omega arith)
      by_tests y t true hc true hf e =
          record {
            reached = y;
            stepped = t;
            counts = leb-true (count_of y) most_visits hc;
            fits = leb-true (length (output_of y)) room hf;
            silenced = (cc);
            writes = (cc);
          }

      by : (x : RunAnswer) → step_token a z k ≡ x → within room x ≡ taken z' w → TakesOne a z room k z' w
      by (took y) t e = by_tests y t (leb (count_of y) most_visits) refl (leb (length (output_of y)) room) refl e
      by (refused n) t e = absurd (let x : ◌≡◌ {A = ℕ} 0 1 = cc in omega arith)

  pub one_takes : (y : Configuration) → step_token a z k ≡ took y → count_of y ≤ most_visits → length (output_of y) ≤ room → one_token a z room k ≡ taken (silent y) (output_of y)
  one_takes y t c f =
      ap (within room) t ∙ ap₂ (λ (b b' : Bool). limited y b b') (le-leb (count_of y) most_visits c) (le-leb (length (output_of y)) room f)

  -- a token is refused with a number from 22 to 26, or with 30
  pub refuses_over : (n : ℕ) → one_token a z room k ≡ refuses n → 22 ≤ n
  refuses_over n e = by (step_token a z k) refl e
    where
      by_tests : (y : Configuration) (c f : Bool) → limited y c f ≡ refuses n → 22 ≤ n
      by_tests y false f e = let h : 30 ≡ n = cc in omega arith
      by_tests y true false e = absurd (let x : ◌≡◌ {A = ℕ} 0 1 = cc in omega arith)
      by_tests y true true e = absurd (let x : ◌≡◌ {A = ℕ} 0 1 = cc in omega arith)

      by : (x : RunAnswer) → step_token a z k ≡ x → within room x ≡ refuses n → 22 ≤ n
      by (took y) t e = by_tests y (leb (count_of y) most_visits) (leb (length (output_of y)) room) e
      by (refused m) t e = let h : m ≡ n = cc in (token_number a z k n (t ∙ ap refused h)).0

-- a state with its output in front of none
pub behind_silent : (o : List Piece) (y : Configuration) → state_behind o y ≡ state_behind (o ++ out_of y) (silent y)
behind_silent o y =
    ap (λ (l : List Piece). record { control = y.control; store = record { kept = y.store.kept; env = record { values = y.store.env.values; echo = y.store.env.echo; out = l; count = count_of y } } })
    (sym (append-nil (o ++ out_of y)))

-- from z the tokens lead to z'', and p is printed
abbrev pub Steps : Sheet → Configuration → List RunToken → Configuration → List Piece → Type 0
Steps a z [] z'' p = (z ≡ z'') × (p ≡ [])
Steps a z (k ∷ ks) z'' p =
    (y : Configuration) × (step_token a z k ≡ took y) × (count_of y ≤ most_visits) × (p' : List Piece) × Steps a (silent y) ks z'' p' × (p ≡ out_of y ++ p')

module _ (a : Sheet) where
  pub steps_silent : (z : Configuration) (ks : List RunToken) (z'' : Configuration) (p : List Piece) → out_of z ≡ [] → Steps a z ks z'' p → out_of z'' ≡ []
  steps_silent z [] z'' p h (e, q) = ap out_of (sym e) ∙ h
  steps_silent z (k ∷ ks) z'' p h (y, t, c, p', st, q) = steps_silent (silent y) ks z'' p' refl st

  pub steps_count : (z : Configuration) (ks : List RunToken) (z'' : Configuration) (p : List Piece) → count_of z ≤ most_visits → Steps a z ks z'' p → count_of z'' ≤ most_visits
  steps_count z [] z'' p h (e, q) = subst (λ (y : Configuration). count_of y ≤ most_visits) e h
  steps_count z (k ∷ ks) z'' p h (y, t, c, p', st, q) = steps_count (silent y) ks z'' p' c st

  pub steps_run : (z : Configuration) (ks : List RunToken) (z'' : Configuration) (p o : List Piece) → Steps a z ks z'' p →
      run_tokens a (state_behind o z) ks ≡ through (state_behind (o ++ p) z'')
  steps_run z [] z'' p o (e, q) =
      ap (λ (y : Configuration). through (state_behind o y)) e
      ∙ ap (λ (l : List Piece). through (state_behind l z'')) (sym (append-nil o) ∙ ap (λ (l : List Piece). o ++ l) (sym q))
  steps_run z (k ∷ ks) z'' p o (y, t, c, p', st, q) =
      ap (λ (x : RunAnswer). onward_token (state_behind o z) (k ∷ ks) x (λ y. run_tokens a y ks)) (token_frame a o z k ∙ ap (answer_behind o) t)
      ∙ ap (λ (x : Configuration). run_tokens a x ks) (behind_silent o y) ∙ steps_run (silent y) ks z'' p' (o ++ out_of y) st
      ∙ ap (λ (l : List Piece). through (state_behind l z'')) (append_assoc o (out_of y) p' ∙ ap (λ (l : List Piece). o ++ l) (sym q))

  -- and back
  pub record Stepped (z : Configuration) (ks : List RunToken) (o : List Piece) (x : Configuration) : Type 0 where
    pub last : Configuration
    pub printed : List Piece
    pub steps : Steps a z ks last printed
    pub is : x ≡ state_behind (o ++ printed) last

  pub run_steps : (z : Configuration) (ks : List RunToken) (o : List Piece) (x : Configuration) → run_tokens a (state_behind o z) ks ≡ through x → count_of x ≤ most_visits →
      Stepped z ks o x
  run_steps z [] o x e c =
      let h : state_behind o z ≡ x = cc in
      record { last = z; printed = []; steps = (refl, refl); is = sym h ∙ ap (λ (l : List Piece). state_behind l z) (sym (append-nil o)) }
  run_steps z (k ∷ ks) o x e c =
      by (λ y r. run_steps (silent y) ks (o ++ out_of y) x r c) (step_token a z k) refl
      (ap (λ (u : RunAnswer). onward_token (state_behind o z) (k ∷ ks) u (λ y. run_tokens a y ks)) (sym (token_frame a o z k)) ∙ e)
    where
      by : ((y : Configuration) → run_tokens a (state_behind (o ++ out_of y) (silent y)) ks ≡ through x → Stepped (silent y) ks (o ++ out_of y) x) →
          (u : RunAnswer) → step_token a z k ≡ u →
          onward_token (state_behind o z) (k ∷ ks) (answer_behind o u) (λ y. run_tokens a y ks) ≡ through x → Stepped z (k ∷ ks) o x
      by f (took y) t e =
          let i = f y (ap (λ (v : Configuration). run_tokens a v ks) (sym (behind_silent o y)) ∙ e) in
          let m = tokens_count a (state_behind o y) ks x e in
          record {
            last = i.last;
            printed = out_of y ++ i.printed;
            steps = (y, t, omega arith, i.printed, i.steps, refl);
            is = i.is ∙ ap (λ (l : List Piece). state_behind l i.last) (append_assoc o (out_of y) i.printed);
          }
      by f (refused n) t e = absurd (let y : ◌≡◌ {A = ℕ} 0 1 = cc in omega arith)

-- the tokens of events that were read in s
abbrev pub tokens_of : Sheet → List ℕ → List Event → List RunToken
tokens_of a s [] = []
tokens_of a s (e ∷ es) = token_of a s e ∷ tokens_of a s es

-- whatever a call answers, it has read the tokens that it counts as taken, its state is what they come to, its output is theirs, and there it stops
pub record Does (a : Sheet) (part : List ℕ) (more : Bool) (at room : ℕ) (z : Configuration) (r : Result) : Type 0 where
  pub events : List Event
  pub printed : List Piece
  pub reads : Reads more part at events r.taken
  pub steps : Steps a z (tokens_of a part events) r.held.run printed
  pub writes : r.output ≡ render printed
  pub fits : length (render printed) ≤ room
  pub stop : Stop a part more r.taken (room - length r.output) r.held.run r.number

module _ (a : Sheet) (part : List ℕ) {more : Bool} where
  pub run_does : {at room : ℕ} {z : Configuration} {r : Result} → Runs a part more at room z r → Does a part more at room z r
  run_does (takes {at} {room} {z} {r} e next z' w m t d) =
      let i = run_does d in
      let o = takes_one a z room (token_of a part e) z' w t in
      let y : Configuration = o.reached in
      record {
        events = e ∷ i.events;
        printed = out_of y ++ i.printed;
        reads = (next, m, i.reads);
        steps = (
          y,
          o.stepped,
          o.counts,
          i.printed,
          subst (λ (x : Configuration). Steps a x (tokens_of a part i.events) r.held.run i.printed) o.silenced i.steps,
          refl,
        );
        writes = ap₂ (λ (l k : List ℕ). l ++ k) o.writes i.writes ∙ sym (render_append (out_of y) i.printed);
        fits = omega (arith, ap length (render_append (out_of y) i.printed), length-append (render (out_of y)) (render i.printed), i.fits, o.fits, ap length o.writes);
        stop =
            (let left : room - length w - length r.output ≡ room - length (w ++ r.output) = omega (arith, length-append w r.output) in
            subst (λ (m : ℕ). Stop a part more r.taken m r.held.run r.number) left i.stop);
      }
  run_does (halts {at} {room} {z} {n} q) =
      let all : room ≡ room - 0 = omega arith in
      record {
        events = [];
        printed = [];
        reads = refl;
        steps = (refl, refl);
        writes = refl;
        fits = omega arith;
        stop = subst (λ (m : ℕ). Stop a part more at m z n) all q;
      }

-- and such steps with such a stop are a call
abbrev pub done_with : ℕ → ℕ → List Piece → Configuration → Result
done_with n to p z = record { number = n; taken = to; output = render p; held = handed n z }

module _ (a : Sheet) (s : List ℕ) (more : Bool) where
  pub steps_stop : (es : List Event) (at room : ℕ) (z : Configuration) (to : ℕ) (last : Configuration) (p : List Piece) (n : ℕ) → Reads more s at es to → Steps a z (tokens_of a s es) last p →
      length (render p) ≤ room → Stop a s more to (room - length (render p)) last n → Runs a s more at room z (done_with n to p last)
  steps_stop [] at room z to last p n rd (e, q) f st =
      let none : room - length (render p) ≡ room = omega (arith, ap (λ (l : List Piece). length (render l)) q) in
      let back : to ≡ at = sym rd in
      let st' : Stop a s more to room last n = subst (λ (m : ℕ). Stop a s more to m last n) none st in
      subst (Runs a s more at room z)
      ((λ i. record { number = n; taken = rd i; output = []; held = handed n (e i) }) ∙ ap (λ (o : List Piece). done_with n to o last) (sym q))
      (halts (subst (λ (y : Configuration). Stop a s more at room y n) (sym e) (subst (λ (i : ℕ). Stop a s more i room last n) back st')))
  steps_stop (e ∷ es) at room z to last p n (next, m, rd) (y, t, k, p', st, q) f h =
      let b : render p ≡ output_of y ++ render p' = ap render q ∙ render_append (out_of y) p' in
      let l = length-append (output_of y) (render p') in
      let both : length (output_of y) + length (render p') ≤ room = omega (arith, f, ap length b, l) in
      let left : room - length (render p) ≡ room - length (output_of y) - length (render p') = omega (arith, ap length b, l) in
      subst (Runs a s more at room z) (ap (λ (o : List ℕ). record { number = n; taken = to; output = o; held = handed n last }) (sym b))
      (takes e next (silent y) (output_of y) m (one_takes a z room (token_of a s e) y t k (omega (arith, both)))
      (steps_stop es next (room - length (output_of y)) (silent y) to last p' n rd st (omega (arith, both)) (subst (λ (i : ℕ). Stop a s more to i last n) left h)))

-- a call that ends with 0
abbrev pub ended : ℕ → List Piece → Configuration → Result
ended to p z = record { number = 0; taken = to; output = render p; held = record { run = z; closing = some 0 } }

-- the steps of a call over the tokens that it reads, up to the end of the stream with the root closed
pub record Ends (a : Sheet) (s : List ℕ) (at room : ℕ) (z : Configuration) (r : Result) : Type 0 where
  pub events : List Event
  pub to : ℕ
  pub last : Configuration
  pub printed : List Piece
  pub reads : Reads false s at events to
  pub steps : Steps a z (tokens_of a s events) last printed
  pub root_closed : last.control ≡ after
  pub nothing_left : length (drop to s) ≡ 0
  pub fits : length (render printed) ≤ room
  pub is : r ≡ ended to printed last

module _ (a : Sheet) (s : List ℕ) where
  closed_by_zero : (c : Control) → at_end c ≡ 0 → c ≡ after
  closed_by_zero before e = absurd (omega arith)
  closed_by_zero (inside o os) e = absurd (omega arith)
  closed_by_zero after e = refl

  -- 0 where no token comes next: nothing is left, and the root is closed
  all_taken : (left : ℕ) (c : Control) (x : Answer) → number_at false left c x ≡ some 0 → (left ≡ 0) × (c ≡ after)
  all_taken left c (Token e next) q = absurd (let y : ◌≡◌ {A = ℕ} 0 1 = cc in omega arith)
  all_taken left c (Waiting e next) q = absurd (let y : ◌≡◌ {A = ℕ} 0 1 = cc in omega arith)
  all_taken zero c Begun q = let h : at_end c ≡ 0 = cc in (refl, closed_by_zero c h)
  all_taken (suc left) c Begun q = absurd (let y : ◌≡◌ {A = ℕ} 27 0 = cc in omega arith)
  all_taken left c Bad q = absurd (let y : ◌≡◌ {A = ℕ} 20 0 = cc in omega arith)
  all_taken left c Long q = absurd (let y : ◌≡◌ {A = ℕ} 21 0 = cc in omega arith)

  at_the_end : {at room : ℕ} {z : Configuration} {r : Result} → Runs a s false at room z r → r.number ≡ 0 →
      (r.held.run.control ≡ after) × (length (drop r.taken s) ≡ 0) × (r.held.closing ≡ some 0)
  at_the_end (takes e next z' w m t d) h = at_the_end d h
  at_the_end (halts {at} {room} {z} (stops e next n m t)) h = absurd (omega (arith, refuses_over a z room (token_of a s e) n t, h))
  at_the_end (halts (full e next m t)) h = absurd (omega (arith, h))
  at_the_end (halts {at} {room} {z} (no_token x n m q)) h =
      let i = all_taken (length (drop at s)) z.control x (q ∙ ap some h) in
      (i.1, i.0, ap (λ (j : ℕ). (handed j z).closing) h)

  pub run_ends : {at room : ℕ} {z : Configuration} {r : Result} → Runs a s false at room z r → r.number ≡ 0 → Ends a s at room z r
  run_ends {r = r} d h =
      let i = run_does a s d in
      let e = at_the_end d h in
      let w = i.writes in
      let c = e.2 in
      record {
        events = i.events;
        to = r.taken;
        last = r.held.run;
        printed = i.printed;
        reads = i.reads;
        steps = i.steps;
        root_closed = e.0;
        nothing_left = e.1;
        fits = i.fits;
        is = λ k. record { number = h k; taken = r.taken; output = w k; held = record { run = r.held.run; closing = c k } };
      }

  pub ends_run : (es : List Event) (at room : ℕ) (z : Configuration) (to : ℕ) (last : Configuration) (p : List Piece) → Reads false s at es to → Steps a z (tokens_of a s es) last p →
      last.control ≡ after → length (drop to s) ≡ 0 → length (render p) ≤ room → Runs a s false at room z (ended to p last)
  ends_run es at room z to last p rd st c l f =
      let m : ReadAs false s to Begun = none_read false s to l in
      steps_stop a s false es at room z to last p 0 rd st f (no_token Begun 0 m (ap₂ (λ (i : ℕ) (d : Control). number_at false i d Begun) l c))
