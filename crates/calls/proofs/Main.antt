-- Demand 2 over bytes: a call on a whole stream, from a fresh state, answers 0 exactly when the bytes are accepted and their output has room; then the
-- number, what is taken and written, and the state are the tree's. The call reads the tokens of the stream and steps over them (`Steps`); those steps are a
-- run of the machine over tokens, which the runs tie to trees (`spelled_iff`).
-- Assumes nothing.
use mathlib.Core.Path.{◌≡◌, refl, sym, ap, ap₂, ◌∙◌, subst}
use mathlib.Core.Bool.{true, false}
use mathlib.Core.List.{List, [], ◌∷◌, ◌++◌, append-nil, append_assoc}
use mathlib.Core.Option.{some}
use Prim.Native.Nat.{ℕ, ◌+◌, ◌≤◌}
use native.Mathlib.Omega.{arith}
use lib.ListN.{length, drop}
use lib.Seq.{drop-drop, drop-append_seam}
use Rattle.tokens.specs.declared.Event.{Event}
use Rattle.tokens.specs.Tokens.{Tok, bytes, event_of}
use Rattle.tokens.specs.Stream.{Reads, flat, AllWhole, events_at}
use Rattle.tokens.proofs.Streams.{flat_one, reads_flat}
use Rattle.output.specs.Escape.{Piece, render}
use Rattle.sheet.specs.Sheet.{Sheet}
use Rattle.runs.specs.Visits.{Env}
use Rattle.runs.specs.Parse.{yield}
use Rattle.runs.specs.Machine.{Control, after, Configuration, fresh_configuration}
use Rattle.runs.specs.Taken.{Passed, closed_with}
use Rattle.runs.specs.Spells.{Token, events_of_marks, Spelled, through, run_tokens}
use Rattle.runs.proofs.Main.{to_tree, parsed_count}
use Rattle.runs.proofs.Spells.{spelled_iff, through_spells}
use Rattle.calls.specs.Names.{tokens_for}
use Rattle.runs.specs.Visits.{most_visits}
use Rattle.calls.specs.Limits.{without_output, silent}
use Rattle.calls.specs.Held.{fresh_held}
use Rattle.calls.specs.Call.{Result, Called}
use Rattle.calls.specs.Accepted.{Accepted, accepted, AcceptedIn, AcceptedExactly, TwiceTheNodes}
use Rattle.calls.proofs.Read.{token_at, read_tokens}
use Rattle.calls.proofs.Frame.{state_behind, count_of}
use Rattle.calls.proofs.Steps.{tokens_of, Steps, steps_silent, steps_count, steps_run, run_steps, ended, Ends, run_ends, ends_run}

-- the tokens of the events that are read are those of the tokens as they are spelled
module _ (a : Sheet) (s : List ℕ) where
  pub tokens_at : (ts : List Tok) (at : ℕ) (r : List ℕ) → drop at s ≡ flat ts ++ r → tokens_of a s (events_at at ts) ≡ tokens_for a ts
  tokens_at [] at r e = refl
  tokens_at (t ∷ ts) at r e =
      let e₁ : drop at s ≡ bytes t ++ (flat ts ++ r) = e ∙ append_assoc (bytes t) (flat ts) r in
      let d : drop (at + length (bytes t)) s ≡ flat ts ++ r =
      sym (drop-drop (length (bytes t)) at s) ∙ ap (drop (length (bytes t))) e₁ ∙ drop-append_seam (bytes t) (flat ts ++ r) in
      ap₂ (λ (k : Token) (ks : List Token). k ∷ ks) (token_at a s t at (flat ts ++ r) e₁) (tokens_at ts (at + length (bytes t)) r d)

-- a state that holds no output
quiet : (z : Configuration) → z.store.env.out ≡ [] → silent z ≡ z
quiet z h =
    ap (λ (l : List Piece). record { control = z.control; store = record { kept = z.store.kept; env = record { values = z.store.env.values; echo = z.store.env.echo; out = l; count = z.store.env.count } } })
    (sym h)

length_nil : (l : List ℕ) → length l ≡ 0 → l ≡ []
length_nil [] e = refl
length_nil (x ∷ l) e = absurd (omega (arith, e))

module _ (a : Sheet) (ok : Passed a) (s : List ℕ) (room : ℕ) where
  -- the state that steps from fresh come to, where the root is closed
  last_is : (v : Env) (last : Configuration) (p : List Piece) → last.store.env.out ≡ [] → state_behind p last ≡ closed_with v →
      (last ≡ closed_with (without_output v)) × (v.out ≡ p) × (v.count ≡ count_of last)
  last_is v last p h e =
      (sym (quiet last h) ∙ ap silent e, sym (ap (λ (z : Configuration). z.store.env.out) e) ∙ ap (λ (l : List Piece). p ++ l) h ∙ append-nil p, sym (ap count_of e))

  ended_is : (v : Env) (to : ℕ) (p : List Piece) (last : Configuration) → to ≡ length s → v.out ≡ p → last ≡ closed_with (without_output v) → ended to p last ≡ accepted s v
  ended_is v to p last n o l =
      ap₂ (λ (j : ℕ) (x : List Piece). ended j x last) n (sym o)
      ∙ ap (λ (z : Configuration). record { number = 0; taken = length s; output = render v.out; held = record { run = z; closing = some 0 } }) l

  to_accepted : (r : Result) → Called a s false room fresh_held r → r.number ≡ 0 → (v : Env) × AcceptedIn a s room r v
  to_accepted r d h =
      let n = run_ends a s d h in
      let es : List Event = n.events in
      let run : run_tokens a fresh_configuration (tokens_of a s es) ≡ through (state_behind n.printed n.last) =
      steps_run a fresh_configuration (tokens_of a s es) n.last n.printed [] n.steps in
      let w = through_spells a (tokens_of a s es) (state_behind n.printed n.last) run in
      let t = to_tree a (events_of_marks w.0) (state_behind n.printed n.last) w.1 n.root_closed in
      let v : Env = t.0 in
      let l = last_is v n.last n.printed (steps_silent a fresh_configuration (tokens_of a s es) n.last n.printed refl n.steps) t.2 in
      let c = steps_count a fresh_configuration (tokens_of a s es) n.last n.printed (omega arith) n.steps in
      let k = read_tokens false s 0 es n.to n.reads in
      let ts : List Tok = k.toks in
      let p = k.events in
      let e = k.split in
      let same : tokens_of a s es ≡ tokens_for a ts = ap (tokens_of a s) p ∙ tokens_at a s ts 0 (drop n.to s) e in
      let nil : drop n.to s ≡ [] = length_nil (drop n.to s) n.nothing_left in
      let b : s ≡ flat ts = e ∙ ap (λ (x : List ℕ). flat ts ++ x) nil ∙ append-nil (flat ts) in
      let o : render v.out ≡ render n.printed = ap render l.1 in
      let i : n.to ≡ length s = omega (arith, k.ends, ap length b) in (
        v,
        (
          record {
            tokens = ts;
            good = k.good;
            short = k.short;
            whole = subst (AllWhole false ts) nil k.whole;
            are_bytes = b;
            spells = (spelled_iff a ok (tokens_for a ts) v).0 (ap (run_tokens a fresh_configuration) (sym same) ∙ run ∙ ap through t.2);
            counts = omega (arith, c, l.2);
          },
          omega (arith, ap length o, n.fits),
          n.is ∙ ended_is v n.to n.printed n.last i l.1 l.0,
        ),
      )

  from_accepted : (v : Env) → Accepted a s v → length (render v.out) ≤ room → Called a s false room fresh_held (accepted s v)
  from_accepted v x f =
      let ts : List Tok = x.tokens in
      let es : List Event = events_at 0 ts in
      let rd : Reads false s 0 es (0 + length (flat ts)) =
      subst (λ (l : List ℕ). Reads false l 0 es (0 + length (flat ts))) (append-nil (flat ts) ∙ sym x.are_bytes) (reads_flat false ts [] [] x.good x.short x.whole) in
      let same : tokens_of a s es ≡ tokens_for a ts = tokens_at a s ts 0 [] (x.are_bytes ∙ sym (append-nil (flat ts))) in
      let st = run_steps a fresh_configuration (tokens_of a s es) [] (closed_with v) (ap (run_tokens a fresh_configuration) same ∙ (spelled_iff a ok (tokens_for a ts) v).1 x.spells) x.counts in
      let l = last_is v st.last st.printed (steps_silent a fresh_configuration (tokens_of a s es) st.last st.printed refl st.steps) (sym st.is) in
      let n : 0 + length (flat ts) ≡ length s = omega (arith, ap length x.are_bytes) in
      let o : render v.out ≡ render st.printed = ap render l.1 in
      let e : drop (0 + length (flat ts)) s ≡ [] = ap₂ (λ (i : ℕ) (x : List ℕ). drop i x) n (sym (append-nil s)) ∙ drop-append_seam s [] in
      let d = ends_run a s es 0 room fresh_configuration (0 + length (flat ts)) st.last st.printed rd st.steps (ap (λ (z : Configuration). z.control) l.0) (ap length e)
      (omega (arith, ap length o, f)) in
      subst (Called a s false room fresh_held)
      (ended_is v (0 + length (flat ts)) st.printed st.last n l.1 l.0) d

-- demand 2
pub accepted_iff : (a : Sheet) → Passed a → AcceptedExactly a
accepted_iff a ok s room r = (
  (λ h. to_accepted a ok s room r h.0 h.1),
  (λ h. (subst (Called a s false room fresh_held) (sym h.1.2) (from_accepted a ok s room h.0 h.1.0 h.1.1), ap (λ (x : Result). x.number) h.1.2)),
)

-- the tree and what it comes to are one
pub accepted_one : (a : Sheet) → Passed a → (s : List ℕ) (v v' : Env) → Accepted a s v → Accepted a s v' → v ≡ v'
accepted_one a ok s v v' x x' =
    let e : x.tokens ≡ x'.tokens = flat_one x.tokens x'.tokens x.good x'.good x.whole x'.whole (sym x.are_bytes ∙ x'.are_bytes) in
    let r = (spelled_iff a ok (tokens_for a x.tokens) v).1 x.spells in
    let r' = (spelled_iff a ok (tokens_for a x'.tokens) v').1 x'.spells in
    let q : through (closed_with v) ≡ through (closed_with v') = sym r ∙ ap (λ (ts : List Tok). run_tokens a fresh_configuration (tokens_for a ts)) e ∙ r' in
    let p : closed_with v ≡ closed_with v' = cc in
    ap (λ (z : Configuration). z.store.env) p

-- the count is twice the number of nodes of the tree
pub accepted_count : (a : Sheet) → TwiceTheNodes a
accepted_count a s v x =
    parsed_count a (yield x.spells.root) v (record { root = x.spells.root; are_events = refl; fits = x.spells.fits; value = x.spells.value })
