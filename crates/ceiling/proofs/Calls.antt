-- The ceiling of a step, a token and a call, of every sheet that bytes are and that passes.
-- Assumes nothing.
use mathlib.Core.Path.{◌≡◌, refl, sym, ap}
use mathlib.Core.Bool.{Bool, true, false, ◌&&◌}
use mathlib.Core.List.{List, [], ◌∷◌}
use mathlib.Core.Option.{Option, none, some}
use Prim.Native.Nat.{ℕ, zero, suc, ◌+◌, ◌*◌, ◌≤◌, ◌<◌}
use native.Mathlib.Omega.{arith}
use lib.ListN.{length}
use Rattle.expressions.specs.Grammar.{Production}
use Rattle.tokens.specs.declared.Event.{Event as Read}
use Rattle.layout.specs.Layout.{production_count}
use Rattle.layout.specs.Records.{node_count_of}
use Rattle.trees.specs.GrammarAt.{GrammarFrom}
use Rattle.trees.proofs.Grammars.{nodes_of_content}
use Rattle.sheet.specs.Sheet.{Sheet}
use Rattle.sheet.proofs.SheetLaws.{sheet_grammar}
use Rattle.output.specs.Escape.{Piece}
use Rattle.runs.specs.Visits.{grammar}
use Rattle.runs.specs.Machine.{Configuration, Answer, took, run, answered, onward, finished}
use Rattle.runs.specs.Taken.{Passed}
use Rattle.runs.specs.Spells.{Token, start_token, end_token, empty_token, literal, reference, events_of_token, is_blank, passes_at, unless_blank}
use Rattle.runs.proofs.Moves.{run_through}
use Rattle.tokens.specs.Stream.{Reads}
use Rattle.calls.specs.Call.{Result, CalledBy}
use Rattle.calls.specs.Limits.{silent}
use Rattle.calls.proofs.Steps.{tokens_of, Steps, run_does}
use Rattle.limits.specs.Limits.{nodes_at_most}
use Rattle.ceiling.specs.Visits.{FewNodes, SheetsHaveFew, ceiling, for_token, count_in, StepVisits, TokenVisits, CallVisits, CeilingKept}
use Rattle.ceiling.proofs.Moves.{event_visits, run_visits}

few_from : (s : List ℕ) → ((q : ℕ) → q < production_count s → node_count_of s q ≤ nodes_at_most) → (i : ℕ) (g : List Production) → GrammarFrom s i g → FewNodes g
few_from s few i [] h q = omega arith
few_from s few i (d ∷ g) h zero = omega (arith, nodes_of_content s i d.content h.0.content_is, few i (there s i g h.1))
  where
    there : (s : List ℕ) (i : ℕ) (g : List Production) → GrammarFrom s (suc i) g → i < production_count s
    there s i [] h = omega (arith, h)
    there s i (d ∷ g) h = omega (arith, there s (suc i) g h.1)
few_from s few i (d ∷ g) h (suc q) = few_from s few (suc i) g h.1 q

pub sheets_have_few : SheetsHaveFew
sheets_have_few s a z = few_from s (λ q h. (z.well_formed_lem.productions.each q h).few_nodes) 0 (grammar a) (sheet_grammar z)

-- an empty tag has the most
token_most : (k : Token) → ceiling (events_of_token k) ≤ for_token
token_most (start_token t) = omega arith
token_most (end_token t) = omega arith
token_most (empty_token t) = omega arith
token_most (literal c) = omega arith
token_most (reference c) = omega arith

module _ (a : Sheet) (ok : Passed a) (nodes : FewNodes (grammar a)) where
  step_visits : StepVisits a
  step_visits z z' x e =
      let h = run_visits a ok.keeps_S nodes z z' (x ∷ []) (ap (λ (y : Answer). onward z (x ∷ []) y (λ z. finished z)) e) in
      omega (arith, h)

  token_visits : TokenVisits a
  token_visits z z' k e = by (is_blank k && passes_at (grammar a) z.control) e
    where
      by : (b : Bool) → unless_blank b z (answered (run a z (events_of_token k))) ≡ took z' → count_in z' ≤ count_in z + ceiling (events_of_token k)
      by true e = let h : z ≡ z' = cc in omega (arith, ap count_in h)
      by false e = run_visits a ok.keeps_S nodes z z' (events_of_token k) (run_through (run a z (events_of_token k)) z' e)

  steps_visits : (z : Configuration) (ks : List Token) (z' : Configuration) (p : List Piece) → Steps a z ks z' p → count_in z' ≤ count_in z + for_token * length ks
  steps_visits z [] z' p (e, q) = omega (arith, ap count_in e)
  steps_visits z (k ∷ ks) z' p (y, t, c, p', st, q) = omega (arith, token_visits z y k t, token_most k, steps_visits (silent y) ks z' p' st)

  tokens_length : (part : List ℕ) (es : List Read) → length (tokens_of a part es) ≡ length es
  tokens_length part [] = refl
  tokens_length part (e ∷ es) = ap suc (tokens_length part es)

  call_visits : CallVisits a
  call_visits part more room h r c = by h.closing c
    where
      by : (o : Option ℕ) → CalledBy a part more room h.run o r → (es : List Read) × Reads more part 0 es r.taken × (count_in r.held.run ≤ count_in h.run + for_token * length es)
      by none d =
          let t = run_does a part d in
          (t.events, t.reads, omega (arith, steps_visits h.run (tokens_of a part t.events) r.held.run t.printed t.steps, tokens_length part t.events))
      by (some n) e = ([], sym (ap (λ (x : Result). x.taken) e), omega (arith, ap (λ (x : Result). count_in x.held.run) e))

pub ceiling_kept : CeilingKept
ceiling_kept s a z ok =
    let nodes = sheets_have_few s a z in
    record {
      of_events = event_visits a ok.keeps_S nodes;
      of_steps = step_visits a ok nodes;
      of_tokens = token_visits a ok nodes;
      of_blanks = λ z k h. ap (λ (b : Bool). unless_blank b z (answered (run a z (events_of_token k)))) h;
      of_calls = call_visits a ok nodes;
    }
