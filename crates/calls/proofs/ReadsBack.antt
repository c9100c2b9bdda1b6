-- What a call writes is names of the sheet and characters of the Char set, since the tokens that it reads hold no others (`run_fits` of the runs); and such a text reads
-- back (`reads_back` of the output).
-- Assumes nothing.
use mathlib.Core.Path.{◌≡◌, refl, sym, subst}
use mathlib.Core.Bool.{Bool, true, false, ◌&&◌}
use mathlib.Core.List.{List, [], ◌∷◌}
use mathlib.Core.Option.{Option, none, some}
use Prim.Native.Nat.{ℕ}
use Rattle.tokens.specs.declared.Event.{Event}
use Rattle.tokens.specs.declared.Event.TheVariants.{Start, End, Empty, Character}
use Rattle.tokens.specs.declared.Answer.TheVariants.{Token}
use Rattle.tokens.specs.Stream.{ReadAs, Reads}
use Rattle.sheet.specs.Sheet.{Sheet, IsSheet}
use Rattle.output.specs.Escape.{Piece, render, AllFit, events_from}
use Rattle.output.proofs.ReadBack.{reads_back, pieces_back, never_cr}
use Rattle.runs.specs.Visits.{grammar}
use Rattle.runs.specs.Fits.{EventsFit, SheetFits, StoreFits}
use Rattle.runs.specs.Machine.{Configuration, took, answered, run}
use Rattle.runs.specs.Spells.{events_of_token, is_blank, passes_at, unless_blank, step_token}
use Rattle.runs.proofs.Moves.{run_through}
use Rattle.runs.proofs.Execute.{fit_append}
use Rattle.runs.proofs.Fits.{run_fits}
use Rattle.runs.proofs.SheetFits.{sheet_fits}
use Rattle.calls.specs.Names.{token_of}
use Rattle.calls.specs.Limits.{silent}
use Rattle.calls.specs.Call.{Result, CalledBy}
use Rattle.calls.specs.ReadsBack.{ReadsBackAs, ReadsBack, CallsReadBack}
use Rattle.calls.proofs.Read.{read_char}
use Rattle.calls.proofs.Steps.{RunToken, out_of, Steps, tokens_of, run_does}

pub pieces_as : (ps : List Piece) → AllFit ps → ReadsBackAs (render ps) ps
pieces_as ps f = record { is = refl; no_cr = never_cr ps f; reads = λ p r. reads_back ps p r f; same = λ p r. pieces_back ps p r }

pub text_back : (ps : List Piece) → AllFit ps → ReadsBack (render ps)
text_back ps f = (ps, pieces_as ps f)

module _ (a : Sheet) (fits : SheetFits a) (s : List ℕ) (more : Bool) where
  event_fits : (at next : ℕ) (e : Event) → ReadAs more s at (Token e (record { at = next })) → EventsFit (events_of_token (token_of a s e))
  event_fits at next (Start from len) m = tt
  event_fits at next (End from len) m = tt
  event_fits at next (Empty from len) m = tt
  event_fits at next (Character c true) m = (read_char more s at c true next m, tt)
  event_fits at next (Character c false) m = (read_char more s at c false next m, tt)

  token_fits : (z y : Configuration) (k : RunToken) → StoreFits z.store → EventsFit (events_of_token k) → step_token a z k ≡ took y → StoreFits y.store
  token_fits z y k f h e = by (is_blank k && passes_at (grammar a) z.control) e
    where
      by : (b : Bool) → unless_blank b z (answered (run a z (events_of_token k))) ≡ took y → StoreFits y.store
      by true e = let q : z ≡ y = cc in subst (λ (x : Configuration). StoreFits x.store) q f
      by false e = run_fits a fits z f (events_of_token k) h y (run_through (run a z (events_of_token k)) y e)

  silent_fits : (y : Configuration) → StoreFits y.store → StoreFits (silent y).store
  silent_fits y f = record { values_fit = f.values_fit; kept_fit = f.kept_fit; output_fits = tt }

  steps_fit : (es : List Event) (at to : ℕ) (z z'' : Configuration) (p : List Piece) → StoreFits z.store → Reads more s at es to → Steps a z (tokens_of a s es) z'' p → AllFit p
  steps_fit [] at to z z'' p f rd (e, q) = subst AllFit (sym q) tt
  steps_fit (e ∷ es) at to z z'' p f (next, m, rd) (y, t, c, p', st, q) =
      let g = token_fits z y (token_of a s e) f (event_fits at next e m) t in
      subst AllFit (sym q) (fit_append (out_of y) p' g.output_fits (steps_fit es next to (silent y) z'' p' (silent_fits y g) rd st))

-- any text we write reads back: demand 2, last sentence
pub calls_read_back : {b : List ℕ} {a : Sheet} → IsSheet b a → CallsReadBack a
calls_read_back {b} {a} i part more room h r f d = by h.closing d
  where
    by : (c : Option ℕ) → CalledBy a part more room h.run c r → ReadsBack r.output
    by none d =
        let w = run_does a part d in
        subst ReadsBack (sym w.writes) (text_back w.printed (steps_fit a (sheet_fits i) part more w.events 0 r.taken h.run r.held.run w.printed f w.reads w.steps))
    by (some n) d = subst (λ (x : Result). ReadsBack x.output) (sym d) (text_back [] tt)
