-- A run that has read nothing is ready, and after a token it is ready for the next one: what a token takes fits the sheet (`events_fit`), and one that is not taken changes nothing.
-- Assumes nothing.
use mathlib.Core.Path.{◌≡◌, refl, sym, subst}
use mathlib.Core.Bool.{Bool, true, false, ◌&&◌}
use mathlib.Core.List.{List}
use Prim.Native.Nat.{ℕ, ◌-◌}
use lib.ListN.{length}
use Rattle.tokens.specs.declared.Event.{Event}
use Rattle.tokens.specs.declared.Event.TheVariants.{Start, End, Empty, Character}
use Rattle.sheet.specs.Sheet.{Sheet, IsSheet}
use Rattle.runs.specs.Fits.{SheetFits, EventsFit}
use Rattle.runs.specs.Machine.{Configuration as Standing, took, answered, run}
use Rattle.runs.specs.Spells.{Token, events_of_token, is_blank, passes_at, unless_blank, step_token}
use Rattle.runs.specs.Visits.{grammar}
use Rattle.runs.proofs.Moves.{run_through}
use Rattle.runs.proofs.SheetFits.{sheet_fits}
use Rattle.calls.specs.Limits.{Taking, taken, refuses, no_room, one_token}
use Rattle.calls.specs.Names.{token_of}
use Rattle.calls.proofs.Steps.{takes_one}
use Rattle.fit.specs.RunFits.{RunFits}
use Rattle.fit.proofs.Steps.{fresh_run_fits, events_fit, silent_fits}
use Rattle.state.specs.declared.State.{State}
use Rattle.state.specs.Changes.{fresh_state}
use Rattle.state.specs.Meaning.{meaning_of}
use Rattle.state.proofs.Meant.{meaning_fresh, shaped_fresh}
use Rattle.steps.specs.Seen.{SteppedSeen}
use Rattle.steps.specs.Taken.{EventIn, TakingIs, TakenAs}
use Rattle.runs.specs.Taken.{Passed}
use Rattle.steps.specs.Parts.{RunReady}

token_fits : (a : Sheet) → SheetFits a → (m : Standing) → RunFits a m → (k : Token) → EventsFit (events_of_token k) → (m' : Standing) → step_token a m k ≡ took m' → RunFits a m'
token_fits a ok m f k E m' e = by (is_blank k && passes_at (grammar a) m.control) e
  where
    by : (b : Bool) → unless_blank b m (answered (run a m (events_of_token k))) ≡ took m' → RunFits a m'
    by true e = let q : m ≡ m' = cc in subst (RunFits a) q f
    by false e = events_fit a ok m (events_of_token k) m' E f (run_through (run a m (events_of_token k)) m' e)

pub event_fits : (a : Sheet) (part : List ℕ) (e : Event) → EventIn part e → EventsFit (events_of_token (token_of a part e))
event_fits a part (Start from len) h = tt
event_fits a part (End from len) h = tt
event_fits a part (Empty from len) h = tt
event_fits a part (Character c true) h = (h, tt)
event_fits a part (Character c false) h = (h, tt)

pub taken_fits : (a : Sheet) → SheetFits a → (z : Standing) (room : ℕ) (k : Token) (y : Standing) (w : List ℕ) → EventsFit (events_of_token k) → RunFits a z → one_token a z room k ≡ taken y w → RunFits a y
taken_fits a ok z room k y w h f e =
    let o = takes_one a z room k y w e in
    subst (RunFits a) (sym o.silenced) (silent_fits a o.reached (token_fits a ok z f k h o.reached o.stepped))

pub ready_for_more : {s part : List ℕ} {e : Event} {z : State} {lent : List ℕ} {at : ℕ} {r : SteppedSeen} {d : List ℕ} → RunReady s z → EventIn part e → TakenAs s part e z lent at r d → RunReady s r.state
ready_for_more {s} {part} {e} {z} {lent} {at} {r} {d} y E t =
    by (one_token y.sheet (meaning_of z) (length lent - at) (token_of y.sheet part e)) refl (t.right y.sheet y.is_sheet y.shaped y.fits)
  where
    by : (x : Taking) → one_token y.sheet (meaning_of z) (length lent - at) (token_of y.sheet part e) ≡ x → TakingIs x z lent at r d → RunReady s r.state
    by (taken m w) q k =
        record {
          sheet = y.sheet;
          is_sheet = y.is_sheet;
          passed = y.passed;
          shaped = k.shaped;
          fits = subst (RunFits y.sheet) (sym k.means)
              (taken_fits y.sheet (sheet_fits y.is_sheet) (meaning_of z) (length lent - at) (token_of y.sheet part e) m w (event_fits y.sheet part e E) y.fits q);
        }
    by (refuses n) q k = subst (RunReady s) (sym k.state) y
    by no_room q k = subst (RunReady s) (sym k.state) y

-- a run that has read nothing is ready
pub fresh_ready : {s : List ℕ} {a : Sheet} → IsSheet s a → Passed a → RunReady s fresh_state
fresh_ready {s} {a} i ok = record { sheet = a; is_sheet = i; passed = ok; shaped = shaped_fresh; fits = subst (RunFits a) (sym meaning_fresh) (fresh_run_fits a) }
