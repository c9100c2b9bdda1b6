-- A run that fits its sheet goes on to runs that fit it: what holds of the open elements (`Reached`), of what is kept of them and of the values goes
-- from event to event.
-- Assumes nothing.
use mathlib.Core.Path.{◌≡◌, refl, ap}
use mathlib.Core.List.{List, [], ◌∷◌}
use Rattle.sheet.specs.Sheet.{Sheet}
use Rattle.runs.specs.Visits.{grammar}
use Rattle.runs.specs.Events.{Event}
use Rattle.runs.specs.Fits.{SheetFits, EventsFit}
use Rattle.runs.specs.Machine.{most, Configuration, Answer, took, step, finished, onward, run, fresh_configuration}
use Rattle.runs.proofs.Moves.{moves_run}
use Rattle.runs.proofs.Kept.{kept_moves}
use Rattle.runs.proofs.Fits.{acts_fit, fresh_fits, moves_letters}
use Rattle.fit.specs.RunFits.{RunFits}
use Rattle.fit.proofs.Reached.{chain_moves}

-- the run that has read nothing fits every sheet
pub fresh_run_fits : (a : Sheet) → RunFits a fresh_configuration
fresh_run_fits a = record { chain = tt; kept = refl; store = fresh_fits }

module _ (a : Sheet) (ok : SheetFits a) where
  pub events_fit : (m : Configuration) (xs : List Event) (m' : Configuration) → EventsFit xs → RunFits a m → run a m xs ≡ finished m' → RunFits a m'
  events_fit m xs m' h f e =
      let t = moves_run a m.control m.store xs m' e in
      record {
        chain = chain_moves (grammar a) a.start_nonterminal most t.moved f.chain;
        kept = kept_moves a t.moved m.store m'.store f.kept t.done;
        store = acts_fit a ok t.row (moves_letters (grammar a) a.start_nonterminal most t.moved h) m.store m'.store f.store t.done;
      }

  pub step_fits : (m : Configuration) (x : Event) (m' : Configuration) → EventsFit (x ∷ []) → RunFits a m → step a m x ≡ took m' → RunFits a m'
  step_fits m x m' h f e = events_fit m (x ∷ []) m' h f (ap (λ (y : Answer). onward m (x ∷ []) y (λ z. finished z)) e)

-- what it has written does not matter
pub silent_fits : (a : Sheet) (m : Configuration) → RunFits a m →
    RunFits a
    (record {
      control = m.control;
      store = record { kept = m.store.kept; env = record { values = m.store.env.values; echo = m.store.env.echo; out = []; count = m.store.env.count } };
    })
silent_fits a m f =
    record {
      chain = f.chain;
      kept = f.kept;
      store = record { values_fit = f.store.values_fit; kept_fit = f.store.kept_fit; output_fits = tt };
    }
