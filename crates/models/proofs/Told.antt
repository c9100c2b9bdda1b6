-- Of every text it is told what it declares, or the byte at which it is refused. Assumes nothing.
use mathlib.Core.Path.{◌≡◌, refl, sym, ◌∙◌, ap, subst}
use mathlib.Core.Option.{Option, none, some}
use mathlib.Core.List.{List, [], ◌∷◌, ◌++◌, append-nil}
use Prim.Native.Nat.{ℕ, suc, ◌≤◌}
use native.Mathlib.Omega.{arith}
use native.Mathlib.Decide.{dec_le}
use Rattle.limits.specs.Limits.{nodes_at_most, deepest_tree}
use Rattle.notation.specs.Refusal.{Continues, RefusedAt, Told, written, refused}
use Rattle.notation.specs.Statements.{parentheses}
use Rattle.reading.specs.Machine.{walk}
use Rattle.reading.specs.Reads.{Limited, Ends, ReadBy}
use Rattle.reading.specs.Tests.{both?}
use Rattle.reading.proofs.Telling.{none≢some, IfSome, tells_all}
use Rattle.models.specs.Models.{Declaration}
use Rattle.models.specs.Expressions.{spec_nodes, spec_depth}
use Rattle.models.specs.Spelling.{DtdIs}
use Rattle.models.specs.Family.{EachFewNodes, Shallow, Family}
use Rattle.models.specs.Reader.{DtdProgress, outside, within, step_declarations, value_of_dtd, finished_dtd, dtds}
use Rattle.models.specs.Promises.{ReadsDtds, TellsDtds, DtdFits}
use Rattle.models.proofs.Walk.{declarations_walk}
use Rattle.models.proofs.Shortest.{held, sound, shortest}
use Rattle.models.proofs.Grows.{step_grows}

pub value_of : (ds : List Declaration) → (ds ≡ [] → ⊥) → value_of_dtd (outside ds) ≡ some ds
value_of [] h = absurd (h refl)
value_of (d ∷ ds) h = refl

pub finished_value : (s : DtdProgress) (v : List Declaration) → value_of_dtd s ≡ some v → finished_dtd s ≡ v
finished_value (outside []) v e = absurd (none≢some refl e)
finished_value (outside (d ∷ ds)) v e = cc
finished_value (within ds q) v e = absurd (none≢some refl e)

pub ends : (p : ℕ) (row : List ℕ) (v : List Declaration) → DtdIs (suc p) row v → Ends (dtds (suc p)) row v
ends p row v h = record {
  last = outside v;
  walked = ap (walk (step_declarations (suc p)) (outside [])) (sym (append-nil row)) ∙ declarations_walk (suc p) h.are (omega arith) [];
  told = value_of v h.some;
}

pub reads_dtds : ReadsDtds
reads_dtds p = record {
  complete = ends p;
  sound = λ row s v e t. sound p row s v (held p s row e) t;
  shortest = λ row s e. shortest p row s (held p s row e);
  finished_last = finished_value;
  grows = λ s s' b e f. subst (IfSome (λ z. DtdFits (finished_dtd z) → DtdFits (finished_dtd s))) e (step_grows (suc p) s b) f;
  starts = record { few = (omega arith, tt); shallow = (omega arith, tt) };
}

pub few? : (ds : List Declaration) → Dec (EachFewNodes ds)
few? [] = yes tt
few? (d ∷ ds) = both? (dec_le (spec_nodes d.content) nodes_at_most) (few? ds)

pub shallow? : (ds : List Declaration) → Dec (Shallow ds)
shallow? [] = yes tt
shallow? (d ∷ ds) = both? (dec_le (spec_depth d.content) deepest_tree) (shallow? ds)

pub fits? : (ds : List Declaration) → Dec (DtdFits ds)
fits? ds = go (few? ds) (shallow? ds)
  where
    go : Dec (EachFewNodes ds) → Dec (Shallow ds) → Dec (DtdFits ds)
    go (yes f) (yes s) = yes (record { few = f; shallow = s })
    go (yes f) (no s) = no (λ h. s h.shallow)
    go (no f) d = no (λ h. f h.few)

abbrev Within : List ℕ → List Declaration → Type 0
Within = Limited (DtdIs parentheses) DtdFits

of_family : (w : List ℕ) (ds : List Declaration) → Within w ds → Family w ds
of_family w ds l = record { spelled = l.phrase; few_nodes = l.fits.few; shallow = l.fits.shallow }

in_family : (w : List ℕ) (ds : List Declaration) → Family w ds → Within w ds
in_family w ds f = record { phrase = f.spelled; fits = record { few = f.few_nodes; shallow = f.shallow } }

goes_family : (w : List ℕ) → Continues Within w → Continues Family w
goes_family w g = record { rest = g.rest; value = g.value; writes = of_family (w ++ g.rest) g.value g.writes }

goes_within : (w : List ℕ) → Continues Family w → Continues Within w
goes_within w g = record { rest = g.rest; value = g.value; writes = in_family (w ++ g.rest) g.value g.writes }

told_family : (row : List ℕ) → Told Within row → Told Family row
told_family row (written v w) = written v (of_family row v w)
told_family row (refused k r) = refused k (record {
  reached = r.reached;
  before = goes_family _ r.before;
  no_further = λ h g. r.no_further h (goes_within _ g);
  unfinished = λ e v f. r.unfinished e v (in_family row v f);
})

pub tells_dtds : TellsDtds
tells_dtds text = told_family text (tells_all ℕ (List Declaration) (dtds parentheses) (DtdIs parentheses) DtdFits fits? (reads_dtds _) text)
