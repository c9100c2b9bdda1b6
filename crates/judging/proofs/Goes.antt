-- A text goes on past a byte exactly where the machine takes it: by the grammar alone, with few nodes in each model, and in the family. Assumes nothing.
use mathlib.Core.Path.{◌≡◌, sym, ◌∙◌, ap, subst}
use mathlib.Core.Option.{Option, none, some}
use mathlib.Core.List.{List, [], ◌∷◌, ◌++◌, append-nil}
use Prim.Native.Nat.{ℕ, suc, ◌+◌, ◌≤◌, ◌<◌}
use native.Mathlib.Omega.{arith}
use native.Mathlib.Numerals.{add-one}
use lib.ListN.{length, take, drop, length-drop}
use lib.Seq.{take-add}
use Rattle.notation.specs.Refusal.{Continues, RefusedAt}
use Rattle.notation.specs.Statements.{parentheses}
use Rattle.reading.specs.Machine.{and_then, walk}
use Rattle.reading.specs.Reads.{Limited, ReadBy}
use Rattle.reading.proofs.Telling.{IfSome, walk_on, run_was, takes_what_goes_on}
use Rattle.models.specs.Models.{Declaration}
use Rattle.models.specs.Spelling.{DtdIs}
use Rattle.models.specs.Family.{EachFewNodes, Grammatical, WithFewNodes, Family}
use Rattle.models.specs.Reader.{DtdProgress, outside, step_declarations, finished_dtd, dtds}
use Rattle.models.specs.Promises.{DtdFits}
use Rattle.models.proofs.Walk.{declarations_walk}
use Rattle.models.proofs.Grows.{nodes_grow}
use Rattle.models.proofs.Told.{value_of, reads_dtds, few?, fits?}
use Rattle.judging.specs.Standing.{StandsBehind}
use Rattle.judging.proofs.Parentheses.{walk_more, more_open}

-- the machine reads declarations with fewer limits, and with none
reads_few : (p : ℕ) → ReadBy (dtds (suc p)) (DtdIs (suc p)) EachFewNodes
reads_few p =
    let r = reads_dtds p in
    record {
      complete = r.complete;
      sound = r.sound;
      shortest = r.shortest;
      finished_last = r.finished_last;
      grows = λ s s' b e f. subst (IfSome (λ z. EachFewNodes (finished_dtd z) → EachFewNodes (finished_dtd s))) e (nodes_grow (suc p) s b) f;
      starts = (omega arith, tt);
    }

abbrev Unlimited : List Declaration → Type 0
Unlimited ds = Unit {0}

reads_all : (p : ℕ) → ReadBy (dtds (suc p)) (DtdIs (suc p)) Unlimited
reads_all p =
    let r = reads_dtds p in
    record { complete = r.complete; sound = r.sound; shortest = r.shortest; finished_last = r.finished_last; grows = λ s s' b e f. tt; starts = tt }

-- what goes on past a byte has the machine take it
module _ (p : ℕ) (Fits : List Declaration → Type 0) (fits : (ds : List Declaration) → Dec (Fits ds)) (reads : ReadBy (dtds (suc p)) (DtdIs (suc p)) Fits) where
  taken_on : (w : List ℕ) (b : ℕ) (s : DtdProgress) → walk (step_declarations (suc p)) (outside []) w ≡ some s → Continues (Limited (DtdIs (suc p)) Fits) (w ++ b ∷ [])
      → (s' : DtdProgress) × (step_declarations (suc p) s b ≡ some s') × Fits (finished_dtd s')
  taken_on w b s e g =
      let t = (takes_what_goes_on ℕ (List Declaration) (dtds (suc p)) (DtdIs (suc p)) Fits fits reads (w ++ b ∷ [])).taken g in
      let r = run_was (dtds (suc p)) (DtdIs (suc p)) Fits fits reads (outside []) t.0 (w ++ b ∷ []) reads.starts t.1 in
      (t.0, one (step_declarations (suc p) s b) t.0 (sym (walk_on (step_declarations (suc p)) (outside []) s w (b ∷ []) e) ∙ r.0), r.1)
    where
      one : (o : Option DtdProgress) (z : DtdProgress) → and_then o (λ y. some y) ≡ some z → o ≡ some z
      one none z h = h
      one (some y) z h = h

-- with more parentheses
wider : (p q : ℕ) (w : List ℕ) (ds : List Declaration) → q ≤ suc p → DtdIs q w ds → DtdIs (suc p) w ds
wider p q w ds r h = (reads_dtds p).sound w (outside ds) ds (ap (walk (step_declarations (suc p)) (outside [])) (sym (append-nil w)) ∙ declarations_walk (suc p) h.are r []) (value_of ds h.some)

module _ (text rest : List ℕ) (k b : ℕ) (s : DtdProgress) (at : StandsBehind text k s) (here : drop k text ≡ b ∷ rest) where
  pub not_the_end : k < length text
  not_the_end = omega (arith, length-drop k text, ap length here)

  pub one_more : take (suc k) text ≡ take k text ++ b ∷ []
  one_more = ap (λ n. take n text) (sym (add-one k)) ∙ take-add k 1 text ∙ ap (λ l. take k text ++ take 1 l) here

  pub in_family : Continues Family (take (suc k) text) → (s' : DtdProgress) × (step_declarations parentheses s b ≡ some s') × DtdFits (finished_dtd s')
  in_family g =
      taken_on 31 DtdFits fits? (reads_dtds 31) (take k text) b s at.walked
      (subst (Continues (Limited (DtdIs parentheses) DtdFits)) one_more
      (record { rest = g.rest; value = g.value; writes = record { phrase = g.writes.spelled; fits = record { few = g.writes.few_nodes; shallow = g.writes.shallow } } }))

  -- with so many parentheses and more
  walked_with : (p : ℕ) → walk (step_declarations (suc (p + 31))) (outside []) (take k text) ≡ some s
  walked_with p = walk_more parentheses (suc (p + 31)) (omega arith) (outside []) s (take k text) at.walked

  pub by_grammar : Continues Grammatical (take (suc k) text) → (p : ℕ) × (s' : DtdProgress) × (step_declarations p s b ≡ some s')
  by_grammar g =
      let q = g.writes.open_at_most in
      let r : Continues (Limited (DtdIs (suc (q + 31))) Unlimited) (take (suc k) text) = record {
        rest = g.rest;
        value = g.value;
        writes = record { phrase = wider (q + 31) q (take (suc k) text ++ g.rest) g.value (omega arith) g.writes.spelled; fits = tt };
      } in
      let t = taken_on (q + 31) Unlimited (λ ds. yes tt) (reads_all (q + 31)) (take k text) b s (walked_with q) (subst (Continues (Limited (DtdIs (suc (q + 31))) Unlimited)) one_more r) in
      (suc (q + 31), t.0, t.1)

  pub by_few_nodes : Continues WithFewNodes (take (suc k) text) → (p : ℕ) × (s' : DtdProgress) × (step_declarations p s b ≡ some s') × EachFewNodes (finished_dtd s')
  by_few_nodes g =
      let q = g.writes.grammatical.open_at_most in
      let r : Continues (Limited (DtdIs (suc (q + 31))) EachFewNodes) (take (suc k) text) = record {
        rest = g.rest;
        value = g.value;
        writes = record { phrase = wider (q + 31) q (take (suc k) text ++ g.rest) g.value (omega arith) g.writes.grammatical.spelled; fits = g.writes.few_nodes };
      } in
      let t = taken_on (q + 31) EachFewNodes few? (reads_few (q + 31)) (take k text) b s (walked_with q) (subst (Continues (Limited (DtdIs (suc (q + 31))) EachFewNodes)) one_more r) in
      (suc (q + 31), t.0, t.1, t.2)

  -- and what it takes goes on
  pub goes_on : (p : ℕ) (s' : DtdProgress) → step_declarations p s b ≡ some s' → (q : ℕ) × (more : List ℕ) × DtdIs q (take (suc k) text ++ more) (finished_dtd s')
  goes_on p s' e =
      let q = suc (p + 31) in
      let w : walk (step_declarations q) (outside []) (take (suc k) text) ≡ some s' =
      ap (walk (step_declarations q) (outside [])) one_more
      ∙ walk_on (step_declarations q) (outside []) s (take k text) (b ∷ []) (walked_with p)
      ∙ ap (λ o. and_then o (λ z. some z)) (more_open p q (omega arith) s s' b e) in
      let r = (reads_dtds (p + 31)).shortest (take (suc k) text) s' w in
      (q, r.0, r.1)

  pub goes_by_grammar : (p : ℕ) (s' : DtdProgress) → step_declarations p s b ≡ some s' → Continues Grammatical (take (suc k) text)
  goes_by_grammar p s' e = let r = goes_on p s' e in record { rest = r.1; value = finished_dtd s'; writes = record { open_at_most = r.0; spelled = r.2 } }

  pub goes_with_few_nodes : (p : ℕ) (s' : DtdProgress) → step_declarations p s b ≡ some s' → EachFewNodes (finished_dtd s') → Continues WithFewNodes (take (suc k) text)
  goes_with_few_nodes p s' e f =
      let r = goes_on p s' e in
      record { rest = r.1; value = finished_dtd s'; writes = record { grammatical = record { open_at_most = r.0; spelled = r.2 }; few_nodes = f } }

-- what is read so far goes on
pub goes_so_far : (text : List ℕ) (k : ℕ) (s : DtdProgress) → StandsBehind text k s → Continues Family (take k text)
goes_so_far text k s at =
    let r = (reads_dtds 31).shortest (take k text) s at.walked in
    record { rest = r.0; value = finished_dtd s; writes = record { spelled = r.1; few_nodes = at.fits.few; shallow = at.fits.shallow } }

-- and where the machine does not take the byte, or not with its limits, no more does
pub refused_there : (text rest : List ℕ) (k b : ℕ) (s : DtdProgress) → StandsBehind text k s → drop k text ≡ b ∷ rest
    → ((s' : DtdProgress) → step_declarations parentheses s b ≡ some s' → DtdFits (finished_dtd s') → ⊥) → RefusedAt Family text k
refused_there text rest k b s at here h = record {
  reached = at.reached;
  before = goes_so_far text k s at;
  no_further = λ l g. let t = in_family text rest k b s at here g in h t.0 t.1 t.2;
  unfinished = λ e v f. absurd (omega (arith, e, not_the_end text rest k b s at here));
}
