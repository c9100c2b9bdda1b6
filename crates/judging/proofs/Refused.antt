-- What is told at a byte that is not taken, and at the end of the text. Assumes nothing.
use mathlib.Core.Path.{◌≡◌, refl, sym, ◌∙◌, ap, subst}
use mathlib.Core.Logic.{◌⊎◌, inl, inr}
use mathlib.Core.Option.{Option, none, some}
use mathlib.Core.List.{List, [], ◌∷◌}
use Prim.Native.Nat.{ℕ}
use native.Mathlib.Omega.{arith}
use lib.ListN.{length, take, drop}
use lib.Seq.{take-length, drop-length}
use Rattle.notation.specs.Statements.{parentheses}
use Rattle.reading.specs.Machine.{and_then, walk}
use Rattle.reading.proofs.Telling.{none≢some, walk_on}
use Rattle.models.specs.Models.{Declaration}
use Rattle.models.specs.Family.{EachFewNodes, Shallow, Family}
use Rattle.models.specs.Answers.{other, declared, no_family, too_large, too_deep}
use Rattle.models.specs.Reader.{DtdProgress, outside, step_declarations, value_of_dtd, finished_dtd}
use Rattle.models.specs.Promises.{DtdFits}
use Rattle.models.proofs.OneAnswer.{starts_any, starts_entity, starts_attlist}
use Rattle.models.proofs.Told.{finished_value, reads_dtds}
use Rattle.judging.specs.Standing.{StandsBehind}
use Rattle.judging.specs.Promises.{StandsFirst, OneByteOn, ByGrammar, ByNodes, ByDepth, Unfinished, AllDeclared}
use Rattle.judging.proofs.Parentheses.{one_state}
use Rattle.judging.proofs.Goes.{not_the_end, one_more, by_grammar, by_few_nodes, goes_by_grammar, goes_with_few_nodes, goes_so_far, refused_there}

pub stands_first : StandsFirst
stands_first text = record { reached = omega arith; walked = refl; fits = (reads_dtds 31).starts }

pub one_byte_on : OneByteOn
one_byte_on text rest k b s s' at here e f = record {
  reached = omega (arith, not_the_end text rest k b s at here);
  walked = ap (walk (step_declarations parentheses) (outside [])) (one_more text rest k b s at here)
      ∙ walk_on (step_declarations parentheses) (outside []) s (take k text) (b ∷ []) at.walked
      ∙ ap (λ o. and_then o (λ z. some z)) e;
  fits = f;
}

pub refused_by_grammar : ByGrammar
refused_by_grammar text rest k b n s at here h m =
    no_family (refused_there text rest k b s at here (λ s' e f. none≢some (h parentheses) e)) (λ o. let t = by_grammar text rest k b s at here o.1 in none≢some (h t.0) t.2) m

-- two steps over one byte
same_fits : (Fits : List Declaration → Type 0) (p q b : ℕ) (s t t' : DtdProgress) → step_declarations p s b ≡ some t → step_declarations q s b ≡ some t' → Fits (finished_dtd t) → Fits (finished_dtd t')
same_fits Fits p q b s t t' e f h = subst (λ z. Fits (finished_dtd z)) (one_state p q b s t t' e f) h

pub refused_by_nodes : ByNodes
refused_by_nodes text rest k b p s s' at here e h =
    too_large (refused_there text rest k b s at here (λ z f g. h (same_fits EachFewNodes parentheses p b s z s' f e g.few)))
    (not_the_end text rest k b s at here, goes_by_grammar text rest k b s at here p s' e)
    (λ o. let t = by_few_nodes text rest k b s at here o.1 in h (same_fits EachFewNodes t.0 p b s t.1 s' t.2 e t.3))

pub refused_by_depth : ByDepth
refused_by_depth text rest k b p s s' at here e few h =
    too_deep (refused_there text rest k b s at here (deep h)) (not_the_end text rest k b s at here, goes_with_few_nodes text rest k b s at here p s' e few)
  where
    deep : (Shallow (finished_dtd s') → ⊥) ⊎ (step_declarations parentheses s b ≡ none) → (z : DtdProgress) → step_declarations parentheses s b ≡ some z → DtdFits (finished_dtd z) → ⊥
    deep (inl n) z f g = n (same_fits Shallow parentheses p b s z s' f e g.shallow)
    deep (inr n) z f g = none≢some n f

-- all of the text
pub whole : (text : List ℕ) (s : DtdProgress) → StandsBehind text (length text) s → walk (step_declarations parentheses) (outside []) text ≡ some s
whole text s at = ap (walk (step_declarations parentheses) (outside [])) (sym (take-length text)) ∙ at.walked

nothing_there : (text : List ℕ) (c : ℕ) (r : List ℕ) → drop (length text) text ≡ c ∷ r → ⊥
nothing_there text c r e = omega (arith, ap length (sym (drop-length text) ∙ e))

pub unfinished : Unfinished
unfinished text s at e =
    no_family {k = length text} {n = 55} (record { reached = omega arith; before = goes_so_far text (length text) s at; no_further = λ h g. absurd (omega (arith, h)); unfinished = λ h v f. nothing_declared v f }) (λ o. absurd (omega (arith, o.0)))
    (other
    (λ a. let t = starts_any text (length text) a in nothing_there text 65 (78 ∷ t.0) t.1)
    (λ a. let t = starts_entity text (length text) a in nothing_there text t.0 t.1 t.2)
    (λ a. let t = starts_attlist text (length text) a in nothing_there text 65 (84 ∷ t.0) t.1))
  where
    nothing_declared : (v : List Declaration) → Family text v → ⊥
    nothing_declared v f =
        let c = (reads_dtds 31).complete text v f.spelled in
        let same : ◌≡◌ {A = Option DtdProgress} (some c.last) (some s) = sym c.walked ∙ whole text s at in
        let state : c.last ≡ s = cc in
        none≢some e (ap value_of_dtd (sym state) ∙ c.told)

-- a text that is read to its end is of the family
pub all_of_family : (text : List ℕ) (s : DtdProgress) (ds : List Declaration) → StandsBehind text (length text) s → value_of_dtd s ≡ some ds → Family text ds
all_of_family text s ds at e =
    let same = finished_value s ds e in
    let f : DtdFits ds = subst DtdFits same at.fits in
    record { spelled = (reads_dtds 31).sound text s ds (whole text s at) e; few_nodes = f.few; shallow = f.shallow }

pub all_declared : AllDeclared
all_declared text s ds at e h = declared (all_of_family text s ds at e) h
