-- The row of the draft or of the script is the row of kinds that the machine takes. Assumes nothing.
use mathlib.Core.Path.{◌≡◌, refl, sym, ◌∙◌, ap, subst}
use mathlib.Core.Bool.{Bool, true, false}
use mathlib.Core.Option.{Option, none, some}
use mathlib.Core.List.{List}
use native.Mathlib.Decide.{ℕ_discrete}
use lib.ListN.{get_or}
use Rattle.programs.specs.Limits.{Visit}
use Rattle.programs.specs.Parsed.{which_visit}
use Rattle.notation.specs.Limits.{ProgramWithin}
use Rattle.notation.specs.Tokens.{TextToken, sign, UNBRACE}
use Rattle.reading.specs.Statements.{Listing, step_statements, value_of_list, finished_list}
use Rattle.reading.specs.Rules.{beginning}
use Rattle.lexemes.specs.Kinds.{token_kind, TokenFits}
use Rattle.lexemes.proofs.Found.{kind_below}
use Rattle.sketches.specs.Figures.{present}
use Rattle.sketches.specs.Moves.{sketch_start, text_ends}
use Rattle.sketches.specs.Sketched.{listing_of}
use Rattle.sketches.specs.Promises.{Drawn, goes_on, ends, ProgramRow}
use Rattle.sketches.proofs.Promises.{drawn_first, ends_alike, plain_marks, program_marks}
use Rattle.sketches.proofs.Fitting.{no_unbrace}
use Rattle.sketches.proofs.Braces.{unbrace_kind}
use Rattle.drafts.specs.declared.Draft.{Draft}
use Rattle.drafts.specs.declared.Place.{Place}
use Rattle.drafts.specs.Drafted.{sketch_of, DraftIs, program_if, PointIs}
use Rattle.outlines.specs.Statements.{outline_start, outline}
use Rattle.outlines.specs.Promises.{given, OutlineKeeps}
use Rattle.outlines.proofs.Outlines.{keeps_alike}
use Rattle.scripts.specs.declared.Script.{Script}
use Rattle.scripts.specs.Scripts.{outline_of, Standing}
use Rattle.scripts.specs.Promises.{ScriptIs}
use Rattle.scripts.proofs.Machines.{end_of_machine}
use Rattle.rows.specs.Rows.{TextRow, OutlineRow}
use Rattle.rulings.specs.declared.Reader.{Reader}
use Rattle.rulings.specs.Readers.{ReadsFor, KindsTaken, StartIs, EndIs}
use Rattle.rulings.proofs.Answers.{none_some, no_listing, a_listing}

-- outside programs the row is the draft's
pub row_in_text : (r : Reader) (w : Place) (m : List Bool) → PointIs r.draft.point w → w.reads ≡ false → TextRow r.draft m → KindsTaken r m
row_in_text r w m p y h = λ s u. plain_marks s (sketch_of r.draft) m u.drawn (no_listing s r u (p.program ∙ ap (λ b. program_if b w.second) y)) h.marks

given_present : {A : Type 0} (o : Option A) → given o ≡ present o
given_present none = refl
given_present (some x) = refl

-- what the script's row says of the program that is being read
program_marked : (v : Visit) (q : Listing) (f : Script) (m : List Bool) → ScriptIs q f → OutlineRow v f m → ProgramRow v q m
program_marked v q f m i h = record { goes_on = goes_further; marked = λ t q' w e l. on t q' w e l (ℕ_discrete (token_kind t) 28); brace = h.brace ∙ end_of_machine q f i ∙ given_present (value_of_list q) }
  where
    goes_further : (t : TextToken) → TokenFits t → (t ≡ sign UNBRACE → ⊥) → get_or m (token_kind t) false ≡ true → (q' : Listing) × (step_statements v q t ≡ some q') × ProgramWithin (finished_list q')
    goes_further t w n e =
        let x = (h.marks (token_kind t) (kind_below t) (λ k. n (unbrace_kind t k))).0 e in
        let y = (keeps_alike v q t w).1 x.0 (subst (λ o. OutlineKeeps v o (token_kind t) x.0) i.same x.1) in
        (y.0, y.1.taken, y.1.within)

    on : (t : TextToken) (q' : Listing) → TokenFits t → step_statements v q t ≡ some q' → ProgramWithin (finished_list q') → Dec (token_kind t ≡ 28) → get_or m (token_kind t) false ≡ true
    on t q' w e l (yes k) = absurd (none_some (step_statements v q t) q' (ap (step_statements v q) (unbrace_kind t k) ∙ no_unbrace v q) e)
    on t q' w e l (no k) =
        let y = (keeps_alike v q t w).0 q' (record { taken = e; within = l }) in
        (h.marks (token_kind t) (kind_below t) k).1 (outline q') (subst (λ o. OutlineKeeps v o (token_kind t) (outline q')) (sym i.same) y)

pub row_in_program : (r : Reader) (w : Place) (m : List Bool) → PointIs r.draft.point w → w.reads ≡ true → OutlineRow (which_visit w.second) r.script m → KindsTaken r m
row_in_program r w m p y h = λ s u.
    let a : ReadsFor r w.second = p.program ∙ ap (λ b. program_if b w.second) y in
    let l = a_listing s r w.second u a in
    program_marks s (sketch_of r.draft) (which_visit w.second) l.0 m u.drawn l.1 a (program_marked (which_visit w.second) l.0 r.script m (u.program l.0 l.1) h)

pub started : (d : Draft) (f : Script) → DraftIs sketch_start d → (outline_of f ≡ outline_start) × Standing f → StartIs (record { draft = d; script = f })
started d f h i = record {
  firm = record { sound = h.sound; standing = i.1 };
  holds = record { drawn = subst (Drawn beginning) (sym h.same) drawn_first; program = λ q e. absurd (none_some (listing_of beginning) q refl e) };
}

pub end_told : (r : Reader) (w : Place) → PointIs r.draft.point w → EndIs r w.ends
end_told r w h = λ s u. h.ends ∙ sym (ends_alike s ∙ ap (λ k. text_ends k.point) u.drawn.numbers)
