-- A reader's answers are the machine's. Assumes nothing.
use mathlib.Core.Path.{◌≡◌, refl, sym, ◌∙◌, ap, subst}
use mathlib.Core.Bool.{Bool, true, false, true≢false}
use mathlib.Core.Option.{Option, none, some}
use Prim.Native.Nat.{ℕ, ◌<◌}
use native.Mathlib.Omega.{arith}
use Rattle.programs.specs.Limits.{Visit}
use Rattle.programs.specs.Parsed.{which_visit}
use Rattle.notation.specs.Program.{TextProgram}
use Rattle.notation.specs.Tokens.{TextToken, sign, UNBRACE}
use Rattle.reading.specs.Statements.{Listing, step_statements, value_of_list}
use Rattle.reading.specs.Rules.{Progress}
use Rattle.lexemes.specs.Kinds.{kinds, token_kind, TokenFits}
use Rattle.verdicts.specs.Judged.{Goes, TakesToken}
use Rattle.sketches.specs.Figures.{present}
use Rattle.sketches.specs.Moves.{Sketch, sketch_if, step_sketch, program_at, unbraced_sketch}
use Rattle.sketches.specs.Sketched.{sketch, listing_of}
use Rattle.sketches.specs.Promises.{Drawn, ProgramTaken, goes_on, ends}
use Rattle.sketches.proofs.Promises.{programs_alike, plain_takes, plain_goes, program_goes, program_ends, program_takes}
use Rattle.sketches.proofs.Fitting.{no_unbrace}
use Rattle.sketches.proofs.Braces.{unbrace_kind}
use Rattle.drafts.specs.declared.Draft.{Draft}
use Rattle.std.specs.Prelude.{Option as Taken, Some, None}
use Rattle.drafts.specs.declared.Place.{Place}
use Rattle.drafts.specs.Drafted.{sketch_of, SoundDraft, DraftStepIs, DraftIs, program_if, PointIs}
use Rattle.outlines.specs.Statements.{outline_start, ends_here}
use Rattle.outlines.specs.Promises.{given, MachineKeeps}
use Rattle.scripts.specs.declared.Script.{Script}
use Rattle.scripts.specs.Scripts as scripts
use Rattle.scripts.specs.Scripts.{outline_of, Standing}
use Rattle.scripts.specs.Promises as promises
use Rattle.scripts.specs.Promises.{ScriptIs, MachineStepped}
use Rattle.scripts.proofs.Machines.{start_of_machine, step_of_machine, end_of_machine}
use Rattle.rulings.specs.declared.Reader.{Reader}
use Rattle.rulings.specs.Readers.{Holds, Firm, ReadsFor, ReadsAny, Plain, Answered, goes, stays, AnswerIs}

abbrev reader : Draft → Script → Reader
reader d s = record { draft = d; script = s }

pub none_some : {A : Type 0} (o : Option A) (x : A) → o ≡ none → o ≡ some x → ⊥
none_some o x h i = let y : ◌≡◌ {A = ℕ} 0 1 = cc in omega arith

pub absent : {A : Type 0} (o : Option A) → present o ≡ false → o ≡ none
absent none h = refl
absent (some x) h = absurd (true≢false h)

pub there : {A : Type 0} (o : Option A) → present o ≡ true → (x : A) × (o ≡ some x)
there none h = absurd (true≢false (sym h))
there (some x) h = (x, refl)

given_there : {A : Type 0} (o : Option A) → given o ≡ true → (x : A) × (o ≡ some x)
given_there none h = absurd (true≢false (sym h))
given_there (some x) h = (x, refl)

-- what the machine reads where the reader stands
pub same_program : (s : Progress) (r : Reader) → Holds s r → present (listing_of s) ≡ present (program_at r.draft.point)
same_program s r h = programs_alike s ∙ ap (λ k. present (program_at k.point)) h.drawn.numbers

pub no_listing : (s : Progress) (r : Reader) → Holds s r → Plain r → listing_of s ≡ none
no_listing s r h p = absent (listing_of s) (same_program s r h ∙ ap present p)

pub a_listing : (s : Progress) (r : Reader) (b : Bool) → Holds s r → ReadsFor r b → (q : Listing) × (listing_of s ≡ some q)
a_listing s r b h p = there (listing_of s) (same_program s r h ∙ ap present p)

-- outside programs
pub outside_takes : (r : Reader) (kind : ℕ) (d : Draft) (f : Script) → (kind < kinds) × (Firm r × Plain r) → DraftStepIs r.draft kind (Some d) → (outline_of f ≡ outline_start) × Standing f → AnswerIs r kind (Some (reader d f))
outside_takes r kind d f h i z = record {
  firm = record { sound = i.sound; standing = z.1 };
  told = λ s t u w e.
      let n = no_listing s r u h.1.1 in
      let st : step_sketch (sketch_of r.draft) (token_kind t) ≡ some (sketch_of d) = ap (step_sketch (sketch_of r.draft)) e ∙ i.same in
      let g = plain_goes s (sketch_of r.draft) (sketch_of d) t u.drawn n w st in
      let k = plain_takes s g.0 (sketch_of r.draft) t u.drawn n g.1 in
      goes g.0 g.1 (record {
        drawn = subst (Drawn g.0) g.2 k.drawn;
        program = λ q l. subst (λ o. ScriptIs o f) (k.begun q l) (start_of_machine f z.0 z.1);
      });
}

pub outside_refuses : (r : Reader) (kind : ℕ) → (kind < kinds) × (Firm r × Plain r) → DraftStepIs r.draft kind None → AnswerIs r kind None
outside_refuses r kind h i = record {
  firm = tt;
  told = λ s t u w e. stays (λ g.
      let k = plain_takes s g.0 (sketch_of r.draft) t u.drawn (no_listing s r u h.1.1) g.1 in
      none_some (step_sketch (sketch_of r.draft) (token_kind t)) (sketch g.0) (ap (step_sketch (sketch_of r.draft)) e ∙ i.same) k.stepped);
}

-- the sign that ends a program
pub unbraced_takes : (r : Reader) (b : Bool) (d : Draft) → Firm r × ReadsAny r → b ≡ ends_here (outline_of r.script) → b ≡ true → DraftIs (unbraced_sketch (sketch_of r.draft)) d → AnswerIs r 28 (Some (reader d r.script))
unbraced_takes r b d h i y k = record {
  firm = record { sound = k.sound; standing = h.0.standing };
  told = λ s t u w e.
      let l = a_listing s r h.1.0 u h.1.1 in
      let v = given_there (value_of_list l.0) (sym (end_of_machine l.0 r.script (u.program l.0 l.1)) ∙ sym i ∙ y) in
      let n = program_ends s (sketch_of r.draft) l.0 v.0 u.drawn l.1 v.1 in
      goes n.next (subst (λ z. Goes s z n.next) (sym (unbrace_kind t e)) n.goes) (record {
        drawn = subst (Drawn n.next) (sym k.same) n.drawn;
        program = λ q m. absurd (none_some (listing_of n.next) q n.plain m);
      });
}

no_end : (s s' : Progress) (r : Reader) (v : Visit) (q : Listing) (t : TextToken) (k : Sketch) → given (value_of_list q) ≡ false → t ≡ sign UNBRACE → ProgramTaken v q t k s' → ⊥
no_end s s' r v q t k h e (goes_on q' i w f n l) = none_some (step_statements v q t) q' (ap (step_statements v q) e ∙ no_unbrace v q) i
no_end s s' r v q t k h e (ends p i j n l) = true≢false (sym (ap given j) ∙ h)

pub unbraced_refuses : (r : Reader) (b : Bool) → Firm r × ReadsAny r → b ≡ ends_here (outline_of r.script) → b ≡ false → AnswerIs r 28 None
unbraced_refuses r b h i y = record {
  firm = tt;
  told = λ s t u w e. stays (λ g.
      let l = a_listing s r h.1.0 u h.1.1 in
      no_end s g.0 r (which_visit h.1.0) l.0 t (sketch_of r.draft) (sym (end_of_machine l.0 r.script (u.program l.0 l.1)) ∙ sym i ∙ y) (unbrace_kind t e)
      (program_takes s g.0 (sketch_of r.draft) (which_visit h.1.0) l.0 t u.drawn l.1 h.1.1 g.1));
}

-- another token in a program
taken_within : (s : Progress) (r : Reader) (b : Bool) (t : TextToken) (q : Listing) (f : Script) → Holds s r → ReadsFor r b → listing_of s ≡ some q → MachineStepped (which_visit b) q t (Some f) → Answered s t (Some (reader r.draft f))
taken_within s r b t q f u p l (promises.goes q' k i) =
    let n = program_goes s (sketch_of r.draft) (which_visit b) q q' t u.drawn l p k.taken k.within in
    goes n.next n.goes (record { drawn = n.drawn; program = λ o m. let z : q' ≡ o = some_same q' o (sym n.reads ∙ m) in subst (λ w. ScriptIs w f) z i })
  where
    some_same : (c o : Listing) → some c ≡ some o → c ≡ o
    some_same c o e = cc

refused_within : (s s' : Progress) (b : Bool) (t : TextToken) (q : Listing) (k : Sketch) → (t ≡ sign UNBRACE → ⊥) → MachineStepped (which_visit b) q t None → ProgramTaken (which_visit b) q t k s' → ⊥
refused_within s s' b t q k n (promises.stays f) (goes_on q' e w i j l) = f q' (record { taken = e; within = w })
refused_within s s' b t q k n (promises.stays f) (ends p e j i l) = n e

stepped_at : (v : Visit) (q : Listing) (t : TextToken) (f : Script) (kind : ℕ) (x : Taken Script) → ScriptIs q f → TokenFits t → token_kind t ≡ kind → scripts.Stepped v f kind x → MachineStepped v q t x
stepped_at v q t f kind x i w e h = step_of_machine v q t f x i w (subst (λ n. scripts.Stepped v f n x) (sym e) h)

script_stands : (v : Visit) (f : Script) (kind : ℕ) (g : Script) → scripts.Stepped v f kind (Some g) → Standing g
script_stands v f kind g (scripts.taken k h) = h

pub within_takes : (r : Reader) (kind : ℕ) (b : Bool) (f : Script) → Firm r × (ReadsFor r b × (kind ≡ 28 → ⊥)) → scripts.Stepped (which_visit b) r.script kind (Some f) → AnswerIs r kind (Some (reader r.draft f))
within_takes r kind b f h i = record {
  firm = record { sound = h.0.sound; standing = script_stands (which_visit b) r.script kind f i };
  told = λ s t u w e.
      let l = a_listing s r b u h.1.0 in
      taken_within s r b t l.0 f u h.1.0 l.1 (stepped_at (which_visit b) l.0 t r.script kind (Some f) (u.program l.0 l.1) w e i);
}

pub within_refuses : (r : Reader) (kind : ℕ) (b : Bool) → Firm r × (ReadsFor r b × (kind ≡ 28 → ⊥)) → scripts.Stepped (which_visit b) r.script kind None → AnswerIs r kind None
within_refuses r kind b h i = record {
  firm = tt;
  told = λ s t u w e. stays (λ g.
      let l = a_listing s r b u h.1.0 in
      refused_within s g.0 b t l.0 (sketch_of r.draft) (λ z. h.1.1 (sym e ∙ ap token_kind z)) (stepped_at (which_visit b) l.0 t r.script kind None (u.program l.0 l.1) w e i)
      (program_takes s g.0 (sketch_of r.draft) (which_visit b) l.0 t u.drawn l.1 h.1.0 g.1));
}

-- what the place says
pub asks_unbraced : (r : Reader) (kind : ℕ) (w : Place) → (kind < kinds) × Firm r → PointIs r.draft.point w → w.reads ≡ true → Firm r × ReadsAny r
asks_unbraced r kind w h p y = (h.1, (w.second, p.program ∙ ap (λ b. program_if b w.second) y))

pub asks_within : (r : Reader) (kind : ℕ) (w : Place) → (kind < kinds) × Firm r → PointIs r.draft.point w → w.reads ≡ true → (kind ≡ 28 → ⊥) → Firm r × (ReadsFor r w.second × (kind ≡ 28 → ⊥))
asks_within r kind w h p y n = (h.1, (p.program ∙ ap (λ b. program_if b w.second) y, n))

pub asks_outside : (r : Reader) (kind : ℕ) (w : Place) → (kind < kinds) × Firm r → PointIs r.draft.point w → w.reads ≡ false → (kind < kinds) × (Firm r × Plain r)
asks_outside r kind w h p y = (h.0, (h.1, p.program ∙ ap (λ b. program_if b w.second) y))

pub as_unbraced : (r : Reader) (kind : ℕ) (a : Taken Reader) → kind ≡ 28 → AnswerIs r 28 a → AnswerIs r kind a
as_unbraced r kind a e h = subst (λ k. AnswerIs r k a) (sym e) h
