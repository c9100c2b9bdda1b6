-- From the sheet's bytes to what the runners ask: the tags' names and the strings are the sheet's, and the program that a field names lies at that
-- offset of the section and fits. Assumes nothing.
use mathlib.Core.Path.{◌≡◌, refl, sym, ap, ap₂, ◌∙◌, subst}
use Rattle.std.specs.Prelude.{Option as Taken, Some, None}
use mathlib.Core.Bool.{true}
use mathlib.Core.List.{List, [], ◌∷◌, ◌++◌, append_assoc}
use mathlib.Core.Option.{Option, none, some}
use Prim.Native.Nat.{ℕ, zero, suc, ◌+◌, ◌-◌, ◌*◌, ◌≤◌, ◌<◌}
use native.Mathlib.Omega.{arith}
use lib.ListN.{length, take, drop, replicate, length-append, length-take, take-append-drop}
use lib.Seq.{drop-append_seam}
use Rattle.programs.specs.Program.{Program, program_bytes}
use Rattle.programs.specs.Limits.{StatementsFit, Visit}
use Rattle.programs.specs.Section.{back_to_back, Fill, StartOf, FieldIs, no_program, names}
use Rattle.programs.proofs.Agree.{program_some}
use Rattle.layout.specs.Layout.{tag_offset, tag_count, program_length, string_length, programs_in, strings_in}
use Rattle.layout.specs.LaidOut.{LaidOut}
use Rattle.layout.specs.declared.Layout.{Layout}
use Rattle.sheet.specs.Tags.{tag_record, TagAt}
use Rattle.sheet.specs.Sheet.{Sheet, From, IsSheet}
use Rattle.sheet.proofs.SheetLaws.{from_counted}
use Rattle.runs.specs.Execute.{name_of}
use Rattle.runs.specs.Visits.{performed}
use Rattle.runs.proofs.SheetFits.{one_of_all}
use Rattle.visits.specs.Evaluated.{LiesAt}
use Rattle.visits.specs.Written.{Pen, TagNameAt, Sources}
use Rattle.visits.specs.Ran.{most_printed, Came, RanTo, RanAs, lists}
use Rattle.visits.specs.Performed.{PerformedAs}
use Rattle.visits.specs.declared.Env.{Env}
use Rattle.visits.specs.declared.Ran.{Ran}
use Rattle.visits.proofs.Running.{still}

-- ---- names
name_in : (s : List ℕ) (t : ℕ) (n : List ℕ) → tag_offset s ≡ 0 → TagAt s t n → TagNameAt s t n
name_in s t n zero_at T =
    let here = drop (16 * t) s in
    let fill : List ℕ = replicate (15 - length n) 0 in
    let at : tag_offset s + 16 * t ≡ 16 * t = omega (arith, zero_at) in
    let e : take 16 here ≡ tag_record n = ap (λ (k : ℕ). take 16 (drop k s)) (sym at) ∙ T.spelled in
    record {
      short = T.short;
      spelled = (fill ++ drop 16 here, sym (take-append-drop 16 here) ∙ ap (λ (l : List ℕ). l ++ drop 16 here) e ∙ append_assoc (length n ∷ n) fill (drop 16 here));
    }

pub names_in : (s : List ℕ) (i k : ℕ) (ns : List (List ℕ)) → tag_offset s ≡ 0 → From (TagAt s) i k ns → (t : ℕ) → t < length ns → TagNameAt s (i + t) (name_of ns t)
names_in s i k [] z f t h = absurd (omega arith)
names_in s i k (n ∷ ns) z f zero h = subst (λ (m : ℕ). TagNameAt s m n) (omega arith) (name_in s i n z f.0)
names_in s i k (n ∷ ns) z f (suc t) h = subst (λ (m : ℕ). TagNameAt s m (name_of ns t)) (omega arith) (names_in s (suc i) k ns z f.1 t (omega arith))

-- ---- the program that starts at an offset
together : (ps qs : List Program) → back_to_back (ps ++ qs) ≡ back_to_back ps ++ back_to_back qs
together [] qs = refl
together (p ∷ ps) qs = ap (λ (l : List ℕ). program_bytes p ++ l) (together ps qs) ∙ sym (append_assoc (program_bytes p) (back_to_back ps) (back_to_back qs))

module _ (tags : ℕ) (strings section : List ℕ) (ps : List Program) (F : Fill tags strings section ps) (o : ℕ) (p : Program) (S : StartOf ps o p) where
  pub its_fits : StatementsFit tags strings p
  its_fits = (one_of_all tags strings S.before p S.after (rw S.are at F.programs)).fits

  whole_section : section ≡ back_to_back S.before ++ (program_bytes p ++ back_to_back S.after)
  whole_section = F.filled ∙ ap back_to_back S.are ∙ together S.before (p ∷ S.after)

  pub it_lies : LiesAt program_bytes section o p
  it_lies = (
    back_to_back S.after,
    ap (λ (k : ℕ). drop k section) S.offset ∙ ap (λ (l : List ℕ). drop (length (back_to_back S.before)) l) whole_section
        ∙ drop-append_seam (back_to_back S.before) (program_bytes p ++ back_to_back S.after),
  )

  pub it_starts_inside : o < length section
  it_starts_inside =
      omega (arith, S.offset, ap length whole_section, length-append (back_to_back S.before) (program_bytes p ++ back_to_back S.after), length-append (program_bytes p) (back_to_back S.after), program_some p)

-- ---- a sheet
module _ (s : List ℕ) (l : Layout) (L : LaidOut s l) where
  abbrev pub section_of : List ℕ
  section_of = take (l.programs_at + l.programs - l.programs_at) (drop l.programs_at s)

  abbrev pub strings_of : List ℕ
  strings_of = take (l.strings_at + l.strings - l.strings_at) (drop l.strings_at s)

  pub section_is : section_of ≡ programs_in s
  section_is =
      let n : l.programs_at + l.programs - l.programs_at ≡ program_length s = omega (arith, L.layout_is.programs_is.is) in
      ap₂ (λ (n k : ℕ). take n (drop k s)) n L.layout_is.programs_at_is.is

  pub section_length : length section_of ≤ l.programs
  section_length = omega (arith, length-take (l.programs_at + l.programs - l.programs_at) (drop l.programs_at s))

  pub strings_are : strings_of ≡ strings_in s
  strings_are =
      let n : l.strings_at + l.strings - l.strings_at ≡ string_length s = omega (arith, L.layout_is.strings_is.is) in
      ap₂ (λ (n k : ℕ). take n (drop k s)) n L.layout_is.strings_at_is.is

  module _ (a : Sheet) (z : IsSheet s a) where
    pub sources : Sources s strings_of a
    sources = record { names_are = λ t h. subst (λ (m : ℕ). TagNameAt s m (name_of a.names t)) (omega arith) (names_in s 0 (tag_count s) a.names z.well_formed_lem.sections.tags_at_lem z.names_are t h); strings_are = z.strings_are ∙ sym strings_are }

    filled : Fill (length a.names) strings_of section_of z.well_formed_lem.programs.programs
    filled =
        let n : tag_count s ≡ length a.names = omega (arith, from_counted (TagAt s) 0 (tag_count s) a.names z.names_are) in
        let F = z.well_formed_lem.programs.fill in
        subst (λ (m : ℕ). Fill m strings_of section_of z.well_formed_lem.programs.programs) n
        (subst (λ (w : List ℕ). Fill (tag_count s) w section_of z.well_formed_lem.programs.programs) (sym strings_are)
        (subst (λ (w : List ℕ). Fill (tag_count s) (strings_in s) w z.well_formed_lem.programs.programs) (sym section_is) F))

  module _ (field : ℕ) (kept : List ℕ) (e : Env) (p : Pen) where
    pub no_field : field ≡ 65535 → PerformedAs s field kept e p (Some (record { at = p.at; env = e })) p.lent
    no_field k = record { reach = omega arith; dry = λ y. refl; right = λ a z v m f. go a m f }
      where
        go : (a : Sheet) {ps : List Program} {v : Visit} (m : Option Program) → FieldIs ps v field m → Came (performed a kept m e.values e.echo) p p.at e p.lent
        go a none f = still p e
        go a (some q) (names n q₁ S w) = absurd (n k)

    pub past_section : (field ≡ 65535 → ⊥) → l.programs < field → PerformedAs s field kept e p None p.lent
    past_section n far = record { reach = tt; dry = λ y. refl; right = go }
      where
        go : (a : Sheet) (z : IsSheet s a) (v : Visit) (m : Option Program) → FieldIs z.well_formed_lem.programs.programs v field m → performed a kept m e.values e.echo ≡ none
        go a z v none (no_program k) = absurd (n k)
        go a z v (some q) (names k q₁ S w) =
            absurd (omega (arith, far, section_length, it_starts_inside (length a.names) strings_of section_of z.well_formed_lem.programs.programs (filled a z) field q S))

    -- the list at that offset was run
    module _ (n : field ≡ 65535 → ⊥) where
      came : (r : Taken Ran) (d : List ℕ) → RanAs lists (record { section = section_of; tags = s; strings = strings_of }) field kept e true p r d → (a : Sheet) (z : IsSheet s a) (v : Visit) (m : Option Program)
          → FieldIs z.well_formed_lem.programs.programs v field m → RanTo (performed a kept m e.values e.echo) p r d
      came r d R a z v none (no_program k) = absurd (n k)
      came r d R a z v (some q) (names k q₁ S w) =
          (R.right a (sources a z) q
          (it_lies (length a.names) strings_of section_of z.well_formed_lem.programs.programs (filled a z) field q S)
          (its_fits (length a.names) strings_of section_of z.well_formed_lem.programs.programs (filled a z) field q S)).0

      pub went_on : (r : Ran) (d : List ℕ) → RanAs lists (record { section = section_of; tags = s; strings = strings_of }) field kept e true p (Some r) d → PerformedAs s field kept e p (Some (record { at = r.at; env = r.env })) d
      went_on r d R = record { reach = reaches; dry = R.dry; right = came (Some r) d R }
        where
          short : r.next ≤ 16384
          short = omega (arith, R.high, section_length, L.short_programs)

          reaches : r.at ≤ p.at + most_printed * 16384
          reaches = omega (arith, R.reach, short)

      pub was_rejected : (d : List ℕ) → RanAs lists (record { section = section_of; tags = s; strings = strings_of }) field kept e true p None d → PerformedAs s field kept e p None d
      was_rejected d R = record { reach = tt; dry = R.dry; right = came None d R }
