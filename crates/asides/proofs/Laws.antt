-- The program that a field names lies in the section, and the sheet's names and strings are those that it is printed with. Assumes nothing.
use mathlib.Core.Path.{◌≡◌, refl, sym, ap, ◌∙◌, subst}
use mathlib.Core.Bool.{Bool, true, false}
use mathlib.Core.List.{List, [], ◌∷◌, ◌++◌, append-nil, append_assoc}
use mathlib.Core.Option.{Option, none, some}
use Prim.Native.Nat.{ℕ, ◌+◌, ◌≤◌, ◌<◌}
use native.Mathlib.Omega.{arith}
use lib.ListN.{length}
use Rattle.lent.specs.Put.{PutAs}
use Rattle.lent.proofs.Laws.{put_dry}
use Rattle.output.proofs.Writing.{put_then, same_bytes}
use Rattle.programs.specs.Program.{Program}
use Rattle.programs.specs.Limits.{Visit}
use Rattle.programs.specs.Section.{Fill, FieldIs, no_program, names}
use Rattle.layout.specs.Layout.{tag_count, programs_in, strings_in}
use Rattle.layout.specs.LaidOut.{LaidOut}
use Rattle.layout.specs.declared.Layout.{Layout}
use Rattle.sheet.specs.Tags.{TagAt}
use Rattle.sheet.specs.Sheet.{Sheet}
use Rattle.sheet.proofs.SheetLaws.{from_counted}
use Rattle.runs.specs.Execute.{name_of}
use Rattle.notation.specs.Program.{TextProgram}
use Rattle.packing.specs.Packs.{Packs}
use Rattle.printed.specs.Programs.{program_text}
use Rattle.naming.specs.ByName.{program_named, option_named}
use Rattle.visits.specs.Written.{Pen, Written, TagNameAt, Sources}
use Rattle.visits.proofs.Performing.{names_in, section_of, strings_of, section_is, strings_are, its_fits, it_lies}
use Rattle.visits.proofs.Printing.{nothing_due}
use Rattle.passages.specs.Passages.{most_of_a_program, ProgramTextAt}
use Rattle.asides.specs.Asides.{aside_text, AsidesAreTheirs, most_of_an_aside, FieldNamed, FieldText}

pub asides_are_theirs : AsidesAreTheirs
asides_are_theirs none none x = append-nil x
asides_are_theirs none (some q) x = refl
asides_are_theirs (some p) none x = append_assoc (program_text p) (32 ∷ []) (x ++ []) ∙ ap (λ (l : List ℕ). program_text p ++ 32 ∷ l) (append-nil x)
asides_are_theirs (some p) (some q) x = append_assoc (program_text p) (32 ∷ []) (x ++ 32 ∷ program_text q)

-- ---- a sheet that keeps numbers 1 to 6
module _ (s : List ℕ) (l : Layout) (L : LaidOut s l) (a : Sheet) (z : Packs s a) where
  its_sources : Sources s (strings_of s l L) a
  its_sources =
      record {
        names_are = λ t h. subst (λ (m : ℕ). TagNameAt s m (name_of a.names t)) (omega arith) (names_in s 0 (tag_count s) a.names z.sections.tags_at_lem z.names_are t h);
        strings_are = z.strings_are ∙ sym (strings_are s l L);
      }

  pub filled : Fill (length a.names) (strings_of s l L) (section_of s l L) z.programs.programs
  filled =
      let n : tag_count s ≡ length a.names = omega (arith, from_counted (TagAt s) 0 (tag_count s) a.names z.names_are) in
      subst (λ (m : ℕ). Fill m (strings_of s l L) (section_of s l L) z.programs.programs) n
      (subst (λ (w : List ℕ). Fill (tag_count s) w (section_of s l L) z.programs.programs) (sym (strings_are s l L))
      (subst (λ (w : List ℕ). Fill (tag_count s) (strings_in s) w z.programs.programs) (sym (section_is s l L)) z.programs.fill))

  pub due : (field : ℕ) (v : Visit) (p : Program) → (field ≡ 65535 → ⊥) → FieldIs z.programs.programs v field (some p)
      → ProgramTextAt (section_of s l L) s (strings_of s l L) field (program_text (program_named a p))
  due field v p n (names k q S w) =
      record {
        sheet = a;
        sources = its_sources;
        program = p;
        lies = it_lies (length a.names) (strings_of s l L) (section_of s l L) z.programs.programs filled field p S;
        fits = its_fits (length a.names) (strings_of s l L) (section_of s l L) z.programs.programs filled field p S;
        bytes = refl;
      }

module _ (s : List ℕ) (field : ℕ) (in_front : Bool) (p : Pen) where
  pub no_field : field ≡ 65535 → Written most_of_an_aside (FieldText s field in_front) p p.at p.lent
  no_field e = nothing_due most_of_an_aside (FieldText s field in_front) p go
    where
      nothing : {ps : List Program} {v : Visit} (a : Sheet) (m : Option Program) → FieldIs ps v field m → aside_text in_front (option_named a m) ≡ []
      nothing a none f = refl
      nothing a (some q) (names n q₁ S w) = absurd (n e)

      go : (w : List ℕ) → FieldText s field in_front w → w ≡ []
      go w u = u.bytes ∙ ap (aside_text in_front) u.names.named ∙ nothing u.sheet u.names.program u.names.is

  module _ (l : Layout) (L : LaidOut s l) (n : field ≡ 65535 → ⊥) (d₁ d₂ : List ℕ) (n₁ n₂ : ℕ) where
    pub put_in_front : in_front ≡ true → Written most_of_a_program (ProgramTextAt (section_of s l L) s (strings_of s l L) field) p n₁ d₁ → PutAs p.write d₁ n₁ (32 ∷ []) d₂ n₂
        → Written most_of_an_aside (FieldText s field in_front) p n₂ d₂
    put_in_front e W P =
        record {
          reach = omega (arith, W.reach, P.next);
          dry = λ y. P.left ∙ put_dry p.write d₁ n₁ (32 ∷ []) y ∙ W.dry y;
          right = λ w u. same_bytes _ _ _ _ w _ _ (sym (u.bytes ∙ ap (aside_text in_front) u.names.named)) (go u.sheet u.packs u.visit u.names.program u.names.is);
        }
      where
        go : (a : Sheet) (z : Packs s a) (v : Visit) (m : Option Program) → FieldIs z.programs.programs v field m → PutAs p.write p.lent p.at (aside_text in_front (option_named a m)) d₂ n₂
        go a z v none (no_program k) = absurd (n k)
        go a z v (some q) f = rw e (put_then _ _ _ _ _ _ _ _ _ (W.right (program_text (program_named a q)) (due s l L a z field v q n f)) P)

    pub put_behind : in_front ≡ false → PutAs p.write p.lent p.at (32 ∷ []) d₁ n₁
        → Written most_of_a_program (ProgramTextAt (section_of s l L) s (strings_of s l L) field) (record { write = p.write; lent = d₁; at = n₁ }) n₂ d₂
        → Written most_of_an_aside (FieldText s field in_front) p n₂ d₂
    put_behind e P W =
        record {
          reach = omega (arith, W.reach, P.next);
          dry = λ y. W.dry y ∙ P.left ∙ put_dry p.write p.lent p.at (32 ∷ []) y;
          right = λ w u. same_bytes _ _ _ _ w _ _ (sym (u.bytes ∙ ap (aside_text in_front) u.names.named)) (go u.sheet u.packs u.visit u.names.program u.names.is);
        }
      where
        go : (a : Sheet) (z : Packs s a) (v : Visit) (m : Option Program) → FieldIs z.programs.programs v field m → PutAs p.write p.lent p.at (aside_text in_front (option_named a m)) d₂ n₂
        go a z v none (no_program k) = absurd (n k)
        go a z v (some q) f = rw e (put_then _ _ _ _ _ _ _ _ _ P (W.right (program_text (program_named a q)) (due s l L a z field v q n f)))
