-- The text has ended: the sheet, or a number. Assumes nothing.
use Rattle.std.specs.Prelude.{Some, None}
use Rattle.std.proofs.lemmas.Option.{none-some, same_Some}
use mathlib.Core.Path.{◌≡◌, refl, sym, ◌∙◌, ap, subst}
use mathlib.Core.Bool.{Bool, true, false}
use mathlib.Core.Option.{some}
use mathlib.Core.List.{List, [], ◌∷◌}
use Prim.Native.Nat.{ℕ, ◌*◌}
use native.Mathlib.Omega.{arith}
use lib.ListN.{length, take}
use Rattle.encoding.specs.Distinct.{distinct}
use Rattle.stores.specs.Rows.{RowsIn}
use Rattle.binding.specs.Bound.{TagRows, SectionsFit}
use Rattle.sealing.specs.declared.Outcome.{Outcome}
use Rattle.sealing.specs.Sealed.{SealedIs}
use Rattle.models.specs.Models.{Declaration}
use Rattle.models.specs.Family.{Family, Holdable}
use Rattle.models.specs.Answers.{declares, ReadModels, declared}
use Rattle.models.specs.Reader.{outside, within, value_of_dtd}
use Rattle.models.specs.Sheets.{declared_names}
use Rattle.judging.specs.Standing.{StandsBehind}
use Rattle.judging.proofs.Refused.{unfinished, all_declared}
use Rattle.judging.proofs.Much.{too_much_in_all}
use Rattle.declaring.specs.Sections.{declared_productions, declared_nodes}
use Rattle.declaring.specs.Declares.{DeclaredAs, refused}
use Rattle.declaring.proofs.Typed.{few_added, as_many_names}
use Rattle.declaring.proofs.Answers.{tags_can_be_sealed, sections_can_be_sealed, seals_declarations}
use Rattle.entries.specs.Entries.{DeclarationsHeld}
use Rattle.dockets.specs.Kept.{DeclarationsKept, within_bounds, passed_bounds}
use Rattle.scans.specs.declared.Scan.{Scan}
use Rattle.scans.specs.Scans.{ReadUpTo}
use Rattle.scans.proofs.Declaration.{amid_of}
use Rattle.scans.proofs.Gaps.{BetweenAt, between_of}

value_of : (ds : List Declaration) → (ds ≡ [] → ⊥) → value_of_dtd (outside ds) ≡ some ds
value_of [] h = absurd (h refl)
value_of (d ∷ ds) h = refl

family_of : (text : List ℕ) (ds : List Declaration) → ReadModels text (declares ds) → Family text ds
family_of text ds (declared f h) = f

module _ (text area : List ℕ) (s : Scan) (nb ne tb te productions nodes : List ℕ) (h : ReadUpTo text (length text) s nb ne tb te productions nodes) where
  pub settled_amid : s.out ≡ false → DeclaredAs text area 55 (length text) area
  settled_amid o = let a = amid_of text (length text) s nb ne tb te productions nodes o h in refused (unfinished text (within a.ds a.q) a.stands refl)

  module _ (o : s.out ≡ true) where
    there : BetweenAt text (length text) s nb ne tb te productions nodes
    there = between_of text (length text) s nb ne tb te productions nodes o h

    pub settled_passed : (byte : ℕ) → s.docket.passed ≡ Some byte → DeclaredAs text area 56 byte area
    settled_passed byte p = on there.kept
      where
        on : DeclarationsKept text there.ds s.docket productions nodes → DeclaredAs text area 56 byte area
        on (within_bounds e g k) = absurd (none-some byte (sym e ∙ p))
        on (passed_bounds b e g k) = subst (λ (j : ℕ). DeclaredAs text area 56 j area) (same_Some b byte (sym e ∙ p)) (refused (too_much_in_all text b (outside there.ds) there.ds g there.stands (value_of there.ds k)))

    module _ (p : s.docket.passed ≡ None) where
      bounds : Holdable there.ds × DeclarationsHeld there.ds s.docket.tally productions nodes
      bounds = on there.kept
        where
          on : DeclarationsKept text there.ds s.docket productions nodes → Holdable there.ds × DeclarationsHeld there.ds s.docket.tally productions nodes
          on (within_bounds e g k) = (g, k)
          on (passed_bounds b e g k) = absurd (none-some b (sym p ∙ e))

      pub settled_none : s.docket.tally.productions ≡ 0 → DeclaredAs text area 55 (length text) area
      settled_none n = on there.ds there.stands bounds.1.count_is
        where
          on : (ds : List Declaration) → StandsBehind text (length text) (outside ds) → s.docket.tally.productions ≡ length ds → DeclaredAs text area 55 (length text) area
          on [] st c = refused (unfinished text (outside []) st refl)
          on (d ∷ ds) st c = absurd (omega (arith, c, n))

      module _ (n : s.docket.tally.productions ≡ 0 → ⊥) where
        some_declared : there.ds ≡ [] → ⊥
        some_declared e = n (bounds.1.count_is ∙ ap length e)

        read : ReadModels text (declares there.ds)
        read = all_declared text (outside there.ds) there.ds there.stands (value_of there.ds some_declared) bounds.0

        not_full : (t : Bool) → s.docket.tags.full ≡ t → s.docket.tags.full ≡ false
        not_full false e = e
        not_full true e =
            absurd (let m = there.held.tags_are.too_many e in omega (arith, m, few_added [] (declared_names there.ds), as_many_names there.ds, bounds.0.few_declarations))

        tags_held : RowsIn tb te s.docket.tags.count (distinct (declared_names there.ds))
        tags_held = subst (λ (l : List (List ℕ)). RowsIn tb te s.docket.tags.count l) (there.held.tags_are.all_held (not_full s.docket.tags.full refl)) there.held.tags_are.held

        pub can_seal_tags : TagRows tb te s.docket.tags.count
        can_seal_tags = tags_can_be_sealed text tb te s.docket.tags.count there.ds (family_of text there.ds read) bounds.0 tags_held

        abbrev first_productions : List ℕ
        first_productions = take (12 * s.docket.tally.productions) productions

        abbrev first_nodes : List ℕ
        first_nodes = take (6 * s.docket.tally.nodes) nodes

        pub can_seal_sections : SectionsFit first_productions first_nodes [] [] 0
        can_seal_sections =
            subst (λ (x : List ℕ). SectionsFit x first_nodes [] [] 0) (sym bounds.1.productions_held)
            (subst (λ (x : List ℕ). SectionsFit (declared_productions there.ds) x [] [] 0) (sym bounds.1.nodes_held) (sections_can_be_sealed there.ds bounds.0))

        pub settled_sealed : (after : List ℕ) (o : Outcome) → SealedIs tb te s.docket.tags.count first_productions first_nodes [] [] 0 area after o → DeclaredAs text area o.number o.count after
        settled_sealed after o z =
            seals_declarations text area after tb te s.docket.tags.count there.ds o read tags_held
            (subst (λ (x : List ℕ). SealedIs tb te s.docket.tags.count x (declared_nodes there.ds) [] [] 0 area after o) bounds.1.productions_held
            (subst (λ (x : List ℕ). SealedIs tb te s.docket.tags.count first_productions x [] [] 0 area after o) bounds.1.nodes_held z))
