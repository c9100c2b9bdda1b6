-- Numbers 1 to 7: a length is compared; a tag that stands twice, and a production's tag that is none; sheets of one tag and one production are shown apart.
-- Assumes nothing.
use mathlib.Core.Path.{◌≡◌, refl, subst}
use mathlib.Core.Logic.{inl, inr}
use mathlib.Core.List.{List, [], ◌∷◌, ◌++◌}
use Prim.Native.Nat.{ℕ}
use native.Mathlib.Omega.{arith}
use lib.ListN.{drop}
use Rattle.expressions.specs.Expr.{nothing}
use Rattle.sheet.specs.Tags.{tag_record, TagAt}
use Rattle.sheet.specs.Defect.{DefectIs, well_formed_lem, a_tag, a_production}
use Rattle.sheet.specs.Sheet.{Sheet}
use Rattle.runs.specs.Visits.{no_programs_lem}
use Rattle.runs.specs.Examples.{Each, sheet_of, name_A}
use Rattle.worked.proofs.Laid.{its_size, its_sections, Laid, laid_is_sheet}
use Rattle.edges.specs.Edges.{name_B, one_production, no_such_tag, last_tag, of_sheets}
use Rattle.edges.proofs.Fits.{EdgeFits}
use Rattle.edges.proofs.Counted.{no_sections, blank_tag}
use Rattle.edges.proofs.OneRule.{letter_at, no_fields, no_node, empty_is, value_is, no_value, start_over, no_start, atom_grounded, atom_not_grounded}
use Rattle.edges.proofs.Deep.{deepest_is, too_deep}

-- two tags are a, whatever the production's tag is
module _ (t : ℕ) where
  abbrev twice : List ℕ
  twice = one_production (tag_record name_A ++ tag_record name_A) 2 t

  twice_named : DefectIs twice 3
  twice_named =
      a_tag (its_size twice refl) (its_sections twice refl)
      (λ h. let e : ◌≡◌ {A = ℕ} 0 1 = h.different 0 1 name_A (omega arith) (omega arith) (letter_at twice 0 97 refl refl) (letter_at twice 1 97 refl refl) in omega (arith, e))

-- production 0 has a tag that is none
tag_is_none : DefectIs no_such_tag 4
tag_is_none =
    a_production (its_size no_such_tag refl) (its_sections no_such_tag refl)
    (record {
      named = λ t h. let e : 0 ≡ t = omega (arith, h) in (name_A, subst (λ (u : ℕ). TagAt no_such_tag u name_A) e (letter_at no_such_tag 0 97 refl refl));
      different = λ t u n h k x y. omega (arith, h, k);
    })
    (λ p. let h = (p.each 0 (omega arith)).tag in omega (arith, h))

-- the last of two tags
abbrev of_b : Sheet
of_b = sheet_of (name_A ∷ name_B ∷ []) (record { production = record { nonterm = 0; tagno = 1; content = nothing }; own = no_programs_lem; of_nodes = [] } ∷ [])

laid : Laid last_tag of_b [] []
laid = record {
  sections = refl;
  tags = ((letter_at last_tag 0 97 refl refl, refl), ((letter_at last_tag 1 98 refl refl, refl), refl));
  rules = ((refl, record { production_is = record { nonterminal_is = refl; tag_is = refl; content_is = refl }; own_are = no_fields; nodes_are = refl }), refl);
  nodes = refl;
  every_node = refl;
  fill = record { programs = tt; filled = refl };
  start_has = record { number = 0; there = omega arith; its = refl };
  start_fits = omega arith;
  strings_are = refl;
  start_is = refl;
}

last_tag_is : DefectIs last_tag 0
last_tag_is = well_formed_lem (laid_is_sheet last_tag of_b [] [] laid).well_formed_lem

-- the rows from 5 on
more_fit : Each EdgeFits (drop 17 of_sheets)
more_fit = (
  empty_is,
  (
    no_node _ _ (λ e. omega (arith, e)) (λ c l m e. omega (arith, m, e)),
    (
      no_node _ _ (λ e. omega arith) (λ c l m e. omega (arith, l, e)),
      (
        deepest_is,
        (
          too_deep,
          (
            value_is _ (omega arith),
            (
              no_value _ (omega arith),
              (no_start _ (omega arith) (omega arith), (no_start _ (omega arith) (omega arith), (atom_grounded, (atom_not_grounded _ (omega arith) (omega arith), (atom_not_grounded _ (omega arith) (omega arith), (twice_named 2, tt)))))),
            ),
          ),
        ),
      ),
    ),
  ),
)

-- the rows of 2 to 4
few_fit : Each EdgeFits (drop 4 of_sheets)
few_fit = (
  no_sections _ refl refl (λ h. omega (arith, h.marked)),
  (
    no_sections _ refl refl (λ h. omega (arith, h.trailer_at)),
    (
      no_sections _ refl refl (λ h. omega (arith, h.some_tags)),
      (
        no_sections _ refl refl (λ h. omega (arith, h.few_tags)),
        (
          no_sections _ refl refl (λ h. omega (arith, h.some_productions)),
          (
            no_sections _ refl refl (λ h. omega (arith, h.few_productions)),
            (
              no_sections _ refl refl (λ h. omega (arith, h.few_nodes)),
              (
                blank_tag _ (its_size _ refl) (its_sections _ refl) refl,
                (blank_tag _ (its_size _ refl) (its_sections _ refl) refl, (twice_named 0, (tag_is_none, (last_tag_is, (start_over _ (omega arith), more_fit))))),
              ),
            ),
          ),
        ),
      ),
    ),
  ),
)

pub sheets_fit : Each EdgeFits of_sheets
sheets_fit = ((inl (omega arith), refl), ((omega arith, omega arith), ((omega arith, omega arith), ((inr (omega arith), refl), few_fit))))
