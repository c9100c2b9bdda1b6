-- Number 5: an expression 12 deep passes, and one 13 deep does not. Stars one in another are as deep as they are many.
-- Assumes nothing.
use mathlib.Core.Path.{◌≡◌, refl}
use mathlib.Core.List.{List, []}
use Prim.Native.Nat.{ℕ, zero, suc, ◌<◌}
use native.Mathlib.Omega.{arith}
use Rattle.expressions.specs.Expr.{Exp, atom, nonterminal, anychar, cat, alt, star, empty, depth, Content, nothing, tree}
use Rattle.layout.specs.Records.{kind_of}
use Rattle.trees.specs.Trees.{TreeAt, ContentAt}
use Rattle.sheet.specs.Defect.{DefectIs, well_formed_lem, a_tree}
use Rattle.sheet.specs.Productions.{Productions}
use Rattle.runs.specs.Visits.{no_programs_lem}
use Rattle.runs.specs.Examples.{child_of}
use Rattle.worked.proofs.Laid.{its_size, its_sections, other}
use Rattle.edges.specs.Edges.{deep}
use Rattle.edges.proofs.OneRule.{only, no_fields, one_tag, one_production}

-- each number below n has it
abbrev UpTo : ℕ → (ℕ → Type 0) → Type 0
UpTo zero P = Unit {0}
UpTo (suc n) P = P 0 × UpTo n (λ i. P (suc i))

each_below : (n : ℕ) (P : ℕ → Type 0) → UpTo n P → (i : ℕ) → i < n → P i
each_below zero P h i l = absurd (omega (arith, l))
each_below (suc n) P h zero l = h.0
each_below (suc n) P h (suc i) l = each_below n (λ j. P (suc j)) h.1 i (omega (arith, l))

-- n stars, one in another, over e
abbrev stars : ℕ → Exp → Exp
stars zero e = e
stars (suc n) e = star (stars n e)

-- the n nodes from i on are stars
abbrev AllStars : ℕ → List ℕ → ℕ → Type 0
AllStars zero s i = Unit {0}
AllStars (suc n) s i = (kind_of s i ≡ 5) × AllStars n s (suc i)

some_depth : (e : Exp) → 0 < depth e
some_depth (atom k) = omega arith
some_depth (cat l r) = omega arith
some_depth (alt l r) = omega arith
some_depth (star e) = omega arith
some_depth empty = omega arith

as_deep : (n : ℕ) (s : List ℕ) (i : ℕ) (e : Exp) → AllStars n s i → TreeAt s i e → n < depth e
as_deep zero s i e h t = some_depth e
as_deep (suc n) s i (atom (nonterminal k)) h t = absurd (omega (arith, h.0, t.0))
as_deep (suc n) s i (atom anychar) h t = absurd (omega (arith, h.0, t.0))
as_deep (suc n) s i (cat l r) h t = absurd (omega (arith, h.0, t.0))
as_deep (suc n) s i (alt l r) h t = absurd (omega (arith, h.0, t.0))
as_deep (suc n) s i (star e) h t = omega (arith, as_deep n s (suc i) e h.1 t.2)
as_deep (suc n) s i empty h t = absurd (omega (arith, h.0, t.0))

no_content : (e : Content) → ContentAt (deep 13) 0 e → ⊥
no_content nothing h = omega (arith, h)
no_content (tree e) h =
    omega (arith, as_deep 12 (deep 13) 0 e (refl, (refl, (refl, (refl, (refl, (refl, (refl, (refl, (refl, (refl, (refl, (refl, tt)))))))))))) h.0, h.2)

deep_production : Productions (deep 12)
deep_production =
    one_production (deep 12) refl (record { nonterminal = omega arith; tag = omega arith; follows = refl; few_nodes = omega arith; zero_5 = refl; zero_10 = refl; zero_11 = refl }) refl (omega arith)

too_deep_production : Productions (deep 13)
too_deep_production =
    one_production (deep 13) refl (record { nonterminal = omega arith; tag = omega arith; follows = refl; few_nodes = omega arith; zero_5 = refl; zero_10 = refl; zero_11 = refl }) refl (omega arith)

pub deepest_is : DefectIs (deep 12) 0
deepest_is =
    let s : List ℕ = deep 12 in
    well_formed_lem (record {
      size = its_size s refl;
      sections = its_sections s refl;
      tags = one_tag s refl refl;
      productions = deep_production;
      trees =
          record {
            each =
                only _
                (tree (stars 11 (child_of 0)), ((refl, refl, (refl, refl, (refl, refl, (refl, refl, (refl, refl, (refl, refl, (refl, refl, (refl, refl, (refl, refl, (refl, refl, (refl, refl, (refl, refl, omega arith)))))))))))), refl, omega arith));
          };
      programs =
          record {
            programs = [];
            fill = record { programs = tt; filled = refl };
            of_productions = only _ (no_programs_lem, no_fields);
            of_nodes =
                each_below 12 _ ((no_programs_lem, no_fields), ((no_programs_lem, no_fields), ((no_programs_lem, no_fields), ((no_programs_lem, no_fields), ((no_programs_lem, no_fields), ((no_programs_lem, no_fields), ((no_programs_lem, no_fields), ((no_programs_lem, no_fields), ((no_programs_lem, no_fields), ((no_programs_lem, no_fields), ((no_programs_lem, no_fields), ((no_programs_lem, no_fields), tt))))))))))));
          };
      grounded =
          record {
            start_has = record { number = 0; there = omega arith; its = refl };
            atoms_have =
                each_below 12 _ ((λ e. other (omega arith) e), ((λ e. other (omega arith) e), ((λ e. other (omega arith) e), ((λ e. other (omega arith) e), ((λ e. other (omega arith) e), ((λ e. other (omega arith) e), ((λ e. other (omega arith) e), ((λ e. other (omega arith) e), ((λ e. other (omega arith) e), ((λ e. other (omega arith) e), ((λ e. other (omega arith) e), ((λ e. record { number = 0; there = omega arith; its = refl }), tt))))))))))));
          };
    })

pub too_deep : DefectIs (deep 13) 5
too_deep =
    let s : List ℕ = deep 13 in
    a_tree (its_size s refl) (its_sections s refl) (one_tag s refl refl) too_deep_production (λ t. let x = t.each 0 (omega arith) in no_content x.0 x.1)
