-- Laws of the numbers 1 to 7: one sheet has one, and number 4 keeps every run of nodes inside the sheet's nodes.
-- Assumes nothing.
use mathlib.Core.Path.{◌≡◌, refl, sym, ◌∙◌}
use mathlib.Core.List.{List}
use Prim.Native.Nat.{ℕ, zero, suc, ◌+◌, ◌-◌, ◌≤◌}
use native.Mathlib.Nat.{add-zero, add-suc}
use native.Mathlib.Omega.{arith}
use Rattle.layout.specs.Layout.{production_count, Size, Sections}
use Rattle.layout.specs.Records.{nodes_before}
use Rattle.trees.specs.Trees.{Trees}
use Rattle.trees.specs.Parsed.{RunsInside}
use Rattle.sheet.specs.Tags.{Tags}
use Rattle.sheet.specs.Productions.{Productions}
use Rattle.sheet.specs.Fields.{Programs}
use Rattle.sheet.specs.Grounded.{Grounded}
use Rattle.sheet.specs.Defect.{WellFormed, DefectIs, well_formed_lem, its_size, its_sections, a_tag, a_production, a_tree, a_program, not_grounded}

-- later productions only add nodes
nodes_rise : (s : List ℕ) (q n : ℕ) → nodes_before s q ≤ nodes_before s (q + n)
nodes_rise s q zero = rw (add-zero q) (omega arith)
nodes_rise s q (suc n) = rw (add-suc q n) (omega (arith, nodes_rise s q n))

pub runs_inside : (s : List ℕ) → Productions s → RunsInside s
runs_inside s p =
    record {
      inside = λ q h.
          let more = production_count s - suc q in
          let e : suc q + more ≡ production_count s = omega arith in
          let r : nodes_before s (suc q) ≤ nodes_before s (production_count s) = rw e at (nodes_rise s (suc q) more) in
          omega (arith, r, (p.each q h).follows, p.every_node);
    }

-- a test that is not kept settles the number; one that is kept leaves it to the rest
data Step (P : Type 0) (k n : ℕ) (Rest : Type 0) : Type 0 where
  stops : (P → ⊥) → n ≡ k → Step P k n Rest
  goes_on : P → Rest → Step P k n Rest

one_step : {P R Q : Type 0} {k m n : ℕ} → Step P k m R → Step P k n Q → (R → Q → m ≡ n) → m ≡ n
one_step (stops a e) (stops b f) g = e ∙ sym f
one_step (stops a e) (goes_on p q) g = absurd (a p)
one_step (goes_on p r) (stops a e) g = absurd (a p)
one_step (goes_on p r) (goes_on p' q) g = g r q

abbrev Steps : List ℕ → ℕ → Type 0
Steps s n =
    Step (Size s) 1 n (Step (Sections s) 2 n (Step (Tags s) 3 n (Step (Productions s) 4 n (Step (Trees s) 5 n (Step (Programs s) 6 n (Step (Grounded s) 7 n (n ≡ 0)))))))

steps : {s : List ℕ} {n : ℕ} → DefectIs s n → Steps s n
steps (well_formed_lem w) =
    goes_on w.size (goes_on w.sections (goes_on w.tags (goes_on w.productions (goes_on w.trees (goes_on w.programs (goes_on w.grounded refl))))))
steps (its_size a) = stops a refl
steps (its_sections z a) = goes_on z (stops a refl)
steps (a_tag z p a) = goes_on z (goes_on p (stops a refl))
steps (a_production z p t a) = goes_on z (goes_on p (goes_on t (stops a refl)))
steps (a_tree z p t q a) = goes_on z (goes_on p (goes_on t (goes_on q (stops a refl))))
steps (a_program z p t q r a) = goes_on z (goes_on p (goes_on t (goes_on q (goes_on r (stops a refl)))))
steps (not_grounded z p t q r g a) = goes_on z (goes_on p (goes_on t (goes_on q (goes_on r (goes_on g (stops a refl))))))

pub one_defect : {s : List ℕ} {m n : ℕ} → DefectIs s m → DefectIs s n → m ≡ n
one_defect d e =
    one_step (steps d) (steps e)
    (λ d e. one_step d e (λ d e. one_step d e (λ d e. one_step d e (λ d e. one_step d e (λ d e. one_step d e (λ d e. one_step d e (λ x y. x ∙ sym y)))))))

-- the number 0 says that the sheet is well-formed
pub no_defect : {s : List ℕ} {n : ℕ} → DefectIs s n → n ≡ 0 → WellFormed s
no_defect (well_formed_lem w) e = w
no_defect (its_size a) e = absurd (omega arith)
no_defect (its_sections z a) e = absurd (omega arith)
no_defect (a_tag z p a) e = absurd (omega arith)
no_defect (a_production z p t a) e = absurd (omega arith)
no_defect (a_tree z p t q a) e = absurd (omega arith)
no_defect (a_program z p t q r a) e = absurd (omega arith)
no_defect (not_grounded z p t q r g a) e = absurd (omega arith)
