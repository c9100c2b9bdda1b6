-- From the walk over a production's tree to what is answered of a sheet's bytes; and any two answers are one.
-- Assumes nothing.
use mathlib.Core.Path.{◌≡◌, refl, sym, ◌∙◌, ap, subst}
use mathlib.Core.List.{List, []}
use Prim.Native.Nat.{ℕ, zero, suc, ◌≤◌, ◌<◌}
use native.Mathlib.Omega.{arith}
use lib.ListN.{length}
use Rattle.expressions.specs.Expr.{Content, nothing, tree, places}
use Rattle.expressions.specs.Grammar.{Production, Nth}
use Rattle.layout.specs.Layout.{production_count}
use Rattle.layout.specs.Records.{first_node_of}
use Rattle.sheet.specs.Defect.{well_formed_lem, DefectIs}
use Rattle.sheet.specs.Sheet.{Sheet, grammar_of, IsSheet}
use Rattle.sheet.proofs.DefectLaws.{one_defect}
use Rattle.sheet.proofs.SheetLaws.{sheet_grammar}
use Rattle.trees.specs.Trees.{TreeAt, ContentAt}
use Rattle.trees.specs.Answers.{AtomsIs}
use Rattle.trees.proofs.Unique.{one_production}
use Rattle.trees.proofs.Grammars.{nth_is, nth_there, nth_below}
use Rattle.ways.specs.declared.Spot.{Spot}
use Rattle.shortest.specs.declared.Row.{Row}
use Rattle.shortest.specs.Rows.{shortest_to}
use Rattle.shortest.specs.Held.{RowIs}
use Rattle.shortest.specs.Walks.{AtomBehind}
use Rattle.shortest.specs.Answers.{PlaceOf, ShortestAs, a_place, no_place}
use Rattle.shortest.specs.Promises.{OneRow}
use Rattle.shortest.proofs.Least.{shortest_leads}

-- the row of a place, from what the code holds
place_row : (s : List ℕ) (q p : ℕ) (r : Row) (d : Production) → PlaceOf s q p d → RowIs (shortest_to d.content p) r → ShortestAs s q p r
place_row s q p r d h row = a_place d h (shortest_leads d.content p h.place) row

-- the start of an expression is reached with no atom
no_atom : (e : Content) → shortest_to e 0 ≡ []
no_atom nothing = refl
no_atom (tree e) = refl

some_place : (e : Content) → 0 < places e
some_place e = omega arith

module _ {s : List ℕ} (q p : ℕ) (r : Row) where
  pub no_sheet : {n : ℕ} → 1 ≤ n → DefectIs s n → RowIs [] r → ShortestAs s q p r
  no_sheet some d row = no_place (λ _ h. let e = one_defect d (well_formed_lem h.is_sheet.well_formed_lem) in omega (arith, some, e)) row

  module _ {a : Sheet} (i : IsSheet s a) where
    pub no_production : production_count s ≤ q → RowIs [] r → ShortestAs s q p r
    no_production n row = no_place (λ d h. let b = nth_below s (grammar_of h.sheet.rules) (sheet_grammar h.is_sheet) q d h.production in omega (arith, n, b)) row

    module _ (below : q < production_count s) where
      its : (d : Production) × Nth (grammar_of a.rules) q d
      its = nth_there s (grammar_of a.rules) (sheet_grammar i) q below

      its_content : ContentAt s q its.0.content
      its_content = (nth_is s (grammar_of a.rules) (sheet_grammar i) q its.0 its.1).content_is

      place_here : p < places its.0.content → PlaceOf s q p its.0
      place_here h = record { sheet = a; is_sheet = i; production = its.1; place = h }

      pub at_start : p ≡ 0 → RowIs [] r → ShortestAs s q p r
      at_start z row =
          place_row s q p r its.0 (place_here (omega (arith, z)))
          (subst (λ (l : List ℕ). RowIs l r) (sym (ap (shortest_to its.0.content) z ∙ no_atom its.0.content)) row)

      module _ (n : ℕ) (atoms_are : AtomsIs s q n) where
        counted : (d : Production) → PlaceOf s q p d → p ≤ n
        counted d h =
            omega (arith, h.place, atoms_are.is (grammar_of h.sheet.rules) (sheet_grammar h.is_sheet) d h.production)

        pub past_last : n < p → RowIs [] r → ShortestAs s q p r
        past_last less row = no_place (λ d h. omega (arith, less, counted d h)) row

        pub at_atom : (p ≡ 0 → ⊥) → p ≤ n → (w : Row) → RowIs [] w → (t : Spot) → t.node ≡ first_node_of s q → t.bracket ≡ 1 → t.atom ≡ 1 → AtomBehind s t p w r →
            ShortestAs s q p r
        at_atom some few w row t node_is bracket_1 atom_1 f =
            place_row s q p r its.0 (place_here (omega (arith, few, atoms_are.is (grammar_of a.rules) (sheet_grammar i) its.0 its.1)))
            (go p some its.0.content its_content few f)
          where
            go : (p : ℕ) → (p ≡ 0 → ⊥) → (e : Content) → ContentAt s q e → p ≤ n → AtomBehind s t p w r → RowIs (shortest_to e p) r
            go zero some e c few f = absurd (some refl)
            go (suc p) some nothing c few f = absurd (omega (arith, few, c, atoms_are.few))
            go (suc p) some (tree e) c few f =
                f.is e 1 1 (record { stands = subst (λ (z : ℕ). TreeAt s z e) (sym node_is) c.0; bracket_is = bracket_1; atom_is = atom_1 }) [] row

-- a row is held in one way
one_held : (row : List ℕ) (r r' : Row) → RowIs row r → RowIs row r' → r ≡ r'
one_held row r r' h k =
    let n : r.length ≡ r'.length = h.length_is ∙ sym k.length_is in
    let b : r.bytes ≡ r'.bytes = h.bytes_are ∙ sym k.bytes_are in
    let w : record { length = r.length; bytes = r.bytes } ≡ r' = rw (n, b) refl in
    w

one_place : {s : List ℕ} (q p : ℕ) (d d' : Production) → PlaceOf s q p d → PlaceOf s q p d' → d ≡ d'
one_place {s} q p d d' h k =
    one_production s q d d' (nth_is s (grammar_of h.sheet.rules) (sheet_grammar h.is_sheet) q d h.production) (nth_is s (grammar_of k.sheet.rules) (sheet_grammar k.is_sheet) q d' k.production)

pub one_row : OneRow
one_row s q p r r' (a_place d h x row) (a_place d' h' x' row') =
    one_held (shortest_to d.content p) r r' row
    (subst (λ (z : Production). RowIs (shortest_to z.content p) r') (sym (one_place q p d d' h h')) row')
one_row s q p r r' (a_place d h x row) (no_place n row') = absurd (n d h)
one_row s q p r r' (no_place n row) (a_place d h x row') = absurd (n d h)
one_row s q p r r' (no_place n row) (no_place n' row') = one_held [] r r' row row'
