-- A declaration that is over is kept, or is too much. Assumes nothing.
use Rattle.std.specs.Prelude.{Some, None, is_some}
use mathlib.Core.Path.{◌≡◌, refl, sym, ◌∙◌, ap, subst}
use mathlib.Core.Logic.{◌⊎◌, inl, inr}
use mathlib.Core.Bool.{Bool, true, false, ◌||◌, true≢false}
use mathlib.Core.List.{List, [], ◌∷◌, ◌++◌}
use Prim.Native.Nat.{ℕ, ◌+◌, ◌/◌, ◌≤◌, ◌<◌}
use native.Mathlib.Omega.{arith}
use lib.Dec.{ltb, leb}
use lib.ListN.{length, length-append}
use borrow.Author.Tests.{ltb-true, leb-true, ltb-false, leb-false}
use Rattle.limits.specs.Limits.{most_productions, most_nodes}
use Rattle.encoding.specs.Distinct.{distinct, place_of}
use Rattle.models.specs.Models.{Declaration}
use Rattle.models.specs.Expressions.{spec_content, spec_nodes}
use Rattle.models.specs.Family.{mentioned, nodes_together, Holdable}
use Rattle.models.specs.Answers.{TooMuchAt}
use Rattle.models.specs.Sheets.{declared_names}
use Rattle.declarations.specs.declared.NodeRow.{NodeRow}
use Rattle.declarations.specs.Nodes.{content_preorder, LaysNodes}
use Rattle.declaring.proofs.Sections.{one_declaration_more}
use Rattle.declaring.proofs.Typed.{few_added, as_many_names}
use Rattle.rosters.proofs.Enrols.{rows_few}
use Rattle.entries.specs.declared.Tally.{Tally}
use Rattle.entries.specs.Entries.{SectionRoom, DeclarationsHeld, EntryOf, EntryFits, EnteredIs}
use Rattle.entries.proofs.Entered.{laid_count}
use Rattle.dockets.specs.declared.Docket.{Docket}
use Rattle.dockets.specs.Kept.{DeclarationsKept, within_bounds, passed_bounds}
use Rattle.dockets.specs.Concluded.{crowded_by, Concluding, ConcludesWith, ConcludedIs}

abbrev Names : Type 0
Names = List (List ℕ)

neither : (a b : Bool) → a || b ≡ false → (a ≡ false) × (b ≡ false)
neither true b e = absurd (true≢false e)
neither false b e = (refl, e)

either : (a b : Bool) → a || b ≡ true → (a ≡ true) ⊎ (b ≡ true)
either true b e = inl refl
either false b e = inr e

not_empty : (ds : List Declaration) (d : Declaration) → ds ++ d ∷ [] ≡ [] → ⊥
not_empty ds d e = omega (arith, simp length-append at (ap length e))

not_both : {A : Type 0} {b : Bool} → b ≡ true → b ≡ false → A
not_both e f = absurd (true≢false (sym e ∙ f))

-- what an answer of no says
record Uncrowded (k : Docket) (long : ℕ) : Type 0 where
  names_left : k.names.full ≡ false
  tags_left : k.tags.full ≡ false
  productions_left : k.tally.productions < most_productions
  nodes_left : k.tally.nodes + long / 2 ≤ most_nodes

uncrowded : (k : Docket) (long : ℕ) → crowded_by k long ≡ false → Uncrowded k long
uncrowded k long e =
    let a = neither k.names.full _ e in
    let b = neither k.tags.full _ a.1 in
    let c = neither (leb most_productions k.tally.productions) _ b.1 in
    record { names_left = a.0; tags_left = b.0; productions_left = leb-false _ _ c.0; nodes_left = ltb-false _ _ c.1 }

module _ (k : Docket) (at : ℕ) (row : NodeRow) (productions nodes : List ℕ) (h : Concluding k row.length) where
  pub concluded_passed : is_some k.passed ≡ true → ConcludedIs k at row productions nodes productions nodes k
  concluded_passed y = record {
    same_names = refl;
    same_tags = refl;
    small = h.small;
    long_productions = refl;
    long_nodes = refl;
    is = λ text ds d nb ne tb te rows tag_rows room c t kept. on text ds d kept;
  }
    where
      on : (text : List ℕ) (ds : List Declaration) (d : Declaration) → DeclarationsKept text ds k productions nodes → DeclarationsKept text (ds ++ d ∷ []) k productions nodes
      on text ds d (within_bounds f i g) = not_both y (ap is_some f)
      on text ds d (passed_bounds byte f m e) = passed_bounds byte f m (not_empty ds d)

  -- the declarations with this one are too many, or their names, or their nodes
  module _ (ds : List Declaration) (d : Declaration) (nb ne tb te : List ℕ) (rows tag_rows : Names) (c : ConcludesWith ds d k row nb ne tb te rows tag_rows) (g : DeclarationsHeld ds k.tally productions nodes) where
    count_is : row.length / 2 ≡ spec_nodes d.content
    count_is = let z = laid_count (place_of rows) d.content row c.laid in omega (arith, z)

    all_nodes : nodes_together (ds ++ d ∷ []) ≡ k.tally.nodes + row.length / 2
    all_nodes = omega (arith, (one_declaration_more ds d).count, count_is, g.nodes_are)

    all_long : length (ds ++ d ∷ []) ≡ k.tally.productions + 1
    all_long = omega (arith, length-append ds (d ∷ []), g.count_is)

    few_tags : length (distinct (declared_names (ds ++ d ∷ []))) ≤ length (ds ++ d ∷ [])
    few_tags = omega (arith, few_added [] (declared_names (ds ++ d ∷ [])), as_many_names (ds ++ d ∷ []))

    too_much : crowded_by k row.length ≡ true → Holdable (ds ++ d ∷ []) → ⊥
    too_much e a = by_names (either k.names.full _ e)
      where
        by_nodes : (leb most_productions k.tally.productions ≡ true) ⊎ (ltb most_nodes (k.tally.nodes + row.length / 2) ≡ true) → ⊥
        by_nodes (inl f) = let z : most_productions ≤ k.tally.productions = leb-true _ _ f in omega (arith, all_long, a.few_declarations)
        by_nodes (inr f) = let z : most_nodes < k.tally.nodes + row.length / 2 = ltb-true _ _ f in omega (arith, all_nodes, a.few_nodes)

        by_tags : (k.tags.full ≡ true) ⊎ (leb most_productions k.tally.productions || ltb most_nodes (k.tally.nodes + row.length / 2) ≡ true) → ⊥
        by_tags (inl f) = let z = c.held.tags_are.too_many f in omega (arith, few_tags, a.few_declarations)
        by_tags (inr f) = by_nodes (either (leb most_productions k.tally.productions) _ f)

        by_names : (k.names.full ≡ true) ⊎ (k.tags.full || (leb most_productions k.tally.productions || ltb most_nodes (k.tally.nodes + row.length / 2)) ≡ true) → ⊥
        by_names (inl f) = let z = c.held.names_are.too_many f in omega (arith, a.few_names)
        by_names (inr f) = by_tags (either k.tags.full _ f)

    module _ (u : Uncrowded k row.length) where
      all_named : rows ≡ distinct (mentioned (ds ++ d ∷ []))
      all_named = c.held.names_are.all_held u.names_left

      all_tagged : tag_rows ≡ distinct (declared_names (ds ++ d ∷ []))
      all_tagged = c.held.tags_are.all_held u.tags_left

      holdable : Holdable (ds ++ d ∷ [])
      holdable = record {
        few_declarations = omega (arith, all_long, u.productions_left);
        few_names = omega (arith, ap length all_named, rows_few nb ne k.names.count rows c.held.names_are.held, c.held.names_are.sized.places);
        few_nodes = omega (arith, all_nodes, u.nodes_left);
      }

      entry : EntryOf ds d k.element k.tags.number row
      entry = record {
        number_is = c.element.number_is d.declared refl ∙ ap (λ (l : Names). place_of l d.declared) all_named;
        tag_is = c.element.tag_is d.declared refl ∙ ap (λ (l : Names). place_of l d.declared) all_tagged;
        laid = subst (λ (l : Names). LaysNodes (content_preorder (spec_content (place_of l) d.content)) row) all_named c.laid;
      }

  pub concluded_crowded : (b : Bool) → is_some k.passed ≡ false → b ≡ crowded_by k row.length → b ≡ true
      → ConcludedIs k at row productions nodes productions nodes (record { names = k.names; tags = k.tags; element = k.element; tally = k.tally; passed = Some at })
  concluded_crowded b y e f = record {
    same_names = refl;
    same_tags = refl;
    small = record { number_small = h.small.number_small; element_small = h.small.element_small; tag_small = h.small.tag_small; few_productions = h.small.few_productions; few_nodes = h.small.few_nodes };
    long_productions = refl;
    long_nodes = refl;
    is = λ text ds d nb ne tb te rows tag_rows room c t kept. on text ds d nb ne tb te rows tag_rows c t kept;
  }
    where
      on : (text : List ℕ) (ds : List Declaration) (d : Declaration) (nb ne tb te : List ℕ) (rows tag_rows : Names) → ConcludesWith ds d k row nb ne tb te rows tag_rows
          → (Holdable ds → (Holdable (ds ++ d ∷ []) → ⊥) → TooMuchAt text at) → DeclarationsKept text ds k productions nodes
          → DeclarationsKept text (ds ++ d ∷ []) (record { names = k.names; tags = k.tags; element = k.element; tally = k.tally; passed = Some at }) productions nodes
      on text ds d nb ne tb te rows tag_rows c t (within_bounds z i g) = passed_bounds at refl (t i (too_much ds d nb ne tb te rows tag_rows c g (sym e ∙ f))) (not_empty ds d)
      on text ds d nb ne tb te rows tag_rows c t (passed_bounds byte z m n) = not_both (ap is_some z) y

  pub concluded_entered : (b : Bool) (productions' nodes' : List ℕ) (more : Tally) → is_some k.passed ≡ false → b ≡ crowded_by k row.length → b ≡ false
      → EnteredIs k.tally k.element k.tags.number row productions nodes productions' nodes' more
      → ConcludedIs k at row productions nodes productions' nodes' (record { names = k.names; tags = k.tags; element = k.element; tally = more; passed = None })
  concluded_entered b productions' nodes' more y e f i =
      let u = uncrowded k row.length (sym e ∙ f) in
      record {
        same_names = refl;
        same_tags = refl;
        small = record { number_small = h.small.number_small; element_small = h.small.element_small; tag_small = h.small.tag_small; few_productions = omega (arith, i.one_more, u.productions_left); few_nodes = omega (arith, i.more_nodes, u.nodes_left) };
        long_productions = i.long_productions;
        long_nodes = i.long_nodes;
        is = λ text ds d nb ne tb te rows tag_rows room c t kept. on text ds d nb ne tb te rows tag_rows room c kept;
      }
    where
      on : (text : List ℕ) (ds : List Declaration) (d : Declaration) (nb ne tb te : List ℕ) (rows tag_rows : Names) → SectionRoom productions nodes → ConcludesWith ds d k row nb ne tb te rows tag_rows
          → DeclarationsKept text ds k productions nodes
          → DeclarationsKept text (ds ++ d ∷ []) (record { names = k.names; tags = k.tags; element = k.element; tally = more; passed = None }) productions' nodes'
      on text ds d nb ne tb te rows tag_rows room c (within_bounds z j g) =
          let u = uncrowded k row.length (sym e ∙ f) in
          let a = holdable ds d nb ne tb te rows tag_rows c g u in
          within_bounds refl a (i.is ds d room a (entry ds d nb ne tb te rows tag_rows c g u) g)
      on text ds d nb ne tb te rows tag_rows room c (passed_bounds byte z m n) = not_both (ap is_some z) y

  pub entry_allowed : EntryFits k.tally k.element k.tags.number row
  entry_allowed = record {
    few_productions = h.small.few_productions;
    few_nodes = h.small.few_nodes;
    element_small = h.small.element_small;
    tag_small = h.small.tag_small;
    row_short = h.short;
  }
