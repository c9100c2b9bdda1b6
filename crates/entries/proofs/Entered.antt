-- The records of one declaration more are behind those before. Assumes nothing.
use mathlib.Core.Path.{◌≡◌, refl, sym, ◌∙◌, ap, ap₂}
use mathlib.Core.Bool.{true}
use mathlib.Core.List.{List, [], ◌∷◌, ◌++◌}
use Prim.Native.Nat.{ℕ, ◌+◌, ◌*◌, ◌/◌, ◌≤◌}
use native.Mathlib.Omega.{arith}
use lib.ListN.{length, take, drop, length-append}
use lib.Seq.{take_at, length-take-le}
use Rattle.lent.specs.Put.{PutAs}
use Rattle.lent.proofs.Laws.{put_all, put_length}
use Rattle.expressions.specs.Expr.{Content, nothing, tree, nodes_of}
use Rattle.records.specs.Records.{record_bytes, FitsRecord}
use Rattle.models.specs.Models.{ContentSpec, Declaration}
use Rattle.models.specs.Expressions.{spec_content, spec_nodes}
use Rattle.models.specs.Family.{nodes_together, Holdable}
use Rattle.models.specs.Sheets.{number_of_name, tag_of_name}
use Rattle.models.proofs.Counted.{nodes_counted}
use Rattle.declarations.specs.declared.NodeRow.{NodeRow}
use Rattle.declarations.specs.Nodes.{content_preorder, LaysNodes}
use Rattle.declarations.proofs.Laws.{two_bytes}
use Rattle.declaring.specs.Sections.{declared_productions, declared_nodes, node_records}
use Rattle.declaring.proofs.Sections.{one_declaration_more, sections_long}
use Rattle.entries.specs.declared.Tally.{Tally}
use Rattle.entries.specs.Entries.{SectionRoom, DeclarationsHeld, EntryOf, EntryFits, EnteredIs}

-- new bytes behind the first ones
behind : (memory after new front : List ℕ) (at r : ℕ) → PutAs true memory at new after r → take at memory ≡ front → at + length new ≤ length memory → take (at + length new) after ≡ front ++ new
behind memory after new front at r p e h =
    let z : after ≡ (take at memory ++ new) ++ drop (at + length new) memory = p.left ∙ put_all memory at new h in
    let l : at ≤ length memory = omega arith in
    let k : length (take at memory ++ new) ≡ at + length new = length-append (take at memory) new ∙ ap (λ (n : ℕ). n + length new) (length-take-le at memory l) in
    ap (take (at + length new)) z ∙ take_at (take at memory ++ new) (drop (at + length new) memory) (at + length new) k ∙ ap (λ (x : List ℕ). x ++ new) e

content_bytes : (c : Content) → length (content_preorder c) ≡ 2 * nodes_of c
content_bytes nothing = refl
content_bytes (tree e) = two_bytes e

-- two bytes for each node
pub laid_count : (number : List ℕ → ℕ) (c : ContentSpec) (row : NodeRow) → LaysNodes (content_preorder (spec_content number c)) row → row.length ≡ 2 * spec_nodes c
laid_count number c row l = omega (arith, l.length_is, content_bytes (spec_content number c), nodes_counted number c)

module _ (old : Tally) (element tag : ℕ) (row : NodeRow) (productions nodes productions' nodes' : List ℕ) where
  abbrev count : ℕ
  count = row.length / 2

  pub entry_fits : EntryFits old element tag row → FitsRecord element tag old.nodes count 0xFFFF 0xFFFF
  entry_fits f = record {
    nonterminal_fits = omega (arith, f.element_small);
    tag_fits = omega (arith, f.tag_small);
    first_fits = omega (arith, f.few_nodes);
    nodes_fit = omega (arith, f.row_short);
    front_fits = omega arith;
    back_fits = omega arith;
  }

  pub entered_as : (n m : ℕ) → PutAs true productions (12 * old.productions) (record_bytes element tag old.nodes count 0xFFFF 0xFFFF) productions' n
      → PutAs true nodes (6 * old.nodes) (node_records (take row.length row.bytes)) nodes' m
      → EnteredIs old element tag row productions nodes productions' nodes' (record { productions = old.productions + 1; nodes = old.nodes + count })
  entered_as n m p q = record {
    one_more = refl;
    more_nodes = refl;
    long_productions = ap length p.left ∙ put_length true productions _ _;
    long_nodes = ap length q.left ∙ put_length true nodes _ _;
    is = λ ds d room h o k. on ds d room h o k;
  }
    where
      on : (ds : List Declaration) (d : Declaration) → SectionRoom productions nodes → Holdable (ds ++ d ∷ []) → EntryOf ds d element tag row → DeclarationsHeld ds old productions nodes
          → DeclarationsHeld (ds ++ d ∷ []) (record { productions = old.productions + 1; nodes = old.nodes + count }) productions' nodes'
      on ds d room h o k =
          let all : List Declaration = ds ++ d ∷ [] in
          let more = one_declaration_more ds d in
          let long = length-append ds (d ∷ []) in
          let c : Content = spec_content (number_of_name all) d.content in
          let counted : count ≡ spec_nodes d.content = let z = laid_count (number_of_name all) d.content row o.laid in omega (arith, z) in
          let new : List ℕ = record_bytes element tag old.nodes count 0xFFFF 0xFFFF in
          let same : new ≡ record_bytes (number_of_name all d.declared) (tag_of_name all d.declared) (nodes_together ds) (spec_nodes d.content) 0xFFFF 0xFFFF =
          ap₂ (λ (a b : ℕ). record_bytes a b old.nodes count 0xFFFF 0xFFFF) o.number_is o.tag_is
          ∙ ap₂ (λ (a b : ℕ). record_bytes (number_of_name all d.declared) (tag_of_name all d.declared) a b 0xFFFF 0xFFFF) k.nodes_are counted in
          let far : 12 * (old.productions + 1) ≡ 12 * old.productions + length new = omega arith in
          let pairs : List ℕ = take row.length row.bytes in
          let bytes : node_records pairs ≡ node_records (content_preorder c) = ap node_records o.laid.bytes_are in
          let six : length (node_records pairs) ≡ 6 * count = omega (arith, ap length bytes, ap length more.nodes, length-append (declared_nodes ds) (node_records (content_preorder c)), (sections_long ds).nodes_long, (sections_long all).nodes_long, more.count, counted) in
          let further : 6 * (old.nodes + count) ≡ 6 * old.nodes + length (node_records pairs) = omega (arith, six) in
          record {
            count_is = omega (arith, k.count_is, long);
            nodes_are = omega (arith, k.nodes_are, more.count, counted);
            productions_held = ap (λ (z : ℕ). take z productions') far ∙ behind productions productions' new (declared_productions ds) (12 * old.productions) n p k.productions_held (omega (arith, room.production_room, k.count_is, long, h.few_declarations))
                ∙ ap (λ (z : List ℕ). declared_productions ds ++ z) same ∙ sym more.productions;
            nodes_held = ap (λ (z : ℕ). take z nodes') further ∙ behind nodes nodes' (node_records pairs) (declared_nodes ds) (6 * old.nodes) m q k.nodes_held (omega (arith, six, room.node_room, k.nodes_are, more.count, counted, h.few_nodes))
                ∙ ap (λ (z : List ℕ). declared_nodes ds ++ z) bytes ∙ sym more.nodes;
          }
