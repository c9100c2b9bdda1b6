-- The promises of records. Assumes nothing.
use mathlib.Core.Path.{◌≡◌, refl, sym, ◌∙◌, ap}
use mathlib.Core.List.{[], ◌∷◌, ◌++◌, append_assoc, append-nil}
use Prim.Native.Nat.{◌+◌}
use native.Mathlib.Nat.{add-zero}
use native.Mathlib.Omega.{arith}
use Rattle.notation.specs.Limits.{nodes_in_all}
use Rattle.sheet.specs.Tags.{tag_record}
use Rattle.packing.specs.Packed.{content_bytes, nodes_section, nodes_of_rule, production_record, productions_section, tags_section}
use Rattle.records.specs.Promises.{ByNumbers, OneMoreProduction, MoreNodes, NodesAdded, OneMoreTag}

pub by_numbers : ByNumbers
by_numbers r first d = refl

pub one_more_production : OneMoreProduction
one_more_production r first [] d = append-nil (production_record r first d) ∙ ap (λ n. production_record r n d) (sym (add-zero first))
one_more_production r first (e ∷ ds) d =
    let sum : first + nodes_of_rule e + nodes_in_all ds ≡ first + (nodes_of_rule e + nodes_in_all ds) = omega arith in
    ap (λ m. production_record r first e ++ m) (one_more_production r (first + nodes_of_rule e) ds d)
    ∙ sym (append_assoc (production_record r first e) (productions_section r (first + nodes_of_rule e) ds) (production_record r (first + nodes_of_rule e + nodes_in_all ds) d))
    ∙ ap (λ n. productions_section r first (e ∷ ds) ++ production_record r n d) sum

pub more_nodes : MoreNodes
more_nodes r [] d = append-nil (content_bytes r d.inside)
more_nodes r (e ∷ ds) d = ap (λ m. content_bytes r e.inside ++ m) (more_nodes r ds d) ∙ sym (append_assoc (content_bytes r e.inside) (nodes_section r ds) (content_bytes r d.inside))

pub nodes_counted : NodesAdded
nodes_counted [] d = omega arith
nodes_counted (e ∷ ds) d = let h = nodes_counted ds d in omega (arith, h)

pub one_more_tag : OneMoreTag
one_more_tag [] n = append-nil (tag_record n)
one_more_tag (m ∷ ns) n = ap (λ l. tag_record m ++ l) (one_more_tag ns n) ∙ sym (append_assoc (tag_record m) (tags_section ns) (tag_record n))
