-- What is promised of records: they are a sheet's, and a section with one more record is the section and the record. Assumes nothing.
use Rattle.std.specs.Prelude.{◌≡◌, List, [], ◌∷◌, ◌++◌, ℕ, ◌+◌}
use Rattle.notation.specs.Rules.{TextRule, Rules}
use Rattle.notation.specs.Limits.{nodes_in_all}
use Rattle.encoding.specs.Distinct.{place_of}
use Rattle.encoding.specs.Encoded.{tags_stored}
use Rattle.sheet.specs.Tags.{tag_record}
use Rattle.packing.specs.Packed.{field, content_bytes, nodes_section, nodes_of_rule, production_record, productions_section, tags_section}
use Rattle.records.specs.Records.{record_bytes}

abbrev pub ByNumbers : Type 0
ByNumbers = (r : Rules) (first : ℕ) (d : TextRule)
    → production_record r first d ≡ record_bytes d.nonterminal (place_of (tags_stored r) d.tag) first (nodes_of_rule d) (field r d.own.first_visit) (field r d.own.second_visit)

-- one production more
abbrev pub OneMoreProduction : Type 0
OneMoreProduction = (r : Rules) (first : ℕ) (ds : List TextRule) (d : TextRule) → productions_section r first (ds ++ d ∷ []) ≡ productions_section r first ds ++ production_record r (first + nodes_in_all ds) d

abbrev pub MoreNodes : Type 0
MoreNodes = (r : Rules) (ds : List TextRule) (d : TextRule) → nodes_section r (ds ++ d ∷ []) ≡ nodes_section r ds ++ content_bytes r d.inside

abbrev pub NodesAdded : Type 0
NodesAdded = (ds : List TextRule) (d : TextRule) → nodes_in_all (ds ++ d ∷ []) ≡ nodes_in_all ds + nodes_of_rule d

-- one tag more
abbrev pub OneMoreTag : Type 0
OneMoreTag = (ns : List (List ℕ)) (n : List ℕ) → tags_section (ns ++ n ∷ []) ≡ tags_section ns ++ tag_record n
