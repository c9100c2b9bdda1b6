-- The sheet of rules: tags, strings and programs stored once, in the order in which they first stand in the text. Assumes nothing.
use Rattle.std.specs.Prelude.{List, [], ◌∷◌, ℕ, ◌≤◌, length}
use Rattle.std.proofs.Math.Option.{Option, none, some}
use Rattle.limits.specs.Limits.{most_tags, most_program_bytes, most_string_bytes}
use Rattle.programs.specs.Program.{Program, program_bytes}
use Rattle.sheet.specs.Fields.{Visits}
use Rattle.sheet.specs.Sheet.{Rule, Sheet}
use Rattle.notation.specs.Program.{TextProgram, program_in}
use Rattle.notation.specs.Rules.{TextVisits, content_inside, visits_inside, TextRule, Rules}
use Rattle.encoding.specs.Mentions.{in_rules, tags_mentioned, strings_mentioned, programs_mentioned}
use Rattle.encoding.specs.Distinct.{distinct, place_of, offset_of, run_together}

abbrev pub tags_stored : Rules → List (List ℕ)
tags_stored r = distinct (tags_mentioned (in_rules r.productions))

abbrev pub strings_stored : Rules → List (List ℕ)
strings_stored r = distinct (strings_mentioned (in_rules r.productions))

-- tags by their number, strings by their offset
abbrev pub program_of : Rules → TextProgram → Program
program_of r p = program_in (place_of (tags_stored r)) (offset_of (strings_stored r)) p

abbrev pub bytes_of_each : Rules → List TextProgram → List (List ℕ)
bytes_of_each r [] = []
bytes_of_each r (p ∷ ps) = program_bytes (program_of r p) ∷ bytes_of_each r ps

-- one store for both visits
abbrev pub programs_stored : Rules → List (List ℕ)
programs_stored r = distinct (bytes_of_each r (programs_mentioned (in_rules r.productions)))

-- number 41 is given exactly where a rule text has rules without room
pub record Room (r : Rules) : Type 0 where
  pub few_tags : length (tags_stored r) ≤ most_tags
  pub short_programs : length (run_together (programs_stored r)) ≤ most_program_bytes
  pub short_strings : length (run_together (strings_stored r)) ≤ most_string_bytes

abbrev pub maybe : Rules → Option TextProgram → Option Program
maybe r none = none
maybe r (some p) = some (program_of r p)

abbrev pub both_of : Rules → TextVisits → Visits
both_of r v = record { first_visit = maybe r v.first_visit; second_visit = maybe r v.second_visit }

abbrev pub each : Rules → List TextVisits → List Visits
each r [] = []
each r (v ∷ vs) = both_of r v ∷ each r vs

abbrev pub rule_of : Rules → TextRule → Rule
rule_of r d = record {
  production = record { nonterm = d.nonterminal; tagno = place_of (tags_stored r) d.tag; content = content_inside d.inside };
  own = both_of r d.own;
  of_nodes = each r (visits_inside d.inside);
}

abbrev pub rules_of : Rules → List TextRule → List Rule
rules_of r [] = []
rules_of r (d ∷ ds) = rule_of r d ∷ rules_of r ds

abbrev pub sheet_of : Rules → Sheet
sheet_of r = record { names = tags_stored r; rules = rules_of r r.productions; strings = run_together (strings_stored r); start_nonterminal = r.start }
