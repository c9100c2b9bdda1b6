-- Room in the stores for what a text has mentioned so far. Assumes nothing.
use Rattle.std.specs.Prelude.{List, ℕ, ◌≤◌, length}
use Rattle.limits.specs.Limits.{most_tags, most_program_bytes, most_string_bytes}
use Rattle.notation.specs.Rules.{Rules}
use Rattle.encoding.specs.Mentions.{Mention, tags_mentioned, strings_mentioned, programs_mentioned}
use Rattle.encoding.specs.Distinct.{distinct, run_together}
use Rattle.encoding.specs.Encoded.{bytes_of_each}

-- the programs' bytes are those that they have in the sheet of the rules
pub record SpaceFor (r : Rules) (ms : List Mention) : Type 0 where
  pub few_tags : length (distinct (tags_mentioned ms)) ≤ most_tags
  pub short_programs : length (run_together (distinct (bytes_of_each r (programs_mentioned ms)))) ≤ most_program_bytes
  pub short_strings : length (run_together (distinct (strings_mentioned ms))) ≤ most_string_bytes
