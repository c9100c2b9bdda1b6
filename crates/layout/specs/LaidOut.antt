-- What the layout that the code carries says of the sheet's bytes. Assumes nothing.
use Rattle.std.specs.Prelude.{◌≡◌, List, ℕ, ◌+◌, ◌*◌, ◌≤◌, ◌<◌, length}
use Rattle.limits.specs.Limits.{largest_sheet, most_tags, most_productions, most_nodes, most_program_bytes, most_string_bytes}
use Rattle.layout.specs.Layout.{tag_offset, tag_count, production_offset, production_count, node_offset, node_count, program_offset, program_length, string_offset, string_length, start, sheet_mark, Size, Sections}
use Rattle.layout.specs.declared.Layout.{Layout}

-- what was read is the number n, which is below a bound
pub record NumberRead (bound n r : ℕ) : Type 0 where
  pub is : r ≡ n
  pub below : r < bound

-- a section starts where the one before it ends, and its count is within its limits
pub record Follows (at end count least most : ℕ) : Type 0 where
  pub placed : at ≡ end
  pub enough : least ≤ count
  pub few : count ≤ most

-- each field is the trailer's number
pub record LayoutIs (s : List ℕ) (l : Layout) : Type 0 where
  pub tags_at_is : NumberRead 65536 (tag_offset s) l.tags_at
  pub tags_is : NumberRead 65536 (tag_count s) l.tags
  pub productions_at_is : NumberRead 65536 (production_offset s) l.productions_at
  pub productions_is : NumberRead 65536 (production_count s) l.productions
  pub nodes_at_is : NumberRead 65536 (node_offset s) l.nodes_at
  pub nodes_is : NumberRead 65536 (node_count s) l.nodes
  pub programs_at_is : NumberRead 65536 (program_offset s) l.programs_at
  pub programs_is : NumberRead 65536 (program_length s) l.programs
  pub strings_at_is : NumberRead 65536 (string_offset s) l.strings_at
  pub strings_is : NumberRead 65536 (string_length s) l.strings
  pub start_is : NumberRead 65536 (start s) l.start
  pub mark_is : NumberRead 65536 (sheet_mark s) l.mark

-- it is the layout of a sheet that keeps numbers 1 and 2; the order facts follow from that, and bound every index
pub record LaidOut (s : List ℕ) (l : Layout) : Type 0 where
  pub tags_from : l.tags_at ≡ 0
  pub tags_before : 16 * l.tags ≤ l.productions_at
  pub productions_before : l.productions_at + 12 * l.productions ≤ l.nodes_at
  pub nodes_before : l.nodes_at + 6 * l.nodes ≤ l.programs_at
  pub programs_before : l.programs_at + l.programs ≤ l.strings_at
  pub strings_before : l.strings_at + l.strings ≤ length s
  pub small : length s ≤ largest_sheet
  pub few_tags : l.tags ≤ most_tags
  pub few_productions : l.productions ≤ most_productions
  pub few_nodes : l.nodes ≤ most_nodes
  pub short_programs : l.programs ≤ most_program_bytes
  pub short_strings : l.strings ≤ most_string_bytes
  pub layout_is : LayoutIs s l
  pub size : Size s
  pub sections : Sections s
