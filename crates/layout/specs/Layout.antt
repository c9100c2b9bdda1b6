-- A sheet's bytes: the trailer, and the sections that it points back to. Numbers 1 and 2 of document 01. Assumes nothing.
use Rattle.std.specs.Prelude.{◌≡◌, List, ℕ, suc, ◌+◌, ◌-◌, ◌*◌, ◌≤◌, length, get_or, take, drop}
use Rattle.limits.specs.Limits.{largest_sheet, most_tags, most_productions, most_nodes, most_program_bytes, most_string_bytes}

abbrev pub byte_at : List ℕ → ℕ → ℕ
byte_at s i = get_or s i 0

-- a number of two bytes, little-endian
abbrev pub word_at : List ℕ → ℕ → ℕ
word_at s i = byte_at s i + 256 * byte_at s (suc i)

-- the trailer, the last 24 bytes: twelve such numbers
abbrev pub trailer_word : List ℕ → ℕ → ℕ
trailer_word s k = word_at s (length s - 24 + 2 * k)

abbrev pub tag_offset : List ℕ → ℕ
tag_offset s = trailer_word s 0

abbrev pub tag_count : List ℕ → ℕ
tag_count s = trailer_word s 1

abbrev pub production_offset : List ℕ → ℕ
production_offset s = trailer_word s 2

abbrev pub production_count : List ℕ → ℕ
production_count s = trailer_word s 3

abbrev pub node_offset : List ℕ → ℕ
node_offset s = trailer_word s 4

abbrev pub node_count : List ℕ → ℕ
node_count s = trailer_word s 5

abbrev pub program_offset : List ℕ → ℕ
program_offset s = trailer_word s 6

abbrev pub program_length : List ℕ → ℕ
program_length s = trailer_word s 7

abbrev pub string_offset : List ℕ → ℕ
string_offset s = trailer_word s 8

abbrev pub string_length : List ℕ → ℕ
string_length s = trailer_word s 9

abbrev pub start : List ℕ → ℕ
start s = trailer_word s 10

abbrev pub sheet_mark : List ℕ → ℕ
sheet_mark s = trailer_word s 11

-- number 1: at least the trailer, at most what the sections may hold with it
pub record Size (s : List ℕ) : Type 0 where
  pub least : 24 ≤ length s
  pub most : length s ≤ largest_sheet

-- number 2: the mark, bytes 58 53; sections back to back from byte 0, each within its count; the trailer follows at once
pub record Sections (s : List ℕ) : Type 0 where
  pub marked : sheet_mark s ≡ 0x5358
  pub tags_at_lem : tag_offset s ≡ 0
  pub some_tags : 1 ≤ tag_count s
  pub few_tags : tag_count s ≤ most_tags
  pub productions_at_lem : production_offset s ≡ tag_offset s + 16 * tag_count s
  pub some_productions : 1 ≤ production_count s
  pub few_productions : production_count s ≤ most_productions
  pub nodes_at_lem : node_offset s ≡ production_offset s + 12 * production_count s
  pub few_nodes : node_count s ≤ most_nodes
  pub programs_at_lem : program_offset s ≡ node_offset s + 6 * node_count s
  pub short_programs : program_length s ≤ most_program_bytes
  pub strings_at_lem : string_offset s ≡ program_offset s + program_length s
  pub short_strings : string_length s ≤ most_string_bytes
  pub trailer_at : length s ≡ string_offset s + string_length s + 24

-- the sections of programs and of strings
abbrev pub programs_in : List ℕ → List ℕ
programs_in s = take (program_length s) (drop (program_offset s) s)

abbrev pub strings_in : List ℕ → List ℕ
strings_in s = take (string_length s) (drop (string_offset s) s)
