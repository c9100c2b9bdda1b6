-- The byte strings at which reading resumes, written into lent memory: `<R>` and `</root>`.
-- Assumes nothing.
use Rattle.std.specs.Prelude.{◌≡◌, Bool, true, false, List, ℕ, ◌≤◌, ◌<◌, length, take}
use Rattle.std.proofs.Math.Option.{some}
use Rattle.sheet.specs.Sheet.{Sheet, IsSheet}
use Rattle.runs.specs.Execute.{name_of}
use Rattle.visits.specs.Written.{tag_text}
use Rattle.salvage.specs.Shape.{RecordTags}
use Rattle.salvage.specs.Shaped.{record_tags}
use Rattle.salvage.specs.Resumption.{record_start, root_end}

-- the longest tag: a name of 15 bytes between </ and >
abbrev pub most_mark : ℕ
most_mark = 18

-- the bytes are a sheet, and t is a tag of it
pub record TagThere (s : List ℕ) (t : ℕ) : Type 0 where
  pub few : t < 256
  pub sheet : Sheet
  pub is_sheet : IsSheet s sheet
  pub named : t < length sheet.names

-- the first r bytes of d are the start tag or the end tag of tag t; d is as long as any such tag may be
pub record MarkPut (s : List ℕ) (t : ℕ) (ending : Bool) (d : List ℕ) (r : ℕ) : Type 0 where
  pub wide : length d ≡ most_mark
  pub short : r ≤ most_mark
  pub is : (a : Sheet) → IsSheet s a → take r d ≡ tag_text ending (name_of a.names t)

-- the tags of a sheet of the shape are tags of it, and their marks are the two byte strings at which reading resumes
pub record MarksResume (s : List ℕ) (a : Sheet) (x : RecordTags) : Type 0 where
  pub root_there : TagThere s x.root_tag
  pub record_there : TagThere s x.record_tag
  pub record_start_lem : tag_text false (name_of a.names x.record_tag) ≡ record_start a x
  pub root_end_lem : tag_text true (name_of a.names x.root_tag) ≡ root_end a x

abbrev pub TagsThere : Type 0
TagsThere = (s : List ℕ) (a : Sheet) → IsSheet s a → (x : RecordTags) → record_tags a ≡ some x → MarksResume s a x
