-- Where reading resumes after a record is refused: at the first `<R>`, or root's end tag written without white space, at or after the refused token but past the record's own start.
-- Bytes, not tokens: what is damaged is often no token.
-- Assumes nothing.
use Rattle.std.specs.Prelude.{◌⊎◌, List, [], ℕ, ◌≤◌, ◌<◌, drop}
use Rattle.text.specs.Chars.{Starts}
use Rattle.tokens.specs.Tokens.{start, end, tag, bytes}
use Rattle.sheet.specs.Sheet.{Sheet}
use Rattle.runs.specs.Execute.{name_of}
use Rattle.salvage.specs.Shape.{RecordTags}

-- <R>
abbrev pub record_start : Sheet → RecordTags → List ℕ
record_start a x = bytes (tag start (name_of a.names x.record_tag) [])

-- </root>
abbrev pub root_end : Sheet → RecordTags → List ℕ
root_end a x = bytes (tag end (name_of a.names x.root_tag) [])

-- one of the two stands at i
abbrev pub MayResume : Sheet → RecordTags → List ℕ → ℕ → Type 0
MayResume a x s i = Starts (drop i s) (record_start a x) ⊎ Starts (drop i s) (root_end a x)

-- the record that begins at `first` is refused by the token at `refused`, and reading resumes at `to`
pub record ResumesAt (a : Sheet) (x : RecordTags) (s : List ℕ) (first refused to : ℕ) : Type 0 where
  pub not_before : refused ≤ to
  pub past_start : first < to
  pub stands : MayResume a x s to
  pub none_sooner : (i : ℕ) → refused ≤ i → first < i → i < to → MayResume a x s i → ⊥

-- nowhere
abbrev pub NeverResumes : Sheet → RecordTags → List ℕ → (first refused : ℕ) → Type 0
NeverResumes a x s first refused = (i : ℕ) → refused ≤ i → first < i → MayResume a x s i → ⊥
