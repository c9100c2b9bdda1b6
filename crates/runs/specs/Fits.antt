-- What fits a sheet: its programs and names as a well-formed sheet has them, values, and what a run keeps and writes.
-- Assumes nothing.
use Rattle.std.specs.Prelude.{◌≡◌, true, List, [], ◌∷◌, ℕ, ◌≤◌, ◌<◌, length}
use Rattle.std.proofs.Math.Option.{Option, none, some}
use Rattle.limits.specs.Limits.{longest_name}
use Rattle.text.specs.Chars.{Char}
use Rattle.text.specs.Names.{Name}
use Rattle.programs.specs.Program.{Program}
use Rattle.programs.specs.Bounds.{Bounds, bounds}
use Rattle.programs.specs.Limits.{Value, IsProgramIn, Visit, first, second, allowed}
use Rattle.sheet.specs.Sheet.{Sheet}
use Rattle.output.specs.Escape.{AllFit}
use Rattle.runs.specs.Lookup.{tag_of}
use Rattle.runs.specs.Visits.{grammar, programs_of, Env, attributes, Saved}
use Rattle.runs.specs.Events.{Event, starts, ends, letter}
use Rattle.runs.specs.Acts.{Act, node_first, node_second, start_tag, end_tag, letter_read, Store}

abbrev pub NamesFit : List (List ℕ) → Type 0
NamesFit [] = Unit {0}
NamesFit (n ∷ ns) = (Name n × (length n ≤ longest_name)) × NamesFit ns

-- with the bounds b
abbrev pub ProgramFitsIn : Bounds → Sheet → Visit → Option Program → Type 0
ProgramFitsIn b s v none = Unit {0}
ProgramFitsIn b s v (some p) = IsProgramIn b (length s.names) s.strings p × (allowed v p ≡ true)

abbrev pub ProgramFits : Sheet → Visit → Option Program → Type 0
ProgramFits = ProgramFitsIn bounds

pub record SheetFits (s : Sheet) : Type 0 where
  pub names_fit : NamesFit s.names
  pub tags_named : (q : ℕ) → tag_of (grammar s) q < length s.names
  pub first_fits : (q i : ℕ) → ProgramFits s first (programs_of s.rules q i).first_visit
  pub second_fits : (q i : ℕ) → ProgramFits s second (programs_of s.rules q i).second_visit

-- no value is over the highest
abbrev pub AllValues : List ℕ → Type 0
AllValues [] = Unit {0}
AllValues (v ∷ vs) = Value v × AllValues vs

-- one for each attribute
abbrev pub ValuesFit : List ℕ → Type 0
ValuesFit vs = (length vs ≡ attributes) × AllValues vs

abbrev pub KeptFit : List Saved → Type 0
KeptFit [] = Unit {0}
KeptFit (k ∷ ks) = ValuesFit k.values × KeptFit ks

abbrev pub AllKeptFit : List (List Saved) → Type 0
AllKeptFit [] = Unit {0}
AllKeptFit (ks ∷ kss) = KeptFit ks × AllKeptFit kss

pub record StoreFits (m : Store) : Type 0 where
  pub values_fit : ValuesFit m.env.values
  pub kept_fit : AllKeptFit m.kept
  pub output_fits : AllFit m.env.out

-- the characters read are of the Char set
abbrev pub LettersFit : List Act → Type 0
LettersFit [] = Unit {0}
LettersFit (node_first q i ∷ bs) = LettersFit bs
LettersFit (node_second q i ∷ bs) = LettersFit bs
LettersFit (start_tag q ∷ bs) = LettersFit bs
LettersFit (end_tag q ∷ bs) = LettersFit bs
LettersFit (letter_read c ∷ bs) = Char c × LettersFit bs

abbrev pub EventsFit : List Event → Type 0
EventsFit [] = Unit {0}
EventsFit (starts t ∷ xs) = EventsFit xs
EventsFit (ends t ∷ xs) = EventsFit xs
EventsFit (letter c ∷ xs) = Char c × EventsFit xs
