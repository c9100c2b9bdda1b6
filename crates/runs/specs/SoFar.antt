-- Tokens so far: what it is for a row of tokens to be taken, whether or not the root is closed, and for the next token to be refused.
-- Assumes nothing.
use Rattle.std.specs.Prelude.{◌≡◌, Bool, true, false, ◌&&◌, List, [], ◌∷◌, ◌++◌, ℕ, ◌≤◌}
use Rattle.std.proofs.Math.Option.{some}
use Rattle.expressions.specs.Grammar.{Production, content_of}
use Rattle.sheet.specs.Sheet.{Sheet}
use Rattle.runs.specs.Lookup.{tag_of}
use Rattle.runs.specs.Visits.{grammar}
use Rattle.runs.specs.Events.{Event, starts, ends, letter}
use Rattle.runs.specs.Acts.{Act, node_first, node_second, start_tag, end_tag, letter_read, Store, fresh_store, acts}
use Rattle.runs.specs.Machine.{most}
use Rattle.runs.specs.Taken.{Allowed, Stopped}
use Rattle.runs.specs.Spells.{Token, events_of_token, is_blank, blanks_pass, Mark, event_mark, events_of_marks, Spells}

-- of each open element, innermost first, whether white space passes in it; outside the root it does
abbrev pub passing : List Bool → Bool
passing [] = true
passing (b ∷ bs) = b

abbrev pub outside : List Bool → List Bool
outside [] = []
outside (b ∷ bs) = bs

-- the marks of a row of acts that starts in such elements, and those open behind it
abbrev pub row_marks : List Production → List Bool → List Act → List Mark
row_marks g ps [] = []
row_marks g ps (node_first q i ∷ bs) = row_marks g ps bs
row_marks g ps (node_second q i ∷ bs) = row_marks g ps bs
row_marks g ps (start_tag q ∷ bs) = event_mark (passing ps) (starts (some (tag_of g q))) ∷ row_marks g (blanks_pass (content_of g q) ∷ ps) bs
row_marks g ps (end_tag q ∷ bs) = event_mark (passing ps) (ends (some (tag_of g q))) ∷ row_marks g (outside ps) bs
row_marks g ps (letter_read c ∷ bs) = event_mark (passing ps) (letter c) ∷ row_marks g ps bs

abbrev pub row_passes : List Production → List Bool → List Act → List Bool
row_passes g ps [] = ps
row_passes g ps (node_first q i ∷ bs) = row_passes g ps bs
row_passes g ps (node_second q i ∷ bs) = row_passes g ps bs
row_passes g ps (start_tag q ∷ bs) = row_passes g (blanks_pass (content_of g q) ∷ ps) bs
row_passes g ps (end_tag q ∷ bs) = row_passes g (outside ps) bs
row_passes g ps (letter_read c ∷ bs) = row_passes g ps bs

-- the tokens spell the events of nothing yet, of a whole tree or of an open one, no deeper than the limit, in which no step rejects; m is what they come to
pub record SpelledSoFar (s : Sheet) (ts : List Token) (m : Store) : Type 0 where
  pub row : List Act
  pub deep : ℕ
  pub allowed : Allowed (grammar s) s.start_nonterminal (events_of_marks (row_marks (grammar s) [] row)) row deep
  pub fits : deep ≤ most
  pub spells : Spells (passing (row_passes (grammar s) [] row)) (row_marks (grammar s) [] row) ts
  pub value : acts s row fresh_store ≡ some m

-- the events so far
abbrev pub events_so_far : {s : Sheet} {ts : List Token} {m : Store} → SpelledSoFar s ts m → List Event
events_so_far {s} h = events_of_marks (row_marks (grammar s) [] h.row)

-- the token k is refused with n then: it is no white space that passes, and of its events (an empty tag has two) the first that is refused gets n
pub record TokenRefused {s : Sheet} {ts : List Token} {m : Store} (h : SpelledSoFar s ts m) (k : Token) (n : ℕ) : Type 0 where
  pub counts : is_blank k && passing (row_passes (grammar s) [] h.row) ≡ false
  pub reached : Store
  pub left : List Event
  pub stops : Stopped s (events_so_far h ++ events_of_token k) n reached left
