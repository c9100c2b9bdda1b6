-- What a token mentions is filed in the store of its sort, or there is no room for it. Assumes nothing.
use Rattle.std.specs.Prelude.{Option as Taken, Some, None, IfSome, IfNone, MatchOption, ◌≡◌, List, [], ◌∷◌, ◌++◌, ℕ, ◌≤◌, ◌<◌, length}
use Rattle.std.proofs.Math.Option.{Option, some}
use Rattle.text.specs.Characters.{utf8s}
use Rattle.programs.specs.Program.{program_bytes}
use Rattle.notation.specs.Program.{TextProgram}
use Rattle.notation.specs.Rules.{Rules}
use Rattle.notation.specs.Tokens.{TextToken, nonterminal, value, attribute, name, start_tag, end_tag, empty_tag, string, word, sign, Sign, DEFINED, ASSIGNED, OPEN, CLOSE, BRACE, UNBRACE, DOT, BAR, STAR, SEMICOLON, EQUALS}
use Rattle.encoding.specs.Distinct.{distinct, place_of, offset_of}
use Rattle.encoding.specs.Encoded.{program_of}
use Rattle.reading.specs.Rules.{Progress}
use Rattle.lexemes.specs.Kinds.{token_kind, TokenFits}
use Rattle.verdicts.specs.Judged.{Goes}
use Rattle.sketches.specs.Sketched.{listing_of}
use Rattle.stores.specs.Rows.{RowsIn, HasRows}
use Rattle.stores.specs.Mentioned.{TooManyFor}
use Rattle.mentions.specs.SoFar.{so_far, whole_in, Tidy}
use Rattle.ledgers.specs.Trodden.{LeadsToRules}
use Rattle.ledgers.specs.Space.{SpaceFor}
use Rattle.desks.specs.Kept.{StoresHold, RowPlaceIs}
use Rattle.shelves.specs.declared.Filing.{Filing}
use Rattle.shelves.specs.declared.Shelved.{Shelved}

-- the row is among those of the store now, behind all that was mentioned before, equal ones once
pub record StoredAs (l : List (List ℕ)) (x bytes ends : List ℕ) (a : Filing) : Type 0 where
  pub rows : RowsIn bytes ends a.count (distinct (l ++ x ∷ []))
  pub place_is : a.place ≡ place_of (distinct (l ++ x ∷ [])) x
  pub offset_is : a.offset ≡ offset_of (distinct (l ++ x ∷ [])) x
  pub low : a.place < length ends
  pub inside : a.offset ≤ length bytes

abbrev pub FiledOr : List (List ℕ) → List ℕ → List ℕ → List ℕ → Taken Filing → Type 0
FiledOr l x bytes ends (Some a) = StoredAs l x bytes ends a
FiledOr l x bytes ends None = TooManyFor (distinct (l ++ x ∷ [])) bytes ends

pub record FilingIs (bytes ends : List ℕ) (count : ℕ) (x bytes_after ends_after : List ℕ) (a : Taken Filing) : Type 0 where
  pub long_bytes : length bytes_after ≡ length bytes
  pub long_ends : length ends_after ≡ length ends
  pub has_rows : MatchOption a (HasRows bytes_after ends_after count) (λ f. HasRows bytes_after ends_after f.count)
  pub is : (l : List (List ℕ)) → RowsIn bytes ends count (distinct l) → FiledOr l x bytes_after ends_after a

-- the stores, with as many places as a sheet can have: an end for each string and each program that fits, of which one at most is empty
pub record Rowed (a : Shelved) (tag_bytes' tag_ends string_bytes string_ends program_bytes_lem program_ends : List ℕ) : Type 0 where
  pub tag_room : length tag_bytes' ≡ 960
  pub tag_places : length tag_ends ≡ 64
  pub string_room : length string_bytes ≡ 8192
  pub string_places : length string_ends ≡ 8193
  pub program_room : length program_bytes_lem ≡ 16384
  pub program_places : length program_ends ≡ 16385
  pub tag_rows : HasRows tag_bytes' tag_ends a.tags
  pub string_rows : HasRows string_bytes string_ends a.strings
  pub program_rows : HasRows program_bytes_lem program_ends a.programs

-- the bytes that a token's tag, its string, or the program that it ends, has in the sheet
abbrev pub RowOfSign : Rules → Option TextProgram → Sign → List ℕ → Type 0
RowOfSign r o DEFINED x = Unit {0}
RowOfSign r o ASSIGNED x = Unit {0}
RowOfSign r o OPEN x = Unit {0}
RowOfSign r o CLOSE x = Unit {0}
RowOfSign r o BRACE x = Unit {0}
RowOfSign r o UNBRACE x = (p : TextProgram) → o ≡ some p → x ≡ program_bytes (program_of r p)
RowOfSign r o DOT x = Unit {0}
RowOfSign r o BAR x = Unit {0}
RowOfSign r o STAR x = Unit {0}
RowOfSign r o SEMICOLON x = Unit {0}
RowOfSign r o EQUALS x = Unit {0}

abbrev pub RowMentioned : Rules → Progress → TextToken → List ℕ → Type 0
RowMentioned r s (nonterminal n) x = Unit {0}
RowMentioned r s (value v) x = Unit {0}
RowMentioned r s (attribute m a) x = Unit {0}
RowMentioned r s (name n) x = x ≡ n
RowMentioned r s (start_tag n) x = x ≡ n
RowMentioned r s (end_tag n) x = x ≡ n
RowMentioned r s (empty_tag n) x = x ≡ n
RowMentioned r s (string cs) x = x ≡ utf8s cs
RowMentioned r s (word w) x = Unit {0}
RowMentioned r s (sign g) x = RowOfSign r (whole_in (listing_of s)) g x

-- with the row the stores hold what is mentioned now, and the number is the row's in the sheet; or there is no space for what is mentioned now
pub record ShelvedAs (r : Rules) (s s' : Progress) (t : TextToken) (a : Taken Shelved) (tb te sb se pb pe : List ℕ) : Type 0 where
  pub stored : IfSome a (λ f. StoresHold r s' tb te f.tags sb se f.strings pb pe f.programs)
  pub placed : IfSome a (λ f. RowPlaceIs r s t f.place)
  pub no_space : IfNone a (SpaceFor r (so_far s') → ⊥)

pub record ShelvedIs (kind : ℕ) (row : List ℕ) (old : Shelved) (tb te sb se pb pe tb' te' sb' se' pb' pe' : List ℕ) (a : Taken Shelved) : Type 0 where
  pub rowed : MatchOption a (Rowed old tb' te' sb' se' pb' pe') (λ f. Rowed f tb' te' sb' se' pb' pe')
  pub is : (r : Rules) (s s' : Progress) (t : TextToken) → kind ≡ token_kind t → TokenFits t → Tidy s → Goes s t s' → LeadsToRules s' r → RowMentioned r s t row
      → StoresHold r s tb te old.tags sb se old.strings pb pe old.programs → ShelvedAs r s s' t a tb' te' sb' se' pb' pe'
