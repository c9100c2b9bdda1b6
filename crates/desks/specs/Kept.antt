-- What a writer keeps, part by part, at a state of the machine, for rules that it can still lead to. Assumes nothing.
use Rattle.std.specs.Prelude.{◌≡◌, List, [], ◌++◌, ℕ, ◌+◌, ◌*◌, ◌≤◌, ◌<◌, length, take}
use Rattle.std.proofs.Math.Option.{Option, none, some}
use Rattle.text.specs.Characters.{utf8s}
use Rattle.notation.specs.Program.{TextProgram}
use Rattle.notation.specs.Rules.{Tree, TextRule, Rules}
use Rattle.notation.specs.Tokens.{TextToken, nonterminal, value, attribute, name, start_tag, end_tag, empty_tag, string, word, sign, Sign, DEFINED, ASSIGNED, OPEN, CLOSE, BRACE, UNBRACE, DOT, BAR, STAR, SEMICOLON, EQUALS}
use Rattle.notation.specs.Limits.{nodes_in_all}
use Rattle.encoding.specs.Mentions.{tags_mentioned, strings_mentioned, programs_mentioned}
use Rattle.encoding.specs.Distinct.{distinct, place_of, offset_of, run_together}
use Rattle.encoding.specs.Encoded.{tags_stored, strings_stored, bytes_of_each}
use Rattle.packing.specs.Packed.{field, content_bytes, nodes_section, productions_section}
use Rattle.reading.specs.Rules.{Head, Progress, beginning, first_word, named, defined, own_front, wants_tag, tagged, within, closed, own_back, complete}
use Rattle.sketches.specs.Sketched.{listing_of}
use Rattle.stores.specs.Rows.{RowsIn}
use Rattle.mentions.specs.SoFar.{so_far, whole_in}

-- the three stores hold what was mentioned so far
pub record StoresHold (r : Rules) (s : Progress) (tag_bytes' tag_ends : List ℕ) (tags : ℕ) (string_bytes string_ends : List ℕ) (strings : ℕ) (program_bytes_lem program_ends : List ℕ) (programs : ℕ) : Type 0 where
  pub tags_held : RowsIn tag_bytes' tag_ends tags (distinct (tags_mentioned (so_far s)))
  pub strings_held : RowsIn string_bytes string_ends strings (distinct (strings_mentioned (so_far s)))
  pub programs_held : RowsIn program_bytes_lem program_ends programs (distinct (bytes_of_each r (programs_mentioned (so_far s))))
  pub tags_short : length (run_together (distinct (tags_mentioned (so_far s)))) ≤ 15 * length (distinct (tags_mentioned (so_far s)))

-- the number that a token's tag, its string, or the program that it ends, has in the sheet
pub record PlaceOfTag (r : Rules) (n : List ℕ) (place : ℕ) : Type 0 where
  pub is : place ≡ place_of (tags_stored r) n
  pub small : place < 64

pub record PlaceOfString (r : Rules) (x : List ℕ) (place : ℕ) : Type 0 where
  pub is : place ≡ offset_of (strings_stored r) x
  pub small : place ≤ 8192

pub record PlaceOfProgram (r : Rules) (o : Option TextProgram) (place : ℕ) : Type 0 where
  pub is : (p : TextProgram) → o ≡ some p → place ≡ field r (some p)
  pub small : place ≤ 16384

abbrev pub PlaceOfSign : Rules → Option TextProgram → Sign → ℕ → Type 0
PlaceOfSign r o DEFINED n = Unit {0}
PlaceOfSign r o ASSIGNED n = Unit {0}
PlaceOfSign r o OPEN n = Unit {0}
PlaceOfSign r o CLOSE n = Unit {0}
PlaceOfSign r o BRACE n = Unit {0}
PlaceOfSign r o UNBRACE n = PlaceOfProgram r o n
PlaceOfSign r o DOT n = Unit {0}
PlaceOfSign r o BAR n = Unit {0}
PlaceOfSign r o STAR n = Unit {0}
PlaceOfSign r o SEMICOLON n = Unit {0}
PlaceOfSign r o EQUALS n = Unit {0}

abbrev pub RowPlaceIs : Rules → Progress → TextToken → ℕ → Type 0
RowPlaceIs r s (nonterminal n) place = Unit {0}
RowPlaceIs r s (value v) place = Unit {0}
RowPlaceIs r s (attribute m a) place = Unit {0}
RowPlaceIs r s (name n) place = PlaceOfTag r n place
RowPlaceIs r s (start_tag n) place = PlaceOfTag r n place
RowPlaceIs r s (end_tag n) place = PlaceOfTag r n place
RowPlaceIs r s (empty_tag n) place = PlaceOfTag r n place
RowPlaceIs r s (string cs) place = PlaceOfString r (utf8s cs) place
RowPlaceIs r s (word w) place = Unit {0}
RowPlaceIs r s (sign g) place = PlaceOfSign r (whole_in (listing_of s)) g place

-- the production that is being read, by the numbers of its record: start, nonterminal, tag, programs
pub record HeadHeld (h : Head) (start nonterm : ℕ) : Type 0 where
  pub start_is : start ≡ h.start
  pub nonterm_is : nonterm ≡ h.nonterm

abbrev pub tag_in : Rules → List ℕ → ℕ
tag_in r n = place_of (tags_stored r) n

abbrev pub SlipHolds : Rules → Progress → ℕ → ℕ → ℕ → ℕ → ℕ → Type 0
SlipHolds r beginning start nonterm tag front back = Unit {0}
SlipHolds r (first_word n) start nonterm tag front back = (start ≡ n) × ((nonterm ≡ n) × ((front ≡ field r none) × (back ≡ field r none)))
SlipHolds r (named h) start nonterm tag front back = HeadHeld h start nonterm × ((front ≡ field r none) × (back ≡ field r none))
SlipHolds r (defined h) start nonterm tag front back = HeadHeld h start nonterm × ((front ≡ field r none) × (back ≡ field r none))
SlipHolds r (own_front q h) start nonterm tag front back = HeadHeld h start nonterm × (back ≡ field r none)
SlipHolds r (wants_tag f h) start nonterm tag front back = HeadHeld h start nonterm × ((front ≡ field r f) × (back ≡ field r none))
SlipHolds r (tagged f t h) start nonterm tag front back = HeadHeld h start nonterm × ((front ≡ field r f) × ((back ≡ field r none) × (tag ≡ tag_in r t)))
SlipHolds r (within x f t h) start nonterm tag front back = HeadHeld h start nonterm × ((front ≡ field r f) × ((back ≡ field r none) × (tag ≡ tag_in r t)))
SlipHolds r (closed f t e h) start nonterm tag front back = HeadHeld h start nonterm × ((front ≡ field r f) × ((back ≡ field r none) × (tag ≡ tag_in r t)))
SlipHolds r (own_back q f t e h) start nonterm tag front back = HeadHeld h start nonterm × ((front ≡ field r f) × ((back ≡ field r none) × (tag ≡ tag_in r t)))
SlipHolds r (complete d h) start nonterm tag front back =
    (start ≡ h.start) × ((nonterm ≡ d.nonterminal) × ((front ≡ field r d.own.first_visit) × ((back ≡ field r d.own.second_visit) × (tag ≡ tag_in r d.tag))))

-- the records of the rules before, and the nodes of the production that is being read once its tag's parentheses are closed
pub record PastHeld (r : Rules) (earlier : List TextRule) (more : List ℕ) (productions before nodes : ℕ) (production_bytes' node_bytes' : List ℕ) : Type 0 where
  pub productions_are : productions ≡ length earlier
  pub records : take (12 * productions) production_bytes' ≡ productions_section r 0 earlier
  pub before_is : before ≡ 6 * nodes_in_all earlier
  pub nodes_are : nodes ≡ before + length more
  pub laid : take nodes node_bytes' ≡ nodes_section r earlier ++ more

abbrev pub earlier_of : Progress → List TextRule
earlier_of beginning = []
earlier_of (first_word n) = []
earlier_of (named h) = h.earlier
earlier_of (defined h) = h.earlier
earlier_of (own_front q h) = h.earlier
earlier_of (wants_tag f h) = h.earlier
earlier_of (tagged f t h) = h.earlier
earlier_of (within x f t h) = h.earlier
earlier_of (closed f t e h) = h.earlier
earlier_of (own_back q f t e h) = h.earlier
earlier_of (complete d h) = h.earlier

abbrev pub inside_of : Rules → Progress → List ℕ
inside_of r beginning = []
inside_of r (first_word n) = []
inside_of r (named h) = []
inside_of r (defined h) = []
inside_of r (own_front q h) = []
inside_of r (wants_tag f h) = []
inside_of r (tagged f t h) = []
inside_of r (within x f t h) = []
inside_of r (closed f t e h) = content_bytes r e
inside_of r (own_back q f t e h) = content_bytes r e
inside_of r (complete d h) = content_bytes r d.inside

abbrev pub PastHolds : Rules → Progress → ℕ → ℕ → ℕ → List ℕ → List ℕ → Type 0
PastHolds r s productions before nodes production_bytes' node_bytes' = PastHeld r (earlier_of s) (inside_of r s) productions before nodes production_bytes' node_bytes'
