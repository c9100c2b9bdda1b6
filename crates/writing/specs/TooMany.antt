-- Number 41: a rule text whose tags, strings and programs have no room in a sheet, and the byte that goes with the number. Assumes nothing.
use Rattle.std.specs.Prelude.{◌≡◌, List, [], ◌∷◌, ◌++◌, ℕ, zero, suc, ◌+◌, ◌-◌, ◌≤◌, length, take}
use Rattle.limits.specs.Limits.{most_tags, most_program_bytes, most_string_bytes}
use Rattle.notation.specs.Rules.{Rules}
use Rattle.notation.specs.Tokens.{TextToken, nonterminal, value, attribute, name, start_tag, end_tag, empty_tag, string, word, sign, Sign, DEFINED, ASSIGNED, OPEN, CLOSE, BRACE, UNBRACE, DOT, BAR, STAR, SEMICOLON, EQUALS, all_in_quotes, token_bytes}
use Rattle.notation.specs.Gaps.{Gap, Ending}
use Rattle.notation.specs.Spelled.{MayFollow}
use Rattle.notation.specs.Productions.{RulesAre}
use Rattle.encoding.specs.Mentions.{in_rules, tags_mentioned, strings_mentioned, programs_mentioned}
use Rattle.encoding.specs.Distinct.{distinct, run_together}
use Rattle.encoding.specs.Encoded.{bytes_of_each}

-- the last byte of a token's name, of a string, or of a program's }, counted from the token's first byte
abbrev pub last_byte_of : TextToken → ℕ
last_byte_of (nonterminal n) = 0
last_byte_of (value v) = 0
last_byte_of (attribute m a) = 0
last_byte_of (name n) = length n - 1
last_byte_of (start_tag n) = length n
last_byte_of (end_tag n) = suc (length n)
last_byte_of (empty_tag n) = length n
last_byte_of (string cs) = suc (length (all_in_quotes cs))
last_byte_of (word w) = 0
last_byte_of (sign s) = 0

-- tokens that stand in a text from byte o on, each with its last byte
pub data Placed : ℕ → List TextToken → List ℕ → List ℕ → Type 0 where
  end : {o : ℕ} {x : List ℕ} → Ending x → Placed o [] x []
  token : {o : ℕ} {g rest x : List ℕ} {ts : List TextToken} {lasts : List ℕ} (t : TextToken) → x ≡ g ++ (token_bytes t ++ rest) → Gap g → MayFollow t rest → Placed (o + length g + length (token_bytes t)) ts rest lasts
      → Placed o (t ∷ ts) x ((o + length g + last_byte_of t) ∷ lasts)

-- how many tags, strings and programs end in a row of tokens: <t/> mentions its tag twice, and a program ends with its }
abbrev pub programs_ended : Sign → ℕ
programs_ended DEFINED = 0
programs_ended ASSIGNED = 0
programs_ended OPEN = 0
programs_ended CLOSE = 0
programs_ended BRACE = 0
programs_ended UNBRACE = 1
programs_ended DOT = 0
programs_ended BAR = 0
programs_ended STAR = 0
programs_ended SEMICOLON = 0
programs_ended EQUALS = 0

pub record HowMany : Type 0 where
  pub tags : ℕ
  pub strings : ℕ
  pub programs : ℕ

abbrev pub plus_each : ℕ → ℕ → ℕ → HowMany → HowMany
plus_each a b c n = record { tags = a + n.tags; strings = b + n.strings; programs = c + n.programs }

abbrev pub counted : TextToken → HowMany → HowMany
counted (nonterminal n) c = c
counted (value v) c = c
counted (attribute m a) c = c
counted (name n) c = plus_each 1 0 0 c
counted (start_tag n) c = plus_each 1 0 0 c
counted (end_tag n) c = plus_each 1 0 0 c
counted (empty_tag n) c = plus_each 2 0 0 c
counted (string cs) c = plus_each 0 1 0 c
counted (word w) c = c
counted (sign s) c = plus_each 0 0 (programs_ended s) c

abbrev pub up_to : List TextToken → HowMany
up_to [] = record { tags = 0; strings = 0; programs = 0 }
up_to (t ∷ ts) = counted t (up_to ts)

-- the first so many of the tags, strings and programs of rules have room
pub record RoomFor (r : Rules) (n : HowMany) : Type 0 where
  pub few_tags : length (distinct (take n.tags (tags_mentioned (in_rules r.productions)))) ≤ most_tags
  pub short_programs : length (run_together (distinct (take n.programs (bytes_of_each r (programs_mentioned (in_rules r.productions)))))) ≤ most_program_bytes
  pub short_strings : length (run_together (distinct (take n.strings (strings_mentioned (in_rules r.productions))))) ≤ most_string_bytes

-- k is the element of that number
abbrev pub NthByte : List ℕ → ℕ → ℕ → Type 0
NthByte [] i k = ⊥
NthByte (x ∷ l) zero k = k ≡ x
NthByte (x ∷ l) (suc i) k = NthByte l i k

-- those that end before byte k have room, and with the one that ends at k they have none
pub record ByteOf41 (text : List ℕ) (r : Rules) (k : ℕ) : Type 0 where
  pub tokens : List TextToken
  pub lasts : List ℕ
  pub placed : Placed 0 tokens text lasts
  pub grammatical : RulesAre tokens r
  pub number : ℕ
  pub there : NthByte lasts number k
  pub before : RoomFor r (up_to (take number tokens))
  pub no_more : RoomFor r (up_to (take (suc number) tokens)) → ⊥
