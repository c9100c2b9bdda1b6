-- Where a writer of sheets stands in a text. Assumes nothing.
use Rattle.std.specs.Prelude.{◌≡◌, Ok, Err, false, List, ℕ, suc, ◌+◌, ◌≤◌, length, drop}
use Rattle.notation.specs.Rules.{Rules}
use Rattle.notation.specs.Tokens.{TextToken, token_bytes}
use Rattle.reading.specs.Rules.{Progress}
use Rattle.lexemes.specs.Kinds.{token_kind, token_number, TokenFits}
use Rattle.mentions.specs.SoFar.{so_far}
use Rattle.ledgers.specs.Trodden.{Trodden, TokenAt, LeadsToRules}
use Rattle.ledgers.specs.Space.{SpaceFor}
use Rattle.rulings.specs.declared.Reader.{Reader}
use Rattle.rulings.specs.Readers.{Holds, Firm}
use Rattle.sights.specs.declared.Token.{Token}
use Rattle.sights.specs.Glances.{Glance, GlanceIs}
use Rattle.writing.specs.TooMany.{last_byte_of}
use Rattle.writing.specs.Written.{WrittenAs}
use Rattle.inks.specs.Held.{Trim}
use Rattle.advance.specs.declared.Desk.{Desk}
use Rattle.advance.specs.Advance.{Firmly, DeskHolds}
use Rattle.writer.specs.declared.Ahead.{Ahead}
use Rattle.writer.specs.declared.Walk.{Walk}

-- memory with as many places as a sheet can have
pub record Places (tb te sb se pb pe productions nodes : List ℕ) : Type 0 where
  pub tag_room : length tb ≡ 960
  pub tag_places : length te ≡ 64
  pub string_room : length sb ≡ 8192
  pub string_places : length se ≡ 8193
  pub program_room : length pb ≡ 16384
  pub program_places : length pe ≡ 16385
  pub production_room : length productions ≡ 768
  pub node_room : length nodes ≡ 1536

-- nothing is kept yet
pub record FreshDesk (d : Desk) : Type 0 where
  pub trim : Trim d.ink
  pub no_tags : d.shelved.tags ≡ 0
  pub no_strings : d.shelved.strings ≡ 0
  pub no_programs_lem : d.shelved.programs ≡ 0
  pub no_start : d.slip.start ≡ 0
  pub no_nonterm : d.slip.nonterm ≡ 0
  pub no_tag : d.slip.tag ≡ 0
  pub no_front : d.slip.front ≡ 0xFFFF
  pub no_back : d.slip.back ≡ 0xFFFF
  pub no_productions : d.past.productions ≡ 0
  pub none_before : d.past.before ≡ 0
  pub no_nodes : d.past.nodes ≡ 0

pub record LastIs (kind number long r : ℕ) : Type 0 where
  pub is : (t : TextToken) → TokenFits t → kind ≡ token_kind t → number ≡ token_number t → long ≡ length (token_bytes t) → r ≡ last_byte_of t

-- behind some tokens: the next one, or the end, is in sight
pub record Under (text : List ℕ) (from : ℕ) (reader : Reader) (g : Glance) (d : Desk) (tb te sb se pb pe productions nodes : List ℕ) : Type 0 where
  pub high : from ≤ length text
  pub firmly : Firmly d tb te sb se pb pe productions nodes
  pub state : Progress
  pub trodden : Trodden text from state
  pub holds : Holds state reader
  pub glance : GlanceIs (drop from text) reader g
  pub kept : (r : Rules) → LeadsToRules state r → DeskHolds r state d tb te sb se pb pe productions nodes

-- behind a token for which a store had no room
pub record WalkStopped (text : List ℕ) (from byte : ℕ) (reader : Reader) : Type 0 where
  pub high : from ≤ length text
  pub firm : Firm reader
  pub begun : ℕ
  pub at : ℕ
  pub long : ℕ
  pub state : Progress
  pub next : Progress
  pub token : TextToken
  pub from_is : from ≡ begun + (at + long)
  pub byte_is : byte ≡ begun + at + last_byte_of token
  pub trodden : Trodden text begun state
  pub stands : TokenAt state (drop begun text) at long token next
  pub holds : Holds next reader
  pub space : (r : Rules) → LeadsToRules state r → SpaceFor r (so_far state)
  pub no_space : (r : Rules) → LeadsToRules next r → SpaceFor r (so_far next) → ⊥

-- then 41, or 40 further on; and the lent area stays as it was
abbrev pub LateIs : List ℕ → ℕ → ℕ → Type 0
LateIs text number count = (area : List ℕ) → WrittenAs text area number count area

-- what was found behind a gap, as what a writer has before it
abbrev pub ahead_of : Glance → Ahead
ahead_of (Ok t) = Ahead.Token t
ahead_of (Err a) = Ahead.End a

abbrev pub NoToken : Ahead → Type 0
NoToken a = (t : Token) → a ≡ Ahead.Token t → ⊥

abbrev pub WalkAhead : List ℕ → ℕ → Reader → Desk → List ℕ → List ℕ → List ℕ → List ℕ → List ℕ → List ℕ → List ℕ → List ℕ → Ahead → Type 0
WalkAhead text from reader d tb te sb se pb pe productions nodes (Ahead.Token t) = Under text from reader (Ok t) d tb te sb se pb pe productions nodes
WalkAhead text from reader d tb te sb se pb pe productions nodes (Ahead.End a) = Under text from reader (Err a) d tb te sb se pb pe productions nodes
WalkAhead text from reader d tb te sb se pb pe productions nodes (Ahead.Full byte) = WalkStopped text from byte reader

abbrev pub WalkIs : List ℕ → Walk → List ℕ → List ℕ → List ℕ → List ℕ → List ℕ → List ℕ → List ℕ → List ℕ → Type 0
WalkIs text w tb te sb se pb pe productions nodes = WalkAhead text w.from w.reader w.desk tb te sb se pb pe productions nodes w.ahead

-- one token further, and at least one byte
pub record WalkedOn (text : List ℕ) (w : Walk) (tb te sb se pb pe productions nodes : List ℕ) (r : Walk) : Type 0 where
  pub onward : suc w.from ≤ r.from
  pub inside : r.from ≤ length text
  pub places : Places tb te sb se pb pe productions nodes
  pub walk : WalkIs text r tb te sb se pb pe productions nodes

-- before the first token, whatever the memory holds
pub record Begun (text : List ℕ) (w : Walk) : Type 0 where
  pub none_read : w.from ≡ 0
  pub walk : (tb te sb se pb pe productions nodes : List ℕ) → Places tb te sb se pb pe productions nodes → WalkIs text w tb te sb se pb pe productions nodes
