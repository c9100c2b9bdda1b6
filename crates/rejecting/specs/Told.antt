-- What the parts of naming hand on: of a row of brackets, of an event, of a token, of a run that is ready.
-- Assumes nothing.
use Rattle.std.specs.Prelude.{Option as Answered, Some, None, ◌≡◌, true, false, List, ℕ, suc, ◌≤◌, ◌<◌, length, get_or}
use Rattle.std.proofs.Math.Option.{Option, some}
use Rattle.limits.specs.Limits.{deepest_tree}
use Rattle.expressions.specs.Words.{Bracket}
use Rattle.tokens.specs.declared.Event.{Event as Read}
use Rattle.trees.specs.declared.Symbol.{Symbol}
use Rattle.trees.specs.declared.Symbol.TheVariants.{Tag, Character, End}
use Rattle.sheet.specs.Sheet.{Sheet, IsSheet}
use Rattle.ways.specs.Held.{code_of, codes}
use Rattle.runs.specs.Events.{Event, starts, ends, letter}
use Rattle.runs.specs.Nodes.{through_nodes}
use Rattle.runs.specs.Acts.{Act, Store, bracket_act, bracket_acts, acts}
use Rattle.runs.specs.Machine.{Open, inside}
use Rattle.calls.specs.Names.{token_of}
use Rattle.lookups.specs.Found.{ProductionFound}
use Rattle.fit.specs.RunFits.{RunFits}
use Rattle.state.specs.Changes.{top_of}
use Rattle.state.specs.Meaning.{meaning_of, Shaped}
use Rattle.state.specs.declared.State.{State}
use Rattle.steps.specs.Stepped.{tag_in}
use Rattle.rejecting.specs.First.{FirstRejects, EventRejects, TokenRejects}
use Rattle.rejecting.specs.Named.{act_of}
use Rattle.rejecting.specs.declared.Rejecter.{Rejecter}
use Rattle.rejecting.specs.declared.Rejecter.TheVariants.{Element, Nobody}

-- the number of the first bracket whose visit rejects; as many as there are where none does
pub data FirstBracket (a : Sheet) (q : ℕ) (α : List Bracket) (m : Store) (r : ℕ) : Type 0 where
  all_pass : (m' : Store) → acts a (bracket_acts q α) m ≡ some m' → r ≡ length (codes α) → FirstBracket a q α m r
  one_rejects : (c : Bracket) → get_or (codes α) r 0 ≡ code_of c → r < length (codes α) → FirstRejects a (bracket_acts q α) m (bracket_act q c) → FirstBracket a q α m r

-- the same of the brackets whose bytes are the line, where its openings and closings fit the sets that are kept
pub record FirstBracketAs (s : List ℕ) (q : ℕ) (line : List ℕ) (z : State) (r : ℕ) : Type 0 where
  pub few : r ≤ length line
  pub right : (a : Sheet) → IsSheet s a → (α : List Bracket) → line ≡ codes α → Shaped z → (o : Open) (os : List Open) → (meaning_of z).control ≡ inside o os →
      (ns ns' : List ℕ) → through_nodes deepest_tree α ns ≡ some ns' → (top_of z).«open» ≡ suc (length ns) → FirstBracket a q α (meaning_of z).store r

-- the visit of the bracket whose byte is c
pub record BracketNamed (q c : ℕ) (r : Rejecter) : Type 0 where
  pub is : (b : Bracket) → c ≡ code_of b → act_of r ≡ some (bracket_act q b)

-- the start tag of a production as it was looked up
abbrev pub starting : Answered ℕ → Rejecter
starting None = Nobody
starting (Some p) = Element p false

-- the act behind the brackets: the start tag's of the first production of nonterminal n with that tag, the end tag's of production q; a character's rejects nothing
abbrev pub LastNamed : Symbol → List ℕ → ℕ → ℕ → Rejecter → Type 0
LastNamed (Tag t) s q n r = (p : Answered ℕ) × ProductionFound s n t p × (r ≡ starting p)
LastNamed Character s q n r = r ≡ Nobody
LastNamed End s q n r = r ≡ Element q true

-- the events that ask for a next symbol
pub data AsksFor : Symbol → Event → Type 0 where
  for_tag : {t : ℕ} → AsksFor (Tag t) (starts (some t))
  for_end : {t : Option ℕ} → AsksFor End (ends t)
  for_character : {c : ℕ} → AsksFor Character (letter c)

-- of an event that asks for the symbol x, of the start of a tag as it was looked up, and of the token e of a part: where an act rejects it, that one is named
pub record EventTold (s : List ℕ) (x : Symbol) (z : State) (r : Rejecter) : Type 0 where
  pub right : (a : Sheet) → IsSheet s a → Shaped z → RunFits a (meaning_of z) → (y : Event) → AsksFor x y → (b : Act) → EventRejects a (meaning_of z) y b → act_of r ≡ some b

pub record StartTold (s : List ℕ) (t : Answered ℕ) (z : State) (r : Rejecter) : Type 0 where
  pub right : (a : Sheet) → IsSheet s a → Shaped z → RunFits a (meaning_of z) → (b : Act) → EventRejects a (meaning_of z) (starts (tag_in t)) b → act_of r ≡ some b

pub record TokenTold (s part : List ℕ) (e : Read) (z : State) (r : Rejecter) : Type 0 where
  pub right : (a : Sheet) → IsSheet s a → Shaped z → RunFits a (meaning_of z) → (b : Act) → TokenRejects a (meaning_of z) (token_of a part e) b → act_of r ≡ some b

-- the answer for the token e of a part: the act that rejects it, and nobody where none does
pub data AnswersFor (s part : List ℕ) (e : Read) (z : State) (r : Rejecter) : Type 0 where
  names : (a : Sheet) → IsSheet s a → (b : Act) → TokenRejects a (meaning_of z) (token_of a part e) b → act_of r ≡ some b → AnswersFor s part e z r
  nobody : ((a : Sheet) → IsSheet s a → (b : Act) → TokenRejects a (meaning_of z) (token_of a part e) b → ⊥) → r ≡ Nobody → AnswersFor s part e z r
