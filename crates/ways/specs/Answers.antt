-- The way that is answered for a production of a sheet's grammar.
-- Assumes nothing.
use Rattle.std.specs.Prelude.{Option as Past, IfSome, MatchOption, ◌≡◌, List, ℕ, ◌*◌, ◌≤◌, length, drop}
use Rattle.expressions.specs.Grammar.{Production, Nth, tags_of}
use Rattle.expressions.specs.FaultList.{KeepsS}
use Rattle.runs.specs.Way.{end_way, atom_way}
use Rattle.limits.specs.Limits.{nodes_at_most}
use Rattle.few.specs.Strings.{most_brackets}
use Rattle.trees.specs.declared.Symbol.{Symbol}
use Rattle.trees.specs.declared.Symbol.TheVariants.{Tag, Character, End}
use Rattle.trees.specs.GrammarAt.{GrammarIs}
use Rattle.trees.specs.Symbol.{next_of}
use Rattle.ways.specs.declared.Way.{Way}
use Rattle.ways.specs.Held.{length_of, LineIs, WayIs}

-- the bytes' grammar keeps rule S
abbrev pub FollowsS : List ℕ → Type 0
FollowsS s = (g : List Production) → GrammarIs s g → KeepsS g

-- no attempt is longer: four brackets for each node of a production. A way, which is what comes of one, has at most two
abbrev pub most_tried : ℕ
most_tried = 4 * nodes_at_most

-- from the place p of production q to the end: the lent bytes b have room for it
pub record EndWayIs (s : List ℕ) (q p : ℕ) (r : Past ℕ) (b : List ℕ) : Type 0 where
  pub few : IfSome r (λ n. n ≤ most_brackets)
  pub room : most_brackets ≤ length b
  pub is : (g : List Production) → GrammarIs s g → (d : Production) → Nth g q d → LineIs (end_way d.content p) r b

-- from there to the next atom that can be x
pub record AtomWayIs (s : List ℕ) (q p : ℕ) (x : Symbol) (r : Past Way) (b : List ℕ) : Type 0 where
  pub few : IfSome r (λ w. w.length ≤ most_brackets)
  pub room : most_brackets ≤ length b
  pub is : (g : List Production) → GrammarIs s g → (d : Production) → Nth g q d → WayIs (atom_way (tags_of g) d.content p (next_of x)) r b

-- from there to the symbol x; the way to the end leads to no atom
abbrev pub WayTold : Symbol → List ℕ → ℕ → ℕ → Past Way → List ℕ → Type 0
WayTold (Tag t) s q p r b = AtomWayIs s q p (Tag t) r b
WayTold Character s q p r b = AtomWayIs s q p Character r b
WayTold End s q p r b = EndWayIs s q p (length_of r) b × IfSome r (λ w. (w.place ≡ 0) × (w.kind ≡ 0) × (w.argument ≡ 0))

-- the same in the first of the lent bytes; those behind it stay as they were, and all of them where there is no way
pub record WayAs (s : List ℕ) (q p : ℕ) (x : Symbol) (lent : List ℕ) (r : Past Way) (d : List ℕ) : Type 0 where
  pub few : IfSome r (λ w. w.length ≤ most_brackets)
  pub long : length d ≡ length lent
  pub told : WayTold x s q p r d
  pub behind : MatchOption r (d ≡ lent) (λ w. drop w.length d ≡ drop w.length lent)
