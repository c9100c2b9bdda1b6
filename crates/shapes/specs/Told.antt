-- What is told of a sheet's shape from its bytes, of the grammar that the bytes are.
-- Assumes nothing.
use Rattle.std.specs.Prelude.{Option as Answered, Some, None, IfSome, ◌≡◌, Bool, List, ℕ, ◌<◌, length}
use Rattle.std.proofs.Math.Option.{Option, none, some}
use Rattle.expressions.specs.Grammar.{Production, content_of, tags_of}
use Rattle.trees.specs.GrammarAt.{GrammarIs}
use Rattle.sheet.specs.Sheet.{Sheet, IsSheet}
use Rattle.salvage.specs.Shape.{RecordTags, content_names}
use Rattle.salvage.specs.Shaped.{star_over, single, first_star, shaped_at, every_below, record_tags}
use Rattle.shapes.specs.declared.Shape.{Shape}

-- a number that may be missing, as the code answers it
pub data NumberOr : Option ℕ → Answered ℕ → Type 0 where
  there : {n : ℕ} → n < 256 → NumberOr (some n) (Some n)
  missing : NumberOr none None

-- what production q's expression is a star over
pub record StarTold (s : List ℕ) (q : ℕ) (r : Answered ℕ) : Type 0 where
  pub few : IfSome r (λ i. i < 256)
  pub is : (g : List Production) → GrammarIs s g → NumberOr (star_over (content_of g q)) r

-- the one tag of nonterminal n's productions
pub record TagTold (s : List ℕ) (n : ℕ) (r : Answered ℕ) : Type 0 where
  pub few : IfSome r (λ i. i < 256)
  pub is : (g : List Production) → GrammarIs s g → NumberOr (single (tags_of g n)) r

-- what nonterminal n's first production that is a star over a nonterminal is a star over
pub record FirstTold (s : List ℕ) (n : ℕ) (r : Answered ℕ) : Type 0 where
  pub few : IfSome r (λ i. i < 256)
  pub is : (g : List Production) → GrammarIs s g → NumberOr (first_star g n) r

-- whether production q's expression names nonterminal n
pub record NamesTold (s : List ℕ) (q n : ℕ) (b : Bool) : Type 0 where
  pub is : (g : List Production) → GrammarIs s g → b ≡ content_names n (content_of g q)

-- whether production q has its part in the shape, and whether each has
pub record ShapedTold (s : List ℕ) (start n t r q : ℕ) (b : Bool) : Type 0 where
  pub is : (g : List Production) → GrammarIs s g → b ≡ shaped_at g start n t r q

pub record AllShapedTold (s : List ℕ) (start n t r : ℕ) (b : Bool) : Type 0 where
  pub is : (g : List Production) → GrammarIs s g → b ≡ every_below (length g) (shaped_at g start n t r)

-- the two tags, or none; so 34 is given exactly to a sheet that is not of the shape
abbrev pub tags_seen : Answered Shape → Option RecordTags
tags_seen (Some x) = some (record { root_tag = x.root_tag; record_tag = x.record_tag })
tags_seen None = none

pub record ShapeTold (s : List ℕ) (r : Answered Shape) : Type 0 where
  pub is : (a : Sheet) → IsSheet s a → tags_seen r ≡ record_tags a
