-- What is answered of a sheet's productions and its grammar. Assumes nothing.
use Rattle.std.specs.Prelude.{◌≡◌, Bool, false, cond, ◌&&◌, List, ℕ, zero, suc, ◌+◌, ◌≤◌, eqb, ltb}
use Rattle.expressions.specs.Expr.{anychar, atoms_of}
use Rattle.expressions.specs.Grammar.{Production, Nth, can_be}
use Rattle.layout.specs.Layout.{production_count}
use Rattle.layout.specs.Records.{nonterminal_of, tag_number_of, node_count_of}
use Rattle.trees.specs.declared.Symbol.{Symbol}
use Rattle.trees.specs.declared.Symbol.TheVariants.{Tag, Character, End}
use Rattle.trees.specs.GrammarAt.{GrammarIs}
use Rattle.trees.specs.Symbol.{next_of}

-- of the productions before q, those of nonterminal m and tag t
abbrev pub alike_before : List ℕ → ℕ → ℕ → ℕ → ℕ
alike_before s m t zero = 0
alike_before s m t (suc q) = alike_before s m t q + cond (eqb m (nonterminal_of s q) && eqb t (tag_number_of s q)) 1 0

-- r productions are of nonterminal m and tag t
pub record AlikeIs (s : List ℕ) (m t r : ℕ) : Type 0 where
  pub few : r ≤ production_count s
  pub is : r ≡ alike_before s m t (production_count s)

-- whether nonterminal n can be the symbol x: a production of it has that tag
abbrev pub can_be_in : List ℕ → ℕ → Symbol → Bool
can_be_in s n (Tag t) = ltb 0 (alike_before s n t (production_count s))
can_be_in s n Character = false
can_be_in s n End = false

pub record CanBeIs (s : List ℕ) (n : ℕ) (x : Symbol) (r : Bool) : Type 0 where
  pub is : r ≡ can_be_in s n x

-- whether a character can be the symbol x
pub record CharacterIs (x : Symbol) (r : Bool) : Type 0 where
  pub is : (tags : ℕ → List ℕ) → r ≡ can_be tags anychar (next_of x)

-- r is the number of production q's atoms
pub record AtomsIs (s : List ℕ) (q r : ℕ) : Type 0 where
  pub few : r ≤ node_count_of s q
  pub is : (g : List Production) → GrammarIs s g → (d : Production) → Nth g q d → r ≡ atoms_of d.content
