-- A grammar's productions, the next symbols, and which of them an atom can be.
-- Assumes nothing.
use Rattle.std.specs.Prelude.{◌≡◌, Bool, true, false, ◌||◌, List, [], ◌∷◌, ◌++◌, ℕ, zero, suc, ◌+◌, ◌≤◌, ◌<◌, eqb}
use Rattle.limits.specs.Limits.{most_tags}
use Rattle.expressions.specs.Expr.{Atom, nonterminal, anychar, Content, nothing, nodes_of}

pub record Production : Type 0 where
  pub nonterm : ℕ
  pub tagno : ℕ
  pub content : Content

-- a list of what is given, where the test holds
abbrev pub only_if : {A : Type 0} → Bool → A → List A
only_if true x = x ∷ []
only_if false x = []

-- d is production number q
abbrev pub Nth : List Production → ℕ → Production → Type 0
Nth [] q d = ⊥
Nth (d' ∷ ds) zero d = d ≡ d'
Nth (d' ∷ ds) (suc q) d = Nth ds q d

-- production q's expression
abbrev pub content_of : List Production → ℕ → Content
content_of [] q = nothing
content_of (d ∷ ds) zero = d.content
content_of (d ∷ ds) (suc q) = content_of ds q

-- the limits that a sheet of n tags sets: tags 0 to n - 1, 64 at most, and nonterminals 0 to 63
abbrev pub last_nonterminal : ℕ
last_nonterminal = 63

abbrev pub nonterminals : ℕ
nonterminals = suc last_nonterminal

abbrev pub Numbered : ℕ → List Production → Type 0
Numbered n [] = Unit {0}
Numbered n (d ∷ ds) = (d.nonterm < nonterminals) × (d.tagno < n) × Numbered n ds

pub record Small (n : ℕ) (g : List Production) : Type 0 where
  pub few_tags : n ≤ most_tags
  pub numbered : Numbered n g

-- the nodes of all productions
abbrev pub nodes_in : List Production → ℕ
nodes_in [] = 0
nodes_in (d ∷ ds) = nodes_of d.content + nodes_in ds

-- the tags of a nonterminal's productions
abbrev pub tags_of : List Production → ℕ → List ℕ
tags_of [] n = []
tags_of (d ∷ ds) n = only_if (eqb n d.nonterm) d.tagno ++ tags_of ds n

-- a next symbol, and its byte
pub data Next : Type 0 where
  tag : ℕ → Next
  character : Next
  end : Next

abbrev pub byte_of : Next → ℕ
byte_of (tag t) = t
byte_of character = 254
byte_of end = 255

-- the symbols that an atom can be, where `tags` gives each nonterminal's tags: each of its own, or a character
abbrev pub memb : ℕ → List ℕ → Bool
memb t [] = false
memb t (s ∷ ts) = eqb t s || memb t ts

abbrev pub can_be : (ℕ → List ℕ) → Atom → Next → Bool
can_be tags (nonterminal n) (tag t) = memb t (tags n)
can_be tags (nonterminal n) character = false
can_be tags (nonterminal n) end = false
can_be tags anychar (tag t) = false
can_be tags anychar character = true
can_be tags anychar end = false
