-- Rule S: what a fault at a place and a next symbol is.
-- Assumes nothing.
use Rattle.std.specs.Prelude.{◌≡◌, true, List, [], ◌∷◌, ◌++◌, ℕ, zero, suc}
use Rattle.expressions.specs.Expr.{Atom, Content}
use Rattle.expressions.specs.Words.{Bracket, Sym, at, ◌▷◌, Words}
use Rattle.expressions.specs.Grammar.{Next, tag, character, end, can_be}

-- u is what a word has up to and including the place: nothing for place 0, else it ends with that atom
abbrev pub UpTo : ℕ → List Sym → Type 0
UpTo zero u = u ≡ []
UpTo (suc p) u = (v : List Sym) × (k : Atom) × (u ≡ v ++ at (suc p) k ∷ [])

-- the bracket string α leads to an atom that can be x, in a word of e that starts with u
abbrev pub Leads : (ℕ → List ℕ) → Content → List Sym → Next → List Bracket → Type 0
Leads tags e u x α =
    (j : ℕ) × (k : Atom) × (v : List Sym) × (can_be tags k x ≡ true) × Words e (u ++ (α ▷ at j k ∷ v))

-- α leads to x after u: to an atom that can be x, or to the end
abbrev pub GoesOn : (ℕ → List ℕ) → Content → List Sym → Next → List Bracket → Type 0
GoesOn tags e u (tag t) α = Leads tags e u (tag t) α
GoesOn tags e u character α = Leads tags e u character α
GoesOn tags e u end α = Words e (u ++ (α ▷ []))

-- two words of the bracketed expression agree up to and including the place, and then go on by two different bracket
-- strings to an atom that can be x, or both to the end
pub record Fault (tags : ℕ → List ℕ) (e : Content) (place : ℕ) (x : Next) : Type 0 where
  pub agreed : List Sym
  pub up_to : UpTo place agreed
  pub first_string : List Bracket
  pub second_string : List Bracket
  pub different : first_string ≡ second_string → ⊥
  pub first_goes : GoesOn tags e agreed x first_string
  pub second_goes : GoesOn tags e agreed x second_string
