-- What is promised of the language: it is what the words of the bracketed expression are without their brackets and numbers.
-- Assumes nothing.
use Rattle.std.specs.Prelude.{◌≡◌, List, [], ◌∷◌, ◌↔◌}
use Rattle.expressions.specs.Expr.{Atom, Content}
use Rattle.expressions.specs.Words.{Sym, br, at, Words}
use Rattle.language.specs.Language.{LanguageOf}

abbrev pub atoms_in : List Sym → List Atom
atoms_in [] = []
atoms_in (br c ∷ w) = atoms_in w
atoms_in (at j k ∷ w) = k ∷ atoms_in w

abbrev pub WithoutBrackets : Type 0
WithoutBrackets = (c : Content) (w : List Atom) → LanguageOf c w ↔ ((u : List Sym) × Words c u × (w ≡ atoms_in u))
