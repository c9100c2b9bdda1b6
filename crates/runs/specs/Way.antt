-- The bracket string from a place to the next atom that can be a symbol, or to the end, found over the expression's tree.
-- Where rule S finds no fault there is no other.
-- Assumes nothing.
use Rattle.std.specs.Prelude.{List, [], ◌∷◌, ◌++◌, ℕ, zero, suc, ◌+◌, eqb}
use Rattle.std.proofs.Math.Option.{Option, none, some}
use Rattle.expressions.specs.Expr.{Atom, Exp, atom, cat, alt, star, empty, nodes, atoms, Content, nothing, tree}
use Rattle.expressions.specs.Words.{Bracket, opening, closing}
use Rattle.expressions.specs.Grammar.{Next, can_be}
use Rattle.runs.specs.Options.{bind, or_else, when_true}

-- a bracket string, the atom that it leads to, and what that atom is
pub record Way : Type 0 where
  pub string : List Bracket
  pub place : ℕ
  pub kind : Atom

abbrev pub joined : Option (List Bracket) → Option (List Bracket) → Option (List Bracket)
joined o o' = bind o (λ α. bind o' (λ β. some (α ++ β)))

-- a string in front of a way
abbrev pub after_string : List Bracket → Way → Way
after_string α w = record { string = α ++ w.string; place = w.place; kind = w.kind }

abbrev pub led : Option (List Bracket) → Option Way → Option Way
led o o' = bind o (λ α. bind o' (λ w. some (after_string α w)))

abbrev pub opened : ℕ → Option Way → Option Way
opened i o = bind o (λ w. some (after_string (opening i ∷ []) w))

abbrev pub closed : ℕ → Option (List Bracket) → Option (List Bracket)
closed i o = bind o (λ α. some (α ++ closing i ∷ []))

abbrev pub enclosed : ℕ → Option (List Bracket) → Option (List Bracket)
enclosed i o = bind o (λ α. some (opening i ∷ (α ++ closing i ∷ [])))

-- from the start to the end; the expression's first bracket is i
abbrev pub through : Exp → ℕ → Option (List Bracket)
through (atom k) i = none
through (cat l r) i = enclosed i (joined (through l (suc i)) (through r (suc i + nodes l)))
through (alt l r) i = enclosed i (or_else (through l (suc i)) (through r (suc i + nodes l)))
through (star e) i = enclosed i (some [])
through empty i = enclosed i (some [])

-- from the start to an atom that can be x; its first atom is j
abbrev pub into : (ℕ → List ℕ) → Exp → ℕ → ℕ → Next → Option Way
into tags (atom k) i j x = opened i (when_true (can_be tags k x) (record { string = []; place = j; kind = k }))
into tags (cat l r) i j x =
    opened i (or_else (into tags l (suc i) j x) (led (through l (suc i)) (into tags r (suc i + nodes l) (j + atoms l) x)))
into tags (alt l r) i j x = opened i (or_else (into tags l (suc i) j x) (into tags r (suc i + nodes l) (j + atoms l) x))
into tags (star e) i j x = opened i (into tags e (suc i) j x)
into tags empty i j x = none

-- from just after atom p to the end
abbrev pub out_of_lem : Exp → ℕ → ℕ → ℕ → Option (List Bracket)
out_of_lem (atom k) i j p = closed i (when_true (eqb p j) [])
out_of_lem (cat l r) i j p =
    closed i (or_else (joined (out_of_lem l (suc i) j p) (through r (suc i + nodes l))) (out_of_lem r (suc i + nodes l) (j + atoms l) p))
out_of_lem (alt l r) i j p = closed i (or_else (out_of_lem l (suc i) j p) (out_of_lem r (suc i + nodes l) (j + atoms l) p))
out_of_lem (star e) i j p = closed i (out_of_lem e (suc i) j p)
out_of_lem empty i j p = none

-- from just after atom p to an atom that can be x
abbrev pub across : (ℕ → List ℕ) → Exp → ℕ → ℕ → ℕ → Next → Option Way
across tags (atom k) i j p x = none
across tags (cat l r) i j p x =
    or_else (or_else (across tags l (suc i) j p x) (led (out_of_lem l (suc i) j p) (into tags r (suc i + nodes l) (j + atoms l) x)))
    (across tags r (suc i + nodes l) (j + atoms l) p x)
across tags (alt l r) i j p x = or_else (across tags l (suc i) j p x) (across tags r (suc i + nodes l) (j + atoms l) p x)
across tags (star e) i j p x = or_else (across tags e (suc i) j p x) (led (out_of_lem e (suc i) j p) (into tags e (suc i) j x))
across tags empty i j p x = none

-- from a place to the end, and to an atom that can be x
abbrev pub end_way : Content → ℕ → Option (List Bracket)
end_way nothing zero = some []
end_way nothing (suc p) = none
end_way (tree e) zero = through e 1
end_way (tree e) (suc p) = out_of_lem e 1 1 (suc p)

abbrev pub atom_way : (ℕ → List ℕ) → Content → ℕ → Next → Option Way
atom_way tags nothing p x = none
atom_way tags (tree e) zero x = into tags e 1 1 x
atom_way tags (tree e) (suc p) x = across tags e 1 1 (suc p) x
