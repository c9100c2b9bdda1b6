-- The numbers of bracket strings of an expression, none, one or many, by its tree.
-- Assumes nothing.
use Rattle.std.specs.Prelude.{List, ℕ, zero, suc, ◌+◌, eqb}
use Rattle.expressions.specs.Expr.{Exp, atom, cat, alt, star, empty, atoms, Content, nothing, tree}
use Rattle.expressions.specs.Grammar.{Next, tag, character, end, can_be}
use Rattle.expressions.specs.Count.{Count, none, one, add, mul, rep, bit}

-- from the start to the end
abbrev pub null : Exp → Count
null (atom k) = none
null (cat l r) = mul (null l) (null r)
null (alt l r) = add (null l) (null r)
null (star e) = rep (null e) one
null empty = one

-- from the start to an atom that can be x
abbrev pub first : (ℕ → List ℕ) → Exp → Next → Count
first tags (atom k) x = bit (can_be tags k x)
first tags (cat l r) x = add (first tags l x) (mul (null l) (first tags r x))
first tags (alt l r) x = add (first tags l x) (first tags r x)
first tags (star e) x = rep (null e) (first tags e x)
first tags empty x = none

-- from just after atom p to the end; the expression's first atom is j
abbrev pub last : Exp → ℕ → ℕ → Count
last (atom k) j p = bit (eqb p j)
last (cat l r) j p = add (mul (last l j p) (null r)) (last r (j + atoms l) p)
last (alt l r) j p = add (last l j p) (last r (j + atoms l) p)
last (star e) j p = mul (last e j p) (rep (null e) one)
last empty j p = none

-- from just after atom p to an atom that can be x
abbrev pub follow : (ℕ → List ℕ) → Exp → ℕ → ℕ → Next → Count
follow tags (atom k) j p x = none
follow tags (cat l r) j p x =
    add (add (follow tags l j p x) (mul (last l j p) (first tags r x))) (follow tags r (j + atoms l) p x)
follow tags (alt l r) j p x = add (follow tags l j p x) (follow tags r (j + atoms l) p x)
follow tags (star e) j p x = add (follow tags e j p x) (mul (last e j p) (rep (null e) (first tags e x)))
follow tags empty j p x = none

-- from a place to the end, and to an atom that can be x
abbrev pub to_end : Content → ℕ → Count
to_end nothing zero = one
to_end nothing (suc p) = none
to_end (tree e) zero = null e
to_end (tree e) (suc p) = last e 1 (suc p)

abbrev pub to_atom : (ℕ → List ℕ) → Content → ℕ → Next → Count
to_atom tags nothing p x = none
to_atom tags (tree e) zero x = first tags e x
to_atom tags (tree e) (suc p) x = follow tags e 1 (suc p) x

-- from a place to a next symbol
abbrev pub count : (ℕ → List ℕ) → Content → ℕ → Next → Count
count tags e p (tag t) = to_atom tags e p (tag t)
count tags e p character = to_atom tags e p character
count tags e p end = to_end e p
