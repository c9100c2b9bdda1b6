-- The first two bracket strings from a place to a next symbol, in a fixed order, by the expression's tree: as the counts of Decide, with the strings themselves.
-- Assumes nothing.
use Rattle.std.specs.Prelude.{Bool, true, false, List, [], ◌∷◌, ◌++◌, ℕ, zero, suc, ◌+◌, eqb}
use Rattle.expressions.specs.Expr.{Exp, atom, cat, alt, star, empty, nodes, atoms, Content, nothing, tree}
use Rattle.expressions.specs.Words.{Bracket, opening, closing}
use Rattle.expressions.specs.Grammar.{Next, tag, character, end, can_be}

-- no string, the only one, or the first two
pub data Firsts : Type 0 where
  no_string : Firsts
  one_string : List Bracket → Firsts
  two_strings : List Bracket → List Bracket → Firsts

-- the strings of the first, then those of the second
abbrev pub either : Firsts → Firsts → Firsts
either no_string g = g
either (one_string α) no_string = one_string α
either (one_string α) (one_string β) = two_strings α β
either (one_string α) (two_strings β γ) = two_strings α β
either (two_strings α β) g = two_strings α β

-- each, changed
abbrev pub each_changed : (List Bracket → List Bracket) → Firsts → Firsts
each_changed h no_string = no_string
each_changed h (one_string α) = one_string (h α)
each_changed h (two_strings α β) = two_strings (h α) (h β)

-- one of the first and then one of the second
abbrev pub both : Firsts → Firsts → Firsts
both no_string g = no_string
both (one_string α) g = each_changed (λ β. α ++ β) g
both (two_strings α β) no_string = no_string
both (two_strings α β) (one_string γ) = two_strings (α ++ γ) (β ++ γ)
both (two_strings α β) (two_strings γ δ) = two_strings (α ++ γ) (α ++ δ)

-- any number of turns of the first, and then one of the second: none, or one more
abbrev pub goes_round : Firsts → Firsts → Firsts
goes_round no_string g = g
goes_round (one_string α) no_string = no_string
goes_round (one_string α) (one_string γ) = two_strings γ (α ++ γ)
goes_round (one_string α) (two_strings γ δ) = two_strings γ δ
goes_round (two_strings α β) no_string = no_string
goes_round (two_strings α β) (one_string γ) = two_strings γ (α ++ γ)
goes_round (two_strings α β) (two_strings γ δ) = two_strings γ δ

abbrev pub when : Bool → Firsts
when true = one_string []
when false = no_string

-- brackets before, behind and around
abbrev pub each_opened : ℕ → Firsts → Firsts
each_opened i f = each_changed (λ α. opening i ∷ α) f

abbrev pub each_closed : ℕ → Firsts → Firsts
each_closed i f = each_changed (λ α. α ++ closing i ∷ []) f

abbrev pub each_enclosed : ℕ → Firsts → Firsts
each_enclosed i f = each_opened i (each_closed i f)

-- from the start to the end; the expression's first bracket is i
abbrev pub firsts_through : Exp → ℕ → Firsts
firsts_through (atom k) i = no_string
firsts_through (cat l r) i = each_enclosed i (both (firsts_through l (suc i)) (firsts_through r (suc i + nodes l)))
firsts_through (alt l r) i = each_enclosed i (either (firsts_through l (suc i)) (firsts_through r (suc i + nodes l)))
firsts_through (star e) i = each_enclosed i (goes_round (firsts_through e (suc i)) (one_string []))
firsts_through empty i = each_enclosed i (one_string [])

-- from the start to an atom that can be x
abbrev pub firsts_into : (ℕ → List ℕ) → Exp → ℕ → Next → Firsts
firsts_into tags (atom k) i x = each_opened i (when (can_be tags k x))
firsts_into tags (cat l r) i x = each_opened i (either (firsts_into tags l (suc i) x) (both (firsts_through l (suc i)) (firsts_into tags r (suc i + nodes l) x)))
firsts_into tags (alt l r) i x = each_opened i (either (firsts_into tags l (suc i) x) (firsts_into tags r (suc i + nodes l) x))
firsts_into tags (star e) i x = each_opened i (goes_round (firsts_through e (suc i)) (firsts_into tags e (suc i) x))
firsts_into tags empty i x = no_string

-- from just after atom p to the end; the expression's first atom is j
abbrev pub firsts_out_of : Exp → ℕ → ℕ → ℕ → Firsts
firsts_out_of (atom k) i j p = each_closed i (when (eqb p j))
firsts_out_of (cat l r) i j p =
    each_closed i (either (both (firsts_out_of l (suc i) j p) (firsts_through r (suc i + nodes l))) (firsts_out_of r (suc i + nodes l) (j + atoms l) p))
firsts_out_of (alt l r) i j p = each_closed i (either (firsts_out_of l (suc i) j p) (firsts_out_of r (suc i + nodes l) (j + atoms l) p))
firsts_out_of (star e) i j p = each_closed i (both (firsts_out_of e (suc i) j p) (goes_round (firsts_through e (suc i)) (one_string [])))
firsts_out_of empty i j p = no_string

-- from just after atom p to an atom that can be x
abbrev pub firsts_across : (ℕ → List ℕ) → Exp → ℕ → ℕ → ℕ → Next → Firsts
firsts_across tags (atom k) i j p x = no_string
firsts_across tags (cat l r) i j p x =
    either (either (firsts_across tags l (suc i) j p x) (both (firsts_out_of l (suc i) j p) (firsts_into tags r (suc i + nodes l) x)))
    (firsts_across tags r (suc i + nodes l) (j + atoms l) p x)
firsts_across tags (alt l r) i j p x = either (firsts_across tags l (suc i) j p x) (firsts_across tags r (suc i + nodes l) (j + atoms l) p x)
firsts_across tags (star e) i j p x =
    either (firsts_across tags e (suc i) j p x) (both (firsts_out_of e (suc i) j p) (goes_round (firsts_through e (suc i)) (firsts_into tags e (suc i) x)))
firsts_across tags empty i j p x = no_string

-- from a place to the end, and to an atom that can be x
abbrev pub firsts_to_end : Content → ℕ → Firsts
firsts_to_end nothing zero = one_string []
firsts_to_end nothing (suc p) = no_string
firsts_to_end (tree e) zero = firsts_through e 1
firsts_to_end (tree e) (suc p) = firsts_out_of e 1 1 (suc p)

abbrev pub firsts_to_atom : (ℕ → List ℕ) → Content → ℕ → Next → Firsts
firsts_to_atom tags nothing p x = no_string
firsts_to_atom tags (tree e) zero x = firsts_into tags e 1 x
firsts_to_atom tags (tree e) (suc p) x = firsts_across tags e 1 1 (suc p) x

-- from a place to a next symbol
abbrev pub firsts : (ℕ → List ℕ) → Content → ℕ → Next → Firsts
firsts tags e p (tag t) = firsts_to_atom tags e p (tag t)
firsts tags e p character = firsts_to_atom tags e p character
firsts tags e p end = firsts_to_end e p
