-- In (k*)*, after k, the outer star may go round as often as it likes: ]3 ]2 and [2 [3, and [2 ]2 between them any number of times.
-- Assumes nothing.
use mathlib.Core.Path.{◌≡◌, refl, ap, subst}
use mathlib.Core.List.{List, [], ◌∷◌, ◌++◌}
use Prim.Native.Nat.{ℕ, zero, suc, ◌≤◌}
use native.Mathlib.Omega.{arith}
use lib.ListN.{length}
use Rattle.expressions.specs.Expr.{Atom, atom, star}
use Rattle.expressions.specs.Words.{Bracket, opening, closing, Sym, br, at, ◌▷◌, Lang, only, Star, stop, more, within, Word}
use Rattle.few.specs.Broken.{NoCeiling}

-- the rounds, and then to k
abbrev rounds : ℕ → List Bracket
rounds zero = opening 2 ∷ opening 3 ∷ []
rounds (suc m) = opening 2 ∷ closing 2 ∷ rounds m

rounds_long : (m : ℕ) → m ≤ length (rounds m)
rounds_long zero = omega arith
rounds_long (suc m) = omega (arith, rounds_long m)

module _ (k : Atom) where
  -- the inner star once round, and not at all
  abbrev Inner : Lang
  Inner = Word (star (atom k)) 2 1

  inner_one : Inner (br (opening 2) ∷ br (opening 3) ∷ at 1 k ∷ br (closing 3) ∷ br (closing 2) ∷ [])
  inner_one = within (br (opening 3) ∷ at 1 k ∷ br (closing 3) ∷ []) (more (br (opening 3) ∷ at 1 k ∷ br (closing 3) ∷ []) [] (within (at 1 k ∷ []) only) stop)

  inner_none : Inner (br (opening 2) ∷ br (closing 2) ∷ [])
  inner_none = within [] stop

  abbrev last_part : List Sym
  last_part = at 1 k ∷ br (closing 3) ∷ br (closing 2) ∷ []

  all_rounds : (m : ℕ) → Star Inner (rounds m ▷ last_part)
  all_rounds zero = more (br (opening 2) ∷ br (opening 3) ∷ last_part) [] inner_one stop
  all_rounds (suc m) = more (br (opening 2) ∷ br (closing 2) ∷ []) (rounds m ▷ last_part) inner_none (all_rounds m)

  around : (α : List Bracket) (w : List Sym) → (α ▷ w) ++ br (closing 1) ∷ [] ≡ α ▷ (w ++ br (closing 1) ∷ [])
  around [] w = refl
  around (c ∷ α) w = ap (λ (l : List Sym). br c ∷ l) (around α w)

pub no_ceiling : NoCeiling
no_ceiling tags k x can = (
  br (opening 1) ∷ br (opening 2) ∷ br (opening 3) ∷ at 1 k ∷ [],
  (br (opening 1) ∷ br (opening 2) ∷ br (opening 3) ∷ [], k, refl),
  λ m. (
    closing 3 ∷ closing 2 ∷ rounds m,
    (
      1,
      k,
      br (closing 3) ∷ br (closing 2) ∷ br (closing 1) ∷ [],
      can,
      subst (λ (w : List Sym). Word (star (star (atom k))) 1 1 (br (opening 1) ∷ br (opening 2) ∷ br (opening 3) ∷ at 1 k ∷ br (closing 3) ∷ br (closing 2) ∷ w)) (around k (rounds m) (last_part k))
          (within (br (opening 2) ∷ br (opening 3) ∷ at 1 k ∷ br (closing 3) ∷ br (closing 2) ∷ (rounds m ▷ last_part k))
          (more (br (opening 2) ∷ br (opening 3) ∷ at 1 k ∷ br (closing 3) ∷ br (closing 2) ∷ []) (rounds m ▷ last_part k) (inner_one k) (all_rounds k m))),
    ),
    omega (arith, rounds_long m),
  ),
)
