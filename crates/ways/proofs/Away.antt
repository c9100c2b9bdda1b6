-- From just after an atom that is not among a tree's, no string of the tree starts.
-- Assumes nothing.
use mathlib.Core.Path.{◌≡◌, refl, ap}
use mathlib.Core.Bool.{Bool}
use mathlib.Core.List.{List, []}
use mathlib.Core.Option.{Option, none, some}
use Prim.Native.Nat.{ℕ, suc, ◌+◌, ◌≤◌, ◌<◌}
use native.Mathlib.Omega.{arith}
use borrow.Author.Tests.{ne_eqb}
use Rattle.expressions.specs.Expr.{Exp, atom, cat, alt, star, empty, nodes, atoms}
use Rattle.expressions.specs.Grammar.{Next}
use Rattle.runs.specs.Options.{or_else, when_true}
use Rattle.runs.specs.Way.{closed, out_of_lem, across}

pub or_none : {A : Type 0} → (o : Option A) → or_else o none ≡ o
or_none none = refl
or_none (some a) = refl

-- p is none of n atoms from j on
abbrev pub Away : ℕ → ℕ → ℕ → Type 0
Away j n p = j ≤ p → p < j + n → ⊥

pub out_away : (e : Exp) (i j p : ℕ) → Away j (atoms e) p → out_of_lem e i j p ≡ none
out_away (atom k) i j p h = ap (λ (b : Bool). closed i (when_true b [])) (ne_eqb p j (λ z. h (omega (arith, z)) (omega (arith, z))))
out_away (cat l r) i j p h =
    rw (out_away l (suc i) j p (λ a b. h a (omega (arith, b))), out_away r (suc i + nodes l) (j + atoms l) p (λ a b. h (omega (arith, a)) (omega (arith, b)))) refl
out_away (alt l r) i j p h =
    rw (out_away l (suc i) j p (λ a b. h a (omega (arith, b))), out_away r (suc i + nodes l) (j + atoms l) p (λ a b. h (omega (arith, a)) (omega (arith, b)))) refl
out_away (star e) i j p h = rw (out_away e (suc i) j p h) refl
out_away empty i j p h = refl

pub across_away : (tags : ℕ → List ℕ) (x : Next) (e : Exp) (i j p : ℕ) → Away j (atoms e) p → across tags e i j p x ≡ none
across_away tags x (atom k) i j p h = refl
across_away tags x (cat l r) i j p h =
    let a : Away j (atoms l) p = λ a b. h a (omega (arith, b)) in
    let b : Away (j + atoms l) (atoms r) p = λ a b. h (omega (arith, a)) (omega (arith, b)) in
    rw (across_away tags x l (suc i) j p a, out_away l (suc i) j p a, across_away tags x r (suc i + nodes l) (j + atoms l) p b) refl
across_away tags x (alt l r) i j p h =
    rw (across_away tags x l (suc i) j p (λ a b. h a (omega (arith, b))), across_away tags x r (suc i + nodes l) (j + atoms l) p (λ a b. h (omega (arith, a)) (omega (arith, b)))) refl
across_away tags x (star e) i j p h = rw (across_away tags x e (suc i) j p h, out_away e (suc i) j p h) refl
across_away tags x empty i j p h = refl
