-- A way depends on which atoms can be the symbol, and on nothing else of it. Assumes nothing.
use mathlib.Core.Path.{◌≡◌, refl}
use mathlib.Core.List.{List}
use mathlib.Core.Option.{Option, none}
use Prim.Native.Nat.{ℕ, zero, suc, ◌+◌}
use Rattle.expressions.specs.Expr.{Atom, nonterminal, anychar, Exp, atom, cat, alt, star, empty, nodes, atoms, Content, nothing, tree}
use Rattle.expressions.specs.Grammar.{Next, end, character, can_be}
use Rattle.runs.specs.Way.{Way, into, across, out_of_lem, through, atom_way}

module _ (f g : ℕ → List ℕ) (x y : Next) (same : (k : Atom) → can_be f k x ≡ can_be g k y) where
  into_same : (e : Exp) (i j : ℕ) → into f e i j x ≡ into g e i j y
  into_same (atom k) i j = rw (same k) refl
  into_same (cat l r) i j = rw (into_same l (suc i) j, into_same r (suc i + nodes l) (j + atoms l)) refl
  into_same (alt l r) i j = rw (into_same l (suc i) j, into_same r (suc i + nodes l) (j + atoms l)) refl
  into_same (star e) i j = rw (into_same e (suc i) j) refl
  into_same empty i j = refl

  across_same : (e : Exp) (i j p : ℕ) → across f e i j p x ≡ across g e i j p y
  across_same (atom k) i j p = refl
  across_same (cat l r) i j p = rw (across_same l (suc i) j p, into_same r (suc i + nodes l) (j + atoms l), across_same r (suc i + nodes l) (j + atoms l) p) refl
  across_same (alt l r) i j p = rw (across_same l (suc i) j p, across_same r (suc i + nodes l) (j + atoms l) p) refl
  across_same (star e) i j p = rw (across_same e (suc i) j p, into_same e (suc i) j) refl
  across_same empty i j p = refl

  pub way_same : (c : Content) (p : ℕ) → atom_way f c p x ≡ atom_way g c p y
  way_same nothing p = refl
  way_same (tree e) zero = into_same e 1 1
  way_same (tree e) (suc p) = across_same e 1 1 (suc p)

-- no atom can be the end
into_never : (f : ℕ → List ℕ) (e : Exp) (i j : ℕ) → into f e i j end ≡ none
into_never f (atom (nonterminal n)) i j = refl
into_never f (atom anychar) i j = refl
into_never f (cat l r) i j = rw (into_never f l (suc i) j, into_never f r (suc i + nodes l) (j + atoms l)) (by (through l (suc i)))
  where
    by : (o : Option (List Rattle.expressions.specs.Words.Bracket)) → Rattle.runs.specs.Way.opened i (Rattle.runs.specs.Way.led o none) ≡ none
    by none = refl
    by (Option.some a) = refl
into_never f (alt l r) i j = rw (into_never f l (suc i) j, into_never f r (suc i + nodes l) (j + atoms l)) refl
into_never f (star e) i j = rw (into_never f e (suc i) j) refl
into_never f empty i j = refl

led_none : (o : Option (List Rattle.expressions.specs.Words.Bracket)) → Rattle.runs.specs.Way.led o none ≡ none
led_none none = refl
led_none (Option.some a) = refl

across_never : (f : ℕ → List ℕ) (e : Exp) (i j p : ℕ) → across f e i j p end ≡ none
across_never f (atom k) i j p = refl
across_never f (cat l r) i j p =
    rw (across_never f l (suc i) j p, into_never f r (suc i + nodes l) (j + atoms l), led_none (out_of_lem l (suc i) j p), across_never f r (suc i + nodes l) (j + atoms l) p) refl
across_never f (alt l r) i j p = rw (across_never f l (suc i) j p, across_never f r (suc i + nodes l) (j + atoms l) p) refl
across_never f (star e) i j p = rw (across_never f e (suc i) j p, into_never f e (suc i) j, led_none (out_of_lem e (suc i) j p)) refl
across_never f empty i j p = refl

pub way_never : (f : ℕ → List ℕ) (c : Content) (p : ℕ) → atom_way f c p end ≡ none
way_never f nothing p = refl
way_never f (tree e) zero = into_never f e 1 1
way_never f (tree e) (suc p) = across_never f e 1 1 (suc p)

-- a character is one whatever the tags
pub can_character : (f g : ℕ → List ℕ) (k : Atom) → can_be f k character ≡ can_be g k character
can_character f g (nonterminal n) = refl
can_character f g anychar = refl
