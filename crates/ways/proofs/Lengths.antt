-- How long a way's string is, over any tree, faulty or not: at most two brackets a node, and four where a way goes out and in again.
-- Assumes nothing.
use mathlib.Core.Bool.{Bool, true, false}
use mathlib.Core.List.{List, [], ◌∷◌}
use mathlib.Core.Option.{Option, none, some}
use Prim.Native.Nat.{ℕ, zero, suc, ◌+◌, ◌*◌, ◌≤◌}
use native.Mathlib.Omega.{arith}
use lib.Dec.{eqb}
use lib.ListN.{length, length-append}
use Rattle.expressions.specs.Expr.{Exp, atom, cat, alt, star, empty, nodes, atoms, Content, nothing, tree, nodes_of}
use Rattle.expressions.specs.Words.{Bracket, closing}
use Rattle.expressions.specs.Grammar.{Next, can_be}
use Rattle.runs.specs.Options.{or_else, when_true}
use Rattle.runs.specs.Way.{Way as Found, joined, led, opened, closed, enclosed, through, into, out_of_lem, across, end_way, atom_way}
use Rattle.ways.specs.Held.{string_in, string_of}

-- how long it is where it is there, else 0
abbrev size : Option (List Bracket) → ℕ
size o = length (string_in o)

abbrev size_of : Option Found → ℕ
size_of w = size (string_of w)

size_joined : (o p : Option (List Bracket)) → size (joined o p) ≤ size o + size p
size_joined none p = omega arith
size_joined (some α) none = omega arith
size_joined (some α) (some β) = omega (arith, length-append α β)

size_led : (o : Option (List Bracket)) (w : Option Found) → size_of (led o w) ≤ size o + size_of w
size_led none w = omega arith
size_led (some α) none = omega arith
size_led (some α) (some w) = omega (arith, length-append α w.string)

size_closed : (i : ℕ) (o : Option (List Bracket)) → size (closed i o) ≤ size o + 1
size_closed i none = omega arith
size_closed i (some α) = omega (arith, length-append α (closing i ∷ []))

size_enclosed : (i : ℕ) (o : Option (List Bracket)) → size (enclosed i o) ≤ size o + 2
size_enclosed i none = omega arith
size_enclosed i (some α) = omega (arith, length-append α (closing i ∷ []))

size_opened : (i : ℕ) (w : Option Found) → size_of (opened i w) ≤ size_of w + 1
size_opened i none = omega arith
size_opened i (some w) = omega arith

size_either : (n : ℕ) (o p : Option (List Bracket)) → size o ≤ n → size p ≤ n → size (or_else o p) ≤ n
size_either n none p a b = b
size_either n (some α) p a b = a

size_or : (n : ℕ) (v w : Option Found) → size_of v ≤ n → size_of w ≤ n → size_of (or_else v w) ≤ n
size_or n none w a b = b
size_or n (some v) w a b = a

size_here : (b : Bool) → size (when_true b []) ≤ 0
size_here true = omega arith
size_here false = omega arith

size_atom : (b : Bool) (w : Found) → length w.string ≤ 0 → size_of (when_true b w) ≤ 0
size_atom true w h = h
size_atom false w h = omega arith

pub through_short : (e : Exp) (i : ℕ) → size (through e i) ≤ 2 * nodes e
through_short (atom k) i = omega arith
through_short (cat l r) i =
    let p = through l (suc i) in
    let q = through r (suc i + nodes l) in
    omega (arith, size_enclosed i (joined p q), size_joined p q, through_short l (suc i), through_short r (suc i + nodes l))
through_short (alt l r) i =
    let p = through l (suc i) in
    let q = through r (suc i + nodes l) in
    let m = through_short l (suc i) in
    let n = through_short r (suc i + nodes l) in
    omega (arith, size_enclosed i (or_else p q), size_either (2 * nodes l + 2 * nodes r) p q (omega arith) (omega arith))
through_short (star e) i = omega arith
through_short empty i = omega arith

pub out_short : (e : Exp) (i j p : ℕ) → size (out_of_lem e i j p) ≤ 2 * nodes e
out_short (atom k) i j p = omega (arith, size_closed i (when_true (eqb p j) []), size_here (eqb p j))
out_short (cat l r) i j p =
    let o = out_of_lem l (suc i) j p in
    let v = through r (suc i + nodes l) in
    let q = out_of_lem r (suc i + nodes l) (j + atoms l) p in
    let a = size_joined o v in
    let b = out_short l (suc i) j p in
    let c = through_short r (suc i + nodes l) in
    let d = out_short r (suc i + nodes l) (j + atoms l) p in
    omega (arith, size_closed i (or_else (joined o v) q), size_either (2 * nodes l + 2 * nodes r) (joined o v) q (omega arith) (omega arith))
out_short (alt l r) i j p =
    let o = out_of_lem l (suc i) j p in
    let q = out_of_lem r (suc i + nodes l) (j + atoms l) p in
    let b = out_short l (suc i) j p in
    let d = out_short r (suc i + nodes l) (j + atoms l) p in
    omega (arith, size_closed i (or_else o q), size_either (2 * nodes l + 2 * nodes r) o q (omega arith) (omega arith))
out_short (star e) i j p = omega (arith, size_closed i (out_of_lem e (suc i) j p), out_short e (suc i) j p)
out_short empty i j p = omega arith

module _ (tags : ℕ → List ℕ) (x : Next) where
  pub into_short : (e : Exp) (i j : ℕ) → size_of (into tags e i j x) ≤ 2 * nodes e
  into_short (atom k) i j =
      let w : Found = record { string = []; place = j; kind = k } in
      omega (arith, size_opened i (when_true (can_be tags k x) w), size_atom (can_be tags k x) w (omega arith))
  into_short (cat l r) i j =
      let v = into tags l (suc i) j x in
      let o = through l (suc i) in
      let w = into tags r (suc i + nodes l) (j + atoms l) x in
      let a = into_short l (suc i) j in
      let b = into_short r (suc i + nodes l) (j + atoms l) in
      let c = through_short l (suc i) in
      let d = size_led o w in
      omega (arith, size_opened i (or_else v (led o w)), size_or (2 * nodes l + 2 * nodes r) v (led o w) (omega arith) (omega arith))
  into_short (alt l r) i j =
      let v = into tags l (suc i) j x in
      let w = into tags r (suc i + nodes l) (j + atoms l) x in
      let a = into_short l (suc i) j in
      let b = into_short r (suc i + nodes l) (j + atoms l) in
      omega (arith, size_opened i (or_else v w), size_or (2 * nodes l + 2 * nodes r) v w (omega arith) (omega arith))
  into_short (star e) i j = omega (arith, size_opened i (into tags e (suc i) j x), into_short e (suc i) j)
  into_short empty i j = omega arith

  pub across_short : (e : Exp) (i j p : ℕ) → size_of (across tags e i j p x) ≤ 4 * nodes e
  across_short (atom k) i j p = omega arith
  across_short (cat l r) i j p =
      let v = across tags l (suc i) j p x in
      let o = out_of_lem l (suc i) j p in
      let n = into tags r (suc i + nodes l) (j + atoms l) x in
      let w = across tags r (suc i + nodes l) (j + atoms l) p x in
      let a = across_short l (suc i) j p in
      let b = size_led o n in
      let c = out_short l (suc i) j p in
      let d = into_short r (suc i + nodes l) (j + atoms l) in
      let f = across_short r (suc i + nodes l) (j + atoms l) p in
      let m = 4 * suc (nodes l + nodes r) in
      size_or m (or_else v (led o n)) w (size_or m v (led o n) (omega arith) (omega arith)) (omega arith)
  across_short (alt l r) i j p =
      let a = across_short l (suc i) j p in
      let b = across_short r (suc i + nodes l) (j + atoms l) p in
      size_or (4 * suc (nodes l + nodes r)) (across tags l (suc i) j p x) (across tags r (suc i + nodes l) (j + atoms l) p x) (omega arith) (omega arith)
  across_short (star e) i j p =
      let o = out_of_lem e (suc i) j p in
      let n = into tags e (suc i) j x in
      let a = across_short e (suc i) j p in
      let b = size_led o n in
      let c = out_short e (suc i) j p in
      let d = into_short e (suc i) j in
      size_or (4 * suc (nodes e)) (across tags e (suc i) j p x) (led o n) (omega arith) (omega arith)
  across_short empty i j p = omega arith

  -- a production's
  pub atom_way_short : (e : Content) (p : ℕ) → size_of (atom_way tags e p x) ≤ 4 * nodes_of e
  atom_way_short nothing p = omega arith
  atom_way_short (tree e) zero = omega (arith, into_short e 1 1)
  atom_way_short (tree e) (suc p) = across_short e 1 1 (suc p)

pub end_way_short : (e : Content) (p : ℕ) → size (end_way e p) ≤ 2 * nodes_of e
end_way_short nothing zero = omega arith
end_way_short nothing (suc p) = omega arith
end_way_short (tree e) zero = through_short e 1
end_way_short (tree e) (suc p) = out_short e 1 1 (suc p)
