-- A node's own token stands, among those of all nodes, behind as many as its rank. Assumes nothing.
use mathlib.Core.Path.{◌≡◌, refl, sym, ◌∙◌, ap, subst}
use mathlib.Core.Bool.{Bool, cond}
use mathlib.Core.List.{List, [], ◌∷◌, ◌++◌}
use Prim.Native.Nat.{ℕ, zero, suc, ◌+◌, ◌≤◌, ◌<◌}
use native.Mathlib.Omega.{arith}
use lib.ListN.{length, length-append}
use borrow.Author.Tests.{eq-eqb, ne_eqb}
use Rattle.expressions.specs.Expr.{Exp, atom, cat, alt, star, empty, nodes}
use Rattle.parting.specs.Parting.{Node, itself, cat_left, cat_right, alt_left, alt_right, star_part}
use Rattle.notation.specs.Tokens.{TextToken, sign, DOT, BAR, STAR}
use Rattle.posts.specs.Promises.{own_token, in_order, Kth}
use Rattle.signs.specs.Order.{amidst, rank}
use Rattle.signs.specs.Promises.{OwnTokenThere}
use Rattle.signs.proofs.Order.{amidst_own, amidst_first, amidst_second}

-- a node's bracket is one of its expression's
node_low : {e f : Exp} {i n : ℕ} → Node e i n f → i ≤ n
node_low itself = omega arith
node_low (cat_left h) = let z = node_low h in omega (arith, z)
node_low (cat_right h) = let z = node_low h in omega (arith, z)
node_low (alt_left h) = let z = node_low h in omega (arith, z)
node_low (alt_right h) = let z = node_low h in omega (arith, z)
node_low (star_part h) = let z = node_low h in omega (arith, z)

some_nodes : (e : Exp) → 1 ≤ nodes e
some_nodes (atom k) = omega arith
some_nodes (cat l r) = omega arith
some_nodes (alt l r) = omega arith
some_nodes (star e) = omega arith
some_nodes empty = omega arith

node_high : {e f : Exp} {i n : ℕ} → Node e i n f → n < i + nodes e
node_high {e = e} itself = omega (arith, some_nodes e)
node_high (cat_left h) = let z = node_high h in omega (arith, z)
node_high (cat_right h) = let z = node_high h in omega (arith, z)
node_high (alt_left h) = let z = node_high h in omega (arith, z)
node_high (alt_right h) = let z = node_high h in omega (arith, z)
node_high (star_part h) = let z = node_high h in omega (arith, z)

-- one token for each node
as_many : (e : Exp) → length (in_order e) ≡ nodes e
as_many (atom k) = refl
as_many (cat l r) = omega (arith, length-append (in_order l) (sign DOT ∷ in_order r), as_many l, as_many r)
as_many (alt l r) = omega (arith, length-append (in_order l) (sign BAR ∷ in_order r), as_many l, as_many r)
as_many (star e) = omega (arith, length-append (in_order e) (sign STAR ∷ []), as_many e)
as_many empty = refl

at_seam : (l r : List TextToken) (t : TextToken) → Kth (l ++ t ∷ r) (length l) t
at_seam [] r t = refl
at_seam (x ∷ l) r t = at_seam l r t

in_front : (l r : List TextToken) (k : ℕ) (t : TextToken) → Kth l k t → Kth (l ++ r) k t
in_front [] r k t h = absurd h
in_front (x ∷ l) r zero t h = h
in_front (x ∷ l) r (suc k) t h = in_front l r k t h

behind : (l r : List TextToken) (k : ℕ) (u t : TextToken) → Kth r k t → Kth (l ++ u ∷ r) (suc (length l) + k) t
behind [] r k u t h = let e : suc k ≡ 1 + k = omega arith in subst (λ (n : ℕ). Kth (u ∷ r) n t) e h
behind (x ∷ l) r k u t h = let e : suc (suc (length l) + k) ≡ suc (suc (length l)) + k = omega arith in subst (λ (n : ℕ). Kth (x ∷ (l ++ u ∷ r)) n t) e (behind l r k u t h)

module _ (l r : Exp) (u : TextToken) (i n : ℕ) where
  abbrev here : ℕ
  here = amidst i (nodes l) n (rank l (suc i) n) (rank r (suc i + nodes l) n)

  two_itself : n ≡ i → Kth (in_order l ++ u ∷ in_order r) here u
  two_itself e = subst (λ (k : ℕ). Kth (in_order l ++ u ∷ in_order r) k u) (as_many l ∙ sym (amidst_own i (nodes l) n (rank l (suc i) n) (rank r (suc i + nodes l) n) e)) (at_seam (in_order l) (in_order r) u)

  two_left : (t : TextToken) → suc i ≤ n → n < suc i + nodes l → Kth (in_order l) (rank l (suc i) n) t → Kth (in_order l ++ u ∷ in_order r) here t
  two_left t a b h =
      subst (λ (k : ℕ). Kth (in_order l ++ u ∷ in_order r) k t) (sym (amidst_first i (nodes l) n (rank l (suc i) n) (rank r (suc i + nodes l) n) (λ e. omega (arith, a, e)) b))
      (in_front (in_order l) (u ∷ in_order r) (rank l (suc i) n) t h)

  two_right : (t : TextToken) → suc i + nodes l ≤ n → Kth (in_order r) (rank r (suc i + nodes l) n) t → Kth (in_order l ++ u ∷ in_order r) here t
  two_right t a h =
      subst (λ (k : ℕ). Kth (in_order l ++ u ∷ in_order r) k t)
      (ap (λ (k : ℕ). suc k + rank r (suc i + nodes l) n) (as_many l) ∙ sym (amidst_second i (nodes l) n (rank l (suc i) n) (rank r (suc i + nodes l) n) (λ e. omega (arith, a, e)) a))
      (behind (in_order l) (in_order r) (rank r (suc i + nodes l) n) u t h)

own_itself : (e : Exp) (i : ℕ) → Kth (in_order e) (rank e i i) (own_token e)
own_itself (atom k) i = refl
own_itself (cat l r) i = two_itself l r (sign DOT) i i refl
own_itself (alt l r) i = two_itself l r (sign BAR) i i refl
own_itself (star e) i =
    subst (λ (k : ℕ). Kth (in_order e ++ sign STAR ∷ []) k (sign STAR)) (as_many e ∙ sym (ap (λ (b : Bool). cond b (nodes e) (rank e (suc i) i)) (eq-eqb i i refl))) (at_seam (in_order e) [] (sign STAR))
own_itself empty i = refl

pub own_token_there : OwnTokenThere
own_token_there e f i n (itself) = own_itself e i
own_token_there e f i n (cat_left {l = l} {r = r} h) = two_left l r (sign DOT) i n (own_token f) (node_low h) (node_high h) (own_token_there l f (suc i) n h)
own_token_there e f i n (cat_right {l = l} {r = r} h) = two_right l r (sign DOT) i n (own_token f) (node_low h) (own_token_there r f (suc i + nodes l) n h)
own_token_there e f i n (alt_left {l = l} {r = r} h) = two_left l r (sign BAR) i n (own_token f) (node_low h) (node_high h) (own_token_there l f (suc i) n h)
own_token_there e f i n (alt_right {l = l} {r = r} h) = two_right l r (sign BAR) i n (own_token f) (node_low h) (own_token_there r f (suc i + nodes l) n h)
own_token_there e f i n (star_part {e = o} h) =
    let a = node_low h in
    subst (λ (k : ℕ). Kth (in_order o ++ sign STAR ∷ []) k (own_token f)) (sym (ap (λ (b : Bool). cond b (nodes o) (rank o (suc i) n)) (ne_eqb n i (λ z. omega (arith, a, z)))))
    (in_front (in_order o) (sign STAR ∷ []) (rank o (suc i) n) (own_token f) (own_token_there o f (suc i) n h))
