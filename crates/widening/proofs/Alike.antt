-- Two things that no run tells apart where the attributes are many or few: values that are the same for each attribute, one that is not there counting as 0.
-- Assumes nothing.
use mathlib.Core.Path.{◌≡◌, refl, sym, ◌∙◌}
use mathlib.Core.Bool.{Bool, true, false}
use mathlib.Core.List.{List, [], ◌∷◌}
use mathlib.Core.Option.{Option, none, some}
use Prim.Native.Nat.{ℕ, zero, suc, ◌≤◌, ◌<◌}
use native.Mathlib.Omega.{arith}
use lib.Dec.{eqb}
use lib.ListN.{length, get_or, set, replicate, length-set, length-replicate}
use lib.Seq.{get_or-set_same, get_or-set_other}
use borrow.Author.Tests.{eqb-true, eqb-false}
use Rattle.runs.specs.Options.{bind}

abbrev pub Same : List ℕ → List ℕ → Type 0
Same vs ws = (x : ℕ) → get_or vs x 0 ≡ get_or ws x 0

-- both have every attribute up to the highest that a program assigns
pub record Values (top : ℕ) (vs ws : List ℕ) : Type 0 where
  pub same : Same vs ws
  pub one_long : top < length vs
  pub other_long : top < length ws

module _ (top : ℕ) where
  pub set_alike : (vs ws : List ℕ) → Values top vs ws → (x : ℕ) → x ≤ top → (v w : ℕ) → v ≡ w → Values top (set vs x v) (set ws x w)
  set_alike vs ws h x b v w e = record {
    same = λ y. by y (eqb y x) refl;
    one_long = (let l = length-set vs x v in let k = h.one_long in omega arith);
    other_long = (let l = length-set ws x w in let k = h.other_long in omega arith);
  }
    where
      by : (y : ℕ) (c : Bool) → eqb y x ≡ c → get_or (set vs x v) y 0 ≡ get_or (set ws x w) y 0
      by y true c =
          let q : y ≡ x = eqb-true y x c in
          rw q (get_or-set_same vs x v 0 (let k = h.one_long in omega arith) ∙ e ∙ sym (get_or-set_same ws x w 0 (let k = h.other_long in omega arith)))
      by y false c =
          let q = eqb-false y x c in
          get_or-set_other vs x y v 0 q ∙ h.same y ∙ sym (get_or-set_other ws x y w 0 q)

zeros : (n x : ℕ) → ◌≡◌ {A = ℕ} (get_or (replicate n 0) x 0) 0
zeros zero x = refl
zeros (suc n) zero = refl
zeros (suc n) (suc x) = zeros n x

pub zeros_alike : (top n m : ℕ) → top < n → top < m → Values top (replicate n 0) (replicate m 0)
zeros_alike top n m h k = record {
  same = λ x. zeros n x ∙ sym (zeros m x);
  one_long = (let l = length-replicate {A = ℕ} n 0 in omega arith);
  other_long = (let l = length-replicate {A = ℕ} m 0 in omega arith);
}

-- options that are both there, or neither
pub data Both {A B : Type 0} (R : A → B → Type 0) : Option A → Option B → Type 0 where
  neither : Both R none none
  each : {x : A} {y : B} → R x y → Both R (some x) (some y)

pub both_bind : {A B C D : Type 0} {R : A → B → Type 0} {S : C → D → Type 0} {o : Option A} {p : Option B} (f : A → Option C) (g : B → Option D) →
    Both R o p → ((x : A) (y : B) → R x y → Both S (f x) (g y)) → Both S (bind o f) (bind p g)
both_bind f g neither h = neither
both_bind f g (each {x} {y} r) h = h x y r

-- lists of the same length, place by place
pub data Rows {A B : Type 0} (R : A → B → Type 0) : List A → List B → Type 0 where
  no_row : Rows R [] []
  row : {x : A} {y : B} {xs : List A} {ys : List B} → R x y → Rows R xs ys → Rows R (x ∷ xs) (y ∷ ys)
