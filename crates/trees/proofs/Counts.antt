-- None, one and many add and multiply as numbers do, and a sum is raised by two counts as by theirs together: by cases.
-- Assumes nothing.
use mathlib.Core.Path.{◌≡◌, refl, sym, ◌∙◌, ap, ap₂}
use Prim.Native.Nat.{ℕ}
use mathlib.Core.Bool.{Bool, true, false, cond}
use lib.Dec.{eqb, ltb}
use borrow.Author.Tests.{eq-eqb, ne_eqb}
use Rattle.expressions.specs.Count.{Count, none, one, many, add, mul, rep, bit}
use Rattle.trees.specs.declared.Number.{Number}
use Rattle.trees.specs.declared.Number.TheVariants.{None, One, Many}
use Rattle.trees.specs.Tally.{count_of}
use Rattle.trees.specs.Sums.{raised}

pub add_none : (a : Count) → add a none ≡ a
add_none none = refl
add_none one = refl
add_none many = refl

pub mul_none : (a : Count) → mul a none ≡ none
mul_none none = refl
mul_none one = refl
mul_none many = refl

pub mul_one : (a : Count) → mul a one ≡ a
mul_one none = refl
mul_one one = refl
mul_one many = refl

add_comm : (a b : Count) → add a b ≡ add b a
add_comm none b = sym (add_none b)
add_comm one none = refl
add_comm one one = refl
add_comm one many = refl
add_comm many none = refl
add_comm many one = refl
add_comm many many = refl

add_assoc : (a b c : Count) → add (add a b) c ≡ add a (add b c)
add_assoc none b c = refl
add_assoc one none c = refl
add_assoc one one none = refl
add_assoc one one one = refl
add_assoc one one many = refl
add_assoc one many c = refl
add_assoc many b c = refl

mul_assoc : (a b c : Count) → mul (mul a b) c ≡ mul a (mul b c)
mul_assoc none b c = refl
mul_assoc one b c = refl
mul_assoc many none c = refl
mul_assoc many one c = refl
mul_assoc many many none = refl
mul_assoc many many one = refl
mul_assoc many many many = refl

mul_add : (a b c : Count) → mul a (add b c) ≡ add (mul a b) (mul a c)
mul_add none b c = refl
mul_add one b c = refl
mul_add many none c = refl
mul_add many one none = refl
mul_add many one one = refl
mul_add many one many = refl
mul_add many many c = refl

add_mul : (a b c : Count) → mul (add a b) c ≡ add (mul a c) (mul b c)
add_mul none b c = refl
add_mul one none c = sym (add_none c)
add_mul one one none = refl
add_mul one one one = refl
add_mul one one many = refl
add_mul one many none = refl
add_mul one many one = refl
add_mul one many many = refl
add_mul many none c = sym (add_none (mul many c))
add_mul many one none = refl
add_mul many one one = refl
add_mul many one many = refl
add_mul many many none = refl
add_mul many many one = refl
add_mul many many many = refl

-- any number of turns comes before what follows
turns_first : (a b : Count) → rep a b ≡ mul (rep a one) b
turns_first none b = refl
turns_first one b = refl
turns_first many b = refl

-- two sums of two, by their firsts and by their seconds
paired : (a b c d : Count) → add (add a b) (add c d) ≡ add (add a c) (add b d)
paired a b c d =
    add_assoc a b (add c d)
    ∙ ap (add a) (sym (add_assoc b c d) ∙ ap (λ (z : Count). add z d) (add_comm b c) ∙ add_assoc c b d)
    ∙ sym (add_assoc a c (add b d))

-- n lead to the start of a tree: what leads on through it, and what starts in it; in a union, a concatenation, a star
pub through_either : (n x y v w : Count) → add (add (mul n x) v) (add (mul n y) w) ≡ add (mul n (add x y)) (add v w)
through_either n x y v w = paired (mul n x) v (mul n y) w ∙ ap (λ (z : Count). add z (add v w)) (sym (mul_add n x y))

-- the second part of a concatenation: l lead out of the first, from in it or through it
over : (n x l y : Count) → mul (add (mul n x) l) y ≡ add (mul n (mul x y)) (mul l y)
over n x l y = add_mul (mul n x) l y ∙ ap (λ (z : Count). add z (mul l y)) (mul_assoc n x y)

pub out_of_both : (n x l y m : Count) → add (mul (add (mul n x) l) y) m ≡ add (mul n (mul x y)) (add (mul l y) m)
out_of_both n x l y m = ap (λ (z : Count). add z m) (over n x l y) ∙ add_assoc (mul n (mul x y)) (mul l y) m

pub into_both : (n x l f w y v : Count) → add (add (mul n f) w) (add (mul (add (mul n x) l) y) v) ≡ add (mul n (add f (mul x y))) (add (add w (mul l y)) v)
into_both n x l f w y v =
    ap (add (add (mul n f) w)) (out_of_both n x l y v)
    ∙ paired (mul n f) w (mul n (mul x y)) (add (mul l y) v)
    ∙ ap₂ add (sym (mul_add n f (mul x y))) (sym (add_assoc w (mul l y) v))

pub out_of_star : (n l t : Count) → mul (add n l) t ≡ add (mul n t) (mul l t)
out_of_star n l t = add_mul n l t

pub into_star : (n l x f w : Count) → add (mul (mul (add n l) (rep x one)) f) w ≡ add (mul n (rep x f)) (add w (mul l (rep x f)))
into_star n l x f w =
    ap (λ (z : Count). add z w) (mul_assoc (add n l) (rep x one) f ∙ ap (mul (add n l)) (sym (turns_first x f)) ∙ add_mul n l (rep x f))
    ∙ add_assoc (mul n (rep x f)) (mul l (rep x f)) w
    ∙ ap (add (mul n (rep x f))) (add_comm (mul l (rep x f)) w)

-- a sum that is not 0 is 2 with any more
again_raised : (b : Bool) → raised (cond b 1 2) one ≡ 2
again_raised true = refl
again_raised false = refl

pub raised_add : (sum : ℕ) (a b : Count) → raised (raised sum a) b ≡ raised sum (add a b)
raised_add sum none b = refl
raised_add sum one none = refl
raised_add sum one one = again_raised (eqb sum 0)
raised_add sum one many = refl
raised_add sum many none = refl
raised_add sum many one = refl
raised_add sum many many = refl

-- what `raise` answers, by what there is to add
module _ (sum alike : ℕ) (n hit more : Number) (h : count_of hit ≡ bit (ltb 0 alike)) (m : count_of more ≡ mul (count_of n) (count_of hit)) where
  added : (k : Number) → more ≡ k → count_of k ≡ mul (count_of n) (bit (ltb 0 alike))
  added k e = sym (ap count_of e) ∙ m ∙ ap (mul (count_of n)) h

  pub raise_none : more ≡ None → sum ≡ raised sum (mul (count_of n) (bit (ltb 0 alike)))
  raise_none e = ap (raised sum) (added None e)

  pub raise_first : more ≡ One → sum ≡ 0 → 1 ≡ raised sum (mul (count_of n) (bit (ltb 0 alike)))
  raise_first e z = sym (ap (λ (b : Bool). cond b 1 2) (eq-eqb sum 0 z)) ∙ ap (raised sum) (added One e)

  pub raise_second : more ≡ One → (sum ≡ 0 → ⊥) → 2 ≡ raised sum (mul (count_of n) (bit (ltb 0 alike)))
  raise_second e z = sym (ap (λ (b : Bool). cond b 1 2) (ne_eqb sum 0 z)) ∙ ap (raised sum) (added One e)

  pub raise_many : more ≡ Many → 2 ≡ raised sum (mul (count_of n) (bit (ltb 0 alike)))
  raise_many e = ap (raised sum) (added Many e)
