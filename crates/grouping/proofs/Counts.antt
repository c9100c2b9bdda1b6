-- Regrouping changes none of the counts by which rule S is decided, and no place: sums and products of counts may be regrouped.
-- Assumes nothing.
use mathlib.Core.Path.{◌≡◌, refl, sym, ◌∙◌, ap}
use mathlib.Core.List.{List}
use Prim.Native.Nat.{ℕ, zero, suc, ◌+◌}
use native.Mathlib.Omega.{arith}
use Rattle.expressions.specs.Count.{Count, add, mul, rep}
use Rattle.expressions.specs.Expr.{Exp, cat, alt, star, atoms, tree}
use Rattle.expressions.specs.Grammar.{Next, tag, character, end}
use Rattle.expressions.specs.Decide.{null, first, last, follow, count}
use Rattle.grouping.specs.Regrouped.{Which, Regrouped}
use Rattle.grouping.proofs.Kept.{kept}
use Rattle.grouping.proofs.Sums.{add_assoc, add_comm, mul_assoc, over_right, over_left}

-- the same atoms' number and the same counts
pub record SameCounts (e e' : Exp) : Type 0 where
  pub same_atoms : atoms e ≡ atoms e'
  pub same_null : null e ≡ null e'
  pub same_first : (tags : ℕ → List ℕ) (x : Next) → first tags e x ≡ first tags e' x
  pub same_last : (j p : ℕ) → last e j p ≡ last e' j p
  pub same_follow : (tags : ℕ → List ℕ) (j p : ℕ) (x : Next) → follow tags e j p x ≡ follow tags e' j p x

counts_refl : (e : Exp) → SameCounts e e
counts_refl e = record { same_atoms = refl; same_null = refl; same_first = λ tags x. refl; same_last = λ j p. refl; same_follow = λ tags j p x. refl }

counts_sym : {e e' : Exp} → SameCounts e e' → SameCounts e' e
counts_sym h = record {
  same_atoms = sym h.same_atoms;
  same_null = sym h.same_null;
  same_first = λ tags x. sym (h.same_first tags x);
  same_last = λ j p. sym (h.same_last j p);
  same_follow = λ tags j p x. sym (h.same_follow tags j p x);
}

counts_trans : {e e' e'' : Exp} → SameCounts e e' → SameCounts e' e'' → SameCounts e e''
counts_trans h k = record {
  same_atoms = h.same_atoms ∙ k.same_atoms;
  same_null = h.same_null ∙ k.same_null;
  same_first = λ tags x. h.same_first tags x ∙ k.same_first tags x;
  same_last = λ j p. h.same_last j p ∙ k.same_last j p;
  same_follow = λ tags j p x. h.same_follow tags j p x ∙ k.same_follow tags j p x;
}

counts_cat : {l l' r r' : Exp} → SameCounts l l' → SameCounts r r' → SameCounts (cat l r) (cat l' r')
counts_cat h k = record {
  same_atoms = λ i. h.same_atoms i + k.same_atoms i;
  same_null = λ i. mul (h.same_null i) (k.same_null i);
  same_first = λ tags x i. add (h.same_first tags x i) (mul (h.same_null i) (k.same_first tags x i));
  same_last = λ j p i. add (mul (h.same_last j p i) (k.same_null i)) (k.same_last (j + h.same_atoms i) p i);
  same_follow = λ tags j p x i. add (add (h.same_follow tags j p x i) (mul (h.same_last j p i) (k.same_first tags x i))) (k.same_follow tags (j + h.same_atoms i) p x i);
}

counts_alt : {l l' r r' : Exp} → SameCounts l l' → SameCounts r r' → SameCounts (alt l r) (alt l' r')
counts_alt h k = record {
  same_atoms = λ i. h.same_atoms i + k.same_atoms i;
  same_null = λ i. add (h.same_null i) (k.same_null i);
  same_first = λ tags x i. add (h.same_first tags x i) (k.same_first tags x i);
  same_last = λ j p i. add (h.same_last j p i) (k.same_last (j + h.same_atoms i) p i);
  same_follow = λ tags j p x i. add (h.same_follow tags j p x i) (k.same_follow tags (j + h.same_atoms i) p x i);
}

counts_star : {e e' : Exp} → SameCounts e e' → SameCounts (star e) (star e')
counts_star h = record {
  same_atoms = h.same_atoms;
  same_null = λ i. rep (h.same_null i) Count.one;
  same_first = λ tags x i. rep (h.same_null i) (h.same_first tags x i);
  same_last = λ j p i. mul (h.same_last j p i) (rep (h.same_null i) Count.one);
  same_follow = λ tags j p x i. add (h.same_follow tags j p x i) (mul (h.same_last j p i) (rep (h.same_null i) (h.same_first tags x i)));
}

-- the sums of a regrouped concatenation: from the start, to the end, and from an atom to an atom
first_sum : (fa na fb nb fc : Count) → add (add fa (mul na fb)) (mul (mul na nb) fc) ≡ add fa (mul na (add fb (mul nb fc)))
first_sum fa na fb nb fc =
    add_assoc fa (mul na fb) (mul (mul na nb) fc)
    ∙ ap (add fa) (ap (add (mul na fb)) (mul_assoc na nb fc) ∙ sym (over_right na fb (mul nb fc)))

last_sum : (la nb lb nc lc : Count) → add (mul (add (mul la nb) lb) nc) lc ≡ add (mul la (mul nb nc)) (add (mul lb nc) lc)
last_sum la nb lb nc lc =
    ap (λ (z : Count). add z lc) (over_left (mul la nb) lb nc ∙ ap (λ (z : Count). add z (mul lb nc)) (mul_assoc la nb nc))
    ∙ add_assoc (mul la (mul nb nc)) (mul lb nc) lc

-- two sums of two, the inner ones swapped
swapped : (a b c d : Count) → add (add a b) (add c d) ≡ add (add a c) (add b d)
swapped a b c d =
    add_assoc a b (add c d)
    ∙ ap (add a) (sym (add_assoc b c d) ∙ ap (λ (z : Count). add z d) (add_comm b c) ∙ add_assoc c b d)
    ∙ sym (add_assoc a c (add b d))

follow_sum : (a la fb nb b lb fc c : Count) →
    add (add (add (add a (mul la fb)) b) (mul (add (mul la nb) lb) fc)) c ≡ add (add a (mul la (add fb (mul nb fc)))) (add (add b (mul lb fc)) c)
follow_sum a la fb nb b lb fc c =
    ap (λ (z : Count). add (add (add (add a (mul la fb)) b) z) c) (over_left (mul la nb) lb fc ∙ ap (λ (z : Count). add z (mul lb fc)) (mul_assoc la nb fc))
    ∙ ap (λ (z : Count). add z c) (swapped (add a (mul la fb)) b (mul la (mul nb fc)) (mul lb fc))
    ∙ add_assoc (add (add a (mul la fb)) (mul la (mul nb fc))) (add b (mul lb fc)) c
    ∙ ap (λ (z : Count). add z (add (add b (mul lb fc)) c)) (add_assoc a (mul la fb) (mul la (mul nb fc)) ∙ ap (add a) (sym (over_right la fb (mul nb fc))))

module _ (a b c : Exp) where
  -- the third part's first atom has the same number
  third : (j : ℕ) → j + (atoms a + atoms b) ≡ j + atoms a + atoms b
  third j = omega arith

  counts_concatenation : SameCounts (cat (cat a b) c) (cat a (cat b c))
  counts_concatenation = record {
    same_atoms = omega arith;
    same_null = mul_assoc (null a) (null b) (null c);
    same_first = λ tags x. first_sum (first tags a x) (null a) (first tags b x) (null b) (first tags c x);
    same_last = λ j p.
        ap (λ (i : ℕ). add (mul (last (cat a b) j p) (null c)) (last c i p)) (third j)
        ∙ last_sum (last a j p) (null b) (last b (j + atoms a) p) (null c) (last c (j + atoms a + atoms b) p);
    same_follow = λ tags j p x.
        ap (λ (i : ℕ). add (add (follow tags (cat a b) j p x) (mul (last (cat a b) j p) (first tags c x))) (follow tags c i p x)) (third j)
        ∙ follow_sum (follow tags a j p x) (last a j p) (first tags b x) (null b) (follow tags b (j + atoms a) p x) (last b (j + atoms a) p) (first tags c x)
        (follow tags c (j + atoms a + atoms b) p x);
  }

  counts_union : SameCounts (alt (alt a b) c) (alt a (alt b c))
  counts_union = record {
    same_atoms = omega arith;
    same_null = add_assoc (null a) (null b) (null c);
    same_first = λ tags x. add_assoc (first tags a x) (first tags b x) (first tags c x);
    same_last = λ j p.
        ap (λ (i : ℕ). add (last (alt a b) j p) (last c i p)) (third j)
        ∙ add_assoc (last a j p) (last b (j + atoms a) p) (last c (j + atoms a + atoms b) p);
    same_follow = λ tags j p x.
        ap (λ (i : ℕ). add (follow tags (alt a b) j p x) (follow tags c i p x)) (third j)
        ∙ add_assoc (follow tags a j p x) (follow tags b (j + atoms a) p x) (follow tags c (j + atoms a + atoms b) p x);
  }

pub counts_stay : {w : Which} {e e' : Exp} → Regrouped w e e' → SameCounts e e'
counts_stay {w} {e} {e'} r =
    kept SameCounts w
    (record {
      still = counts_refl;
      turned = λ e e' h. counts_sym h;
      joined = λ e e' e'' h k. counts_trans h k;
      in_cat = λ l l' r r' h k. counts_cat h k;
      in_alt = λ l l' r r' h k. counts_alt h k;
      in_star = λ e e' h. counts_star h;
      of_cat = counts_concatenation;
      of_alt = λ u. counts_union;
    })
    e e' r

-- and so the count from a place to a next symbol
pub count_stays : {w : Which} {e e' : Exp} → Regrouped w e e' → (tags : ℕ → List ℕ) (p : ℕ) (x : Next) → count tags (tree e) p x ≡ count tags (tree e') p x
count_stays r tags zero (tag t) = (counts_stay r).same_first tags (tag t)
count_stays r tags zero character = (counts_stay r).same_first tags character
count_stays r tags zero end = (counts_stay r).same_null
count_stays r tags (suc p) (tag t) = (counts_stay r).same_follow tags 1 (suc p) (tag t)
count_stays r tags (suc p) character = (counts_stay r).same_follow tags 1 (suc p) character
count_stays r tags (suc p) end = (counts_stay r).same_last 1 (suc p)
