-- Laws of spellings: what is common, what does not go on. Assumes nothing.
use mathlib.Core.Path.{◌≡◌, refl, sym, ◌∙◌, ap, subst}
use mathlib.Core.Bool.{Bool, true, false}
use mathlib.Core.List.{List, [], ◌∷◌, ◌++◌, append-nil}
use Prim.Native.Nat.{ℕ, zero, suc, ◌+◌, ◌-◌, ◌≤◌, ◌<◌}
use native.Mathlib.Omega.{arith}
use lib.ListN.{length, take, drop, get_or, length-append, length-drop, take-append-drop}
use lib.Seq.{take-append-le, take-append-add, get_or-append-add, get_or-drop, drop-cons, take-suc, take_at, take_all, get_or_at, length-take-le}
use Rattle.notation.specs.Spelled.{word_byte}
use Rattle.notation.proofs.Rows.{get_d_front}
use Rattle.lexing.specs.declared.Tried.{Tried}
use Rattle.lexing.specs.Reads.{Common, Stops, stops_at, Halts, ReadIs, whole, halts, OneSpelling}

-- the loop of what is common
pub same_more : (x w : List ℕ) (i : ℕ) → take i x ≡ take i w → i < length x → i < length w → get_or x i 0 ≡ get_or w i 0 → take (i + 1) x ≡ take (i + 1) w
same_more x w i h lx lw e =
    ap (λ n. take n x) (one i) ∙ take-suc x i 0 lx ∙ ap (λ l. l ++ get_or x i 0 ∷ []) h ∙ ap (λ b. take i w ++ b ∷ []) e ∙ sym (take-suc w i 0 lw) ∙ ap (λ n. take n w) (sym (one i))
  where
    one : (n : ℕ) → n + 1 ≡ suc n
    one n = omega arith

pub last_taken : (x u : List ℕ) (k : ℕ) → k < length x → get_or (take (suc k) x ++ u) k 0 ≡ get_or x k 0
last_taken [] u k h = absurd (omega arith)
last_taken (b ∷ x) u zero h = refl
last_taken (b ∷ x) u (suc k) h = last_taken x u k (omega arith)

-- one spelling: it differs, or goes on
pub differs : (x w : List ℕ) (n k : ℕ) (j : ℕ → Bool) → Common x w k → k < length w → Halts (OneSpelling w n) j x k
differs x w n k j c l = record {
  reached = c.reached;
  begun = λ i. record { spelling = w; number = n; rest = drop k w; is = record { spelled = refl; numbered = refl }; are = sym (take-append-drop k w) ∙ ap (λ z. z ++ drop k w) (sym c.same) };
  no_further = λ i s. c.differ i l (sym (last_taken x s.rest k i) ∙ ap (λ z. get_or z k 0) (sym s.are ∙ s.is.spelled));
  no_whole = λ m i s.
      let e : x ≡ w ++ s.rest = s.are ∙ ap (λ z. z ++ s.rest) s.is.spelled in
      c.differ (omega (arith, ap length e ∙ length-append w s.rest)) l (ap (λ z. get_or z k 0) e ∙ get_d_front w s.rest k l);
}

pub followed : (x w : List ℕ) (n k : ℕ) (j : ℕ → Bool) → x ≡ w ++ drop k x → k ≡ length w → k < length x → j (get_or x k 0) ≡ true → Halts (OneSpelling w n) j x k
followed x w n k j e l i h = record {
  reached = omega arith;
  begun = λ z. record { spelling = w; number = n; rest = []; is = record { spelled = refl; numbered = refl }; are = sym (append-nil w) ∙ ap (λ z. z ++ []) (sym (ap (take k) e ∙ take_at w (drop k x) k (sym l))) };
  no_further = λ z s. absurd (omega (arith, ap length (sym s.is.spelled ∙ s.are) ∙ length-append (take (suc k) x) s.rest, length-take-le (suc k) x (omega arith)));
  no_whole = λ m z s. stop s.rest (s.are ∙ ap (λ z. z ++ s.rest) s.is.spelled) s.stops;
}
  where
    stop : (r : List ℕ) → x ≡ w ++ r → Stops j r → ⊥
    stop [] a b = omega (arith, ap length (a ∙ append-nil w))
    stop (y ∷ r) a b = let c : get_or x k 0 ≡ y = ap (λ z. get_or z k 0) a ∙ get_or_at w y r 0 k (sym l) in let z : ◌≡◌ {A = Bool} true false = sym h ∙ ap j c ∙ b in let z' : ◌≡◌ {A = ℕ} 0 1 = cc in omega arith

-- what is common with the first of two, and then with the second
common_front : (x a b : List ℕ) (k : ℕ) → Common x a k → k < length a → Common x (a ++ b) k
common_front x a b k c l = record {
  reached = c.reached;
  inside = simp length-append (omega arith);
  same = c.same ∙ sym (take-append-le k a b (omega arith));
  differ = λ i z e. c.differ i l (e ∙ get_d_front a b k l);
}

-- the part behind k bytes
abbrev pub part : List ℕ → ℕ → List ℕ
part x k = take (length x - k) (drop k x)

pub part_is : (x : List ℕ) (k : ℕ) → part x k ≡ drop k x
part_is x k = take_all (length x - k) (drop k x) (omega (arith, length-drop k x))

pub all_of : (x a : List ℕ) (k : ℕ) → Common x a k → length a ≤ k → x ≡ a ++ drop k x
all_of x a k c l = sym (take-append-drop k x) ∙ ap (λ z. z ++ drop k x) (c.same ∙ take_all k a l)

common_behind : (x a b : List ℕ) (k m : ℕ) → Common x a k → length a ≤ k → Common (drop k x) b m → Common x (a ++ b) (k + m)
common_behind x a b k m c l d = record {
  reached = omega (arith, d.reached, length-drop k x, c.reached);
  inside = simp length-append (omega (arith, d.inside, c.inside));
  same = ap (take (k + m)) e ∙ ap (λ n. take (n + m) (a ++ drop k x)) long ∙ take-append-add a (drop k x) m ∙ ap (λ z. a ++ z) d.same ∙ sym (take-append-add a b m) ∙ ap (λ n. take (n + m) (a ++ b)) (sym long);
  differ = λ i z f. d.differ (omega (arith, i, length-drop k x)) (omega (arith, simp length-append at z)) (get_or-drop k x m 0 ∙ f ∙ ap (λ n. get_or (a ++ b) (n + m) 0) long ∙ get_or-append-add a b m 0);
}
  where
    long : k ≡ length a
    long = omega (arith, c.inside)

    e : x ≡ a ++ drop k x
    e = all_of x a k c l

pub fixed_first : (x a b : List ℕ) (n k : ℕ) (j : ℕ → Bool) → Common x a k → k < length a → ReadIs (OneSpelling (a ++ b) n) j x (Tried.Stuck k)
fixed_first x a b n k j c l = halts (differs x (a ++ b) n k j (common_front x a b k c l) (simp length-append (omega arith)))

module _ (x a b : List ℕ) (n k m : ℕ) (c : Common x a k) (l : length a ≤ k) (d' : Common (part x k) b m) where
  d : Common (drop k x) b m
  d = subst (λ z. Common z b m) (part_is x k) d'

  pub fixed_second : (j : ℕ → Bool) → m < length b → ReadIs (OneSpelling (a ++ b) n) j x (Tried.Stuck (k + m))
  fixed_second j i = halts (differs x (a ++ b) n (k + m) j (common_behind x a b k m c l d) (simp length-append (omega (arith, c.inside))))

  module _ (f : length b ≤ m) where
    long : k + m ≡ length (a ++ b)
    long = sym (length-append a b ∙ omega (arith, c.inside, d.inside))

    are : x ≡ (a ++ b) ++ drop (k + m) x
    are = all_of x (a ++ b) (k + m) (common_behind x a b k m c l d) (omega (arith, long))

    pub fixed_joined : (j : Bool) → j ≡ true → k + m < length x → word_byte (get_or x (k + m) 0) ≡ true → ReadIs (OneSpelling (a ++ b) n) (stops_at j) x (Tried.Stuck (k + m))
    fixed_joined j e i h = subst (λ z. ReadIs (OneSpelling (a ++ b) n) (stops_at z) x (Tried.Stuck (k + m))) (sym e) (halts (followed x (a ++ b) n (k + m) (stops_at true) are long i h))

    spelt : (j : ℕ → Bool) → Stops j (drop (k + m) x) → ReadIs (OneSpelling (a ++ b) n) j x (Tried.Whole n (k + m))
    spelt j s = whole (record { spelling = a ++ b; rest = drop (k + m) x; is = record { spelled = refl; numbered = refl }; are = are; long = long; stops = s })

    pub fixed_apart : (j : Bool) → j ≡ true → k + m < length x → word_byte (get_or x (k + m) 0) ≡ false → ReadIs (OneSpelling (a ++ b) n) (stops_at j) x (Tried.Whole n (k + m))
    fixed_apart j e i h = subst (λ z. ReadIs (OneSpelling (a ++ b) n) (stops_at z) x (Tried.Whole n (k + m))) (sym e) (spelt (stops_at true) (subst (Stops (stops_at true)) (sym (drop-cons x (k + m) 0 i)) h))

    pub fixed_last : (j : Bool) → length x ≤ k + m → ReadIs (OneSpelling (a ++ b) n) (stops_at j) x (Tried.Whole n (k + m))
    fixed_last j i = spelt (stops_at j) (none (drop (k + m) x) (omega (arith, length-drop (k + m) x)))
      where
        none : (r : List ℕ) → length r ≤ 0 → Stops (stops_at j) r
        none [] h = tt
        none (y ∷ r) h = absurd (omega arith)

    pub fixed_free : (j : Bool) → j ≡ false → ReadIs (OneSpelling (a ++ b) n) (stops_at j) x (Tried.Whole n (k + m))
    fixed_free j e = subst (λ z. ReadIs (OneSpelling (a ++ b) n) (stops_at z) x (Tried.Whole n (k + m))) (sym e) (spelt (stops_at false) (any (drop (k + m) x)))
      where
        any : (r : List ℕ) → Stops (stops_at false) r
        any [] = tt
        any (y ∷ r) = refl
