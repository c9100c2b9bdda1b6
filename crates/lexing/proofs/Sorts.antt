-- Laws of numbers, names and tags. Assumes nothing.
use mathlib.Core.Path.{◌≡◌, refl, sym, ◌∙◌, ap, ap₂, subst}
use mathlib.Core.Logic.{◌⊎◌, inl, inr}
use mathlib.Core.Bool.{Bool, true, false}
use mathlib.Core.List.{List, [], ◌∷◌, ◌++◌, append_assoc, append-nil, append_cancel_left, head-eq_of_cons-eq, tail-eq_of_cons-eq}
use Prim.Native.Nat.{ℕ, zero, suc, ◌+◌, ◌-◌, ◌/◌, ◌%◌, ◌≤◌, ◌<◌, max}
use native.Mathlib.Omega.{arith}
use native.Mathlib.Decide.{dec_le, ℕ_discrete}
use lib.ListN.{length, take, drop, get_or, length-append, length-drop, take-append-drop}
use lib.Seq.{take-suc, take_at, take-take, take-append-add, get_or_at, get_or-drop, drop-cons, drop-drop, take-add, length-take-le, get_or-take}
use borrow.Author.Tests.{lt-ltb, le-ltb}
use Rattle.text.specs.Names.{name_first, name_byte, All, Name}
use Rattle.text.proofs.NameLaws.{name_all}
use Rattle.notation.specs.Tokens.{decimal, TagName}
use Rattle.notation.proofs.Rows.{get_d_front, all_snoc}
use Rattle.lexing.specs.declared.Tried.{Tried}
use Rattle.lexing.specs.Reads.{Common, Stops, stops_at, nothing, Spelt, BeginsSpelling, Halts, ReadIs, whole, halts, OneSpelling, NumberBehind, NameRun, NameSpelling, TagSpelling}
use Rattle.lexing.proofs.Spellings.{all_of, last_taken}

clash : {A : Type 0} → ◌≡◌ {A = Bool} true false → A
clash e = absurd (let z : ◌≡◌ {A = ℕ} 0 1 = cc in omega arith)

-- digits
pub one_digit : (n : ℕ) → n < 10 → decimal n ≡ (48 + n) ∷ []
unfolding decimal
one_digit n h = rw (lt-ltb n 10 h) refl

pub two_digits : (n : ℕ) → 10 ≤ n → decimal n ≡ (48 + n / 10) ∷ (48 + n % 10) ∷ []
unfolding decimal
two_digits n h = rw (le-ltb n 10 h) refl

-- some of the bytes that begin a spelling begin it
starts_less : (L : List ℕ → ℕ → Type 0) (x : List ℕ) (p q : ℕ) → p ≤ q → BeginsSpelling L (take q x) → BeginsSpelling L (take p x)
starts_less L x p q h s = record {
  spelling = s.spelling;
  number = s.number;
  rest = drop p (take q x) ++ s.rest;
  is = s.is;
  are = s.are ∙ ap (λ z. z ++ s.rest) (sym (take-append-drop p (take q x)) ∙ ap (λ z. z ++ drop p (take q x)) (take-take p q x h)) ∙ append_assoc (take p x) (drop p (take q x)) s.rest;
}

-- two sorts: the longer beginning counts
module _ (L M N : List ℕ → ℕ → Type 0) (j : ℕ → Bool) (x : List ℕ) (split : (w : List ℕ) (n : ℕ) → N w n → L w n ⊎ M w n) (left : (w : List ℕ) (n : ℕ) → L w n → N w n) (right : (w : List ℕ) (n : ℕ) → M w n → N w n) where
  starts_as : (A B : List ℕ → ℕ → Type 0) → ((w : List ℕ) (n : ℕ) → A w n → B w n) → (y : List ℕ) → BeginsSpelling A y → BeginsSpelling B y
  starts_as A B f y s = record { spelling = s.spelling; number = s.number; rest = s.rest; is = f s.spelling s.number s.is; are = s.are }

  starts_split : (y : List ℕ) → BeginsSpelling N y → BeginsSpelling L y ⊎ BeginsSpelling M y
  starts_split y s = on (split s.spelling s.number s.is)
    where
      on : L s.spelling s.number ⊎ M s.spelling s.number → BeginsSpelling L y ⊎ BeginsSpelling M y
      on (inl h) = inl (record { spelling = s.spelling; number = s.number; rest = s.rest; is = h; are = s.are })
      on (inr h) = inr (record { spelling = s.spelling; number = s.number; rest = s.rest; is = h; are = s.are })

  no_whole_union : (p q : ℕ) → Halts L j x p → Halts M j x q → (n k : ℕ) → Spelt N j x n k → ⊥
  no_whole_union p q a b n k s = on (split s.spelling n s.is)
    where
      on : L s.spelling n ⊎ M s.spelling n → ⊥
      on (inl h) = a.no_whole n k (record { spelling = s.spelling; rest = s.rest; is = h; are = s.are; long = s.long; stops = s.stops })
      on (inr h) = b.no_whole n k (record { spelling = s.spelling; rest = s.rest; is = h; are = s.are; long = s.long; stops = s.stops })

  pub halts_union : (p q : ℕ) → Halts L j x p → Halts M j x q → Halts N j x (max p q)
  halts_union p q a b = on (dec_le p q)
    where
      further : (k : ℕ) → p ≤ k → q ≤ k → k < length x → BeginsSpelling L (take (suc k) x) ⊎ BeginsSpelling M (take (suc k) x) → ⊥
      further k lp lq i (inl s) = a.no_further (omega arith) (starts_less L x (suc p) (suc k) (omega arith) s)
      further k lp lq i (inr s) = b.no_further (omega arith) (starts_less M x (suc q) (suc k) (omega arith) s)

      on : Dec (p ≤ q) → Halts N j x (max p q)
      on (yes h) = let e : max p q ≡ q = omega arith in subst (Halts N j x) (sym e) (record {
        reached = b.reached;
        begun = λ i. starts_as M N right (take q x) (b.begun i);
        no_further = λ i s. further q h (omega arith) i (starts_split (take (suc q) x) s);
        no_whole = no_whole_union p q a b;
      })
      on (no h) = let e : max p q ≡ p = omega arith in subst (Halts N j x) (sym e) (record {
        reached = a.reached;
        begun = λ i. starts_as L N left (take p x) (a.begun i);
        no_further = λ i s. further p (omega arith) (omega arith) i (starts_split (take (suc p) x) s);
        no_whole = no_whole_union p q a b;
      })

-- numbers, one after the other
pub numbers_none : (a x : List ℕ) → Halts (NumberBehind a 0) (stops_at true) x 0
numbers_none a x = record {
  reached = omega arith;
  begun = λ i. absurd (omega arith);
  no_further = λ i s. absurd (omega (arith, s.is.below));
  no_whole = λ n k s. absurd (omega (arith, s.is.below));
}

pub numbers_more : (a x : List ℕ) (n p q : ℕ) → Halts (NumberBehind a n) (stops_at true) x p → ReadIs (OneSpelling (a ++ decimal n) n) (stops_at true) x (Tried.Stuck q) → Halts (NumberBehind a (n + 1)) (stops_at true) x (max p q)
numbers_more a x n p q h (halts k) = halts_union (NumberBehind a n) (OneSpelling (a ++ decimal n) n) (NumberBehind a (n + 1)) (stops_at true) x split
    (λ w m i. record { below = omega (arith, i.below); spelled = i.spelled })
    (λ w m i. record { below = omega (arith, i.numbered); spelled = i.spelled ∙ ap (λ z. a ++ decimal z) (sym i.numbered) })
    p q h k
  where
    split : (w : List ℕ) (m : ℕ) → NumberBehind a (n + 1) w m → NumberBehind a n w m ⊎ OneSpelling (a ++ decimal n) n w m
    split w m i = on (ℕ_discrete m n)
      where
        on : Dec (m ≡ n) → NumberBehind a n w m ⊎ OneSpelling (a ++ decimal n) n w m
        on (yes e) = inr (record { spelled = i.spelled ∙ ap (λ z. a ++ decimal z) e; numbered = e })
        on (no e) = inl (record { below = omega (arith, i.below); spelled = i.spelled })

pub number_found : (a x : List ℕ) (n count m k : ℕ) → n < count → ReadIs (OneSpelling (a ++ decimal n) n) (stops_at true) x (Tried.Whole m k) → ReadIs (NumberBehind a count) (stops_at true) x (Tried.Whole m k)
number_found a x n count m k l (whole s) =
    let i = s.is in
    whole {n = m} {k = k} (record { spelling = s.spelling; rest = s.rest; is = record { below = omega (arith, i.numbered); spelled = i.spelled ∙ ap (λ z. a ++ decimal z) (sym i.numbered) }; are = s.are; long = s.long; stops = s.stops })

pub numbers_done : (a x : List ℕ) (n count p : ℕ) → n ≡ count → Halts (NumberBehind a n) (stops_at true) x p → ReadIs (NumberBehind a count) (stops_at true) x (Tried.Stuck p)
numbers_done a x n count p e h = halts (subst (λ z. Halts (NumberBehind a z) (stops_at true) x p) e h)

-- an answer by its equation
pub read_as : (L : List ℕ → ℕ → Type 0) (j : ℕ → Bool) (x : List ℕ) (r v : Tried) → r ≡ v → ReadIs L j x r → ReadIs L j x v
read_as L j x r v e h = subst (ReadIs L j x) e h

-- names
name_snoc : (l : List ℕ) (b : ℕ) → Name l → name_byte b ≡ true → Name (l ++ b ∷ [])
name_snoc [] b h e = absurd h
name_snoc (x ∷ l) b h e = (h.0, all_snoc name_byte l b h.1 e)

one_more : (n : ℕ) → n + 1 ≡ suc n
one_more n = omega arith

pub name_one : (x : List ℕ) → 0 < length x → name_first (get_or x 0 0) ≡ true → Name (take 1 x)
name_one [] h e = absurd (omega arith)
name_one (b ∷ x) h e = (e, tt)

pub name_more : (x : List ℕ) (i : ℕ) → i < length x → Name (take i x) → name_byte (get_or x i 0) ≡ true → Name (take (i + 1) x)
name_more x i l h e = subst Name (sym (ap (λ n. take n x) (one_more i) ∙ take-suc x i 0 l)) (name_snoc (take i x) (get_or x i 0) h e)

first_byte : (w : List ℕ) → Name w → name_first (get_or w 0 0) ≡ true
first_byte [] h = absurd h
first_byte (b ∷ w) h = h.0

some_bytes : (w : List ℕ) → Name w → 1 ≤ length w
some_bytes [] h = absurd h
some_bytes (b ∷ w) h = omega arith

byte_at_lem : (w : List ℕ) (i : ℕ) → All name_byte w → i < length w → name_byte (get_or w i 0) ≡ true
byte_at_lem [] i h l = absurd (omega arith)
byte_at_lem (b ∷ w) zero h l = h.0
byte_at_lem (b ∷ w) (suc i) h l = byte_at_lem w i h.1 (omega arith)

take_length : (x : List ℕ) (n : ℕ) → n ≤ length x → length (take n x) ≡ n
take_length x n h = length-take-le n x h

-- no name begins so
pub no_name : (x : List ℕ) → NameRun x 0 → ReadIs NameSpelling name_byte x (Tried.Stuck 0)
no_name x r = halts {k = 0} (record {
  reached = omega arith;
  begun = λ i. absurd (omega arith);
  no_further = λ i s. clash (sym (first_byte s.spelling s.is.named.a_name) ∙ ap name_first (ap (λ z. get_or z 0 0) s.are ∙ last_taken x s.rest 0 i) ∙ r.none refl i);
  no_whole = λ n k s.
      let l = some_bytes s.spelling s.is.named.a_name in
      let e : get_or x 0 0 ≡ get_or s.spelling 0 0 = ap (λ z. get_or z 0 0) s.are ∙ get_d_front s.spelling s.rest 0 (omega arith) in
      clash (sym (first_byte s.spelling s.is.named.a_name) ∙ ap name_first (sym e) ∙ r.none refl (omega (arith, ap length s.are ∙ length-append s.spelling s.rest)));
})

run_name : (x : List ℕ) (n : ℕ) → 1 ≤ n → NameRun x n → TagName (take n x)
run_name x n l r = record { a_name = r.named l; short = omega (arith, take_length x n r.reached, r.short) }

pub name_ends : (x : List ℕ) (n : ℕ) → 1 ≤ n → NameRun x n → Stops name_byte (drop n x) → ReadIs NameSpelling name_byte x (Tried.Whole n n)
name_ends x n l r s = whole {n = n} {k = n} (record {
  spelling = take n x;
  rest = drop n x;
  is = record { named = run_name x n l r; long = sym (take_length x n r.reached) };
  are = sym (take-append-drop n x);
  long = sym (take_length x n r.reached);
  stops = s;
})

pub name_stops : (x : List ℕ) (n : ℕ) → n < length x → name_byte (get_or x n 0) ≡ false → Stops name_byte (drop n x)
name_stops x n l e = subst (Stops name_byte) (sym (drop-cons x n 0 l)) e

pub name_at_end : (x : List ℕ) (n : ℕ) → length x ≤ n → Stops name_byte (drop n x)
name_at_end x n l = on (drop n x) (omega (arith, length-drop n x))
  where
    on : (y : List ℕ) → length y ≤ 0 → Stops name_byte y
    on [] h = tt
    on (b ∷ y) h = absurd (omega arith)

-- a name goes on behind its fifteenth byte
pub name_long : (x : List ℕ) (n : ℕ) → 1 ≤ n → NameRun x n → n < length x → name_byte (get_or x n 0) ≡ true → ReadIs NameSpelling name_byte x (Tried.Stuck n)
name_long x n l r i e = halts {k = n} (record {
  reached = r.reached;
  begun = λ z. record { spelling = take n x; number = n; rest = []; is = record { named = run_name x n l r; long = sym (take_length x n r.reached) }; are = sym (append-nil (take n x)) };
  no_further = λ z s. absurd (omega (arith, s.is.named.short, ap length s.are ∙ length-append (take (suc n) x) s.rest, take_length x (suc n) (omega arith), fifteen));
  no_whole = λ m k s. stop s.spelling s.rest s.is.named s.are s.stops;
})
  where
    fifteen : 15 ≤ n
    fifteen = on (dec_le 15 n)
      where
        on : Dec (15 ≤ n) → 15 ≤ n
        on (yes h) = h
        on (no h) = clash (sym e ∙ r.no_more l (omega arith) i)

    all_bytes : (j : ℕ) → j ≤ n → name_byte (get_or x j 0) ≡ true
    all_bytes j h = on (dec_le n j)
      where
        on : Dec (n ≤ j) → name_byte (get_or x j 0) ≡ true
        on (yes g) = let same : j ≡ n = omega arith in ap (λ z. name_byte (get_or x z 0)) same ∙ e
        on (no g) = ap name_byte (sym (get_or-take n x j 0 (omega arith))) ∙ byte_at_lem (take n x) j (name_all (take n x) (r.named l)) (omega (arith, take_length x n r.reached))

    stop : (w q : List ℕ) → TagName w → x ≡ w ++ q → Stops name_byte q → ⊥
    stop w [] t a s = omega (arith, t.short, ap length (a ∙ append-nil w), fifteen)
    stop w (y ∷ q) t a s = clash (sym (all_bytes (length w) (omega (arith, t.short, fifteen))) ∙ ap name_byte (ap (λ z. get_or z (length w) 0) a ∙ get_or_at w y q 0 (length w) refl) ∙ s)

-- tags: a name between two rows of bytes, the second of which begins with no byte of a name
pub record TagEnd (b : List ℕ) : Type 0 where
  pub some : 1 ≤ length b
  pub apart : name_byte (get_or b 0 0) ≡ false

plain_tag : (a b : List ℕ) → TagSpelling a b (a ++ (97 ∷ b)) 1
plain_tag a b = record { name = 97 ∷ []; named = record { a_name = (refl, tt); short = omega arith }; long = refl; spelled = refl }

-- what all spellings begin with
pub tag_differs : (x a b : List ℕ) (k : ℕ) → Common x a k → k < length a → ReadIs (TagSpelling a b) nothing x (Tried.Stuck k)
tag_differs x a b k c l = halts {k = k} (record {
  reached = c.reached;
  begun = λ i. record { spelling = a ++ (97 ∷ b); number = 1; rest = drop k a ++ (97 ∷ b); is = plain_tag a b; are = ap (λ z. z ++ (97 ∷ b)) (sym (take-append-drop k a)) ∙ append_assoc (take k a) (drop k a) (97 ∷ b) ∙ ap (λ z. z ++ (drop k a ++ 97 ∷ b)) (sym c.same) };
  no_further = λ i s. c.differ i l (sym (last_taken x s.rest k i) ∙ ap (λ z. get_or z k 0) (sym s.are ∙ s.is.spelled) ∙ get_d_front a (s.is.name ++ b) k l);
  no_whole = λ n m s.
      let e : x ≡ a ++ ((s.is.name ++ b) ++ s.rest) = s.are ∙ ap (λ z. z ++ s.rest) s.is.spelled ∙ append_assoc a (s.is.name ++ b) s.rest in
      c.differ (omega (arith, ap length e ∙ length-append a ((s.is.name ++ b) ++ s.rest))) l (ap (λ z. get_or z k 0) e ∙ get_d_front a ((s.is.name ++ b) ++ s.rest) k l);
})

-- two names in front of what goes on with neither
names_one : (k : ℕ) (p run b y : List ℕ) → All name_byte p → All name_byte run → TagEnd b → length p ≤ k → Stops name_byte y ⊎ (k ≤ length run) → p ++ b ≡ run ++ y → (p ≡ run) × (b ≡ y)
names_one k [] [] b y h i t l s e = (refl, e)
names_one k [] (r ∷ run) [] y h i t l s e = absurd (omega (arith, t.some))
names_one k [] (r ∷ run) (z ∷ b) y h i t l s e = clash (sym i.0 ∙ ap name_byte (sym (head-eq_of_cons-eq e)) ∙ t.apart)
names_one k (q ∷ p) [] b [] h i t l s e = absurd (let n = ap length e in omega arith)
names_one k (q ∷ p) [] b (z ∷ y) h i t l (inl s) e = clash (sym h.0 ∙ ap name_byte (head-eq_of_cons-eq e) ∙ s)
names_one k (q ∷ p) [] b (z ∷ y) h i t l (inr s) e = absurd (omega arith)
names_one zero (q ∷ p) (r ∷ run) b y h i t l s e = absurd (omega arith)
names_one (suc k) (q ∷ p) (r ∷ run) b y h i t l s e = on (names_one k p run b y h.1 i.1 t (omega arith) (less s) (tail-eq_of_cons-eq e))
  where
    less : Stops name_byte y ⊎ (suc k ≤ suc (length run)) → Stops name_byte y ⊎ (k ≤ length run)
    less (inl g) = inl g
    less (inr g) = inr (omega arith)

    on : (p ≡ run) × (b ≡ y) → (q ∷ p ≡ r ∷ run) × (b ≡ y)
    on (f, g) = let same : q ≡ r = head-eq_of_cons-eq e in (cc, g)

module _ (x a b : List ℕ) (k : ℕ) (c : Common x a k) (l : length a ≤ k) where
  are_a : x ≡ a ++ drop k x
  are_a = all_of x a k c l

  long_a : k ≡ length a
  long_a = omega (arith, c.inside)

  -- behind a, what a spelling and what the bytes have
  behind_a : (w u : List ℕ) → x ≡ a ++ (w ++ u) → drop k x ≡ w ++ u
  behind_a w u e = append_cancel_left a (drop k x) (w ++ u) (sym are_a ∙ e)

  taken_behind : (n : ℕ) → take (k + n) x ≡ a ++ take n (drop k x)
  taken_behind n = ap₂ take (ap (λ z. z + n) long_a) are_a ∙ take-append-add a (drop k x) n

  module _ (r : NameRun (drop k x) 0) where
    no_first : (name z : List ℕ) → Name name → drop k x ≡ name ++ z → ⊥
    no_first [] z h e = h
    no_first (y ∷ name) z h e = clash (sym h.0 ∙ ap name_first (sym (ap (λ w. get_or w 0 0) e)) ∙ r.none refl (omega (arith, ap length e)))

    pub tag_no_name : ReadIs (TagSpelling a b) nothing x (Tried.Stuck k)
    tag_no_name = halts {k = k} (record {
      reached = c.reached;
      begun = λ i. record { spelling = a ++ (97 ∷ b); number = 1; rest = 97 ∷ b; is = plain_tag a b; are = ap (λ z. z ++ 97 ∷ b) (sym (ap (λ n. take n x) long_a ∙ ap (take (length a)) are_a ∙ take_at a (drop k x) (length a) refl)) };
      no_further = λ i s. further i s.is.name s.rest s.is.named.a_name (sym s.are ∙ s.is.spelled);
      no_whole = λ n m s. no_first s.is.name (b ++ s.rest) s.is.named.a_name
          (behind_a s.is.name (b ++ s.rest) (s.are ∙ ap (λ z. z ++ s.rest) s.is.spelled ∙ append_assoc a (s.is.name ++ b) s.rest ∙ ap (λ z. a ++ z) (append_assoc s.is.name b s.rest)));
    })
      where
        further : k < length x → (name u : List ℕ) → Name name → take (suc k) x ++ u ≡ a ++ (name ++ b) → ⊥
        further i [] u h e = h
        further i (y ∷ name) u h e =
            let f : get_or x k 0 ≡ y = sym (last_taken x u k i) ∙ ap (λ z. get_or z k 0) e ∙ get_or_at a y (name ++ b) 0 k (sym long_a) in
            let g : get_or (drop k x) 0 0 ≡ y = get_or-drop k x 0 0 ∙ ap (λ n. get_or x n 0) (zero_more k) ∙ f in
            clash (sym h.0 ∙ ap name_first (sym g) ∙ r.none refl (omega (arith, length-drop k x)))
          where
            zero_more : (n : ℕ) → n + 0 ≡ n
            zero_more n = omega arith

  module _ (n m : ℕ) (t : TagEnd b) (some : 1 ≤ n) (r : NameRun (drop k x) n) (d : Common (drop (k + n) x) b m) where
    run : List ℕ
    run = take n (drop k x)

    parts : drop k x ≡ run ++ drop (k + n) x
    unfolding run
    parts = sym (take-append-drop n (drop k x)) ∙ ap (λ z. take n (drop k x) ++ z) (drop-drop n k x)

    all_run : All name_byte run
    unfolding run
    all_run = name_all (take n (drop k x)) (r.named some)

    long_run : length run ≡ n
    unfolding run
    long_run = length-take-le n (drop k x) r.reached

    long_part : length (drop (k + n) x) ≡ length x - (k + n)
    long_part = length-drop (k + n) x

    -- taken up to a place behind the name
    taken : (i : ℕ) → take (k + n + i) x ≡ a ++ (run ++ take i (drop (k + n) x))
    unfolding run
    taken i = ap (λ z. take z x) (add k n i) ∙ taken_behind (n + i) ∙ ap (λ z. a ++ z) (take-add n i (drop k x) ∙ ap (λ z. take n (drop k x) ++ take i z) (drop-drop n k x))
      where
        add : (p q i : ℕ) → p + q + i ≡ p + (q + i)
        add p q i = omega arith

    run_stops : Stops name_byte (drop (k + n) x) ⊎ (15 ≤ length run)
    run_stops = on (dec_le 15 n) (dec_le (length x) (k + n))
      where
        nil : (y : List ℕ) → length y ≤ 0 → Stops name_byte y
        nil [] h = tt
        nil (z ∷ y) h = absurd (omega arith)

        on : Dec (15 ≤ n) → Dec (length x ≤ k + n) → Stops name_byte (drop (k + n) x) ⊎ (15 ≤ length run)
        on (yes h) g = inr (omega (arith, long_run))
        on (no h) (yes g) = inl (nil (drop (k + n) x) (omega (arith, long_part)))
        on (no h) (no g) = inl (subst (Stops name_byte) (sym (drop-cons x (k + n) 0 (omega arith))) (ap name_byte (sym (get_or-drop k x n 0)) ∙ r.no_more some (omega arith) (omega (arith, length-drop k x))))

    its_spelling : TagSpelling a b (a ++ (run ++ b)) n
    unfolding run
    its_spelling = record { name = run; named = record { a_name = r.named some; short = omega (arith, long_run, r.short) }; long = sym long_run; spelled = refl }

    -- another name with what follows
    one_tag : (name z y : List ℕ) → TagName name → TagEnd z → Stops name_byte y ⊎ (15 ≤ length run) → name ++ z ≡ run ++ y → z ≡ y
    one_tag name z y h e s i = (names_one 15 name run z y (name_all name h.a_name) all_run e h.short s i).1

    more_stops : (u : List ℕ) → m < length (drop (k + n) x) → Stops name_byte (drop (k + n) x) ⊎ (15 ≤ length run) → Stops name_byte (take (suc m) (drop (k + n) x) ++ u) ⊎ (15 ≤ length run)
    more_stops u h (inr g) = inr g
    more_stops u h (inl g) = inl (on (drop (k + n) x) h g)
      where
        on : (y : List ℕ) → m < length y → Stops name_byte y → Stops name_byte (take (suc m) y ++ u)
        on [] h g = absurd (omega arith)
        on (z ∷ y) h g = g

    pub tag_halts : m < length b → ReadIs (TagSpelling a b) nothing x (Tried.Stuck (k + n + m))
    tag_halts lb = halts {k = k + n + m} (record {
      reached = omega (arith, d.reached, long_part, r.reached, length-drop k x, c.reached);
      begun = λ i. record {
        spelling = a ++ (run ++ b);
        number = n;
        rest = drop m b;
        is = its_spelling;
        are =
            ap (λ z. a ++ (run ++ z)) (sym (take-append-drop m b) ∙ ap (λ z. z ++ drop m b) (sym d.same))
            ∙ ap (λ z. a ++ z) (sym (append_assoc run (take m (drop (k + n) x)) (drop m b))) ∙ sym (append_assoc a (run ++ take m (drop (k + n) x)) (drop m b)) ∙ ap (λ z. z ++ drop m b) (sym (taken m));
      };
      no_further = λ i s. further i s.is.name s.rest s.is.named (sym s.is.spelled ∙ s.are);
      no_whole = λ p q s. whole_tag s.is.name s.rest s.is.named (s.are ∙ ap (λ z. z ++ s.rest) s.is.spelled);
    })
      where
        further : k + n + m < length x → (name u : List ℕ) → TagName name → a ++ (name ++ b) ≡ take (suc (k + n + m)) x ++ u → ⊥
        further i name u h e =
            let l : m < length (drop (k + n) x) = omega (arith, long_part) in
            let f : a ++ (name ++ b) ≡ a ++ (run ++ (take (suc m) (drop (k + n) x) ++ u)) =
            e ∙ ap (λ z. take z x ++ u) (shift (k + n) m) ∙ ap (λ z. z ++ u) (taken (suc m)) ∙ append_assoc a (run ++ take (suc m) (drop (k + n) x)) u ∙ ap (λ z. a ++ z) (append_assoc run (take (suc m) (drop (k + n) x)) u) in
            let g = one_tag name b (take (suc m) (drop (k + n) x) ++ u) h t (more_stops u l run_stops) (append_cancel_left a (name ++ b) (run ++ (take (suc m) (drop (k + n) x) ++ u)) f) in
            d.differ l lb (sym (last_taken (drop (k + n) x) u m l) ∙ ap (λ z. get_or z m 0) (sym g))
          where
            shift : (p q : ℕ) → suc (p + q) ≡ p + suc q
            shift p q = omega arith

        end_with : (u : List ℕ) → TagEnd (b ++ u)
        end_with u = record { some = simp length-append (omega (arith, t.some)); apart = ap name_byte (get_d_front b u 0 (omega (arith, t.some))) ∙ t.apart }

        whole_tag : (name u : List ℕ) → TagName name → x ≡ (a ++ (name ++ b)) ++ u → ⊥
        whole_tag name u h e =
            let f = behind_a name (b ++ u) (e ∙ append_assoc a (name ++ b) u ∙ ap (λ z. a ++ z) (append_assoc name b u)) in
            let g = one_tag name (b ++ u) (drop (k + n) x) h (end_with u) run_stops (sym f ∙ parts) in
            d.differ (omega (arith, ap length (sym g) ∙ length-append b u)) lb (ap (λ z. get_or z m 0) (sym g) ∙ get_d_front b u m lb)

    pub tag_whole : length b ≤ m → ReadIs (TagSpelling a b) nothing x (Tried.Whole n (k + n + m))
    tag_whole lb = whole {n = n} {k = k + n + m} (record {
      spelling = a ++ (run ++ b);
      rest = drop (k + n + m) x;
      is = its_spelling;
      are =
          are_a ∙ ap (λ z. a ++ z) (parts ∙ ap (λ z. run ++ z) (all_of (drop (k + n) x) b m d lb ∙ ap (λ z. b ++ z) (drop-drop m (k + n) x)))
          ∙ ap (λ z. a ++ z) (sym (append_assoc run b (drop (k + n + m) x))) ∙ sym (append_assoc a (run ++ b) (drop (k + n + m) x));
      long = sym (length-append a (run ++ b) ∙ ap (λ z. length a + z) (length-append run b) ∙ omega (arith, long_run, long_a, d.inside));
      stops = any (drop (k + n + m) x);
    })
      where
        any : (y : List ℕ) → Stops nothing y
        any [] = tt
        any (z ∷ y) = refl
