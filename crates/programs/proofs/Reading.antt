-- Readings made of readings: one after another, after a first byte, and of one kind as of another. Over every kind that has bytes.
-- Assumes nothing.
use mathlib.Core.Path.{◌≡◌, refl, sym, ap, ◌∙◌, subst}
use mathlib.Core.Bool.{Bool, ◌&&◌}
use Rattle.std.specs.Prelude.{Option, Some, None}
use mathlib.Core.List.{List, ◌∷◌, ◌++◌, append_assoc, tail-eq_of_cons-eq}
use Prim.Native.Nat.{ℕ, ◌+◌, ◌≤◌, ◌<◌}
use native.Mathlib.Omega.{arith}
use native.Mathlib.Numerals.{add-one}
use native.Mathlib.Nat.{add-zero}
use lib.ListN.{length, get_or, drop, length-append, length-drop, get_or-append}
use lib.Seq.{drop-cons, drop-drop, drop-append_seam, get_or-drop}
use Rattle.text.specs.Chars.{Starts}
use Rattle.programs.specs.Limits.{Visit, first, second}
use Rattle.programs.specs.Parsed.{ParsedAs, whole, none, InTurn}
use Rattle.programs.specs.declared.Parsed.{Parsed}
use Rattle.programs.proofs.Agree.{Agree}

-- what lies behind a part that lies at i
pub behind : (s : List ℕ) (i : ℕ) (w v : List ℕ) → drop i s ≡ w ++ v → drop (i + length w) s ≡ v
behind s i w v e = sym (drop-drop (length w) i s) ∙ ap (λ (l : List ℕ). drop (length w) l) e ∙ drop-append_seam w v

pub starts_length : (f w : List ℕ) → Starts f w → length w ≤ length f
starts_length f w st = omega (arith, ap length st.1, length-append w st.0)

-- a kind of thing that has bytes, which of them are good, and which a visit may hold
pub record Kind : Type 1 where
  pub Thing : Type 0
  pub bytes : Thing → List ℕ
  pub Good : Thing → Type 0
  pub may : Visit → Thing → Bool

abbrev pub Reads : Kind → List ℕ → ℕ → Option Parsed → Type 0
Reads K = ParsedAs K.bytes K.Good K.may

one_parsed : (r t : Parsed) → r.next ≡ t.next → r.first ≡ t.first → r.second ≡ t.second → r ≡ t
one_parsed r t n a b = ap (λ (x : ℕ). record { next = x; first = r.first; second = r.second }) n ∙ ap (λ (x : Bool). record { next = t.next; first = x; second = r.second }) a ∙ ap (λ (x : Bool). record { next = t.next; first = t.first; second = x }) b

-- the byte at j of what lies at i
pub byte_of : (s : List ℕ) (i : ℕ) (w : List ℕ) → Starts (drop i s) w → (j : ℕ) → j < length w → (i + j < length s) × (get_or s (i + j) 0 ≡ get_or w j 0)
byte_of s i w st j h =
    (omega (arith, starts_length (drop i s) w st, length-drop i s), sym (get_or-drop i s j 0) ∙ ap (λ (l : List ℕ). get_or l j 0) st.1 ∙ get_or-append w st.0 0 j h)

pub first_byte : (s : List ℕ) (i k : ℕ) (w : List ℕ) → Starts (drop i s) (k ∷ w) → get_or s i 0 ≡ k
first_byte s i k w st = ap (λ (n : ℕ). get_or s n 0) (sym (add-zero i)) ∙ (byte_of s i (k ∷ w) st 0 (omega arith)).1

module _ (K : Kind) {s : List ℕ} {i : ℕ} where
  -- a reading ends past its start, within the bytes
  pub ends : ((x : K.Thing) → 1 ≤ length (K.bytes x)) → {r : Parsed} → Reads K s i (Some r) → (i < r.next) × (r.next ≤ length s)
  ends some (whole x g st q _ _) = omega (arith, q, some x, starts_length (drop i s) (K.bytes x) st, length-drop i s)

  -- nothing lies past the end
  pub past_end : ((x : K.Thing) → 1 ≤ length (K.bytes x)) → length s ≤ i → Reads K s i None
  past_end some h = none (λ x g st. omega (arith, some x, starts_length (drop i s) (K.bytes x) st, length-drop i s))

  -- what is said of none is said of an answer that is none
  pub unread : {r : Option Parsed} → r ≡ None → Reads K s i None → Reads K s i r
  unread e = subst (Reads K s i) (sym e)

  -- any two answers are equal
  pub one_reading : Agree K.bytes → (p q : Option Parsed) → Reads K s i p → Reads K s i q → p ≡ q
  one_reading agree (Some r) (Some t) (whole x g st e f h) (whole y g' st' e' f' h') =
      let same = (agree x y st.0 st'.0 (sym st.1 ∙ st'.1)).0 in
      let z : i + length (K.bytes x) ≡ i + length (K.bytes y) = ap (λ (t : K.Thing). i + length (K.bytes t)) same in
      let p : K.may first x ≡ K.may first y = ap (λ (t : K.Thing). K.may first t) same in
      let q : K.may second x ≡ K.may second y = ap (λ (t : K.Thing). K.may second t) same in
      ap Some (one_parsed r t (e ∙ z ∙ sym e') (f ∙ p ∙ sym f') (h ∙ q ∙ sym h'))
  one_reading agree (Some r) None (whole x g st e f h) (none k) = absurd (k x g st)
  one_reading agree None (Some r) (none k) (whole x g st e f h) = absurd (k x g st)
  one_reading agree None None p q = refl

-- one after another
abbrev pub then : Kind → Kind → Kind
then X Y = record { Thing = X.Thing × Y.Thing; bytes = λ p. X.bytes p.0 ++ Y.bytes p.1; Good = λ p. X.Good p.0 × Y.Good p.1; may = λ v p. X.may v p.0 && Y.may v p.1 }

module _ (X Y : Kind) {s : List ℕ} {i : ℕ} where
  pub no_first : Reads X s i None → Reads (then X Y) s i None
  no_first (none f) = none (λ p g st. f p.0 g.0 (Y.bytes p.1 ++ st.0, st.1 ∙ append_assoc (X.bytes p.0) (Y.bytes p.1) st.0))

  pub no_second : Agree X.bytes → {r : Parsed} → Reads X s i (Some r) → Reads Y s r.next None → Reads (then X Y) s i None
  no_second agree (whole x g st q _ _) (none f) = none go
    where
      go : (p : X.Thing × Y.Thing) → (then X Y).Good p → Starts (drop i s) ((then X Y).bytes p) → ⊥
      go p h t =
          let e = agree x p.0 st.0 (Y.bytes p.1 ++ t.0) (sym st.1 ∙ t.1 ∙ append_assoc (X.bytes p.0) (Y.bytes p.1) t.0) in
          f p.1 h.1 (t.0, ap (λ (m : ℕ). drop m s) q ∙ behind s i (X.bytes x) st.0 st.1 ∙ e.1)

  pub in_turn_lem : {one two r : Parsed} → Reads X s i (Some one) → Reads Y s one.next (Some two) → InTurn one two r → Reads (then X Y) s i (Some r)
  in_turn_lem (whole x g st q α β) (whole y h t r γ δ) w =
      let lies : drop i s ≡ X.bytes x ++ (Y.bytes y ++ t.0) = st.1 ∙ ap (λ (l : List ℕ). X.bytes x ++ l) (sym (behind s i (X.bytes x) st.0 st.1) ∙ ap (λ (k : ℕ). drop k s) (sym q) ∙ t.1) in
      whole (x, y) (g, h) (t.0, lies ∙ sym (append_assoc (X.bytes x) (Y.bytes y) t.0)) (omega (arith, w.next_is, q, r, length-append (X.bytes x) (Y.bytes y))) (rw (w.first_is, α, γ)) (rw (w.second_is, β, δ))

-- after a first byte
pub at_byte : (s : List ℕ) (i : ℕ) → i < length s → drop i s ≡ get_or s i 0 ∷ drop (i + 1) s
at_byte s i h = rw (add-one, drop-cons s i 0)

abbrev pub marked : ℕ → Kind → Kind
marked k K = record { Thing = K.Thing; bytes = λ x. k ∷ K.bytes x; Good = K.Good; may = K.may }

pub after_byte : (K : Kind) {s : List ℕ} {i k : ℕ} → i < length s → get_or s i 0 ≡ k → {r : Option Parsed} → Reads K s (i + 1) r → Reads (marked k K) s i r
after_byte K {s} {i} {k} h e (whole x g st q α β) =
    whole x g (st.0, at_byte s i h ∙ ap (λ (b : ℕ). b ∷ drop (i + 1) s) e ∙ ap (λ (l : List ℕ). k ∷ l) st.1) (omega (arith, q)) α β
after_byte K {s} {i} h e (none f) = none (λ x g st. f x g (st.0, tail-eq_of_cons-eq (sym (at_byte s i h) ∙ st.1)))

-- of one kind as of another: each good one of the one is a good one of the other with the same bytes
pub seen_as : (X Y : Kind) {s : List ℕ} {i : ℕ}
    → ((x : X.Thing) → X.Good x → (y : Y.Thing) × Y.Good y × (Y.bytes y ≡ X.bytes x) × ((v : Visit) → X.may v x ≡ Y.may v y))
    → ((y : Y.Thing) → Y.Good y → Starts (drop i s) (Y.bytes y) → (x : X.Thing) × X.Good x × (Y.bytes y ≡ X.bytes x))
    → {r : Option Parsed} → Reads X s i r → Reads Y s i r
seen_as X Y {s} {i} forth back (whole x g st q α β) =
    let w = forth x g in
    whole w.0 w.1 (st.0, st.1 ∙ ap (λ (l : List ℕ). l ++ st.0) (sym w.2)) (q ∙ ap (λ (l : List ℕ). i + length l) (sym w.2)) (α ∙ w.3 first) (β ∙ w.3 second)
seen_as X Y forth back (none f) =
    none (λ y g st. let w = back y g st in f w.0 w.1 (st.0, st.1 ∙ ap (λ (l : List ℕ). l ++ st.0) w.2))
