-- Laws of the last bytes: what stands so far from their end, a tail that is filled from its end on, more bytes after others, and what they tell of a line.
-- Assumes nothing.
use Rattle.std.proofs.Common.{◌≡◌, ℕ, suc, ◌+◌, ◌-◌, ◌<◌, ◌≤◌, min, List, [], ◌∷◌, ◌++◌, length, get_or, drop, set, replicate, sym, refl, ap, ◌∙◌, subst, append_assoc, arith, length-append, length-drop, length-set, drop_of_length-le, drop-cons, get_or-set_same, drop-drop, get_or-append-add, drop-set-lt}
use lib.ListN.{length-replicate, get_or-append}
use lib.Seq.{drop-append-le, drop-append-add}
use Rattle.places.specs.Shown.{last_bytes, ShownIs}
use Rattle.places.proofs.ShownLaws.{last_of_last, last_bytes_tell}
use Rattle.behind.specs.Tails.{most_kept, from_end, no_tail, tail_after, TailIs, bytes_kept, KeptTell}
use Rattle.behind.specs.declared.Tail.{Tail}

-- the j-th byte from the end is one of the bytes v, or of those before them

pub end_new : (s v : List ℕ) (j : ℕ) → j < length v → get_or v (length v - 1 - j) 0 ≡ from_end (s ++ v) j
end_new s v j h =
    let place : length s + (length v - 1 - j) ≡ length (s ++ v) - 1 - j = omega (arith, length-append s v) in
    sym (get_or-append-add s v (length v - 1 - j) 0) ∙ ap (λ k. get_or (s ++ v) k 0) place

pub end_old : (s v : List ℕ) (j : ℕ) → length s ≡ most_kept → length v ≤ j → j < most_kept → get_or s (most_kept - 1 - (j - length v)) 0 ≡ from_end (s ++ v) j
end_old s v j long h less =
    let place : most_kept - 1 - (j - length v) ≡ length (s ++ v) - 1 - j = omega (arith, length-append s v) in
    sym (get_or-append s v 0 (most_kept - 1 - (j - length v)) (omega arith)) ∙ ap (λ k. get_or (s ++ v) k 0) place

-- one byte more from the end

last_cons : (s : List ℕ) (j : ℕ) → j < length s → last_bytes (j + 1) s ≡ from_end s j ∷ last_bytes j s
last_cons s j h =
    let at : length s - (j + 1) ≡ length s - 1 - j = omega arith in
    let next : suc (length s - (j + 1)) ≡ length s - j = omega arith in
    drop-cons s (length s - (j + 1)) 0 (omega arith) ∙ ap (λ k. get_or s k 0 ∷ drop (suc (length s - (j + 1))) s) at ∙ ap (λ k. from_end s j ∷ drop k s) next

set_cons : (d : List ℕ) (k x : ℕ) → k < length d → drop k (set d k x) ≡ x ∷ drop (suc k) d
set_cons d k x h =
    drop-cons (set d k x) k 0 (omega (arith, length-set d k x)) ∙ ap (λ y. y ∷ drop (suc k) (set d k x)) (get_or-set_same d k x 0 h)
    ∙ ap (λ l. x ∷ l) (drop-set-lt (suc k) d k x (omega arith))

pub filled_none : (s d : List ℕ) → length d ≡ most_kept → drop (most_kept - 0) d ≡ last_bytes 0 s
filled_none s d long = drop_of_length-le d {i = most_kept - 0} (omega arith) ∙ sym (drop_of_length-le s {i = length s - 0} (omega arith))

pub filled_on : (s d : List ℕ) (j x : ℕ) → j < most_kept → length d ≡ most_kept → most_kept ≤ length s → x ≡ from_end s j → drop (most_kept - j) d ≡ last_bytes j s
    → drop (most_kept - (j + 1)) (set d (most_kept - 1 - j) x) ≡ last_bytes (j + 1) s
filled_on s d j x h long many e inv =
    let at : most_kept - 1 - j ≡ most_kept - (j + 1) = omega arith in
    let next : suc (most_kept - 1 - j) ≡ most_kept - j = omega arith in
    ap (λ k. drop k (set d (most_kept - 1 - j) x)) (sym at) ∙ set_cons d (most_kept - 1 - j) x (omega arith) ∙ ap (λ k. x ∷ drop k d) next ∙ ap (λ l. x ∷ l) inv
    ∙ ap (λ y. y ∷ last_bytes j s) e ∙ sym (last_cons s j (omega arith))

pub filled_all : (t : Tail) (v d : List ℕ) (j n : ℕ) → most_kept ≤ j → j ≤ most_kept → drop (most_kept - j) d ≡ last_bytes j (t.bytes ++ v) → n ≡ min (t.length + length v) most_kept
    → ◌≡◌ {A = Tail} (record { length = n; bytes = d }) (tail_after t v)
unfolding tail_after
filled_all t v d j n h h' inv e =
    let all : j ≡ most_kept = omega arith in
    let same : d ≡ last_bytes most_kept (t.bytes ++ v) = subst (λ k. drop (most_kept - k) d ≡ last_bytes k (t.bytes ++ v)) all inv in
    rw (e, same)

-- the last of bytes of which the first part was cut to its last ones already
last_last : (n : ℕ) (a v : List ℕ) → n ≤ length a → last_bytes n (last_bytes n a ++ v) ≡ last_bytes n (a ++ v)
last_last n a v h =
    let k = length a - n in
    let joined : drop k a ++ v ≡ drop k (a ++ v) = sym (drop-append-le k a v (omega arith)) in
    let both : length (a ++ v) ≡ length a + length v = length-append a v in
    let place : k + (length (drop k (a ++ v)) - n) ≡ length (a ++ v) - n = omega (arith, length-drop k (a ++ v)) in
    ap (λ l. last_bytes n l) joined ∙ drop-drop (length (drop k (a ++ v)) - n) k (a ++ v) ∙ ap (λ i. drop i (a ++ v)) place

-- some bytes more and then others are both together
pub after_after : (t : Tail) (u v : List ℕ) → length t.bytes ≡ most_kept → tail_after (tail_after t u) v ≡ tail_after t (u ++ v)
unfolding tail_after
after_after t u v long =
    filled_all t (u ++ v) (last_bytes most_kept (last_bytes most_kept (t.bytes ++ u) ++ v)) most_kept (min (min (t.length + length u) most_kept + length v) most_kept) (omega arith) (omega arith)
    (last_last most_kept (t.bytes ++ u) v (omega (arith, length-append t.bytes u)) ∙ ap (λ l. last_bytes most_kept l) (append_assoc t.bytes u v))
    (omega (arith, length-append u v))

-- a tail is that of all bytes that were passed

pub tail_none : TailIs [] no_tail
tail_none = record { length = omega arith; bytes = refl }

pub tail_after_lem : (u v : List ℕ) (t : Tail) → TailIs u t → TailIs (u ++ v) (tail_after t v)
unfolding tail_after
tail_after_lem u v t is =
    let zeros : List ℕ = replicate most_kept 0 in
    record {
      length = omega (arith, is.length, length-append u v);
      bytes = ap (λ l. last_bytes most_kept (l ++ v)) is.bytes ∙ last_last most_kept (zeros ++ u) v (omega (arith, length-append zeros u, length-replicate {A = ℕ} most_kept 0)) ∙ ap (λ l. last_bytes most_kept l) (append_assoc zeros u v);
    }

-- the bytes that are kept are the last that were passed
kept_last : (s : List ℕ) (t : Tail) → TailIs s t → bytes_kept t ≡ last_bytes most_kept s
kept_last s t is =
    let zeros : List ℕ = replicate most_kept 0 in
    let n = min (length s) most_kept in
    let both : length (zeros ++ s) ≡ length zeros + length s = length-append zeros s in
    let before : length (zeros ++ s) - n ≡ length zeros + (length s - n) = omega arith in
    let few : length s - n ≡ length s - most_kept = omega arith in
    ap (λ k. last_bytes k t.bytes) is.length ∙ ap (λ l. last_bytes n l) is.bytes ∙ last_of_last n most_kept (zeros ++ s) (omega arith)
    ∙ ap (λ k. drop k (zeros ++ s)) before ∙ drop-append-add zeros s (length s - n) ∙ ap (λ k. drop k s) few

pub kept_tell : KeptTell
kept_tell s v t more is shown = last_bytes_tell s v more (subst (λ l. ShownIs l v more) (kept_last s t is) shown)
