-- Laws of the last of the first n of a list, and of what is put in its place. They follow the two definitions: by cases of n.
use mathlib.Core.Path.{◌≡◌, refl, sym, ap, subst, ◌∙◌}
use mathlib.Core.List.{List, [], ◌∷◌, ◌++◌, map, reverse, reverse-append}
use Prim.Native.Nat.{ℕ, zero, suc, ◌+◌, ◌-◌, ◌<◌, ◌≤◌}
use native.Mathlib.Omega.{arith}
use native.Mathlib.Numerals.{sub-one, add-one}
use lib.Seq.{set_out, take-suc, take-suc-set, take_all}
use lib.ListN.{length, length-map, length-set, get_or, set, take, get_or-eq_default}
use Rattle.state.specs.Meaning.{Every, none, more}
use Rattle.state.specs.Changes.{last_of, put_last}

-- how long a field that is an array of structs is: its relation speaks of the mapped list
pub length_mapped : {X Y : Type 0} (f : X → Y) (l : List X) (n : ℕ) → length (map f l) ≡ n → length l ≡ n
length_mapped f l n p = sym (length-map l f) ∙ p

-- what stands at an index that the list has, whatever would stand past its end
pub get_d_any : {X : Type 0} (l : List X) (i : ℕ) (a b : X) → i < length l → get_or l i a ≡ get_or l i b
get_d_any [] i a b h = absurd (omega arith)
get_d_any (x ∷ l) zero a b h = refl
get_d_any (x ∷ l) (suc i) a b h = get_d_any l i a b (omega arith)

pub last_past : {X : Type 0} (d : X) (l : List X) (n : ℕ) → length l < n → last_of d l n ≡ d
last_past d l zero h = refl
last_past d l (suc n) h = get_or-eq_default l d (omega arith)

pub last_at : {X : Type 0} (d z : X) (l : List X) (n : ℕ) → 0 < n → n ≤ length l → last_of d l n ≡ get_or l (n - 1) z
last_at d z l zero p h = absurd (omega arith)
last_at d z l (suc n) p h = rw sub-one (get_d_any l n d z (omega arith))

pub put_past : {X : Type 0} (l : List X) (n : ℕ) (x : X) → length l < n → put_last l n x ≡ l
put_past l zero x h = refl
put_past l (suc n) x h = set_out l n x (omega arith)

pub put_at : {X : Type 0} (l : List X) (n : ℕ) (x : X) → 0 < n → put_last l n x ≡ set l (n - 1) x
put_at l zero x p = absurd (omega arith)
put_at l (suc n) x p = rw sub-one

-- the first n, the last of them put apart; with another one in its place; with one more
pub take_last : {X : Type 0} (d : X) (l : List X) (n : ℕ) → 0 < n → n ≤ length l → take n l ≡ take (n - 1) l ++ (last_of d l n ∷ [])
take_last d l zero p h = absurd (omega arith)
take_last d l (suc n) p h = rw (sub-one) (take-suc l n d (omega arith))

pub take_put : {X : Type 0} (l : List X) (n : ℕ) (x : X) → 0 < n → n ≤ length l → take n (put_last l n x) ≡ take (n - 1) l ++ (x ∷ [])
take_put l zero x p h = absurd (omega arith)
take_put l (suc n) x p h = rw (sub-one) (take-suc-set l n x (omega arith))

pub take_push : {X : Type 0} (l : List X) (n : ℕ) (x : X) → n < length l → take (n + 1) (set l n x) ≡ take n l ++ (x ∷ [])
take_push l n x h = rw add-one (take-suc-set l n x h)

pub length_put : {X : Type 0} (l : List X) (n : ℕ) (x : X) → length (put_last l n x) ≡ length l
length_put l zero x = refl
length_put l (suc n) x = length-set l n x

reverse_snoc : {X : Type 0} (l m : List X) (x : X) → l ≡ m ++ (x ∷ []) → reverse l ≡ x ∷ reverse m
reverse_snoc l m x e = ap reverse e ∙ reverse-append m (x ∷ [])

-- the same, the last first
pub first_last : {X : Type 0} (d : X) (l : List X) (n : ℕ) → 0 < n → n ≤ length l → reverse (take n l) ≡ last_of d l n ∷ reverse (take (n - 1) l)
first_last d l n p h = reverse_snoc (take n l) (take (n - 1) l) (last_of d l n) (take_last d l n p h)

pub first_put : {X : Type 0} (l : List X) (n : ℕ) (x : X) → 0 < n → n ≤ length l → reverse (take n (put_last l n x)) ≡ x ∷ reverse (take (n - 1) l)
first_put l n x p h = reverse_snoc (take n (put_last l n x)) (take (n - 1) l) x (take_put l n x p h)

pub first_push : {X : Type 0} (l : List X) (n : ℕ) (x : X) → n < length l → reverse (take (n + 1) (set l n x)) ≡ x ∷ reverse (take n l)
first_push l n x h = reverse_snoc (take (n + 1) (set l n x)) (take n l) x (take_push l n x h)

-- what holds of each of a list, and of one more
pub all_snoc : {X : Type 0} {P : X → Type 0} {l : List X} {x : X} → Every P l → P x → Every P (l ++ (x ∷ []))
all_snoc none p = more p none
all_snoc (more q a) p = more q (all_snoc a p)

pub all_more : {X : Type 0} (P : X → Type 0) (l : List X) (i : ℕ) (z : X) → i < length l → Every P (take i l) → P (get_or l i z) → Every P (take (i + 1) l)
all_more P l i z h a p = rw (add-one, take-suc l i z h) (all_snoc a p)

pub all_whole : {X : Type 0} (P : X → Type 0) (l : List X) (n i : ℕ) → length l ≡ n → i ≡ n → Every P (take i l) → Every P l
all_whole P l n i e g a = let h : take i l ≡ l = take_all i l (omega arith) in subst (Every P) h a

pub all_front : {X : Type 0} {P : X → Type 0} (l : List X) (x : X) → Every P (l ++ (x ∷ [])) → Every P l
all_front [] x a = none
all_front (y ∷ l) x (more q a) = more q (all_front l x a)

pub all_last : {X : Type 0} {P : X → Type 0} (l : List X) (x : X) → Every P (l ++ (x ∷ [])) → P x
all_last [] x (more q a) = q
all_last (y ∷ l) x (more q a) = all_last l x a
