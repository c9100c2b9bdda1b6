-- Bracket strings weighed: whatever each bracket weighs, the string that is found weighs at most what all brackets of the expression do, each once.
-- The strings out of an expression and into it again weigh no more together where the expression cannot be empty; where it can, and stands under a
-- star, there are many strings.
-- Assumes nothing.
use mathlib.Core.Path.{◌≡◌, refl, sym, ◌∙◌, ap, subst}
use mathlib.Core.Bool.{Bool, true, false}
use mathlib.Core.List.{List, [], ◌∷◌, ◌++◌}
use mathlib.Core.Option.{Option, none, some}
use Prim.Native.Nat.{ℕ, suc, ◌+◌, ◌≤◌}
use native.Mathlib.Omega.{arith}
use lib.Dec.{eqb}
use Rattle.expressions.specs.Count.{Count, add, mul, rep, bit}
use Rattle.expressions.specs.Expr.{Exp, atom, cat, alt, star, empty, nodes, atoms}
use Rattle.expressions.specs.Words.{Bracket, opening, closing}
use Rattle.expressions.specs.Grammar.{Next, can_be}
use Rattle.expressions.specs.Decide.{null, first, last, follow}
use Rattle.runs.specs.Options.{bind, or_else, when_true}
use Rattle.runs.specs.Way.{Way, joined, after_string, led, opened, closed, through, into, out_of_lem, across}

abbrev Str : Type 0
Str = List Bracket

-- counts that are not none, and counts that are not many
abbrev pub Some : Count → Type 0
Some n = n ≡ Count.none → ⊥

abbrev pub Few : Count → Type 0
Few n = n ≡ Count.many → ⊥

some_one : Some Count.one
some_one e = let z : ◌≡◌ {A = ℕ} 0 1 = cc in omega arith

some_many : Some Count.many
some_many e = let z : ◌≡◌ {A = ℕ} 0 1 = cc in omega arith

some_mul : (n m : Count) → Some n → Some m → Some (mul n m)
some_mul Count.none m a b = absurd (a refl)
some_mul Count.one m a b = b
some_mul Count.many Count.none a b = absurd (b refl)
some_mul Count.many Count.one a b = some_many
some_mul Count.many Count.many a b = some_many

some_add_left : (n m : Count) → Some n → Some (add n m)
some_add_left Count.none m a = absurd (a refl)
some_add_left Count.one Count.none a = some_one
some_add_left Count.one Count.one a = some_many
some_add_left Count.one Count.many a = some_many
some_add_left Count.many m a = some_many

some_add_right : (n m : Count) → Some m → Some (add n m)
some_add_right Count.none m b = b
some_add_right Count.one Count.none b = absurd (b refl)
some_add_right Count.one Count.one b = some_many
some_add_right Count.one Count.many b = some_many
some_add_right Count.many m b = some_many

some_rep : (k n : Count) → Some n → Some (rep k n)
some_rep Count.none n a = a
some_rep Count.one n a = some_mul Count.many n some_many a
some_rep Count.many n a = some_mul Count.many n some_many a

pub few_add_left : (n m : Count) → Few (add n m) → Few n
few_add_left Count.none m f e = let z : ◌≡◌ {A = ℕ} 0 1 = cc in omega arith
few_add_left Count.one m f e = let z : ◌≡◌ {A = ℕ} 0 1 = cc in omega arith
few_add_left Count.many m f e = f refl

pub few_add_right : (n m : Count) → Few (add n m) → Few m
few_add_right n Count.none f e = let z : ◌≡◌ {A = ℕ} 0 1 = cc in omega arith
few_add_right n Count.one f e = let z : ◌≡◌ {A = ℕ} 0 1 = cc in omega arith
few_add_right Count.none Count.many f e = f refl
few_add_right Count.one Count.many f e = f refl
few_add_right Count.many Count.many f e = f refl

-- a product is none only where a factor is
none_first : (n m : Count) → mul n m ≡ Count.none → Some m → n ≡ Count.none
none_first Count.none m e b = refl
none_first Count.one m e b = absurd (b e)
none_first Count.many m e b = absurd (some_mul Count.many m some_many b e)

none_second : (n m : Count) → mul n m ≡ Count.none → Some n → m ≡ Count.none
none_second n Count.none e b = refl
none_second n Count.one e b = absurd (some_mul n Count.one b some_one e)
none_second n Count.many e b = absurd (some_mul n Count.many b some_many e)

none_left : (n m : Count) → add n m ≡ Count.none → n ≡ Count.none
none_left Count.none m e = refl
none_left Count.one m e = absurd (some_add_left Count.one m some_one e)
none_left Count.many m e = absurd (some_many e)

none_right : (n m : Count) → add n m ≡ Count.none → m ≡ Count.none
none_right n Count.none e = refl
none_right n Count.one e = absurd (some_add_right n Count.one some_one e)
none_right n Count.many e = absurd (some_add_right n Count.many some_many e)

-- round a star whose body can be empty there are many strings
rep_many : (k n : Count) → Some k → Some n → rep k n ≡ Count.many
rep_many Count.none n a b = absurd (a refl)
rep_many Count.one Count.none a b = absurd (b refl)
rep_many Count.one Count.one a b = refl
rep_many Count.one Count.many a b = refl
rep_many Count.many Count.none a b = absurd (b refl)
rep_many Count.many Count.one a b = refl
rep_many Count.many Count.many a b = refl

mul_many : (l : Count) → Some l → mul l Count.many ≡ Count.many
mul_many Count.none a = absurd (a refl)
mul_many Count.one a = refl
mul_many Count.many a = refl

round_many : (l k n : Count) → Some l → Some k → Some n → mul l (rep k n) ≡ Count.many
round_many l k n a b c = ap (mul l) (rep_many k n b c) ∙ mul_many l a

-- what is found has the property, and where something is found the count is not none
abbrev pub Fine : {A : Type 0} → (A → Type 0) → Option A → Count → Type 0
Fine P none n = Unit {0}
Fine P (some a) n = Some n × P a

fine_map : {A B : Type 0} (P : A → Type 0) (Q : B → Type 0) (g : A → B) (o : Option A) (n : Count) → Fine P o n → ((a : A) → P a → Q (g a)) → Fine Q (bind o (λ a. some (g a))) n
fine_map P Q g none n h k = tt
fine_map P Q g (some a) n h k = (h.0, k a h.1)

fine_two : {A B C : Type 0} (P : A → Type 0) (Q : B → Type 0) (R : C → Type 0) (g : A → B → C) (o : Option A) (o' : Option B) (n m : Count) → Fine P o n → Fine Q o' m →
    ((a : A) (b : B) → P a → Q b → R (g a b)) → Fine R (bind o (λ a. bind o' (λ b. some (g a b)))) (mul n m)
fine_two P Q R g none o' n m h h' k = tt
fine_two P Q R g (some a) none n m h h' k = tt
fine_two P Q R g (some a) (some b) n m h h' k = (some_mul n m h.0 h'.0, k a b h.1 h'.1)

fine_or_else : {A : Type 0} (P : A → Type 0) (o o' : Option A) (n m : Count) → Fine P o n → Fine P o' m → Fine P (or_else o o') (add n m)
fine_or_else P none none n m h h' = tt
fine_or_else P none (some b) n m h h' = (some_add_right n m h'.0, h'.1)
fine_or_else P (some a) o' n m h h' = (some_add_left n m h.0, h.1)

fine_weak : {A : Type 0} (P Q : A → Type 0) (o : Option A) (n : Count) → Fine P o n → ((a : A) → P a → Q a) → Fine Q o n
fine_weak P Q none n h k = tt
fine_weak P Q (some a) n h k = (h.0, k a h.1)

fine_count : {A : Type 0} (P : A → Type 0) (o : Option A) (n m : Count) → Fine P o n → (Some n → Some m) → Fine P o m
fine_count P none n m h k = tt
fine_count P (some a) n m h k = (k h.0, h.1)

fine_when : {A : Type 0} (P : A → Type 0) (b : Bool) (a : A) → P a → Fine P (when_true b a) (bit b)
fine_when P true a h = (some_one, h)
fine_when P false a h = tt

module _ (weight : Bracket → ℕ) where
  abbrev pub weigh : Str → ℕ
  weigh [] = 0
  weigh (c ∷ α) = weight c + weigh α

  pub weigh_append : (α β : Str) → weigh (α ++ β) ≡ weigh α + weigh β
  weigh_append [] β = omega arith
  weigh_append (c ∷ α) β = let h = weigh_append α β in omega arith

  -- the two brackets of a node, and those of all nodes of an expression whose first bracket is i
  abbrev pub own : ℕ → ℕ
  own i = weight (opening i) + weight (closing i)

  abbrev pub total : Exp → ℕ → ℕ
  total (atom k) i = own i
  total (cat l r) i = own i + (total l (suc i) + total r (suc i + nodes l))
  total (alt l r) i = own i + (total l (suc i) + total r (suc i + nodes l))
  total (star e) i = own i + total e (suc i)
  total empty i = own i

  abbrev pub Most : ℕ → Str → Type 0
  Most n α = weigh α ≤ n

  abbrev pub MostWay : ℕ → Way → Type 0
  MostWay n w = weigh w.string ≤ n

  -- the laws of strings, each in one place
  most_joined : (n m : ℕ) (α β : Str) → Most n α → Most m β → Most (n + m) (α ++ β)
  most_joined n m α β a b = omega (arith, weigh_append α β, a, b)

  most_closed : (n i : ℕ) (α : Str) → Most n α → Most (own i + n) (α ++ closing i ∷ [])
  most_closed n i α a = omega (arith, weigh_append α (closing i ∷ []), a)

  most_enclosed : (n i : ℕ) (α : Str) → Most n α → Most (own i + n) (opening i ∷ (α ++ closing i ∷ []))
  most_enclosed n i α a = omega (arith, weigh_append α (closing i ∷ []), a)

  most_opened : (n i : ℕ) (w : Way) → MostWay n w → MostWay (own i + n) (after_string (opening i ∷ []) w)
  most_opened n i w a = omega (arith, a)

  most_led : (n m : ℕ) (α : Str) (w : Way) → Most n α → MostWay m w → MostWay (n + m) (after_string α w)
  most_led n m α w a b = omega (arith, weigh_append α w.string, a, b)

  pub through_fine : (e : Exp) (i : ℕ) → Fine (Most (total e i)) (through e i) (null e)
  through_fine (atom k) i = tt
  through_fine (cat l r) i =
      let L : ℕ = total l (suc i) in
      let R : ℕ = total r (suc i + nodes l) in
      fine_map (Most (L + R)) (Most (total (cat l r) i)) (λ α. opening i ∷ (α ++ closing i ∷ [])) (joined (through l (suc i)) (through r (suc i + nodes l))) (null (cat l r))
      (fine_two (Most L) (Most R) (Most (L + R)) (λ α β. α ++ β) (through l (suc i)) (through r (suc i + nodes l)) (null l) (null r) (through_fine l (suc i)) (through_fine r (suc i + nodes l))
      (λ α β a b. most_joined L R α β a b))
      (λ α a. most_enclosed (L + R) i α a)
  through_fine (alt l r) i =
      let L : ℕ = total l (suc i) in
      let R : ℕ = total r (suc i + nodes l) in
      fine_map (Most (L + R)) (Most (total (alt l r) i)) (λ α. opening i ∷ (α ++ closing i ∷ [])) (or_else (through l (suc i)) (through r (suc i + nodes l))) (null (alt l r))
      (fine_or_else (Most (L + R)) (through l (suc i)) (through r (suc i + nodes l)) (null l) (null r)
      (fine_weak (Most L) (Most (L + R)) (through l (suc i)) (null l) (through_fine l (suc i)) (λ α a. omega (arith, a)))
      (fine_weak (Most R) (Most (L + R)) (through r (suc i + nodes l)) (null r) (through_fine r (suc i + nodes l)) (λ α a. omega (arith, a))))
      (λ α a. most_enclosed (L + R) i α a)
  through_fine (star e) i = (some_rep (null e) Count.one some_one, omega arith)
  through_fine empty i = (some_one, omega arith)

  module _ (tags : ℕ → List ℕ) (x : Next) where
    pub into_fine : (e : Exp) (i j : ℕ) → Fine (MostWay (total e i)) (into tags e i j x) (first tags e x)
    into_fine (atom k) i j =
        fine_map (MostWay 0) (MostWay (total (atom k) i)) (after_string (opening i ∷ [])) (when_true (can_be tags k x) (record { string = []; place = j; kind = k })) (bit (can_be tags k x))
        (fine_when (MostWay 0) (can_be tags k x) (record { string = []; place = j; kind = k }) (omega arith))
        (λ w a. omega (arith, most_opened 0 i w a))
    into_fine (cat l r) i j =
        let L : ℕ = total l (suc i) in
        let R : ℕ = total r (suc i + nodes l) in
        let o : Option Way = into tags r (suc i + nodes l) (j + atoms l) x in
        fine_map (MostWay (L + R)) (MostWay (total (cat l r) i)) (after_string (opening i ∷ [])) (or_else (into tags l (suc i) j x) (led (through l (suc i)) o)) (first tags (cat l r) x)
        (fine_or_else (MostWay (L + R)) (into tags l (suc i) j x) (led (through l (suc i)) o) (first tags l x) (mul (null l) (first tags r x))
        (fine_weak (MostWay L) (MostWay (L + R)) (into tags l (suc i) j x) (first tags l x) (into_fine l (suc i) j) (λ w a. omega (arith, a)))
        (fine_two (Most L) (MostWay R) (MostWay (L + R)) (λ α w. after_string α w) (through l (suc i)) o (null l) (first tags r x) (through_fine l (suc i))
        (into_fine r (suc i + nodes l) (j + atoms l)) (λ α w a b. most_led L R α w a b)))
        (λ w a. most_opened (L + R) i w a)
    into_fine (alt l r) i j =
        let L : ℕ = total l (suc i) in
        let R : ℕ = total r (suc i + nodes l) in
        let o : Option Way = into tags r (suc i + nodes l) (j + atoms l) x in
        fine_map (MostWay (L + R)) (MostWay (total (alt l r) i)) (after_string (opening i ∷ [])) (or_else (into tags l (suc i) j x) o) (first tags (alt l r) x)
        (fine_or_else (MostWay (L + R)) (into tags l (suc i) j x) o (first tags l x) (first tags r x)
        (fine_weak (MostWay L) (MostWay (L + R)) (into tags l (suc i) j x) (first tags l x) (into_fine l (suc i) j) (λ w a. omega (arith, a)))
        (fine_weak (MostWay R) (MostWay (L + R)) o (first tags r x) (into_fine r (suc i + nodes l) (j + atoms l)) (λ w a. omega (arith, a))))
        (λ w a. most_opened (L + R) i w a)
    into_fine (star e) i j =
        fine_map (MostWay (total e (suc i))) (MostWay (total (star e) i)) (after_string (opening i ∷ [])) (into tags e (suc i) j x) (first tags (star e) x)
        (fine_count (MostWay (total e (suc i))) (into tags e (suc i) j x) (first tags e x) (first tags (star e) x) (into_fine e (suc i) j) (some_rep (null e) (first tags e x)))
        (λ w a. most_opened (total e (suc i)) i w a)
    into_fine empty i j = tt

  pub out_fine : (e : Exp) (i j p : ℕ) → Fine (Most (total e i)) (out_of_lem e i j p) (last e j p)
  out_fine (atom k) i j p =
      fine_map (Most 0) (Most (total (atom k) i)) (λ α. α ++ closing i ∷ []) (when_true (eqb p j) []) (bit (eqb p j)) (fine_when (Most 0) (eqb p j) [] (omega arith))
      (λ α a. omega (arith, most_closed 0 i α a))
  out_fine (cat l r) i j p =
      let L : ℕ = total l (suc i) in
      let R : ℕ = total r (suc i + nodes l) in
      let o : Option Str = joined (out_of_lem l (suc i) j p) (through r (suc i + nodes l)) in
      let o' : Option Str = out_of_lem r (suc i + nodes l) (j + atoms l) p in
      fine_map (Most (L + R)) (Most (total (cat l r) i)) (λ α. α ++ closing i ∷ []) (or_else o o') (last (cat l r) j p)
      (fine_or_else (Most (L + R)) o o' (mul (last l j p) (null r)) (last r (j + atoms l) p)
      (fine_two (Most L) (Most R) (Most (L + R)) (λ α β. α ++ β) (out_of_lem l (suc i) j p) (through r (suc i + nodes l)) (last l j p) (null r) (out_fine l (suc i) j p) (through_fine r (suc i + nodes l))
      (λ α β a b. most_joined L R α β a b))
      (fine_weak (Most R) (Most (L + R)) o' (last r (j + atoms l) p) (out_fine r (suc i + nodes l) (j + atoms l) p) (λ α a. omega (arith, a))))
      (λ α a. most_closed (L + R) i α a)
  out_fine (alt l r) i j p =
      let L : ℕ = total l (suc i) in
      let R : ℕ = total r (suc i + nodes l) in
      let o' : Option Str = out_of_lem r (suc i + nodes l) (j + atoms l) p in
      fine_map (Most (L + R)) (Most (total (alt l r) i)) (λ α. α ++ closing i ∷ []) (or_else (out_of_lem l (suc i) j p) o') (last (alt l r) j p)
      (fine_or_else (Most (L + R)) (out_of_lem l (suc i) j p) o' (last l j p) (last r (j + atoms l) p)
      (fine_weak (Most L) (Most (L + R)) (out_of_lem l (suc i) j p) (last l j p) (out_fine l (suc i) j p) (λ α a. omega (arith, a)))
      (fine_weak (Most R) (Most (L + R)) o' (last r (j + atoms l) p) (out_fine r (suc i + nodes l) (j + atoms l) p) (λ α a. omega (arith, a))))
      (λ α a. most_closed (L + R) i α a)
  out_fine (star e) i j p =
      fine_map (Most (total e (suc i))) (Most (total (star e) i)) (λ α. α ++ closing i ∷ []) (out_of_lem e (suc i) j p) (last (star e) j p)
      (fine_count (Most (total e (suc i))) (out_of_lem e (suc i) j p) (last e j p) (last (star e) j p) (out_fine e (suc i) j p)
      (λ h. some_mul (last e j p) (rep (null e) Count.one) h (some_rep (null e) Count.one some_one)))
      (λ α a. most_closed (total e (suc i)) i α a)
  out_fine empty i j p = tt

  -- a string out and one in again, together
  abbrev Pair : Option Str → Option Way → ℕ → Type 0
  Pair none o' n = Unit {0}
  Pair (some α) none n = Unit {0}
  Pair (some α) (some w) n = weigh α + weigh w.string ≤ n

  no_string : (o' : Option Way) (n : ℕ) → Pair none o' n
  no_string o' n = tt

  no_way : (o : Option Str) (n : ℕ) → Pair o none n
  no_way none n = tt
  no_way (some α) n = tt

  pair_either : (o o₂ : Option Str) (o' : Option Way) (n : ℕ) → Pair o o' n → Pair o₂ o' n → Pair (or_else o o₂) o' n
  pair_either none o₂ o' n a b = b
  pair_either (some α) o₂ o' n a b = a

  pair_either_way : (o : Option Str) (o' o₂ : Option Way) (n : ℕ) → Pair o o' n → Pair o o₂ n → Pair o (or_else o' o₂) n
  pair_either_way o none o₂ n a b = b
  pair_either_way o (some w) o₂ n a b = a

  pair_around : (o : Option Str) (o' : Option Way) (i n : ℕ) → Pair o o' n → Pair (closed i o) (opened i o') (own i + n)
  pair_around none o' i n a = tt
  pair_around (some α) none i n a = tt
  pair_around (some α) (some w) i n a = omega (arith, weigh_append α (closing i ∷ []), a)

  pair_apart : (o : Option Str) (o' : Option Way) (k k' : Count) (n m : ℕ) → Fine (Most n) o k → Fine (MostWay m) o' k' → Pair o o' (n + m)
  pair_apart none o' k k' n m a b = tt
  pair_apart (some α) none k k' n m a b = tt
  pair_apart (some α) (some w) k k' n m a b = omega (arith, a.1, b.1)

  pair_joined : (o t : Option Str) (o' : Option Way) (k : Count) (n m : ℕ) → Fine (Most m) t k → (Some k → Pair o o' n) → Pair (joined o t) o' (n + m)
  pair_joined none t o' k n m a f = tt
  pair_joined (some α) none o' k n m a f = tt
  pair_joined (some α) (some β) none k n m a f = tt
  pair_joined (some α) (some β) (some w) k n m a f = omega (arith, weigh_append α β, a.1, f a.0)

  pair_led : (o t : Option Str) (o' : Option Way) (k : Count) (n m : ℕ) → Fine (Most n) t k → (Some k → Pair o o' m) → Pair o (led t o') (n + m)
  pair_led none t o' k n m a f = tt
  pair_led (some α) none o' k n m a f = tt
  pair_led (some α) (some β) none k n m a f = tt
  pair_led (some α) (some β) (some w) k n m a f = omega (arith, weigh_append β w.string, a.1, f a.0)

  -- through both parts of what cannot be empty no string goes
  pair_never : (o t t' : Option Str) (o' : Option Way) (k k' : Count) (n m r : ℕ) → Fine (Most n) t k → Fine (Most m) t' k' → mul k k' ≡ Count.none → Pair (joined o t') (led t o') r
  pair_never none t t' o' k k' n m r a b e = tt
  pair_never (some α) t none o' k k' n m r a b e = tt
  pair_never (some α) none (some β) o' k k' n m r a b e = tt
  pair_never (some α) (some γ) (some β) o' k k' n m r a b e = absurd (some_mul k k' a.0 b.0 e)

  module _ (tags : ℕ → List ℕ) (x : Next) where
    pair_fine : (e : Exp) (i j p : ℕ) → null e ≡ Count.none → Pair (out_of_lem e i j p) (into tags e i j x) (total e i)
    pair_fine (atom k) i j p h =
        let a = pair_around (when_true (eqb p j) []) (when_true (can_be tags k x) (record { string = []; place = j; kind = k })) i 0
        (pair_apart (when_true (eqb p j) []) (when_true (can_be tags k x) (record { string = []; place = j; kind = k })) (bit (eqb p j)) (bit (can_be tags k x)) 0 0
        (fine_when (Most 0) (eqb p j) [] (omega arith)) (fine_when (MostWay 0) (can_be tags k x) (record { string = []; place = j; kind = k }) (omega arith))) in
        subst (Pair (out_of_lem (atom k) i j p) (into tags (atom k) i j x)) (omega arith) a
    pair_fine (cat l r) i j p h =
        let L : ℕ = total l (suc i) in
        let R : ℕ = total r (suc i + nodes l) in
        let ol : Option Str = out_of_lem l (suc i) j p in
        let or : Option Str = out_of_lem r (suc i + nodes l) (j + atoms l) p in
        let tl : Option Str = through l (suc i) in
        let tr : Option Str = through r (suc i + nodes l) in
        let il : Option Way = into tags l (suc i) j x in
        let ir : Option Way = into tags r (suc i + nodes l) (j + atoms l) x in
        pair_around (or_else (joined ol tr) or) (or_else il (led tl ir)) i (L + R)
        (pair_either_way (or_else (joined ol tr) or) il (led tl ir) (L + R)
        (pair_either (joined ol tr) or il (L + R)
        (pair_joined ol tr il (null r) L R (through_fine r (suc i + nodes l)) (λ k. pair_fine l (suc i) j p (none_first (null l) (null r) h k)))
        (subst (Pair or il) (omega arith) (pair_apart or il (last r (j + atoms l) p) (first tags l x) R L (out_fine r (suc i + nodes l) (j + atoms l) p) (into_fine tags x l (suc i) j))))
        (pair_either (joined ol tr) or (led tl ir) (L + R)
        (pair_never ol tl tr ir (null l) (null r) L R (L + R) (through_fine l (suc i)) (through_fine r (suc i + nodes l)) h)
        (pair_led or tl ir (null l) L R (through_fine l (suc i)) (λ k. pair_fine r (suc i + nodes l) (j + atoms l) p (none_second (null l) (null r) h k)))))
    pair_fine (alt l r) i j p h =
        let L : ℕ = total l (suc i) in
        let R : ℕ = total r (suc i + nodes l) in
        let ol : Option Str = out_of_lem l (suc i) j p in
        let or : Option Str = out_of_lem r (suc i + nodes l) (j + atoms l) p in
        let il : Option Way = into tags l (suc i) j x in
        let ir : Option Way = into tags r (suc i + nodes l) (j + atoms l) x in
        pair_around (or_else ol or) (or_else il ir) i (L + R)
        (pair_either_way (or_else ol or) il ir (L + R)
        (pair_either ol or il (L + R)
        (more ol il L R (pair_fine l (suc i) j p (none_left (null l) (null r) h)))
        (subst (Pair or il) (omega arith) (pair_apart or il (last r (j + atoms l) p) (first tags l x) R L (out_fine r (suc i + nodes l) (j + atoms l) p) (into_fine tags x l (suc i) j))))
        (pair_either ol or ir (L + R)
        (pair_apart ol ir (last l j p) (first tags r x) L R (out_fine l (suc i) j p) (into_fine tags x r (suc i + nodes l) (j + atoms l)))
        (subst (Pair or ir) (omega arith) (more or ir R L (pair_fine r (suc i + nodes l) (j + atoms l) p (none_right (null l) (null r) h))))))
      where
        more : (o : Option Str) (o' : Option Way) (n m : ℕ) → Pair o o' n → Pair o o' (n + m)
        more none o' n m a = tt
        more (some α) none n m a = tt
        more (some α) (some w) n m a = omega (arith, a)
    pair_fine (star e) i j p h = absurd (some_rep (null e) Count.one some_one h)
    pair_fine empty i j p h = tt

    -- round a star: the body is never empty, or there are many strings
    pub round : (e : Exp) (i j p : ℕ) → Few (mul (last e j p) (rep (null e) (first tags e x))) →
        Fine (MostWay (total e i)) (led (out_of_lem e i j p) (into tags e i j x)) (mul (last e j p) (rep (null e) (first tags e x)))
    round e i j p few = by (out_of_lem e i j p) (into tags e i j x) (out_fine e i j p) (into_fine tags x e i j) (null e) refl (pair_fine e i j p)
      where
        by : (o : Option Str) (o' : Option Way) → Fine (Most (total e i)) o (last e j p) → Fine (MostWay (total e i)) o' (first tags e x) →
            (k : Count) → null e ≡ k → (null e ≡ Count.none → Pair o o' (total e i)) → Fine (MostWay (total e i)) (led o o') (mul (last e j p) (rep (null e) (first tags e x)))
        by none o' a b k q f = tt
        by (some α) none a b k q f = tt
        by (some α) (some w) a b Count.none q f =
            (some_mul (last e j p) (rep (null e) (first tags e x)) a.0 (some_rep (null e) (first tags e x) b.0), omega (arith, weigh_append α w.string, f q))
        by (some α) (some w) a b Count.one q f = absurd (few (round_many (last e j p) (null e) (first tags e x) a.0 (λ z. some_one (sym q ∙ z)) b.0))
        by (some α) (some w) a b Count.many q f = absurd (few (round_many (last e j p) (null e) (first tags e x) a.0 (λ z. some_many (sym q ∙ z)) b.0))

    pub across_fine : (e : Exp) (i j p : ℕ) → Few (follow tags e j p x) → Fine (MostWay (total e i)) (across tags e i j p x) (follow tags e j p x)
    across_fine (atom k) i j p few = tt
    across_fine (cat l r) i j p few =
        let L : ℕ = total l (suc i) in
        let R : ℕ = total r (suc i + nodes l) in
        let N : ℕ = total (cat l r) i in
        let a : Option Way = across tags l (suc i) j p x in
        let b : Option Way = led (out_of_lem l (suc i) j p) (into tags r (suc i + nodes l) (j + atoms l) x) in
        let c : Option Way = across tags r (suc i + nodes l) (j + atoms l) p x in
        let m : Count = mul (last l j p) (first tags r x) in
        let few_left = few_add_left (add (follow tags l j p x) m) (follow tags r (j + atoms l) p x) few in
        fine_or_else (MostWay N) (or_else a b) c (add (follow tags l j p x) m) (follow tags r (j + atoms l) p x)
        (fine_or_else (MostWay N) a b (follow tags l j p x) m
        (fine_weak (MostWay L) (MostWay N) a (follow tags l j p x) (across_fine l (suc i) j p (few_add_left (follow tags l j p x) m few_left)) (λ w h. omega (arith, h)))
        (fine_two (Most L) (MostWay R) (MostWay N) (λ α w. after_string α w) (out_of_lem l (suc i) j p) (into tags r (suc i + nodes l) (j + atoms l) x) (last l j p) (first tags r x)
        (out_fine l (suc i) j p) (into_fine tags x r (suc i + nodes l) (j + atoms l)) (λ α w h k. omega (arith, most_led L R α w h k))))
        (fine_weak (MostWay R) (MostWay N) c (follow tags r (j + atoms l) p x)
        (across_fine r (suc i + nodes l) (j + atoms l) p (few_add_right (add (follow tags l j p x) m) (follow tags r (j + atoms l) p x) few)) (λ w h. omega (arith, h)))
    across_fine (alt l r) i j p few =
        let N : ℕ = total (alt l r) i in
        let a : Option Way = across tags l (suc i) j p x in
        let c : Option Way = across tags r (suc i + nodes l) (j + atoms l) p x in
        fine_or_else (MostWay N) a c (follow tags l j p x) (follow tags r (j + atoms l) p x)
        (fine_weak (MostWay (total l (suc i))) (MostWay N) a (follow tags l j p x)
        (across_fine l (suc i) j p (few_add_left (follow tags l j p x) (follow tags r (j + atoms l) p x) few)) (λ w h. omega (arith, h)))
        (fine_weak (MostWay (total r (suc i + nodes l))) (MostWay N) c (follow tags r (j + atoms l) p x)
        (across_fine r (suc i + nodes l) (j + atoms l) p (few_add_right (follow tags l j p x) (follow tags r (j + atoms l) p x) few)) (λ w h. omega (arith, h)))
    across_fine (star e) i j p few =
        let N : ℕ = total (star e) i in
        let a : Option Way = across tags e (suc i) j p x in
        let b : Option Way = led (out_of_lem e (suc i) j p) (into tags e (suc i) j x) in
        let m : Count = mul (last e j p) (rep (null e) (first tags e x)) in
        fine_or_else (MostWay N) a b (follow tags e j p x) m
        (fine_weak (MostWay (total e (suc i))) (MostWay N) a (follow tags e j p x) (across_fine e (suc i) j p (few_add_left (follow tags e j p x) m few)) (λ w h. omega (arith, h)))
        (fine_weak (MostWay (total e (suc i))) (MostWay N) b m (round e (suc i) j p (few_add_right (follow tags e j p x) m few)) (λ w h. omega (arith, h)))
    across_fine empty i j p few = tt
