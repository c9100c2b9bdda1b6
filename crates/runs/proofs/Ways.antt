-- The way that is found is one that the bracketed words have, by the expression's tree; and one is found wherever they have one, for where none is found
-- the count is none.
-- Assumes nothing.
use mathlib.Core.Path.{◌≡◌, refl, sym, ◌∙◌, ap, subst}
use mathlib.Core.Bool.{Bool, true, false}
use mathlib.Core.List.{List, [], ◌∷◌, ◌++◌}
use mathlib.Core.Option.{Option, none, some}
use Prim.Native.Nat.{ℕ, zero, suc, ◌+◌}
use lib.Dec.{eqb}
use borrow.Author.Tests.{eqb-true}
use Rattle.expressions.specs.Count.{Count, add, mul, rep, bit}
use Rattle.expressions.specs.Expr.{Exp, atom, cat, alt, star, empty, nodes, atoms, Content, nothing, tree}
use Rattle.expressions.specs.Words.{Bracket, opening, closing, Sym, br, at, ◌▷◌, Lang, Only, only, Cat, both, Either, left, right, Star, stop, more, Within, within, Word}
use Rattle.expressions.specs.Grammar.{Next, can_be}
use Rattle.expressions.specs.Decide.{null, first, last, follow, to_end, to_atom}
use Rattle.runs.specs.Options.{bind, or_else, when_true}
use Rattle.runs.specs.Way.{Way, joined, after_string, led, through, into, out_of_lem, across, end_way, atom_way}
use Rattle.expressions.proofs.Classed.{Classed}
use Rattle.expressions.proofs.Strings.{▷-append, ▷-left}
use Rattle.expressions.proofs.Counted.{End, Go, Upto, upto}
use Rattle.expressions.proofs.Tree.{After}
use Rattle.expressions.proofs.Rule.{Rest, counted_rest}
use Rattle.expressions.proofs.Tree.{some_word}

abbrev Str : Type 0
Str = List Bracket

abbrev Text : Type 0
Text = List Sym

-- what is found, if anything, has the property
abbrev Holds : {A : Type 0} → (A → Type 0) → Option A → Type 0
Holds P none = Unit {0}
Holds P (some a) = P a

holds_or_else : {A : Type 0} (P : A → Type 0) (o o' : Option A) → Holds P o → Holds P o' → Holds P (or_else o o')
holds_or_else P none o' h h' = h'
holds_or_else P (some a) o' h h' = h

holds_map : {A B : Type 0} (P : A → Type 0) (Q : B → Type 0) (f : A → B) (o : Option A) → Holds P o → ((a : A) → P a → Q (f a)) → Holds Q (bind o (λ a. some (f a)))
holds_map P Q f none h k = tt
holds_map P Q f (some a) h k = k a h

holds_joined : (P Q R : Str → Type 0) (o o' : Option Str) → Holds P o → Holds Q o' → ((α β : Str) → P α → Q β → R (α ++ β)) → Holds R (joined o o')
holds_joined P Q R none o' h h' k = tt
holds_joined P Q R (some α) none h h' k = tt
holds_joined P Q R (some α) (some β) h h' k = k α β h h'

holds_led : (P : Str → Type 0) (Q R : Way → Type 0) (o : Option Str) (o' : Option Way) → Holds P o → Holds Q o' →
    ((α : Str) (w : Way) → P α → Q w → R (after_string α w)) → Holds R (led o o')
holds_led P Q R none o' h h' k = tt
holds_led P Q R (some α) none h h' k = tt
holds_led P Q R (some α) (some w) h h' k = k α w h h'

holds_when : {A : Type 0} (P : A → Type 0) (b : Bool) (a : A) → (b ≡ true → P a) → Holds P (when_true b a)
holds_when P true a k = k refl
holds_when P false a k = tt

holds_weak : {A : Type 0} (P Q : A → Type 0) (o : Option A) → Holds P o → ((a : A) → P a → Q a) → Holds Q o
holds_weak P Q none h k = tt
holds_weak P Q (some a) h k = k a h

-- languages
end_within : (i : ℕ) (A : Lang) (α : Str) → End A α → End (Within i A) (opening i ∷ (α ++ closing i ∷ []))
end_within i A α a =
    subst (λ (w : Text). Within i A (br (opening i) ∷ w)) (▷-left α [] (br (closing i) ∷ []) ∙ sym (▷-append α (closing i ∷ []) [])) (within (α ▷ []) a)

end_upto : (i : ℕ) (A : Lang) (α : Str) → End A α → End (Upto (closing i) A) (α ++ closing i ∷ [])
end_upto i A α a = subst (Upto (closing i) A) (▷-left α [] (br (closing i) ∷ []) ∙ sym (▷-append α (closing i ∷ []) [])) (upto (α ▷ []) a)

end_cat : (A B : Lang) (α β : Str) → End A α → End B β → End (Cat A B) (α ++ β)
end_cat A B α β a b = subst (Cat A B) (▷-left α [] (β ▷ []) ∙ sym (▷-append α β [])) (both (α ▷ []) (β ▷ []) a b)

module _ (tags : ℕ → List ℕ) (x : Next) where
  -- the way leads to an atom that can be x, in a word of A
  abbrev pub GoesTo : Lang → Way → Type 0
  GoesTo A w = (s : Text) × (can_be tags w.kind x ≡ true) × A (w.string ▷ at w.place w.kind ∷ s)

  goes_within : (i : ℕ) (A : Lang) (w : Way) → GoesTo A w → GoesTo (Within i A) (after_string (opening i ∷ []) w)
  goes_within i A w g = (
    g.0 ++ br (closing i) ∷ [],
    g.1,
    subst (λ (z : Text). Within i A (br (opening i) ∷ z)) (▷-left w.string (at w.place w.kind ∷ g.0) (br (closing i) ∷ []))
        (within (w.string ▷ at w.place w.kind ∷ g.0) g.2),
  )

  goes_upto : (i : ℕ) (A : Lang) (w : Way) → GoesTo A w → GoesTo (Upto (closing i) A) w
  goes_upto i A w g = (
    g.0 ++ br (closing i) ∷ [],
    g.1,
    subst (Upto (closing i) A) (▷-left w.string (at w.place w.kind ∷ g.0) (br (closing i) ∷ []))
        (upto (w.string ▷ at w.place w.kind ∷ g.0) g.2),
  )

  goes_left : (A B : Lang) (v : Text) → B v → (w : Way) → GoesTo A w → GoesTo (Cat A B) w
  goes_left A B v b w g =
      (g.0 ++ v, g.1, subst (Cat A B) (▷-left w.string (at w.place w.kind ∷ g.0) v) (both _ v g.2 b))

  goes_right : (A B : Lang) (α : Str) (w : Way) → End A α → GoesTo B w → GoesTo (Cat A B) (after_string α w)
  goes_right A B α w a g =
      let t : Text = at w.place w.kind ∷ g.0 in
      (g.0, g.1, subst (Cat A B) (▷-left α [] (w.string ▷ t) ∙ sym (▷-append α w.string t)) (both (α ▷ []) (w.string ▷ t) a g.2))

  goes_star : (A : Lang) (w : Way) → GoesTo A w → GoesTo (Star A) w
  goes_star A w g =
      (g.0 ++ [], g.1, subst (Star A) (▷-left w.string (at w.place w.kind ∷ g.0) []) (more _ [] g.2 stop))

  goes_either_left : (A B : Lang) (w : Way) → GoesTo A w → GoesTo (Either A B) w
  goes_either_left A B w g = (g.0, g.1, left g.2)

  goes_either_right : (A B : Lang) (w : Way) → GoesTo B w → GoesTo (Either A B) w
  goes_either_right A B w g = (g.0, g.1, right g.2)

-- what is found is there
through_sound : (e : Exp) (i j : ℕ) → Holds (End (Word e i j)) (through e i)
through_sound (atom k) i j = tt
through_sound (cat l r) i j =
    let L : Lang = Word l (suc i) j in
    let R : Lang = Word r (suc i + nodes l) (j + atoms l) in
    holds_map (End (Cat L R)) (End (Word (cat l r) i j)) (λ α. opening i ∷ (α ++ closing i ∷ [])) (joined (through l (suc i)) (through r (suc i + nodes l)))
    (holds_joined (End L) (End R) (End (Cat L R)) (through l (suc i)) (through r (suc i + nodes l))
    (through_sound l (suc i) j) (through_sound r (suc i + nodes l) (j + atoms l)) (end_cat L R))
    (end_within i (Cat L R))
through_sound (alt l r) i j =
    let L : Lang = Word l (suc i) j in
    let R : Lang = Word r (suc i + nodes l) (j + atoms l) in
    holds_map (End (Either L R)) (End (Word (alt l r) i j)) (λ α. opening i ∷ (α ++ closing i ∷ [])) (or_else (through l (suc i)) (through r (suc i + nodes l)))
    (holds_or_else (End (Either L R)) (through l (suc i)) (through r (suc i + nodes l))
    (holds_weak (End L) (End (Either L R)) (through l (suc i)) (through_sound l (suc i) j) (λ α a. left a))
    (holds_weak (End R) (End (Either L R)) (through r (suc i + nodes l)) (through_sound r (suc i + nodes l) (j + atoms l)) (λ α a. right a)))
    (end_within i (Either L R))
through_sound (star e) i j = within [] stop
through_sound empty i j = within [] only

module _ (tags : ℕ → List ℕ) (x : Next) where
  into_sound : (e : Exp) (i j : ℕ) → Holds (GoesTo tags x (Word e i j)) (into tags e i j x)
  into_sound (atom k) i j =
      holds_map (GoesTo tags x (Only (at j k ∷ []))) (GoesTo tags x (Word (atom k) i j)) (after_string (opening i ∷ [])) (when_true (can_be tags k x) (record { string = []; place = j; kind = k }))
      (holds_when (GoesTo tags x (Only (at j k ∷ []))) (can_be tags k x) (record { string = []; place = j; kind = k }) (λ c. ([], c, only)))
      (goes_within tags x i (Only (at j k ∷ [])))
  into_sound (cat l r) i j =
      let L : Lang = Word l (suc i) j in
      let R : Lang = Word r (suc i + nodes l) (j + atoms l) in
      let v = some_word r (suc i + nodes l) (j + atoms l) in
      holds_map (GoesTo tags x (Cat L R)) (GoesTo tags x (Word (cat l r) i j)) (after_string (opening i ∷ []))
      (or_else (into tags l (suc i) j x) (led (through l (suc i)) (into tags r (suc i + nodes l) (j + atoms l) x)))
      (holds_or_else (GoesTo tags x (Cat L R)) (into tags l (suc i) j x) (led (through l (suc i)) (into tags r (suc i + nodes l) (j + atoms l) x))
      (holds_weak (GoesTo tags x L) (GoesTo tags x (Cat L R)) (into tags l (suc i) j x) (into_sound l (suc i) j) (goes_left tags x L R v.0 v.1))
      (holds_led (End L) (GoesTo tags x R) (GoesTo tags x (Cat L R)) (through l (suc i)) (into tags r (suc i + nodes l) (j + atoms l) x)
      (through_sound l (suc i) j) (into_sound r (suc i + nodes l) (j + atoms l)) (goes_right tags x L R)))
      (goes_within tags x i (Cat L R))
  into_sound (alt l r) i j =
      let L : Lang = Word l (suc i) j in
      let R : Lang = Word r (suc i + nodes l) (j + atoms l) in
      holds_map (GoesTo tags x (Either L R)) (GoesTo tags x (Word (alt l r) i j)) (after_string (opening i ∷ []))
      (or_else (into tags l (suc i) j x) (into tags r (suc i + nodes l) (j + atoms l) x))
      (holds_or_else (GoesTo tags x (Either L R)) (into tags l (suc i) j x) (into tags r (suc i + nodes l) (j + atoms l) x)
      (holds_weak (GoesTo tags x L) (GoesTo tags x (Either L R)) (into tags l (suc i) j x) (into_sound l (suc i) j) (goes_either_left tags x L R))
      (holds_weak (GoesTo tags x R) (GoesTo tags x (Either L R)) (into tags r (suc i + nodes l) (j + atoms l) x) (into_sound r (suc i + nodes l) (j + atoms l)) (goes_either_right tags x L R)))
      (goes_within tags x i (Either L R))
  into_sound (star e) i j =
      let A : Lang = Word e (suc i) j in
      holds_map (GoesTo tags x A) (GoesTo tags x (Word (star e) i j)) (after_string (opening i ∷ [])) (into tags e (suc i) j x) (into_sound e (suc i) j)
      (λ w g. goes_within tags x i (Star A) w (goes_star tags x A w g))
  into_sound empty i j = tt

out_of_sound : (e : Exp) (i j p : ℕ) → Holds (End (After e i j p)) (out_of_lem e i j p)
out_of_sound (atom k) i j p =
    holds_map (λ α. (p ≡ j) × Only [] (α ▷ [])) (End (After (atom k) i j p)) (λ α. α ++ closing i ∷ []) (when_true (eqb p j) [])
    (holds_when (λ α. (p ≡ j) × Only [] (α ▷ [])) (eqb p j) [] (λ c. (eqb-true p j c, only)))
    (end_upto i (λ w. (p ≡ j) × Only [] w))
out_of_sound (cat l r) i j p =
    let L : Lang = After l (suc i) j p in
    let R : Lang = Word r (suc i + nodes l) (j + atoms l) in
    let R' : Lang = After r (suc i + nodes l) (j + atoms l) p in
    let A : Lang = Either (Cat L R) R' in
    let o : Option Str = joined (out_of_lem l (suc i) j p) (through r (suc i + nodes l)) in
    holds_map (End A) (End (After (cat l r) i j p)) (λ α. α ++ closing i ∷ []) (or_else o (out_of_lem r (suc i + nodes l) (j + atoms l) p))
    (holds_or_else (End A) o (out_of_lem r (suc i + nodes l) (j + atoms l) p)
    (holds_joined (End L) (End R) (End A) (out_of_lem l (suc i) j p) (through r (suc i + nodes l)) (out_of_sound l (suc i) j p) (through_sound r (suc i + nodes l) (j + atoms l))
    (λ α β a b. left (end_cat L R α β a b)))
    (holds_weak (End R') (End A) (out_of_lem r (suc i + nodes l) (j + atoms l) p) (out_of_sound r (suc i + nodes l) (j + atoms l) p) (λ α a. right a)))
    (end_upto i A)
out_of_sound (alt l r) i j p =
    let L : Lang = After l (suc i) j p in
    let R : Lang = After r (suc i + nodes l) (j + atoms l) p in
    holds_map (End (Either L R)) (End (After (alt l r) i j p)) (λ α. α ++ closing i ∷ []) (or_else (out_of_lem l (suc i) j p) (out_of_lem r (suc i + nodes l) (j + atoms l) p))
    (holds_or_else (End (Either L R)) (out_of_lem l (suc i) j p) (out_of_lem r (suc i + nodes l) (j + atoms l) p)
    (holds_weak (End L) (End (Either L R)) (out_of_lem l (suc i) j p) (out_of_sound l (suc i) j p) (λ α a. left a))
    (holds_weak (End R) (End (Either L R)) (out_of_lem r (suc i + nodes l) (j + atoms l) p) (out_of_sound r (suc i + nodes l) (j + atoms l) p) (λ α a. right a)))
    (end_upto i (Either L R))
out_of_sound (star e) i j p =
    let A : Lang = After e (suc i) j p in
    let B : Lang = Star (Word e (suc i) j) in
    holds_map (End A) (End (After (star e) i j p)) (λ α. α ++ closing i ∷ []) (out_of_lem e (suc i) j p) (out_of_sound e (suc i) j p)
    (λ α a. end_upto i (Cat A B) α (subst (Cat A B) (▷-left α [] []) (both (α ▷ []) [] a stop)))
out_of_sound empty i j p = tt

module _ (tags : ℕ → List ℕ) (x : Next) where
  across_sound : (e : Exp) (i j p : ℕ) → Holds (GoesTo tags x (After e i j p)) (across tags e i j p x)
  across_sound (atom k) i j p = tt
  across_sound (cat l r) i j p =
      let L : Lang = After l (suc i) j p in
      let R : Lang = Word r (suc i + nodes l) (j + atoms l) in
      let R' : Lang = After r (suc i + nodes l) (j + atoms l) p in
      let A : Lang = Either (Cat L R) R' in
      let v = some_word r (suc i + nodes l) (j + atoms l) in
      let o : Option Way = across tags l (suc i) j p x in
      let o' : Option Way = led (out_of_lem l (suc i) j p) (into tags r (suc i + nodes l) (j + atoms l) x) in
      let o'' : Option Way = across tags r (suc i + nodes l) (j + atoms l) p x in
      holds_weak (GoesTo tags x A) (GoesTo tags x (After (cat l r) i j p)) (or_else (or_else o o') o'')
      (holds_or_else (GoesTo tags x A) (or_else o o') o''
      (holds_or_else (GoesTo tags x A) o o'
      (holds_weak (GoesTo tags x L) (GoesTo tags x A) o (across_sound l (suc i) j p)
      (λ w g. goes_either_left tags x (Cat L R) R' w (goes_left tags x L R v.0 v.1 w g)))
      (holds_led (End L) (GoesTo tags x R) (GoesTo tags x A) (out_of_lem l (suc i) j p) (into tags r (suc i + nodes l) (j + atoms l) x)
      (out_of_sound l (suc i) j p) (into_sound tags x r (suc i + nodes l) (j + atoms l))
      (λ α w a g. goes_either_left tags x (Cat L R) R' (after_string α w) (goes_right tags x L R α w a g))))
      (holds_weak (GoesTo tags x R') (GoesTo tags x A) o'' (across_sound r (suc i + nodes l) (j + atoms l) p) (goes_either_right tags x (Cat L R) R')))
      (goes_upto tags x i A)
  across_sound (alt l r) i j p =
      let L : Lang = After l (suc i) j p in
      let R : Lang = After r (suc i + nodes l) (j + atoms l) p in
      let o : Option Way = across tags l (suc i) j p x in
      let o'' : Option Way = across tags r (suc i + nodes l) (j + atoms l) p x in
      holds_weak (GoesTo tags x (Either L R)) (GoesTo tags x (After (alt l r) i j p)) (or_else o o'')
      (holds_or_else (GoesTo tags x (Either L R)) o o''
      (holds_weak (GoesTo tags x L) (GoesTo tags x (Either L R)) o (across_sound l (suc i) j p) (goes_either_left tags x L R))
      (holds_weak (GoesTo tags x R) (GoesTo tags x (Either L R)) o'' (across_sound r (suc i + nodes l) (j + atoms l) p) (goes_either_right tags x L R)))
      (goes_upto tags x i (Either L R))
  across_sound (star e) i j p =
      let L : Lang = After e (suc i) j p in
      let W : Lang = Word e (suc i) j in
      let o : Option Way = across tags e (suc i) j p x in
      let o' : Option Way = led (out_of_lem e (suc i) j p) (into tags e (suc i) j x) in
      holds_weak (GoesTo tags x (Cat L (Star W))) (GoesTo tags x (After (star e) i j p)) (or_else o o')
      (holds_or_else (GoesTo tags x (Cat L (Star W))) o o'
      (holds_weak (GoesTo tags x L) (GoesTo tags x (Cat L (Star W))) o (across_sound e (suc i) j p) (goes_left tags x L (Star W) [] stop))
      (holds_led (End L) (GoesTo tags x W) (GoesTo tags x (Cat L (Star W))) (out_of_lem e (suc i) j p) (into tags e (suc i) j x)
      (out_of_sound e (suc i) j p) (into_sound tags x e (suc i) j)
      (λ α w a g. goes_right tags x L (Star W) α w a (goes_star tags x W w g))))
      (goes_upto tags x i (Cat L (Star W)))
  across_sound empty i j p = tt

pub end_way_sound : (e : Content) (p : ℕ) → Holds (End (Rest e p)) (end_way e p)
end_way_sound nothing zero = only
end_way_sound nothing (suc p) = tt
end_way_sound (tree e) zero = through_sound e 1 1
end_way_sound (tree e) (suc p) = out_of_sound e 1 1 (suc p)

pub atom_way_sound : (tags : ℕ → List ℕ) (x : Next) (e : Content) (p : ℕ) → Holds (GoesTo tags x (Rest e p)) (atom_way tags e p x)
atom_way_sound tags x nothing p = tt
atom_way_sound tags x (tree e) zero = into_sound tags x e 1 1
atom_way_sound tags x (tree e) (suc p) = across_sound tags x e 1 1 (suc p)

-- where nothing is found, the count is none
abbrev Agree : {A : Type 0} → Option A → Count → Type 0
Agree none n = n ≡ Count.none
Agree (some a) n = Unit {0}

agree_or_else : {A : Type 0} (o o' : Option A) (n n' : Count) → Agree o n → Agree o' n' → Agree (or_else o o') (add n n')
agree_or_else none o' n n' h h' = subst (λ (z : Count). Agree o' (add z n')) (sym h) h'
agree_or_else (some a) o' n n' h h' = tt

agree_map : {A B : Type 0} (f : A → B) (o : Option A) (n : Count) → Agree o n → Agree (bind o (λ a. some (f a))) n
agree_map f none n h = h
agree_map f (some a) n h = tt

mul_none : (n : Count) → mul n Count.none ≡ Count.none
mul_none Count.none = refl
mul_none Count.one = refl
mul_none Count.many = refl

rep_none : (n : Count) → rep n Count.none ≡ Count.none
rep_none Count.none = refl
rep_none Count.one = refl
rep_none Count.many = refl

agree_rep : {A : Type 0} (o : Option A) (k n : Count) → Agree o n → Agree o (rep k n)
agree_rep none k n h = ap (rep k) h ∙ rep_none k
agree_rep (some a) k n h = tt

agree_mul : {A B C : Type 0} (f : A → B → C) (o : Option A) (o' : Option B) (n n' : Count) → Agree o n → Agree o' n' →
    Agree (bind o (λ a. bind o' (λ b. some (f a b)))) (mul n n')
agree_mul f none o' n n' h h' = ap (λ (z : Count). mul z n') h
agree_mul f (some a) none n n' h h' = ap (mul n) h' ∙ mul_none n
agree_mul f (some a) (some b) n n' h h' = tt

agree_when : {A : Type 0} (b : Bool) (a : A) → Agree (when_true b a) (bit b)
agree_when true a = tt
agree_when false a = refl

agree_mul_left : {A : Type 0} (o : Option A) (n n' : Count) → Agree o n → Agree o (mul n n')
agree_mul_left none n n' h = ap (λ (z : Count). mul z n') h
agree_mul_left (some a) n n' h = tt

agree_through : (e : Exp) (i : ℕ) → Agree (through e i) (null e)
agree_through (atom k) i = refl
agree_through (cat l r) i =
    agree_map (λ α. opening i ∷ (α ++ closing i ∷ [])) (joined (through l (suc i)) (through r (suc i + nodes l))) (null (cat l r))
    (agree_mul (λ α β. α ++ β) (through l (suc i)) (through r (suc i + nodes l)) (null l) (null r) (agree_through l (suc i)) (agree_through r (suc i + nodes l)))
agree_through (alt l r) i =
    agree_map (λ α. opening i ∷ (α ++ closing i ∷ [])) (or_else (through l (suc i)) (through r (suc i + nodes l))) (null (alt l r))
    (agree_or_else (through l (suc i)) (through r (suc i + nodes l)) (null l) (null r) (agree_through l (suc i)) (agree_through r (suc i + nodes l)))
agree_through (star e) i = tt
agree_through empty i = tt

module _ (tags : ℕ → List ℕ) (x : Next) where
  agree_into : (e : Exp) (i j : ℕ) → Agree (into tags e i j x) (first tags e x)
  agree_into (atom k) i j = agree_map (after_string (opening i ∷ [])) (when_true (can_be tags k x) (record { string = []; place = j; kind = k })) (bit (can_be tags k x)) (agree_when (can_be tags k x) _)
  agree_into (cat l r) i j =
      let o : Option Way = into tags r (suc i + nodes l) (j + atoms l) x in
      agree_map (after_string (opening i ∷ [])) (or_else (into tags l (suc i) j x) (led (through l (suc i)) o)) (first tags (cat l r) x)
      (agree_or_else (into tags l (suc i) j x) (led (through l (suc i)) o) (first tags l x) (mul (null l) (first tags r x)) (agree_into l (suc i) j)
      (agree_mul (λ α w. after_string α w) (through l (suc i)) o (null l) (first tags r x) (agree_through l (suc i)) (agree_into r (suc i + nodes l) (j + atoms l))))
  agree_into (alt l r) i j =
      agree_map (after_string (opening i ∷ [])) (or_else (into tags l (suc i) j x) (into tags r (suc i + nodes l) (j + atoms l) x)) (first tags (alt l r) x)
      (agree_or_else (into tags l (suc i) j x) (into tags r (suc i + nodes l) (j + atoms l) x) (first tags l x) (first tags r x) (agree_into l (suc i) j) (agree_into r (suc i + nodes l) (j + atoms l)))
  agree_into (star e) i j =
      agree_map (after_string (opening i ∷ [])) (into tags e (suc i) j x) (first tags (star e) x) (agree_rep (into tags e (suc i) j x) (null e) (first tags e x) (agree_into e (suc i) j))
  agree_into empty i j = refl

agree_out : (e : Exp) (i j p : ℕ) → Agree (out_of_lem e i j p) (last e j p)
agree_out (atom k) i j p = agree_map (λ α. α ++ closing i ∷ []) (when_true (eqb p j) []) (bit (eqb p j)) (agree_when (eqb p j) _)
agree_out (cat l r) i j p =
    let o : Option Str = joined (out_of_lem l (suc i) j p) (through r (suc i + nodes l)) in
    agree_map (λ α. α ++ closing i ∷ []) (or_else o (out_of_lem r (suc i + nodes l) (j + atoms l) p)) (last (cat l r) j p)
    (agree_or_else o (out_of_lem r (suc i + nodes l) (j + atoms l) p) (mul (last l j p) (null r)) (last r (j + atoms l) p)
    (agree_mul (λ α β. α ++ β) (out_of_lem l (suc i) j p) (through r (suc i + nodes l)) (last l j p) (null r) (agree_out l (suc i) j p) (agree_through r (suc i + nodes l)))
    (agree_out r (suc i + nodes l) (j + atoms l) p))
agree_out (alt l r) i j p =
    agree_map (λ α. α ++ closing i ∷ []) (or_else (out_of_lem l (suc i) j p) (out_of_lem r (suc i + nodes l) (j + atoms l) p)) (last (alt l r) j p)
    (agree_or_else (out_of_lem l (suc i) j p) (out_of_lem r (suc i + nodes l) (j + atoms l) p) (last l j p) (last r (j + atoms l) p) (agree_out l (suc i) j p) (agree_out r (suc i + nodes l) (j + atoms l) p))
agree_out (star e) i j p =
    agree_map (λ α. α ++ closing i ∷ []) (out_of_lem e (suc i) j p) (last (star e) j p) (agree_mul_left (out_of_lem e (suc i) j p) (last e j p) (rep (null e) Count.one) (agree_out e (suc i) j p))
agree_out empty i j p = refl

module _ (tags : ℕ → List ℕ) (x : Next) where
  agree_across : (e : Exp) (i j p : ℕ) → Agree (across tags e i j p x) (follow tags e j p x)
  agree_across (atom k) i j p = refl
  agree_across (cat l r) i j p =
      let o : Option Way = across tags l (suc i) j p x in
      let o' : Option Way = led (out_of_lem l (suc i) j p) (into tags r (suc i + nodes l) (j + atoms l) x) in
      let o'' : Option Way = across tags r (suc i + nodes l) (j + atoms l) p x in
      agree_or_else (or_else o o') o'' (add (follow tags l j p x) (mul (last l j p) (first tags r x))) (follow tags r (j + atoms l) p x)
      (agree_or_else o o' (follow tags l j p x) (mul (last l j p) (first tags r x)) (agree_across l (suc i) j p)
      (agree_mul (λ α w. after_string α w) (out_of_lem l (suc i) j p) (into tags r (suc i + nodes l) (j + atoms l) x) (last l j p) (first tags r x)
      (agree_out l (suc i) j p) (agree_into tags x r (suc i + nodes l) (j + atoms l))))
      (agree_across r (suc i + nodes l) (j + atoms l) p)
  agree_across (alt l r) i j p =
      agree_or_else (across tags l (suc i) j p x) (across tags r (suc i + nodes l) (j + atoms l) p x) (follow tags l j p x) (follow tags r (j + atoms l) p x)
      (agree_across l (suc i) j p) (agree_across r (suc i + nodes l) (j + atoms l) p)
  agree_across (star e) i j p =
      let o' : Option Way = led (out_of_lem e (suc i) j p) (into tags e (suc i) j x) in
      agree_or_else (across tags e (suc i) j p x) o' (follow tags e j p x) (mul (last e j p) (rep (null e) (first tags e x)))
      (agree_across e (suc i) j p)
      (agree_mul (λ α w. after_string α w) (out_of_lem e (suc i) j p) (into tags e (suc i) j x) (last e j p) (rep (null e) (first tags e x))
      (agree_out e (suc i) j p) (agree_rep (into tags e (suc i) j x) (null e) (first tags e x) (agree_into tags x e (suc i) j)))
  agree_across empty i j p = refl

agree_end : (e : Content) (p : ℕ) → Agree (end_way e p) (to_end e p)
agree_end nothing zero = tt
agree_end nothing (suc p) = refl
agree_end (tree e) zero = agree_through e 1
agree_end (tree e) (suc p) = agree_out e 1 1 (suc p)

agree_atom : (tags : ℕ → List ℕ) (x : Next) (e : Content) (p : ℕ) → Agree (atom_way tags e p x) (to_atom tags e p x)
agree_atom tags x nothing p = refl
agree_atom tags x (tree e) zero = agree_into tags x e 1 1
agree_atom tags x (tree e) (suc p) = agree_across tags x e 1 1 (suc p)

-- wherever there is a way, one is found
pub end_found : (tags : ℕ → List ℕ) (e : Content) (p : ℕ) (α : Str) → End (Rest e p) α → (β : Str) × (end_way e p ≡ some β) × End (Rest e p) β
end_found tags e p α a = go (end_way e p) refl (end_way_sound e p) (agree_end e p)
  where
    go : (o : Option Str) → end_way e p ≡ o → Holds (End (Rest e p)) o → Agree o (to_end e p) → (β : Str) × (end_way e p ≡ some β) × End (Rest e p) β
    go none q h k = absurd (subst (λ (n : Count). Classed n (End (Rest e p))) k (counted_rest tags e p).ends α a)
    go (some β) q h k = (β, q, h)

pub atom_found : (tags : ℕ → List ℕ) (x : Next) (e : Content) (p : ℕ) (α : Str) → Go tags (Rest e p) x α →
    (w : Way) × (atom_way tags e p x ≡ some w) × GoesTo tags x (Rest e p) w
atom_found tags x e p α a = go (atom_way tags e p x) refl (atom_way_sound tags x e p) (agree_atom tags x e p)
  where
    go : (o : Option Way) → atom_way tags e p x ≡ o → Holds (GoesTo tags x (Rest e p)) o → Agree o (to_atom tags e p x) →
        (w : Way) × (atom_way tags e p x ≡ some w) × GoesTo tags x (Rest e p) w
    go none q h k = absurd (subst (λ (n : Count). Classed n (Go tags (Rest e p) x)) k ((counted_rest tags e p).goes x) α a)
    go (some w) q h k = (w, q, h)

-- and one that is found is there
pub found_end : (e : Content) (p : ℕ) (β : Str) → end_way e p ≡ some β → End (Rest e p) β
found_end e p β q = subst (Holds (End (Rest e p))) q (end_way_sound e p)

pub found_atom : (tags : ℕ → List ℕ) (x : Next) (e : Content) (p : ℕ) (w : Way) → atom_way tags e p x ≡ some w → GoesTo tags x (Rest e p) w
found_atom tags x e p w q = subst (Holds (GoesTo tags x (Rest e p))) q (atom_way_sound tags x e p)
