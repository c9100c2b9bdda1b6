-- Different names have different numbers, so the rows of a declaration are those of its production. Assumes nothing.
use mathlib.Core.Path.{◌≡◌, refl, sym, ◌∙◌, ap, ap₂, subst}
use mathlib.Core.Bool.{Bool, true, false, cond}
use mathlib.Core.Logic.{◌⊎◌, inl, inr, ⊎_elim}
use mathlib.Core.List.Memᴰ
use mathlib.Core.List.{List, [], ◌∷◌, ◌++◌, Memᴰ, head-eq_of_cons-eq, tail-eq_of_cons-eq}
use Prim.Native.Nat.{ℕ, suc}
use native.Mathlib.Omega.{arith}
use Rattle.expressions.specs.Expr.{Atom, nonterminal, anychar}
use Rattle.encoding.specs.Distinct.{equal, has, distinct, place_of}
use Rattle.encoding.proofs.Stored.{AllHad, distinct_all, equal_true, or_parts}
use Rattle.models.specs.Models.{Model, called, sequence, choice, optional, any_number, at_least_one, ContentSpec, nothing_inside, mixed, children, Declaration}
use Rattle.models.specs.Valid.{Child, element, character, Matches, its_element, in_order, the_first, the_second, left_out, not_left_out, none, one_more, just_one, one_and_more, Mixture, Valid}
use Rattle.models.specs.Family.{names_in, names_in_spec, mentioned}
use Rattle.models.specs.Promises.{as_atoms}
use Rattle.models.specs.Sheets.{number_of_name, NamedAmong, SameRows}
use Rattle.models.proofs.Same.{same_language}
use Rattle.models.proofs.Sheets.{had_behind}

-- what has one place is one
one_name : (l : List (List ℕ)) (x y : List ℕ) → has l x ≡ true → has l y ≡ true → place_of l x ≡ place_of l y → x ≡ y
one_name [] x y h k e = absurd (let z : ◌≡◌ {A = ℕ} 0 1 = cc in omega arith)
one_name (z ∷ l) x y h k e = on (equal x z) (equal y z) refl refl (λ f g. one_name l x y (or_parts (equal x z) (has l x) h f) (or_parts (equal y z) (has l y) k g)) e
  where
    on : (a b : Bool) → equal x z ≡ a → equal y z ≡ b → (equal x z ≡ false → equal y z ≡ false → place_of l x ≡ place_of l y → x ≡ y) → cond a 0 (suc (place_of l x)) ≡ cond b 0 (suc (place_of l y)) → x ≡ y
    on true true f g ih e = equal_true x z f ∙ sym (equal_true y z g)
    on true false f g ih e = absurd (omega (arith, e))
    on false true f g ih e = absurd (omega (arith, e))
    on false false f g ih e = ih f g (omega (arith, e))

-- rows of such names are told by their atoms
one_row : (names : List (List ℕ)) (u w : List Child) → NamedAmong names u → NamedAmong names w → as_atoms (place_of names) u ≡ as_atoms (place_of names) w → u ≡ w
one_row names [] [] h k e = refl
one_row names [] (element n ∷ w) h k e = absurd (let z : ◌≡◌ {A = ℕ} 0 1 = cc in omega arith)
one_row names [] (character ∷ w) h k e = absurd (let z : ◌≡◌ {A = ℕ} 0 1 = cc in omega arith)
one_row names (element m ∷ u) [] h k e = absurd (let z : ◌≡◌ {A = ℕ} 0 1 = cc in omega arith)
one_row names (character ∷ u) [] h k e = absurd (let z : ◌≡◌ {A = ℕ} 0 1 = cc in omega arith)
one_row names (element m ∷ u) (character ∷ w) h k e = absurd (let z : ◌≡◌ {A = ℕ} 0 1 = cc in omega arith)
one_row names (character ∷ u) (element n ∷ w) h k e = absurd (let z : ◌≡◌ {A = ℕ} 0 1 = cc in omega arith)
one_row names (character ∷ u) (character ∷ w) h k e = ap (λ l. character ∷ l) (one_row names u w h k (tail-eq_of_cons-eq e))
one_row names (element m ∷ u) (element n ∷ w) h k e =
    let place : place_of names m ≡ place_of names n = cc in
    ap₂ (λ (x : List ℕ) (l : List Child). element x ∷ l) (one_name names m n h.0 k.0 place) (one_row names u w h.1 k.1 (tail-eq_of_cons-eq e))

-- the names of a row that a content finds valid are its names
among_both : (names : List (List ℕ)) (u v : List Child) → NamedAmong names u → NamedAmong names v → NamedAmong names (u ++ v)
among_both names [] v h k = k
among_both names (element n ∷ u) v h k = (h.0, among_both names u v h.1 k)
among_both names (character ∷ u) v h k = among_both names u v h k

had_front : (l a b : List (List ℕ)) → AllHad l (a ++ b) → AllHad l a
had_front l [] b h = tt
had_front l (x ∷ a) b h = (h.0, had_front l a b h.1)

had_one : (l a : List (List ℕ)) (n : List ℕ) → AllHad l a → Memᴰ n a → has l n ≡ true
had_one l [] n h m = absurd (Memᴰ.not-nil m)
had_one l (x ∷ a) n h m = ⊎_elim (λ (e : n ≡ x). subst (λ z. has l z ≡ true) (sym e) h.0) (λ k. had_one l a n h.1 k) (Memᴰ.cases_cons m)

matched_among : {x : Model} {w : List Child} (names : List (List ℕ)) → Matches x w → AllHad names (names_in x) → NamedAmong names w
matched_among names its_element h = (h.0, tt)
matched_among names (in_order {x = x} {y = y} u v a b e) h =
    subst (NamedAmong names) (sym e) (among_both names u v (matched_among names a (had_front names (names_in x) (names_in y) h)) (matched_among names b (had_behind names (names_in x) (names_in y) h)))
matched_among names (the_first {x = x} {y = y} a) h = matched_among names a (had_front names (names_in x) (names_in y) h)
matched_among names (the_second {x = x} {y = y} a) h = matched_among names a (had_behind names (names_in x) (names_in y) h)
matched_among names left_out h = tt
matched_among names (not_left_out a) h = matched_among names a h
matched_among names none h = tt
matched_among names (one_more u v a b e) h = subst (NamedAmong names) (sym e) (among_both names u v (matched_among names a h) (matched_among names b h))
matched_among names (just_one a) h = matched_among names a h
matched_among names (one_and_more u v a b e) h = subst (NamedAmong names) (sym e) (among_both names u v (matched_among names a h) (matched_among names b h))

mixed_among : (names own : List (List ℕ)) (w : List Child) → AllHad names own → Mixture own w → NamedAmong names w
mixed_among names own [] h m = tt
mixed_among names own (character ∷ w) h m = mixed_among names own w h m
mixed_among names own (element n ∷ w) h m = (had_one names own n h m.0, mixed_among names own w h m.1)

valid_among : (names : List (List ℕ)) (c : ContentSpec) (w : List Child) → AllHad names (names_in_spec c) → Valid c w → NamedAmong names w
valid_among names nothing_inside w h v = subst (NamedAmong names) (sym v) tt
valid_among names (mixed own) w h v = mixed_among names own w h v
valid_among names (children x) w h v = matched_among names v h

-- those of a declaration are mentioned
mentions : (l : List (List ℕ)) (ds : List Declaration) (d : Declaration) → AllHad l (mentioned ds) → Memᴰ d ds → AllHad l (names_in_spec d.content)
mentions l [] d h m = absurd (Memᴰ.not-nil m)
mentions l (x ∷ ds) d h m =
    ⊎_elim (λ (e : d ≡ x). subst (λ z. AllHad l (names_in_spec z.content)) (sym e) (had_front l (names_in_spec x.content) (mentioned ds) h.1))
    (λ k. mentions l ds d (had_behind l (names_in_spec x.content) (mentioned ds) h.1) k) (Memᴰ.cases_cons m)

pub same_rows : SameRows
same_rows ds d m w h =
    let same = same_language (number_of_name ds) d.content (as_atoms (number_of_name ds) w) in
    ((λ v. same.1 (w, v, refl)), λ l. back (same.0 l))
  where
    back : ((u : List Child) × Valid d.content u × (as_atoms (number_of_name ds) w ≡ as_atoms (number_of_name ds) u)) → Valid d.content w
    back t =
        let known = valid_among (distinct (mentioned ds)) d.content t.0 (mentions (distinct (mentioned ds)) ds d (distinct_all (mentioned ds)) m) t.1 in
        subst (Valid d.content) (sym (one_row (distinct (mentioned ds)) w t.0 h known t.2)) t.1
