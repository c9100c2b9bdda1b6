-- Rule S is decided by counting: there is a fault exactly where the count is many.
-- A fault's two strings are two of those after the place; two of those after the place share a beginning by `reach`, and make a fault.
-- Assumes nothing.
use mathlib.Core.Path.{◌≡◌, refl, sym, ◌∙◌, ap, subst}
use mathlib.Core.List.{List, [], ◌∷◌, ◌++◌, append_assoc}
use mathlib.Core.Logic.{◌↔◌}
use Prim.Native.Nat.{ℕ, zero, suc}
use native.Mathlib.Omega.{arith}
use Rattle.expressions.specs.Count.{Count, none, one, many}
use Rattle.expressions.specs.Expr.{Content, nothing, tree}
use Rattle.expressions.specs.Words.{at, Lang, Only, Word, Words}
use Rattle.expressions.specs.Grammar.{Next, tag, character, end}
use Rattle.expressions.specs.Fault.{UpTo, GoesOn, Fault}
use Rattle.expressions.specs.Decide.{to_end, to_atom, count}
use Rattle.expressions.proofs.Classed.{Strings, Classed}
use Rattle.expressions.proofs.Strings.{Str, Text}
use Rattle.expressions.proofs.Counted.{End, Go, Counted, counted_nil, counted_void, only_inv}
use Rattle.expressions.proofs.Tree.{After, counted_word, counted_after, word_after, reach, append_nonempty}

-- what a word can have after a place
abbrev pub Rest : Content → ℕ → Lang
Rest nothing zero = Only []
Rest nothing (suc p) = λ w. ⊥
Rest (tree e) zero = Word e 1 1
Rest (tree e) (suc p) = After e 1 1 (suc p)

pub counted_rest : (tags : ℕ → List ℕ) (e : Content) (p : ℕ) → Counted tags (Rest e p) (to_end e p) (to_atom tags e p)
counted_rest tags nothing zero = counted_nil tags
counted_rest tags nothing (suc p) = counted_void tags _ (λ w h. h)
counted_rest tags (tree e) zero = counted_word tags e 1 1
counted_rest tags (tree e) (suc p) = counted_after tags e 1 1 (suc p)

-- the bracket strings from a place to a next symbol
abbrev pub Paths : (ℕ → List ℕ) → Lang → Next → Strings
Paths tags A (tag t) = Go tags A (tag t)
Paths tags A character = Go tags A character
Paths tags A end = End A

pub classed_count : (tags : ℕ → List ℕ) (e : Content) (p : ℕ) (x : Next) → Classed (count tags e p x) (Paths tags (Rest e p) x)
classed_count tags e p (tag t) = (counted_rest tags e p).goes (tag t)
classed_count tags e p character = (counted_rest tags e p).goes character
classed_count tags e p end = (counted_rest tags e p).ends

-- a word that starts with u, up to the place, goes on with what can come after the place
pub rest_of : (e : Content) (p : ℕ) (u w : Text) → UpTo p u → Words e (u ++ w) → Rest e p w
rest_of nothing zero u w h a = subst (λ (z : Text). Only [] (z ++ w)) h a
rest_of nothing (suc p) u w h a =
    let eq : u ++ w ≡ h.0 ++ at (suc p) h.1 ∷ w =
    ap (λ (z : Text). z ++ w) h.2 ∙ append_assoc h.0 (at (suc p) h.1 ∷ []) w in
    append_nonempty h.0 _ w (sym (only_inv _ _ a) ∙ eq)
rest_of (tree e) zero u w h a = subst (λ (z : Text). Word e 1 1 (z ++ w)) h a
rest_of (tree e) (suc p) u w h a =
    let eq : u ++ w ≡ h.0 ++ at (suc p) h.1 ∷ w =
    ap (λ (z : Text). z ++ w) h.2 ∙ append_assoc h.0 (at (suc p) h.1 ∷ []) w in
    word_after e 1 1 (suc p) h.1 (u ++ w) h.0 w a eq

-- and one beginning goes with all that can come after the place
pub begin : (e : Content) (p : ℕ) (w : Text) → Rest e p w → (u : Text) × UpTo p u × ((w' : Text) → Rest e p w' → Words e (u ++ w'))
begin nothing zero w a = ([], refl, λ w' b. b)
begin nothing (suc p) w a = absurd a
begin (tree e) zero w a = ([], refl, λ w' b. b)
begin (tree e) (suc p) w a =
    let t = reach e 1 1 (suc p) w a in (
      t.0 ++ at (suc p) t.1 ∷ [],
      (t.0, t.1, refl),
      λ w' b. subst (Word e 1 1) (sym (append_assoc t.0 (at (suc p) t.1 ∷ []) w')) (t.2 w' b),
    )

pub to_path : (tags : ℕ → List ℕ) (e : Content) (p : ℕ) (u : Text) → UpTo p u → (x : Next) (α : Str) → GoesOn tags e u x α → Paths tags (Rest e p) x α
to_path tags e p u h (tag t) α g = (g.0, g.1, g.2, g.3, rest_of e p u _ h g.4)
to_path tags e p u h character α g = (g.0, g.1, g.2, g.3, rest_of e p u _ h g.4)
to_path tags e p u h end α g = rest_of e p u _ h g

from_path : (tags : ℕ → List ℕ) (e : Content) (p : ℕ) (u : Text) → ((w : Text) → Rest e p w → Words e (u ++ w)) →
    (x : Next) (α : Str) → Paths tags (Rest e p) x α → GoesOn tags e u x α
from_path tags e p u f (tag t) α g = (g.0, g.1, g.2, g.3, f _ g.4)
from_path tags e p u f character α g = (g.0, g.1, g.2, g.3, f _ g.4)
from_path tags e p u f end α g = f _ g

some_rest : (tags : ℕ → List ℕ) (e : Content) (p : ℕ) (x : Next) (α : Str) → Paths tags (Rest e p) x α → (w : Text) × Rest e p w
some_rest tags e p (tag t) α g = (_, g.4)
some_rest tags e p character α g = (_, g.4)
some_rest tags e p end α g = (_, g)

two_many : (P : Strings) (n : Count) → Classed n P → (α β : Str) → P α → P β → (α ≡ β → ⊥) → n ≡ many
two_many P none c α β a b d = absurd (c α a)
two_many P one c α β a b d = absurd (d (c.2 α a ∙ sym (c.2 β b)))
two_many P many c α β a b d = refl

pub fault_many : (tags : ℕ → List ℕ) (e : Content) (p : ℕ) (x : Next) → Fault tags e p x → count tags e p x ≡ many
fault_many tags e p x f =
    two_many (Paths tags (Rest e p) x) (count tags e p x) (classed_count tags e p x) f.first_string f.second_string
    (to_path tags e p f.agreed f.up_to x f.first_string f.first_goes)
    (to_path tags e p f.agreed f.up_to x f.second_string f.second_goes) f.different

pub many_fault : (tags : ℕ → List ℕ) (e : Content) (p : ℕ) (x : Next) → count tags e p x ≡ many → Fault tags e p x
many_fault tags e p x m =
    let c : Classed many (Paths tags (Rest e p) x) = subst (λ (n : Count). Classed n (Paths tags (Rest e p) x)) m (classed_count tags e p x) in
    let w = some_rest tags e p x c.0 c.2 in
    let b = begin e p w.0 w.1 in
    record {
      agreed = b.0;
      up_to = b.1;
      first_string = c.0;
      second_string = c.1;
      different = c.4;
      first_goes = from_path tags e p b.0 b.2 x c.0 c.2;
      second_goes = from_path tags e p b.0 b.2 x c.1 c.3;
    }

pub fault_iff : (tags : ℕ → List ℕ) (e : Content) (p : ℕ) (x : Next) → Fault tags e p x ↔ (count tags e p x ≡ many)
fault_iff tags e p x = (fault_many tags e p x, many_fault tags e p x)

-- where there is no fault, the place and the next symbol alone decide the bracket string
pub one_way : (P : Strings) (n : Count) → Classed n P → (n ≡ many → ⊥) → (α β : Str) → P α → P β → α ≡ β
one_way P none c d α β a b = absurd (c α a)
one_way P one c d α β a b = c.2 α a ∙ sym (c.2 β b)
one_way P many c d α β a b = absurd (d refl)

pub no_fault_unique : (tags : ℕ → List ℕ) (e : Content) (p : ℕ) (x : Next) → (Fault tags e p x → ⊥) →
    (u u' : Text) → UpTo p u → UpTo p u' → (α β : Str) → GoesOn tags e u x α → GoesOn tags e u' x β → α ≡ β
no_fault_unique tags e p x no_fault u u' h h' α β a b =
    one_way (Paths tags (Rest e p) x) (count tags e p x) (classed_count tags e p x) (λ m. no_fault (many_fault tags e p x m)) α β
    (to_path tags e p u h x α a) (to_path tags e p u' h' x β b)

none_many : none ≡ many → ⊥
none_many e = let z : ◌≡◌ {A = ℕ} 0 1 = cc in omega arith

one_many : one ≡ many → ⊥
one_many e = let z : ◌≡◌ {A = ℕ} 0 1 = cc in omega arith

is_many_lem : (n : Count) → Dec (n ≡ many)
is_many_lem none = no none_many
is_many_lem one = no one_many
is_many_lem many = yes refl

-- a fault is there or is not
pub fault_decided : (tags : ℕ → List ℕ) (e : Content) (p : ℕ) (x : Next) → Dec (Fault tags e p x)
fault_decided tags e p x = decide (is_many_lem (count tags e p x))
  where
    decide : Dec (count tags e p x ≡ many) → Dec (Fault tags e p x)
    decide (yes m) = yes (many_fault tags e p x m)
    decide (no d) = no (λ f. d (fault_many tags e p x f))
