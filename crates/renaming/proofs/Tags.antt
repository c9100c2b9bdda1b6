-- A name of the stream, under two numberings of the tags: the same productions have it. Assumes nothing.
use mathlib.Core.Path.{◌≡◌, refl, sym, ◌∙◌, ap, ap₂, subst}
use mathlib.Core.Bool.{Bool, true, false, ◌&&◌, ◌||◌}
use mathlib.Core.List.{List, [], ◌∷◌, ◌++◌}
use mathlib.Core.Option.{Option, none, some}
use Prim.Native.Nat.{ℕ, zero, suc, ◌<◌}
use native.Mathlib.Omega.{arith}
use lib.Dec.{eqb}
use lib.ListN.{length}
use borrow.Author.Tests.{eqb-true, eq-eqb}
use Rattle.expressions.specs.Expr.{Atom, nonterminal, anychar, Content}
use Rattle.expressions.specs.Grammar.{Production, content_of, tags_of, only_if, Next, tag, character, end, memb, can_be}
use Rattle.sheet.specs.Sheet.{Rule, Sheet, grammar_of}
use Rattle.runs.specs.Options.{bind}
use Rattle.runs.specs.Execute.{name_of}
use Rattle.runs.specs.Lookup.{tag_of, or_later, find}
use Rattle.runs.specs.Machine.{same_tag}
use Rattle.calls.specs.Names.{tag_named}
use Rattle.calls.proofs.Names.{named_is, none_named}
use Rattle.notation.specs.Rules.{TextRule}
use Rattle.naming.specs.ByName.{RuleByName, EachByName}

-- no two tags have one name
abbrev pub NamesDiffer : List (List ℕ) → Type 0
NamesDiffer ns = (t u : ℕ) → t < length ns → u < length ns → name_of ns t ≡ name_of ns u → t ≡ u

same_bool : (x y : Bool) → (x ≡ true → y ≡ true) → (y ≡ true → x ≡ true) → x ≡ y
same_bool true y f g = sym (f refl)
same_bool false true f g = g refl
same_bool false false f g = refl

hit_named : (ns : List (List ℕ)) (n : List ℕ) (t : ℕ) (o : Option ℕ) → tag_named ns n ≡ o → same_tag o t ≡ true → name_of ns t ≡ n
hit_named ns n t none e h = absurd (let z : ◌≡◌ {A = ℕ} 0 1 = cc in omega arith)
hit_named ns n t (some v) e h = ap (name_of ns) (sym (eqb-true v t h)) ∙ (named_is ns n v e).1

pub named_hit : (ns : List (List ℕ)) → NamesDiffer ns → (n : List ℕ) (t : ℕ) → t < length ns → (o : Option ℕ) → tag_named ns n ≡ o → name_of ns t ≡ n → same_tag o t ≡ true
named_hit ns d n t l none e h = absurd (none_named ns n e t l h)
named_hit ns d n t l (some v) e h = let i = named_is ns n v e in eq-eqb v t (d v t i.0 l (i.1 ∙ sym h))

tags_alike : (ns ms : List (List ℕ)) → NamesDiffer ns → NamesDiffer ms → (n : List ℕ) (t u : ℕ) → t < length ns → u < length ms → name_of ns t ≡ name_of ms u
    → same_tag (tag_named ns n) t ≡ same_tag (tag_named ms n) u
tags_alike ns ms d e n t u l k h =
    same_bool (same_tag (tag_named ns n) t) (same_tag (tag_named ms n) u) (λ i. named_hit ms e n u k (tag_named ms n) refl (sym h ∙ hit_named ns n t (tag_named ns n) refl i))
    (λ i. named_hit ns d n t l (tag_named ns n) refl (h ∙ hit_named ms n u (tag_named ms n) refl i))

-- the productions of two grammars, one by one: what is named x in the one and y in the other is the tag of both or of neither
abbrev pub Alike : Option ℕ → Option ℕ → List Production → List Production → Type 0
Alike x y [] [] = Unit {0}
Alike x y [] (e ∷ h) = ⊥
Alike x y (d ∷ g) [] = ⊥
Alike x y (d ∷ g) (e ∷ h) = (d.nonterm ≡ e.nonterm) × (d.content ≡ e.content) × (same_tag x d.tagno ≡ same_tag y e.tagno) × Alike x y g h

abbrev pub TagsThere : ℕ → List Rule → Type 0
TagsThere n [] = Unit {0}
TagsThere n (r ∷ rs) = (r.production.tagno < n) × TagsThere n rs

pub names_alike : (a b : Sheet) → NamesDiffer a.names → NamesDiffer b.names → (n : List ℕ) (xs ys : List Rule) (ds : List TextRule)
    → TagsThere (length a.names) xs → TagsThere (length b.names) ys → EachByName a xs ds → EachByName b ys ds → Alike (tag_named a.names n) (tag_named b.names n) (grammar_of xs) (grammar_of ys)
names_alike a b p q n [] [] [] t u h k = tt
names_alike a b p q n [] (y ∷ ys) [] t u h k = absurd k
names_alike a b p q n (x ∷ xs) ys [] t u h k = absurd h
names_alike a b p q n [] ys (d ∷ ds) t u h k = absurd h
names_alike a b p q n (x ∷ xs) [] (d ∷ ds) t u h k = absurd k
names_alike a b p q n (x ∷ xs) (y ∷ ys) (d ∷ ds) t u h k = (
  sym h.0.nonterminal_is ∙ k.0.nonterminal_is,
  sym h.0.nodes_are ∙ k.0.nodes_are,
  tags_alike a.names b.names p q n x.production.tagno y.production.tagno t.0 u.0 (sym h.0.tag_is ∙ k.0.tag_is),
  names_alike a b p q n xs ys ds t.1 u.1 h.1 k.1,
)

-- the first production of a nonterminal with that tag
abbrev pub find_by : List Production → ℕ → Option ℕ → Option ℕ
find_by [] m x = none
find_by (d ∷ ds) m x = or_later (eqb m d.nonterm && same_tag x d.tagno) (find_by ds m x)

pub find_some : (g : List Production) (m t : ℕ) → find_by g m (some t) ≡ find g m t
find_some [] m t = refl
find_some (d ∷ g) m t = ap (or_later (eqb m d.nonterm && eqb t d.tagno)) (find_some g m t)

and_false : (b : Bool) → b && false ≡ false
and_false true = refl
and_false false = refl

pub find_none : (g : List Production) (m : ℕ) → find_by g m none ≡ none
find_none [] m = refl
find_none (d ∷ g) m = rw (and_false (eqb m d.nonterm), find_none g m) refl

pub find_alike : (x y : Option ℕ) (g h : List Production) → Alike x y g h → (m : ℕ) → find_by g m x ≡ find_by h m y
find_alike x y [] [] a m = refl
find_alike x y [] (e ∷ h) a m = absurd a
find_alike x y (d ∷ g) [] a m = absurd a
find_alike x y (d ∷ g) (e ∷ h) a m = rw (a.0, a.2, find_alike x y g h a.3 m) refl

abbrev pub IsThere : ℕ → Option ℕ → Type 0
IsThere n none = Unit {0}
IsThere n (some q) = q < n

pub find_there : (g : List Production) (m : ℕ) (x : Option ℕ) → IsThere (length g) (find_by g m x)
find_there [] m x = tt
find_there (d ∷ g) m x = on (eqb m d.nonterm && same_tag x d.tagno) (find_by g m x) (find_there g m x)
  where
    on : (b : Bool) (o : Option ℕ) → IsThere (length g) o → IsThere (suc (length g)) (or_later b o)
    on true o h = omega arith
    on false none h = tt
    on false (some q) h = omega (arith, h)

-- the symbol that a name is; one that nothing can be where no tag has it
abbrev pub next_for : Option ℕ → Next
next_for none = end
next_for (some t) = tag t

abbrev hit : List Production → ℕ → Option ℕ → Bool
hit [] m x = false
hit (d ∷ ds) m x = (eqb m d.nonterm && same_tag x d.tagno) || hit ds m x

hit_some : (g : List Production) (m t : ℕ) → memb t (tags_of g m) ≡ hit g m (some t)
hit_some [] m t = refl
hit_some (d ∷ g) m t = on (hit_some g m t) (eqb m d.nonterm)
  where
    on : memb t (tags_of g m) ≡ hit g m (some t) → (b : Bool) → memb t (only_if b d.tagno ++ tags_of g m) ≡ (b && eqb t d.tagno) || hit g m (some t)
    on e true = ap (λ z. eqb t d.tagno || z) e
    on e false = e

hit_none : (g : List Production) (m : ℕ) → hit g m none ≡ false
hit_none [] m = refl
hit_none (d ∷ g) m = rw (and_false (eqb m d.nonterm)) (hit_none g m)

hit_alike : (x y : Option ℕ) (g h : List Production) → Alike x y g h → (m : ℕ) → hit g m x ≡ hit h m y
hit_alike x y [] [] a m = refl
hit_alike x y [] (e ∷ h) a m = absurd a
hit_alike x y (d ∷ g) [] a m = absurd a
hit_alike x y (d ∷ g) (e ∷ h) a m = rw (a.0, a.2, hit_alike x y g h a.3 m) refl

can_hit : (g : List Production) (m : ℕ) (x : Option ℕ) → can_be (tags_of g) (nonterminal m) (next_for x) ≡ hit g m x
can_hit g m none = sym (hit_none g m)
can_hit g m (some t) = hit_some g m t

can_never : (g : List Production) (x : Option ℕ) → can_be (tags_of g) anychar (next_for x) ≡ false
can_never g none = refl
can_never g (some t) = refl

pub can_alike : (x y : Option ℕ) (g h : List Production) → Alike x y g h → (k : Atom) → can_be (tags_of g) k (next_for x) ≡ can_be (tags_of h) k (next_for y)
can_alike x y g h a (nonterminal m) = can_hit g m x ∙ hit_alike x y g h a m ∙ sym (can_hit h m y)
can_alike x y g h a anychar = can_never g x ∙ sym (can_never h y)

pub content_alike : (x y : Option ℕ) (g h : List Production) → Alike x y g h → (q : ℕ) → content_of g q ≡ content_of h q
content_alike x y [] [] a q = refl
content_alike x y [] (e ∷ h) a q = absurd a
content_alike x y (d ∷ g) [] a q = absurd a
content_alike x y (d ∷ g) (e ∷ h) a zero = a.1
content_alike x y (d ∷ g) (e ∷ h) a (suc q) = content_alike x y g h a.3 q

pub own_alike : (x y : Option ℕ) (g h : List Production) → Alike x y g h → (q : ℕ) → q < length g → same_tag x (tag_of g q) ≡ same_tag y (tag_of h q)
own_alike x y [] h a q l = absurd (omega arith)
own_alike x y (d ∷ g) [] a q l = absurd a
own_alike x y (d ∷ g) (e ∷ h) a zero l = a.2
own_alike x y (d ∷ g) (e ∷ h) a (suc q) l = own_alike x y g h a.3 q (omega arith)
