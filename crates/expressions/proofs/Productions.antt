-- The productions of a nonterminal and a tag, found by going through the list; an atom can be exactly the tags of its productions.
-- Assumes nothing.
use mathlib.Core.Path.{◌≡◌, refl, sym, ◌∙◌, subst}
use mathlib.Core.Bool.{Bool, true, false, ◌||◌, or-true, false≢true}
use mathlib.Core.List.{List, [], ◌∷◌, ◌++◌}
use mathlib.Core.Logic.{◌↔◌}
use Prim.Native.Nat.{ℕ, zero, suc, ◌<◌}
use native.Mathlib.Omega.{arith}
use lib.Dec.{eqb}
use borrow.Author.Tests.{eqb-true, eq-eqb}
use Rattle.expressions.specs.Expr.{Atom, nonterminal, anychar}
use Rattle.expressions.specs.Grammar.{Production, Nth, nonterminals, Numbered, only_if, tags_of, tag, memb, can_be}
use Rattle.expressions.specs.FaultList.{Has}

-- a number is that of one production
pub nth_one : (g : List Production) (q : ℕ) (d d' : Production) → Nth g q d → Nth g q d' → d ≡ d'
nth_one [] q d d' h h' = absurd h
nth_one (c ∷ g) zero d d' h h' = h ∙ sym h'
nth_one (c ∷ g) (suc q) d d' h h' = nth_one g q d d' h h'

pub nth_numbered : (n : ℕ) (g : List Production) (q : ℕ) (d : Production) → Numbered n g → Nth g q d → (d.nonterm < nonterminals) × (d.tagno < n)
nth_numbered n [] q d h m = absurd m
nth_numbered n (d' ∷ g) zero d h m = subst (λ (z : Production). (z.nonterm < nonterminals) × (z.tagno < n)) (sym m) (h.0, h.1)
nth_numbered n (d' ∷ g) (suc q) d h m = nth_numbered n g q d h.2 m

-- limits on each production by its number are limits on all
pub numbered_each : (n : ℕ) (g : List Production) → ((q : ℕ) (d : Production) → Nth g q d → (d.nonterm < nonterminals) × (d.tagno < n)) → Numbered n g
numbered_each n [] f = tt
numbered_each n (d ∷ g) f = ((f 0 d refl).0, (f 0 d refl).1, numbered_each n g (λ q d' m. f (suc q) d' m))

module _ (n : ℕ) (g : List Production) (m t q : ℕ) where
  pub has_numbered : Numbered n g → Has g m t q → (m < nonterminals) × (t < n)
  has_numbered small h =
      let l = nth_numbered n g q h.production small h.is_production in
      let e : h.production.nonterm ≡ m = h.its_nonterminal in
      let e' : h.production.tagno ≡ t = h.its_tag in
      omega arith

-- the first production has both, or a later one has
module _ (d : Production) (g : List Production) (m t : ℕ) where
  pub has_head : Has (d ∷ g) m t 0 → (d.nonterm ≡ m) × (d.tagno ≡ t)
  has_head h = subst (λ (z : Production). (z.nonterm ≡ m) × (z.tagno ≡ t)) h.is_production (h.its_nonterminal, h.its_tag)

  pub has_here : d.nonterm ≡ m → d.tagno ≡ t → Has (d ∷ g) m t 0
  has_here e e' = record { production = d; is_production = refl; its_nonterminal = e; its_tag = e' }

  pub has_tail : (q : ℕ) → Has (d ∷ g) m t (suc q) → Has g m t q
  has_tail q h = record { production = h.production; is_production = h.is_production; its_nonterminal = h.its_nonterminal; its_tag = h.its_tag }

  pub has_later : (q : ℕ) → Has g m t q → Has (d ∷ g) m t (suc q)
  has_later q h = record { production = h.production; is_production = h.is_production; its_nonterminal = h.its_nonterminal; its_tag = h.its_tag }

-- a nonterminal atom can be each tag of its productions, and no other
has_can : (g : List Production) (m t q : ℕ) → Has g m t q → memb t (tags_of g m) ≡ true
has_can [] m t q h = absurd h.is_production
has_can (d ∷ g) m t zero h =
    let e = has_head d g m t h in
    rw (eq-eqb m d.nonterm (sym e.0), eq-eqb t d.tagno (sym e.1))
has_can (d ∷ g) m t (suc q) h = past (eqb m d.nonterm) (has_can g m t q (has_tail d g m t q h))
  where
    past : (x : Bool) → memb t (tags_of g m) ≡ true → memb t (only_if x d.tagno ++ tags_of g m) ≡ true
    past true e = rw e (or-true (eqb t d.tagno))
    past false e = e

can_has : (g : List Production) (m t : ℕ) → memb t (tags_of g m) ≡ true → (q : ℕ) × Has g m t q
can_has [] m t e = absurd (false≢true e)
can_has (d ∷ g) m t e = by_test (λ e'. let i = can_has g m t e' in (suc i.0, has_later d g m t i.0 i.1)) (eqb m d.nonterm) refl e
  where
    at_head : (memb t (tags_of g m) ≡ true → (q : ℕ) × Has (d ∷ g) m t q) → d.nonterm ≡ m → (y : Bool) → eqb t d.tagno ≡ y →
        (y || memb t (tags_of g m)) ≡ true → (q : ℕ) × Has (d ∷ g) m t q
    at_head later s true p e = (0, has_here d g m t s (sym (eqb-true t d.tagno p)))
    at_head later s false p e = later e

    by_test : (memb t (tags_of g m) ≡ true → (q : ℕ) × Has (d ∷ g) m t q) → (x : Bool) → eqb m d.nonterm ≡ x →
        memb t (only_if x d.tagno ++ tags_of g m) ≡ true → (q : ℕ) × Has (d ∷ g) m t q
    by_test later true p e = at_head later (sym (eqb-true m d.nonterm p)) (eqb t d.tagno) refl e
    by_test later false p e = later e

pub can_iff : (g : List Production) (m t : ℕ) → (can_be (tags_of g) (nonterminal m) (tag t) ≡ true) ↔ ((q : ℕ) × Has g m t q)
can_iff g m t = (can_has g m t, λ h. has_can g m t h.0 h.1)

pub can_below : (n t : ℕ) (g : List Production) → Numbered n g → (k : Atom) → can_be (tags_of g) k (tag t) ≡ true → t < n
can_below n t g h (nonterminal m) e = let o = can_has g m t e in (has_numbered n g m t o.0 h o.1).1
can_below n t g h anychar e = absurd (false≢true e)
