-- The production of a nonterminal with a tag: one is found exactly where there is one, and by rule T it is the only one.
-- Assumes nothing.
use mathlib.Core.Path.{◌≡◌, refl, sym, ◌∙◌, ap, subst}
use mathlib.Core.Bool.{Bool, true, false, ◌&&◌}
use mathlib.Core.List.{List, [], ◌∷◌}
use mathlib.Core.Option.{Option, none, some}
use Prim.Native.Nat.{ℕ, zero, suc}
use lib.Dec.{T, eqb, eqb_refl}
use borrow.Author.Tests.{eqb-true, eq-eqb}
use Rattle.expressions.specs.Grammar.{Production, tags_of, memb}
use Rattle.expressions.specs.FaultList.{Has}
use Rattle.expressions.proofs.Productions.{has_head, has_tail, can_iff}
use Rattle.runs.specs.Options.{bind}
use Rattle.runs.specs.Lookup.{tag_of, produces, or_later, find}
use Rattle.runs.proofs.Rules.{has, NoTFault}

-- a production's tag is one of its nonterminal's
pub produces_memb : (g : List Production) (n q : ℕ) → T (produces g n q) → memb (tag_of g q) (tags_of g n) ≡ true
produces_memb g n q h = (can_iff g n (tag_of g q)).1 (q, has g n q h)

-- what is found is a production of the nonterminal with the tag
abbrev Fits : List Production → ℕ → ℕ → Option ℕ → Type 0
Fits g n t none = Unit {0}
Fits g n t (some q) = T (produces g n q) × (tag_of g q ≡ t)

fits_later : (d : Production) (ds : List Production) (n t : ℕ) (o : Option ℕ) → Fits ds n t o → Fits (d ∷ ds) n t (or_later false o)
fits_later d ds n t none h = tt
fits_later d ds n t (some q) h = h

find_fits : (g : List Production) (n t : ℕ) → Fits g n t (find g n t)
find_fits [] n t = tt
find_fits (d ∷ ds) n t = go (find_fits ds n t) (eqb n d.nonterm) refl (eqb t d.tagno) refl
  where
    go : Fits ds n t (find ds n t) → (b : Bool) → eqb n d.nonterm ≡ b → (c : Bool) → eqb t d.tagno ≡ c → Fits (d ∷ ds) n t (or_later (b && c) (find ds n t))
    go h true e true e' = (subst (λ (m : ℕ). T (eqb n m)) (eqb-true n d.nonterm e) (eqb_refl n), sym (eqb-true t d.tagno e'))
    go h true e false e' = fits_later d ds n t (find ds n t) h
    go h false e c e' = fits_later d ds n t (find ds n t) h

pub find_sound : (g : List Production) (n t q : ℕ) → find g n t ≡ some q → T (produces g n q) × (tag_of g q ≡ t)
find_sound g n t q e = subst (Fits g n t) e (find_fits g n t)

-- where there is one, one is found
has_find : (g : List Production) (n t q : ℕ) → Has g n t q → (p : ℕ) × (find g n t ≡ some p)
has_find [] n t q h = absurd h.is_production
has_find (d ∷ ds) n t zero h =
    let i = has_head d ds n t h in
    (0, rw (eq-eqb n d.nonterm (sym i.0), eq-eqb t d.tagno (sym i.1)))
has_find (d ∷ ds) n t (suc q) h = by (eqb n d.nonterm && eqb t d.tagno) (has_find ds n t q (has_tail d ds n t q h))
  where
    by : (b : Bool) → (p : ℕ) × (find ds n t ≡ some p) → (p : ℕ) × (or_later b (find ds n t) ≡ some p)
    by true i = (0, refl)
    by false i = (suc i.0, ap (λ (o : Option ℕ). bind o (λ p. some (suc p))) i.1)

-- by rule T it is the one
pub find_it : (g : List Production) → NoTFault g → (n q : ℕ) → T (produces g n q) → find g n (tag_of g q) ≡ some q
find_it g no_T_lem n q h =
    let f = has_find g n (tag_of g q) q (has g n q h) in
    let s = find_sound g n (tag_of g q) f.0 f.1 in
    f.1 ∙ ap some (no_T_lem n f.0 q s.0 h s.1)
