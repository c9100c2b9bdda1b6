-- A sheet is of the shape in one way: the start's production names the records' nonterminal, and each of the two has one tag.
-- Assumes nothing.
use mathlib.Core.Path.{◌≡◌, refl, sym, ap, ap₂, ◌∙◌}
use mathlib.Core.Bool.{Bool, true, false}
use mathlib.Core.List.{List, [], ◌∷◌, ◌++◌, head-eq_of_cons-eq}
use Prim.Native.Nat.{ℕ, suc}
use native.Mathlib.Omega.{arith}
use lib.Dec.{eqb}
use Rattle.expressions.specs.Expr.{atom, star, nonterminal, tree}
use Rattle.expressions.specs.Grammar.{Production, only_if, tags_of}
use Rattle.runs.specs.Lookup.{produces}
use Rattle.runs.specs.Visits.{grammar}
use Rattle.salvage.specs.Shape.{OneShape}

-- a nonterminal with a tag has a production
has_production : (g : List Production) (n t : ℕ) (ts : List ℕ) → tags_of g n ≡ t ∷ ts → (q : ℕ) × (produces g n q ≡ true)
has_production [] n t ts e = absurd (let x : ◌≡◌ {A = ℕ} 0 1 = cc in omega arith)
has_production (d ∷ ds) n t ts e = by (λ k. has_production ds n t ts k) (eqb n d.nonterm) refl e
  where
    by : (tags_of ds n ≡ t ∷ ts → (q : ℕ) × (produces ds n q ≡ true)) → (b : Bool) → eqb n d.nonterm ≡ b → only_if b d.tagno ++ tags_of ds n ≡ t ∷ ts → (q : ℕ) × (produces (d ∷ ds) n q ≡ true)
    by f true h k = (0, h)
    by f false h k = let i = f k in (suc i.0, i.1)

star_of : (n n' : ℕ) → tree (star (atom (nonterminal n))) ≡ tree (star (atom (nonterminal n'))) → n ≡ n'
star_of n n' e = cc

pub one_shape : OneShape
one_shape a n n' x x' h h' =
    let (q, p) = has_production (grammar a) a.start_nonterminal x.root_tag [] h.one_root in
    let e : n ≡ n' = star_of n n' (sym (h.root_is q p) ∙ h'.root_is q p) in
    let root : x.root_tag ≡ x'.root_tag = head-eq_of_cons-eq (sym h.one_root ∙ h'.one_root) in
    let own : x.record_tag ≡ x'.record_tag = head-eq_of_cons-eq (sym h.one_record ∙ ap (tags_of (grammar a)) e ∙ h'.one_record) in
    (e, ap₂ (λ (t u : ℕ). record { root_tag = t; record_tag = u }) root own)
