-- Rules T and S as the proofs use them, over the lookups by number: a production is the only one of its nonterminal and tag, and no production has
-- a fault. Both follow from there being no entry for the list of faults.
-- Assumes nothing.
use mathlib.Core.Path.{◌≡◌, refl, sym, subst}
use mathlib.Core.Bool.{Bool, true, false}
use mathlib.Core.List.{List, [], ◌∷◌}
use mathlib.Core.Logic.{◌⊎◌, inl, inr, ⊎_elim}
use Prim.Native.Nat.{ℕ, zero, suc}
use native.Mathlib.Omega.{arith}
use native.Mathlib.Decide.{ℕ_discrete}
use lib.Dec.{T, eqb}
use borrow.Author.Tests.{eqb-true}
use Rattle.expressions.specs.Count.{many}
use Rattle.expressions.specs.Expr.{Content, nothing}
use Rattle.expressions.specs.Grammar.{Production, tags_of, Nth, Next, tag, character, end}
use Rattle.expressions.specs.Fault.{Fault}
use Rattle.expressions.specs.FaultList.{Has, KeepsT, KeepsS}
use Rattle.expressions.specs.Decide.{count}
use Rattle.expressions.specs.Grammar.{content_of}
use Rattle.runs.specs.Lookup.{tag_of, produces}
use Rattle.expressions.proofs.Rule.{fault_many}

abbrev pub NoTFault : List Production → Type 0
NoTFault g = (n q q' : ℕ) → T (produces g n q) → T (produces g n q') → tag_of g q ≡ tag_of g q' → q ≡ q'

abbrev pub NoSFault : List Production → Type 0
NoSFault g = (q p : ℕ) (x : Next) → Fault (tags_of g) (content_of g q) p x → ⊥

to_true : (b : Bool) → T b → b ≡ true
to_true true h = refl
to_true false h = absurd h

-- a production by its number, as rule T has it
pub has : (g : List Production) (n q : ℕ) → T (produces g n q) → Has g n (tag_of g q) q
has [] n q h = absurd h
has (d ∷ ds) n zero h = record { production = d; is_production = refl; its_nonterminal = sym (eqb-true n d.nonterm (to_true (eqb n d.nonterm) h)); its_tag = refl }
has (d ∷ ds) n (suc q) h = let i = has ds n q h in record { production = i.production; is_production = i.is_production; its_nonterminal = i.its_nonterminal; its_tag = i.its_tag }

pub no_T_lem : (g : List Production) → KeepsT g → NoTFault g
no_T_lem g keeps n q q' h h' e = by (ℕ_discrete q q')
  where
    by : Dec (q ≡ q') → q ≡ q'
    by (yes i) = i
    by (no d) = absurd (keeps _ (record {
      nonterm = n;
      tagno = tag_of g q;
      first = q;
      second = q';
      two = d;
      first_has = has g n q h;
      second_has = subst (λ (t : ℕ). Has g n t q') (sym e) (has g n q' h');
      are_bytes = refl;
    }))

-- where there is no production there is no expression
looked_up : (g : List Production) (q : ℕ) → ((d : Production) × Nth g q d × (content_of g q ≡ d.content)) ⊎ (content_of g q ≡ nothing)
looked_up [] q = inr refl
looked_up (d ∷ ds) zero = inl (d, refl, refl)
looked_up (d ∷ ds) (suc q) = looked_up ds q

nothing_count : (tags : ℕ → List ℕ) (p : ℕ) (x : Next) → count tags nothing p x ≡ many → ⊥
nothing_count tags p (tag t) e = let z : ◌≡◌ {A = ℕ} 0 1 = cc in omega arith
nothing_count tags p character e = let z : ◌≡◌ {A = ℕ} 0 1 = cc in omega arith
nothing_count tags zero end e = let z : ◌≡◌ {A = ℕ} 0 1 = cc in omega arith
nothing_count tags (suc p) end e = let z : ◌≡◌ {A = ℕ} 0 1 = cc in omega arith

pub no_S_lem : (g : List Production) → KeepsS g → NoSFault g
no_S_lem g keeps q p x f =
    ⊎_elim
    (λ l. keeps _ (record {
      number = q;
      production = l.0;
      place = p;
      next = x;
      is_production = l.1;
      fault = subst (λ (c : Content). Fault (tags_of g) c p x) l.2 f;
      are_bytes = refl;
    }))
    (λ e. nothing_count (tags_of g) p x (fault_many (tags_of g) nothing p x (subst (λ (c : Content). Fault (tags_of g) c p x) e f)))
    (looked_up g q)
