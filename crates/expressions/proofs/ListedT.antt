-- The computed T faults are the T faults: two different productions are alike exactly where at least two are counted.
-- Assumes nothing.
use mathlib.Core.Path.{◌≡◌, refl, sym, ap}
use mathlib.Core.Bool.{Bool, true, false, cond, ◌&&◌}
use mathlib.Core.List.{List, [], ◌∷◌, Memᴰ}
use mathlib.Core.Logic.{◌⊎◌, inl, inr, ⊎_elim, ◌↔◌}
use Prim.Native.Nat.{ℕ, zero, suc, ◌+◌, ◌≤◌}
use native.Mathlib.Omega.{arith}
use lib.Dec.{eqb, leb}
use borrow.Author.Tests.{eqb-true, eq-eqb, leb-true, le-leb}
use Rattle.expressions.specs.Grammar.{Production, nonterminals, Numbered, Small}
use Rattle.expressions.specs.FaultList.{Has, TFault}
use Rattle.expressions.specs.Listed.{alike, t_fault_at, t_faults_of, t_faults}
use Rattle.expressions.proofs.Order.{Bytes, Ascends}
use Rattle.expressions.proofs.Productions.{has_numbered, has_head, has_here, has_tail, has_later}
use Rattle.expressions.proofs.Gathered.{entry_in, entry_out, entry_ascends, gather_in, gather_out, gather_ascends}

-- a production counts where it has both
module _ (d : Production) (g : List Production) (m t : ℕ) where
  alike_head : d.nonterm ≡ m → d.tagno ≡ t → alike (d ∷ g) m t ≡ suc (alike g m t)
  alike_head e e' = rw (eq-eqb m d.nonterm (sym e), eq-eqb t d.tagno (sym e')) (omega arith)

  alike_tail : alike g m t ≤ alike (d ∷ g) m t
  alike_tail = omega arith

  alike_cases : ((d.nonterm ≡ m) × (d.tagno ≡ t) × (alike (d ∷ g) m t ≡ suc (alike g m t))) ⊎ (alike (d ∷ g) m t ≡ alike g m t)
  alike_cases = cases (eqb m d.nonterm) (eqb t d.tagno) refl refl
    where
      cases : (x y : Bool) → eqb m d.nonterm ≡ x → eqb t d.tagno ≡ y →
          ((d.nonterm ≡ m) × (d.tagno ≡ t) × (cond (x && y) 1 0 + alike g m t ≡ suc (alike g m t))) ⊎ (cond (x && y) 1 0 + alike g m t ≡ alike g m t)
      cases true true p q = inl (sym (eqb-true m d.nonterm p), sym (eqb-true t d.tagno q), omega arith)
      cases true false p q = inr (omega arith)
      cases false y p q = inr (omega arith)

one_counts : (g : List Production) (m t q : ℕ) → Has g m t q → 1 ≤ alike g m t
one_counts [] m t q h = absurd h.is_production
one_counts (d ∷ g) m t zero h =
    let e = has_head d g m t h in
    let c : alike (d ∷ g) m t ≡ suc (alike g m t) = alike_head d g m t e.0 e.1 in
    omega arith
one_counts (d ∷ g) m t (suc q) h = let i = one_counts g m t q (has_tail d g m t q h) in omega (arith, alike_tail d g m t)

two_count : (g : List Production) (m t q q' : ℕ) → (q ≡ q' → ⊥) → Has g m t q → Has g m t q' → 2 ≤ alike g m t
two_count [] m t q q' d h h' = absurd h.is_production
two_count (d ∷ g) m t zero zero differ h h' = absurd (differ refl)
two_count (d ∷ g) m t zero (suc q') differ h h' =
    let e = has_head d g m t h in
    let c : alike (d ∷ g) m t ≡ suc (alike g m t) = alike_head d g m t e.0 e.1 in
    let i = one_counts g m t q' (has_tail d g m t q' h') in
    omega arith
two_count (d ∷ g) m t (suc q) zero differ h h' =
    let e = has_head d g m t h' in
    let c : alike (d ∷ g) m t ≡ suc (alike g m t) = alike_head d g m t e.0 e.1 in
    let i = one_counts g m t q (has_tail d g m t q h) in
    omega arith
two_count (d ∷ g) m t (suc q) (suc q') differ h h' =
    let i = two_count g m t q q' (λ e. differ (ap suc e)) (has_tail d g m t q h) (has_tail d g m t q' h') in
    omega (arith, alike_tail d g m t)

counted_one : (g : List Production) (m t : ℕ) → 1 ≤ alike g m t → (q : ℕ) × Has g m t q
counted_one [] m t h = absurd (omega arith)
counted_one (d ∷ g) m t h =
    ⊎_elim (λ c. (0, has_here d g m t c.0 c.1))
    (λ c. let i = counted_one g m t (omega arith) in (suc i.0, has_later d g m t i.0 i.1))
    (alike_cases d g m t)

counted_two : (g : List Production) (m t : ℕ) → 2 ≤ alike g m t → (q : ℕ) × (q' : ℕ) × (q ≡ q' → ⊥) × Has g m t q × Has g m t q'
counted_two [] m t h = absurd (omega arith)
counted_two (d ∷ g) m t h =
    ⊎_elim
    (λ c. let k : alike (d ∷ g) m t ≡ suc (alike g m t) = c.2 in
    let i = counted_one g m t (omega arith) in
    (0, suc i.0, (λ e. omega arith), has_here d g m t c.0 c.1, has_later d g m t i.0 i.1))
    (λ c. let i = counted_two g m t (omega arith) in
    (suc i.0, suc i.1, (λ e. i.2 (omega arith)), has_later d g m t i.0 i.3, has_later d g m t i.1 i.4))
    (alike_cases d g m t)

module _ (n : ℕ) (g : List Production) where
  pub t_in : Numbered n g → (b : Bytes) → TFault g b → Memᴰ b (t_faults n g)
  t_in small b f =
      let m : ℕ = f.nonterm in
      let t : ℕ = f.tagno in
      let h : Has g m t f.first = f.first_has in
      let l = has_numbered n g m t f.first small h in
      let c : 2 ≤ alike g m t = two_count g m t f.first f.second f.two h f.second_has in
      gather_in 0 nonterminals (t_faults_of n g) m b (omega arith) (omega arith)
      (gather_in 0 n (t_fault_at g m) t b (omega arith) (omega arith)
      (entry_in (leb 2 (alike g m t)) b _ (le-leb 2 (alike g m t) c) f.are_bytes))

  -- an entry of the computed list, and its nonterminal, tag and count
  at_tag : (m t : ℕ) (b : Bytes) → Memᴰ b (t_fault_at g m t) → (2 ≤ alike g m t) × (b ≡ 8 ∷ m ∷ t ∷ 0 ∷ [])
  at_tag m t b h = let o = entry_out (leb 2 (alike g m t)) b _ h in (leb-true 2 (alike g m t) o.0, o.1)

  of_nonterminal : (m : ℕ) (b : Bytes) → Memᴰ b (t_faults_of n g m) → (t : ℕ) × (2 ≤ alike g m t) × (b ≡ 8 ∷ m ∷ t ∷ 0 ∷ [])
  of_nonterminal m b h = let t = gather_out 0 n (t_fault_at g m) b h in (t.0, (at_tag m t.0 b t.3).0, (at_tag m t.0 b t.3).1)

  of_all : (b : Bytes) → Memᴰ b (t_faults n g) → (m : ℕ) × (t : ℕ) × (2 ≤ alike g m t) × (b ≡ 8 ∷ m ∷ t ∷ 0 ∷ [])
  of_all b h = let m = gather_out 0 nonterminals (t_faults_of n g) b h in let o = of_nonterminal m.0 b m.3 in (m.0, o.0, o.1, o.2)

  pub t_out : (b : Bytes) → Memᴰ b (t_faults n g) → TFault g b
  t_out b h =
      let o = of_all b h in
      let c = counted_two g o.0 o.1 o.2 in
      record {
        nonterm = o.0;
        tagno = o.1;
        first = c.0;
        second = c.1;
        two = c.2;
        first_has = c.3;
        second_has = c.4;
        are_bytes = o.3;
      }

  pub t_ascends : Ascends (t_faults n g)
  t_ascends =
      gather_ascends (8 ∷ []) (t_faults_of n g)
      (λ m. gather_ascends (8 ∷ m ∷ []) (t_fault_at g m) (λ t. entry_ascends (leb 2 (alike g m t)) (8 ∷ m ∷ t ∷ 0 ∷ [])) (λ t b h. (0 ∷ [], (at_tag m t b h).1)) 0 n)
      (λ m b h. let o = of_nonterminal m b h in (o.0 ∷ 0 ∷ [], o.2)) 0 nonterminals

-- the computed T faults are the T faults
pub t_iff : (n : ℕ) (g : List Production) → Small n g → (b : Bytes) → TFault g b ↔ Memᴰ b (t_faults n g)
t_iff n g small b = (t_in n g small.numbered b, t_out n g b)
