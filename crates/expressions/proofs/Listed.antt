-- The computed list is the fault list: the T faults come first, since 8 is below 9.
-- Assumes nothing.
use mathlib.Core.List.Memᴰ
use mathlib.Core.List.{List, [], ◌∷◌}
use mathlib.Core.Logic.{inl, inr, ⊎_elim}
use Prim.Native.Nat.{ℕ}
use native.Mathlib.Omega.{arith}
use Rattle.expressions.specs.Grammar.{Production, Small, tags_of, byte_of}
use Rattle.expressions.specs.FaultList.{TFault, SFault, Before, IsFaultList}
use Rattle.expressions.specs.Listed.{t_faults, s_faults_from, fault_list}
use Rattle.expressions.proofs.Order.{Bytes, ascends_rising, Starts, starts_before, ascends_append}
use Rattle.expressions.proofs.ListedT.{t_in, t_out, t_ascends}
use Rattle.expressions.proofs.ListedS.{s_in, s_out, s_ascends}

t_starts : (g : List Production) (b : Bytes) → TFault g b → Starts [] 8 b
t_starts g b f = (f.nonterm ∷ f.tagno ∷ 0 ∷ [], f.are_bytes)

s_starts : (g : List Production) (b : Bytes) → SFault g b → Starts [] 9 b
s_starts g b f = (f.number ∷ f.place ∷ byte_of f.next ∷ [], f.are_bytes)

pub t_before_s : (g : List Production) (b b' : Bytes) → TFault g b → SFault g b' → Before b b'
t_before_s g b b' f f' = starts_before [] 8 9 (omega arith) b b' (t_starts g b f) (s_starts g b' f')

pub listed : (n : ℕ) (g : List Production) → Small n g → IsFaultList g (fault_list n g)
listed n g small = record {
  rises = ascends_rising (fault_list n g)
      (ascends_append (t_faults n g) (s_faults_from n (tags_of g) 0 g) (t_ascends n g) (s_ascends n g small.few_tags)
      (λ b b' m m'. t_before_s g b b' (t_out n g b m) (s_out n g b' m')));
  holds = λ b. (
    ⊎_elim (λ f. Memᴰ.append_left _ (t_in n g small.numbered b f)) (λ f. Memᴰ.append_right (t_faults n g) (s_in n g small.numbered b f)),
    λ m. ⊎_elim (λ h. inl (t_out n g b h)) (λ h. inr (s_out n g b h)) (Memᴰ.append_cases (t_faults n g) m),
  );
}
