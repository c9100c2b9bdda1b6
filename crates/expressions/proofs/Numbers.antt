-- What the fault list says of rules T and S: it is empty where both are kept, and its first entry tells the number, since T faults stand first.
-- Assumes nothing.
use mathlib.Core.Path.{◌≡◌, refl, sym, ap, subst}
use mathlib.Core.List.Memᴰ
use mathlib.Core.List.{List, [], ◌∷◌, Memᴰ}
use mathlib.Core.Logic.{◌⊎◌, inl, inr, ⊎_elim, ◌↔◌}
use Prim.Native.Nat.{ℕ, ◌<◌}
use native.Mathlib.Omega.{arith}
use lib.ListN.{length}
use Rattle.expressions.specs.Grammar.{Production, Small, tags_of}
use Rattle.expressions.specs.FaultList.{TFault, SFault, KeepsT, KeepsS, Before, IsFaultList, FaultNumber, passes, t_fault, s_faults}
use Rattle.expressions.specs.Listed.{t_faults, s_faults_from, fault_list}
use Rattle.expressions.proofs.Order.{Bytes, before_irrefl, before_trans, rising_ascends}
use Rattle.expressions.proofs.ListedT.{t_iff}
use Rattle.expressions.proofs.ListedS.{s_iff}
use Rattle.expressions.proofs.Listed.{t_before_s, listed}

-- a list is empty exactly when nothing is in it
empty_iff : (P : Bytes → Type 0) (l : List Bytes) → ((b : Bytes) → P b ↔ Memᴰ b l) → (l ≡ []) ↔ ((b : Bytes) → P b → ⊥)
empty_iff P l f = ((λ e b p. Memᴰ.not-nil (subst (Memᴰ b) e ((f b).0 p))), back l f)
  where
    back : (l : List Bytes) → ((b : Bytes) → P b ↔ Memᴰ b l) → ((b : Bytes) → P b → ⊥) → l ≡ []
    back [] f no_fault = refl
    back (b ∷ l) f no_fault = absurd (no_fault b ((f b).1 (Memᴰ.head refl)))

pub keeps_t_iff : (n : ℕ) (g : List Production) → Small n g → (t_faults n g ≡ []) ↔ KeepsT g
keeps_t_iff n g small = empty_iff (TFault g) (t_faults n g) (t_iff n g small)

pub keeps_s_iff : (n : ℕ) (g : List Production) → Small n g → (s_faults_from n (tags_of g) 0 g ≡ []) ↔ KeepsS g
keeps_s_iff n g small = empty_iff (SFault g) (s_faults_from n (tags_of g) 0 g) (s_iff n g small)

-- the list is empty exactly when the grammar keeps both rules
pub none_iff : (g : List Production) (l : List Bytes) → IsFaultList g l → (l ≡ []) ↔ (KeepsT g × KeepsS g)
none_iff g l h =
    let i = empty_iff (λ (b : Bytes). TFault g b ⊎ SFault g b) l h.holds in
    ((λ e. ((λ b f. i.0 e b (inl f)), (λ b f. i.0 e b (inr f)))), λ k. i.1 (λ b f. ⊎_elim (k.0 b) (k.1 b) f))

pub passes_iff : (n : ℕ) (g : List Production) → Small n g → (fault_list n g ≡ []) ↔ (KeepsT g × KeepsS g)
passes_iff n g small = none_iff g (fault_list n g) (listed n g small)

-- a grammar's faults give one number
pub one_number : (g : List Production) {x y : ℕ} → FaultNumber g x → FaultNumber g y → x ≡ y
one_number g (passes k k') (passes h h') = refl
one_number g (passes k k') (t_fault f) = absurd (k _ f)
one_number g (passes k k') (s_faults h f) = absurd (k' _ f)
one_number g (t_fault f) (passes k k') = absurd (k _ f)
one_number g (t_fault f) (t_fault f') = refl
one_number g (t_fault f) (s_faults k f') = absurd (k _ f)
one_number g (s_faults k f) (passes h h') = absurd (h' _ f)
one_number g (s_faults k f) (t_fault f') = absurd (k _ f')
one_number g (s_faults k f) (s_faults h f') = refl

-- it is the first byte of the fault list
abbrev pub leading : List Bytes → ℕ
leading [] = 0
leading ([] ∷ l) = 0
leading ((x ∷ b) ∷ l) = x

leading_is : (x : ℕ) (v b : Bytes) (l : List Bytes) → b ≡ x ∷ v → leading (b ∷ l) ≡ x
leading_is x v b l e = ap (λ (z : Bytes). leading (z ∷ l)) e

-- behind an S fault there is no T fault
module _ (g : List Production) (b : Bytes) (l : List Bytes) (h : IsFaultList g (b ∷ l)) (f : SFault g b) where
  never_after : (c : Bytes) → TFault g c → Before b c → ⊥
  never_after c t before = before_irrefl b (before_trans b c b before (t_before_s g c b t f))

  behind_s : KeepsT g
  behind_s c t =
      ⊎_elim (λ e. before_irrefl b (subst (λ (z : Bytes). Before z b) e (t_before_s g c b t f)))
      (λ m. never_after c t ((rising_ascends (b ∷ l) h.rises).0 c m)) (Memᴰ.cases_cons ((h.holds c).0 (inl t)))

pub number_leads : (g : List Production) (l : List Bytes) → IsFaultList g l → FaultNumber g (leading l)
number_leads g [] h = let k = (none_iff g [] h).0 refl in passes k.0 k.1
number_leads g (b ∷ l) h =
    ⊎_elim (λ f. subst (FaultNumber g) (sym (leading_is 8 _ b l f.are_bytes)) (t_fault f))
    (λ f. subst (FaultNumber g) (sym (leading_is 9 _ b l f.are_bytes)) (s_faults (behind_s g b l h f) f))
    ((h.holds b).1 (Memᴰ.head refl))

-- and it is told by the lengths of the two computed parts
some_member : (P : Bytes → Type 0) (l : List Bytes) → ((b : Bytes) → P b ↔ Memᴰ b l) → 0 < length l → (b : Bytes) × P b
some_member P [] f h = absurd (omega arith)
some_member P (b ∷ l) f h = (b, (f b).1 (Memᴰ.head refl))

no_member : (l : List Bytes) → length l ≡ 0 → l ≡ []
no_member [] e = refl
no_member (b ∷ l) e = absurd (omega arith)

module _ (n : ℕ) (g : List Production) (small : Small n g) where
  pub number_8 : 0 < length (t_faults n g) → FaultNumber g 8
  number_8 h = t_fault (some_member (TFault g) (t_faults n g) (t_iff n g small) h).1

  pub number_9 : length (t_faults n g) ≡ 0 → 0 < length (s_faults_from n (tags_of g) 0 g) → FaultNumber g 9
  number_9 e h =
      s_faults ((keeps_t_iff n g small).0 (no_member (t_faults n g) e))
      (some_member (SFault g) (s_faults_from n (tags_of g) 0 g) (s_iff n g small) h).1

  pub number_0 : length (t_faults n g) ≡ 0 → length (s_faults_from n (tags_of g) 0 g) ≡ 0 → FaultNumber g 0
  number_0 e e' =
      passes ((keeps_t_iff n g small).0 (no_member (t_faults n g) e)) ((keeps_s_iff n g small).0 (no_member (s_faults_from n (tags_of g) 0 g) e'))
