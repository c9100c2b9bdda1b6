-- The computed S faults are the S faults: each is asked for at its production, place and next symbol, where the count decides it.
-- A fault's place is one of the expression's, and its next symbol a tag of some production, so none is missed.
-- Assumes nothing.
use mathlib.Core.Path.{◌≡◌, refl, ap, subst}
use mathlib.Core.Bool.{true, false≢true}
use mathlib.Core.List.Memᴰ
use mathlib.Core.List.{List, [], ◌∷◌, Memᴰ}
use mathlib.Core.Logic.{⊎_elim, ◌↔◌}
use Prim.Native.Nat.{ℕ, zero, suc, ◌+◌, ◌≤◌, ◌<◌}
use native.Mathlib.Omega.{arith}
use Rattle.expressions.specs.Expr.{Content, nothing, tree, places}
use Rattle.expressions.specs.Words.{Bracket, Sym}
use Rattle.expressions.specs.Grammar.{Production, Nth, Numbered, Small, tags_of, Next, tag, character, end, byte_of}
use Rattle.expressions.specs.Fault.{UpTo, GoesOn, Fault}
use Rattle.expressions.specs.FaultList.{SFault}
use Rattle.expressions.specs.Count.{Count, none, one, many}
use Rattle.expressions.specs.Decide.{count}
use Rattle.expressions.specs.Listed.{gather, is_many, s_fault_at, s_faults_at, s_faults_of, s_faults_from}
use Rattle.expressions.proofs.Tree.{after_range}
use Rattle.expressions.proofs.Rule.{Rest, rest_of, fault_many, many_fault}
use Rattle.expressions.proofs.Order.{Bytes, Ascends, Starts, starts_before, ascends_append}
use Rattle.expressions.proofs.Productions.{can_below}
use Rattle.expressions.proofs.Gathered.{entry_in, entry_out, entry_ascends, gather_in, gather_out, gather_ascends}

-- a fault's place is one of the expression's
rest_range : (e : Content) (p : ℕ) (w : List Sym) → Rest e p w → p < places e
rest_range nothing zero w h = omega arith
rest_range nothing (suc p) w h = absurd h
rest_range (tree e) zero w h = omega arith
rest_range (tree e) (suc p) w h = let r = after_range e 1 1 (suc p) w h in omega arith

pub place_range : (tags : ℕ → List ℕ) (e : Content) (p : ℕ) (x : Next) (u : List Sym) (α : List Bracket) → UpTo p u → GoesOn tags e u x α → p < places e
place_range tags e p (tag t) u α h g = rest_range e p _ (rest_of e p u _ h g.4)
place_range tags e p character u α h g = rest_range e p _ (rest_of e p u _ h g.4)
place_range tags e p end u α h g = rest_range e p _ (rest_of e p u _ h g)

is_many_lem : (c : Count) → is_many c ≡ true → c ≡ many
is_many_lem none e = absurd (false≢true e)
is_many_lem one e = absurd (false≢true e)
is_many_lem many e = refl

-- one place and next symbol
module _ (tags : ℕ → List ℕ) (e : Content) (q p : ℕ) (x : Next) (b : Bytes) where
  fault_in : b ≡ 9 ∷ q ∷ p ∷ byte_of x ∷ [] → Fault tags e p x → Memᴰ b (s_fault_at tags e q p x)
  fault_in eq f = entry_in (is_many (count tags e p x)) b _ (ap is_many (fault_many tags e p x f)) eq

  fault_out : Memᴰ b (s_fault_at tags e q p x) → Fault tags e p x × (b ≡ 9 ∷ q ∷ p ∷ byte_of x ∷ [])
  fault_out m =
      let t = entry_out (is_many (count tags e p x)) b _ m in
      (many_fault tags e p x (is_many_lem (count tags e p x) t.0), t.1)

  fault_starts : Memᴰ b (s_fault_at tags e q p x) → Starts (9 ∷ q ∷ p ∷ []) (byte_of x) b
  fault_starts m = ([], (fault_out m).1)

-- all next symbols of a place
module _ (n : ℕ) (g : List Production) (e : Content) (q p : ℕ) where
  place_in : Numbered n g → (b : Bytes) (x : Next) → b ≡ 9 ∷ q ∷ p ∷ byte_of x ∷ [] → Fault (tags_of g) e p x → Memᴰ b (s_faults_at n (tags_of g) e q p)
  place_in below b (tag t) eq f =
      let g₁ : GoesOn (tags_of g) e f.agreed (tag t) f.first_string = f.first_goes in
      let l : t < n = can_below n t g below g₁.1 g₁.3 in
      Memᴰ.append_left _ (gather_in 0 n _ t b (omega arith) (omega arith) (fault_in (tags_of g) e q p (tag t) b eq f))
  place_in below b character eq f =
      Memᴰ.append_right (gather 0 n (λ t. s_fault_at (tags_of g) e q p (tag t)))
      (Memᴰ.append_left _ (fault_in (tags_of g) e q p character b eq f))
  place_in below b end eq f =
      Memᴰ.append_right (gather 0 n (λ t. s_fault_at (tags_of g) e q p (tag t)))
      (Memᴰ.append_right (s_fault_at (tags_of g) e q p character) (fault_in (tags_of g) e q p end b eq f))

  -- an entry is that of a tag, of a character or of the end
  place_next : (b : Bytes) → Memᴰ b (s_faults_at n (tags_of g) e q p) → (x : Next) × Memᴰ b (s_fault_at (tags_of g) e q p x)
  place_next b m =
      ⊎_elim (λ h. let t = gather_out 0 n _ b h in (tag t.0, t.3))
      (λ h. ⊎_elim (λ h'. (character, h')) (λ h'. (end, h')) (Memᴰ.append_cases (s_fault_at (tags_of g) e q p character) h))
      (Memᴰ.append_cases (gather 0 n (λ t. s_fault_at (tags_of g) e q p (tag t))) m)

  place_out : (b : Bytes) → Memᴰ b (s_faults_at n (tags_of g) e q p) → (x : Next) × Fault (tags_of g) e p x × (b ≡ 9 ∷ q ∷ p ∷ byte_of x ∷ [])
  place_out b m = let x = place_next b m in let o = fault_out (tags_of g) e q p x.0 b x.1 in (x.0, o.0, o.1)

  place_starts : (b : Bytes) → Memᴰ b (s_faults_at n (tags_of g) e q p) → Starts (9 ∷ q ∷ []) p b
  place_starts b m = let o = place_out b m in (byte_of o.0 ∷ [], o.2)

  place_ascends : n ≤ 64 → Ascends (s_faults_at n (tags_of g) e q p)
  place_ascends few =
      ascends_append (gather 0 n (λ t. s_fault_at (tags_of g) e q p (tag t))) _
      (gather_ascends (9 ∷ q ∷ p ∷ []) _ (λ t. entry_ascends (is_many (count (tags_of g) e p (tag t))) (9 ∷ q ∷ p ∷ t ∷ []))
      (λ t b m. fault_starts (tags_of g) e q p (tag t) b m) 0 n)
      (ascends_append (s_fault_at (tags_of g) e q p character) (s_fault_at (tags_of g) e q p end)
      (entry_ascends (is_many (count (tags_of g) e p character)) _) (entry_ascends (is_many (count (tags_of g) e p end)) _)
      (λ b b' m m'. starts_before (9 ∷ q ∷ p ∷ []) 254 255 (omega arith) b b'
      (fault_starts (tags_of g) e q p character b m) (fault_starts (tags_of g) e q p end b' m')))
      (λ b b' m m'. let t = gather_out 0 n _ b m in
      let l : t.0 < 0 + n = t.2 in
      let s : Starts (9 ∷ q ∷ p ∷ []) t.0 b = fault_starts (tags_of g) e q p (tag t.0) b t.3 in
      ⊎_elim (λ h. starts_before (9 ∷ q ∷ p ∷ []) t.0 254 (omega arith) b b' s (fault_starts (tags_of g) e q p character b' h))
      (λ h. starts_before (9 ∷ q ∷ p ∷ []) t.0 255 (omega arith) b b' s (fault_starts (tags_of g) e q p end b' h))
      (Memᴰ.append_cases (s_fault_at (tags_of g) e q p character) m'))

-- all places of a production
module _ (n : ℕ) (g : List Production) (q : ℕ) (e : Content) where
  one_out : (b : Bytes) → Memᴰ b (s_faults_of n (tags_of g) q e) →
      (p : ℕ) × (x : Next) × Fault (tags_of g) e p x × (b ≡ 9 ∷ q ∷ p ∷ byte_of x ∷ [])
  one_out b m =
      let t = gather_out 0 (places e) (s_faults_at n (tags_of g) e q) b m in
      let o = place_out n g e q t.0 b t.3 in
      (t.0, o.0, o.1, o.2)

  one_starts : (b : Bytes) → Memᴰ b (s_faults_of n (tags_of g) q e) → Starts (9 ∷ []) q b
  one_starts b m = let o = one_out b m in (o.0 ∷ byte_of o.1 ∷ [], o.3)

  one_ascends : n ≤ 64 → Ascends (s_faults_of n (tags_of g) q e)
  one_ascends few =
      gather_ascends (9 ∷ q ∷ []) (s_faults_at n (tags_of g) e q) (λ p. place_ascends n g e q p few) (λ p b m. place_starts n g e q p b m) 0 (places e)

-- all productions
from_in : (n : ℕ) (tags : ℕ → List ℕ) (b : Bytes) (ds : List Production) (q₀ q : ℕ) (d : Production) → Nth ds q d →
    Memᴰ b (s_faults_of n tags (q₀ + q) d.content) → Memᴰ b (s_faults_from n tags q₀ ds)
from_in n tags b [] q₀ q d h m = absurd h
from_in n tags b (d' ∷ ds) q₀ zero d h m =
    let z : q₀ + 0 ≡ q₀ = omega arith in
    Memᴰ.append_left _ (subst (λ (x : Production). Memᴰ b (s_faults_of n tags q₀ x.content)) h
    (subst (λ (x : ℕ). Memᴰ b (s_faults_of n tags x d.content)) z m))
from_in n tags b (d' ∷ ds) q₀ (suc q) d h m =
    let z : q₀ + suc q ≡ suc q₀ + q = omega arith in
    Memᴰ.append_right (s_faults_of n tags q₀ d'.content)
    (from_in n tags b ds (suc q₀) q d h (subst (λ (x : ℕ). Memᴰ b (s_faults_of n tags x d.content)) z m))

from_out : (n : ℕ) (tags : ℕ → List ℕ) (b : Bytes) (ds : List Production) (q₀ : ℕ) → Memᴰ b (s_faults_from n tags q₀ ds) →
    (q : ℕ) × (d : Production) × Nth ds q d × Memᴰ b (s_faults_of n tags (q₀ + q) d.content)
from_out n tags b [] q₀ m = absurd (Memᴰ.not-nil m)
from_out n tags b (d ∷ ds) q₀ m =
    ⊎_elim
    (λ h. let z : q₀ ≡ q₀ + 0 = omega arith in (0, d, refl, subst (λ (x : ℕ). Memᴰ b (s_faults_of n tags x d.content)) z h))
    (λ h. let t = from_out n tags b ds (suc q₀) h in
    let z : suc q₀ + t.0 ≡ q₀ + suc t.0 = omega arith in
    (suc t.0, t.1, t.2, subst (λ (x : ℕ). Memᴰ b (s_faults_of n tags x t.1.content)) z t.3))
    (Memᴰ.append_cases (s_faults_of n tags q₀ d.content) m)

from_ascends : (n : ℕ) (g : List Production) → n ≤ 64 → (ds : List Production) (q₀ : ℕ) → Ascends (s_faults_from n (tags_of g) q₀ ds)
from_ascends n g few [] q₀ = tt
from_ascends n g few (d ∷ ds) q₀ =
    ascends_append (s_faults_of n (tags_of g) q₀ d.content) _ (one_ascends n g q₀ d.content few) (from_ascends n g few ds (suc q₀))
    (λ b b' m m'. let t = from_out n (tags_of g) b' ds (suc q₀) m' in
    starts_before (9 ∷ []) q₀ (suc q₀ + t.0) (omega arith) b b' (one_starts n g q₀ d.content b m)
    (one_starts n g (suc q₀ + t.0) t.1.content b' t.3))

module _ (n : ℕ) (g : List Production) where
  pub s_in : Numbered n g → (b : Bytes) → SFault g b → Memᴰ b (s_faults_from n (tags_of g) 0 g)
  s_in below b f =
      let e : Content = f.production.content in
      let r = place_range (tags_of g) e f.place f.next f.fault.agreed f.fault.first_string f.fault.up_to f.fault.first_goes in
      let z : f.number ≡ 0 + f.number = omega arith in
      from_in n (tags_of g) b g 0 f.number f.production f.is_production
      (subst (λ (x : ℕ). Memᴰ b (s_faults_of n (tags_of g) x e)) z
      (gather_in 0 (places e) (s_faults_at n (tags_of g) e f.number) f.place b (omega arith) (omega arith)
      (place_in n g e f.number f.place below b f.next f.are_bytes f.fault)))

  pub s_out : (b : Bytes) → Memᴰ b (s_faults_from n (tags_of g) 0 g) → SFault g b
  s_out b m =
      let t = from_out n (tags_of g) b g 0 m in
      let z : 0 + t.0 ≡ t.0 = omega arith in
      let o = one_out n g t.0 t.1.content b (subst (λ (x : ℕ). Memᴰ b (s_faults_of n (tags_of g) x t.1.content)) z t.3) in
      record {
        number = t.0;
        production = t.1;
        place = o.0;
        next = o.1;
        is_production = t.2;
        fault = o.2;
        are_bytes = o.3;
      }

  pub s_ascends : n ≤ 64 → Ascends (s_faults_from n (tags_of g) 0 g)
  s_ascends few = from_ascends n g few g 0

-- the computed S faults are the S faults
pub s_iff : (n : ℕ) (g : List Production) → Small n g → (b : Bytes) → SFault g b ↔ Memᴰ b (s_faults_from n (tags_of g) 0 g)
s_iff n g small b = (s_in n g small.numbered b, s_out n g b)
