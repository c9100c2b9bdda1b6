-- Runs of bytes that pass a test: what the loops over them keep, and that a list is split in one way into a run and what stops it.
-- Assumes nothing.
use mathlib.Core.Path.{◌≡◌, refl, sym, ap, ap₂, ◌∙◌, subst}
use mathlib.Core.Bool.{Bool, true, false, true≢false}
use mathlib.Core.List.{List, [], ◌∷◌, ◌++◌, append_assoc, head-eq_of_cons-eq, tail-eq_of_cons-eq}
use Prim.Native.Nat.{ℕ, ◌+◌, ◌≤◌, ◌<◌}
use native.Mathlib.Omega.{arith}
use native.Mathlib.Numerals.{add-one}
use native.Mathlib.Nat.{add-zero}
use lib.ListN.{length, get_or, drop, length-append, drop_of_length-le}
use lib.Seq.{drop-cons}
use Rattle.text.specs.Names.{name_byte, blank, All}
use Rattle.text.proofs.NameLaws.{blank_stops}
use Rattle.tokens.specs.Inner.{Stops, PassUpTo}

-- a run on its way: what a loop over it keeps
pub record Going (p : ℕ → Bool) (f : List ℕ) (at i : ℕ) : Type 0 where
  pub run : List ℕ
  pub pass : All p run
  pub split : drop at f ≡ run ++ drop i f
  pub count : at + length run ≡ i
  pub within : i ≤ length f

pub all_snoc : (p : ℕ → Bool) (x : ℕ) (l : List ℕ) → All p l → p x ≡ true → All p (l ++ (x ∷ []))
all_snoc p x [] a h = (h, tt)
all_snoc p x (y ∷ l) a h = (a.0, all_snoc p x l a.1 h)

pub all_append : (p : ℕ → Bool) (l m : List ℕ) → All p l → All p m → All p (l ++ m)
all_append p [] m a b = b
all_append p (x ∷ l) m a b = (a.0, all_append p l m a.1 b)

module _ (p : ℕ → Bool) (f : List ℕ) (at : ℕ) where
  pub going_none : at ≤ length f → Going p f at at
  going_none h = record { run = []; pass = tt; split = refl; count = add-zero at; within = h }

  pub going_more : (i : ℕ) → Going p f at i → i < length f → p (get_or f i 0) ≡ true → Going p f at (i + 1)
  going_more i g h k =
      let x : ℕ = get_or f i 0 in
      record {
        run = g.run ++ (x ∷ []);
        pass = all_snoc p x g.run g.pass k;
        split = g.split ∙ ap (λ (l : List ℕ). g.run ++ l) (drop-cons f i 0 h ∙ ap (λ (j : ℕ). x ∷ drop j f) (sym (add-one i))) ∙ sym (append_assoc g.run (x ∷ []) (drop (i + 1) f));
        count = omega (arith, length-append g.run (x ∷ []), g.count);
        within = omega arith;
      }

  stops_at : (i : ℕ) → i < length f → p (get_or f i 0) ≡ false → Stops p (drop i f)
  stops_at i h k = rw (drop-cons f i 0 h) k

  stops_end : (i : ℕ) → length f ≤ i → Stops p (drop i f)
  stops_end i h = rw (drop_of_length-le f h) tt

  stopped : (i : ℕ) → Going p f at i → Stops p (drop i f) → PassUpTo p f at i
  stopped i g s = record { run = g.run; pass = g.pass; split = g.split; count = g.count; within = g.within; stops = s }

  pub going_stop : (i : ℕ) → Going p f at i → i < length f → p (get_or f i 0) ≡ false → PassUpTo p f at i
  going_stop i g h k = stopped i g (stops_at i h k)

  pub going_end : (i : ℕ) → Going p f at i → length f ≤ i → PassUpTo p f at i
  going_end i g h = stopped i g (stops_end i h)

-- two splits of one list into bytes that pass and what stops are the same
pub span : (p : ℕ → Bool) (m m' r r' : List ℕ) → All p m → All p m' → Stops p r → Stops p r' → m ++ r ≡ m' ++ r' → (m ≡ m') × (r ≡ r')
span p [] [] r r' a a' s s' e = (refl, e)
span p [] (y ∷ m') r r' a a' s s' e = absurd (true≢false (sym a'.0 ∙ subst (λ (l : List ℕ). Stops p l) e s))
span p (x ∷ m) [] r r' a a' s s' e = absurd (true≢false (sym a.0 ∙ subst (λ (l : List ℕ). Stops p l) (sym e) s'))
span p (x ∷ m) (y ∷ m') r r' a a' s s' e =
    let i = span p m m' r r' a.1 a'.1 s s' (tail-eq_of_cons-eq e) in
    (ap₂ {A = ℕ} (λ z l. z ∷ l) (head-eq_of_cons-eq e) i.0, i.1)

-- white space is no part of a name
pub gap_stops : (b r : List ℕ) → All blank b → Stops name_byte r → Stops name_byte (b ++ r)
gap_stops [] r a s = s
gap_stops (x ∷ b) r a s = blank_stops x a.0
