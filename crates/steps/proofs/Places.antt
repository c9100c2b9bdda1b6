-- Where a state stands: outside the root, or inside its innermost element, of which as many sets are kept as its frame has in use.
-- Assumes nothing.
use mathlib.Core.Path.{◌≡◌, refl, sym, ap, ◌∙◌}
use mathlib.Core.Bool.{Bool, true, false, cond}
use mathlib.Core.List.{List, [], ◌∷◌, map, reverse}
use Prim.Native.Nat.{ℕ, zero, suc, ◌-◌, ◌<◌}
use native.Mathlib.Omega.{arith}
use lib.ListN.{length, get_or, take, length-map, length-reverse}
use lib.Seq.{length-take-le}
use Rattle.runs.specs.Visits.{Saved}
use Rattle.runs.specs.Machine.{Open, before, inside, after}
use Rattle.state.specs.declared.Frame.{Frame}
use Rattle.state.specs.declared.State.{State}
use Rattle.state.specs.Changes.{bare_frame, top_of}
use Rattle.state.specs.Meaning.{sets_of, open_of, standing, opens_of, meaning_of, Shaped}
use Rattle.state.proofs.Laws.{first_last}
use Rattle.fit.proofs.RunsFit.{top_kept}

pub some_open : {n : ℕ} → (n ≡ 0 → ⊥) → 0 < n
some_open {n} h = by n h
  where
    by : (m : ℕ) → (m ≡ 0 → ⊥) → 0 < m
    by zero h = absurd (h refl)
    by (suc m) h = omega arith

-- with no open element
pub outside : (z : State) → z.depth ≡ 0 → (meaning_of z).control ≡ cond z.rooted after before
unfolding meaning_of
outside z e = rw e (by z.rooted)
  where
    by : (b : Bool) → standing b [] ≡ cond b after before
    by true = refl
    by false = refl

-- with one
pub record Inside (z : State) : Type 0 where
  pub around : List Open
  pub kept_around : List (List Saved)
  pub stands : (meaning_of z).control ≡ inside (open_of (top_of z)) around
  pub keeps : (meaning_of z).store.kept ≡ sets_of (top_of z) ∷ kept_around
  pub deep : z.depth ≡ suc (length around)

pub inside_at : (z : State) → Shaped z → 0 < z.depth → Inside z
unfolding meaning_of
inside_at z h p =
    let fs : List Frame = reverse (take (z.depth - 1) z.frames) in
    let e : reverse (take z.depth z.frames) ≡ top_of z ∷ fs = first_last bare_frame z.frames z.depth p (omega arith) in
    let l : length fs ≡ z.depth - 1 = length-reverse (take (z.depth - 1) z.frames) ∙ length-take-le (z.depth - 1) z.frames (omega arith) in
    record {
      around = map open_of fs;
      kept_around = map sets_of fs;
      stands = rw e;
      keeps = rw e;
      deep = omega (arith, length-map fs open_of, l);
    }

-- as many elements are open as the state says
pub depth_is : (z : State) → Shaped z → length (opens_of (meaning_of z).control) ≡ z.depth
depth_is z h = by z.depth refl
  where
    bare : (b : Bool) → length (opens_of (cond b after before)) ≡ 0
    bare true = refl
    bare false = refl

    by : (n : ℕ) → z.depth ≡ n → length (opens_of (meaning_of z).control) ≡ n
    by zero e = rw (outside z e) (bare z.rooted)
    by (suc n) e = let i = inside_at z h (omega arith) in rw i.stands (omega (arith, i.deep))

-- as many sets are in use as are kept of the innermost element
pub sets_are : (z : State) → Shaped z → 0 < z.depth → length (sets_of (top_of z)) ≡ (top_of z).«open»
sets_are z h p =
    let i = inside_at z h p in
    ap (λ (l : List (List Saved)). length (get_or l 0 [])) (sym i.keeps) ∙ top_kept z h (open_of (top_of z)) i.around i.stands
