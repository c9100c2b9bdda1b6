-- A stretch carried on over plain bytes: none yet, and one more.
-- Assumes nothing.
use mathlib.Core.Path.{◌≡◌, refl, sym, ap, ◌∙◌, subst}
use mathlib.Core.Bool.{Bool, true}
use mathlib.Core.List.{List, [], ◌∷◌}
use Prim.Native.Nat.{ℕ, ◌+◌, ◌≤◌, ◌<◌}
use native.Mathlib.Omega.{arith}
use lib.ListN.{length, get_or}
use Rattle.lent.specs.Put.{put, PutAs}
use Rattle.lent.proofs.Laws.{put_length}
use Rattle.runs.specs.Visits.{most_visits}
use Rattle.steady.specs.Steady.{shown}
use Rattle.stretches.specs.declared.Stretch.{Stretch}
use Rattle.stretches.specs.Literal.{plain}
use Rattle.stretches.specs.Stretched.{CarriedAs}
use Rattle.stretches.proofs.Nexts.{alone_plain, alone_next, as_it_is}
use Rattle.stretches.proofs.Stretching.{one_more, shown_on, shown_short}

-- a plain byte is written as it is
pub plain_put : (b : ℕ) (on : Bool) (lent d : List ℕ) (at : ℕ) → plain b ≡ true → on ≡ true → d ≡ put true lent at (b ∷ []) → PutAs true lent at (shown on b) d (at + 1)
plain_put b on lent d at p e w =
    let v : b ∷ [] ≡ shown on b = sym (ap (λ (x : Bool). shown x b) e ∙ shown_on b ∙ as_it_is b (alone_plain b p)) in
    subst (λ (s : List ℕ). PutAs true lent at s d (at + 1)) v (record { next = refl; left = w })

pub put_room : (on : Bool) (c : ℕ) (lent d : List ℕ) (at r : ℕ) → at + 5 ≤ length lent → PutAs true lent at (shown on c) d r → r ≤ length d
put_room on c lent d at r h p = omega (arith, p.next, shown_short on c, h, ap length p.left ∙ put_length true lent at (shown on c))

module _ (part : List ℕ) (on : Bool) (k : ℕ) (h : Stretch) (b : List ℕ) where
  pub carried_none : CarriedAs part on k h b h b
  carried_none = record { forward = omega arith; long = refl; carries = λ from n lent put s. s }

  pub carried_one : (at to count : ℕ) (d : List ℕ) → CarriedAs part on k h b (record { at = at; put = to; count = count }) d → at < length part → plain (get_or part at 0) ≡ true →
      count + k ≤ most_visits → to + 5 ≤ length d → (d' : List ℕ) (to' : ℕ) → PutAs true d to (shown on (get_or part at 0)) d' to' →
      CarriedAs part on k h b (record { at = at + 1; put = to'; count = count + k }) d'
  carried_one at to count d s inside p counted roomy d' to' P =
      record {
        forward = omega (arith, s.forward);
        long = ap length P.left ∙ put_length true d to (shown on (get_or part at 0)) ∙ s.long;
        carries = λ from n lent put t.
            let u = s.carries from n lent put t in
            one_more part from on k n lent put at to count d u (get_or part at 0) (record { at = at + 1 }) (alone_next part at inside (alone_plain (get_or part at 0) p)) counted
            (omega (arith, roomy, u.long)) d' to' P;
      }
