-- The numbers 20 and 6 of a character are given exactly where document 01 says.
-- Assumes nothing.
use mathlib.Core.Path.{◌≡◌, refl}
use mathlib.Core.Bool.{true, false}
use mathlib.Core.List.{[], ◌∷◌}
use mathlib.Core.Option.{none-ne-some as none_some}
use Prim.Native.Nat.{ℕ}
use native.Mathlib.Omega.{arith}
use Rattle.text.specs.Numbers.{TwentyExactly, SixInString}
use Rattle.text.specs.declared.Decoded.TheVariants.{Whole, Begun, Bad}
use Rattle.text.proofs.Unique.{whole_begun, whole_bad, begun_bad}

pub twenty_exactly : TwentyExactly
twenty_exactly more f (Whole c n) d = ((λ q. absurd (none_some 20 q)), (λ k. absurd (whole_bad f c d.1 (k c d.0))))
twenty_exactly true f Begun d = ((λ q. absurd (let z : ◌≡◌ {A = ℕ} 16 20 = cc in omega arith)), (λ k. absurd (begun_bad f d.0 d.2 (k d.0 d.1))))
twenty_exactly false [] Begun d = ((λ q. absurd (none_some 20 q)), (λ k. absurd (begun_bad [] d.0 d.2 (k d.0 d.1))))
twenty_exactly false (x ∷ f) Begun d = ((λ q. absurd (let z : ◌≡◌ {A = ℕ} 27 20 = cc in omega arith)), (λ k. absurd (begun_bad (x ∷ f) d.0 d.2 (k d.0 d.1))))
twenty_exactly more f Bad d = ((λ q. d), (λ k. refl))

pub six_in_string : SixInString
six_in_string f (Whole c n) some_left d = ((λ q. absurd (none_some 6 q)), (λ k. absurd (k c d.0 d.1)))
six_in_string [] Begun some_left d = absurd (some_left refl)
six_in_string (x ∷ f) Begun some_left d = ((λ q c ok s. whole_begun (x ∷ f) c d.0 s d.2), (λ k. refl))
six_in_string f Bad some_left d = ((λ q c ok s. whole_bad f c s (d c ok)), (λ k. refl))
