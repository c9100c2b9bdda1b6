-- What is answered of a sheet that keeps numbers 1 to 6, by what was put of its rules' text. Assumes nothing.
use mathlib.Core.Path.{◌≡◌, refl, sym, ap, ◌∙◌, subst}
use mathlib.Core.Bool.{true, false}
use mathlib.Core.List.{List, ◌++◌}
use Prim.Native.Nat.{ℕ, ◌+◌, ◌≤◌, ◌<◌}
use native.Mathlib.Omega.{arith}
use lib.ListN.{length, drop}
use Rattle.limits.specs.Limits.{most_string_bytes}
use Rattle.lent.specs.Put.{put, PutAs}
use Rattle.lent.proofs.Laws.{put_dry, put_all}
use Rattle.tells.specs.Tells.{Tells, holds, fails}
use Rattle.notation.specs.Rules.{Rules}
use Rattle.encoding.specs.Distinct.{run_together}
use Rattle.encoding.specs.Encoded.{strings_stored}
use Rattle.printed.specs.Text.{text_of}
use Rattle.naming.specs.ByName.{ByName}
use Rattle.naming.proofs.Exists.{sheets_are_rules}
use Rattle.printing.specs.Printed.{HasText, PrintedAs, no_room, too_short, printed}
use Rattle.lines.specs.Lines.{TextPut}
use Rattle.hoards.specs.Hoards.{FitsIs}
use Rattle.prints.specs.KeepsSix.{KeepsSix}

module _ (s area : List ℕ) (K : KeepsSix s) where
  abbrev rules : Rules
  rules = (sheets_are_rules s K.its_sheet K.packed).0

  by_name : ByName K.its_sheet rules
  by_name = (sheets_are_rules s K.its_sheet K.packed).1

  pub strings_too_long : FitsIs s false → PrintedAs s area 42 0 area
  strings_too_long f = on (f K.its_sheet K.packed rules by_name)
    where
      on : Tells (length (run_together (strings_stored rules)) ≤ most_string_bytes) false → PrintedAs s area 42 0 area
      on (fails n) = no_room K.its_sheet rules K.packed by_name (omega (arith, n))

  module _ (f : FitsIs s true) where
    has_text : HasText s rules
    has_text = record { its_sheet = K.its_sheet; packed = K.packed; by_name = by_name; short = on (f K.its_sheet K.packed rules by_name) }
      where
        on : Tells (length (run_together (strings_stored rules)) ≤ most_string_bytes) true → length (run_together (strings_stored rules)) ≤ most_string_bytes
        on (holds h) = h

    -- the dry run
    module _ (n : ℕ) (d : List ℕ) (D : TextPut s (record { write = false; lent = area; at = 0 }) n d) where
      counted : n ≡ length (text_of rules)
      counted = omega (arith, (D.right K.its_sheet K.packed rules by_name).next)

      as_lent : d ≡ area
      as_lent = (D.right K.its_sheet K.packed rules by_name).left ∙ put_dry false area 0 (text_of rules) refl

      pub no_place : length d < n → PrintedAs s area 43 n d
      no_place h =
          subst (λ (k : ℕ). PrintedAs s area 43 k d) (sym counted)
          (subst (λ (w : List ℕ). PrintedAs s area 43 (length (text_of rules)) w) (sym as_lent) (too_short rules has_text (omega (arith, h, counted, ap length as_lent))))

      pub in_place : n ≤ length d → (m : ℕ) (e : List ℕ) → TextPut s (record { write = true; lent = d; at = 0 }) m e → PrintedAs s area 0 m e
      in_place h m e W =
          let P = W.right K.its_sheet K.packed rules by_name in
          let long : m ≡ length (text_of rules) = omega (arith, P.next) in
          let at : 0 + length (text_of rules) ≡ length (text_of rules) = omega arith in
          let all : e ≡ text_of rules ++ drop (length (text_of rules)) area =
          P.left ∙ put_all d 0 (text_of rules) (omega (arith, h, counted)) ∙ ap (λ (k : ℕ). text_of rules ++ drop k d) at ∙ ap (λ (w : List ℕ). text_of rules ++ drop (length (text_of rules)) w) as_lent in
          subst (λ (k : ℕ). PrintedAs s area 0 k e) (sym long)
          (subst (λ (w : List ℕ). PrintedAs s area 0 (length (text_of rules)) w) (sym all) (printed rules has_text (omega (arith, h, counted, ap length as_lent))))
