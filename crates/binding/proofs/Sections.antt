-- Sections behind one another. Assumes nothing.
use mathlib.Core.Path.{◌≡◌, ◌∙◌, ap, ap₂}
use mathlib.Core.Bool.{true}
use mathlib.Core.List.{List, ◌++◌, append_assoc}
use Prim.Native.Nat.{ℕ, ◌+◌, ◌*◌, ◌/◌, ◌≤◌, ◌<◌, ◌^◌}
use native.Mathlib.Omega.{arith}
use lib.ListN.{length}
use Rattle.limits.specs.Limits.{most_tags}
use Rattle.lent.specs.Put.{PutAs}
use Rattle.output.proofs.Writing.{put_then, same_bytes}
use Rattle.notation.specs.Limits.{nodes_in_all}
use Rattle.encoding.specs.Distinct.{run_together}
use Rattle.encoding.specs.Encoded.{tags_stored, strings_stored, programs_stored}
use Rattle.packing.specs.Packed.{tags_section, productions_section, nodes_section, trailer, sheet_bytes}
use Rattle.packing.proofs.Productions.{productions_length, nodes_length}
use Rattle.records.specs.Records.{TrailerFits}
use Rattle.binding.specs.Bound.{TagsPut, SectionsFit, bound_bytes, BoundIs}
use Rattle.binding.specs.Promises.{BindsSheets}

regroup : (a b c d e f : List ℕ) → ((((a ++ b) ++ c) ++ d) ++ e) ++ f ≡ a ++ (b ++ (c ++ (d ++ (e ++ f))))
regroup a b c d e f = simp append_assoc

-- six puts, each where the last one stopped
pub bound : (bytes ends : List ℕ) (count : ℕ) (p n g s : List ℕ) (start : ℕ) (area a₁ a₂ a₃ a₄ a₅ a₆ : List ℕ) (r₁ r₂ r₃ r₄ r₅ r₆ : ℕ) → TagsPut bytes ends count area 0 a₁ r₁ → PutAs true a₁ r₁ p a₂ r₂
    → PutAs true a₂ r₂ n a₃ r₃ → PutAs true a₃ r₃ g a₄ r₄ → PutAs true a₄ r₄ s a₅ r₅ → PutAs true a₅ r₅ (trailer count (length p / 12) (length n / 6) (length g) (length s) start) a₆ r₆
    → BoundIs bytes ends count p n g s start area a₆ r₆
bound bytes ends count p n g s start area a₁ a₂ a₃ a₄ a₅ a₆ r₁ r₂ r₃ r₄ r₅ r₆ h₁ h₂ h₃ h₄ h₅ h₆ = record {
  is = λ l rows.
      let t = tags_section l in
      let end : List ℕ = trailer count (length p / 12) (length n / 6) (length g) (length s) start in
      let two = put_then true area 0 t p a₁ a₂ r₁ r₂ (h₁.is l rows) h₂ in
      let three = put_then true area 0 (t ++ p) n a₂ a₃ r₂ r₃ two h₃ in
      let four = put_then true area 0 ((t ++ p) ++ n) g a₃ a₄ r₃ r₄ three h₄ in
      let five = put_then true area 0 (((t ++ p) ++ n) ++ g) s a₄ a₅ r₄ r₅ four h₅ in
      let six = put_then true area 0 ((((t ++ p) ++ n) ++ g) ++ s) end a₅ a₆ r₅ r₆ five h₆ in
      same_bytes true area 0 (((((t ++ p) ++ n) ++ g) ++ s) ++ end) (bound_bytes l p n g s start) a₆ r₆
      (regroup t p n g s end ∙ ap (λ c. t ++ (p ++ (n ++ (g ++ (s ++ trailer c (length p / 12) (length n / 6) (length g) (length s) start))))) rows.number) six;
}

-- the trailer's numbers, and room behind the sections
pub trailer_fits : (count : ℕ) (p n g s : List ℕ) (start : ℕ) → count ≤ most_tags → SectionsFit p n g s start → TrailerFits count (length p / 12) (length n / 6) (length g) (length s) start
trailer_fits count p n g s start few h = record {
  few_tags = few;
  few_productions = omega (arith, h.few_productions);
  few_nodes = omega (arith, h.few_nodes);
  short_programs = h.short_programs;
  short_strings = h.short_strings;
  start_fits = h.start_fits;
}

pub end_small : (count : ℕ) (p n g s : List ℕ) (start r₁ r₂ r₃ r₄ r₅ : ℕ) → count ≤ most_tags → SectionsFit p n g s start → r₁ ≡ 0 + 16 * count → r₂ ≡ r₁ + length p → r₃ ≡ r₂ + length n → r₄ ≡ r₃ + length g → r₅ ≡ r₄ + length s
    → r₅ + 24 < 2 ^ 64
end_small count p n g s start r₁ r₂ r₃ r₄ r₅ few h e₁ e₂ e₃ e₄ e₅ = omega (arith, few, h.few_productions, h.few_nodes, h.short_programs, h.short_strings, e₁, e₂, e₃, e₄, e₅)

twelfth : (n k : ℕ) → n ≡ 12 * k → n / 12 ≡ k
twelfth n k e = omega (arith, e)

sixth : (n k : ℕ) → n ≡ 6 * k → n / 6 ≡ k
sixth n k e = omega (arith, e)

pub binds_sheets : BindsSheets
unfolding sheet_bytes
binds_sheets r =
    let t = tags_section (tags_stored r) in
    let p = productions_section r 0 r.productions in
    let n = nodes_section r r.productions in
    let g = run_together (programs_stored r) in
    let s = run_together (strings_stored r) in
    ap₂ (λ c d. t ++ (p ++ (n ++ (g ++ (s ++ trailer (length (tags_stored r)) c d (length g) (length s) r.start)))))
    (twelfth (length p) (length r.productions) (productions_length r 0 r.productions))
    (sixth (length n) (nodes_in_all r.productions) (nodes_length r r.productions))
