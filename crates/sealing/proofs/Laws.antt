-- The length of a sheet by its sections, and both ends. Assumes nothing.
use mathlib.Core.Path.{◌≡◌, refl, sym, ◌∙◌, ap, subst}
use mathlib.Core.Bool.{true}
use mathlib.Core.List.{List, [], ◌∷◌, ◌++◌}
use Prim.Native.Nat.{ℕ, ◌+◌, ◌*◌, ◌/◌, ◌≤◌, ◌<◌}
use native.Mathlib.Omega.{arith}
use lib.ListN.{length, drop, length-append}
use Rattle.lent.specs.Put.{PutAs}
use Rattle.lent.proofs.Laws.{put_all}
use Rattle.notation.specs.Rules.{Rules}
use Rattle.sheet.specs.Tags.{tag_record}
use Rattle.encoding.specs.Distinct.{run_together}
use Rattle.encoding.specs.Encoded.{tags_stored, strings_stored, programs_stored}
use Rattle.stores.specs.Rows.{RowsIn}
use Rattle.packing.specs.Packed.{tags_section, trailer, productions_section, nodes_section, sheet_bytes}
use Rattle.writing.specs.Written.{WrittenAs, too_short, written}
use Rattle.binding.specs.Bound.{ShortNames, TagRows, bound_bytes, BoundIs}
use Rattle.binding.proofs.Tags.{sixteen, short_all}
use Rattle.binding.proofs.Sections.{binds_sheets}
use Rattle.sealing.specs.Sealed.{SectionsOf, SealedIs}

pub tags_length : (l : List (List ℕ)) → ShortNames l → length (tags_section l) ≡ 16 * length l
tags_length [] s = refl
tags_length (n ∷ l) s = omega (arith, length-append (tag_record n) (tags_section l), sixteen n s.0, tags_length l s.1)

module _ (bytes ends : List ℕ) (count : ℕ) (p n g s : List ℕ) (start : ℕ) where
  -- all that is bound
  abbrev need : ℕ
  need = 16 * count + (length p + (length n + (length g + (length s + 24))))

  bound_length : (l : List (List ℕ)) → TagRows bytes ends count → RowsIn bytes ends count l → length (bound_bytes l p n g s start) ≡ need
  bound_length l t rows =
      let end : List ℕ = trailer (length l) (length p / 12) (length n / 6) (length g) (length s) start in
      let a = length-append (tags_section l) (p ++ (n ++ (g ++ (s ++ end)))) in
      let b = length-append p (n ++ (g ++ (s ++ end))) in
      let c = length-append n (g ++ (s ++ end)) in
      let d = length-append g (s ++ end) in
      let e = length-append s end in
      let f = tags_length l (short_all bytes ends count t l rows) in
      omega (arith, a, b, c, d, e, f, rows.number)

  -- the sheet of rules whose sections these are
  sheet_is : (r : Rules) → SectionsOf r bytes ends count p n g s start → bound_bytes (tags_stored r) p n g s start ≡ sheet_bytes r
  sheet_is r h =
      ap (λ x. bound_bytes (tags_stored r) x n g s start) h.productions_are
      ∙ ap (λ x. bound_bytes (tags_stored r) (productions_section r 0 r.productions) x g s start) h.nodes_are
      ∙ ap (λ x. bound_bytes (tags_stored r) (productions_section r 0 r.productions) (nodes_section r r.productions) x s start) h.programs_are
      ∙ ap (λ x. bound_bytes (tags_stored r) (productions_section r 0 r.productions) (nodes_section r r.productions) (run_together (programs_stored r)) x start) h.strings_are
      ∙ ap (λ x. bound_bytes (tags_stored r) (productions_section r 0 r.productions) (nodes_section r r.productions) (run_together (programs_stored r)) (run_together (strings_stored r)) x) h.start_is
      ∙ binds_sheets r

  sheet_length : (r : Rules) → TagRows bytes ends count → SectionsOf r bytes ends count p n g s start → length (sheet_bytes r) ≡ need
  sheet_length r t h = sym (ap length (sheet_is r h)) ∙ bound_length (tags_stored r) t h.tags_are

  pub seals_short : (area : List ℕ) → TagRows bytes ends count → length area < need → SealedIs bytes ends count p n g s start area area (record { number = 43; count = need })
  seals_short area t short = record {
    is = λ text r is_text room h.
        let e = sheet_length r t h in
        subst (λ k. WrittenAs text area 43 k area) e (too_short r is_text room (omega (arith, e, short)));
  }

  pub seals_whole : (area after : List ℕ) (k : ℕ) → TagRows bytes ends count → need ≤ length area → BoundIs bytes ends count p n g s start area after k → SealedIs bytes ends count p n g s start area after (record { number = 0; count = k })
  seals_whole area after k t room b = record {
    is = λ text r is_text room' h.
        let e = sheet_length r t h in
        let put' : PutAs true area 0 (sheet_bytes r) after k = subst (λ x. PutAs true area 0 x after k) (sheet_is r h) (b.is (tags_stored r) h.tags_are) in
        let left : after ≡ sheet_bytes r ++ drop (0 + length (sheet_bytes r)) area = put'.left ∙ put_all area 0 (sheet_bytes r) (omega (arith, e, room)) in
        let zero_more : 0 + length (sheet_bytes r) ≡ length (sheet_bytes r) = omega arith in
        let all : sheet_bytes r ++ drop (length (sheet_bytes r)) area ≡ after = sym (left ∙ ap (λ m. sheet_bytes r ++ drop m area) zero_more) in
        let long : length (sheet_bytes r) ≡ k = sym (put'.next ∙ zero_more) in
        subst (λ x. WrittenAs text area 0 k x) all (subst (λ m. WrittenAs text area 0 m (sheet_bytes r ++ drop (length (sheet_bytes r)) area)) long (written r is_text room' (omega (arith, e, room))));
  }
