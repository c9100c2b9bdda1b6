-- The echo of a tag: the record of a production's tag holds the name of that tag of the sheet, which is 15 bytes at most; and of a character.
-- Assumes nothing.
use mathlib.Core.Path.{◌≡◌, refl, sym, ap, ◌∙◌, subst}
use mathlib.Core.Bool.{Bool, true, false}
use mathlib.Core.List.{List, [], ◌∷◌, append-nil}
use Prim.Native.Nat.{ℕ, ◌+◌, ◌≤◌, ◌<◌}
use native.Mathlib.Omega.{arith}
use lib.ListN.{length, length-append}
use Rattle.lent.specs.Put.{PutAs}
use Rattle.lent.proofs.Laws.{nothing_put}
use Rattle.layout.specs.Layout.{tag_count}
use Rattle.layout.specs.Records.{tag_number_of}
use Rattle.layout.specs.LaidOut.{LaidOut}
use Rattle.layout.specs.declared.Layout.{Layout}
use Rattle.sheet.specs.Defect.{WellFormed}
use Rattle.sheet.specs.Tags.{TagAt}
use Rattle.sheet.specs.Sheet.{Sheet, IsSheet}
use Rattle.sheet.proofs.SheetLaws.{is_sheet, from_counted}
use Rattle.output.specs.Escape.{render, start_tag, end_tag}
use Rattle.output.proofs.Writing.{same_bytes}
use Rattle.runs.specs.Execute.{name_of}
use Rattle.runs.specs.Lookup.{tag_of}
use Rattle.runs.specs.Visits.{grammar, tag_name, while_on}
use Rattle.visits.specs.Written.{Pen, Written, tag_text, TagNameAt, TagOf}
use Rattle.visits.specs.Ran.{most_printed}
use Rattle.visits.proofs.Performing.{sources}
use Rattle.acts.specs.Visited.{tag_piece, EchoedAs}
use Rattle.acts.proofs.Fields.{rule_of}

tag_short : (ending : Bool) (n : List ℕ) → length n ≤ 15 → length (tag_text ending n) ≤ 64
tag_short false n h = omega (arith, length-append n (62 ∷ []))
tag_short true n h = omega (arith, length-append n (62 ∷ []))

tag_written : (ending : Bool) (n : List ℕ) → tag_text ending n ≡ render (while_on true (tag_piece ending n))
tag_written false n = sym (append-nil (start_tag n))
tag_written true n = sym (append-nil (end_tag n))

module _ (s : List ℕ) (l : Layout) (L : LaidOut s l) (q : ℕ) (h : q < l.productions) (ending on : Bool) (p : Pen) where
  name_there : (a : Sheet) → IsSheet s a → (t : ℕ) → t ≡ tag_number_of s q → TagNameAt s t (tag_name a q)
  name_there a y t e =
      let u = rule_of s l L q h a y in
      let same : tag_of (grammar a) q ≡ t = u.tag_is ∙ u.at.production_is.tag_is ∙ sym e in
      let few : t < length a.names = omega (arith, (y.well_formed_lem.productions.each q (omega (arith, L.layout_is.productions_is.is))).tag, from_counted (TagAt s) 0 (tag_count s) a.names y.names_are, e) in
      subst (λ (k : ℕ). TagNameAt s t (name_of a.names k)) (sym same) ((sources s l L a y).names_are t few)

  pub tag_echoed : WellFormed s → on ≡ true → (t : ℕ) → t ≡ tag_number_of s q → (r : ℕ) (d : List ℕ) → Written most_printed (TagOf s t ending) p r d → EchoedAs s q ending on p r d
  tag_echoed w e t f r d W = record { reach = short (is_sheet w); dry = W.dry; right = goes }
    where
      put_as : (a : Sheet) → IsSheet s a → PutAs p.write p.lent p.at (tag_text ending (tag_name a q)) d r
      put_as a y = W.right (tag_text ending (tag_name a q)) (tag_name a q, name_there a y t f, refl)

      short : (a : Sheet) × IsSheet s a → r ≤ p.at + 64
      short (a, y) = omega (arith, (put_as a y).next, tag_short ending (tag_name a q) (name_there a y t f).short)

      goes : (a : Sheet) → IsSheet s a → PutAs p.write p.lent p.at (render (while_on on (tag_piece ending (tag_name a q)))) d r
      goes a y =
          same_bytes p.write p.lent p.at (tag_text ending (tag_name a q)) (render (while_on on (tag_piece ending (tag_name a q)))) d r
          (tag_written ending (tag_name a q) ∙ ap (λ (b : Bool). render (while_on b (tag_piece ending (tag_name a q)))) (sym e)) (put_as a y)

  pub not_echoed : on ≡ false → EchoedAs s q ending on p p.at p.lent
  not_echoed e =
      record {
        reach = omega arith;
        dry = λ z. refl;
        right = λ a y. same_bytes p.write p.lent p.at [] (render (while_on on (tag_piece ending (tag_name a q)))) p.lent p.at
            (ap (λ (b : Bool). render (while_on b (tag_piece ending (tag_name a q)))) (sym e)) (nothing_put p.write p.lent p.at);
      }
