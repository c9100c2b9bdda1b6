-- The tests of the shape, one after another, are those of the definition.
-- Assumes nothing.
use mathlib.Core.Path.{◌≡◌, refl, sym, ap, ap₂, subst, ◌∙◌}
use mathlib.Core.Bool.{Bool, true, false, ◌&&◌, ◌||◌, not, and-false}
use mathlib.Core.List.{List, [], ◌∷◌}
use mathlib.Core.Option.{Option, none, some}
use Prim.Native.Nat.{ℕ, zero, suc, ◌≤◌, ◌<◌}
use native.Mathlib.Omega.{arith}
use lib.Dec.{eqb, ltb}
use lib.ListN.{length}
use borrow.Author.Tests.{ltb-true, ltb-false, eq-eqb, ne_eqb}
use Rattle.std.specs.Prelude.{Option as Answered, Some, None}
use Rattle.std.specs.Option.{option_eq}
use Rattle.expressions.specs.Grammar.{Production, content_of, tags_of, Nth}
use Rattle.layout.specs.Layout.{production_count, start}
use Rattle.layout.specs.Records.{nonterminal_of, tag_number_of}
use Rattle.trees.specs.GrammarAt.{GrammarIs}
use Rattle.trees.proofs.Grammars.{length_grammar, nth_there, nth_is}
use Rattle.sheet.proofs.SheetLaws.{sheet_grammar}
use Rattle.runs.specs.Options.{bind, when_true}
use Rattle.runs.specs.Lookup.{tag_of, produces}
use Rattle.runs.specs.Visits.{grammar}
use Rattle.salvage.specs.Shape.{RecordTags}
use Rattle.salvage.specs.Shaped.{star_over, is_it, single, first_star, shaped_at, every_below}
use Rattle.shapes.specs.declared.Shape.{Shape}
use Rattle.shapes.specs.Told.{NumberOr, there, missing, StarTold, TagTold, FirstTold, NamesTold, ShapedTold, AllShapedTold, tags_seen, ShapeTold}

pub missing_is : {o : Option ℕ} → NumberOr o None → o ≡ none
missing_is missing = refl

pub there_is : {o : Option ℕ} {r : ℕ} → NumberOr o (Some r) → o ≡ some r
there_is (there h) = refl

-- ---- one production
nth_produces : (g : List Production) (q n : ℕ) (d : Production) → Nth g q d → produces g n q ≡ eqb n d.nonterm
nth_produces [] q n d h = absurd h
nth_produces (e ∷ g) zero n d h = ap (λ (z : Production). eqb n z.nonterm) (sym h)
nth_produces (e ∷ g) (suc q) n d h = nth_produces g q n d h

nth_tag : (g : List Production) (q : ℕ) (d : Production) → Nth g q d → tag_of g q ≡ d.tagno
nth_tag [] q d h = absurd h
nth_tag (e ∷ g) zero d h = ap (λ (z : Production). z.tagno) (sym h)
nth_tag (e ∷ g) (suc q) d h = nth_tag g q d h

is_it_lem : (n : ℕ) (r : Answered ℕ) {o : Option ℕ} → NumberOr o r → option_eq eqb (Some n) r ≡ is_it n o
is_it_lem n r (there h) = refl
is_it_lem n r missing = refl

-- the test, of what is read
abbrev pub tested : (st n t r : ℕ) (nonterminal tag : ℕ) (over root_named record_named : Bool) → Bool
tested st n t r x y o b c = (not (eqb st x) || o) && ((not (eqb y t) || eqb st x) && ((not (eqb y r) || eqb n x) && (not b && (eqb st x || not c))))

module _ (s : List ℕ) (st n t r q : ℕ) (there_q : q < production_count s) where
  pub shaped_told : (x y : ℕ) (star : Answered ℕ) (o b c : Bool) → x ≡ nonterminal_of s q → y ≡ tag_number_of s q → StarTold s q star → o ≡ option_eq eqb (Some n) star → NamesTold s q st b → NamesTold s q n c → ShapedTold s st n t r q (tested st n t r x y o b c)
  shaped_told x y star o b c e f so is_over nb nc = record { is = goes }
    where
      goes : (g : List Production) → GrammarIs s g → tested st n t r x y o b c ≡ shaped_at g st n t r q
      goes g h =
          let d = nth_there s g h q there_q in
          let p = nth_is s g h q d.0 d.1 in
          let root : eqb st x ≡ produces g st q = ap (eqb st) (e ∙ sym p.nonterminal_is) ∙ sym (nth_produces g q st d.0 d.1) in
          let own : eqb n x ≡ produces g n q = ap (eqb n) (e ∙ sym p.nonterminal_is) ∙ sym (nth_produces g q n d.0 d.1) in
          let tag : y ≡ tag_of g q = f ∙ sym p.tag_is ∙ sym (nth_tag g q d.0 d.1) in
          let over : o ≡ is_it n (star_over (content_of g q)) = is_over ∙ is_it_lem n star (so.is g h) in
          let rest = ap₂ (λ (u v : Bool). not u && v) (nb.is g h) (ap₂ (λ (u v : Bool). u || not v) root (nc.is g h)) in
          let third = ap₂ (λ (u v : Bool). u && v) (ap₂ (λ (k : ℕ) (v : Bool). not (eqb k r) || v) tag own) rest in
          let second = ap₂ (λ (u v : Bool). u && v) (ap₂ (λ (k : ℕ) (v : Bool). not (eqb k t) || v) tag root) third in
          ap₂ (λ (u v : Bool). u && v) (ap₂ (λ (u v : Bool). not u || v) root over) second

-- ---- all of them
every_so : (k : ℕ) (f : ℕ → Bool) → ((q : ℕ) → q < k → f q ≡ true) → true ≡ every_below k f
every_so zero f h = refl
every_so (suc k) f h = ap₂ (λ (b c : Bool). b && c) (sym (h k (omega arith))) (every_so k f (λ q l. h q (omega arith)))

every_not : (k : ℕ) (f : ℕ → Bool) (q : ℕ) → q < k → f q ≡ false → false ≡ every_below k f
every_not zero f q l e = absurd (omega arith)
every_not (suc k) f q l e = by (λ h. every_not k f q h e) (ltb q k) refl
  where
    by : (q < k → false ≡ every_below k f) → (b : Bool) → ltb q k ≡ b → false ≡ (f k && every_below k f)
    by h true z = sym (and-false (f k)) ∙ ap (λ (c : Bool). f k && c) (h (ltb-true q k z))
    by h false z = ap (λ (c : Bool). c && every_below k f) (sym (subst (λ (i : ℕ). f i ≡ false) (omega (arith, ltb-false q k z)) e))

module _ (s : List ℕ) (st n t r : ℕ) where
  -- each production before q has its part
  abbrev pub AllSo : ℕ → Type 0
  AllSo q = (k : ℕ) → k < q → ShapedTold s st n t r k true

  pub all_told : (q : ℕ) → production_count s ≤ q → AllSo q → AllShapedTold s st n t r true
  all_told q b f = record { is = λ g h. every_so (length g) (shaped_at g st n t r) (λ k l. sym ((f k (omega (arith, length_grammar s g h))).is g h)) }

  pub not_all_told : (q : ℕ) → q < production_count s → {b : Bool} → ShapedTold s st n t r q b → b ≡ false → AllShapedTold s st n t r false
  not_all_told q b w e = record { is = λ g h. every_not (length g) (shaped_at g st n t r) q (omega (arith, length_grammar s g h)) (sym (w.is g h) ∙ e) }

  pub told_so : {q : ℕ} {b : Bool} → ShapedTold s st n t r q b → b ≡ true → ShapedTold s st n t r q true
  told_so w e = record { is = λ g h. sym e ∙ w.is g h }

-- ---- the sheet
module _ (g : List Production) (st : ℕ) where
  abbrev with_record : (t n : ℕ) → Option ℕ → Option RecordTags
  with_record t n o = bind o (λ r. when_true (not (eqb n st) && every_below (length g) (shaped_at g st n t r)) (record { root_tag = t; record_tag = r }))

  abbrev with_star : ℕ → Option ℕ → Option RecordTags
  with_star t o = bind o (λ n. with_record t n (single (tags_of g n)))

  abbrev with_root : Option ℕ → Option RecordTags
  with_root o = bind o (λ t. with_star t (first_star g st))

  abbrev tags_with : Option RecordTags
  tags_with = with_root (single (tags_of g st))

module _ (s : List ℕ) (st : ℕ) (is_start : st ≡ start s) where
  of_sheet : (o : Answered Shape) → ((g : List Production) → GrammarIs s g → tags_seen o ≡ tags_with g st) → ShapeTold s o
  of_sheet o f = record { is = λ a h. f (grammar a) (sheet_grammar h) ∙ ap (tags_with (grammar a)) (is_start ∙ sym h.start_is) }

  pub no_root : TagTold s st None → ShapeTold s None
  no_root T = of_sheet None (λ g h. sym (ap (with_root g st) (missing_is (T.is g h))))

  module _ (t : ℕ) (T : TagTold s st (Some t)) where
    by_star : (g : List Production) → GrammarIs s g → tags_with g st ≡ with_star g st t (first_star g st)
    by_star g h = ap (with_root g st) (there_is (T.is g h))

    pub no_star : FirstTold s st None → ShapeTold s None
    no_star F = of_sheet None (λ g h. sym (by_star g h ∙ ap (with_star g st t) (missing_is (F.is g h))))

    module _ (n : ℕ) (F : FirstTold s st (Some n)) where
      by_record : (g : List Production) → GrammarIs s g → tags_with g st ≡ with_record g st t n (single (tags_of g n))
      by_record g h = by_star g h ∙ ap (with_star g st t) (there_is (F.is g h))

      pub no_record : TagTold s n None → ShapeTold s None
      no_record R = of_sheet None (λ g h. sym (by_record g h ∙ ap (with_record g st t n) (missing_is (R.is g h))))

      module _ (r : ℕ) (R : TagTold s n (Some r)) where
        by_tests : (g : List Production) → GrammarIs s g → (u v : Bool) → eqb n st ≡ u → every_below (length g) (shaped_at g st n t r) ≡ v →
            tags_with g st ≡ when_true (not u && v) (record { root_tag = t; record_tag = r })
        by_tests g h u v e f =
            by_record g h ∙ ap (with_record g st t n) (there_is (R.is g h))
            ∙ ap₂ (λ (x y : Bool). when_true {A = RecordTags} (not x && y) (record { root_tag = t; record_tag = r })) e f

        pub same_nonterminal : n ≡ st → ShapeTold s None
        same_nonterminal e = of_sheet None (λ g h. sym (by_tests g h true (every_below (length g) (shaped_at g st n t r)) (eq-eqb n st e) refl))

        pub not_shaped : (n ≡ st → ⊥) → {b : Bool} → AllShapedTold s st n t r b → b ≡ false → ShapeTold s None
        not_shaped d A e = of_sheet None (λ g h. sym (by_tests g h false false (ne_eqb n st d) (sym (A.is g h) ∙ e)))

        pub is_shaped : (n ≡ st → ⊥) → {b : Bool} → AllShapedTold s st n t r b → b ≡ true → ShapeTold s (Some (record { root_tag = t; record_tag = r }))
        is_shaped d A e = of_sheet (Some (record { root_tag = t; record_tag = r })) (λ g h. sym (by_tests g h false true (ne_eqb n st d) (sym (A.is g h) ∙ e)))
