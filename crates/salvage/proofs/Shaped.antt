-- Whether a sheet is of the shape is decided: the function's tests are the shape's clauses, production by production; past the last production all of them hold.
-- Assumes nothing.
use mathlib.Core.Path.{◌≡◌, refl, sym, ap, ap₂, ◌∙◌, subst}
use mathlib.Core.Bool.{Bool, true, false, ◌&&◌, ◌||◌, not, true≢false}
use mathlib.Core.List.{List, [], ◌∷◌, ◌++◌}
use mathlib.Core.Option.{Option, none, some}
use Prim.Native.Nat.{ℕ, zero, suc, ◌≤◌, ◌<◌}
use native.Mathlib.Omega.{arith}
use lib.Dec.{eqb, ltb}
use lib.ListN.{length}
use borrow.Author.Tests.{eqb-true, eq-eqb, ltb-true, ltb-false}
use Rattle.expressions.specs.Expr.{Exp, atom, cat, alt, star, empty, nonterminal, anychar, Content, nothing, tree}
use Rattle.expressions.specs.Grammar.{Production, only_if, content_of, tags_of}
use Rattle.sheet.specs.Sheet.{Sheet}
use Rattle.runs.specs.Options.{bind, or_else, when_true}
use Rattle.runs.specs.Lookup.{tag_of, produces}
use Rattle.runs.specs.Visits.{grammar}
use Rattle.runs.proofs.Execute.{both_true}
use Rattle.salvage.specs.Shape.{RecordTags, content_names, OfShape, HasRecords}
use Rattle.salvage.specs.Shaped.{atom_of, starred_by, star_over, is_it, single, first_star, shaped_at, every_below, record_tags, shape_number, ShapeDecided}
use Rattle.salvage.proofs.Inside.{produces_in}

none_some : {A : Type 0} (x : A) → none ≡ some x → ⊥
none_some x e = let y : ◌≡◌ {A = ℕ} 0 1 = cc in omega arith

not_true : (b : Bool) → not b ≡ true → b ≡ false
not_true true h = absurd (true≢false (sym h))
not_true false h = refl

or_so : (b c : Bool) → not b || c ≡ true → b ≡ true → c ≡ true
or_so true c h e = h
or_so false c h e = absurd (true≢false (sym e))

so_or : (b c : Bool) → (b ≡ true → c ≡ true) → not b || c ≡ true
so_or true c f = f refl
so_or false c f = refl

or_else_lem : (b c : Bool) → b || c ≡ true → b ≡ false → c ≡ true
or_else_lem true c h e = absurd (true≢false e)
or_else_lem false c h e = h

else_or : (b c : Bool) → (b ≡ false → c ≡ true) → b || c ≡ true
else_or true c f = refl
else_or false c f = f refl

and_true : (b c : Bool) → b ≡ true → c ≡ true → b && c ≡ true
and_true b c h k = ap₂ (λ (b c : Bool). b && c) h k

below_so : (k : ℕ) (f : ℕ → Bool) → every_below k f ≡ true → (q : ℕ) → q < k → f q ≡ true
below_so zero f h q l = absurd (omega arith)
below_so (suc k) f h q l = let i = both_true (f k) (every_below k f) h in by (ltb q k) refl i.0 (λ j. below_so k f i.1 q j)
  where
    by : (b : Bool) → ltb q k ≡ b → f k ≡ true → (q < k → f q ≡ true) → f q ≡ true
    by true e i rest = rest (ltb-true q k e)
    by false e i rest = let j = ltb-false q k e in let s : q ≡ k = omega (arith, j, l) in ap f s ∙ i

so_below : (k : ℕ) (f : ℕ → Bool) → ((q : ℕ) → q < k → f q ≡ true) → every_below k f ≡ true
so_below zero f h = refl
so_below (suc k) f h = and_true (f k) (every_below k f) (h k (omega arith)) (so_below k f (λ q l. h q (omega arith)))

past_content : (g : List Production) (q : ℕ) → length g ≤ q → content_of g q ≡ nothing
past_content [] q l = refl
past_content (d ∷ ds) zero l = absurd (omega arith)
past_content (d ∷ ds) (suc q) l = past_content ds q (omega arith)

single_is : (l : List ℕ) (t : ℕ) → single l ≡ some t → l ≡ t ∷ []
single_is [] t e = absurd (none_some t e)
single_is (u ∷ []) t e = let i : u ≡ t = cc in ap (λ (v : ℕ). v ∷ []) i
single_is (u ∷ v ∷ l) t e = absurd (none_some t e)

star_is : (n : ℕ) (c : Content) → is_it n (star_over c) ≡ true → c ≡ tree (star (atom (nonterminal n)))
star_is n nothing h = absurd (true≢false (sym h))
star_is n (tree (atom k)) h = absurd (true≢false (sym h))
star_is n (tree (cat l r)) h = absurd (true≢false (sym h))
star_is n (tree (alt l r)) h = absurd (true≢false (sym h))
star_is n (tree (star (atom (nonterminal m)))) h = ap (λ (k : ℕ). tree (star (atom (nonterminal k)))) (sym (eqb-true n m h))
star_is n (tree (star (atom anychar))) h = absurd (true≢false (sym h))
star_is n (tree (star (cat l r))) h = absurd (true≢false (sym h))
star_is n (tree (star (alt l r))) h = absurd (true≢false (sym h))
star_is n (tree (star (star e))) h = absurd (true≢false (sym h))
star_is n (tree (star empty)) h = absurd (true≢false (sym h))
star_is n (tree empty) h = absurd (true≢false (sym h))

first_star_lem : (g : List Production) (st n t : ℕ) (ts : List ℕ) → tags_of g st ≡ t ∷ ts → ((q : ℕ) → produces g st q ≡ true → content_of g q ≡ tree (star (atom (nonterminal n)))) →
    first_star g st ≡ some n
first_star_lem [] st n t ts e h = absurd (let y : ◌≡◌ {A = ℕ} 0 1 = cc in omega arith)
first_star_lem (d ∷ ds) st n t ts e h = by (λ k. first_star_lem ds st n t ts k (λ q. h (suc q))) (eqb st d.nonterm) refl e
  where
    by : (tags_of ds st ≡ t ∷ ts → first_star ds st ≡ some n) → (b : Bool) → eqb st d.nonterm ≡ b → only_if b d.tagno ++ tags_of ds st ≡ t ∷ ts →
        or_else (bind (when_true b d.content) star_over) (first_star ds st) ≡ some n
    by f true i k = ap (λ (c : Content). or_else (star_over c) (first_star ds st)) (h 0 i)
    by f false i k = f k

module _ (a : Sheet) where
  abbrev g : List Production
  g = grammar a

  abbrev st : ℕ
  st = a.start_nonterminal

  module _ (n t r : ℕ) where
    abbrev rooted : ℕ → Bool
    rooted q = not (eqb (tag_of g q) t) || produces g st q

    abbrev recorded : ℕ → Bool
    recorded q = not (eqb (tag_of g q) r) || produces g n q

    abbrev named : ℕ → Bool
    named q = not (content_names st (content_of g q)) && (produces g st q || not (content_names n (content_of g q)))

    abbrev starred : ℕ → Bool
    starred q = not (produces g st q) || is_it n (star_over (content_of g q))

    record Clauses (q : ℕ) : Type 0 where
      pub is_star : starred q ≡ true
      pub is_root : rooted q ≡ true
      pub is_record : recorded q ≡ true
      pub not_start : content_names st (content_of g q) ≡ false
      pub not_records : produces g st q || not (content_names n (content_of g q)) ≡ true

    clauses : (q : ℕ) → shaped_at g st n t r q ≡ true → Clauses q
    clauses q h =
        let (a₁, b₁) = both_true (starred q) (rooted q && (recorded q && named q)) h in
        let (a₂, b₂) = both_true (rooted q) (recorded q && named q) b₁ in
        let (a₃, b₃) = both_true (recorded q) (named q) b₂ in
        let (a₄, b₄) = both_true (not (content_names st (content_of g q))) (produces g st q || not (content_names n (content_of g q))) b₃ in
        record { is_star = a₁; is_root = a₂; is_record = a₃; not_start = not_true (content_names st (content_of g q)) a₄; not_records = b₄ }

    shape_of : single (tags_of g st) ≡ some t → single (tags_of g n) ≡ some r → not (eqb n st) ≡ true → every_below (length g) (shaped_at g st n t r) ≡ true →
        OfShape a n (record { root_tag = t; record_tag = r })
    shape_of h k u v =
        record {
          one_root = single_is (tags_of g st) t h;
          root_is = λ q p. star_is n (content_of g q) (or_so (produces g st q) (is_it n (star_over (content_of g q))) (clause q (produces_in g st q p)).is_star p);
          one_record = single_is (tags_of g n) r k;
          two_nonterminals = λ e. true≢false (sym (eq-eqb n st e) ∙ not_true (eqb n st) u);
          only_root = λ q l e. or_so (eqb (tag_of g q) t) (produces g st q) (clause q l).is_root (eq-eqb (tag_of g q) t e);
          only_record = λ q l e. or_so (eqb (tag_of g q) r) (produces g n q) (clause q l).is_record (eq-eqb (tag_of g q) r e);
          start_unnamed = λ q. unnamed q (ltb q (length g)) refl;
          record_unnamed = λ q e. unnamed_in q e (ltb q (length g)) refl;
        }
      where
        clause : (q : ℕ) → q < length g → Clauses q
        clause q l = clauses q (below_so (length g) (shaped_at g st n t r) v q l)

        unnamed : (q : ℕ) (b : Bool) → ltb q (length g) ≡ b → content_names st (content_of g q) ≡ false
        unnamed q true e = (clause q (ltb-true q (length g) e)).not_start
        unnamed q false e = ap (content_names st) (past_content g q (ltb-false q (length g) e))

        unnamed_in : (q : ℕ) → produces g st q ≡ false → (b : Bool) → ltb q (length g) ≡ b → content_names n (content_of g q) ≡ false
        unnamed_in q p true e =
            not_true (content_names n (content_of g q)) (or_else_lem (produces g st q) (not (content_names n (content_of g q))) (clause q (ltb-true q (length g) e)).not_records p)
        unnamed_in q p false e = ap (content_names n) (past_content g q (ltb-false q (length g) e))

  abbrev made : ℕ → ℕ → ℕ → Option RecordTags
  made t n r = when_true (not (eqb n st) && every_below (length g) (shaped_at g st n t r)) (record { root_tag = t; record_tag = r })

  gives : (x : RecordTags) → record_tags a ≡ some x → (n : ℕ) × OfShape a n x
  gives x e = at_root (single (tags_of g st)) refl e
    where
      tested : (n t r : ℕ) → single (tags_of g st) ≡ some t → single (tags_of g n) ≡ some r → (b c : Bool) → not (eqb n st) ≡ b → every_below (length g) (shaped_at g st n t r) ≡ c →
          when_true (b && c) (record { root_tag = t; record_tag = r }) ≡ some x → (n : ℕ) × OfShape a n x
      tested n t r h k true true u v e = let i : record { root_tag = t; record_tag = r } ≡ x = cc in (n, subst (OfShape a n) i (shape_of n t r h k u v))
      tested n t r h k true false u v e = absurd (none_some x e)
      tested n t r h k false c u v e = absurd (none_some x e)

      at_record : (n t : ℕ) → single (tags_of g st) ≡ some t → (o : Option ℕ) → single (tags_of g n) ≡ o → bind o (made t n) ≡ some x → (n : ℕ) × OfShape a n x
      at_record n t h none k e = absurd (none_some x e)
      at_record n t h (some r) k e = tested n t r h k (not (eqb n st)) (every_below (length g) (shaped_at g st n t r)) refl refl e

      at_star : (t : ℕ) → single (tags_of g st) ≡ some t → (o : Option ℕ) → bind o (λ n. bind (single (tags_of g n)) (made t n)) ≡ some x → (n : ℕ) × OfShape a n x
      at_star t h none e = absurd (none_some x e)
      at_star t h (some n) e = at_record n t h (single (tags_of g n)) refl e

      at_root : (o : Option ℕ) → single (tags_of g st) ≡ o → bind o (λ t. bind (first_star g st) (λ n. bind (single (tags_of g n)) (made t n))) ≡ some x → (n : ℕ) × OfShape a n x
      at_root none h e = absurd (none_some x e)
      at_root (some t) h e = at_star t h (first_star g st) e

  given : (n : ℕ) (x : RecordTags) → OfShape a n x → record_tags a ≡ some x
  given n x h =
      let t : ℕ = x.root_tag in
      let r : ℕ = x.record_tag in
      ap (λ (o : Option ℕ). bind o (λ t. bind (first_star g st) (λ n. bind (single (tags_of g n)) (λ r. made t n r)))) (ap single h.one_root)
      ∙ ap (λ (o : Option ℕ). bind o (λ n. bind (single (tags_of g n)) (λ r. made t n r))) (first_star_lem g st n t [] h.one_root h.root_is)
      ∙ ap (λ (o : Option ℕ). bind o (λ r. made t n r)) (ap single h.one_record)
      ∙ ap (λ (b : Bool). when_true b (record { root_tag = t; record_tag = r })) (and_true (not (eqb n st)) (every_below (length g) (shaped_at g st n t r)) apart (so_below (length g) (shaped_at g st n t r) shaped))
    where
      apart : not (eqb n st) ≡ true
      apart = by (eqb n st) refl
        where
          by : (b : Bool) → eqb n st ≡ b → not b ≡ true
          by true e = absurd (h.two_nonterminals (eqb-true n st e))
          by false e = refl

      shaped : (q : ℕ) → q < length g → shaped_at g st n x.root_tag x.record_tag q ≡ true
      shaped q l =
          let t : ℕ = x.root_tag in
          let r : ℕ = x.record_tag in
          let own : (produces g st q ≡ true) → is_it n (star_over (content_of g q)) ≡ true = λ p. ap (λ (c : Content). is_it n (star_over c)) (h.root_is q p) ∙ eq-eqb n n refl in
          and_true (starred n t r q) (rooted n t r q && (recorded n t r q && named n t r q)) (so_or (produces g st q) (is_it n (star_over (content_of g q))) own)
          (and_true (rooted n t r q) (recorded n t r q && named n t r q) (so_or (eqb (tag_of g q) t) (produces g st q) (λ e. h.only_root q l (eqb-true (tag_of g q) t e)))
          (and_true (recorded n t r q) (named n t r q) (so_or (eqb (tag_of g q) r) (produces g n q) (λ e. h.only_record q l (eqb-true (tag_of g q) r e)))
          (and_true (not (content_names st (content_of g q))) (produces g st q || not (content_names n (content_of g q))) (ap not (h.start_unnamed q))
          (else_or (produces g st q) (not (content_names n (content_of g q))) (λ e. ap not (h.record_unnamed q e))))))

-- the function decides the shape
pub shape_decided : (a : Sheet) → ShapeDecided a
shape_decided a =
    record {
      gives = gives a;
      given = given a;
      none_given = λ e h. by (record_tags a) (given a h.0 h.1 h.2) e;
      gives_none = λ f. on (record_tags a) refl f;
    }
  where
    by : (o : Option RecordTags) {x : RecordTags} → o ≡ some x → shape_number o ≡ 34 → ⊥
    by none e h = none_some _ e
    by (some y) e h = omega (arith, h)

    on : (o : Option RecordTags) → record_tags a ≡ o → (HasRecords a → ⊥) → shape_number o ≡ 34
    on none e f = refl
    on (some x) e f = let i = gives a x e in absurd (f (i.0, x, i.1))
