-- A tree under one grouping of the concatenations is one under the other, of the same shape.
-- Assumes nothing.
use mathlib.Core.Path.{◌≡◌, refl, sym, ◌∙◌, ap, ap₂, subst}
use mathlib.Core.Bool.{Bool, true, false, ◌&&◌}
use mathlib.Core.List.{List, [], ◌∷◌, ◌++◌}
use mathlib.Core.Option.{some}
use Prim.Native.Nat.{ℕ, suc}
use native.Mathlib.Omega.{arith}
use lib.Dec.{T}
use Rattle.expressions.specs.Expr.{Exp, cat, alt, star, Content}
use Rattle.expressions.specs.Grammar.{Production}
use Rattle.runs.specs.Events.{starts, ends}
use Rattle.runs.specs.Parse.{Element, element, Children, childless, children, Parse, child, one_char, pair, first_of, second_of, repeat, void, Parses, done, next}
use Rattle.runs.specs.Spells.{no_character, blanks_pass, event_mark}
use Rattle.grouping.specs.Regrouped.{concatenations, concatenations_and_unions, Regrouped, RegroupedContent, still_nothing, regrouped_tree, RegroupedGrammar}
use Rattle.grouping.proofs.Kept.{kept}
use Rattle.grouping.proofs.Grammars.{content_stays, tag_stays, produces_stays}
use Rattle.grouping.proofs.Shapes.{Shape, joined, around, shape, shape_c, shape_P, shape_ps, shape_regrouped}

only_concatenations : concatenations ≡ concatenations_and_unions → ⊥
only_concatenations e = let z : ◌≡◌ {A = ℕ} 0 1 = cc in omega arith

-- white space passes in both or in neither
and_assoc : (a b c : Bool) → (a && b) && c ≡ a && (b && c)
and_assoc true b c = refl
and_assoc false b c = refl

letters_stay : {e e' : Exp} → Regrouped concatenations e e' → no_character e ≡ no_character e'
letters_stay {e} {e'} r =
    kept (λ e e'. no_character e ≡ no_character e') concatenations
    (record {
      still = λ e. refl;
      turned = λ e e' h. sym h;
      joined = λ e e' e'' h k. h ∙ k;
      in_cat = λ l l' r r' h k. ap₂ ◌&&◌ h k;
      in_alt = λ l l' r r' h k. ap₂ ◌&&◌ h k;
      in_star = λ e e' h. h;
      of_cat = λ a b c. and_assoc (no_character a) (no_character b) (no_character c);
      of_alt = λ u. absurd (only_concatenations u);
    })
    e e' r

blanks_stay : {c c' : Content} → RegroupedContent concatenations c c' → blanks_pass c ≡ blanks_pass c'
blanks_stay still_nothing = refl
blanks_stay (regrouped_tree r) = letters_stay r

-- within one grammar: a parse against e has one of its shape against e'
module _ (g : List Production) where
  abbrev Carries : Exp → Exp → Type 0
  Carries e e' = (p : Parse g e) → (p' : Parse g e') × (shape_P p ≡ shape_P p')

  carries_same : (e : Exp) → Carries e e
  carries_same e p = (p, refl)

  carries_cat : (l l' r r' : Exp) → Carries l l' → Carries r r' → Carries (cat l r) (cat l' r')
  carries_cat l l' r r' f h (pair a b) = (pair (f a).0 (h b).0, ap₂ (λ (x y : Shape). around (joined x y)) (f a).1 (h b).1)

  carries_alt : (l l' r r' : Exp) → Carries l l' → Carries r r' → Carries (alt l r) (alt l' r')
  carries_alt l l' r r' f h (first_of a) = (first_of (f a).0, ap around (f a).1)
  carries_alt l l' r r' f h (second_of b) = (second_of (h b).0, ap around (h b).1)

  carries_all : (e e' : Exp) → Carries e e' → (ps : Parses g e) → (ps' : Parses g e') × (shape_ps ps ≡ shape_ps ps')
  carries_all e e' f done = (done, refl)
  carries_all e e' f (next p ps) =
      let t = carries_all e e' f ps in
      (next (f p).0 t.0, ap₂ joined (f p).1 t.1)

  carries_star : (e e' : Exp) → Carries e e' → Carries (star e) (star e')
  carries_star e e' f (repeat ps) = let t = carries_all e e' f ps in (repeat t.0, ap around t.1)

  to_right : (a b c : Exp) → Carries (cat (cat a b) c) (cat a (cat b c))
  to_right a b c (pair (pair x y) z) = (pair x (pair y z), shape_regrouped (shape_P x) (shape_P y) (shape_P z))

  to_left : (a b c : Exp) → Carries (cat a (cat b c)) (cat (cat a b) c)
  to_left a b c (pair x (pair y z)) = (pair (pair x y) z, sym (shape_regrouped (shape_P x) (shape_P y) (shape_P z)))

  after_another : (e e' e'' : Exp) → Carries e e' → Carries e' e'' → Carries e e''
  after_another e e' e'' f h p = ((h (f p).0).0, (f p).1 ∙ (h (f p).0).1)

  abbrev Both : Exp → Exp → Type 0
  Both e e' = Carries e e' × Carries e' e

  both_stay : {e e' : Exp} → Regrouped concatenations e e' → Both e e'
  both_stay {e} {e'} r =
      kept Both concatenations
      (record {
        still = λ e. (carries_same e, carries_same e);
        turned = λ e e' h. (h.1, h.0);
        joined = λ e e' e'' h k. (after_another e e' e'' h.0 k.0, after_another e'' e' e k.1 h.1);
        in_cat = λ l l' r r' h k. (carries_cat l l' r r' h.0 k.0, carries_cat l' l r' r h.1 k.1);
        in_alt = λ l l' r r' h k. (carries_alt l l' r r' h.0 k.0, carries_alt l' l r' r h.1 k.1);
        in_star = λ e e' h. (carries_star e e' h.0, carries_star e' e h.1);
        of_cat = λ a b c. (to_right a b c, to_left a b c);
        of_alt = λ u. absurd (only_concatenations u);
      })
      e e' r

  regroup_children : {c c' : Content} → RegroupedContent concatenations c c' → (t : Children g c) → (t' : Children g c') × (shape_c t ≡ shape_c t')
  regroup_children still_nothing t = (t, refl)
  regroup_children (regrouped_tree r) (children p) = let t = (both_stay r).0 p in (children t.0, t.1)

-- an element by its production's tag, by whether white space passes in it, and by what it holds
abbrev element_shape : ℕ → Bool → Shape → Shape
element_shape t b x = record {
  nodes = suc x.nodes;
  deep = suc x.deep;
  events = starts (some t) ∷ (x.events ++ ends (some t) ∷ []);
  flags = λ o. event_mark o (starts (some t)) ∷ (x.flags b ++ event_mark b (ends (some t)) ∷ []);
}

-- from one grammar to the other
module _ {g g' : List Production} (r : RegroupedGrammar concatenations g g') where
  mutual
    pub regroup : {n : ℕ} (t : Element g n) → (t' : Element g' n) × (shape t ≡ shape t')
    regroup {n} (element q h c) =
        let m = regroup_C c in
        let k = regroup_children g' (content_stays r q) m.0 in (
          element q (subst T (produces_stays r n q) h) k.0,
          λ i. element_shape (tag_stays r q i) (blanks_stay (content_stays r q) i) ((m.1 ∙ k.1) i),
        )

    regroup_C : {c : Content} (t : Children g c) → (t' : Children g' c) × (shape_c t ≡ shape_c t')
    regroup_C childless = (childless, refl)
    regroup_C (children p) = let t = regroup_P p in (children t.0, t.1)

    regroup_P : {e : Exp} (p : Parse g e) → (p' : Parse g' e) × (shape_P p ≡ shape_P p')
    regroup_P (child t) = let k = regroup t in (child k.0, ap around k.1)
    regroup_P (one_char c) = (one_char c, refl)
    regroup_P (pair a b) = let x = regroup_P a in let y = regroup_P b in (pair x.0 y.0, ap₂ (λ (u v : Shape). around (joined u v)) x.1 y.1)
    regroup_P (first_of a) = let x = regroup_P a in (first_of x.0, ap around x.1)
    regroup_P (second_of b) = let y = regroup_P b in (second_of y.0, ap around y.1)
    regroup_P (repeat ps) = let t = regroup_ps ps in (repeat t.0, ap around t.1)
    regroup_P void = (void, refl)

    regroup_ps : {e : Exp} (ps : Parses g e) → (ps' : Parses g' e) × (shape_ps ps ≡ shape_ps ps')
    regroup_ps done = (done, refl)
    regroup_ps (next p ps) = let x = regroup_P p in let y = regroup_ps ps in (next x.0 y.0, ap₂ joined x.1 y.1)
