-- What stands at a byte, told by the bytes from it on and in front of it. Assumes nothing.
use mathlib.Core.Path.{◌≡◌, refl, sym, ◌∙◌, ap, subst}
use mathlib.Core.Logic.{inl, inr}
use mathlib.Core.Bool.{Bool, true, false, true≢false}
use mathlib.Core.List.{List, [], ◌∷◌, head-eq_of_cons-eq}
use Prim.Native.Nat.{ℕ, suc, ◌-◌, ◌≤◌, ◌<◌}
use native.Mathlib.Omega.{arith}
use lib.ListN.{length, take, drop, get_or, drop_of_length-le}
use lib.Seq.{drop-cons}
use Rattle.tells.specs.Tells.{Tells, holds, fails}
use Rattle.tells.proofs.Laws.{as_told, told, not_told}
use Rattle.programs.proofs.Characters.{tail}
use Rattle.models.specs.Answers.{WordAt, EntityAt, AttlistAt, any, entity, attlist, other}
use Rattle.models.proofs.OneAnswer.{starts_any, starts_entity, starts_attlist}
use Rattle.judging.specs.Standing.{AnyTold, NumberAt}
use Rattle.judging.proofs.Words.{one_word, front_behind, word_there}

-- the rest of the text, as the code has it
abbrev rest_from : List ℕ → ℕ → List ℕ
rest_from text j = take (length text - j) (drop j text)

in_the_rest : (text word : List ℕ) (j : ℕ) (b : Bool) → Tells (WordAt word (rest_from text j)) b → Tells (WordAt word (drop j text)) b
in_the_rest text word j b t = subst (λ (l : List ℕ). Tells (WordAt word l) b) (tail text j) t

module _ (text : List ℕ) (k : ℕ) where
  -- nothing stands past the end
  past_end : (k < length text → ⊥) → (c : ℕ) (r : List ℕ) → drop k text ≡ c ∷ r → ⊥
  past_end h c r e = let z : length text ≤ k = omega (arith, h) in omega (arith, ap length (sym (drop_of_length-le text z) ∙ e))

  pub any_there : (b : Bool) → Tells (WordAt (65 ∷ 78 ∷ 89 ∷ []) (rest_from text k)) b → AnyTold text k true b
  any_there b t h = as_told (λ w. let c = h.0 refl in record { declarations = c.0; could_be = c.1; any = w }) (λ a. a.any) (in_the_rest text (65 ∷ 78 ∷ 89 ∷ []) k b t)

  pub no_any_past : (content : Bool) → (k < length text → ⊥) → AnyTold text k content false
  no_any_past content h i = fails (λ a. let t = starts_any text k a in past_end h 65 (78 ∷ t.0) t.1)

  pub no_content : AnyTold text k false false
  no_content h = fails (λ a. true≢false (sym (h.1 (a.declarations, a.could_be))))

  module _ (inside : k < length text) where
    first : drop k text ≡ get_or text k 0 ∷ drop (suc k) text
    first = drop-cons text k 0 inside

    pub percent_there : get_or text k 0 ≡ 37 → Tells (EntityAt text k) true
    percent_there e = holds (inl (drop (suc k) text, first ∙ ap (λ c. c ∷ drop (suc k) text) e))

    pub ampersand_there : get_or text k 0 ≡ 38 → Tells (EntityAt text k) true
    ampersand_there e = holds (inr (inl (drop (suc k) text, first ∙ ap (λ c. c ∷ drop (suc k) text) e)))

    pub entity_there : (b : Bool) → (get_or text k 0 ≡ 37 → ⊥) → (get_or text k 0 ≡ 38 → ⊥) → 3 ≤ k → Tells (WordAt (60 ∷ 33 ∷ 69 ∷ 78 ∷ 84 ∷ 73 ∷ 84 ∷ 89 ∷ []) (rest_from text (k - 3))) b → Tells (EntityAt text k) b
    entity_there b p q h t = as_told there back (in_the_rest text (60 ∷ 33 ∷ 69 ∷ 78 ∷ 84 ∷ 73 ∷ 84 ∷ 89 ∷ []) (k - 3) b t)
      where
        there : WordAt (60 ∷ 33 ∷ 69 ∷ 78 ∷ 84 ∷ 73 ∷ 84 ∷ 89 ∷ []) (drop (k - 3) text) → EntityAt text k
        there w = inr (inr (record {
          behind = front_behind text (60 ∷ 33 ∷ 69 ∷ []) (78 ∷ 84 ∷ 73 ∷ 84 ∷ 89 ∷ []) k (omega (arith, inside)) h w;
          entity = word_there text (60 ∷ 33 ∷ 69 ∷ []) (78 ∷ 84 ∷ 73 ∷ 84 ∷ 89 ∷ []) k (omega (arith, inside)) h w;
        }))

        back : EntityAt text k → WordAt (60 ∷ 33 ∷ 69 ∷ 78 ∷ 84 ∷ 73 ∷ 84 ∷ 89 ∷ []) (drop (k - 3) text)
        back (inl (r, e)) = absurd (p (head-eq_of_cons-eq (sym first ∙ e)))
        back (inr (inl (r, e))) = absurd (q (head-eq_of_cons-eq (sym first ∙ e)))
        back (inr (inr a)) = (one_word text (60 ∷ 33 ∷ 69 ∷ []) (78 ∷ 84 ∷ 73 ∷ 84 ∷ 89 ∷ []) k (omega (arith, inside)) a.behind a.entity).1

    pub too_early_for_entity : (get_or text k 0 ≡ 37 → ⊥) → (get_or text k 0 ≡ 38 → ⊥) → (3 ≤ k → ⊥) → Tells (EntityAt text k) false
    too_early_for_entity p q h = fails out
      where
        out : EntityAt text k → ⊥
        out (inl (r, e)) = p (head-eq_of_cons-eq (sym first ∙ e))
        out (inr (inl (r, e))) = q (head-eq_of_cons-eq (sym first ∙ e))
        out (inr (inr a)) = h (one_word text (60 ∷ 33 ∷ 69 ∷ []) (78 ∷ 84 ∷ 73 ∷ 84 ∷ 89 ∷ []) k (omega (arith, inside)) a.behind a.entity).0

    pub attlist_there : (b : Bool) → 2 ≤ k → Tells (WordAt (60 ∷ 33 ∷ 65 ∷ 84 ∷ 84 ∷ 76 ∷ 73 ∷ 83 ∷ 84 ∷ []) (rest_from text (k - 2))) b → Tells (AttlistAt text k) b
    attlist_there b h t =
        as_told
        (λ w. record {
          behind = front_behind text (60 ∷ 33 ∷ []) (65 ∷ 84 ∷ 84 ∷ 76 ∷ 73 ∷ 83 ∷ 84 ∷ []) k (omega (arith, inside)) h w;
          attlist = word_there text (60 ∷ 33 ∷ []) (65 ∷ 84 ∷ 84 ∷ 76 ∷ 73 ∷ 83 ∷ 84 ∷ []) k (omega (arith, inside)) h w;
        })
        (λ a. (one_word text (60 ∷ 33 ∷ []) (65 ∷ 84 ∷ 84 ∷ 76 ∷ 73 ∷ 83 ∷ 84 ∷ []) k (omega (arith, inside)) a.behind a.attlist).1)
        (in_the_rest text (60 ∷ 33 ∷ 65 ∷ 84 ∷ 84 ∷ 76 ∷ 73 ∷ 83 ∷ 84 ∷ []) (k - 2) b t)

    pub too_early_for_attlist : (2 ≤ k → ⊥) → Tells (AttlistAt text k) false
    too_early_for_attlist h = fails (λ a. h (one_word text (60 ∷ 33 ∷ []) (65 ∷ 84 ∷ 84 ∷ 76 ∷ 73 ∷ 83 ∷ 84 ∷ []) k (omega (arith, inside)) a.behind a.attlist).0)

  pub no_entity_past : (k < length text → ⊥) → Tells (EntityAt text k) false
  no_entity_past h = fails (λ a. let t = starts_entity text k a in past_end h t.0 t.1 t.2)

  pub no_attlist_past : (k < length text → ⊥) → Tells (AttlistAt text k) false
  no_attlist_past h = fails (λ a. let t = starts_attlist text k a in past_end h 65 (84 ∷ t.0) t.1)

-- the three tests, one behind the other
module _ (text : List ℕ) (k : ℕ) (content : Bool) where
  pub number_50 : (a : Bool) → AnyTold text k content a → a ≡ true → NumberAt text k content 50
  number_50 a n h i = any (told (n i) h)

  pub number_51 : (e : Bool) → Tells (EntityAt text k) e → e ≡ true → NumberAt text k content 51
  number_51 e m h i = entity (told m h)

  pub number_52 : (t : Bool) → Tells (AttlistAt text k) t → t ≡ true → NumberAt text k content 52
  number_52 t l h i = attlist (told l h)

  pub number_55 : (a e t : Bool) → AnyTold text k content a → a ≡ false → Tells (EntityAt text k) e → e ≡ false → Tells (AttlistAt text k) t → t ≡ false → NumberAt text k content 55
  number_55 a e t n f m g l h i = other (not_told (n i) f) (not_told m g) (not_told l h)
