-- Marks behind a model. Assumes nothing.
use mathlib.Core.Path.{◌≡◌, refl, sym, ◌∙◌, ap, subst}
use mathlib.Core.Bool.{Bool, true, false, cond, ◌||◌}
use mathlib.Core.Option.{Option, some}
use mathlib.Core.List.{[], ◌∷◌}
use Prim.Native.Nat.{ℕ}
use native.Mathlib.Omega.{arith}
use borrow.Author.Tests.{eqb-true}
use lib.Dec.{eqb}
use Rattle.models.specs.Models.{Model, optional, any_number, at_least_one}
use Rattle.models.specs.Spelling.{MarkIs, question, asterisk, plus}
use Rattle.models.specs.Reader.{Phase, Move, to, step_mark}
use Rattle.strata.specs.Particles.{is_mark}

-- the model with the mark
pub record MarkFound (x : Model) (b : ℕ) : Type 0 where
  pub model : Model
  pub is : MarkIs x (b ∷ []) model
  pub steps : (f : Model → Phase) (o : Option Move) → step_mark x f o b ≡ some (to (f model))

pub found_mark : (x : Model) (b : ℕ) {t : Bool} → t ≡ is_mark b → t ≡ true → MarkFound x b
found_mark x b e y = go (eqb b 63) (eqb b 42) (eqb b 43) refl refl refl (sym e ∙ y)
  where
    go : (t u v : Bool) → eqb b 63 ≡ t → eqb b 42 ≡ u → eqb b 43 ≡ v → (t || (u || v)) ≡ true → MarkFound x b
    go true u v h i j k = record {
      model = optional x;
      is = subst (λ c. MarkIs x (c ∷ []) (optional x)) (sym (eqb-true b 63 h)) question;
      steps = λ f o. ap (λ z. cond z (some (to (f (optional x)))) (cond (eqb b 42) (some (to (f (any_number x)))) (cond (eqb b 43) (some (to (f (at_least_one x)))) o))) h;
    }
    go false true v h i j k = record {
      model = any_number x;
      is = subst (λ c. MarkIs x (c ∷ []) (any_number x)) (sym (eqb-true b 42 i)) asterisk;
      steps = λ f o. ap (λ z. cond z (some (to (f (optional x)))) (cond (eqb b 42) (some (to (f (any_number x)))) (cond (eqb b 43) (some (to (f (at_least_one x)))) o))) h
          ∙ ap (λ z. cond z (some (to (f (any_number x)))) (cond (eqb b 43) (some (to (f (at_least_one x)))) o)) i;
    }
    go false false true h i j k = record {
      model = at_least_one x;
      is = subst (λ c. MarkIs x (c ∷ []) (at_least_one x)) (sym (eqb-true b 43 j)) plus;
      steps = λ f o. ap (λ z. cond z (some (to (f (optional x)))) (cond (eqb b 42) (some (to (f (any_number x)))) (cond (eqb b 43) (some (to (f (at_least_one x)))) o))) h
          ∙ (ap (λ z. cond z (some (to (f (any_number x)))) (cond (eqb b 43) (some (to (f (at_least_one x)))) o)) i ∙ ap (λ z. cond z (some (to (f (at_least_one x)))) o) j);
    }
    go false false false h i j k = absurd (let z : ◌≡◌ {A = ℕ} 0 1 = cc in omega arith)

pub record NoMark (b : ℕ) : Type 0 where
  pub no_question : eqb b 63 ≡ false
  pub no_asterisk : eqb b 42 ≡ false
  pub no_plus : eqb b 43 ≡ false

pub no_mark : (b : ℕ) {t : Bool} → t ≡ is_mark b → t ≡ false → NoMark b
no_mark b e n = go (eqb b 63) (eqb b 42) (eqb b 43) refl refl refl (sym e ∙ n)
  where
    go : (t u v : Bool) → eqb b 63 ≡ t → eqb b 42 ≡ u → eqb b 43 ≡ v → (t || (u || v)) ≡ false → NoMark b
    go false false false h i j k = record { no_question = h; no_asterisk = i; no_plus = j }
    go true u v h i j k = absurd (let z : ◌≡◌ {A = ℕ} 0 1 = cc in omega arith)
    go false true v h i j k = absurd (let z : ◌≡◌ {A = ℕ} 0 1 = cc in omega arith)
    go false false true h i j k = absurd (let z : ◌≡◌ {A = ℕ} 0 1 = cc in omega arith)
