-- What is shown of a row, from which it holds: a front's first token as it is spelled, a front that starts with none, a state that does not fit.
-- Assumes nothing.
use mathlib.Core.Path.{◌≡◌, refl, sym, ap, subst, ◌∙◌}
use mathlib.Core.Bool.{Bool, true}
use mathlib.Core.Logic.{◌⊎◌, inl, inr}
use mathlib.Core.List.{List, [], ◌∷◌, ◌++◌}
use mathlib.Core.Option.{Option, none, some}
use Prim.Native.Nat.{ℕ, ◌≤◌, ◌<◌}
use native.Mathlib.Omega.{arith}
use lib.ListN.{length}
use Rattle.limits.specs.Limits.{largest_sheet}
use Rattle.tokens.specs.declared.Event.{Event}
use Rattle.tokens.specs.declared.Answer.{Answer}
use Rattle.tokens.specs.declared.Answer.TheVariants.{Token}
use Rattle.tokens.specs.Tokens.{Tok, Good, bytes, event_of, front, Means}
use Rattle.tokens.specs.Stream.{Followed}
use Rattle.tokens.specs.Numbers.{number_of}
use Rattle.tokens.proofs.Theory.{whole, followed_ended, one_answer}
use Rattle.layout.specs.Layout.{Size}
use Rattle.sheet.specs.Defect.{DefectIs, its_size}
use Rattle.sheet.specs.Sheet.{Sheet, IsSheet}
use Rattle.sheet.proofs.DefectLaws.{one_defect}
use Rattle.faults.specs.Verdict.{VerdictIs}
use Rattle.faults.specs.Checked.{CheckedAs}
use Rattle.faults.proofs.Theorems.{one_answer as one_list, one_verdict}
use Rattle.runs.specs.Taken.{Passed}
use Rattle.runs.specs.Examples.{Each}
use Rattle.salvage.specs.Shaped.{record_tags, shape_number}
use Rattle.salvage.proofs.Shaped.{shape_decided}
use Rattle.state.specs.Bounds.{state_width}
use Rattle.state.specs.declared.State.{State}
use Rattle.converter.specs.Answered.{FitsSheet, GivenBack, unfit, as_given}
use Rattle.converter.specs.Bytes.{state_in, as_given as bytes_as_given}
use Rattle.converter.proofs.Entering.{state_none}
use Rattle.edges.specs.Edges.{Edge, of_length, length_fits, has_number, has_verdict, checks, reads_token, refuses_front, state_fits, state_with, state_of_length, has_shape, no_shape, Sole, EdgeHolds}

-- the token that a stream's bytes start with, and what follows it in their front
pub record FirstToken (s : List ℕ) (e : Event) (k : ℕ) : Type 0 where
  pub token : Tok
  pub rest : List ℕ
  pub good : Good token
  pub are_bytes : front s 0 ≡ bytes token ++ rest
  pub followed : Followed true token rest
  pub event : e ≡ event_of 0 token
  pub taken : k ≡ length (bytes token)

abbrev pub EdgeFits : Edge → Type 0
EdgeFits (of_length k n) = ((k < 24) ⊎ (largest_sheet < k)) × (n ≡ 1)
EdgeFits (length_fits k) = (24 ≤ k) × (k ≤ largest_sheet)
EdgeFits (has_number s n) = DefectIs s n
EdgeFits (has_verdict s n) = VerdictIs s n
EdgeFits (checks s lent after n k) = CheckedAs s lent after (record { number = n; count = k })
EdgeFits (reads_token s e k) = FirstToken s e k
EdgeFits (refuses_front s n) = (x : Answer) × Means (front s 0) 0 x × ((more : Bool) → number_of more (length s) x ≡ some n)
EdgeFits (state_fits a z) = FitsSheet a z
EdgeFits (state_with f k n) = ((a : Sheet) (z : State) → f z ≡ k → FitsSheet a z → ⊥) × (n ≡ 29)
EdgeFits (state_of_length k n) = (k ≡ state_width → ⊥) × (n ≡ 29)
EdgeFits (has_shape a t u) = record_tags a ≡ some (record { root_tag = t; record_tag = u })
EdgeFits (no_shape a n) = (record_tags a ≡ none) × (shape_number none ≡ n)

no_size : (s : List ℕ) → (length s < 24) ⊎ (largest_sheet < length s) → Size s → ⊥
no_size s (inl h) z = omega (arith, z.least)
no_size s (inr h) z = omega (arith, z.most)

alone : (s : List ℕ) (n : ℕ) → DefectIs s n → Sole (DefectIs s) n
alone s n d = (d, λ m e. one_defect e d)

-- what a front means, it alone means
one_meaning : (f : List ℕ) (x : Answer) → Means f 0 x → Sole (Means f 0) x
one_meaning f x m = (m, λ y n. one_answer f 0 y x n m)

first_read : (s : List ℕ) (e : Event) (k : ℕ) → FirstToken s e k → Means (front s 0) 0 (Token e (record { at = k }))
first_read s e k h =
    whole (front s 0) 0 h.token h.rest h.good h.are_bytes e (record { at = k }) h.followed (followed_ended h.token h.rest h.followed) h.event (omega (arith, h.taken))

-- a state that does not fit is handed back
given_back : (s : List ℕ) (a : Sheet) → IsSheet s a → Passed a → (z : State) (n : ℕ) → (FitsSheet a z → ⊥) → n ≡ 29 → GivenBack s (some z) n
given_back s a i p z n unfits e =
    subst (GivenBack s (some z)) (sym e) (unfit a i p (λ y h f. let q : z ≡ y = cc in unfits (subst (FitsSheet a) (sym q) f)))

no_state : (s : List ℕ) (a : Sheet) → IsSheet s a → Passed a → (o : Option State) (n : ℕ) → o ≡ none → n ≡ 29 → GivenBack s o n
no_state s a i p o n h e = subst (GivenBack s o) (sym e) (unfit a i p (λ y q f. let z : ◌≡◌ {A = ℕ} 0 1 = cc in omega arith))

row_holds : (x : Edge) → EdgeFits x → EdgeHolds x
row_holds (of_length k n) h =
    λ s e. alone s n (subst (DefectIs s) (sym h.1) (its_size (no_size s (subst (λ (j : ℕ). (j < 24) ⊎ (largest_sheet < j)) (sym e) h.0))))
row_holds (length_fits k) h = λ s e. record { least = omega (arith, h.0); most = omega (arith, h.1) }
row_holds (has_number s n) h = alone s n h
row_holds (has_verdict s n) h = (h, λ m v. one_verdict v h)
row_holds (checks s lent after n k) h = (h, λ x q c. one_list c h)
row_holds (reads_token s e k) h = one_meaning (front s 0) (Token e (record { at = k })) (first_read s e k h)
row_holds (refuses_front s n) h = (h.0, one_meaning (front s 0) h.0 h.1, h.2)
row_holds (state_fits a z) h = h
row_holds (state_with f k n) h =
    λ s a i p z e part ended lent. as_given (given_back s a i p z n (h.0 a z e) h.1) (record { taken = refl; written = refl; state = refl; left = refl }) refl
row_holds (state_of_length k n) h =
    λ s a i p b e part ended lent. bytes_as_given (no_state s a i p (state_in b) n (state_none b (λ q. h.0 (sym e ∙ q))) h.1) (record { taken = refl; written = refl; visits = refl; same = refl; left = refl })
row_holds (has_shape a t u) h = (shape_decided a).gives (record { root_tag = t; record_tag = u }) h
row_holds (no_shape a n) h = ((shape_decided a).none_given (ap shape_number h.0), ap shape_number h.0 ∙ h.1)

pub all_hold : (xs : List Edge) → Each EdgeFits xs → Each EdgeHolds xs
all_hold [] h = tt
all_hold (x ∷ xs) h = (row_holds x h.0, all_hold xs h.1)

pub both_fit : (xs ys : List Edge) → Each EdgeFits xs → Each EdgeFits ys → Each EdgeFits (xs ++ ys)
both_fit [] ys h k = k
both_fit (x ∷ xs) ys h k = (h.0, both_fit xs ys h.1 k)
