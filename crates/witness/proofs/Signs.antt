-- The sign at which two strings part: it is told by the first bytes that differ.
-- Assumes nothing.
use mathlib.Core.Path.{◌≡◌, refl, sym, ◌∙◌, ap, subst}
use mathlib.Core.List.{List, [], ◌∷◌, ◌++◌}
use Prim.Native.Nat.{ℕ, zero, suc, ◌+◌, ◌*◌, ◌/◌, ◌%◌, ◌≤◌, ◌<◌, min}
use native.Mathlib.Omega.{arith}
use lib.ListN.{length, take, get_or, length-take}
use Rattle.expressions.specs.Expr.{Exp, nodes, Content, nothing, tree}
use Rattle.expressions.specs.Words.{Bracket, opening, closing}
use Rattle.expressions.proofs.Tree.{nodes_pos}
use Rattle.parting.specs.Parting.{PartingSign, round_or_end, end_or_round, left_or_right, right_or_left, PartingSignOf, PartAt}
use Rattle.ways.specs.Held.{code_of, codes}
use Rattle.ways.proofs.Holds.{length_codes}
use Rattle.witness.specs.declared.Row.{Row}
use Rattle.witness.specs.Held.{StringIn}
use Rattle.witness.specs.Answers.{SignAt, SignIs, SignBetween}

-- from the two brackets
module _ (c d : ℕ) where
  pub sign_first : c % 2 ≡ 1 → SignAt c d (c / 2)
  sign_first odd = record { is = λ e i n γ δ p q h. go e i n γ δ h p q }
    where
      go : (e : Exp) (i n : ℕ) (γ δ : Bracket) → PartingSign e i n γ δ → c ≡ code_of γ → d ≡ code_of δ → c / 2 ≡ n
      go e i n γ δ (round_or_end h) p q = absurd (omega (arith, odd, p))
      go e i n γ δ (end_or_round h) p q = omega (arith, p)
      go e i n γ δ (left_or_right h) p q = absurd (omega (arith, odd, p))
      go e i n γ δ (right_or_left h) p q = absurd (omega (arith, odd, p))

  module _ (even : c % 2 ≡ 1 → ⊥) where
    pub sign_second : d % 2 ≡ 1 → SignAt c d (d / 2)
    sign_second odd = record { is = λ e i n γ δ p q h. go e i n γ δ h p q }
      where
        go : (e : Exp) (i n : ℕ) (γ δ : Bracket) → PartingSign e i n γ δ → c ≡ code_of γ → d ≡ code_of δ → d / 2 ≡ n
        go e i n γ δ (round_or_end h) p q = omega (arith, q)
        go e i n γ δ (end_or_round h) p q = absurd (even (omega (arith, p)))
        go e i n γ δ (left_or_right h) p q = absurd (omega (arith, odd, q))
        go e i n γ δ (right_or_left h) p q = absurd (omega (arith, odd, q))

    module _ (even' : d % 2 ≡ 1 → ⊥) (r : ℕ) where
      pub sign_lower : c < d → ((n : ℕ) → c ≡ 2 * suc n → r ≡ n) → SignAt c d r
      sign_lower less k = record { is = λ e i n γ δ p q h. go e i n γ δ h p q }
        where
          go : (e : Exp) (i n : ℕ) (γ δ : Bracket) → PartingSign e i n γ δ → c ≡ code_of γ → d ≡ code_of δ → r ≡ n
          go e i n γ δ (round_or_end h) p q = absurd (even' (omega (arith, q)))
          go e i n γ δ (end_or_round h) p q = absurd (even (omega (arith, p)))
          go e i n γ δ (left_or_right h) p q = k n p
          go e i n γ δ (right_or_left h) p q = absurd (omega (arith, less, p, q))

      pub sign_upper : d ≤ c → ((n : ℕ) → d ≡ 2 * suc n → r ≡ n) → SignAt c d r
      sign_upper less k = record { is = λ e i n γ δ p q h. go e i n γ δ h p q }
        where
          go : (e : Exp) (i n : ℕ) (γ δ : Bracket) → PartingSign e i n γ δ → c ≡ code_of γ → d ≡ code_of δ → r ≡ n
          go e i n γ δ (round_or_end h) p q = absurd (even' (omega (arith, q)))
          go e i n γ δ (end_or_round h) p q = absurd (even (omega (arith, p)))
          go e i n γ δ (left_or_right {l = l} h) p q = absurd (let z = nodes_pos l in omega (arith, less, p, q, z))
          go e i n γ δ (right_or_left h) p q = k n q

-- the two brackets have different bytes
signs_differ : (e : Exp) (i n : ℕ) (γ δ : Bracket) → PartingSign e i n γ δ → code_of γ ≡ code_of δ → ⊥
signs_differ e i n γ δ (round_or_end h) p = omega (arith, p)
signs_differ e i n γ δ (end_or_round h) p = omega (arith, p)
signs_differ e i n γ δ (left_or_right {l = l} h) p = let z = nodes_pos l in omega (arith, p, z)
signs_differ e i n γ δ (right_or_left {l = l} h) p = let z = nodes_pos l in omega (arith, p, z)

sign_codes_differ : (e : Content) (n : ℕ) (γ δ : Bracket) → PartingSignOf e n γ δ → code_of γ ≡ code_of δ → ⊥
sign_codes_differ nothing n γ δ h p = h
sign_codes_differ (tree e) n γ δ h p = signs_differ e 1 n γ δ h p

-- a string that goes on after what is shared
at_shared : (γ : List Bracket) (c : Bracket) (ρ : List Bracket) → get_or (codes (γ ++ c ∷ ρ)) (length γ) 0 ≡ code_of c
at_shared [] c ρ = refl
at_shared (d ∷ γ) c ρ = at_shared γ c ρ

longer : (γ : List Bracket) (c : Bracket) (ρ : List Bracket) → length γ < length (codes (γ ++ c ∷ ρ))
longer [] c ρ = omega arith
longer (d ∷ γ) c ρ = let h = longer γ c ρ in omega (arith, h)

same_before : (γ : List Bracket) (c c' : Bracket) (ρ ρ' : List Bracket) (i : ℕ) → i < length γ → get_or (codes (γ ++ c ∷ ρ)) i 0 ≡ get_or (codes (γ ++ c' ∷ ρ')) i 0
same_before [] c c' ρ ρ' i h = absurd (omega (arith, h))
same_before (d ∷ γ) c c' ρ ρ' zero h = refl
same_before (d ∷ γ) c c' ρ ρ' (suc i) h = same_before γ c c' ρ ρ' i (omega (arith, h))

same_number : (k m : ℕ) → (k < m → ⊥) → (m < k → ⊥) → k ≡ m
same_number k m x y = omega arith

module _ (a b : List ℕ) (k : ℕ) (agreed : (i : ℕ) → i < k → get_or a i 0 ≡ get_or b i 0) where
  module _ (e : Content) (n : ℕ) (α β : List Bracket) (p : a ≡ codes α) (q : b ≡ codes β) (h : PartAt e n α β) where
    abbrev m : ℕ
    m = length h.shared

    first_is : a ≡ codes (h.shared ++ h.first_next ∷ h.first_rest)
    first_is = p ∙ ap codes h.first_is

    second_is : b ≡ codes (h.shared ++ h.second_next ∷ h.second_rest)
    second_is = q ∙ ap codes h.second_is

    first_long : m < length a
    first_long = subst (λ (l : List ℕ). m < length l) (sym first_is) (longer h.shared h.first_next h.first_rest)

    second_long : m < length b
    second_long = subst (λ (l : List ℕ). m < length l) (sym second_is) (longer h.shared h.second_next h.second_rest)

    first_code : get_or a m 0 ≡ code_of h.first_next
    first_code = ap (λ (l : List ℕ). get_or l m 0) first_is ∙ at_shared h.shared h.first_next h.first_rest

    second_code : get_or b m 0 ≡ code_of h.second_next
    second_code = ap (λ (l : List ℕ). get_or l m 0) second_is ∙ at_shared h.shared h.second_next h.second_rest

    -- no more than what is shared agrees
    not_past : m < k → ⊥
    not_past z = sign_codes_differ e n h.first_next h.second_next h.sign (sym first_code ∙ agreed m z ∙ second_code)

    agrees : (i : ℕ) → i < m → get_or a i 0 ≡ get_or b i 0
    agrees i z =
        ap (λ (l : List ℕ). get_or l i 0) first_is ∙ same_before h.shared h.first_next h.second_next h.first_rest h.second_rest i z
        ∙ sym (ap (λ (l : List ℕ). get_or l i 0) second_is)

    at_sign : (get_or a k 0 ≡ get_or b k 0 → ⊥) → k ≡ m
    at_sign differ = same_number k m (λ z. differ (agrees k z)) not_past

  pub ended : k ≡ min (length a) (length b) → SignIs a b 0
  ended z =
      record {
        is = λ e n α β p q h.
            let x = first_long e n α β p q h in
            let y = second_long e n α β p q h in
            absurd (not_past e n α β p q h (omega (arith, z, x, y)));
      }

  sign_there : (e : Content) (n r c d : ℕ) (γ δ : Bracket) → SignAt c d r → c ≡ code_of γ → d ≡ code_of δ → PartingSignOf e n γ δ → r ≡ n
  sign_there nothing n r c d γ δ s p q h = absurd h
  sign_there (tree e) n r c d γ δ s p q h = s.is e 1 n γ δ p q h

  pub sign_found : (get_or a k 0 ≡ get_or b k 0 → ⊥) → (r : ℕ) → SignAt (get_or a k 0) (get_or b k 0) r → SignIs a b r
  sign_found differ r s =
      record {
        is = λ e n α β p q h.
            let y = at_sign e n α β p q h differ in
            sign_there e n r (get_or a k 0) (get_or b k 0) h.first_next h.second_next s
            (ap (λ (i : ℕ). get_or a i 0) y ∙ first_code e n α β p q h) (ap (λ (i : ℕ). get_or b i 0) y ∙ second_code e n α β p q h) h.sign;
      }

-- the strings as they are held
spelt_short : (α : List Bracket) (a : Row) → StringIn α a → a.length ≤ length a.bytes
spelt_short α a h =
    let l : length (take a.length a.bytes) ≡ a.length = ap length h.bytes_are ∙ length_codes α ∙ sym h.length_is in
    let m = length-take a.length a.bytes in
    omega (arith, l, m)

module _ (a b : Row) where
  pub first_too_long : length a.bytes < a.length → SignBetween a b 0
  first_too_long z = record { is = λ e n α β x y h. absurd (let s = spelt_short α a x in omega (arith, s, z)) }

  pub second_too_long : length b.bytes < b.length → SignBetween a b 0
  second_too_long z = record { is = λ e n α β x y h. absurd (let s = spelt_short β b y in omega (arith, s, z)) }

  pub between : (r : ℕ) → SignIs (take a.length a.bytes) (take b.length b.bytes) r → SignBetween a b r
  between r s = record { is = λ e n α β x y h. s.is e n α β x.bytes_are y.bytes_are h }
