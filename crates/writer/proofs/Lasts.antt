-- The last byte of what a token mentions. Assumes nothing.
use mathlib.Core.Path.{◌≡◌, refl, sym, ◌∙◌, ap}
use mathlib.Core.Logic.{◌⊎◌, inl, inr}
use mathlib.Core.List.{List, [], ◌∷◌, ◌++◌}
use Prim.Native.Nat.{ℕ, suc, ◌+◌, ◌-◌, ◌≤◌, ◌<◌}
use native.Mathlib.Omega.{arith}
use lib.ListN.{length, length-append}
use Rattle.notation.specs.Tokens.{TextToken, nonterminal, value, attribute, name, start_tag, end_tag, empty_tag, string, word, sign, all_in_quotes, token_bytes}
use Rattle.lexemes.specs.Kinds.{word_number, token_kind, token_number, TokenFits}
use Rattle.shelves.proofs.Outcomes.{word_kind, mark_kind, sign_kind}
use Rattle.writing.specs.TooMany.{last_byte_of}
use Rattle.writer.specs.Walks.{LastIs}

data LastView (t : TextToken) : Type 0 where
  of_name : token_kind t ≡ 5 → last_byte_of t ≡ token_number t - 1 → LastView t
  of_string : token_kind t ≡ 9 → last_byte_of t ≡ length (token_bytes t) - 1 → LastView t
  of_end : token_kind t ≡ 7 → last_byte_of t ≡ token_number t + 1 → token_number t ≤ 15 → LastView t
  of_start : token_kind t ≡ 6 → last_byte_of t ≡ token_number t → LastView t
  of_empty : token_kind t ≡ 8 → last_byte_of t ≡ token_number t → LastView t
  of_other : (token_kind t < 5) ⊎ (10 ≤ token_kind t) → last_byte_of t ≡ 0 → LastView t

word_high : (t : TextToken) (n : ℕ) → ((10 ≤ n) × (n < 23)) ⊎ (n ≡ 34) → 10 ≤ n
word_high t n (inl a) = a.0
word_high t n (inr e) = omega (arith, e)

view : (t : TextToken) → TokenFits t → LastView t
view (nonterminal n) h = of_other (inl (omega arith)) refl
view (value v) h = of_other (inl (omega arith)) refl
view (attribute m a) h = of_other (inl (mark_kind m)) refl
view (name n) h = of_name refl refl
view (start_tag n) h = of_start refl refl
view (end_tag n) h = of_end refl (omega arith) h.short
view (empty_tag n) h = of_empty refl refl
view (string cs) h = of_string refl (omega (arith, length-append (all_in_quotes cs) (34 ∷ [])))
view (word w) h = of_other (inr (word_high (word w) (word_number w) (word_kind w))) refl
view (sign g) h = of_other (inr (let z = sign_kind g in omega (arith, z))) refl

pub last_small : (t : TextToken) → TokenFits t → last_byte_of t ≤ length (token_bytes t)
last_small (nonterminal n) h = omega arith
last_small (value v) h = omega arith
last_small (attribute m a) h = omega arith
last_small (name n) h = omega arith
last_small (start_tag n) h = omega (arith, length-append n (62 ∷ []))
last_small (end_tag n) h = omega (arith, length-append n (62 ∷ []))
last_small (empty_tag n) h = omega (arith, length-append n (47 ∷ 62 ∷ []))
last_small (string cs) h = omega (arith, length-append (all_in_quotes cs) (34 ∷ []))
last_small (word w) h = omega arith
last_small (sign g) h = omega arith

module _ (kind number long : ℕ) where
  -- a number that a view settles, whichever it is
  by_view : (r : ℕ) → ((t : TextToken) → kind ≡ token_kind t → number ≡ token_number t → long ≡ length (token_bytes t) → LastView t → r ≡ last_byte_of t) → LastIs kind number long r
  by_view r f = record { is = λ t h k n l. f t k n l (view t h) }

  pub last_5_none : kind ≡ 5 → number ≡ 0 → LastIs kind number long 0
  last_5_none a b = by_view 0 on
    where
      on : (t : TextToken) → kind ≡ token_kind t → number ≡ token_number t → long ≡ length (token_bytes t) → LastView t → 0 ≡ last_byte_of t
      on t k n l (of_name e f) = omega (arith, f, n, b)
      on t k n l (of_string e f) = absurd (omega (arith, e, k, a))
      on t k n l (of_end e f g) = absurd (omega (arith, e, k, a))
      on t k n l (of_start e f) = absurd (omega (arith, e, k, a))
      on t k n l (of_empty e f) = absurd (omega (arith, e, k, a))
      on t k n l (of_other e f) = sym f

  pub last_5 : kind ≡ 5 → (number ≡ 0 → ⊥) → LastIs kind number long (number - 1)
  last_5 a b = by_view (number - 1) on
    where
      on : (t : TextToken) → kind ≡ token_kind t → number ≡ token_number t → long ≡ length (token_bytes t) → LastView t → number - 1 ≡ last_byte_of t
      on t k n l (of_name e f) = omega (arith, f, n)
      on t k n l (of_string e f) = absurd (omega (arith, e, k, a))
      on t k n l (of_end e f g) = absurd (omega (arith, e, k, a))
      on t k n l (of_start e f) = absurd (omega (arith, e, k, a))
      on t k n l (of_empty e f) = absurd (omega (arith, e, k, a))
      on t k n l (of_other (inl e) f) = absurd (omega (arith, e, k, a))
      on t k n l (of_other (inr e) f) = absurd (omega (arith, e, k, a))

  pub last_9_none : kind ≡ 9 → long ≡ 0 → LastIs kind number long 0
  last_9_none a b = by_view 0 on
    where
      on : (t : TextToken) → kind ≡ token_kind t → number ≡ token_number t → long ≡ length (token_bytes t) → LastView t → 0 ≡ last_byte_of t
      on t k n l (of_name e f) = absurd (omega (arith, e, k, a))
      on t k n l (of_string e f) = omega (arith, f, l, b)
      on t k n l (of_end e f g) = absurd (omega (arith, e, k, a))
      on t k n l (of_start e f) = absurd (omega (arith, e, k, a))
      on t k n l (of_empty e f) = absurd (omega (arith, e, k, a))
      on t k n l (of_other e f) = sym f

  pub last_9 : kind ≡ 9 → (long ≡ 0 → ⊥) → LastIs kind number long (long - 1)
  last_9 a b = by_view (long - 1) on
    where
      on : (t : TextToken) → kind ≡ token_kind t → number ≡ token_number t → long ≡ length (token_bytes t) → LastView t → long - 1 ≡ last_byte_of t
      on t k n l (of_name e f) = absurd (omega (arith, e, k, a))
      on t k n l (of_string e f) = omega (arith, f, l)
      on t k n l (of_end e f g) = absurd (omega (arith, e, k, a))
      on t k n l (of_start e f) = absurd (omega (arith, e, k, a))
      on t k n l (of_empty e f) = absurd (omega (arith, e, k, a))
      on t k n l (of_other (inl e) f) = absurd (omega (arith, e, k, a))
      on t k n l (of_other (inr e) f) = absurd (omega (arith, e, k, a))

  pub last_7 : kind ≡ 7 → number < 16 → LastIs kind number long (number + 1)
  last_7 a b = by_view (number + 1) on
    where
      on : (t : TextToken) → kind ≡ token_kind t → number ≡ token_number t → long ≡ length (token_bytes t) → LastView t → number + 1 ≡ last_byte_of t
      on t k n l (of_name e f) = absurd (omega (arith, e, k, a))
      on t k n l (of_string e f) = absurd (omega (arith, e, k, a))
      on t k n l (of_end e f g) = omega (arith, f, n)
      on t k n l (of_start e f) = absurd (omega (arith, e, k, a))
      on t k n l (of_empty e f) = absurd (omega (arith, e, k, a))
      on t k n l (of_other (inl e) f) = absurd (omega (arith, e, k, a))
      on t k n l (of_other (inr e) f) = absurd (omega (arith, e, k, a))

  pub last_7_long : kind ≡ 7 → 16 ≤ number → LastIs kind number long 0
  last_7_long a b = by_view 0 on
    where
      on : (t : TextToken) → kind ≡ token_kind t → number ≡ token_number t → long ≡ length (token_bytes t) → LastView t → 0 ≡ last_byte_of t
      on t k n l (of_name e f) = absurd (omega (arith, e, k, a))
      on t k n l (of_string e f) = absurd (omega (arith, e, k, a))
      on t k n l (of_end e f g) = absurd (omega (arith, g, n, b))
      on t k n l (of_start e f) = absurd (omega (arith, e, k, a))
      on t k n l (of_empty e f) = absurd (omega (arith, e, k, a))
      on t k n l (of_other e f) = sym f

  whole_number : (m : ℕ) → kind ≡ m → (m ≡ 6) ⊎ (m ≡ 8) → LastIs kind number long number
  whole_number m a c = by_view number (λ t k n l v. on t k n l v c)
    where
      on : (t : TextToken) → kind ≡ token_kind t → number ≡ token_number t → long ≡ length (token_bytes t) → LastView t → (m ≡ 6) ⊎ (m ≡ 8) → number ≡ last_byte_of t
      on t k n l (of_name e f) (inl d) = absurd (omega (arith, e, k, a, d))
      on t k n l (of_name e f) (inr d) = absurd (omega (arith, e, k, a, d))
      on t k n l (of_string e f) (inl d) = absurd (omega (arith, e, k, a, d))
      on t k n l (of_string e f) (inr d) = absurd (omega (arith, e, k, a, d))
      on t k n l (of_end e f g) (inl d) = absurd (omega (arith, e, k, a, d))
      on t k n l (of_end e f g) (inr d) = absurd (omega (arith, e, k, a, d))
      on t k n l (of_start e f) d = n ∙ sym f
      on t k n l (of_empty e f) d = n ∙ sym f
      on t k n l (of_other (inl e) f) (inl d) = absurd (omega (arith, e, k, a, d))
      on t k n l (of_other (inl e) f) (inr d) = absurd (omega (arith, e, k, a, d))
      on t k n l (of_other (inr e) f) (inl d) = absurd (omega (arith, e, k, a, d))
      on t k n l (of_other (inr e) f) (inr d) = absurd (omega (arith, e, k, a, d))

  pub last_6 : kind ≡ 6 → LastIs kind number long number
  last_6 a = whole_number 6 a (inl refl)

  pub last_8 : kind ≡ 8 → LastIs kind number long number
  last_8 a = whole_number 8 a (inr refl)

  pub last_other : (kind ≡ 5 → ⊥) → (kind ≡ 9 → ⊥) → (kind ≡ 7 → ⊥) → (kind ≡ 6 → ⊥) → (kind ≡ 8 → ⊥) → LastIs kind number long 0
  last_other a b c d i = by_view 0 on
    where
      on : (t : TextToken) → kind ≡ token_kind t → number ≡ token_number t → long ≡ length (token_bytes t) → LastView t → 0 ≡ last_byte_of t
      on t k n l (of_name e f) = absurd (a (k ∙ e))
      on t k n l (of_string e f) = absurd (b (k ∙ e))
      on t k n l (of_end e f g) = absurd (c (k ∙ e))
      on t k n l (of_start e f) = absurd (d (k ∙ e))
      on t k n l (of_empty e f) = absurd (i (k ∙ e))
      on t k n l (of_other e f) = sym f
