-- A printed condition spells tokens of that condition. Assumes nothing.
use mathlib.Core.Path.{◌≡◌, refl, subst}
use mathlib.Core.Bool.{Bool, true, false, ◌&&◌}
use mathlib.Core.List.{List, [], ◌∷◌, ◌++◌}
use Prim.Native.Nat.{ℕ, zero, suc, ◌≤◌, max}
use native.Mathlib.Omega.{arith}
use Rattle.programs.specs.Program.{Operand, constant, current, recalled, Condition, equal, negated, both, either}
use Rattle.programs.specs.Limits.{Attribute, Value, OperandFits, ConditionFits, condition_nesting, Visit, first, second, operand_allowed, condition_allowed}
use Rattle.notation.specs.Tokens.{plain, left, TextToken, value, attribute, word, NOT, AND, OR, sign, OPEN, CLOSE, EQUALS, token_bytes}
use Rattle.notation.specs.Conditions.{CurrentIs, of_either, OperandIs, a_value, a_current, a_recalled, ConditionIs, no_or, or, BothIs, no_and, and, SingleIs, compared, not, parenthesised}
use Rattle.encoding.proofs.Stored.{and_parts}
use Rattle.printed.specs.Spacing.{◌␣◌, in_parentheses, in_parentheses_if}
use Rattle.printed.specs.Conditions.{operand_token, condition_binds, condition_text}
use Rattle.printed.proofs.Phrases.{Phrase, a_word, closed, closed_alone, spaced, joined, Said, said_as}

pub operand_phrase : (x : Operand) → Phrase (operand_token x ∷ []) (token_bytes (operand_token x))
operand_phrase (constant v) = a_word (value v) (λ b. refl)
operand_phrase (current a) = a_word (attribute plain a) (λ b. refl)
operand_phrase (recalled a) = a_word (attribute left a) (λ b. refl)

pub operand_is : (v : Visit) (x : Operand) → OperandFits x → operand_allowed v x ≡ true → OperandIs v (operand_token x) x
operand_is v (constant n) h a = a_value h
operand_is v (current n) h a = a_current (of_either h)
operand_is first (recalled n) h a = absurd (let z : ◌≡◌ {A = ℕ} 0 1 = cc in omega arith)
operand_is second (recalled n) h a = a_recalled h

-- what a condition is by itself
abbrev Own : Visit → ℕ → Condition → List TextToken → Type 0
Own v p (equal x y) ts = SingleIs v p ts (equal x y)
Own v p (negated c) ts = SingleIs v p ts (negated c)
Own v p (both c d) ts = BothIs v p ts (both c d)
Own v p (either c d) ts = ConditionIs v p ts (either c d)

as_condition : (v : Visit) (p : ℕ) (c : Condition) (ts : List TextToken) → Own v p c ts → ConditionIs v p ts c
as_condition v p (equal x y) ts h = no_or (no_and h)
as_condition v p (negated c) ts h = no_or (no_and h)
as_condition v p (both c d) ts h = no_or h
as_condition v p (either c d) ts h = h

in_parentheses_lem : (v : Visit) (p : ℕ) (c : Condition) (x : List ℕ) → Said (Own v p c) x → Said (λ ts. SingleIs v (suc p) ts c) (in_parentheses x)
in_parentheses_lem v p c x s = record {
  tokens = sign OPEN ∷ (s.tokens ++ sign CLOSE ∷ []);
  are = parenthesised (as_condition v p c s.tokens s.are) refl;
  phrase = closed (sign OPEN) (λ b. refl) (s.tokens ++ sign CLOSE ∷ []) (x ++ 41 ∷ []) (joined s.tokens (sign CLOSE ∷ []) x (41 ∷ []) s.phrase (closed_alone (sign CLOSE) (λ b. refl)) (λ z q. refl));
}

-- left of `and`, or right of `or`; and right of `and`
as_both : (v : Visit) (p : ℕ) (c : Condition) → Said (Own v p c) (condition_text c) → Said (Own v (suc p) c) (condition_text c)
    → Said (λ ts. BothIs v (suc p) ts c) (in_parentheses_if (lib.Dec.ltb (condition_binds c) 1) (condition_text c))
as_both v p (equal x y) s t = said_as (λ ts h. no_and h) t
as_both v p (negated c) s t = said_as (λ ts h. no_and h) t
as_both v p (both c d) s t = t
as_both v p (either c d) s t = said_as (λ ts h. no_and h) (in_parentheses_lem v p (either c d) (condition_text (either c d)) s)

as_single : (v : Visit) (p : ℕ) (c : Condition) → Said (Own v p c) (condition_text c) → Said (Own v (suc p) c) (condition_text c)
    → Said (λ ts. SingleIs v (suc p) ts c) (in_parentheses_if (lib.Dec.ltb (condition_binds c) 2) (condition_text c))
as_single v p (equal x y) s t = t
as_single v p (negated c) s t = t
as_single v p (both c d) s t = in_parentheses_lem v p (both c d) (condition_text (both c d)) s
as_single v p (either c d) s t = in_parentheses_lem v p (either c d) (condition_text (either c d)) s

-- the parts of a row with a word between them
between_words : (ts us : List TextToken) (w : Rattle.notation.specs.Tokens.Keyword) (x y : List ℕ) → Phrase ts x → Phrase us y → Phrase (ts ++ word w ∷ us) (x ␣ token_bytes (word w) ␣ y)
between_words ts us w x y p q = spaced ts (word w ∷ us) x (token_bytes (word w) ␣ y) p (spaced (word w ∷ []) us (token_bytes (word w)) y (a_word (word w) (λ b. refl)) q)

module _ (v : Visit) where
  own : (c : Condition) → ConditionFits c → condition_allowed v c ≡ true → (p : ℕ) → condition_nesting c ≤ p → Said (Own v p c) (condition_text c)
  own (equal x y) h a p n =
      let b = and_parts (operand_allowed v x) (operand_allowed v y) a in
      record {
        tokens = operand_token x ∷ sign EQUALS ∷ operand_token y ∷ [];
        are = compared (operand_is v x h.0 b.0) (operand_is v y h.1 b.1);
        phrase = spaced (operand_token x ∷ []) (sign EQUALS ∷ operand_token y ∷ []) (token_bytes (operand_token x)) (61 ∷ [] ␣ token_bytes (operand_token y)) (operand_phrase x)
            (spaced (sign EQUALS ∷ []) (operand_token y ∷ []) (61 ∷ []) (token_bytes (operand_token y)) (closed_alone (sign EQUALS) (λ b. refl)) (operand_phrase y));
      }
  own (negated c) h a zero n = absurd (omega arith)
  own (negated c) h a (suc p) n =
      let s = in_parentheses_lem v p c (condition_text c) (own c h a p (omega arith)) in
      record {
        tokens = word NOT ∷ s.tokens;
        are = not s.are;
        phrase = spaced (word NOT ∷ []) s.tokens (token_bytes (word NOT)) (in_parentheses (condition_text c)) (a_word (word NOT) (λ b. refl)) s.phrase;
      }
  own (both c d) h a zero n = absurd (omega arith)
  own (both c d) h a (suc p) n =
      let b = and_parts (condition_allowed v c) (condition_allowed v d) a in
      let s = as_both v p c (own c h.0 b.0 p (omega arith)) (own c h.0 b.0 (suc p) (omega arith)) in
      let t = as_single v p d (own d h.1 b.1 p (omega arith)) (own d h.1 b.1 (suc p) (omega arith)) in
      record {
        tokens = s.tokens ++ word AND ∷ t.tokens;
        are = and s.are t.are refl;
        phrase = between_words s.tokens t.tokens AND (in_parentheses_if (lib.Dec.ltb (condition_binds c) 1) (condition_text c)) (in_parentheses_if (lib.Dec.ltb (condition_binds d) 2) (condition_text d)) s.phrase t.phrase;
      }
  own (either c d) h a zero n = absurd (omega arith)
  own (either c d) h a (suc p) n =
      let b = and_parts (condition_allowed v c) (condition_allowed v d) a in
      let s = said_as (as_condition v (suc p) c) (own c h.0 b.0 (suc p) (omega arith)) in
      let t = as_both v p d (own d h.1 b.1 p (omega arith)) (own d h.1 b.1 (suc p) (omega arith)) in
      record {
        tokens = s.tokens ++ word OR ∷ t.tokens;
        are = or s.are t.are refl;
        phrase = between_words s.tokens t.tokens OR (condition_text c) (in_parentheses_if (lib.Dec.ltb (condition_binds d) 1) (condition_text d)) s.phrase t.phrase;
      }

  pub condition_said : (c : Condition) → ConditionFits c → condition_allowed v c ≡ true → (p : ℕ) → condition_nesting c ≤ p → Said (λ ts. ConditionIs v p ts c) (condition_text c)
  condition_said c h a p n = said_as (as_condition v p c) (own c h a p n)
