-- What a token does to the productions before and to the nodes of this one. Assumes nothing.
use mathlib.Core.Path.{◌≡◌, refl, sym, ◌∙◌, ap, subst}
use mathlib.Core.Bool.{true}
use mathlib.Core.Option.{Option, none, some}
use mathlib.Core.List.{List, [], ◌∷◌, ◌++◌}
use Prim.Native.Nat.{ℕ, ◌≤◌}
use native.Mathlib.Omega.{arith}
use Rattle.programs.specs.Limits.{first, second}
use Rattle.notation.specs.Program.{TextProgram}
use Rattle.notation.specs.Rules.{Tree, TextRule, Rules}
use Rattle.notation.specs.Tokens.{TextToken, nonterminal, value, attribute, name, start_tag, end_tag, empty_tag, string, word, sign, Sign, DEFINED, ASSIGNED, OPEN, CLOSE, BRACE, UNBRACE, DOT, BAR, STAR, SEMICOLON, EQUALS}
use Rattle.packing.specs.Packed.{content_bytes}
use Rattle.reading.specs.Tests.{tag_name?}
use Rattle.reading.specs.Statements.{Listing, list_start, step_statements, value_of_list}
use Rattle.reading.specs.Expressions.{Parsing, fresh_expression, nonterminal?, piece_of, unbraces, listing, step_expression, value_of_content}
use Rattle.reading.specs.Rules.{Key, a_nonterminal, a_name, a_definition, an_open, a_close, a_brace, other, key_if, key_of, Head, head, Progress, beginning, first_word, named, defined, own_front, wants_tag, tagged, within, closed, own_back, complete, rule_read, next_head, step_key, closes_content, parsing, step_rules}
use Rattle.reading.proofs.Telling.{none≢some}
use Rattle.lexemes.specs.Kinds.{token_kind}
use Rattle.mentions.proofs.Expressions.{unbraced}
use Rattle.desks.specs.Spots.{spot}
use Rattle.desks.specs.Kept.{earlier_of, inside_of}
use Rattle.slips.specs.declared.Slip.{Slip}
use Rattle.slips.specs.Slips.{Slipped}
use Rattle.slips.proofs.Turns.{KeyIs, key_is, no_step}
use Rattle.pasts.specs.Pasts.{SlipOf}

-- they stay; a production ends; or the tag's parentheses close
pub data PastStep (r : Rules) (s : Progress) (t : TextToken) (s' : Progress) : Type 0 where
  same : earlier_of s' ≡ earlier_of s → inside_of r s' ≡ inside_of r s → (spot s ≡ 7 → spot s' ≡ 8 → ⊥) → (token_kind t ≡ 0 → 8 ≤ spot s → ⊥) → PastStep r s t s'
  ends : (earlier : List TextRule) (d : TextRule) → token_kind t ≡ 0 → 8 ≤ spot s → earlier_of s ≡ earlier → inside_of r s ≡ content_bytes r d.inside → earlier_of s' ≡ earlier ++ d ∷ [] → inside_of r s' ≡ []
      → ((o : Slip) → Slipped r s o → SlipOf r d o) → PastStep r s t s'
  lays : (x : Parsing) (c : Option TextProgram) (v : List ℕ) (e : Option Tree) (h : Head) → s ≡ within x c v h → s' ≡ closed c v e h → PastStep r s t s'

module _ (r : Rules) where
  to : (s y z : Progress) (u t : TextToken) → some y ≡ some z → t ≡ u → PastStep r s u y → PastStep r s t z
  to s y z u t e h g = let alike : y ≡ z = cc in subst (λ (a : TextToken). PastStep r s a z) (sym h) (subst (λ (a : Progress). PastStep r s u a) alike g)

  key_step : (s z : Progress) (t : TextToken) (k : Key) → KeyIs t k → step_key s k ≡ some z → PastStep r s t z
  key_step beginning z t (a_nonterminal n) f e = to beginning (first_word n) z (nonterminal n) t e f (same refl refl (λ a b. omega arith) (λ a b. omega arith))
  key_step beginning z t (a_name u) f e = absurd (none≢some refl e)
  key_step beginning z t a_definition f e = absurd (none≢some refl e)
  key_step beginning z t an_open f e = absurd (none≢some refl e)
  key_step beginning z t a_close f e = absurd (none≢some refl e)
  key_step beginning z t a_brace f e = absurd (none≢some refl e)
  key_step beginning z t other f e = absurd (none≢some refl e)
  key_step (first_word m) z t (a_nonterminal n) f e = to (first_word m) (named (head m [] n)) z (nonterminal n) t e f (same refl refl (λ a b. omega arith) (λ a b. omega arith))
  key_step (first_word m) z t (a_name u) f e = absurd (none≢some refl e)
  key_step (first_word m) z t a_definition f e = to (first_word m) (defined (head m [] m)) z (sign DEFINED) t e f (same refl refl (λ a b. omega arith) (λ a b. omega arith))
  key_step (first_word m) z t an_open f e = absurd (none≢some refl e)
  key_step (first_word m) z t a_close f e = absurd (none≢some refl e)
  key_step (first_word m) z t a_brace f e = absurd (none≢some refl e)
  key_step (first_word m) z t other f e = absurd (none≢some refl e)
  key_step (named h) z t (a_nonterminal n) f e = absurd (none≢some refl e)
  key_step (named h) z t (a_name u) f e = absurd (none≢some refl e)
  key_step (named h) z t a_definition f e = to (named h) (defined h) z (sign DEFINED) t e f (same refl refl (λ a b. omega arith) (λ a b. omega arith))
  key_step (named h) z t an_open f e = absurd (none≢some refl e)
  key_step (named h) z t a_close f e = absurd (none≢some refl e)
  key_step (named h) z t a_brace f e = absurd (none≢some refl e)
  key_step (named h) z t other f e = absurd (none≢some refl e)
  key_step (defined h) z t (a_nonterminal n) f e = absurd (none≢some refl e)
  key_step (defined h) z t (a_name u) f e = to (defined h) (tagged none u h) z (name u) t e f (same refl refl (λ a b. omega arith) (λ a b. omega arith))
  key_step (defined h) z t a_definition f e = absurd (none≢some refl e)
  key_step (defined h) z t an_open f e = absurd (none≢some refl e)
  key_step (defined h) z t a_close f e = absurd (none≢some refl e)
  key_step (defined h) z t a_brace f e = to (defined h) (own_front list_start h) z (sign BRACE) t e f (same refl refl (λ a b. omega arith) (λ a b. omega arith))
  key_step (defined h) z t other f e = absurd (none≢some refl e)
  key_step (wants_tag c h) z t (a_nonterminal n) f e = absurd (none≢some refl e)
  key_step (wants_tag c h) z t (a_name u) f e = to (wants_tag c h) (tagged c u h) z (name u) t e f (same refl refl (λ a b. omega arith) (λ a b. omega arith))
  key_step (wants_tag c h) z t a_definition f e = absurd (none≢some refl e)
  key_step (wants_tag c h) z t an_open f e = absurd (none≢some refl e)
  key_step (wants_tag c h) z t a_close f e = absurd (none≢some refl e)
  key_step (wants_tag c h) z t a_brace f e = absurd (none≢some refl e)
  key_step (wants_tag c h) z t other f e = absurd (none≢some refl e)
  key_step (tagged c v h) z t (a_nonterminal n) f e = absurd (none≢some refl e)
  key_step (tagged c v h) z t (a_name u) f e = absurd (none≢some refl e)
  key_step (tagged c v h) z t a_definition f e = absurd (none≢some refl e)
  key_step (tagged c v h) z t an_open f e = to (tagged c v h) (within (Parsing.wants true fresh_expression []) c v h) z (sign OPEN) t e f (same refl refl (λ a b. omega arith) (λ a b. omega arith))
  key_step (tagged c v h) z t a_close f e = absurd (none≢some refl e)
  key_step (tagged c v h) z t a_brace f e = absurd (none≢some refl e)
  key_step (tagged c v h) z t other f e = absurd (none≢some refl e)
  key_step (closed c v i h) z t (a_nonterminal n) f e = to (closed c v i h) (named (next_head (rule_read c none v i h) h n)) z (nonterminal n) t e f (ends h.earlier (rule_read c none v i h) refl (omega arith) refl refl refl refl (λ o k. record { nonterm_is = k.0.nonterm_is; tag_is = k.1.1.1; front_is = k.1.0; back_is = k.1.1.0 }))
  key_step (closed c v i h) z t (a_name u) f e = absurd (none≢some refl e)
  key_step (closed c v i h) z t a_definition f e = absurd (none≢some refl e)
  key_step (closed c v i h) z t an_open f e = absurd (none≢some refl e)
  key_step (closed c v i h) z t a_close f e = absurd (none≢some refl e)
  key_step (closed c v i h) z t a_brace f e = to (closed c v i h) (own_back list_start c v i h) z (sign BRACE) t e f (same refl refl (λ a b. omega arith) (λ a b. omega arith))
  key_step (closed c v i h) z t other f e = absurd (none≢some refl e)
  key_step (complete d h) z t (a_nonterminal n) f e = to (complete d h) (named (next_head d h n)) z (nonterminal n) t e f (ends h.earlier d refl (omega arith) refl refl refl refl (λ o k. record { nonterm_is = k.1.0; tag_is = k.1.1.1.1; front_is = k.1.1.0; back_is = k.1.1.1.0 }))
  key_step (complete d h) z t (a_name u) f e = absurd (none≢some refl e)
  key_step (complete d h) z t a_definition f e = absurd (none≢some refl e)
  key_step (complete d h) z t an_open f e = absurd (none≢some refl e)
  key_step (complete d h) z t a_close f e = absurd (none≢some refl e)
  key_step (complete d h) z t a_brace f e = absurd (none≢some refl e)
  key_step (complete d h) z t other f e = absurd (none≢some refl e)
  key_step (own_front q h) z t k f e = absurd (none≢some refl e)
  key_step (within x c v h) z t k f e = absurd (none≢some refl e)
  key_step (own_back q c v i h) z t k f e = absurd (none≢some refl e)

  front_step : (q : Listing) (h : Head) (z : Progress) (t : TextToken) (c : Option Listing) → step_statements first q t ≡ c
      → listing c (λ p. own_front p h) (unbraces (piece_of t) (value_of_list q) (λ p. wants_tag (some p) h)) ≡ some z → PastStep r (own_front q h) t z
  front_step q h z t (some p) s e = to (own_front q h) (own_front p h) z t t e refl (same refl refl (λ a b. omega arith) (λ a b. omega arith))
  front_step q h z t none s e =
      let u = unbraced t (value_of_list q) (λ p. wants_tag (some p) h) z e in
      to (own_front q h) (wants_tag (some u.program) h) z t t (ap some u.behind) refl (same refl refl (λ a b. omega arith) (λ a b. omega arith))

  no_nonterminal : (q p : Listing) (t : TextToken) → step_statements second q t ≡ some p → (n : ℕ) → t ≡ nonterminal n → ⊥
  no_nonterminal q p t s n h = none≢some (ap (step_statements second q) h ∙ no_step second q (nonterminal n) refl refl refl) s

  back_step : (q : Listing) (c : Option TextProgram) (n : List ℕ) (i : Option Tree) (h : Head) (z : Progress) (t : TextToken) (a : Option Listing) → step_statements second q t ≡ a
      → listing a (λ p. own_back p c n i h) (unbraces (piece_of t) (value_of_list q) (λ g. complete (rule_read c (some g) n i h) h)) ≡ some z → (token_kind t ≡ 0 → (m : ℕ) × (t ≡ nonterminal m)) → PastStep r (own_back q c n i h) t z
  back_step q c n i h z t (some p) s e k =
      to (own_back q c n i h) (own_back p c n i h) z t t e refl (same refl refl (λ a b. omega arith) (λ a b. let m = k a in no_nonterminal q p t s m.0 m.1))
  back_step q c n i h z t none s e k =
      let u = unbraced t (value_of_list q) (λ g. complete (rule_read c (some g) n i h) h) z e in
      to (own_back q c n i h) (complete (rule_read c (some u.program) n i h) h) z (sign UNBRACE) t (ap some u.behind) u.token_is (same refl refl (λ a b. omega arith) (λ a b. omega arith))

  closes_step : (x : Parsing) (c : Option TextProgram) (v : List ℕ) (h : Head) (z : Progress) (t : TextToken) (k : Key) (a : Option (Option Tree)) → closes_content k a c v h ≡ some z → PastStep r (within x c v h) t z
  closes_step x c v h z t (a_nonterminal n) a e = absurd (none≢some refl e)
  closes_step x c v h z t (a_name n) a e = absurd (none≢some refl e)
  closes_step x c v h z t a_definition a e = absurd (none≢some refl e)
  closes_step x c v h z t an_open a e = absurd (none≢some refl e)
  closes_step x c v h z t a_close none e = absurd (none≢some refl e)
  closes_step x c v h z t a_close (some i) e = let alike : closed c v i h ≡ z = cc in lays x c v i h refl (sym alike)
  closes_step x c v h z t a_brace a e = absurd (none≢some refl e)
  closes_step x c v h z t other a e = absurd (none≢some refl e)

  within_step : (x : Parsing) (c : Option TextProgram) (v : List ℕ) (h : Head) (z : Progress) (t : TextToken) (a : Option Parsing) → step_expression x t ≡ a
      → parsing a (closes_content (key_of t) (value_of_content x) c v h) c v h ≡ some z → PastStep r (within x c v h) t z
  within_step x c v h z t none s e = closes_step x c v h z t (key_of t) (value_of_content x) e
  within_step x c v h z t (some y) s e = to (within x c v h) (within y c v h) z t t e refl (same refl refl (λ a b. omega arith) (λ a b. omega arith))

  pub past_step : (s z : Progress) (t : TextToken) → (token_kind t ≡ 0 → (m : ℕ) × (t ≡ nonterminal m)) → step_rules s t ≡ some z → PastStep r s t z
  past_step beginning z t k e = key_step beginning z t (key_of t) (key_is t) e
  past_step (first_word n) z t k e = key_step (first_word n) z t (key_of t) (key_is t) e
  past_step (named h) z t k e = key_step (named h) z t (key_of t) (key_is t) e
  past_step (defined h) z t k e = key_step (defined h) z t (key_of t) (key_is t) e
  past_step (own_front q h) z t k e = front_step q h z t (step_statements first q t) refl e
  past_step (wants_tag f h) z t k e = key_step (wants_tag f h) z t (key_of t) (key_is t) e
  past_step (tagged f u h) z t k e = key_step (tagged f u h) z t (key_of t) (key_is t) e
  past_step (within x f u h) z t k e = within_step x f u h z t (step_expression x t) refl e
  past_step (closed f u i h) z t k e = key_step (closed f u i h) z t (key_of t) (key_is t) e
  past_step (own_back q f u i h) z t k e = back_step q f u i h z t (step_statements second q t) refl e k
  past_step (complete d h) z t k e = key_step (complete d h) z t (key_of t) (key_is t) e
