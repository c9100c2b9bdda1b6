-- From where a reader comes to stand within a tag's parentheses, and how it leaves them. Assumes nothing.
use mathlib.Core.Path.{◌≡◌, refl, sym, ◌∙◌, ap}
use mathlib.Core.Bool.{Bool, true, false}
use mathlib.Core.List.{List, []}
use mathlib.Core.Option.{Option, none, some}
use Prim.Native.Nat.{ℕ}
use native.Mathlib.Omega.{arith}
use Rattle.notation.specs.Program.{TextProgram}
use Rattle.notation.specs.Rules.{Tree}
use Rattle.notation.specs.Tokens.{TextToken}
use Rattle.programs.specs.Limits.{first, second}
use Rattle.reading.specs.Statements.{Listing, step_statements, value_of_list}
use Rattle.reading.specs.Expressions.{piece_of, unbraces, listing, fresh_expression, Parsing, wants, step_expression, value_of_content}
use Rattle.reading.specs.Rules.{Key, a_nonterminal, a_name, a_definition, an_open, a_close, a_brace, other, key_of, Head, Progress, beginning, first_word, named, defined, own_front, wants_tag, tagged, within, closed, own_back, complete, step_key, closes_content, parsing, step_rules, rule_read}
use Rattle.beds.proofs.Beds.{none_some, some_same}
use Rattle.mentions.proofs.Expressions.{unbraced}

abbrev is_inside : Progress → Bool
is_inside beginning = false
is_inside (first_word n) = false
is_inside (named h) = false
is_inside (defined h) = false
is_inside (own_front q h) = false
is_inside (wants_tag f h) = false
is_inside (tagged f t h) = false
is_inside (within x f t h) = true
is_inside (closed f t e h) = false
is_inside (own_back q f t e h) = false
is_inside (complete r h) = false

abbrev leads_inside : Option Progress → Bool
leads_inside none = false
leads_inside (some s) = is_inside s

-- a state that wants the tag's parenthesis
abbrev at_tag : Progress → Bool
at_tag beginning = false
at_tag (first_word n) = false
at_tag (named h) = false
at_tag (defined h) = false
at_tag (own_front q h) = false
at_tag (wants_tag f h) = false
at_tag (tagged f t h) = true
at_tag (within x f t h) = false
at_tag (closed f t e h) = false
at_tag (own_back q f t e h) = false
at_tag (complete r h) = false

-- no other leads into the parentheses
not_inside : (s : Progress) (k : Key) → (at_tag s ≡ true → ⊥) → leads_inside (step_key s k) ≡ false
not_inside beginning (a_nonterminal n) w = refl
not_inside beginning (a_name v) w = refl
not_inside beginning a_definition w = refl
not_inside beginning an_open w = refl
not_inside beginning a_close w = refl
not_inside beginning a_brace w = refl
not_inside beginning other w = refl
not_inside (first_word s) (a_nonterminal n) w = refl
not_inside (first_word s) (a_name v) w = refl
not_inside (first_word s) a_definition w = refl
not_inside (first_word s) an_open w = refl
not_inside (first_word s) a_close w = refl
not_inside (first_word s) a_brace w = refl
not_inside (first_word s) other w = refl
not_inside (named h₀) (a_nonterminal n) w = refl
not_inside (named h₀) (a_name v) w = refl
not_inside (named h₀) a_definition w = refl
not_inside (named h₀) an_open w = refl
not_inside (named h₀) a_close w = refl
not_inside (named h₀) a_brace w = refl
not_inside (named h₀) other w = refl
not_inside (defined h₀) (a_nonterminal n) w = refl
not_inside (defined h₀) (a_name v) w = refl
not_inside (defined h₀) a_definition w = refl
not_inside (defined h₀) an_open w = refl
not_inside (defined h₀) a_close w = refl
not_inside (defined h₀) a_brace w = refl
not_inside (defined h₀) other w = refl
not_inside (own_front q h₀) k w = refl
not_inside (wants_tag f₀ h₀) (a_nonterminal n) w = refl
not_inside (wants_tag f₀ h₀) (a_name v) w = refl
not_inside (wants_tag f₀ h₀) a_definition w = refl
not_inside (wants_tag f₀ h₀) an_open w = refl
not_inside (wants_tag f₀ h₀) a_close w = refl
not_inside (wants_tag f₀ h₀) a_brace w = refl
not_inside (wants_tag f₀ h₀) other w = refl
not_inside (within y f₀ u₀ h₀) k w = refl
not_inside (closed f₀ u₀ e h₀) (a_nonterminal n) w = refl
not_inside (closed f₀ u₀ e h₀) (a_name v) w = refl
not_inside (closed f₀ u₀ e h₀) a_definition w = refl
not_inside (closed f₀ u₀ e h₀) an_open w = refl
not_inside (closed f₀ u₀ e h₀) a_close w = refl
not_inside (closed f₀ u₀ e h₀) a_brace w = refl
not_inside (closed f₀ u₀ e h₀) other w = refl
not_inside (own_back q f₀ u₀ e h₀) k w = refl
not_inside (complete d h₀) (a_nonterminal n) w = refl
not_inside (complete d h₀) (a_name v) w = refl
not_inside (complete d h₀) a_definition w = refl
not_inside (complete d h₀) an_open w = refl
not_inside (complete d h₀) a_close w = refl
not_inside (complete d h₀) a_brace w = refl
not_inside (complete d h₀) other w = refl
not_inside (tagged f₀ u₀ h₀) k w = absurd (w refl)

pub true_false : {B : Type 0} → true ≡ false → B
true_false e = absurd (let z : ◌≡◌ {A = ℕ} 0 1 = cc in omega arith)

pub data CameFrom (t : TextToken) (x' : Parsing) (f : Option TextProgram) (u : List ℕ) (h : Head) (s : Progress) : Type 0 where
  from_tag : s ≡ tagged f u h → wants true fresh_expression [] ≡ x' → CameFrom t x' f u h s
  from_inside : (x : Parsing) → s ≡ within x f u h → step_expression x t ≡ some x' → CameFrom t x' f u h s

module _ (t : TextToken) (x' : Parsing) (f : Option TextProgram) (u : List ℕ) (h : Head) where
  abbrev There : Progress
  There = within x' f u h

  by_key : (s : Progress) → (at_tag s ≡ true → ⊥) → step_key s (key_of t) ≡ some There → CameFrom t x' f u h s
  by_key s w e = true_false (sym (ap leads_inside e) ∙ not_inside s (key_of t) w)

  by_list : {s : Progress} (o : Option Listing) (hold : Listing → Progress) (v : Option TextProgram) (g : TextProgram → Progress) → listing o hold (unbraces (piece_of t) v g) ≡ some There
      → ((q : Listing) → is_inside (hold q) ≡ false) → ((p : TextProgram) → is_inside (g p) ≡ false) → CameFrom t x' f u h s
  by_list none hold v g e a b = let z = unbraced t v g There e in true_false (sym (ap is_inside z.behind) ∙ b z.program)
  by_list (some q) hold v g e a b = true_false (sym (ap is_inside (some_same e)) ∙ a q)

  opened_tag : (f₀ : Option TextProgram) (u₀ : List ℕ) (h₀ : Head) (k : Key) → step_key (tagged f₀ u₀ h₀) k ≡ some There → CameFrom t x' f u h (tagged f₀ u₀ h₀)
  opened_tag f₀ u₀ h₀ (a_nonterminal n) e = none_some e
  opened_tag f₀ u₀ h₀ (a_name v) e = none_some e
  opened_tag f₀ u₀ h₀ a_definition e = none_some e
  opened_tag f₀ u₀ h₀ an_open e =
      let a : f₀ ≡ f = cc in
      let b : u₀ ≡ u = cc in
      let c : h₀ ≡ h = cc in
      from_tag (cc) (cc)
  opened_tag f₀ u₀ h₀ a_close e = none_some e
  opened_tag f₀ u₀ h₀ a_brace e = none_some e
  opened_tag f₀ u₀ h₀ other e = none_some e

  closes_out : (k : Key) (o : Option (Option Tree)) (f₀ : Option TextProgram) (u₀ : List ℕ) (h₀ : Head) → leads_inside (closes_content k o f₀ u₀ h₀) ≡ false
  closes_out (a_nonterminal n) o f₀ u₀ h₀ = refl
  closes_out (a_name v) o f₀ u₀ h₀ = refl
  closes_out a_definition o f₀ u₀ h₀ = refl
  closes_out an_open o f₀ u₀ h₀ = refl
  closes_out a_close none f₀ u₀ h₀ = refl
  closes_out a_close (some e) f₀ u₀ h₀ = refl
  closes_out a_brace o f₀ u₀ h₀ = refl
  closes_out other o f₀ u₀ h₀ = refl

  goes_inside : (x : Parsing) (f₀ : Option TextProgram) (u₀ : List ℕ) (h₀ : Head) (o : Option Parsing) → step_expression x t ≡ o → parsing o (closes_content (key_of t) (value_of_content x) f₀ u₀ h₀) f₀ u₀ h₀ ≡ some There
      → CameFrom t x' f u h (within x f₀ u₀ h₀)
  goes_inside x f₀ u₀ h₀ none s e = true_false (sym (ap leads_inside e) ∙ closes_out (key_of t) (value_of_content x) f₀ u₀ h₀)
  goes_inside x f₀ u₀ h₀ (some y) s e =
      let a : f₀ ≡ f = cc in
      let b : u₀ ≡ u = cc in
      let c : h₀ ≡ h = cc in
      let d : y ≡ x' = cc in
      from_inside x (cc) (s ∙ ap some d)

  pub came_from : (s : Progress) → step_rules s t ≡ some There → CameFrom t x' f u h s
  came_from beginning e = by_key beginning (λ w. true_false (sym w)) e
  came_from (first_word n) e = by_key (first_word n) (λ w. true_false (sym w)) e
  came_from (named h₀) e = by_key (named h₀) (λ w. true_false (sym w)) e
  came_from (defined h₀) e = by_key (defined h₀) (λ w. true_false (sym w)) e
  came_from (own_front q h₀) e = by_list (step_statements first q t) (λ r. own_front r h₀) (value_of_list q) (λ p. wants_tag (some p) h₀) e (λ r. refl) (λ p. refl)
  came_from (wants_tag f₀ h₀) e = by_key (wants_tag f₀ h₀) (λ w. true_false (sym w)) e
  came_from (tagged f₀ u₀ h₀) e = opened_tag f₀ u₀ h₀ (key_of t) e
  came_from (within x f₀ u₀ h₀) e = goes_inside x f₀ u₀ h₀ (step_expression x t) refl e
  came_from (closed f₀ u₀ e₀ h₀) e = by_key (closed f₀ u₀ e₀ h₀) (λ w. true_false (sym w)) e
  came_from (own_back q f₀ u₀ e₀ h₀) e =
      by_list (step_statements second q t) (λ r. own_back r f₀ u₀ e₀ h₀) (value_of_list q) (λ p. complete (rule_read f₀ (some p) u₀ e₀ h₀) h₀) e (λ r. refl) (λ p. refl)
  came_from (complete d h₀) e = by_key (complete d h₀) (λ w. true_false (sym w)) e

-- out of the parentheses: what stood between them
module _ (t : TextToken) (x : Parsing) (f f' : Option TextProgram) (u u' : List ℕ) (h h' : Head) (e : Option Tree) where
  closes_value : (k : Key) (o : Option (Option Tree)) → closes_content k o f u h ≡ some (closed f' u' e h') → o ≡ some e
  closes_value (a_nonterminal n) o s = none_some s
  closes_value (a_name v) o s = none_some s
  closes_value a_definition o s = none_some s
  closes_value an_open o s = none_some s
  closes_value a_close none s = none_some s
  closes_value a_close (some c) s = let z : c ≡ e = cc in ap some z
  closes_value a_brace o s = none_some s
  closes_value other o s = none_some s

  closing_value : (o : Option Parsing) → parsing o (closes_content (key_of t) (value_of_content x) f u h) f u h ≡ some (closed f' u' e h') → value_of_content x ≡ some e
  closing_value none s = closes_value (key_of t) (value_of_content x) s
  closing_value (some y) s = true_false (ap leads_inside s)

  pub content_is : step_rules (within x f u h) t ≡ some (closed f' u' e h') → value_of_content x ≡ some e
  content_is s = closing_value (step_expression x t) s
