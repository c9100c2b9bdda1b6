-- What the machine of rules has read: its productions are those of the tokens so far. Assumes nothing.
use mathlib.Core.Path.{◌≡◌, refl, sym, ◌∙◌, ap, subst}
use mathlib.Core.Bool.{true}
use mathlib.Core.Option.{Option, none, some}
use mathlib.Core.List.{List, [], ◌∷◌, ◌++◌, append_assoc, append-nil}
use Prim.Native.Nat.{ℕ, ◌<◌}
use native.Mathlib.Omega.{arith}
use Rattle.expressions.specs.Grammar.{nonterminals}
use Rattle.programs.specs.Limits.{first, second}
use Rattle.notation.specs.Program.{TextProgram}
use Rattle.notation.specs.Rules.{Tree, TextRule, Rules}
use Rattle.notation.specs.Tokens.{TextToken, nonterminal, value, attribute, name, start_tag, end_tag, empty_tag, string, word, sign, Sign, DEFINED, ASSIGNED, OPEN, CLOSE, BRACE, UNBRACE, DOT, BAR, STAR, SEMICOLON, EQUALS, TagName}
use Rattle.notation.specs.Statements.{ListIs, BracesAre, absent, braces}
use Rattle.notation.specs.Productions.{ContentIs, nothing, RuleIs, production, ProductionsAre, one, more, RulesAre, start_alone, start_first}
use Rattle.reading.specs.Tests.{tag_name?}
use Rattle.reading.specs.Statements.{Listing, list_start, step_statements, value_of_list, finished_list}
use Rattle.reading.specs.Expressions.{ExpressionPart, a_leaf, a_star, a_dot, a_bar, an_unbrace, Parsing, nonterminal?, piece_of, unbraces, listing, step_expression, value_of_content, finished_content}
use Rattle.reading.specs.Rules.{Key, a_nonterminal, a_name, a_definition, an_open, a_close, a_brace, other, key_if, sign_key, key_of, Head, head, Progress, beginning, first_word, named, defined, own_front, wants_tag, tagged, within, closed, own_back, complete, rule_read, rules_read, next_head, step_key, closes_content, parsing, step_rules, value_of_rules, plain_rule, finished_rules}
use Rattle.reading.proofs.Telling.{none≢some, IfSome}
use Rattle.reading.proofs.StatementHeld.{Held as ListHeld, HeldIf as ListHeldIf, held_step as list_held_step, held_start as list_held_start, held_value as list_held_value, held_shortest as list_held_shortest, a_is_a_name}
use Rattle.reading.proofs.ExpressionHeld.{PieceIs, piece_is, Held as ContentHeld, HeldIf as ContentHeldIf, held_step as content_held_step, held_start as content_held_start, held_value as content_held_value, held_shortest as content_held_shortest}

abbrev pub KeyIs : TextToken → Key → Type 0
KeyIs t (a_nonterminal n) = (t ≡ nonterminal n) × (n < nonterminals)
KeyIs t (a_name n) = (t ≡ name n) × TagName n
KeyIs t a_definition = t ≡ sign DEFINED
KeyIs t an_open = t ≡ sign OPEN
KeyIs t a_close = t ≡ sign CLOSE
KeyIs t a_brace = t ≡ sign BRACE
KeyIs t other = Unit {0}

nonterminal_key : (n : ℕ) (d : Dec (n < nonterminals)) → KeyIs (nonterminal n) (key_if d (a_nonterminal n))
nonterminal_key n (yes h) = (refl, h)
nonterminal_key n (no h) = tt

name_key : (n : List ℕ) (d : Dec (TagName n)) → KeyIs (name n) (key_if d (a_name n))
name_key n (yes h) = (refl, h)
name_key n (no h) = tt

sign_key_lem : (s : Sign) → KeyIs (sign s) (sign_key s)
sign_key_lem DEFINED = refl
sign_key_lem ASSIGNED = tt
sign_key_lem OPEN = refl
sign_key_lem CLOSE = refl
sign_key_lem BRACE = refl
sign_key_lem UNBRACE = tt
sign_key_lem DOT = tt
sign_key_lem BAR = tt
sign_key_lem STAR = tt
sign_key_lem SEMICOLON = tt
sign_key_lem EQUALS = tt

pub key_is : (t : TextToken) → KeyIs t (key_of t)
key_is (nonterminal n) = nonterminal_key n (nonterminal? n)
key_is (value n) = tt
key_is (attribute m a) = tt
key_is (name n) = name_key n (tag_name? n)
key_is (start_tag n) = tt
key_is (end_tag n) = tt
key_is (empty_tag n) = tt
key_is (string cs) = tt
key_is (word w) = tt
key_is (sign s) = sign_key_lem s

-- the tokens before a production of nonterminal n
abbrev pub BeforeHeld : ℕ → List TextRule → ℕ → List TextToken → Type 0
BeforeHeld start earlier n us = (ws : List TextToken) (r : TextRule) (rs : List TextRule) → ProductionsAre ws (r ∷ rs) → r.nonterminal ≡ n → RulesAre (us ++ ws) (record { start = start; productions = earlier ++ r ∷ rs })

pub record Slot (h : Head) (ts tail : List TextToken) : Type 0 where
  pub befores : List TextToken
  pub before_held : BeforeHeld h.start h.earlier h.nonterm befores
  pub numbered : h.nonterm < nonterminals
  pub are : ts ≡ befores ++ nonterminal h.nonterm ∷ sign DEFINED ∷ tail

abbrev pub Tagged : Option TextProgram → List ℕ → List TextToken → Type 0
Tagged f t fs = BracesAre first fs f × TagName t

abbrev pub Held : Progress → List TextToken → Type 0
Held beginning ts = ts ≡ []
Held (first_word n) ts = (n < nonterminals) × (ts ≡ nonterminal n ∷ [])
Held (named h) ts = (us : List TextToken) × BeforeHeld h.start h.earlier h.nonterm us × (h.nonterm < nonterminals) × (ts ≡ us ++ nonterminal h.nonterm ∷ [])
Held (defined h) ts = Slot h ts []
Held (own_front q h) ts = (xs : List TextToken) × ListHeld first q xs × Slot h ts (sign BRACE ∷ xs)
Held (wants_tag f h) ts = (fs : List TextToken) × BracesAre first fs f × Slot h ts fs
Held (tagged f t h) ts = (fs : List TextToken) × Tagged f t fs × Slot h ts (fs ++ name t ∷ [])
Held (within x f t h) ts = (fs xs : List TextToken) × Tagged f t fs × ContentHeld x xs × Slot h ts (fs ++ name t ∷ sign OPEN ∷ xs)
Held (closed f t e h) ts = (fs xs : List TextToken) × Tagged f t fs × ContentIs xs e × Slot h ts (fs ++ name t ∷ sign OPEN ∷ (xs ++ sign CLOSE ∷ []))
Held (own_back q f t e h) ts = (fs xs ys : List TextToken) × Tagged f t fs × ContentIs xs e × ListHeld second q ys × Slot h ts (fs ++ name t ∷ sign OPEN ∷ (xs ++ sign CLOSE ∷ sign BRACE ∷ ys))
Held (complete r h) ts = (ws : List TextToken) × RuleIs (nonterminal h.nonterm ∷ sign DEFINED ∷ ws) r × (r.nonterminal ≡ h.nonterm) × Slot h ts ws

abbrev pub HeldIf : Option Progress → List TextToken → Type 0
HeldIf o ts = IfSome (λ s. Held s ts) o

longer : {h : Head} {ts tail : List TextToken} (extra : List TextToken) (whole : List TextToken) → tail ++ extra ≡ whole → Slot h ts tail → Slot h (ts ++ extra) whole
longer {h} {ts} {tail} extra whole e s = record {
  befores = s.befores;
  before_held = s.before_held;
  numbered = s.numbered;
  are = ap (λ w. w ++ extra) s.are ∙ append_assoc s.befores (nonterminal h.nonterm ∷ sign DEFINED ∷ tail) extra ∙ ap (λ w. s.befores ++ nonterminal h.nonterm ∷ sign DEFINED ∷ w) e;
}

-- a production that is whole
production_held : (f g : Option TextProgram) (t : List ℕ) (e : Option Tree) (h : Head) (fs xs gs : List TextToken) → Tagged f t fs → ContentIs xs e → BracesAre second gs g → h.nonterm < nonterminals
    → RuleIs (nonterminal h.nonterm ∷ sign DEFINED ∷ (fs ++ name t ∷ sign OPEN ∷ (xs ++ sign CLOSE ∷ gs))) (rule_read f g t e h)
production_held f g t e h fs xs gs (b, n) c b' i = production i b n c b'

rules_held : (r : TextRule) (h : Head) (ts ws : List TextToken) → RuleIs (nonterminal h.nonterm ∷ sign DEFINED ∷ ws) r → r.nonterminal ≡ h.nonterm → Slot h ts ws → RulesAre ts (rules_read r h)
rules_held r h ts ws p e s = rw s.are (s.before_held (nonterminal h.nonterm ∷ sign DEFINED ∷ ws) r [] (one p) e)

next_held : (r : TextRule) (h : Head) (n : ℕ) (ts ws : List TextToken) → n < nonterminals → RuleIs (nonterminal h.nonterm ∷ sign DEFINED ∷ ws) r → r.nonterminal ≡ h.nonterm → Slot h ts ws → Held (named (next_head r h n)) (ts ++ nonterminal n ∷ [])
next_held r h n ts ws i p e s = (
  ts,
  (λ us q qs ps k.
      subst (λ x. RulesAre (ts ++ us) (record { start = h.start; productions = x })) (sym (append_assoc h.earlier (r ∷ []) (q ∷ qs)))
      (subst (λ x. RulesAre x (record { start = h.start; productions = h.earlier ++ r ∷ q ∷ qs }))
      (sym (ap (λ w. w ++ us) s.are ∙ append_assoc s.befores (nonterminal h.nonterm ∷ sign DEFINED ∷ ws) us))
      (s.before_held (nonterminal h.nonterm ∷ sign DEFINED ∷ (ws ++ us)) r (q ∷ qs) (more p ps) e))),
  i,
  refl,
)

key_held : (s : Progress) (k : Key) (t : TextToken) (ts : List TextToken) → KeyIs t k → Held s ts → HeldIf (step_key s k) (ts ++ t ∷ [])
key_held beginning (a_nonterminal n) t ts i h = (i.1, ap (λ w. w ++ t ∷ []) h ∙ ap (λ w. w ∷ []) i.0)
key_held beginning (a_name u) t ts i h = tt
key_held beginning a_definition t ts i h = tt
key_held beginning an_open t ts i h = tt
key_held beginning a_close t ts i h = tt
key_held beginning a_brace t ts i h = tt
key_held beginning other t ts i h = tt
key_held (first_word s) (a_nonterminal n) t ts i (j, e) =
    (nonterminal s ∷ [], (λ ws r rs ps k. start_alone j ps), i.1, ap (λ w. w ++ t ∷ []) e ∙ ap (λ w. nonterminal s ∷ w ∷ []) i.0)
key_held (first_word s) (a_name u) t ts i h = tt
key_held (first_word s) a_definition t ts i (j, e) = record {
  befores = [];
  before_held = λ ws r rs ps k. subst (λ x. RulesAre ws (record { start = x; productions = r ∷ rs })) k (start_first ps);
  numbered = j;
  are = ap (λ w. w ++ t ∷ []) e ∙ ap (λ w. nonterminal s ∷ w ∷ []) i;
}
key_held (first_word s) an_open t ts i h = tt
key_held (first_word s) a_close t ts i h = tt
key_held (first_word s) a_brace t ts i h = tt
key_held (first_word s) other t ts i h = tt
key_held (named h) (a_nonterminal n) t ts i s = tt
key_held (named h) (a_name u) t ts i s = tt
key_held (named h) a_definition t ts i (us, b, j, e) = record {
  befores = us;
  before_held = b;
  numbered = j;
  are = ap (λ w. w ++ t ∷ []) e ∙ append_assoc us (nonterminal h.nonterm ∷ []) (t ∷ []) ∙ ap (λ w. us ++ nonterminal h.nonterm ∷ w ∷ []) i;
}
key_held (named h) an_open t ts i s = tt
key_held (named h) a_close t ts i s = tt
key_held (named h) a_brace t ts i s = tt
key_held (named h) other t ts i s = tt
key_held (defined h) (a_nonterminal n) t ts i s = tt
key_held (defined h) (a_name u) t ts i s = rw i.0 ([], (absent, i.1), longer (name u ∷ []) (name u ∷ []) refl s)
key_held (defined h) a_definition t ts i s = tt
key_held (defined h) an_open t ts i s = tt
key_held (defined h) a_close t ts i s = tt
key_held (defined h) a_brace t ts i s = rw i ([], list_held_start first, longer (sign BRACE ∷ []) (sign BRACE ∷ []) refl s)
key_held (defined h) other t ts i s = tt
key_held (own_front q h) k t ts i s = tt
key_held (wants_tag f h) (a_nonterminal n) t ts i s = tt
key_held (wants_tag f h) (a_name u) t ts i (fs, b, s) = rw i.0 (fs, (b, i.1), longer (name u ∷ []) (fs ++ name u ∷ []) refl s)
key_held (wants_tag f h) a_definition t ts i s = tt
key_held (wants_tag f h) an_open t ts i s = tt
key_held (wants_tag f h) a_close t ts i s = tt
key_held (wants_tag f h) a_brace t ts i s = tt
key_held (wants_tag f h) other t ts i s = tt
key_held (tagged f u h) (a_nonterminal n) t ts i s = tt
key_held (tagged f u h) (a_name w) t ts i s = tt
key_held (tagged f u h) a_definition t ts i s = tt
key_held (tagged f u h) an_open t ts i (fs, b, s) = rw i (fs, [], b, content_held_start, longer (sign OPEN ∷ []) (fs ++ name u ∷ sign OPEN ∷ []) (append_assoc fs (name u ∷ []) (sign OPEN ∷ [])) s)
key_held (tagged f u h) a_close t ts i s = tt
key_held (tagged f u h) a_brace t ts i s = tt
key_held (tagged f u h) other t ts i s = tt
key_held (within x f u h) k t ts i s = tt
key_held (closed f u e h) (a_nonterminal n) t ts i (fs, xs, b, c, s) =
    rw i.0 (next_held (rule_read f none u e h) h n ts (fs ++ name u ∷ sign OPEN ∷ (xs ++ sign CLOSE ∷ [])) i.1 (production_held f none u e h fs xs [] b c absent s.numbered) refl s)
key_held (closed f u e h) (a_name w) t ts i s = tt
key_held (closed f u e h) a_definition t ts i s = tt
key_held (closed f u e h) an_open t ts i s = tt
key_held (closed f u e h) a_close t ts i s = tt
key_held (closed f u e h) a_brace t ts i (fs, xs, b, c, s) =
    rw i (fs, xs, [], b, c, list_held_start second, longer (sign BRACE ∷ []) (fs ++ name u ∷ sign OPEN ∷ (xs ++ sign CLOSE ∷ sign BRACE ∷ [])) (simp append_assoc) s)
key_held (closed f u e h) other t ts i s = tt
key_held (own_back q f u e h) k t ts i s = tt
key_held (complete r h) (a_nonterminal n) t ts i (ws, p, e, s) = rw i.0 (next_held r h n ts ws i.1 p e s)
key_held (complete r h) (a_name w) t ts i s = tt
key_held (complete r h) a_definition t ts i s = tt
key_held (complete r h) an_open t ts i s = tt
key_held (complete r h) a_close t ts i s = tt
key_held (complete r h) a_brace t ts i s = tt
key_held (complete r h) other t ts i s = tt

-- inside a program: it goes on, or ends with }
module _ (holds : Listing → Progress) (ended : TextProgram → Progress) (t : TextToken) (ts : List TextToken) where
  unbrace_held : (k : ExpressionPart) (o : Option TextProgram) → PieceIs t k → ((p : TextProgram) → t ≡ sign UNBRACE → o ≡ some p → Held (ended p) (ts ++ t ∷ [])) → HeldIf (unbraces k o ended) (ts ++ t ∷ [])
  unbrace_held (a_leaf k) o i h = tt
  unbrace_held a_star o i h = tt
  unbrace_held a_dot o i h = tt
  unbrace_held a_bar o i h = tt
  unbrace_held ExpressionPart.an_open o i h = tt
  unbrace_held ExpressionPart.a_close o i h = tt
  unbrace_held ExpressionPart.a_brace o i h = tt
  unbrace_held an_unbrace none i h = tt
  unbrace_held an_unbrace (some p) i h = h p i refl
  unbrace_held ExpressionPart.other o i h = tt

  listing_held : (o : Option Listing) (x : Option Progress) → ((r : Listing) → o ≡ some r → Held (holds r) (ts ++ t ∷ [])) → HeldIf x (ts ++ t ∷ []) → HeldIf (listing o holds x) (ts ++ t ∷ [])
  listing_held none x h k = k
  listing_held (some r) x h k = h r refl

closes_held : (k : Key) (o : Option (Option Tree)) (f : Option TextProgram) (u : List ℕ) (h : Head) (t : TextToken) (ts : List TextToken) → KeyIs t k → ((e : Option Tree) → t ≡ sign CLOSE → o ≡ some e → Held (closed f u e h) (ts ++ t ∷ []))
    → HeldIf (closes_content k o f u h) (ts ++ t ∷ [])
closes_held (a_nonterminal n) o f u h t ts i s = tt
closes_held (a_name w) o f u h t ts i s = tt
closes_held a_definition o f u h t ts i s = tt
closes_held an_open o f u h t ts i s = tt
closes_held a_close none f u h t ts i s = tt
closes_held a_close (some e) f u h t ts i s = s e i refl
closes_held a_brace o f u h t ts i s = tt
closes_held other o f u h t ts i s = tt

parsing_held : (o : Option Parsing) (x : Option Progress) (f : Option TextProgram) (u : List ℕ) (h : Head) (t : TextToken) (ts : List TextToken) → ((y : Parsing) → o ≡ some y → Held (within y f u h) (ts ++ t ∷ [])) → HeldIf x (ts ++ t ∷ [])
    → HeldIf (parsing o x f u h) (ts ++ t ∷ [])
parsing_held none x f u h t ts s k = k
parsing_held (some y) x f u h t ts s k = s y refl

pub held_step : (s : Progress) (t : TextToken) (ts : List TextToken) → Held s ts → HeldIf (step_rules s t) (ts ++ t ∷ [])
held_step beginning t ts h = key_held beginning (key_of t) t ts (key_is t) h
held_step (first_word n) t ts h = key_held (first_word n) (key_of t) t ts (key_is t) h
held_step (named h) t ts s = key_held (named h) (key_of t) t ts (key_is t) s
held_step (defined h) t ts s = key_held (defined h) (key_of t) t ts (key_is t) s
held_step (own_front q h) t ts (xs, l, s) =
    listing_held (λ r. own_front r h) (λ p. wants_tag (some p) h) t ts (step_statements first q t) (unbraces (piece_of t) (value_of_list q) (λ p. wants_tag (some p) h))
    (λ r e. (xs ++ t ∷ [], subst (λ o. ListHeldIf first o (xs ++ t ∷ [])) e (list_held_step first q t xs l), longer (t ∷ []) (sign BRACE ∷ (xs ++ t ∷ [])) refl s))
    (unbrace_held (λ r. own_front r h) (λ p. wants_tag (some p) h) t ts (piece_of t) (value_of_list q) (piece_is t)
    (λ p i e. (sign BRACE ∷ (xs ++ sign UNBRACE ∷ []), braces (list_held_value first q xs p l e), longer (t ∷ []) (sign BRACE ∷ (xs ++ sign UNBRACE ∷ [])) (ap (λ w. sign BRACE ∷ (xs ++ w ∷ [])) i) s)))
held_step (wants_tag f h) t ts s = key_held (wants_tag f h) (key_of t) t ts (key_is t) s
held_step (tagged f u h) t ts s = key_held (tagged f u h) (key_of t) t ts (key_is t) s
held_step (within x f u h) t ts (fs, xs, b, c, s) =
    parsing_held (step_expression x t) (closes_content (key_of t) (value_of_content x) f u h) f u h t ts
    (λ y e. (fs, xs ++ t ∷ [], b, subst (λ o. ContentHeldIf o (xs ++ t ∷ [])) e (content_held_step x t xs c), longer (t ∷ []) (fs ++ name u ∷ sign OPEN ∷ (xs ++ t ∷ [])) (append_assoc fs (name u ∷ sign OPEN ∷ xs) (t ∷ [])) s))
    (closes_held (key_of t) (value_of_content x) f u h t ts (key_is t)
    (λ e i j. (fs, xs, b, content_held_value x xs e c j, longer (t ∷ []) (fs ++ name u ∷ sign OPEN ∷ (xs ++ sign CLOSE ∷ [])) (append_assoc fs (name u ∷ sign OPEN ∷ xs) (t ∷ []) ∙ ap (λ w. fs ++ name u ∷ sign OPEN ∷ (xs ++ w ∷ [])) i) s)))
held_step (closed f u e h) t ts s = key_held (closed f u e h) (key_of t) t ts (key_is t) s
held_step (own_back q f u e h) t ts (fs, xs, ys, b, c, l, s) =
    listing_held (λ r. own_back r f u e h) (λ p. complete (rule_read f (some p) u e h) h) t ts (step_statements second q t) (unbraces (piece_of t) (value_of_list q) (λ p. complete (rule_read f (some p) u e h) h))
    (λ r i. (fs, xs, ys ++ t ∷ [], b, c, subst (λ o. ListHeldIf second o (ys ++ t ∷ [])) i (list_held_step second q t ys l), longer (t ∷ []) (fs ++ name u ∷ sign OPEN ∷ (xs ++ sign CLOSE ∷ sign BRACE ∷ (ys ++ t ∷ []))) (simp append_assoc) s))
    (unbrace_held (λ r. own_back r f u e h) (λ p. complete (rule_read f (some p) u e h) h) t ts (piece_of t) (value_of_list q) (piece_is t)
    (λ p i j. (
      fs ++ name u ∷ sign OPEN ∷ (xs ++ sign CLOSE ∷ sign BRACE ∷ (ys ++ sign UNBRACE ∷ [])),
      production_held f (some p) u e h fs xs (sign BRACE ∷ (ys ++ sign UNBRACE ∷ [])) b c (braces (list_held_value second q ys p l j)) s.numbered,
      refl,
      longer (t ∷ []) (fs ++ name u ∷ sign OPEN ∷ (xs ++ sign CLOSE ∷ sign BRACE ∷ (ys ++ sign UNBRACE ∷ []))) (rw i (simp append_assoc)) s,
    )))
held_step (complete r h) t ts s = key_held (complete r h) (key_of t) t ts (key_is t) s

pub held_value : (s : Progress) (ts : List TextToken) (v : Rules) → Held s ts → value_of_rules s ≡ some v → RulesAre ts v
held_value beginning ts v h e = absurd (none≢some refl e)
held_value (first_word n) ts v h e = absurd (none≢some refl e)
held_value (named h) ts v s e = absurd (none≢some refl e)
held_value (defined h) ts v s e = absurd (none≢some refl e)
held_value (own_front q h) ts v s e = absurd (none≢some refl e)
held_value (wants_tag f h) ts v s e = absurd (none≢some refl e)
held_value (tagged f u h) ts v s e = absurd (none≢some refl e)
held_value (within x f u h) ts v s e = absurd (none≢some refl e)
held_value (closed f u x h) ts v (fs, xs, b, c, s) e =
    let same : rules_read (rule_read f none u x h) h ≡ v = cc in
    subst (RulesAre ts) same (rules_held (rule_read f none u x h) h ts (fs ++ name u ∷ sign OPEN ∷ (xs ++ sign CLOSE ∷ [])) (production_held f none u x h fs xs [] b c absent s.numbered) refl s)
held_value (own_back q f u x h) ts v s e = absurd (none≢some refl e)
held_value (complete r h) ts v (ws, p, i, s) e = let same : rules_read r h ≡ v = cc in subst (RulesAre ts) same (rules_held r h ts ws p i s)

-- the rest of a production, in its shortest form
finishing : (r : TextRule) (h : Head) (ts tail extra : List TextToken) → RuleIs (nonterminal h.nonterm ∷ sign DEFINED ∷ (tail ++ extra)) r → r.nonterminal ≡ h.nonterm → Slot h ts tail → (rest : List TextToken) × RulesAre (ts ++ rest) (rules_read r h)
finishing r h ts tail extra p e s = (extra, rules_held r h (ts ++ extra) (tail ++ extra) p e (longer extra (tail ++ extra) refl s))

abbrev plain : List TextToken
plain = name (97 ∷ []) ∷ sign OPEN ∷ sign CLOSE ∷ []

plain_production : (f : Option TextProgram) (h : Head) (fs : List TextToken) → BracesAre first fs f → h.nonterm < nonterminals → RuleIs (nonterminal h.nonterm ∷ sign DEFINED ∷ (fs ++ plain)) (plain_rule f h)
plain_production f h fs b i = production_held f none (97 ∷ []) none h fs [] [] (b, a_is_a_name) nothing absent i

start_slot : (n : ℕ) → n < nonterminals → Slot (head n [] n) (nonterminal n ∷ sign DEFINED ∷ []) []
start_slot n i = record { befores = []; before_held = λ ws r rs ps k. subst (λ x. RulesAre ws (record { start = x; productions = r ∷ rs })) k (start_first ps); numbered = i; are = refl }

named_slot : (h : Head) (ts : List TextToken) → Held (named h) ts → Slot h (ts ++ sign DEFINED ∷ []) []
named_slot h ts (us, b, j, e) = record {
  befores = us;
  before_held = b;
  numbered = j;
  are = ap (λ w. w ++ sign DEFINED ∷ []) e ∙ append_assoc us (nonterminal h.nonterm ∷ []) (sign DEFINED ∷ []);
}

plain_rest : (f : Option TextProgram) (h : Head) (ts fs : List TextToken) → BracesAre first fs f → Slot h ts fs → (rest : List TextToken) × RulesAre (ts ++ rest) (rules_read (plain_rule f h) h)
plain_rest f h ts fs b s = finishing (plain_rule f h) h ts fs plain (plain_production f h fs b s.numbered) refl s

pub held_shortest : (s : Progress) (ts : List TextToken) → Held s ts → (rest : List TextToken) × RulesAre (ts ++ rest) (finished_rules s)
held_shortest beginning ts h =
    let r = plain_rest none (head 0 [] 0) (nonterminal 0 ∷ sign DEFINED ∷ []) [] absent (start_slot 0 (omega arith)) in
    (nonterminal 0 ∷ sign DEFINED ∷ r.0, rw h r.1)
held_shortest (first_word n) ts (i, e) =
    let r = plain_rest none (head n [] n) (nonterminal n ∷ sign DEFINED ∷ []) [] absent (start_slot n i) in
    (sign DEFINED ∷ r.0, rw e r.1)
held_shortest (named h) ts s =
    let r = plain_rest none h (ts ++ sign DEFINED ∷ []) [] absent (named_slot h ts s) in
    (sign DEFINED ∷ r.0, rw append_assoc at r.1)
held_shortest (defined h) ts s = plain_rest none h ts [] absent s
held_shortest (own_front q h) ts (xs, l, s) =
    let p = list_held_shortest first q xs l in
    finishing (plain_rule (some (finished_list q)) h) h ts (sign BRACE ∷ xs) (p.0 ++ sign UNBRACE ∷ plain)
    (subst (λ w. RuleIs (nonterminal h.nonterm ∷ sign DEFINED ∷ w) (plain_rule (some (finished_list q)) h)) (simp append_assoc)
    (plain_production (some (finished_list q)) h (sign BRACE ∷ ((xs ++ p.0) ++ sign UNBRACE ∷ [])) (braces p.1) s.numbered)) refl s
held_shortest (wants_tag f h) ts (fs, b, s) = plain_rest f h ts fs b s
held_shortest (tagged f u h) ts (fs, b, s) =
    finishing (rule_read f none u none h) h ts (fs ++ name u ∷ []) (sign OPEN ∷ sign CLOSE ∷ [])
    (subst (λ w. RuleIs (nonterminal h.nonterm ∷ sign DEFINED ∷ w) (rule_read f none u none h)) (sym (append_assoc fs (name u ∷ []) (sign OPEN ∷ sign CLOSE ∷ [])))
    (production_held f none u none h fs [] [] b nothing absent s.numbered)) refl s
held_shortest (within x f u h) ts (fs, xs, b, c, s) =
    let p = content_held_shortest x xs c in
    finishing (rule_read f none u (finished_content x) h) h ts (fs ++ name u ∷ sign OPEN ∷ xs) (p.0 ++ sign CLOSE ∷ [])
    (subst (λ w. RuleIs (nonterminal h.nonterm ∷ sign DEFINED ∷ w) (rule_read f none u (finished_content x) h)) (simp append_assoc)
    (production_held f none u (finished_content x) h fs (xs ++ p.0) [] b p.1 absent s.numbered)) refl s
held_shortest (closed f u x h) ts (fs, xs, b, c, s) =
    ([], subst (λ w. RulesAre w (rules_read (rule_read f none u x h) h)) (sym (append-nil ts)) (rules_held (rule_read f none u x h) h ts (fs ++ name u ∷ sign OPEN ∷ (xs ++ sign CLOSE ∷ [])) (production_held f none u x h fs xs [] b c absent s.numbered) refl s))
held_shortest (own_back q f u x h) ts (fs, xs, ys, b, c, l, s) =
    let p = list_held_shortest second q ys l in
    finishing (rule_read f (some (finished_list q)) u x h) h ts (fs ++ name u ∷ sign OPEN ∷ (xs ++ sign CLOSE ∷ sign BRACE ∷ ys)) (p.0 ++ sign UNBRACE ∷ [])
    (subst (λ w. RuleIs (nonterminal h.nonterm ∷ sign DEFINED ∷ w) (rule_read f (some (finished_list q)) u x h)) (simp append_assoc)
    (production_held f (some (finished_list q)) u x h fs xs (sign BRACE ∷ ((ys ++ p.0) ++ sign UNBRACE ∷ [])) b c (braces p.1) s.numbered)) refl s
held_shortest (complete r h) ts (ws, p, i, s) = ([], subst (λ w. RulesAre w (rules_read r h)) (sym (append-nil ts)) (rules_held r h ts ws p i s))
