-- The shortest continuation of a text only grows: where it keeps the limits, it kept them before. Assumes nothing.
use mathlib.Core.Path.{◌≡◌, refl, sym, ◌∙◌, ap, subst}
use mathlib.Core.Option.{Option, none, some}
use mathlib.Core.List.{List, [], ◌∷◌, ◌++◌}
use Prim.Native.Nat.{ℕ, suc, ◌+◌, ◌≤◌}
use native.Mathlib.Omega.{arith}
use lib.ListN.{length, length-append}
use Rattle.expressions.specs.Expr.{nodes_of}
use Rattle.programs.specs.Limits.{first, second}
use Rattle.notation.specs.Program.{TextProgram, done}
use Rattle.notation.specs.Rules.{TextVisits, Tree, content_inside, TextRule, Rules}
use Rattle.notation.specs.Limits.{ProgramWithin, OptionWithin, VisitsWithin, ContentWithin, RuleWithin, EachWithin, nodes_in_all, WithinLimits}
use Rattle.notation.specs.Tokens.{TextToken}
use Rattle.reading.specs.Statements.{Listing, list_start, step_statements, value_of_list, finished_list}
use Rattle.reading.specs.Expressions.{Parsing, piece_of, unbraces, listing, step_expression, value_of_content, finished_content}
use Rattle.reading.specs.Rules.{Key, a_nonterminal, a_name, a_definition, an_open, a_close, a_brace, other, key_of, Head, head, Progress, beginning, first_word, named, defined, own_front, wants_tag, tagged, within, closed, own_back, complete, rule_read, rules_read, next_head, step_key, closes_content, parsing, step_rules, plain_rule, finished_rules}
use Rattle.reading.proofs.ExpressionSize.{Under, UnderContent, Grown as ContentGrown, step_grows as content_step_grows, list_grows}
use Rattle.reading.proofs.Expressions.{content_smaller, finished_value}

pub nodes_append : (rs qs : List TextRule) → nodes_in_all (rs ++ qs) ≡ nodes_in_all rs + nodes_in_all qs
nodes_append [] qs = omega arith
nodes_append (r ∷ rs) qs = omega (arith, nodes_append rs qs)

pub each_front : (rs qs : List TextRule) → EachWithin (rs ++ qs) → EachWithin rs
each_front [] qs h = tt
each_front (r ∷ rs) qs h = (h.0, each_front rs qs h.1)

each_last : (rs : List TextRule) (r r' : TextRule) → (RuleWithin r' → RuleWithin r) → EachWithin (rs ++ r' ∷ []) → EachWithin (rs ++ r ∷ [])
each_last [] r r' f h = (f h.0, tt)
each_last (q ∷ rs) r r' f h = (h.0, each_last rs r r' f h.1)

abbrev nodes_of_rule : TextRule → ℕ
nodes_of_rule r = nodes_of (content_inside r.inside)

-- the last production, in a smaller form
last_within : (s s' : ℕ) (rs : List TextRule) (r r' : TextRule) → (VisitsWithin r'.own → VisitsWithin r.own) → (ContentWithin r'.inside → ContentWithin r.inside) → nodes_of_rule r ≤ nodes_of_rule r'
    → WithinLimits (record { start = s'; productions = rs ++ r' ∷ [] }) → WithinLimits (record { start = s; productions = rs ++ r ∷ [] })
last_within s s' rs r r' f g n w = record {
  few_productions = simp length-append (simp length-append at w.few_productions);
  few_nodes = omega (arith, w.few_nodes, nodes_append rs (r ∷ []), nodes_append rs (r' ∷ []), n);
  each = each_last rs r r' (λ x. record { own = f x.own; inside = g x.inside }) w.each;
}

-- one production less
without_last_lem : (s s' : ℕ) (rs : List TextRule) (r : TextRule) → WithinLimits (record { start = s'; productions = rs ++ r ∷ [] }) → WithinLimits (record { start = s; productions = rs })
without_last_lem s s' rs r w = record {
  few_productions = omega (arith, simp length-append at w.few_productions);
  few_nodes = omega (arith, w.few_nodes, nodes_append rs (r ∷ []));
  each = each_front rs (r ∷ []) w.each;
}

abbrev pub Grown : Progress → Option Progress → Type 0
Grown s none = Unit {0}
Grown s (some s') = WithinLimits (finished_rules s') → WithinLimits (finished_rules s)

same_size : (s s' : ℕ) (rs : List TextRule) (r r' : TextRule) → (VisitsWithin r'.own → VisitsWithin r.own) → r.inside ≡ r'.inside
    → WithinLimits (record { start = s'; productions = rs ++ r' ∷ [] }) → WithinLimits (record { start = s; productions = rs ++ r ∷ [] })
same_size s s' rs r r' f e w = last_within s s' rs r r' f (λ x. subst ContentWithin (sym e) x) (omega (arith, ap (λ o. nodes_of (content_inside o)) e)) w

key_grows : (s : Progress) (k : Key) → Grown s (step_key s k)
key_grows beginning (a_nonterminal n) = same_size 0 n [] (plain_rule none (head 0 [] 0)) (plain_rule none (head n [] n)) (λ x. x) refl
key_grows beginning (a_name u) = tt
key_grows beginning a_definition = tt
key_grows beginning an_open = tt
key_grows beginning a_close = tt
key_grows beginning a_brace = tt
key_grows beginning other = tt
key_grows (first_word s) (a_nonterminal n) = same_size s s [] (plain_rule none (head s [] s)) (plain_rule none (head s [] n)) (λ x. x) refl
key_grows (first_word s) (a_name u) = tt
key_grows (first_word s) a_definition = λ w. w
key_grows (first_word s) an_open = tt
key_grows (first_word s) a_close = tt
key_grows (first_word s) a_brace = tt
key_grows (first_word s) other = tt
key_grows (named h) (a_nonterminal n) = tt
key_grows (named h) (a_name u) = tt
key_grows (named h) a_definition = λ w. w
key_grows (named h) an_open = tt
key_grows (named h) a_close = tt
key_grows (named h) a_brace = tt
key_grows (named h) other = tt
key_grows (defined h) (a_nonterminal n) = tt
key_grows (defined h) (a_name u) = same_size h.start h.start h.earlier (plain_rule none h) (rule_read none none u none h) (λ x. x) refl
key_grows (defined h) a_definition = tt
key_grows (defined h) an_open = tt
key_grows (defined h) a_close = tt
key_grows (defined h) a_brace = same_size h.start h.start h.earlier (plain_rule none h) (plain_rule (some done) h) (λ x. (tt, tt)) refl
key_grows (defined h) other = tt
key_grows (own_front q h) k = tt
key_grows (wants_tag f h) (a_nonterminal n) = tt
key_grows (wants_tag f h) (a_name u) = same_size h.start h.start h.earlier (plain_rule f h) (rule_read f none u none h) (λ x. x) refl
key_grows (wants_tag f h) a_definition = tt
key_grows (wants_tag f h) an_open = tt
key_grows (wants_tag f h) a_close = tt
key_grows (wants_tag f h) a_brace = tt
key_grows (wants_tag f h) other = tt
key_grows (tagged f u h) (a_nonterminal n) = tt
key_grows (tagged f u h) (a_name w) = tt
key_grows (tagged f u h) a_definition = tt
key_grows (tagged f u h) an_open = λ w. w
key_grows (tagged f u h) a_close = tt
key_grows (tagged f u h) a_brace = tt
key_grows (tagged f u h) other = tt
key_grows (within x f u h) k = tt
key_grows (closed f u e h) (a_nonterminal n) = without_last_lem h.start h.start (h.earlier ++ rule_read f none u e h ∷ []) (plain_rule none (next_head (rule_read f none u e h) h n))
key_grows (closed f u e h) (a_name w) = tt
key_grows (closed f u e h) a_definition = tt
key_grows (closed f u e h) an_open = tt
key_grows (closed f u e h) a_close = tt
key_grows (closed f u e h) a_brace = same_size h.start h.start h.earlier (rule_read f none u e h) (rule_read f (some done) u e h) (λ x. (x.0, tt)) refl
key_grows (closed f u e h) other = tt
key_grows (own_back q f u e h) k = tt
key_grows (complete r h) (a_nonterminal n) = without_last_lem h.start h.start (h.earlier ++ r ∷ []) (plain_rule none (next_head r h n))
key_grows (complete r h) (a_name w) = tt
key_grows (complete r h) a_definition = tt
key_grows (complete r h) an_open = tt
key_grows (complete r h) a_close = tt
key_grows (complete r h) a_brace = tt
key_grows (complete r h) other = tt

content_nodes : (o o' : Option Tree) → UnderContent o o' → nodes_of (content_inside o) ≤ nodes_of (content_inside o')
content_nodes none o' u = omega arith
content_nodes (some t) none u = absurd u
content_nodes (some t) (some t') u = u.few

closes_grow : (x : Parsing) (f : Option TextProgram) (u : List ℕ) (h : Head) (k : Key) (o : Option (Option Tree)) → value_of_content x ≡ o → Grown (within x f u h) (closes_content k o f u h)
closes_grow x f u h (a_nonterminal n) o e = tt
closes_grow x f u h (a_name w) o e = tt
closes_grow x f u h a_definition o e = tt
closes_grow x f u h an_open o e = tt
closes_grow x f u h a_close none e = tt
closes_grow x f u h a_close (some v) e =
    same_size h.start h.start h.earlier (rule_read f none u (finished_content x) h) (rule_read f none u v h) (λ y. y) (finished_value x v e)
closes_grow x f u h a_brace o e = tt
closes_grow x f u h other o e = tt

parsing_grows : (x : Parsing) (f : Option TextProgram) (u : List ℕ) (h : Head) (o : Option Parsing) (y : Option Progress) → ContentGrown x o → Grown (within x f u h) y → Grown (within x f u h) (parsing o y f u h)
parsing_grows x f u h none y g k = k
parsing_grows x f u h (some z) y g k =
    last_within h.start h.start h.earlier (rule_read f none u (finished_content x) h) (rule_read f none u (finished_content z) h) (λ w. w)
    (content_smaller (finished_content x) (finished_content z) g) (content_nodes (finished_content x) (finished_content z) g)

pub step_grows : (s : Progress) (t : TextToken) → Grown s (step_rules s t)
step_grows beginning t = key_grows beginning (key_of t)
step_grows (first_word n) t = key_grows (first_word n) (key_of t)
step_grows (named h) t = key_grows (named h) (key_of t)
step_grows (defined h) t = key_grows (defined h) (key_of t)
step_grows (own_front q h) t =
    list_grows (Grown (own_front q h)) tt (λ r. own_front r h) (λ p. wants_tag (some p) h) first q t
    (λ r i. same_size h.start h.start h.earlier (plain_rule (some (finished_list q)) h) (plain_rule (some (finished_list r)) h) (λ x. (i x.0, tt)) refl)
    (λ p e. same_size h.start h.start h.earlier (plain_rule (some (finished_list q)) h) (plain_rule (some p) h) (λ x. (subst ProgramWithin (sym e) x.0, tt)) refl)
step_grows (wants_tag f h) t = key_grows (wants_tag f h) (key_of t)
step_grows (tagged f u h) t = key_grows (tagged f u h) (key_of t)
step_grows (within x f u h) t = parsing_grows x f u h (step_expression x t) (closes_content (key_of t) (value_of_content x) f u h) (content_step_grows x t) (closes_grow x f u h (key_of t) (value_of_content x) refl)
step_grows (closed f u e h) t = key_grows (closed f u e h) (key_of t)
step_grows (own_back q f u e h) t =
    list_grows (Grown (own_back q f u e h)) tt (λ r. own_back r f u e h) (λ p. complete (rule_read f (some p) u e h) h) second q t
    (λ r i. same_size h.start h.start h.earlier (rule_read f (some (finished_list q)) u e h) (rule_read f (some (finished_list r)) u e h) (λ x. (x.0, i x.1)) refl)
    (λ p j. same_size h.start h.start h.earlier (rule_read f (some (finished_list q)) u e h) (rule_read f (some p) u e h) (λ x. (x.0, subst ProgramWithin (sym j) x.1)) refl)
step_grows (complete r h) t = key_grows (complete r h) (key_of t)
