-- Outside programs a sketch steps as the machine does. Assumes nothing.
use mathlib.Core.Path.{◌≡◌, refl, sym, ◌∙◌, ap, subst}
use mathlib.Core.Bool.{Bool, true, false}
use mathlib.Core.Option.{Option, none, some, map}
use mathlib.Core.List.{List, [], ◌∷◌, ◌++◌}
use Prim.Native.Nat.{ℕ, suc, ◌+◌, ◌<◌}
use native.Mathlib.Omega.{arith}
use lib.Dec.{ltb}
use lib.ListN.{length, length-append}
use Rattle.expressions.specs.Expr.{Atom}
use Rattle.notation.specs.Program.{TextProgram}
use Rattle.notation.specs.Rules.{Tree, node, Form, TextRule}
use Rattle.notation.specs.Limits.{nodes_in_all}
use Rattle.notation.specs.Statements.{parentheses}
use Rattle.notation.specs.Tokens.{Dollar, TextToken, nonterminal, value, attribute, name, start_tag, end_tag, empty_tag, string, word, Keyword, CHAR, ECHO, ECHO-OFF, REJECT, PRINT, IF, THEN, ELSE, BEGIN, END, AND, OR, NOT, EMPTY, sign, Sign, DEFINED, ASSIGNED, OPEN, CLOSE, BRACE, UNBRACE, DOT, BAR, STAR, SEMICOLON, EQUALS, TagName}
use Rattle.reading.specs.Tests.{tag_name?}
use Rattle.reading.specs.Expressions.{ExpressionPart, a_leaf, a_star, a_dot, a_bar, an_open, a_close, a_brace, an_unbrace, other, piece_of, nonterminal?, atom_if, ExpressionLevel, whole_expression, fronted, Parsing, wants, in_front, after, behind, over, expression_opened, expression_closed, braced, backed, step_piece, whole_value, empty_value, value_of_content}
use Rattle.reading.specs.Rules.{Key, a_nonterminal, a_name, a_definition, key_of, key_if, Head, Progress, beginning, first_word, named, defined, own_front, wants_tag, tagged, within, own_back, complete, rule_read, next_head, step_key, closes_content, parsing, step_rules}
use Rattle.reading.proofs.RuleSize.{nodes_append}
use Rattle.reading.proofs.Telling.{none≢some}
use Rattle.lexemes.specs.Kinds.{token_kind, TokenFits}
use Rattle.sketches.specs.declared.Inside.{Inside}
use Rattle.sketches.specs.declared.Outside.{Outside}
use Rattle.sketches.specs.declared.Point.{Point}
use Rattle.sketches.specs.declared.Point.TheVariants.{Wants, After}
use Rattle.sketches.specs.declared.Move.{Move}
use Rattle.sketches.specs.Figures.{present, paren, figure_of, beside_of, left_of, surround_of, paren_of, parens_of}
use Rattle.sketches.specs.Moves.{inside_of, outside_of, shut, backed_by, move_as, move_of, Sketch, sketched, opened_if, after_move_lem}
use Rattle.sketches.specs.Sketched.{point_of, nodes_inside, at_head, inside_head, sketch, listing_of}
use Rattle.sketches.proofs.Figures.{cat_figure, star_figure, whole_figure}

-- what the machine takes a token for
abbrev outside_key : Key → Outside
outside_key (a_nonterminal n) = Outside.Nonterminal
outside_key (a_name u) = Outside.Name
outside_key a_definition = Outside.Definition
outside_key Key.an_open = Outside.Open
outside_key Key.a_close = Outside.Other
outside_key Key.a_brace = Outside.Brace
outside_key Key.other = Outside.Other

abbrev inside_piece : ExpressionPart → Inside
inside_piece (a_leaf k) = Inside.Leaf
inside_piece a_star = Inside.Star
inside_piece a_dot = Inside.Dot
inside_piece a_bar = Inside.Bar
inside_piece an_open = Inside.Open
inside_piece a_close = Inside.Close
inside_piece a_brace = Inside.Brace
inside_piece an_unbrace = Inside.Other
inside_piece other = Inside.Other

-- of a ) alone
abbrev close_key : ExpressionPart → Key
close_key (a_leaf k) = Key.other
close_key a_star = Key.other
close_key a_dot = Key.other
close_key a_bar = Key.other
close_key an_open = Key.other
close_key a_close = Key.a_close
close_key a_brace = Key.other
close_key an_unbrace = Key.other
close_key other = Key.other

atom_kept : {P : Type 0} (d : Dec P) (k : Atom) → P → atom_if d k ≡ a_leaf (some k)
atom_kept (yes h) k p = refl
atom_kept (no h) k p = absurd (h p)

key_kept : {P : Type 0} (d : Dec P) (k : Key) → P → key_if d k ≡ k
key_kept (yes h) k p = refl
key_kept (no h) k p = absurd (h p)

outside_kind : (t : TextToken) → TokenFits t → outside_key (key_of t) ≡ outside_of (token_kind t)
outside_kind (nonterminal n) h = ap outside_key (key_kept (nonterminal? n) (a_nonterminal n) h)
outside_kind (name n) h = ap outside_key (key_kept (tag_name? n) (a_name n) h)
outside_kind (value n) h = refl
outside_kind (start_tag n) h = refl
outside_kind (end_tag n) h = refl
outside_kind (empty_tag n) h = refl
outside_kind (string cs) h = refl
outside_kind (attribute Dollar.plain a) h = refl
outside_kind (attribute Dollar.left a) h = refl
outside_kind (attribute Dollar.right a) h = refl
outside_kind (word CHAR) h = refl
outside_kind (word ECHO) h = refl
outside_kind (word ECHO-OFF) h = refl
outside_kind (word REJECT) h = refl
outside_kind (word PRINT) h = refl
outside_kind (word IF) h = refl
outside_kind (word THEN) h = refl
outside_kind (word ELSE) h = refl
outside_kind (word BEGIN) h = refl
outside_kind (word END) h = refl
outside_kind (word AND) h = refl
outside_kind (word OR) h = refl
outside_kind (word NOT) h = refl
outside_kind (word EMPTY) h = refl
outside_kind (sign DEFINED) h = refl
outside_kind (sign ASSIGNED) h = refl
outside_kind (sign OPEN) h = refl
outside_kind (sign CLOSE) h = refl
outside_kind (sign BRACE) h = refl
outside_kind (sign UNBRACE) h = refl
outside_kind (sign DOT) h = refl
outside_kind (sign BAR) h = refl
outside_kind (sign STAR) h = refl
outside_kind (sign SEMICOLON) h = refl
outside_kind (sign EQUALS) h = refl

inside_kind : (t : TextToken) → TokenFits t → inside_piece (piece_of t) ≡ inside_of (token_kind t)
inside_kind (nonterminal n) h = ap inside_piece (atom_kept (nonterminal? n) (Atom.nonterminal n) h)
inside_kind (name n) h = refl
inside_kind (value n) h = refl
inside_kind (start_tag n) h = refl
inside_kind (end_tag n) h = refl
inside_kind (empty_tag n) h = refl
inside_kind (string cs) h = refl
inside_kind (attribute Dollar.plain a) h = refl
inside_kind (attribute Dollar.left a) h = refl
inside_kind (attribute Dollar.right a) h = refl
inside_kind (word CHAR) h = refl
inside_kind (word ECHO) h = refl
inside_kind (word ECHO-OFF) h = refl
inside_kind (word REJECT) h = refl
inside_kind (word PRINT) h = refl
inside_kind (word IF) h = refl
inside_kind (word THEN) h = refl
inside_kind (word ELSE) h = refl
inside_kind (word BEGIN) h = refl
inside_kind (word END) h = refl
inside_kind (word AND) h = refl
inside_kind (word OR) h = refl
inside_kind (word NOT) h = refl
inside_kind (word EMPTY) h = refl
inside_kind (sign DEFINED) h = refl
inside_kind (sign ASSIGNED) h = refl
inside_kind (sign OPEN) h = refl
inside_kind (sign CLOSE) h = refl
inside_kind (sign BRACE) h = refl
inside_kind (sign UNBRACE) h = refl
inside_kind (sign DOT) h = refl
inside_kind (sign BAR) h = refl
inside_kind (sign STAR) h = refl
inside_kind (sign SEMICOLON) h = refl
inside_kind (sign EQUALS) h = refl

module _ (o : Option (Option Tree)) (f : Option TextProgram) (u : List ℕ) (h : Head) where
  shut_key : {P : Type 0} (d : Dec P) (n : ℕ) → closes_content (key_if d (a_nonterminal n)) o f u h ≡ none
  shut_key (yes p) n = refl
  shut_key (no p) n = refl

  shut_name : {P : Type 0} (d : Dec P) (n : List ℕ) → closes_content (key_if d (a_name n)) o f u h ≡ none
  shut_name (yes p) n = refl
  shut_name (no p) n = refl

  shut_atom : {P : Type 0} (d : Dec P) (k : Atom) → closes_content (close_key (atom_if d k)) o f u h ≡ none
  shut_atom (yes p) k = refl
  shut_atom (no p) k = refl

  closes_alike : (t : TextToken) → closes_content (key_of t) o f u h ≡ closes_content (close_key (piece_of t)) o f u h
  closes_alike (nonterminal n) = shut_key (nonterminal? n) n ∙ sym (shut_atom (nonterminal? n) (Atom.nonterminal n))
  closes_alike (name n) = shut_name (tag_name? n) n
  closes_alike (value n) = refl
  closes_alike (start_tag n) = refl
  closes_alike (end_tag n) = refl
  closes_alike (empty_tag n) = refl
  closes_alike (string cs) = refl
  closes_alike (attribute m a) = refl
  closes_alike (word CHAR) = refl
  closes_alike (word ECHO) = refl
  closes_alike (word ECHO-OFF) = refl
  closes_alike (word REJECT) = refl
  closes_alike (word PRINT) = refl
  closes_alike (word IF) = refl
  closes_alike (word THEN) = refl
  closes_alike (word ELSE) = refl
  closes_alike (word BEGIN) = refl
  closes_alike (word END) = refl
  closes_alike (word AND) = refl
  closes_alike (word OR) = refl
  closes_alike (word NOT) = refl
  closes_alike (word EMPTY) = refl
  closes_alike (sign DEFINED) = refl
  closes_alike (sign ASSIGNED) = refl
  closes_alike (sign OPEN) = refl
  closes_alike (sign CLOSE) = refl
  closes_alike (sign BRACE) = refl
  closes_alike (sign UNBRACE) = refl
  closes_alike (sign DOT) = refl
  closes_alike (sign BAR) = refl
  closes_alike (sign STAR) = refl
  closes_alike (sign SEMICOLON) = refl
  closes_alike (sign EQUALS) = refl

-- a production more
next_follows : (r : TextRule) (h : Head) (n : ℕ) → sketch (named (next_head r h n)) ≡ sketched Point.Named [] (length h.earlier + 1) (nodes_in_all h.earlier + nodes_inside r.inside)
next_follows r h n =
    let a : length (h.earlier ++ r ∷ []) ≡ length h.earlier + 1 = simp length-append (omega arith) in
    let b : nodes_in_all (h.earlier ++ r ∷ []) ≡ nodes_in_all h.earlier + nodes_inside r.inside = omega (arith, nodes_append h.earlier (r ∷ [])) in
    rw (a, b)

abbrev Follows : Progress → Option Progress → Outside → Inside → Type 0
Follows s o c i = map sketch o ≡ after_move_lem (sketch s) (move_as (sketch s).point c i)

abbrev Outer : Progress → Type 0
Outer beginning = Unit {0}
Outer (first_word n) = Unit {0}
Outer (named h) = Unit {0}
Outer (defined h) = Unit {0}
Outer (own_front q h) = Unit {0}
Outer (wants_tag f h) = Unit {0}
Outer (tagged f u h) = Unit {0}
Outer (within x f u h) = ⊥
Outer (Progress.closed f u e h) = Unit {0}
Outer (own_back q f u e h) = Unit {0}
Outer (complete r h) = Unit {0}

key_follows : (s : Progress) (k : Key) (i : Inside) → listing_of s ≡ none → Outer s → Follows s (step_key s k) (outside_key k) i
key_follows beginning (a_nonterminal n) i z o = refl
key_follows beginning (a_name u) i z o = refl
key_follows beginning a_definition i z o = refl
key_follows beginning Key.an_open i z o = refl
key_follows beginning Key.a_close i z o = refl
key_follows beginning Key.a_brace i z o = refl
key_follows beginning Key.other i z o = refl
key_follows (first_word s) (a_nonterminal n) i z o = refl
key_follows (first_word s) (a_name u) i z o = refl
key_follows (first_word s) a_definition i z o = refl
key_follows (first_word s) Key.an_open i z o = refl
key_follows (first_word s) Key.a_close i z o = refl
key_follows (first_word s) Key.a_brace i z o = refl
key_follows (first_word s) Key.other i z o = refl
key_follows (named h) (a_nonterminal n) i z o = refl
key_follows (named h) (a_name u) i z o = refl
key_follows (named h) a_definition i z o = refl
key_follows (named h) Key.an_open i z o = refl
key_follows (named h) Key.a_close i z o = refl
key_follows (named h) Key.a_brace i z o = refl
key_follows (named h) Key.other i z o = refl
key_follows (defined h) (a_nonterminal n) i z o = refl
key_follows (defined h) (a_name u) i z o = refl
key_follows (defined h) a_definition i z o = refl
key_follows (defined h) Key.an_open i z o = refl
key_follows (defined h) Key.a_close i z o = refl
key_follows (defined h) Key.a_brace i z o = refl
key_follows (defined h) Key.other i z o = refl
key_follows (own_front q h) k i z o = absurd (none≢some z refl)
key_follows (wants_tag f h) (a_nonterminal n) i z o = refl
key_follows (wants_tag f h) (a_name u) i z o = refl
key_follows (wants_tag f h) a_definition i z o = refl
key_follows (wants_tag f h) Key.an_open i z o = refl
key_follows (wants_tag f h) Key.a_close i z o = refl
key_follows (wants_tag f h) Key.a_brace i z o = refl
key_follows (wants_tag f h) Key.other i z o = refl
key_follows (tagged f w h) (a_nonterminal n) i z o = refl
key_follows (tagged f w h) (a_name u) i z o = refl
key_follows (tagged f w h) a_definition i z o = refl
key_follows (tagged f w h) Key.an_open i z o = refl
key_follows (tagged f w h) Key.a_close i z o = refl
key_follows (tagged f w h) Key.a_brace i z o = refl
key_follows (tagged f w h) Key.other i z o = refl
key_follows (within x f w h) k i z o = absurd o
key_follows (Progress.closed f w e h) (a_nonterminal n) i z o = ap some (next_follows (rule_read f none w e h) h n)
key_follows (Progress.closed f w e h) (a_name u) i z o = refl
key_follows (Progress.closed f w e h) a_definition i z o = refl
key_follows (Progress.closed f w e h) Key.an_open i z o = refl
key_follows (Progress.closed f w e h) Key.a_close i z o = refl
key_follows (Progress.closed f w e h) Key.a_brace i z o = refl
key_follows (Progress.closed f w e h) Key.other i z o = refl
key_follows (own_back q f w e h) k i z o = absurd (none≢some z refl)
key_follows (complete r h) (a_nonterminal n) i z o = ap some (next_follows r h n)
key_follows (complete r h) (a_name u) i z o = refl
key_follows (complete r h) a_definition i z o = refl
key_follows (complete r h) Key.an_open i z o = refl
key_follows (complete r h) Key.a_close i z o = refl
key_follows (complete r h) Key.a_brace i z o = refl
key_follows (complete r h) Key.other i z o = refl

parens_length : (ls : List ExpressionLevel) → length (parens_of ls) ≡ length ls
parens_length [] = refl
parens_length (l ∷ ls) = ap suc (parens_length ls)

module _ (f : Option TextProgram) (u : List ℕ) (h : Head) where
  -- what a token does between a tag's parentheses
  abbrev within_steps : Parsing → ExpressionPart → Option Progress
  within_steps x p = parsing (step_piece x p) (closes_content (close_key p) (value_of_content x) f u h) f u h

  open_follows : (b c : Bool) (l : ExpressionLevel) (ls : List ExpressionLevel) → map sketch (parsing (expression_opened b l ls) none f u h) ≡ opened_if b (paren_of l ls) (inside_head (wants c l ls) h)
  open_follows true c l ls = refl
  open_follows false c l ls = refl

  close_follows : (x : Parsing) (ls : List ExpressionLevel) (b : Option TextProgram) (t : Tree) → map sketch (parsing (expression_closed ls (fronted b t)) (closes_content Key.a_close (whole_value ls (fronted b t)) f u h) f u h)
      ≡ after_move_lem (sketched (point_of x) (parens_of ls) (length h.earlier) (nodes_in_all h.earlier)) (shut (present b) (figure_of t))
  close_follows x [] none (node a g k) = refl
  close_follows x (l ∷ ls) none (node a g k) = refl
  close_follows x [] (some p) (node none g k) = refl
  close_follows x (l ∷ ls) (some p) (node none g k) = refl
  close_follows x [] (some p) (node (some a) g k) = refl
  close_follows x (l ∷ ls) (some p) (node (some a) g k) = refl

  back_follows : (l : ExpressionLevel) (ls : List ExpressionLevel) (b : Option TextProgram) (t : Tree) (x : Parsing) → map sketch (parsing (backed (fronted b t) ls) none f u h)
      ≡ after_move_lem (sketched (point_of x) (parens_of ls) (length h.earlier) (nodes_in_all h.earlier)) (backed_by (present b) (surround_of ls) (figure_of t))
  back_follows l ls none (node a none k) x = refl
  back_follows l ls none (node none (some g) k) x = refl
  back_follows l ls none (node (some a) (some g) k) x = refl
  back_follows l ls (some p) (node none none k) x = refl
  back_follows l ls (some p) (node none (some g) k) x = refl
  back_follows l ls (some p) (node (some a) g k) x = refl

  empty_follows : (b : Bool) (l : ExpressionLevel) (ls : List ExpressionLevel) (o : Outside) → Follows (within (wants b l ls) f u h) (closes_content Key.a_close (empty_value b ls) f u h) o Inside.Close
  empty_follows true l [] o = refl
  empty_follows true l (m ∷ ls) o = refl
  empty_follows false l ls o = refl

  brace_follows : (b : Bool) (l : ExpressionLevel) (ls : List ExpressionLevel) (o : Outside) → Follows (within (wants b l ls) f u h) (parsing (braced b ls) none f u h) o Inside.Brace
  brace_follows true l ls o = refl
  brace_follows false l ls o = refl

  over_follows : (e : Tree) (ls : List ExpressionLevel) (o : Outside) → Follows (within (over e ls) f u h) (within_steps (over e ls) a_close) o Inside.Close
  over_follows e [] o = refl
  over_follows e (l ∷ ls) o = refl

  piece_follows : (x : Parsing) (p : ExpressionPart) (o : Outside) → listing_of (within x f u h) ≡ none → Follows (within x f u h) (within_steps x p) o (inside_piece p)
  piece_follows (wants b l ls) (a_leaf none) o z = refl
  piece_follows (wants b l ls) (a_leaf (some k)) o z = refl
  piece_follows (wants b l ls) a_star o z = refl
  piece_follows (wants b l ls) a_dot o z = refl
  piece_follows (wants b l ls) a_bar o z = refl
  piece_follows (wants b l ls) an_open o z = open_follows (ltb (length ls) parentheses) b l ls ∙ ap (λ n. opened_if (ltb n parentheses) (paren_of l ls) (inside_head (wants b l ls) h)) (sym (parens_length ls))
  piece_follows (wants b l ls) a_close o z = empty_follows b l ls o
  piece_follows (wants b l ls) a_brace o z = brace_follows b l ls o
  piece_follows (wants b l ls) an_unbrace o z = refl
  piece_follows (wants b l ls) other o z = refl
  piece_follows (in_front q ls) p o z = absurd (none≢some z refl)
  piece_follows (after e l ls) (a_leaf k) o z = refl
  piece_follows (after e l ls) a_star o z = ap (λ x. some (sketched (After x (paren_of l ls)) (parens_of ls) (length h.earlier) (nodes_in_all h.earlier))) (star_figure e)
  piece_follows (after e l ls) a_dot o z =
      ap (λ x. some (sketched (Wants false (paren (present l.before) (beside_of l.alt_left) (left_of x) (surround_of ls))) (parens_of ls) (length h.earlier) (nodes_in_all h.earlier))) (cat_figure l.cat_left e)
  piece_follows (after e l ls) a_bar o z =
      ap (λ x. some (sketched (Wants false (paren (present l.before) (left_of x) (beside_of none) (surround_of ls))) (parens_of ls) (length h.earlier) (nodes_in_all h.earlier))) (whole_figure l (surround_of ls) e)
  piece_follows (after e l ls) an_open o z = refl
  piece_follows (after e l ls) a_close o z =
      close_follows (after e l ls) ls l.before (whole_expression l e) ∙ ap (λ x. after_move_lem (inside_head (after e l ls) h) (shut (present l.before) x)) (whole_figure l (surround_of ls) e)
  piece_follows (after e l ls) a_brace o z =
      back_follows l ls l.before (whole_expression l e) (after e l ls) ∙ ap (λ x. after_move_lem (inside_head (after e l ls) h) (backed_by (present l.before) (surround_of ls) x)) (whole_figure l (surround_of ls) e)
  piece_follows (after e l ls) an_unbrace o z = refl
  piece_follows (after e l ls) other o z = refl
  piece_follows (behind q g j ls) p o z = absurd (none≢some z refl)
  piece_follows (over e ls) (a_leaf k) o z = refl
  piece_follows (over e ls) a_star o z = refl
  piece_follows (over e ls) a_dot o z = refl
  piece_follows (over e ls) a_bar o z = refl
  piece_follows (over e ls) an_open o z = refl
  piece_follows (over e ls) a_close o z = over_follows e ls o
  piece_follows (over e ls) a_brace o z = refl
  piece_follows (over e ls) an_unbrace o z = refl
  piece_follows (over e ls) other o z = refl

-- outside programs
step_follows : (s : Progress) (t : TextToken) → listing_of s ≡ none → Follows s (step_rules s t) (outside_key (key_of t)) (inside_piece (piece_of t))
step_follows beginning t z = key_follows beginning (key_of t) (inside_piece (piece_of t)) z tt
step_follows (first_word n) t z = key_follows (first_word n) (key_of t) (inside_piece (piece_of t)) z tt
step_follows (named h) t z = key_follows (named h) (key_of t) (inside_piece (piece_of t)) z tt
step_follows (defined h) t z = key_follows (defined h) (key_of t) (inside_piece (piece_of t)) z tt
step_follows (own_front q h) t z = absurd (none≢some z refl)
step_follows (wants_tag f h) t z = key_follows (wants_tag f h) (key_of t) (inside_piece (piece_of t)) z tt
step_follows (tagged f u h) t z = key_follows (tagged f u h) (key_of t) (inside_piece (piece_of t)) z tt
step_follows (within (wants b l ls) f u h) t z =
    ap (λ y. map sketch (parsing (step_piece (wants b l ls) (piece_of t)) y f u h)) (closes_alike (value_of_content (wants b l ls)) f u h t) ∙ piece_follows f u h (wants b l ls) (piece_of t) (outside_key (key_of t)) z
step_follows (within (after e l ls) f u h) t z =
    ap (λ y. map sketch (parsing (step_piece (after e l ls) (piece_of t)) y f u h)) (closes_alike (value_of_content (after e l ls)) f u h t) ∙ piece_follows f u h (after e l ls) (piece_of t) (outside_key (key_of t)) z
step_follows (within (over e ls) f u h) t z =
    ap (λ y. map sketch (parsing (step_piece (over e ls) (piece_of t)) y f u h)) (closes_alike (value_of_content (over e ls)) f u h t) ∙ piece_follows f u h (over e ls) (piece_of t) (outside_key (key_of t)) z
step_follows (within (in_front q ls) f u h) t z = absurd (none≢some z refl)
step_follows (within (behind q g j ls) f u h) t z = absurd (none≢some z refl)
step_follows (Progress.closed f u e h) t z = key_follows (Progress.closed f u e h) (key_of t) (inside_piece (piece_of t)) z tt
step_follows (own_back q f u e h) t z = absurd (none≢some z refl)
step_follows (complete r h) t z = key_follows (complete r h) (key_of t) (inside_piece (piece_of t)) z tt

pub plain_follows : (s : Progress) (t : TextToken) → listing_of s ≡ none → TokenFits t → map sketch (step_rules s t) ≡ after_move_lem (sketch s) (move_of (sketch s).point (token_kind t))
plain_follows s t z h = step_follows s t z ∙ cc (outside_kind t h, inside_kind t h)
