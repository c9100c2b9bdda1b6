-- Outside programs a step keeps what was kept, and a program begins at its start. Assumes nothing.
use mathlib.Core.Path.{◌≡◌, refl, sym, ◌∙◌, ap, subst}
use mathlib.Core.Bool.{Bool, true, false}
use mathlib.Core.Option.{Option, none, some}
use mathlib.Core.List.{List, [], ◌∷◌}
use Prim.Native.Nat.{ℕ}
use lib.Dec.{ltb}
use lib.ListN.{length}
use Rattle.notation.specs.Program.{TextProgram}
use Rattle.notation.specs.Rules.{Tree, node, Form, atom, star, empty, visits, TextRule}
use Rattle.notation.specs.Limits.{OptionWithin, AllWithin, ContentWithin, EachWithin, WithinLimits}
use Rattle.notation.specs.Statements.{parentheses}
use Rattle.notation.specs.Tokens.{TextToken}
use Rattle.reading.specs.Statements.{Listing, list_start}
use Rattle.reading.specs.Expressions.{ExpressionPart, a_leaf, a_star, a_dot, a_bar, an_open, a_close, a_brace, an_unbrace, other, piece_of, ExpressionLevel, expression_level, fresh_expression, joined_cat, whole_expression, fronted, Parsing, wants, in_front, after, behind, over, expression_opened, expression_closed, braced, backed, step_piece, value_of_content, finished_content}
use Rattle.reading.specs.Rules.{Key, a_nonterminal, a_name, a_definition, key_of, Head, head, Progress, beginning, first_word, named, defined, own_front, wants_tag, tagged, within, own_back, complete, rule_read, next_head, step_key, closes_content, parsing, step_rules, finished_rules}
use Rattle.reading.proofs.Telling.{none≢some}
use Rattle.reading.proofs.Expressions.{finished_value}
use Rattle.sketches.specs.Sketched.{listing_of}
use Rattle.sketches.specs.Kept.{LevelsKept, LevelKept, KeptInside, KeptSoFar}
use Rattle.sketches.proofs.Kept.{cat_kept, whole_kept, was_last, ListKept}

pub record Entered (s : Progress) : Type 0 where
  pub kept : ListKept s → KeptSoFar s
  pub begun : (q : Listing) → listing_of s ≡ some q → list_start ≡ q

abbrev pub EnteredIf : Option Progress → Type 0
EnteredIf none = Unit {0}
EnteredIf (some s) = Entered s

plainly : (s : Progress) → listing_of s ≡ none → KeptSoFar s → Entered s
plainly s z k = record { kept = λ l. k; begun = λ q e. absurd (none≢some z e) }

begins : (s : Progress) → listing_of s ≡ some list_start → (ListKept s → KeptSoFar s) → Entered s
begins s z k = record { kept = k; begun = λ q e. cc }

key_enters : (s : Progress) (k : Key) → listing_of s ≡ none → KeptSoFar s → WithinLimits (finished_rules s) → EnteredIf (step_key s k)
key_enters beginning (a_nonterminal n) z w i = plainly (first_word n) refl tt
key_enters beginning (a_name v) z w i = tt
key_enters beginning a_definition z w i = tt
key_enters beginning Key.an_open z w i = tt
key_enters beginning Key.a_close z w i = tt
key_enters beginning Key.a_brace z w i = tt
key_enters beginning Key.other z w i = tt
key_enters (first_word s) (a_nonterminal n) z w i = plainly (named (head s [] n)) refl tt
key_enters (first_word s) (a_name v) z w i = tt
key_enters (first_word s) a_definition z w i = plainly (defined (head s [] s)) refl tt
key_enters (first_word s) Key.an_open z w i = tt
key_enters (first_word s) Key.a_close z w i = tt
key_enters (first_word s) Key.a_brace z w i = tt
key_enters (first_word s) Key.other z w i = tt
key_enters (named h) (a_nonterminal n) z w i = tt
key_enters (named h) (a_name v) z w i = tt
key_enters (named h) a_definition z w i = plainly (defined h) refl w
key_enters (named h) Key.an_open z w i = tt
key_enters (named h) Key.a_close z w i = tt
key_enters (named h) Key.a_brace z w i = tt
key_enters (named h) Key.other z w i = tt
key_enters (defined h) (a_nonterminal n) z w i = tt
key_enters (defined h) (a_name v) z w i = plainly (tagged none v h) refl (tt, w)
key_enters (defined h) a_definition z w i = tt
key_enters (defined h) Key.an_open z w i = tt
key_enters (defined h) Key.a_close z w i = tt
key_enters (defined h) Key.a_brace z w i = begins (own_front list_start h) refl (λ l. (l, w))
key_enters (defined h) Key.other z w i = tt
key_enters (own_front q h) k z w i = absurd (none≢some z refl)
key_enters (wants_tag f h) (a_nonterminal n) z w i = tt
key_enters (wants_tag f h) (a_name v) z w i = plainly (tagged f v h) refl w
key_enters (wants_tag f h) a_definition z w i = tt
key_enters (wants_tag f h) Key.an_open z w i = tt
key_enters (wants_tag f h) Key.a_close z w i = tt
key_enters (wants_tag f h) Key.a_brace z w i = tt
key_enters (wants_tag f h) Key.other z w i = tt
key_enters (tagged f u h) (a_nonterminal n) z w i = tt
key_enters (tagged f u h) (a_name v) z w i = tt
key_enters (tagged f u h) a_definition z w i = tt
key_enters (tagged f u h) Key.an_open z w i = plainly (within (wants true fresh_expression []) f u h) refl (((tt, (tt, tt)), tt), w)
key_enters (tagged f u h) Key.a_close z w i = tt
key_enters (tagged f u h) Key.a_brace z w i = tt
key_enters (tagged f u h) Key.other z w i = tt
key_enters (within x f u h) k z w i = tt
key_enters (Progress.closed f u e h) (a_nonterminal n) z w i = plainly (named (next_head (rule_read f none u e h) h n)) refl i.each
key_enters (Progress.closed f u e h) (a_name v) z w i = tt
key_enters (Progress.closed f u e h) a_definition z w i = tt
key_enters (Progress.closed f u e h) Key.an_open z w i = tt
key_enters (Progress.closed f u e h) Key.a_close z w i = tt
key_enters (Progress.closed f u e h) Key.a_brace z w i = begins (own_back list_start f u e h) refl (λ l. (l, w))
key_enters (Progress.closed f u e h) Key.other z w i = tt
key_enters (own_back q f u e h) k z w i = absurd (none≢some z refl)
key_enters (complete r h) (a_nonterminal n) z w i = plainly (named (next_head r h n)) refl i.each
key_enters (complete r h) (a_name v) z w i = tt
key_enters (complete r h) a_definition z w i = tt
key_enters (complete r h) Key.an_open z w i = tt
key_enters (complete r h) Key.a_close z w i = tt
key_enters (complete r h) Key.a_brace z w i = tt
key_enters (complete r h) Key.other z w i = tt

fronted_kept : (b : Option TextProgram) (t u : Tree) → OptionWithin b → AllWithin (visits t) → fronted b t ≡ some u → AllWithin (visits u)
fronted_kept none (node f g k) u w h e = let same : node f g k ≡ u = cc in subst (λ x. AllWithin (visits x)) same h
fronted_kept (some p) (node none g k) u w h e = let same : node (some p) g k ≡ u = cc in subst (λ x. AllWithin (visits x)) same ((w, h.0.1), h.1)
fronted_kept (some p) (node (some f) g k) u w h e = absurd (none≢some refl e)

module _ (f : Option TextProgram) (u : List ℕ) (h : Head) (o : OptionWithin f × EachWithin h.earlier) where
  abbrev GoesIn : Option Parsing → Type 0
  GoesIn none = Unit {0}
  GoesIn (some x) = Entered (within x f u h)

  open_enters : (b : Bool) (l : ExpressionLevel) (ls : List ExpressionLevel) → LevelKept l × LevelsKept ls → GoesIn (expression_opened b l ls)
  open_enters true l ls w = plainly (within (wants true fresh_expression (l ∷ ls)) f u h) refl (((tt, (tt, tt)), w), o)
  open_enters false l ls w = tt

  brace_enters : (b : Bool) (ls : List ExpressionLevel) → LevelsKept ls → GoesIn (braced b ls)
  brace_enters true ls w = begins (within (in_front list_start ls) f u h) refl (λ l. ((l, w), o))
  brace_enters false ls w = tt

  close_enters : (ls : List ExpressionLevel) (x : Option Tree) → LevelsKept ls → ((t : Tree) → x ≡ some t → AllWithin (visits t)) → GoesIn (expression_closed ls x)
  close_enters ls none w k = tt
  close_enters [] (some t) w k = tt
  close_enters (l ∷ ls) (some t) w k = plainly (within (after t l ls) f u h) refl ((k t refl, w), o)

  back_enters : (ls : List ExpressionLevel) (x : Option Tree) → LevelsKept ls → ((t : Tree) → x ≡ some t → AllWithin (visits t)) → GoesIn (backed x ls)
  back_enters ls none w k = tt
  back_enters ls (some (node a none j)) w k =
      let i = k (node a none j) refl in begins (within (behind list_start a j ls) f u h) refl (λ l. ((l, (i.0.0, (i.1, w))), o))
  back_enters ls (some (node a (some g) j)) w k = tt

  piece_enters : (x : Parsing) (p : ExpressionPart) → KeptInside x → GoesIn (step_piece x p)
  piece_enters (wants b l ls) (a_leaf none) w = plainly (within (after (node none none empty) l ls) f u h) refl ((((tt, tt), tt), w), o)
  piece_enters (wants b l ls) (a_leaf (some k)) w = plainly (within (after (node none none (atom k)) l ls) f u h) refl ((((tt, tt), tt), w), o)
  piece_enters (wants b l ls) a_star w = tt
  piece_enters (wants b l ls) a_dot w = tt
  piece_enters (wants b l ls) a_bar w = tt
  piece_enters (wants b l ls) an_open w = open_enters (ltb (length ls) parentheses) l ls w
  piece_enters (wants b l ls) a_close w = tt
  piece_enters (wants b l ls) a_brace w = brace_enters b ls w.1
  piece_enters (wants b l ls) an_unbrace w = tt
  piece_enters (wants b l ls) other w = tt
  piece_enters (in_front q ls) p w = tt
  piece_enters (after e l ls) (a_leaf k) w = tt
  piece_enters (after e l ls) a_star w = plainly (within (after (node none none (star e)) l ls) f u h) refl ((((tt, tt), w.0), w.1), o)
  piece_enters (after e l ls) a_dot w =
      plainly (within (wants false (expression_level l.before l.alt_left (some (joined_cat l.cat_left e))) ls) f u h) refl
      (((w.1.0.0, (w.1.0.1.0, cat_kept l.cat_left e w.1.0.1.1 w.0)), w.1.1), o)
  piece_enters (after e l ls) a_bar w = plainly (within (wants false (expression_level l.before (some (whole_expression l e)) none) ls) f u h) refl (((w.1.0.0, (whole_kept l e w.1.0 w.0, tt)), w.1.1), o)
  piece_enters (after e l ls) an_open w = tt
  piece_enters (after e l ls) a_close w = close_enters ls (fronted l.before (whole_expression l e)) w.1.1 (λ t i. fronted_kept l.before (whole_expression l e) t w.1.0.0 (whole_kept l e w.1.0 w.0) i)
  piece_enters (after e l ls) a_brace w = back_enters ls (fronted l.before (whole_expression l e)) w.1.1 (λ t i. fronted_kept l.before (whole_expression l e) t w.1.0.0 (whole_kept l e w.1.0 w.0) i)
  piece_enters (after e l ls) an_unbrace w = tt
  piece_enters (after e l ls) other w = tt
  piece_enters (behind q g j ls) p w = tt
  piece_enters (over e ls) (a_leaf k) w = tt
  piece_enters (over e ls) a_star w = tt
  piece_enters (over e ls) a_dot w = tt
  piece_enters (over e ls) a_bar w = tt
  piece_enters (over e ls) an_open w = tt
  piece_enters (over e ls) a_close w = close_enters ls (some e) w.1 (λ t i. let same : e ≡ t = cc in subst (λ x. AllWithin (visits x)) same w.0)
  piece_enters (over e ls) a_brace w = tt
  piece_enters (over e ls) an_unbrace w = tt
  piece_enters (over e ls) other w = tt

  closes_enters : (x : Parsing) (k : Key) (v : Option (Option Tree)) → ContentWithin (finished_content x) → value_of_content x ≡ v → EnteredIf (closes_content k v f u h)
  closes_enters x (a_nonterminal n) v w e = tt
  closes_enters x (a_name z) v w e = tt
  closes_enters x a_definition v w e = tt
  closes_enters x Key.an_open v w e = tt
  closes_enters x Key.a_close none w e = tt
  closes_enters x Key.a_close (some v) w e = plainly (Progress.closed f u v h) refl (subst ContentWithin (finished_value x v e) w, o)
  closes_enters x Key.a_brace v w e = tt
  closes_enters x Key.other v w e = tt

  parsing_enters : (x : Option Parsing) (y : Option Progress) → GoesIn x → EnteredIf y → EnteredIf (parsing x y f u h)
  parsing_enters none y a b = b
  parsing_enters (some x) y a b = a

pub plain_enters : (s : Progress) (t : TextToken) → listing_of s ≡ none → KeptSoFar s → WithinLimits (finished_rules s) → EnteredIf (step_rules s t)
plain_enters beginning t z w i = key_enters beginning (key_of t) z w i
plain_enters (first_word n) t z w i = key_enters (first_word n) (key_of t) z w i
plain_enters (named h) t z w i = key_enters (named h) (key_of t) z w i
plain_enters (defined h) t z w i = key_enters (defined h) (key_of t) z w i
plain_enters (own_front q h) t z w i = absurd (none≢some z refl)
plain_enters (wants_tag f h) t z w i = key_enters (wants_tag f h) (key_of t) z w i
plain_enters (tagged f u h) t z w i = key_enters (tagged f u h) (key_of t) z w i
plain_enters (within (wants b l ls) f u h) t z w i =
    let c = (was_last h.earlier (rule_read f none u (finished_content (wants b l ls)) h) i.each).inside in
    parsing_enters f u h w.1 (step_piece (wants b l ls) (piece_of t)) (closes_content (key_of t) (value_of_content (wants b l ls)) f u h) (piece_enters f u h w.1 (wants b l ls) (piece_of t) w.0)
    (closes_enters f u h w.1 (wants b l ls) (key_of t) (value_of_content (wants b l ls)) c refl)
plain_enters (within (in_front q ls) f u h) t z w i = absurd (none≢some z refl)
plain_enters (within (after e l ls) f u h) t z w i =
    let c = (was_last h.earlier (rule_read f none u (finished_content (after e l ls)) h) i.each).inside in
    parsing_enters f u h w.1 (step_piece (after e l ls) (piece_of t)) (closes_content (key_of t) (value_of_content (after e l ls)) f u h) (piece_enters f u h w.1 (after e l ls) (piece_of t) w.0)
    (closes_enters f u h w.1 (after e l ls) (key_of t) (value_of_content (after e l ls)) c refl)
plain_enters (within (behind q g j ls) f u h) t z w i = absurd (none≢some z refl)
plain_enters (within (over e ls) f u h) t z w i =
    let c = (was_last h.earlier (rule_read f none u (finished_content (over e ls)) h) i.each).inside in
    parsing_enters f u h w.1 (step_piece (over e ls) (piece_of t)) (closes_content (key_of t) (value_of_content (over e ls)) f u h) (piece_enters f u h w.1 (over e ls) (piece_of t) w.0)
    (closes_enters f u h w.1 (over e ls) (key_of t) (value_of_content (over e ls)) c refl)
plain_enters (Progress.closed f u e h) t z w i = key_enters (Progress.closed f u e h) (key_of t) z w i
plain_enters (own_back q f u e h) t z w i = absurd (none≢some z refl)
plain_enters (complete r h) t z w i = key_enters (complete r h) (key_of t) z w i
