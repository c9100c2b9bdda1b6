-- The machine of expressions goes through every content of a tag. Assumes nothing.
use mathlib.Core.Path.{◌≡◌, refl, sym, ◌∙◌, ap, subst}
use mathlib.Core.Bool.{Bool, true, false}
use mathlib.Core.Option.{Option, none, some}
use mathlib.Core.List.{List, [], ◌∷◌, ◌++◌, append_assoc, append-nil}
use Prim.Native.Nat.{ℕ, suc, ◌+◌, ◌≤◌, ◌<◌}
use native.Mathlib.Omega.{arith}
use lib.Dec.{ltb}
use lib.ListN.{length}
use borrow.Author.Tests.{lt-ltb}
use Rattle.expressions.specs.Expr.{Atom}
use Rattle.expressions.specs.Grammar.{nonterminals}
use Rattle.programs.specs.Limits.{first, second}
use Rattle.notation.specs.Program.{TextProgram}
use Rattle.notation.specs.Rules.{Tree, node, Form, atom, cat, alt, star}
use Rattle.notation.specs.Tokens.{TextToken, sign, OPEN, CLOSE, BRACE, UNBRACE, DOT, BAR, STAR}
use Rattle.notation.specs.Statements.{parentheses, ListIs, BracesAre, absent, braces}
use Rattle.notation.specs.Expressions.{AtMostOne, inner, outer, UnionIs, no_bar, bar, CatIs, no_dot, dot, StarredIs, no_star, stars, PrimaryIs, a_nonterminal, a_character, an_empty, parenthesised, InsideIs, inside}
use Rattle.notation.specs.Productions.{ContentIs, nothing, something}
use Rattle.reading.specs.Machine.{and_then, walk}
use Rattle.reading.specs.Statements.{Listing, list_start, step_statements, value_of_list}
use Rattle.reading.specs.Expressions.{ExpressionPart, a_leaf, nonterminal?, atom_if, piece_of, ExpressionLevel, expression_level, fresh_expression, joined_cat, joined_alt, whole_expression, one_of, fronted_with, fronted, Parsing, wants, in_front, after, behind, over, expression_opened, expression_closed, braced, backed, step_piece, step_expression, whole_value, empty_value, value_of_content}
use Rattle.reading.proofs.Braces.{braces_walk}

atom_if_lem : {P : Type 0} (d : Dec P) (k : Atom) → P → atom_if d k ≡ a_leaf (some k)
atom_if_lem (yes h) k p = refl
atom_if_lem (no h) k p = absurd (h p)

abbrev go : Parsing → List TextToken → Option Parsing
go s ts = walk step_expression s ts

front_walk : {ts : List TextToken} {p : TextProgram} → ListIs first ts p → (ls : List ExpressionLevel) (rest : List TextToken)
    → go (in_front list_start ls) (ts ++ sign UNBRACE ∷ rest) ≡ go (wants false (expression_level (some p) none none) ls) rest
front_walk h ls rest = braces_walk step_expression first (λ q. in_front q ls) (λ p. wants false (expression_level (some p) none none) ls) (λ q t. refl) h rest

back_walk : {ts : List TextToken} {p : TextProgram} → ListIs second ts p → (f : Option TextProgram) (k : Form) (ls : List ExpressionLevel) (rest : List TextToken)
    → go (behind list_start f k ls) (ts ++ sign UNBRACE ∷ rest) ≡ go (over (node f (some p) k) ls) rest
back_walk h f k ls rest = braces_walk step_expression second (λ q. behind q f k ls) (λ p. over (node f (some p) k) ls) (λ q t. refl) h rest

one_of_lem : {b o r : Option TextProgram} → AtMostOne b o r → one_of b o ≡ some r
one_of_lem inner = refl
one_of_lem outer = refl

-- a state at which what stands between parentheses may end
pub record InsideEnd (s : Parsing) (ls : List ExpressionLevel) (e : Tree) : Type 0 where
  pub close_step : step_expression s (sign CLOSE) ≡ expression_closed ls (some e)
  pub value_is : value_of_content s ≡ whole_value ls (some e)

open_step : (b : Bool) (l : ExpressionLevel) (ls : List ExpressionLevel) → length ls < parentheses → step_expression (wants b l ls) (sign OPEN) ≡ some (wants true fresh_expression (l ∷ ls))
open_step b l ls h = ap (λ x. expression_opened x l ls) (lt-ltb (length ls) parentheses h)

-- the braces in front and behind
front : {fs : List TextToken} {before : Option TextProgram} → BracesAre first fs before → (ls : List ExpressionLevel) (more : List TextToken)
    → (b : Bool) × (go (wants true fresh_expression ls) (fs ++ more) ≡ go (wants b (expression_level before none none) ls) more)
front absent ls more = (true, refl)
front (braces {ts = ts} h) ls more = (false, ap (go (in_front list_start ls)) (append_assoc ts (sign UNBRACE ∷ []) more) ∙ front_walk h ls more)

whole_fronted : {before f f' : Option TextProgram} (g : Option TextProgram) (k : Form) {t : Tree} → AtMostOne before f f' → t ≡ node f g k → fronted before t ≡ some (node f' g k)
whole_fronted {before = before} g k x e = ap (fronted before) e ∙ ap (λ o. fronted_with o g k) (one_of_lem x)

back : {gs : List TextToken} {before after' f f' g g' : Option TextProgram} {k : Form} → BracesAre second gs after' → AtMostOne before f f' → AtMostOne after' g g'
    → (z : Tree) (l : ExpressionLevel) → whole_expression l z ≡ node f g k → (ls : List ExpressionLevel) (rest : List TextToken) → l.before ≡ before
    → (s : Parsing) × (go (after z l ls) (gs ++ rest) ≡ go s rest) × InsideEnd s ls (node f' g' k)
back {g = g} {k = k} absent x inner z l h ls rest same =
    let e = ap (λ b. fronted b (whole_expression l z)) same ∙ whole_fronted g k x h in
    (after z l ls, refl, record { close_step = ap (expression_closed ls) e; value_is = ap (whole_value ls) e })
back {f' = f'} {k = k} (braces {ts = ts} {p = p} q) x outer z l h ls rest same =
    let e = ap (λ b. fronted b (whole_expression l z)) same ∙ whole_fronted none k x h in (
      over (node f' (some p) k) ls,
      ap (λ o. and_then (backed o ls) (λ s. go s ((ts ++ sign UNBRACE ∷ []) ++ rest))) e
          ∙ ap (go (behind list_start f' k ls)) (append_assoc ts (sign UNBRACE ∷ []) rest)
          ∙ back_walk q f' k ls rest,
      record { close_step = refl; value_is = refl },
    )

mutual
  primary_walk : {q : ℕ} {ts : List TextToken} {e : Tree} → PrimaryIs q ts e → (b : Bool) (l : ExpressionLevel) (ls : List ExpressionLevel) (rest : List TextToken) → q + length ls ≤ parentheses
      → go (wants b l ls) (ts ++ rest) ≡ go (after e l ls) rest
  primary_walk (a_nonterminal {n = n} h) b l ls rest r = ap (λ k. and_then (step_piece (wants b l ls) k) (λ s. go s rest)) (atom_if_lem (nonterminal? n) (Atom.nonterminal n) h)
  primary_walk a_character b l ls rest r = refl
  primary_walk an_empty b l ls rest r = refl
  primary_walk (parenthesised {ts = ts} i e) b l ls rest r =
      let w = inside_walk i (l ∷ ls) (sign CLOSE ∷ rest) (omega arith) in
      ap (λ x. go (wants b l ls) (x ++ rest)) e
      ∙ ap (λ o. and_then o (λ s. go s ((ts ++ sign CLOSE ∷ []) ++ rest))) (open_step b l ls (omega arith))
      ∙ ap (go (wants true fresh_expression (l ∷ ls))) (append_assoc ts (sign CLOSE ∷ []) rest)
      ∙ w.1
      ∙ ap (λ o. and_then o (λ s. go s rest)) w.2.close_step

  starred_walk : {q : ℕ} {ts : List TextToken} {e : Tree} → StarredIs q ts e → (b : Bool) (l : ExpressionLevel) (ls : List ExpressionLevel) (rest : List TextToken) → q + length ls ≤ parentheses
      → go (wants b l ls) (ts ++ rest) ≡ go (after e l ls) rest
  starred_walk (no_star p) b l ls rest r = primary_walk p b l ls rest r
  starred_walk (stars {ts = ts} s e) b l ls rest r =
      ap (λ x. go (wants b l ls) (x ++ rest)) e ∙ ap (go (wants b l ls)) (append_assoc ts (sign STAR ∷ []) rest) ∙ starred_walk s b l ls (sign STAR ∷ rest) r

  cat_walk : {q : ℕ} {ts : List TextToken} {e : Tree} → CatIs q ts e → (b : Bool) (f : Option TextProgram) (a : Option Tree) (ls : List ExpressionLevel) (rest : List TextToken) → q + length ls ≤ parentheses
      → (x : Tree) × (c : Option Tree) × (joined_cat c x ≡ e) × (go (wants b (expression_level f a none) ls) (ts ++ rest) ≡ go (after x (expression_level f a c) ls) rest)
  cat_walk (no_dot {e = e} s) b f a ls rest r = (e, none, refl, starred_walk s b (expression_level f a none) ls rest r)
  cat_walk (dot {ts = ts} {us = us} {f = y} d s e) b f a ls rest r =
      let w = cat_walk d b f a ls (sign DOT ∷ (us ++ rest)) r in
      let x = joined_cat w.1 w.0 in (
        y,
        some x,
        ap (λ z. node none none (cat z y)) w.2,
        ap (λ z. go (wants b (expression_level f a none) ls) (z ++ rest)) e ∙ ap (go (wants b (expression_level f a none) ls)) (append_assoc ts (sign DOT ∷ us) rest) ∙ w.3 ∙ starred_walk s false (expression_level f a (some x)) ls rest r,
      )

  union_walk : {q : ℕ} {ts : List TextToken} {e : Tree} → UnionIs q ts e → (b : Bool) (f : Option TextProgram) (ls : List ExpressionLevel) (rest : List TextToken) → q + length ls ≤ parentheses
      → (x : Tree) × (a c : Option Tree) × (whole_expression (expression_level f a c) x ≡ e) × (go (wants b (expression_level f none none) ls) (ts ++ rest) ≡ go (after x (expression_level f a c) ls) rest)
  union_walk (no_bar c) b f ls rest r = let w = cat_walk c b f none ls rest r in (w.0, none, w.1, w.2, w.3)
  union_walk (bar {ts = ts} {us = us} {f = y} u c e) b f ls rest r =
      let w = union_walk u b f ls (sign BAR ∷ (us ++ rest)) r in
      let x = whole_expression (expression_level f w.1 w.2) w.0 in
      let d = cat_walk c false f (some x) ls rest r in (
        d.0,
        some x,
        d.1,
        ap (λ z. node none none (alt x z)) d.2 ∙ ap (λ z. node none none (alt z y)) w.3,
        ap (λ z. go (wants b (expression_level f none none) ls) (z ++ rest)) e ∙ ap (go (wants b (expression_level f none none) ls)) (append_assoc ts (sign BAR ∷ us) rest) ∙ w.4 ∙ d.3,
      )

  pub inside_walk : {q : ℕ} {ts : List TextToken} {e : Tree} → InsideIs q ts e → (ls : List ExpressionLevel) (rest : List TextToken) → q + length ls ≤ parentheses
      → (s : Parsing) × (go (wants true fresh_expression ls) (ts ++ rest) ≡ go s rest) × InsideEnd s ls e
  inside_walk (inside {fs = fs} {ts = ts} {gs = gs} {before = before} bs u cs x y e) ls rest r =
      let f = front bs ls (ts ++ (gs ++ rest)) in
      let w = union_walk u f.0 before ls (gs ++ rest) r in
      let b = back cs x y w.0 (expression_level before w.1 w.2) w.3 ls rest refl in (
        b.0,
        ap (λ z. go (wants true fresh_expression ls) (z ++ rest)) e
            ∙ ap (go (wants true fresh_expression ls)) (append_assoc fs (ts ++ gs) rest ∙ ap (λ z. fs ++ z) (append_assoc ts gs rest))
            ∙ f.1 ∙ w.4 ∙ b.1,
        b.2,
      )

-- a content is walked to its end, where no further ) is taken
pub content_walk : {ts : List TextToken} {e : Option Tree} → ContentIs ts e → (s : Parsing) × (go (wants true fresh_expression []) ts ≡ some s) × (value_of_content s ≡ some e) × (step_expression s (sign CLOSE) ≡ none)
content_walk nothing = (wants true fresh_expression [], refl, refl, refl)
content_walk (something {ts = ts} i) =
    let w = inside_walk i [] [] (omega arith) in
    (w.0, rw append-nil at w.1, w.2.value_is, w.2.close_step)
