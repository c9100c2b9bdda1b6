-- What the machine of expressions has read: its levels, operands and programs are those of the tokens so far. Assumes nothing.
use mathlib.Core.Path.{◌≡◌, refl, sym, ◌∙◌, ap, subst}
use mathlib.Core.Bool.{Bool, true, false}
use mathlib.Core.Option.{Option, none, some}
use mathlib.Core.List.{List, [], ◌∷◌, ◌++◌, append_assoc, append-nil}
use Prim.Native.Nat.{ℕ, zero, suc, ◌+◌, ◌≤◌, ◌<◌}
use native.Mathlib.Omega.{arith}
use lib.Dec.{ltb}
use lib.ListN.{length}
use borrow.Author.Tests.{ltb-true}
use Rattle.expressions.specs.Expr.{Atom, anychar}
use Rattle.expressions.specs.Grammar.{nonterminals}
use Rattle.programs.specs.Limits.{first, second}
use Rattle.notation.specs.Program.{TextProgram}
use Rattle.notation.specs.Rules.{Tree, node, Form, atom, cat, alt, star}
use Rattle.notation.specs.Tokens.{TextToken, nonterminal, value, attribute, name, start_tag, end_tag, empty_tag, string, word, Keyword, CHAR, ECHO, ECHO-OFF, REJECT, PRINT, IF, THEN, ELSE, BEGIN, END, AND, OR, NOT, EMPTY, sign, Sign, DEFINED, ASSIGNED, OPEN, CLOSE, BRACE, UNBRACE, DOT, BAR, STAR, SEMICOLON, EQUALS}
use Rattle.notation.specs.Statements.{parentheses, ListIs, BracesAre, absent, braces}
use Rattle.notation.specs.Expressions.{AtMostOne, inner, outer, UnionIs, no_bar, bar, CatIs, no_dot, dot, StarredIs, no_star, stars, PrimaryIs, a_nonterminal, a_character, an_empty, parenthesised, InsideIs, inside}
use Rattle.notation.specs.Productions.{ContentIs, nothing, something}
use Rattle.reading.specs.Statements.{Listing, list_start, step_statements, value_of_list, finished_list}
use Rattle.reading.specs.Expressions.{ExpressionPart, a_leaf, a_star, a_dot, a_bar, an_open, a_close, a_brace, an_unbrace, other, nonterminal?, atom_if, word_piece, sign_piece, piece_of, ExpressionLevel, expression_level, fresh_expression, joined_cat, joined_alt, whole_expression, one_of, fronted_with, fronted, sealed_with, sealed, around_expression, Parsing, wants, in_front, after, behind, over, expression_opened, expression_closed, braced, backed, leaf_form, step_piece, unbraces, listing, step_expression, whole_value, empty_value, value_of_content, placeholder, shortest_at, finished_content}
use Rattle.reading.proofs.Telling.{none≢some, IfSome}
use Rattle.reading.proofs.StatementHeld.{Held as ListHeld, HeldIf as ListHeldIf, held_step as list_held_step, held_start as list_held_start, held_value as list_held_value, held_shortest as list_held_shortest}

-- what a token is in an expression
abbrev pub PieceIs : TextToken → ExpressionPart → Type 0
PieceIs t (a_leaf k) = (q : ℕ) → PrimaryIs q (t ∷ []) (node none none (leaf_form k))
PieceIs t a_star = t ≡ sign STAR
PieceIs t a_dot = t ≡ sign DOT
PieceIs t a_bar = t ≡ sign BAR
PieceIs t an_open = t ≡ sign OPEN
PieceIs t a_close = t ≡ sign CLOSE
PieceIs t a_brace = t ≡ sign BRACE
PieceIs t an_unbrace = t ≡ sign UNBRACE
PieceIs t other = Unit {0}

nonterminal_piece : (n : ℕ) (d : Dec (n < nonterminals)) → PieceIs (nonterminal n) (atom_if d (Atom.nonterminal n))
nonterminal_piece n (yes h) = λ q. a_nonterminal h
nonterminal_piece n (no h) = tt

word_piece_lem : (w : Keyword) → PieceIs (word w) (word_piece w)
word_piece_lem CHAR = λ q. a_character
word_piece_lem ECHO = tt
word_piece_lem ECHO-OFF = tt
word_piece_lem REJECT = tt
word_piece_lem PRINT = tt
word_piece_lem IF = tt
word_piece_lem THEN = tt
word_piece_lem ELSE = tt
word_piece_lem BEGIN = tt
word_piece_lem END = tt
word_piece_lem AND = tt
word_piece_lem OR = tt
word_piece_lem NOT = tt
word_piece_lem EMPTY = λ q. an_empty

sign_piece_lem : (s : Sign) → PieceIs (sign s) (sign_piece s)
sign_piece_lem DEFINED = tt
sign_piece_lem ASSIGNED = tt
sign_piece_lem OPEN = refl
sign_piece_lem CLOSE = refl
sign_piece_lem BRACE = refl
sign_piece_lem UNBRACE = refl
sign_piece_lem DOT = refl
sign_piece_lem BAR = refl
sign_piece_lem STAR = refl
sign_piece_lem SEMICOLON = tt
sign_piece_lem EQUALS = tt

pub piece_is : (t : TextToken) → PieceIs t (piece_of t)
piece_is (nonterminal n) = nonterminal_piece n (nonterminal? n)
piece_is (value n) = tt
piece_is (attribute m a) = tt
piece_is (name n) = tt
piece_is (start_tag n) = tt
piece_is (end_tag n) = tt
piece_is (empty_tag n) = tt
piece_is (string cs) = tt
piece_is (word w) = word_piece_lem w
piece_is (sign s) = sign_piece_lem s

abbrev pub AltHeld : ℕ → Option Tree → List TextToken → Type 0
AltHeld q none ts = ts ≡ []
AltHeld q (some e) ts = (us : List TextToken) × UnionIs q us e × (ts ≡ us ++ sign BAR ∷ [])

abbrev pub CatHeld : ℕ → Option Tree → List TextToken → Type 0
CatHeld q none ts = ts ≡ []
CatHeld q (some e) ts = (us : List TextToken) × CatIs q us e × (ts ≡ us ++ sign DOT ∷ [])

pub record LevelHeld (q : ℕ) (l : ExpressionLevel) (ts : List TextToken) : Type 0 where
  pub fronts : List TextToken
  pub alts : List TextToken
  pub cats : List TextToken
  pub front_held : BracesAre first fronts l.before
  pub alt_held : AltHeld q l.alt_left alts
  pub cat_held : CatHeld q l.cat_left cats
  pub are : ts ≡ fronts ++ (alts ++ cats)

abbrev pub Around : List ExpressionLevel → ℕ → List TextToken → Type 0
Around [] q ts = (q ≡ parentheses) × (ts ≡ [])
Around (l ∷ ls) q ts = (us ws : List TextToken) × Around ls (suc q) us × LevelHeld (suc q) l ws × (ts ≡ us ++ (ws ++ sign OPEN ∷ []))

pub record Slot (q : ℕ) (l : ExpressionLevel) (ls : List ExpressionLevel) (ts tail : List TextToken) : Type 0 where
  pub outers : List TextToken
  pub inners : List TextToken
  pub outer_held : Around ls q outers
  pub inner_held : LevelHeld q l inners
  pub are : ts ≡ outers ++ (inners ++ tail)

-- something inside the levels around
pub record Within (X : ℕ → List TextToken → Type 0) (ls : List ExpressionLevel) (ts : List TextToken) : Type 0 where
  pub left_to_open : ℕ
  pub outers : List TextToken
  pub last : List TextToken
  pub outer_held : Around ls left_to_open outers
  pub last_held : X left_to_open last
  pub are : ts ≡ outers ++ last

abbrev pub FlagHeld : Bool → List ExpressionLevel → List TextToken → Type 0
FlagHeld true ls ts = (q : ℕ) × Around ls q ts
FlagHeld false ls ts = Unit {0}

abbrev pub InFront : Listing → ℕ → List TextToken → Type 0
InFront s q ts = (us : List TextToken) × ListHeld first s us × (ts ≡ sign BRACE ∷ us)

-- all but the program behind
abbrev pub Begun : ℕ → Option TextProgram → Form → List TextToken → Type 0
Begun q f k ts = (gs : List TextToken) (p : TextProgram) → BracesAre second gs (some p) → InsideIs q (ts ++ gs) (node f (some p) k)

abbrev pub InBehind : Listing → Option TextProgram → Form → ℕ → List TextToken → Type 0
InBehind s f k q ts = (ws us : List TextToken) × Begun q f k ws × ListHeld second s us × (ts ≡ ws ++ sign BRACE ∷ us)

abbrev pub Held : Parsing → List TextToken → Type 0
Held (wants b l ls) ts = (q : ℕ) × Slot q l ls ts [] × FlagHeld b ls ts
Held (in_front s ls) ts = Within (InFront s) ls ts
Held (after e l ls) ts = (q : ℕ) × (us : List TextToken) × StarredIs q us e × Slot q l ls ts us
Held (behind s f k ls) ts = Within (InBehind s f k) ls ts
Held (over e ls) ts = Within (λ q us. InsideIs q us e) ls ts

abbrev pub HeldIf : Option Parsing → List TextToken → Type 0
HeldIf o ts = IfSome (λ s. Held s ts) o

cat_with : (c : Option Tree) (ts : List TextToken) {q : ℕ} {us : List TextToken} {e : Tree} → CatHeld q c ts → StarredIs q us e → CatIs q (ts ++ us) (joined_cat c e)
cat_with none ts h s = rw h (no_dot s)
cat_with (some d) ts {us = us} (ws, b, e) s = dot b s (ap (λ w. w ++ us) e ∙ append_assoc ws (sign DOT ∷ []) us)

alt_with : (a : Option Tree) (ts : List TextToken) {q : ℕ} {us : List TextToken} {e : Tree} → AltHeld q a ts → CatIs q us e → UnionIs q (ts ++ us) (joined_alt a e)
alt_with none ts h s = rw h (no_bar s)
alt_with (some d) ts {us = us} (ws, b, e) s = bar b s (ap (λ w. w ++ us) e ∙ append_assoc ws (sign BAR ∷ []) us)

level_union : {q : ℕ} {l : ExpressionLevel} {ts us : List TextToken} {e : Tree} (h : LevelHeld q l ts) → StarredIs q us e → UnionIs q (h.alts ++ (h.cats ++ us)) (whole_expression l e)
level_union {l = l} h s = alt_with l.alt_left h.alts h.alt_held (cat_with l.cat_left h.cats h.cat_held s)

at_most : (b o r : Option TextProgram) → one_of b o ≡ some r → AtMostOne b o r
at_most none o r e = let same : o ≡ r = cc in subst (AtMostOne none o) same inner
at_most (some p) none r e = let same : some p ≡ r = cc in subst (AtMostOne (some p) none) same outer
at_most (some p) (some o) r e = absurd (none≢some refl e)

at_most_none : (b : Option TextProgram) → AtMostOne b none b
at_most_none none = inner
at_most_none (some p) = outer

inside_of : {q : ℕ} {fs ts : List TextToken} (b : Option TextProgram) (t t' : Tree) → BracesAre first fs b → UnionIs q ts t → fronted b t ≡ some t' → InsideIs q (fs ++ ts) t'
inside_of {q} {fs} {ts} b (node f g k) t' h u e = on (one_of b f) refl e
  where
    on : (o : Option (Option TextProgram)) → one_of b f ≡ o → fronted_with o g k ≡ some t' → InsideIs q (fs ++ ts) t'
    on none i j = absurd (none≢some refl j)
    on (some o) i j =
        let same : node o g k ≡ t' = cc in
        subst (InsideIs q (fs ++ ts)) same (inside h u absent (at_most b f o i) inner (ap (λ w. fs ++ w) (sym (append-nil ts))))

-- with a star where a second program stands in front
sealed_of : {q : ℕ} {fs ts : List TextToken} (b : Option TextProgram) (t : Tree) → BracesAre first fs b → UnionIs q ts t → (fronted b t ≡ none → UnionIs q (ts ++ sign STAR ∷ []) (node none none (star t)))
    → (more : List TextToken) × InsideIs q (fs ++ (ts ++ more)) (sealed b t)
sealed_of {q} {fs} {ts} b (node f g k) h u s = on (one_of b f) refl
  where
    on : (o : Option (Option TextProgram)) → one_of b f ≡ o → (more : List TextToken) × InsideIs q (fs ++ (ts ++ more)) (sealed_with o b f g k)
    on none i = (sign STAR ∷ [], inside h (s (ap (λ o. fronted_with o g k) i)) absent (at_most_none b) inner (ap (λ w. fs ++ w) (sym (append-nil (ts ++ sign STAR ∷ [])))))
    on (some o) i = ([], inside h u absent (at_most b f o i) inner refl)

one_of_none : (b : Option TextProgram) → one_of b none ≡ some b
one_of_none none = refl
one_of_none (some p) = refl

-- an operator has no program yet
free : (b : Option TextProgram) (k : Form) → fronted b (node none none k) ≡ none → ⊥
free b k e = none≢some e (ap (λ o. fronted_with o none k) (one_of_none b))

sealed_star : {q : ℕ} {us : List TextToken} {e : Tree} (b : Option TextProgram) (a c : Option Tree) (alts cats : List TextToken) → AltHeld q a alts → CatHeld q c cats → StarredIs q us e
    → fronted b (whole_expression (expression_level b a c) e) ≡ none → UnionIs q ((alts ++ (cats ++ us)) ++ sign STAR ∷ []) (node none none (star (whole_expression (expression_level b a c) e)))
sealed_star {e = e} b (some a) c alts cats x y s h = absurd (free b (alt a (joined_cat c e)) h)
sealed_star {e = e} b none (some c) alts cats x y s h = absurd (free b (cat c e) h)
sealed_star {us = us} b none none alts cats x y s h = no_bar (no_dot (stars s (ap (λ w. w ++ sign STAR ∷ []) (ap (λ w. w ++ (cats ++ us)) x ∙ ap (λ w. w ++ us) y))))

sealed_level : {q : ℕ} {l : ExpressionLevel} {ts us : List TextToken} {e : Tree} → LevelHeld q l ts → StarredIs q us e → (more : List TextToken) × InsideIs q (ts ++ (us ++ more)) (sealed l.before (whole_expression l e))
sealed_level {q} {l} {ts} {us} {e} h s =
    let r = sealed_of l.before (whole_expression l e) h.front_held (level_union h s) (sealed_star l.before l.alt_left l.cat_left h.alts h.cats h.alt_held h.cat_held s) in
    (r.0, subst (λ z. InsideIs q z (sealed l.before (whole_expression l e))) (sym (ap (λ z. z ++ (us ++ r.0)) h.are ∙ simp append_assoc)) r.1)

left_over : (ls : List ExpressionLevel) (q : ℕ) (ts : List TextToken) → Around ls q ts → q + length ls ≡ parentheses
left_over [] q ts (e, h) = omega arith
left_over (l ∷ ls) q ts (us, ws, a, h, e) = omega (arith, left_over ls (suc q) us a)

closing : (ls : List ExpressionLevel) (q : ℕ) (us ts : List TextToken) (e : Tree) → Around ls q us → InsideIs q ts e → (rest : List TextToken) × InsideIs parentheses (us ++ (ts ++ rest)) (around_expression ls e)
closing [] q us ts e (i, h) s = ([], rw (h, append-nil, ← i) s)
closing (l ∷ ls) q us ts e (os, ws, a, h, i) s =
    let m = sealed_level h (no_star (parenthesised s refl)) in
    let r = closing ls (suc q) os (ws ++ ((sign OPEN ∷ (ts ++ sign CLOSE ∷ [])) ++ m.0)) (sealed l.before (whole_expression l e)) a m.1 in
    (sign CLOSE ∷ (m.0 ++ r.0), rw i (simp append_assoc (simp append_assoc at r.1)))

slot_closing : (q : ℕ) (l : ExpressionLevel) (ls : List ExpressionLevel) (ts tail more : List TextToken) (e : Tree) → Slot q l ls ts tail → StarredIs q (tail ++ more) e
    → (rest : List TextToken) × InsideIs parentheses (ts ++ rest) (around_expression (l ∷ ls) e)
slot_closing q l ls ts tail more e h s =
    let m = sealed_level h.inner_held s in
    let r = closing ls q h.outers (h.inners ++ ((tail ++ more) ++ m.0)) (sealed l.before (whole_expression l e)) h.outer_held m.1 in
    (more ++ (m.0 ++ r.0), rw h.are (simp append_assoc (simp append_assoc at r.1)))

longer : {q : ℕ} {l : ExpressionLevel} {ls : List ExpressionLevel} {ts tail : List TextToken} → Slot q l ls ts tail → (more : List TextToken) → Slot q l ls (ts ++ more) (tail ++ more)
longer h more = record { outers = h.outers; inners = h.inners; outer_held = h.outer_held; inner_held = h.inner_held; are = ap (λ w. w ++ more) h.are ∙ simp append_assoc }

nothing_held : (q : ℕ) → LevelHeld q fresh_expression []
nothing_held q = record { fronts = []; alts = []; cats = []; front_held = absent; alt_held = refl; cat_held = refl; are = refl }

open_held : (b : Bool) (q : ℕ) (l : ExpressionLevel) (ls : List ExpressionLevel) (ts : List TextToken) → ltb (length ls) parentheses ≡ b → Slot q l ls ts [] → HeldIf (expression_opened b l ls) (ts ++ sign OPEN ∷ [])
open_held false q l ls ts e h = tt
open_held true q l ls ts e h = deeper q h.outer_held h.inner_held (left_over ls q h.outers h.outer_held)
  where
    deeper : (q : ℕ) → Around ls q h.outers → LevelHeld q l h.inners → q + length ls ≡ parentheses → Held (wants true fresh_expression (l ∷ ls)) (ts ++ sign OPEN ∷ [])
    deeper zero a i n = absurd (omega (arith, ltb-true (length ls) parentheses e))
    deeper (suc q) a i n =
        let o : Around (l ∷ ls) q (ts ++ sign OPEN ∷ []) = (h.outers, h.inners, a, i, ap (λ w. w ++ sign OPEN ∷ []) h.are ∙ simp (append_assoc, append-nil)) in
        (q, record { outers = ts ++ sign OPEN ∷ []; inners = []; outer_held = o; inner_held = nothing_held q; are = sym (append-nil (ts ++ sign OPEN ∷ [])) }, (q, o))

brace_held : (b : Bool) (ls : List ExpressionLevel) (ts : List TextToken) → FlagHeld b ls ts → HeldIf (braced b ls) (ts ++ sign BRACE ∷ [])
brace_held false ls ts h = tt
brace_held true ls ts (q, a) = record { left_to_open = q; outers = ts; last = sign BRACE ∷ []; outer_held = a; last_held = ([], list_held_start first, refl); are = refl }

-- what is between parentheses, and a ) behind it
close_held : (ls : List ExpressionLevel) (o : Option Tree) (ts : List TextToken) → ((e : Tree) → o ≡ some e → Within (λ q us. InsideIs q us e) ls ts) → HeldIf (expression_closed ls o) (ts ++ sign CLOSE ∷ [])
close_held ls none ts h = tt
close_held [] (some e) ts h = tt
close_held (l ∷ ls) (some e) ts h = out (h e refl)
  where
    out : Within (λ q us. InsideIs q us e) (l ∷ ls) ts → Held (after e l ls) (ts ++ sign CLOSE ∷ [])
    out w = at w.outer_held
      where
        at : Around (l ∷ ls) w.left_to_open w.outers → Held (after e l ls) (ts ++ sign CLOSE ∷ [])
        at (os, ws, a, i, j) = (
          suc w.left_to_open,
          sign OPEN ∷ (w.last ++ sign CLOSE ∷ []),
          no_star (parenthesised w.last_held refl),
          record { outers = os; inners = ws; outer_held = a; inner_held = i; are = ap (λ x. x ++ sign CLOSE ∷ []) (w.are ∙ ap (λ x. x ++ w.last) j) ∙ simp append_assoc },
        )

after_inside : (q : ℕ) (e : Tree) (l : ExpressionLevel) (ls : List ExpressionLevel) (us ts : List TextToken) → StarredIs q us e → Slot q l ls ts us → (t : Tree) → fronted l.before (whole_expression l e) ≡ some t → Within (λ q us. InsideIs q us t) ls ts
after_inside q e l ls us ts s h t i =
    let n = h.inner_held in
    record {
      left_to_open = q;
      outers = h.outers;
      last = n.fronts ++ (n.alts ++ (n.cats ++ us));
      outer_held = h.outer_held;
      last_held = inside_of l.before (whole_expression l e) t n.front_held (level_union n s) i;
      are = h.are ∙ ap (λ x. h.outers ++ (x ++ us)) n.are ∙ simp append_assoc;
    }

begun_of : {q : ℕ} {fs ts : List TextToken} (b : Option TextProgram) (t : Tree) (f : Option TextProgram) (k : Form) → BracesAre first fs b → UnionIs q ts t → fronted b t ≡ some (node f none k) → Begun q f k (fs ++ ts)
begun_of {q} {fs} {ts} b (node f' g k') f k h u e = on (one_of b f') refl e
  where
    on : (o : Option (Option TextProgram)) → one_of b f' ≡ o → fronted_with o g k' ≡ some (node f none k) → Begun q f k (fs ++ ts)
    on none i j = absurd (none≢some refl j)
    on (some o) i j = λ gs p x.
        let of : o ≡ f = cc in
        let og : g ≡ none = cc in
        let ok : k' ≡ k = cc in
        inside h (subst (λ z. UnionIs q ts (node f' g z)) ok u) x (at_most b f' f (i ∙ ap some of)) (subst (λ z. AtMostOne (some p) z (some p)) (sym og) outer) (append_assoc fs ts gs)

back_held : (o : Option Tree) (ls : List ExpressionLevel) (ts : List TextToken) → ((f : Option TextProgram) (k : Form) → o ≡ some (node f none k) → Within (λ q us. Begun q f k us) ls ts) → HeldIf (backed o ls) (ts ++ sign BRACE ∷ [])
back_held none ls ts h = tt
back_held (some (node f (some g) k)) ls ts h = tt
back_held (some (node f none k)) ls ts h =
    let w = h f k refl in
    record {
      left_to_open = w.left_to_open;
      outers = w.outers;
      last = w.last ++ sign BRACE ∷ [];
      outer_held = w.outer_held;
      last_held = (w.last, [], w.last_held, list_held_start second, refl);
      are = ap (λ x. x ++ sign BRACE ∷ []) w.are ∙ append_assoc w.outers w.last (sign BRACE ∷ []);
    }

after_begun : (q : ℕ) (e : Tree) (l : ExpressionLevel) (ls : List ExpressionLevel) (us ts : List TextToken) → StarredIs q us e → Slot q l ls ts us → (f : Option TextProgram) (k : Form) → fronted l.before (whole_expression l e) ≡ some (node f none k)
    → Within (λ q us. Begun q f k us) ls ts
after_begun q e l ls us ts s h f k i =
    let n = h.inner_held in
    record {
      left_to_open = q;
      outers = h.outers;
      last = n.fronts ++ (n.alts ++ (n.cats ++ us));
      outer_held = h.outer_held;
      last_held = begun_of l.before (whole_expression l e) f k n.front_held (level_union n s) i;
      are = h.are ∙ ap (λ x. h.outers ++ (x ++ us)) n.are ∙ simp append_assoc;
    }

dot_held : (q : ℕ) (e : Tree) (l : ExpressionLevel) (ls : List ExpressionLevel) (us ts : List TextToken) → StarredIs q us e → Slot q l ls ts us → Slot q (expression_level l.before l.alt_left (some (joined_cat l.cat_left e))) ls (ts ++ sign DOT ∷ []) []
dot_held q e l ls us ts s h =
    let n = h.inner_held in
    record {
      outers = h.outers;
      inners = n.fronts ++ (n.alts ++ ((n.cats ++ us) ++ sign DOT ∷ []));
      outer_held = h.outer_held;
      inner_held = record {
        fronts = n.fronts;
        alts = n.alts;
        cats = (n.cats ++ us) ++ sign DOT ∷ [];
        front_held = n.front_held;
        alt_held = n.alt_held;
        cat_held = (n.cats ++ us, cat_with l.cat_left n.cats n.cat_held s, refl);
        are = refl;
      };
      are = ap (λ x. x ++ sign DOT ∷ []) (h.are ∙ ap (λ x. h.outers ++ (x ++ us)) n.are) ∙ simp (append_assoc, append-nil);
    }

bar_held : (q : ℕ) (e : Tree) (l : ExpressionLevel) (ls : List ExpressionLevel) (us ts : List TextToken) → StarredIs q us e → Slot q l ls ts us → Slot q (expression_level l.before (some (whole_expression l e)) none) ls (ts ++ sign BAR ∷ []) []
bar_held q e l ls us ts s h =
    let n = h.inner_held in
    record {
      outers = h.outers;
      inners = n.fronts ++ ((n.alts ++ (n.cats ++ us)) ++ sign BAR ∷ []);
      outer_held = h.outer_held;
      inner_held = record {
        fronts = n.fronts;
        alts = (n.alts ++ (n.cats ++ us)) ++ sign BAR ∷ [];
        cats = [];
        front_held = n.front_held;
        alt_held = (n.alts ++ (n.cats ++ us), level_union n s, refl);
        cat_held = refl;
        are = ap (λ x. n.fronts ++ x) (sym (append-nil ((n.alts ++ (n.cats ++ us)) ++ sign BAR ∷ [])));
      };
      are = ap (λ x. x ++ sign BAR ∷ []) (h.are ∙ ap (λ x. h.outers ++ (x ++ us)) n.are) ∙ simp (append_assoc, append-nil);
    }

piece_held : (s : Parsing) (k : ExpressionPart) (t : TextToken) (ts : List TextToken) → PieceIs t k → Held s ts → HeldIf (step_piece s k) (ts ++ t ∷ [])
piece_held (wants b l ls) (a_leaf k) t ts i (q, h, g) = (q, t ∷ [], no_star (i q), longer h (t ∷ []))
piece_held (wants b l ls) a_star t ts i h = tt
piece_held (wants b l ls) a_dot t ts i h = tt
piece_held (wants b l ls) a_bar t ts i h = tt
piece_held (wants b l ls) an_open t ts i (q, h, g) = rw i (open_held (ltb (length ls) parentheses) q l ls ts refl h)
piece_held (wants b l ls) a_close t ts i h = tt
piece_held (wants b l ls) a_brace t ts i (q, h, g) = rw i (brace_held b ls ts g)
piece_held (wants b l ls) an_unbrace t ts i h = tt
piece_held (wants b l ls) other t ts i h = tt
piece_held (in_front s ls) k t ts i h = tt
piece_held (after e l ls) (a_leaf k) t ts i h = tt
piece_held (after e l ls) a_star t ts i (q, us, s, h) = rw i (q, us ++ sign STAR ∷ [], stars s refl, longer h (sign STAR ∷ []))
piece_held (after e l ls) a_dot t ts i (q, us, s, h) = rw i (q, dot_held q e l ls us ts s h, tt)
piece_held (after e l ls) a_bar t ts i (q, us, s, h) = rw i (q, bar_held q e l ls us ts s h, tt)
piece_held (after e l ls) an_open t ts i h = tt
piece_held (after e l ls) a_close t ts i (q, us, s, h) = rw i (close_held ls (fronted l.before (whole_expression l e)) ts (after_inside q e l ls us ts s h))
piece_held (after e l ls) a_brace t ts i (q, us, s, h) = rw i (back_held (fronted l.before (whole_expression l e)) ls ts (after_begun q e l ls us ts s h))
piece_held (after e l ls) an_unbrace t ts i h = tt
piece_held (after e l ls) other t ts i h = tt
piece_held (behind s f k ls) j t ts i h = tt
piece_held (over e ls) (a_leaf k) t ts i h = tt
piece_held (over e ls) a_star t ts i h = tt
piece_held (over e ls) a_dot t ts i h = tt
piece_held (over e ls) a_bar t ts i h = tt
piece_held (over e ls) an_open t ts i h = tt
piece_held (over e ls) a_close t ts i h = rw i (close_held ls (some e) ts (λ x j. let same : e ≡ x = cc in subst (λ z. Within (λ q us. InsideIs q us z) ls ts) same h))
piece_held (over e ls) a_brace t ts i h = tt
piece_held (over e ls) an_unbrace t ts i h = tt
piece_held (over e ls) other t ts i h = tt

front_held_on : (ls : List ExpressionLevel) (ts us : List TextToken) (p : TextProgram) → ListIs first us p → (w : Within (λ q xs. xs ≡ sign BRACE ∷ us) ls ts) → Held (wants false (expression_level (some p) none none) ls) (ts ++ sign UNBRACE ∷ [])
front_held_on ls ts us p i w = (
  w.left_to_open,
  record {
    outers = w.outers;
    inners = sign BRACE ∷ (us ++ sign UNBRACE ∷ []);
    outer_held = w.outer_held;
    inner_held = record { fronts = sign BRACE ∷ (us ++ sign UNBRACE ∷ []); alts = []; cats = []; front_held = braces i; alt_held = refl; cat_held = refl; are = sym (append-nil (sign BRACE ∷ (us ++ sign UNBRACE ∷ []))) };
    are = ap (λ x. x ++ sign UNBRACE ∷ []) (w.are ∙ ap (λ x. w.outers ++ x) w.last_held) ∙ simp (append_assoc, append-nil);
  },
  tt,
)

front_ends : (s : Listing) (ls : List ExpressionLevel) (k : ExpressionPart) (o : Option TextProgram) (t : TextToken) (ts : List TextToken) → PieceIs t k → value_of_list s ≡ o → Held (in_front s ls) ts
    → HeldIf (unbraces k o (λ p. wants false (expression_level (some p) none none) ls)) (ts ++ t ∷ [])
front_ends s ls (a_leaf k) o t ts i e h = tt
front_ends s ls a_star o t ts i e h = tt
front_ends s ls a_dot o t ts i e h = tt
front_ends s ls a_bar o t ts i e h = tt
front_ends s ls an_open o t ts i e h = tt
front_ends s ls a_close o t ts i e h = tt
front_ends s ls a_brace o t ts i e h = tt
front_ends s ls an_unbrace none t ts i e h = tt
front_ends s ls an_unbrace (some p) t ts i e h =
    let l = h.last_held in
    rw i (front_held_on ls ts l.0 p (list_held_value first s l.0 p l.1 e)
    (record { left_to_open = h.left_to_open; outers = h.outers; last = h.last; outer_held = h.outer_held; last_held = l.2; are = h.are }))
front_ends s ls other o t ts i e h = tt

front_step : (o : Option Listing) (x : Option Parsing) (ls : List ExpressionLevel) (t : TextToken) (ts : List TextToken) (h : Within (λ q xs. (us : List TextToken) × (xs ≡ sign BRACE ∷ us) × ListHeldIf first o (us ++ t ∷ [])) ls ts)
    → HeldIf x (ts ++ t ∷ []) → HeldIf (listing o (λ r. in_front r ls) x) (ts ++ t ∷ [])
front_step none x ls t ts h k = k
front_step (some r) x ls t ts h k =
    let l = h.last_held in
    record {
      left_to_open = h.left_to_open;
      outers = h.outers;
      last = h.last ++ t ∷ [];
      outer_held = h.outer_held;
      last_held = (l.0 ++ t ∷ [], l.2, ap (λ z. z ++ t ∷ []) l.1);
      are = ap (λ z. z ++ t ∷ []) h.are ∙ append_assoc h.outers h.last (t ∷ []);
    }

behind_ends : (s : Listing) (f : Option TextProgram) (k : Form) (ls : List ExpressionLevel) (j : ExpressionPart) (o : Option TextProgram) (t : TextToken) (ts : List TextToken) → PieceIs t j → value_of_list s ≡ o → Held (behind s f k ls) ts
    → HeldIf (unbraces j o (λ p. over (node f (some p) k) ls)) (ts ++ t ∷ [])
behind_ends s f k ls (a_leaf j) o t ts i e h = tt
behind_ends s f k ls a_star o t ts i e h = tt
behind_ends s f k ls a_dot o t ts i e h = tt
behind_ends s f k ls a_bar o t ts i e h = tt
behind_ends s f k ls an_open o t ts i e h = tt
behind_ends s f k ls a_close o t ts i e h = tt
behind_ends s f k ls a_brace o t ts i e h = tt
behind_ends s f k ls an_unbrace none t ts i e h = tt
behind_ends s f k ls an_unbrace (some p) t ts i e h =
    let l = h.last_held in
    rw i (record {
      left_to_open = h.left_to_open;
      outers = h.outers;
      last = l.0 ++ sign BRACE ∷ (l.1 ++ sign UNBRACE ∷ []);
      outer_held = h.outer_held;
      last_held = l.2 (sign BRACE ∷ (l.1 ++ sign UNBRACE ∷ [])) p (braces (list_held_value second s l.1 p l.3 e));
      are = ap (λ z. z ++ sign UNBRACE ∷ []) (h.are ∙ ap (λ z. h.outers ++ z) l.4) ∙ simp append_assoc;
    })
behind_ends s f k ls other o t ts i e h = tt

behind_step : (o : Option Listing) (f : Option TextProgram) (k : Form) (x : Option Parsing) (ls : List ExpressionLevel) (t : TextToken) (ts : List TextToken)
    (h : Within (λ q xs. (ws us : List TextToken) × Begun q f k ws × (xs ≡ ws ++ sign BRACE ∷ us) × ListHeldIf second o (us ++ t ∷ [])) ls ts)
    → HeldIf x (ts ++ t ∷ []) → HeldIf (listing o (λ r. behind r f k ls) x) (ts ++ t ∷ [])
behind_step none f k x ls t ts h j = j
behind_step (some r) f k x ls t ts h j =
    let l = h.last_held in
    record {
      left_to_open = h.left_to_open;
      outers = h.outers;
      last = h.last ++ t ∷ [];
      outer_held = h.outer_held;
      last_held = (l.0, l.1 ++ t ∷ [], l.2, l.4, ap (λ z. z ++ t ∷ []) l.3 ∙ append_assoc l.0 (sign BRACE ∷ l.1) (t ∷ []));
      are = ap (λ z. z ++ t ∷ []) h.are ∙ append_assoc h.outers h.last (t ∷ []);
    }

pub held_step : (s : Parsing) (t : TextToken) (ts : List TextToken) → Held s ts → HeldIf (step_expression s t) (ts ++ t ∷ [])
held_step (wants b l ls) t ts h = piece_held (wants b l ls) (piece_of t) t ts (piece_is t) h
held_step (in_front s ls) t ts h =
    let l = h.last_held in
    front_step (step_statements first s t) (unbraces (piece_of t) (value_of_list s) (λ p. wants false (expression_level (some p) none none) ls)) ls t ts
    (record { left_to_open = h.left_to_open; outers = h.outers; last = h.last; outer_held = h.outer_held; last_held = (l.0, l.2, list_held_step first s t l.0 l.1); are = h.are })
    (front_ends s ls (piece_of t) (value_of_list s) t ts (piece_is t) refl h)
held_step (after e l ls) t ts h = piece_held (after e l ls) (piece_of t) t ts (piece_is t) h
held_step (behind s f k ls) t ts h =
    let l = h.last_held in
    behind_step (step_statements second s t) f k (unbraces (piece_of t) (value_of_list s) (λ p. over (node f (some p) k) ls)) ls t ts
    (record { left_to_open = h.left_to_open; outers = h.outers; last = h.last; outer_held = h.outer_held; last_held = (l.0, l.1, l.2, l.4, list_held_step second s t l.1 l.3); are = h.are })
    (behind_ends s f k ls (piece_of t) (value_of_list s) t ts (piece_is t) refl h)
held_step (over e ls) t ts h = piece_held (over e ls) (piece_of t) t ts (piece_is t) h

pub held_start : Held (wants true fresh_expression []) []
held_start = (parentheses, record { outers = []; inners = []; outer_held = (refl, refl); inner_held = nothing_held parentheses; are = refl }, (parentheses, (refl, refl)))

empty_held : (b : Bool) (ls : List ExpressionLevel) (ts : List TextToken) (v : Option Tree) → FlagHeld b ls ts → empty_value b ls ≡ some v → ContentIs ts v
empty_held true [] ts v (q, (i, h)) e = let same : none ≡ v = cc in rw h (subst (ContentIs []) same nothing)
empty_held true (l ∷ ls) ts v h e = absurd (none≢some refl e)
empty_held false ls ts v h e = absurd (none≢some refl e)

whole_held : (ls : List ExpressionLevel) (o : Option Tree) (ts : List TextToken) (v : Option Tree) → ((e : Tree) → o ≡ some e → Within (λ q us. InsideIs q us e) ls ts) → whole_value ls o ≡ some v → ContentIs ts v
whole_held [] none ts v h e = absurd (none≢some refl e)
whole_held (l ∷ ls) none ts v h e = absurd (none≢some refl e)
whole_held (l ∷ ls) (some t) ts v h e = absurd (none≢some refl e)
whole_held [] (some t) ts v h e =
    let same : some t ≡ v = cc in
    let w = h t refl in
    let a = w.outer_held in
    subst (ContentIs ts) same (rw (w.are, a.1) (something (subst (λ q. InsideIs q w.last t) a.0 w.last_held)))

pub held_value : (s : Parsing) (ts : List TextToken) (v : Option Tree) → Held s ts → value_of_content s ≡ some v → ContentIs ts v
held_value (wants b l ls) ts v (q, h, g) e = empty_held b ls ts v g e
held_value (in_front s ls) ts v h e = absurd (none≢some refl e)
held_value (after x l ls) ts v (q, us, s, h) e = whole_held ls (fronted l.before (whole_expression l x)) ts v (after_inside q x l ls us ts s h) e
held_value (behind s f k ls) ts v h e = absurd (none≢some refl e)
held_value (over x ls) ts v h e = whole_held ls (some x) ts v (λ y j. let same : x ≡ y = cc in subst (λ z. Within (λ q us. InsideIs q us z) ls ts) same h) e

an_operand : (q : ℕ) → StarredIs q (nonterminal 0 ∷ []) placeholder
an_operand q = no_star (a_nonterminal {n = 0} (omega arith))

wants_shortest : (b : Bool) (q : ℕ) (l : ExpressionLevel) (ls : List ExpressionLevel) (ts : List TextToken) → Slot q l ls ts [] → FlagHeld b ls ts → (rest : List TextToken) × ContentIs (ts ++ rest) (shortest_at b l ls)
wants_shortest true q l [] ts h (n, (i, k)) = ([], rw k nothing)
wants_shortest true q l (m ∷ ls) ts h (n, a) =
    let r = closing (m ∷ ls) n ts (nonterminal 0 ∷ []) placeholder a (inside absent (no_bar (no_dot (an_operand n))) absent inner inner refl) in
    (nonterminal 0 ∷ r.0, something r.1)
wants_shortest false q l ls ts h g = let r = slot_closing q l ls ts [] (nonterminal 0 ∷ []) placeholder h (an_operand q) in (r.0, something r.1)

pub held_shortest : (s : Parsing) (ts : List TextToken) → Held s ts → (rest : List TextToken) × ContentIs (ts ++ rest) (finished_content s)
held_shortest (wants b l ls) ts (q, h, g) = wants_shortest b q l ls ts h g
held_shortest (in_front s ls) ts h =
    let l = h.last_held in
    let p = list_held_shortest first s l.0 l.1 in
    let f : LevelHeld h.left_to_open (expression_level (some (finished_list s)) none none) (sign BRACE ∷ ((l.0 ++ p.0) ++ sign UNBRACE ∷ [])) =
    record { fronts = sign BRACE ∷ ((l.0 ++ p.0) ++ sign UNBRACE ∷ []); alts = []; cats = []; front_held = braces p.1; alt_held = refl; cat_held = refl; are = sym (append-nil (sign BRACE ∷ ((l.0 ++ p.0) ++ sign UNBRACE ∷ []))) } in
    let r = slot_closing h.left_to_open (expression_level (some (finished_list s)) none none) ls (h.outers ++ sign BRACE ∷ ((l.0 ++ p.0) ++ sign UNBRACE ∷ [])) [] (nonterminal 0 ∷ []) placeholder
    (record { outers = h.outers; inners = sign BRACE ∷ ((l.0 ++ p.0) ++ sign UNBRACE ∷ []); outer_held = h.outer_held; inner_held = f; are = ap (λ z. h.outers ++ z) (sym (append-nil (sign BRACE ∷ ((l.0 ++ p.0) ++ sign UNBRACE ∷ [])))) }) (an_operand h.left_to_open) in
    let same : ts ++ (p.0 ++ sign UNBRACE ∷ r.0) ≡ (h.outers ++ sign BRACE ∷ ((l.0 ++ p.0) ++ sign UNBRACE ∷ [])) ++ r.0 =
    ap (λ z. z ++ (p.0 ++ sign UNBRACE ∷ r.0)) (h.are ∙ ap (λ z. h.outers ++ z) l.2) ∙ simp append_assoc in
    (p.0 ++ sign UNBRACE ∷ r.0, something (subst (λ z. InsideIs parentheses z (around_expression (expression_level (some (finished_list s)) none none ∷ ls) placeholder)) (sym same) r.1))
held_shortest (after e l ls) ts (q, us, s, h) = let r = slot_closing q l ls ts us [] e h (subst (λ z. StarredIs q z e) (sym (append-nil us)) s) in (r.0, something r.1)
held_shortest (behind s f k ls) ts h =
    let l = h.last_held in
    let p = list_held_shortest second s l.1 l.3 in
    let r = closing ls h.left_to_open h.outers (l.0 ++ sign BRACE ∷ ((l.1 ++ p.0) ++ sign UNBRACE ∷ [])) (node f (some (finished_list s)) k) h.outer_held (l.2 (sign BRACE ∷ ((l.1 ++ p.0) ++ sign UNBRACE ∷ [])) (finished_list s) (braces p.1)) in
    let same : ts ++ (p.0 ++ sign UNBRACE ∷ r.0) ≡ h.outers ++ ((l.0 ++ sign BRACE ∷ ((l.1 ++ p.0) ++ sign UNBRACE ∷ [])) ++ r.0) =
    ap (λ z. z ++ (p.0 ++ sign UNBRACE ∷ r.0)) (h.are ∙ ap (λ z. h.outers ++ z) l.4) ∙ simp append_assoc in
    (p.0 ++ sign UNBRACE ∷ r.0, something (subst (λ z. InsideIs parentheses z (around_expression ls (node f (some (finished_list s)) k))) (sym same) r.1))
held_shortest (over e ls) ts h =
    let r = closing ls h.left_to_open h.outers h.last e h.outer_held h.last_held in
    (r.0, something (subst (λ z. InsideIs parentheses z (around_expression ls e)) (sym (ap (λ z. z ++ r.0) h.are ∙ append_assoc h.outers h.last r.0)) r.1))
