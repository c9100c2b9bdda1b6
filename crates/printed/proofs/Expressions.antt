-- A printed expression spells tokens of that expression. Assumes nothing.
use mathlib.Core.Path.{◌≡◌, refl, sym, subst}
use mathlib.Core.Bool.{Bool, true, false, ◌||◌}
use mathlib.Core.List.{List, [], ◌∷◌, ◌++◌, append-nil}
use mathlib.Core.Option.{Option, none, some}
use Prim.Native.Nat.{ℕ, zero, suc, ◌≤◌, ◌<◌, max}
use native.Mathlib.Omega.{arith}
use lib.Dec.{ltb}
use borrow.Author.Tests.{ltb-false}
use Rattle.expressions.specs.Expr.{Atom, nonterminal, anychar, depth}
use Rattle.programs.specs.Limits.{Visit, first, second}
use Rattle.notation.specs.Program.{TextProgram}
use Rattle.notation.specs.Rules.{TextVisits, Tree, node, Form, atom, cat, alt, star, empty, expression, expression_of, visits, visits_of}
use Rattle.notation.specs.Limits.{ProgramWithin, OptionWithin, AllWithin}
use Rattle.notation.specs.Tokens.{TextToken, word, CHAR, EMPTY, sign, Sign, OPEN, CLOSE, DOT, BAR, STAR, token_bytes}
use Rattle.notation.specs.Statements.{BracesAre, absent}
use Rattle.notation.specs.Expressions.{AtMostOne, inner, outer, UnionIs, no_bar, bar, CatIs, no_dot, dot, StarredIs, no_star, stars, PrimaryIs, a_nonterminal, a_character, an_empty, parenthesised, InsideIs, inside}
use Rattle.printed.specs.Spacing.{in_parentheses, in_parentheses_if}
use Rattle.printed.specs.Programs.{program_text}
use Rattle.printed.specs.Expressions.{program_in_front, program_behind, has_one, binds, atom_token, tree_text, form_text}
use Rattle.encoding.specs.Sound.{SoundIf, SoundAtom, SoundTree, SoundForm}
use Rattle.printed.proofs.Phrases.{Phrase, a_word, closed, closed_alone, spaced, joined, Said, said_as}
use Rattle.printed.proofs.Programs.{program_said}

-- a program in braces, or none, in front of a phrase and behind one
pub record Braced (v : Visit) (o : Option TextProgram) : Type 0 where
  pub tokens : List TextToken
  pub are : BracesAre v tokens o
  pub front : (ts : List TextToken) (x : List ℕ) → Phrase ts x → Phrase (tokens ++ ts) (program_in_front o x)
  pub back : (ts : List TextToken) (x : List ℕ) → Phrase ts x → Phrase (ts ++ tokens) (program_behind x o)

pub braced : (v : Visit) (o : Option TextProgram) → SoundIf v o → OptionWithin o → Braced v o
braced v none h w = record { tokens = []; are = absent; front = λ ts x p. p; back = λ ts x p. subst (λ z. Phrase z x) (sym (append-nil ts)) p }
braced v (some q) h w =
    let s = program_said v q h (omega (arith, w.shallow)) in
    record {
      tokens = s.tokens;
      are = s.are;
      front = λ ts x p. spaced s.tokens ts (program_text q) x s.phrase p;
      back = λ ts x p. spaced ts s.tokens x (program_text q) p s.phrase;
    }

pub all_within : (a b : List TextVisits) → AllWithin (a ++ b) → AllWithin a × AllWithin b
all_within [] b h = (tt, h)
all_within (v ∷ a) b h = let r = all_within a b h.1 in ((h.0, r.0), r.1)

pub in_parentheses_lem : (ts : List TextToken) (x : List ℕ) → Phrase ts x → Phrase (sign OPEN ∷ (ts ++ sign CLOSE ∷ [])) (in_parentheses x)
in_parentheses_lem ts x p = closed (sign OPEN) (λ b. refl) (ts ++ sign CLOSE ∷ []) (x ++ 41 ∷ []) (joined ts (sign CLOSE ∷ []) x (41 ∷ []) p (closed_alone (sign CLOSE) (λ b. refl)) (λ z q. refl))

-- what an expression is by itself
abbrev Own : ℕ → Form → List TextToken → Type 0
Own p (atom k) ts = PrimaryIs p ts (node none none (atom k))
Own p (cat l r) ts = CatIs p ts (node none none (cat l r))
Own p (alt l r) ts = UnionIs p ts (node none none (alt l r))
Own p (star e) ts = StarredIs p ts (node none none (star e))
Own p empty ts = PrimaryIs p ts (node none none empty)

-- what a place asks for
abbrev Place : ℕ → ℕ → Tree → List TextToken → Type 0
Place zero p t ts = UnionIs p ts t
Place (suc zero) p t ts = CatIs p ts t
Place (suc (suc zero)) p t ts = StarredIs p ts t
Place (suc (suc (suc n))) p t ts = PrimaryIs p ts t

primary_place : (asked p : ℕ) (t : Tree) (ts : List TextToken) → PrimaryIs p ts t → Place asked p t ts
primary_place zero p t ts h = no_bar (no_dot (no_star h))
primary_place (suc zero) p t ts h = no_dot (no_star h)
primary_place (suc (suc zero)) p t ts h = no_star h
primary_place (suc (suc (suc n))) p t ts h = h

own_place : (asked p : ℕ) (k : Form) (ts : List TextToken) → ltb (binds k) asked ≡ false → Own p k ts → Place asked p (node none none k) ts
own_place asked p (atom k) ts e h = primary_place asked p (node none none (atom k)) ts h
own_place asked p empty ts e h = primary_place asked p (node none none empty) ts h
own_place zero p (cat l r) ts e h = no_bar h
own_place (suc zero) p (cat l r) ts e h = h
own_place (suc (suc n)) p (cat l r) ts e h = absurd (let z = ltb-false 1 (suc (suc n)) e in omega arith)
own_place zero p (alt l r) ts e h = h
own_place (suc n) p (alt l r) ts e h = absurd (let z = ltb-false 0 (suc n) e in omega arith)
own_place zero p (star x) ts e h = no_bar (no_dot h)
own_place (suc zero) p (star x) ts e h = no_dot h
own_place (suc (suc zero)) p (star x) ts e h = h
own_place (suc (suc (suc n))) p (star x) ts e h = absurd (let z = ltb-false 2 (suc (suc (suc n))) e in omega arith)

as_union : (p : ℕ) (k : Form) (ts : List TextToken) → Own p k ts → UnionIs p ts (node none none k)
as_union p (atom k) ts h = no_bar (no_dot (no_star h))
as_union p (cat l r) ts h = no_bar h
as_union p (alt l r) ts h = h
as_union p (star e) ts h = no_bar (no_dot h)
as_union p empty ts h = no_bar (no_dot (no_star h))

at_most : (o : Option TextProgram) → AtMostOne o none o
at_most none = inner
at_most (some p) = outer

-- with its programs
pub inside_said : (p : ℕ) (f g : Option TextProgram) (k : Form) → Braced first f → Braced second g → Said (Own p k) (form_text k) → Said (λ ts. InsideIs p ts (node f g k)) (program_in_front f (program_behind (form_text k) g))
inside_said p f g k a b s = record {
  tokens = a.tokens ++ (s.tokens ++ b.tokens);
  are = inside a.are (as_union p k s.tokens s.are) b.are (at_most f) (at_most g) refl;
  phrase = a.front (s.tokens ++ b.tokens) (program_behind (form_text k) g) (b.back s.tokens (form_text k) s.phrase);
}

enclosed_said : (asked p : ℕ) (t : Tree) (x : List ℕ) → Said (λ ts. InsideIs p ts t) x → Said (Place asked (suc p) t) (in_parentheses x)
enclosed_said asked p t x s = record {
  tokens = sign OPEN ∷ (s.tokens ++ sign CLOSE ∷ []);
  are = primary_place asked (suc p) t (sign OPEN ∷ (s.tokens ++ sign CLOSE ∷ [])) (parenthesised s.are refl);
  phrase = in_parentheses_lem s.tokens x s.phrase;
}

-- with parentheses where it has a program or binds too little
node_said : (asked p : ℕ) (f g : Option TextProgram) (k : Form) → Braced first f → Braced second g → Said (Own p k) (form_text k) → Said (Own (suc p) k) (form_text k) → Said (Place asked (suc p) (node f g k)) (tree_text asked (node f g k))
node_said asked p (some q) g k a b s s' = enclosed_said asked p (node (some q) g k) (program_in_front (some q) (program_behind (form_text k) g)) (inside_said p (some q) g k a b s)
node_said asked p none (some q) k a b s s' = enclosed_said asked p (node none (some q) k) (program_behind (form_text k) (some q)) (inside_said p none (some q) k a b s)
node_said asked p none none k a b s s' = on (ltb (binds k) asked) refl
  where
    on : (i : Bool) → ltb (binds k) asked ≡ i → Said (Place asked (suc p) (node none none k)) (tree_text asked (node none none k))
    on false e = subst (λ i. Said (Place asked (suc p) (node none none k)) (in_parentheses_if i (form_text k))) (sym e) (said_as (λ ts h. own_place asked (suc p) k ts e h) s')
    on true e = subst (λ i. Said (Place asked (suc p) (node none none k)) (in_parentheses_if i (form_text k))) (sym e) (enclosed_said asked p (node none none k) (form_text k) (inside_said p none none k a b s))

deep : (k : Form) → 1 ≤ depth (expression_of k)
deep (atom k) = omega arith
deep (cat l r) = omega arith
deep (alt l r) = omega arith
deep (star e) = omega arith
deep empty = omega arith

-- two parts with a sign between them
signed : (s : Sign) (ts us : List TextToken) (x y : List ℕ) → ((z : List ℕ) → Rattle.printed.proofs.Phrases.Quiet (token_bytes (sign s) ++ z)) → Phrase ts x → Phrase us y → Phrase (ts ++ sign s ∷ us) (x ++ (token_bytes (sign s) ++ y))
signed s ts us x y quiet p q = joined ts (sign s ∷ us) x (token_bytes (sign s) ++ y) p (closed (sign s) (λ b. refl) us y q) (λ z h. subst Rattle.printed.proofs.Phrases.Quiet (sym (mathlib.Core.List.append_assoc (token_bytes (sign s)) y z)) (quiet (y ++ z)))

mutual
  tree_said : (t : Tree) (asked p : ℕ) → SoundTree t → AllWithin (visits t) → depth (expression t) ≤ p → Said (Place asked p t) (tree_text asked t)
  tree_said (node f g k) asked zero h w d = absurd (let z = deep k in omega arith)
  tree_said (node f g k) asked (suc p) h w d =
      node_said asked p f g k (braced first f h.0 w.0.0) (braced second g h.1.0 w.0.1) (form_said p k h.1.1 w.1 d) (form_said (suc p) k h.1.1 w.1 (omega (arith, d)))

  pub form_said : (p : ℕ) (k : Form) → SoundForm k → AllWithin (visits_of k) → depth (expression_of k) ≤ suc p → Said (Own p k) (form_text k)
  form_said p (atom (nonterminal n)) h w d = record { tokens = TextToken.nonterminal n ∷ []; are = a_nonterminal h; phrase = a_word (TextToken.nonterminal n) (λ b. refl) }
  form_said p (atom anychar) h w d = record { tokens = word CHAR ∷ []; are = a_character; phrase = a_word (word CHAR) (λ b. refl) }
  form_said p empty h w d = record { tokens = word EMPTY ∷ []; are = an_empty; phrase = a_word (word EMPTY) (λ b. refl) }
  form_said p (cat l r) h w d =
      let a = all_within (visits l) (visits r) w in
      let s = tree_said l 1 p h.0 a.0 (omega (arith, d)) in
      let t = tree_said r 2 p h.1 a.1 (omega (arith, d)) in
      record {
        tokens = s.tokens ++ sign DOT ∷ t.tokens;
        are = dot {ts = s.tokens} {us = t.tokens} s.are t.are refl;
        phrase = signed DOT s.tokens t.tokens (tree_text 1 l) (tree_text 2 r) (λ z. refl) s.phrase t.phrase;
      }
  form_said p (alt l r) h w d =
      let a = all_within (visits l) (visits r) w in
      let s = tree_said l 0 p h.0 a.0 (omega (arith, d)) in
      let t = tree_said r 1 p h.1 a.1 (omega (arith, d)) in
      record {
        tokens = s.tokens ++ sign BAR ∷ t.tokens;
        are = bar {ts = s.tokens} {us = t.tokens} s.are t.are refl;
        phrase = signed BAR s.tokens t.tokens (tree_text 0 l) (tree_text 1 r) (λ z. refl) s.phrase t.phrase;
      }
  form_said p (star e) h w d =
      let s = tree_said e 3 p h w (omega (arith, d)) in
      record {
        tokens = s.tokens ++ sign STAR ∷ [];
        are = stars {ts = s.tokens} (no_star s.are) refl;
        phrase = joined s.tokens (sign STAR ∷ []) (tree_text 3 e) (42 ∷ []) s.phrase (closed_alone (sign STAR) (λ b. refl)) (λ z q. refl);
      }
