-- The posts among the tokens of programs, of which there are none, and of expressions. Assumes nothing.
use mathlib.Core.Path.{◌≡◌, refl, sym, ◌∙◌, ap, subst}
use mathlib.Core.Bool.{Bool, true, false, cond}
use mathlib.Core.List.{List, [], ◌∷◌, ◌++◌, append_assoc, append-nil}
use mathlib.Core.Option.{Option}
use Prim.Native.Nat.{ℕ, zero, suc}
use Rattle.programs.specs.Program.{Operand, Condition}
use Rattle.programs.specs.Limits.{Visit}
use Rattle.notation.specs.Program.{TextProgram}
use Rattle.notation.specs.Rules.{Tree, expression, expression_of}
use Rattle.notation.specs.Tokens.{TextToken, nonterminal, word, CHAR, ECHO, ECHO-OFF, REJECT, IF, THEN, ELSE, BEGIN, END, AND, OR, NOT, EMPTY, PRINT, sign, ASSIGNED, OPEN, CLOSE, BRACE, UNBRACE, DOT, BAR, STAR, SEMICOLON, EQUALS}
use Rattle.notation.specs.Conditions as conditions
use Rattle.notation.specs.Conditions.{CurrentIs, of_either, of_first, of_second, OperandIs, a_value, a_current, a_recalled, ConditionIs, BothIs, SingleIs}
use Rattle.notation.specs.Statements as statements
use Rattle.notation.specs.Statements.{ItemIs, a_start, an_end, both_tags, a_text, ItemsAre, StatementIs, BranchIs, ListIs, SomeAre, BracesAre}
use Rattle.notation.specs.Expressions as expressions
use Rattle.notation.specs.Expressions.{UnionIs, CatIs, StarredIs, PrimaryIs, InsideIs}
use Rattle.posts.specs.Posts.{is_post, is_defined}
use Rattle.posts.specs.Promises.{in_order}

-- the posts behind so many ::= signs, up to the next
abbrev pub posts_in : ℕ → List TextToken → List TextToken
posts_in b [] = []
posts_in zero (t ∷ ts) = cond (is_defined t) [] (cond (is_post t) (t ∷ posts_in zero ts) (posts_in zero ts))
posts_in (suc b) (t ∷ ts) = cond (is_defined t) (posts_in b ts) (posts_in (suc b) ts)

-- the tokens have no ::= sign, and these are their posts
pub record Shows (xs ps : List TextToken) : Type 0 where
  pub skipped : (b : ℕ) (ys : List TextToken) → posts_in (suc b) (xs ++ ys) ≡ posts_in (suc b) ys
  pub shown : (ys : List TextToken) → posts_in zero (xs ++ ys) ≡ ps ++ posts_in zero ys

pub nothing_shown : Shows [] []
nothing_shown = record { skipped = λ b ys. refl; shown = λ ys. refl }

pub one_behind : (xs ys ps qs : List TextToken) → Shows xs ps → Shows ys qs → Shows (xs ++ ys) (ps ++ qs)
one_behind xs ys ps qs a b = record {
  skipped = λ n zs. ap (posts_in (suc n)) (append_assoc xs ys zs) ∙ a.skipped n (ys ++ zs) ∙ b.skipped n zs;
  shown = λ zs. ap (posts_in zero) (append_assoc xs ys zs) ∙ a.shown (ys ++ zs) ∙ ap (λ k. ps ++ k) (b.shown zs) ∙ sym (append_assoc ps qs (posts_in zero zs));
}

-- of programs nothing is shown
abbrev Mute : List TextToken → Type 0
Mute ts = Shows ts []

mute_behind : (xs ys : List TextToken) → Mute xs → Mute ys → Mute (xs ++ ys)
mute_behind xs ys a b = one_behind xs ys [] [] a b

-- a token that is no post, and no ::=
quiet : (t : TextToken) → is_defined t ≡ false → is_post t ≡ false → Mute (t ∷ [])
quiet t d p = record {
  skipped = λ b ys. ap (λ (k : Bool). cond k (posts_in b ys) (posts_in (suc b) ys)) d;
  shown = λ ys. ap (λ (k : Bool). cond k [] (cond (is_post t) (t ∷ posts_in zero ys) (posts_in zero ys))) d ∙ ap (λ (k : Bool). cond k (t ∷ posts_in zero ys) (posts_in zero ys)) p;
}

led : (t : TextToken) (ts : List TextToken) → Mute (t ∷ []) → Mute ts → Mute (t ∷ ts)
led t ts a b = mute_behind (t ∷ []) ts a b

mute_as : (xs ys : List TextToken) → ys ≡ xs → Mute xs → Mute ys
mute_as xs ys e h = subst Mute (sym e) h

current_mute : {a : ℕ} {v : Visit} {t : TextToken} → CurrentIs a v t → Mute (t ∷ [])
current_mute {t = t} (of_either h) = quiet t refl refl
current_mute {t = t} (of_first h) = quiet t refl refl
current_mute {t = t} (of_second h) = quiet t refl refl

operand_mute : {v : Visit} {t : TextToken} {x : Operand} → OperandIs v t x → Mute (t ∷ [])
operand_mute {t = t} (a_value h) = quiet t refl refl
operand_mute (a_current h) = current_mute h
operand_mute {t = t} (a_recalled h) = quiet t refl refl

-- a sign or word between two parts
between : (ts us : List TextToken) (t : TextToken) → Mute ts → Mute (t ∷ []) → Mute us → Mute (ts ++ t ∷ us)
between ts us t a b c = mute_behind ts (t ∷ us) a (led t us b c)

mutual
  condition_mute : {v : Visit} {p : ℕ} {ts : List TextToken} {c : Condition} → ConditionIs v p ts c → Mute ts
  condition_mute (conditions.no_or h) = both_mute h
  condition_mute (conditions.or {ts = ts} {us = us} {ws = ws} h k e) = mute_as (ts ++ word OR ∷ us) ws e (between ts us (word OR) (condition_mute h) (quiet (word OR) refl refl) (both_mute k))

  both_mute : {v : Visit} {p : ℕ} {ts : List TextToken} {c : Condition} → BothIs v p ts c → Mute ts
  both_mute (conditions.no_and h) = single_mute h
  both_mute (conditions.and {ts = ts} {us = us} {ws = ws} h k e) = mute_as (ts ++ word AND ∷ us) ws e (between ts us (word AND) (both_mute h) (quiet (word AND) refl refl) (single_mute k))

  single_mute : {v : Visit} {p : ℕ} {ts : List TextToken} {c : Condition} → SingleIs v p ts c → Mute ts
  single_mute (conditions.compared {s = s} {t = t} h k) = led s (sign EQUALS ∷ t ∷ []) (operand_mute h) (led (sign EQUALS) (t ∷ []) (quiet (sign EQUALS) refl refl) (operand_mute k))
  single_mute (conditions.not {ts = ts} h) = led (word NOT) ts (quiet (word NOT) refl refl) (single_mute h)
  single_mute (conditions.parenthesised {ts = ts} {ws = ws} h e) =
      mute_as (sign OPEN ∷ (ts ++ sign CLOSE ∷ [])) ws e (led (sign OPEN) (ts ++ sign CLOSE ∷ []) (quiet (sign OPEN) refl refl) (mute_behind ts (sign CLOSE ∷ []) (condition_mute h) (quiet (sign CLOSE) refl refl)))

item_mute : {t : TextToken} {p : TextProgram} → ItemIs t p → Mute (t ∷ [])
item_mute {t = t} (a_start h) = quiet t refl refl
item_mute {t = t} (an_end h) = quiet t refl refl
item_mute {t = t} (both_tags h) = quiet t refl refl
item_mute {t = t} (a_text h) = quiet t refl refl

items_mute : {ts : List TextToken} {p : TextProgram} → ItemsAre ts p → Mute ts
items_mute (statements.one h) = item_mute h
items_mute (statements.more {t = t} {ts = ts} h k) = led t ts (item_mute h) (items_mute k)

mutual
  statement_mute : {v : Visit} {b : Bool} {ts : List TextToken} {p : TextProgram} → StatementIs v b ts p → Mute ts
  statement_mute (statements.echo_on h) = quiet (word ECHO) refl refl
  statement_mute (statements.echo_off h) = quiet (word ECHO-OFF) refl refl
  statement_mute statements.rejects = quiet (word REJECT) refl refl
  statement_mute (statements.prints {ts = ts} h) = led (word PRINT) ts (quiet (word PRINT) refl refl) (items_mute h)
  statement_mute (statements.assigns {s = s} {t = t} h k e) = led s (sign ASSIGNED ∷ t ∷ []) (current_mute h) (led (sign ASSIGNED) (t ∷ []) (quiet (sign ASSIGNED) refl refl) (operand_mute k))
  statement_mute (statements.if_then {ts = ts} {us = us} {ws = ws} h k e) =
      mute_as (word IF ∷ (ts ++ word THEN ∷ us)) ws e (led (word IF) (ts ++ word THEN ∷ us) (quiet (word IF) refl refl) (between ts us (word THEN) (condition_mute h) (quiet (word THEN) refl refl) (branch_mute k)))
  statement_mute (statements.if_else {ts = ts} {us = us} {ws = ws} {xs = xs} h k l e) =
      mute_as (word IF ∷ (ts ++ word THEN ∷ (us ++ word ELSE ∷ ws))) xs e
      (led (word IF) (ts ++ word THEN ∷ (us ++ word ELSE ∷ ws)) (quiet (word IF) refl refl)
      (between ts (us ++ word ELSE ∷ ws) (word THEN) (condition_mute h) (quiet (word THEN) refl refl) (between us ws (word ELSE) (branch_mute k) (quiet (word ELSE) refl refl) (branch_mute l))))

  branch_mute : {v : Visit} {b : Bool} {ts : List TextToken} {p : TextProgram} → BranchIs v b ts p → Mute ts
  branch_mute (statements.bare h) = statement_mute h
  branch_mute (statements.block {ts = ts} {ws = ws} h e) =
      mute_as (word BEGIN ∷ (ts ++ word END ∷ [])) ws e (led (word BEGIN) (ts ++ word END ∷ []) (quiet (word BEGIN) refl refl) (mute_behind ts (word END ∷ []) (list_mute h) (quiet (word END) refl refl)))

  list_mute : {v : Visit} {ts : List TextToken} {p : TextProgram} → ListIs v ts p → Mute ts
  list_mute statements.empty = nothing_shown
  list_mute (statements.some h) = some_mute h

  some_mute : {v : Visit} {ts : List TextToken} {p : TextProgram} → SomeAre v ts p → Mute ts
  some_mute (statements.one h) = statement_mute h
  some_mute (statements.more {ts = ts} {us = us} {ws = ws} h k e i) =
      mute_as (ts ++ sign SEMICOLON ∷ us) ws e (between ts us (sign SEMICOLON) (statement_mute h) (quiet (sign SEMICOLON) refl refl) (some_mute k))

pub braces_mute : {v : Visit} {ts : List TextToken} {o : Option TextProgram} → BracesAre v ts o → Shows ts []
braces_mute statements.absent = nothing_shown
braces_mute (statements.braces {ts = ts} h) = led (sign BRACE) (ts ++ sign UNBRACE ∷ []) (quiet (sign BRACE) refl refl) (mute_behind ts (sign UNBRACE ∷ []) (list_mute h) (quiet (sign UNBRACE) refl refl))

-- a post
pub post_shown : (t : TextToken) → is_defined t ≡ false → is_post t ≡ true → Shows (t ∷ []) (t ∷ [])
post_shown t d p = record {
  skipped = λ b ys. ap (λ (k : Bool). cond k (posts_in b ys) (posts_in (suc b) ys)) d;
  shown = λ ys. ap (λ (k : Bool). cond k [] (cond (is_post t) (t ∷ posts_in zero ys) (posts_in zero ys))) d ∙ ap (λ (k : Bool). cond k (t ∷ posts_in zero ys) (posts_in zero ys)) p;
}

-- behind tokens of which nothing is shown, and before such
pub after_mute : (xs ys ps : List TextToken) → Shows xs [] → Shows ys ps → Shows (xs ++ ys) ps
after_mute xs ys ps a b = one_behind xs ys [] ps a b

pub before_mute : (xs ys ps : List TextToken) → Shows xs ps → Shows ys [] → Shows (xs ++ ys) ps
before_mute xs ys ps a b = subst (Shows (xs ++ ys)) (append-nil ps) (one_behind xs ys ps [] a b)

joined : (ts us ws ps qs : List TextToken) (t : TextToken) → ws ≡ ts ++ t ∷ us → Shows ts ps → is_defined t ≡ false → is_post t ≡ true → Shows us qs → Shows ws (ps ++ t ∷ qs)
joined ts us ws ps qs t e a d p b = subst (λ k. Shows k (ps ++ t ∷ qs)) (sym e) (one_behind ts (t ∷ us) ps (t ∷ qs) a (one_behind (t ∷ []) us (t ∷ []) qs (post_shown t d p) b))

-- an expression shows its nodes in order
mutual
  union_shows : {p : ℕ} {ts : List TextToken} {e : Tree} → UnionIs p ts e → Shows ts (in_order (expression e))
  union_shows (expressions.no_bar h) = cat_shows h
  union_shows (expressions.bar {ts = ts} {us = us} {ws = ws} {e = e} {f = f} h k i) = joined ts us ws (in_order (expression e)) (in_order (expression f)) (sign BAR) i (union_shows h) refl refl (cat_shows k)

  cat_shows : {p : ℕ} {ts : List TextToken} {e : Tree} → CatIs p ts e → Shows ts (in_order (expression e))
  cat_shows (expressions.no_dot h) = starred_shows h
  cat_shows (expressions.dot {ts = ts} {us = us} {ws = ws} {e = e} {f = f} h k i) = joined ts us ws (in_order (expression e)) (in_order (expression f)) (sign DOT) i (cat_shows h) refl refl (starred_shows k)

  starred_shows : {p : ℕ} {ts : List TextToken} {e : Tree} → StarredIs p ts e → Shows ts (in_order (expression e))
  starred_shows (expressions.no_star h) = primary_shows h
  starred_shows (expressions.stars {ts = ts} {ws = ws} {e = e} h i) = joined ts [] ws (in_order (expression e)) [] (sign STAR) i (starred_shows h) refl refl nothing_shown

  primary_shows : {p : ℕ} {ts : List TextToken} {e : Tree} → PrimaryIs p ts e → Shows ts (in_order (expression e))
  primary_shows (expressions.a_nonterminal {n = n} h) = post_shown (nonterminal n) refl refl
  primary_shows expressions.a_character = post_shown (word CHAR) refl refl
  primary_shows expressions.an_empty = post_shown (word EMPTY) refl refl
  primary_shows (expressions.parenthesised {ts = ts} {ws = ws} {e = e} h i) =
      subst (λ k. Shows k (in_order (expression e))) (sym i)
      (after_mute (sign OPEN ∷ []) (ts ++ sign CLOSE ∷ []) (in_order (expression e)) (quiet (sign OPEN) refl refl)
      (before_mute ts (sign CLOSE ∷ []) (in_order (expression e)) (inside_shows h) (quiet (sign CLOSE) refl refl)))

  pub inside_shows : {p : ℕ} {ts : List TextToken} {e : Tree} → InsideIs p ts e → Shows ts (in_order (expression e))
  inside_shows (expressions.inside {fs = fs} {ts = ts} {gs = gs} {ws = ws} {k = k} b h a m n i) =
      subst (λ (y : List TextToken). Shows y (in_order (expression_of k))) (sym i)
      (after_mute fs (ts ++ gs) (in_order (expression_of k)) (braces_mute b) (before_mute ts gs (in_order (expression_of k)) (union_shows h) (braces_mute a)))
