-- Attributed parse trees: their events, their nodes, and their evaluation (the paper's Definition 8, with document 01's echo).
-- Assumes nothing.
use Rattle.std.specs.Prelude.{List, [], ◌∷◌, ◌++◌, ℕ, suc, ◌+◌, max, T}
use Rattle.std.proofs.Math.Option.{Option, some}
use Rattle.expressions.specs.Expr.{nonterminal, anychar, Exp, atom, cat, alt, star, empty, nodes, Content, nothing, tree}
use Rattle.expressions.specs.Grammar.{Production}
use Rattle.sheet.specs.Sheet.{Sheet}
use Rattle.runs.specs.Options.{bind}
use Rattle.expressions.specs.Grammar.{content_of}
use Rattle.runs.specs.Lookup.{tag_of, produces}
use Rattle.runs.specs.Visits.{Env, saved, opens, closes, enters, leaves, reads}
use Rattle.runs.specs.Events.{Event, starts, ends, letter}

mutual
  -- an element that nonterminal n can be
  pub data Element (g : List Production) : ℕ → Type 0 where
    element : {n : ℕ} (q : ℕ) → T (produces g n q) → Children g (content_of g q) → Element g n

  pub data Children (g : List Production) : Content → Type 0 where
    childless : Children g nothing
    children : {e : Exp} → Parse g e → Children g (tree e)

  -- a parse of a sequence of elements and characters against an expression: one node of the tree, with those below it
  pub data Parse (g : List Production) : Exp → Type 0 where
    child : {n : ℕ} → Element g n → Parse g (atom (nonterminal n))
    one_char : ℕ → Parse g (atom anychar)
    pair : {l r : Exp} → Parse g l → Parse g r → Parse g (cat l r)
    first_of : {l r : Exp} → Parse g l → Parse g (alt l r)
    second_of : {l r : Exp} → Parse g r → Parse g (alt l r)
    repeat : {e : Exp} → Parses g e → Parse g (star e)
    void : Parse g empty

  pub data Parses (g : List Production) : Exp → Type 0 where
    done : {e : Exp} → Parses g e
    next : {e : Exp} → Parse g e → Parses g e → Parses g e

-- the events of a tree
abbrev mutual
  pub yield : {g : List Production} {n : ℕ} → Element g n → List Event
  yield {g} (element q h c) = starts (some (tag_of g q)) ∷ (yield_C c ++ ends (some (tag_of g q)) ∷ [])

  pub yield_C : {g : List Production} {c : Content} → Children g c → List Event
  yield_C childless = []
  yield_C (children p) = yield_P p

  pub yield_P : {g : List Production} {e : Exp} → Parse g e → List Event
  yield_P (child t) = yield t
  yield_P (one_char c) = letter c ∷ []
  yield_P (pair a b) = yield_P a ++ yield_P b
  yield_P (first_of a) = yield_P a
  yield_P (second_of b) = yield_P b
  yield_P (repeat ps) = yield_ps ps
  yield_P void = []

  pub yield_ps : {g : List Production} {e : Exp} → Parses g e → List Event
  yield_ps done = []
  yield_ps (next p ps) = yield_P p ++ yield_ps ps

-- the number of its nodes: an element is one, and so is each node of an expression
abbrev mutual
  pub size : {g : List Production} {n : ℕ} → Element g n → ℕ
  size (element q h c) = suc (size_C c)

  pub size_C : {g : List Production} {c : Content} → Children g c → ℕ
  size_C childless = 0
  size_C (children p) = size_P p

  pub size_P : {g : List Production} {e : Exp} → Parse g e → ℕ
  size_P (child t) = suc (size t)
  size_P (one_char c) = 1
  size_P (pair a b) = suc (size_P a + size_P b)
  size_P (first_of a) = suc (size_P a)
  size_P (second_of b) = suc (size_P b)
  size_P (repeat ps) = suc (size_ps ps)
  size_P void = 1

  pub size_ps : {g : List Production} {e : Exp} → Parses g e → ℕ
  size_ps done = 0
  size_ps (next p ps) = size_P p + size_ps ps

-- how many elements stand inside each other at most
abbrev mutual
  pub element_depth : {g : List Production} {n : ℕ} → Element g n → ℕ
  element_depth (element q h c) = suc (depth_C c)

  pub depth_C : {g : List Production} {c : Content} → Children g c → ℕ
  depth_C childless = 0
  depth_C (children p) = depth_P p

  pub depth_P : {g : List Production} {e : Exp} → Parse g e → ℕ
  depth_P (child t) = element_depth t
  depth_P (one_char c) = 0
  depth_P (pair a b) = max (depth_P a) (depth_P b)
  depth_P (first_of a) = depth_P a
  depth_P (second_of b) = depth_P b
  depth_P (repeat ps) = depth_ps ps
  depth_P void = 0

  pub depth_ps : {g : List Production} {e : Exp} → Parses g e → ℕ
  depth_ps done = 0
  depth_ps (next p ps) = max (depth_P p) (depth_ps ps)

-- a node of an expression is visited before and after what lies below it
abbrev pub around : Sheet → ℕ → ℕ → (Env → Option Env) → Env → Option Env
around s q i f v = bind (opens s q i v) (λ v₁. bind (f v₁) (λ v₂. closes s q i (saved v v₁) v₂))

-- the attributes, echo, output and count after a tree from those before it; none is a rejection
abbrev mutual
  pub eval : {g : List Production} {n : ℕ} → Element g n → Sheet → Env → Option Env
  eval (element q h c) s v = bind (enters s q v) (λ v₁. bind (eval_C c s q v₁) (λ v₂. leaves s q (saved v v₁) v₂))

  pub eval_C : {g : List Production} {c : Content} → Children g c → Sheet → ℕ → Env → Option Env
  eval_C childless s q v = some v
  eval_C (children p) s q v = eval_P p s q 1 v

  pub eval_P : {g : List Production} {e : Exp} → Parse g e → Sheet → ℕ → ℕ → Env → Option Env
  eval_P (child t) s q i v = around s q i (λ w. eval t s w) v
  eval_P (one_char c) s q i v = around s q i (reads s c) v
  eval_P (pair {l} a b) s q i v = around s q i (λ w. bind (eval_P a s q (suc i) w) (λ x. eval_P b s q (suc i + nodes l) x)) v
  eval_P (first_of a) s q i v = around s q i (λ w. eval_P a s q (suc i) w) v
  eval_P (second_of {l} b) s q i v = around s q i (λ w. eval_P b s q (suc i + nodes l) w) v
  eval_P (repeat ps) s q i v = around s q i (λ w. eval_ps ps s q (suc i) w) v
  eval_P void s q i v = around s q i (λ w. some w) v

  pub eval_ps : {g : List Production} {e : Exp} → Parses g e → Sheet → ℕ → ℕ → Env → Option Env
  eval_ps done s q i v = some v
  eval_ps (next p ps) s q i v = bind (eval_P p s q i v) (λ w. eval_ps ps s q i w)
