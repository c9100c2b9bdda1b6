-- A tree as the row of its acts; and open trees: a tree as far as its events have come.
-- Assumes nothing.
use Rattle.std.specs.Prelude.{List, [], ◌∷◌, ◌++◌, ℕ, suc, ◌+◌, max, T}
use Rattle.std.proofs.Math.Option.{some}
use Rattle.expressions.specs.Expr.{nonterminal, anychar, Exp, nodes, Content}
use Rattle.expressions.specs.Words.{Bracket, Sym, br, at, Words}
use Rattle.expressions.specs.Grammar.{Production}
use Rattle.expressions.specs.Grammar.{content_of}
use Rattle.runs.specs.Lookup.{tag_of, produces}
use Rattle.runs.specs.Events.{Event, starts, letter}
use Rattle.runs.specs.Parse.{Element, element, Children, childless, children, Parse, child, one_char, pair, first_of, second_of, repeat, void, Parses, done, next, yield, element_depth}
use Rattle.runs.specs.Acts.{Act, node_first, node_second, start_tag, end_tag, letter_read, bracket_act}

abbrev pub wrap : ℕ → ℕ → List Act → List Act
wrap q i bs = node_first q i ∷ (bs ++ node_second q i ∷ [])

abbrev mutual
  pub line : {g : List Production} {n : ℕ} → Element g n → List Act
  line (element q h c) = start_tag q ∷ (line_C c q ++ end_tag q ∷ [])

  pub line_C : {g : List Production} {c : Content} → Children g c → ℕ → List Act
  line_C childless q = []
  line_C (children p) q = line_P p q 1

  pub line_P : {g : List Production} {e : Exp} → Parse g e → ℕ → ℕ → List Act
  line_P (child t) q i = wrap q i (line t)
  line_P (one_char c) q i = wrap q i (letter_read c ∷ [])
  line_P (pair {l} a b) q i = wrap q i (line_P a q (suc i) ++ line_P b q (suc i + nodes l))
  line_P (first_of a) q i = wrap q i (line_P a q (suc i))
  line_P (second_of {l} b) q i = wrap q i (line_P b q (suc i + nodes l))
  line_P (repeat ps) q i = wrap q i (line_ps ps q (suc i))
  line_P void q i = wrap q i []

  pub line_ps : {g : List Production} {e : Exp} → Parses g e → ℕ → ℕ → List Act
  line_ps done q i = []
  line_ps (next p ps) q i = line_P p q i ++ line_ps ps q i

-- a parse as a row of brackets and filled atoms, which have their numbers
pub data Part (g : List Production) : Type 0 where
  mark : Bracket → Part g
  filled : ℕ → (n : ℕ) → Element g n → Part g
  lettered : ℕ → ℕ → Part g

module _ {g : List Production} where
  abbrev pub symbol : Part g → Sym
  symbol (mark c) = br c
  symbol (filled j n t) = at j (nonterminal n)
  symbol (lettered j c) = at j anychar

  abbrev pub skeleton : List (Part g) → List Sym
  skeleton [] = []
  skeleton (f ∷ fs) = symbol f ∷ skeleton fs

  abbrev pub events_of : Part g → List Event
  events_of (mark c) = []
  events_of (filled j n t) = yield t
  events_of (lettered j c) = letter c ∷ []

  abbrev pub events : List (Part g) → List Event
  events [] = []
  events (f ∷ fs) = events_of f ++ events fs

  abbrev pub acts_of : ℕ → Part g → List Act
  acts_of q (mark c) = bracket_act q c ∷ []
  acts_of q (filled j n t) = line t
  acts_of q (lettered j c) = letter_read c ∷ []

  abbrev pub acts_in : ℕ → List (Part g) → List Act
  acts_in q [] = []
  acts_in q (f ∷ fs) = acts_of q f ++ acts_in q fs

  abbrev pub depth_of : Part g → ℕ
  depth_of (mark c) = 0
  depth_of (filled j n t) = element_depth t
  depth_of (lettered j c) = 0

  abbrev pub depths : List (Part g) → ℕ
  depths [] = 0
  depths (f ∷ fs) = max (depth_of f) (depths fs)

-- nothing, or brackets and atoms of which an atom is the last
abbrev pub Cut : {g : List Production} → List (Part g) → Type 0
Cut [] = Unit {0}
Cut (mark c ∷ []) = ⊥
Cut (mark c ∷ f ∷ fs) = Cut (f ∷ fs)
Cut (filled j n t ∷ fs) = Cut fs
Cut (lettered j c ∷ fs) = Cut fs

-- an element whose end tag has not come: its production, the part of a word of its bracketed expression that has been passed, each atom filled,
-- and, if the last start tag is of an element inside it, that one; with its events, its acts and its depth so far
pub data Opened (g : List Production) : ℕ → List Event → List Act → ℕ → Type 0 where
  opened : {n : ℕ} (q : ℕ) → T (produces g n q) → (fs : List (Part g)) → Cut fs → (v : List Sym) → Words (content_of g q) (skeleton fs ++ v) →
      Opened g n (starts (some (tag_of g q)) ∷ events fs) (start_tag q ∷ acts_in q fs) (suc (depths fs))
  deeper : {n : ℕ} (q : ℕ) → T (produces g n q) → (fs : List (Part g)) (j m : ℕ) (v : List Sym) →
      Words (content_of g q) (skeleton fs ++ at j (nonterminal m) ∷ v) → {xs : List Event} {bs : List Act} {d : ℕ} → Opened g m xs bs d →
      Opened g n (starts (some (tag_of g q)) ∷ (events fs ++ xs)) (start_tag q ∷ (acts_in q fs ++ bs)) (suc (max (depths fs) d))
