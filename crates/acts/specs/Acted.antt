-- What doing acts on a state answers and leaves: that a program rejects; or the state then, which holds no output, and the output in lent memory.
-- Assumes nothing.
use Rattle.std.specs.Prelude.{Option as Taken, Some, None, IfSome, ◌≡◌, false, List, ℕ, suc, ◌+◌, ◌*◌, ◌≤◌, ◌<◌, length}
use Rattle.std.proofs.Math.Option.{Option, none, some}
use Rattle.limits.specs.Limits.{deepest_tree}
use Rattle.lent.specs.Put.{PutAs}
use Rattle.output.specs.Escape.{render}
use Rattle.expressions.specs.Words.{Bracket}
use Rattle.sheet.specs.Sheet.{Sheet, IsSheet}
use Rattle.visits.specs.Written.{Pen}
use Rattle.visits.specs.Ran.{most_printed}
use Rattle.ways.specs.Held.{codes}
use Rattle.few.specs.Strings.{most_brackets}
use Rattle.runs.specs.Acts.{start_tag, end_tag, letter_read, bracket_acts, Store, act, acts}
use Rattle.runs.specs.Machine.{Open, Control, inside, outer, at_start, most}
use Rattle.runs.specs.Nodes.{through_nodes}
use Rattle.calls.specs.Limits.{silent}
use Rattle.state.specs.Changes.{top_of}
use Rattle.state.specs.Meaning.{meaning_of, opens_of, Shaped}
use Rattle.state.specs.declared.State.{State}
use Rattle.acts.specs.Seen.{ActedSeen}

-- the acts came to m, and the run then stands at c: the state stands for that, and m's output is what was written from p on
pub record Done (c : Control) (m : Store) (z : State) (p : Pen) (r : ActedSeen) (d : List ℕ) : Type 0 where
  pub means : meaning_of r.state ≡ silent (record { control = c; store = m })
  pub shaped : Shaped r.state
  pub closed : r.state.closed ≡ z.closed
  pub written : PutAs p.write p.lent p.at (render m.env.out) d r.at

-- none is a rejection
abbrev pub Comes : Option Store → Control → State → Pen → Taken ActedSeen → List ℕ → Type 0
Comes o c z p None d = o ≡ none
Comes none c z p (Some r) d = ⊥
Comes (some m) c z p (Some r) d = Done c m z p r d

-- more than one visit writes: a program's prints and a tag
abbrev pub visit_reach : ℕ
visit_reach = most_printed * 16384 + 64

-- the brackets' visits of production q, where the string's openings and closings fit the sets that are kept: ns are the nodes open before it
pub record BracketsAs (s : List ℕ) (q : ℕ) (line : List ℕ) (z : State) (p : Pen) (r : Taken ActedSeen) (d : List ℕ) : Type 0 where
  pub reach : IfSome r (λ x. x.at ≤ p.at + most_brackets * visit_reach)
  pub count : IfSome r (λ x. x.state.count ≤ z.count + most_brackets)
  pub deep : IfSome r (λ x. x.state.depth ≡ z.depth)
  pub dry : p.write ≡ false → d ≡ p.lent
  pub right : (a : Sheet) → IsSheet s a → (α : List Bracket) → line ≡ codes α → Shaped z → (o : Open) (os : List Open) → (meaning_of z).control ≡ inside o os →
      (ns ns' : List ℕ) → through_nodes deepest_tree α ns ≡ some ns' → (top_of z).«open» ≡ suc (length ns) →
      Comes (acts a (bracket_acts q α) (meaning_of z).store) (meaning_of z).control z p r d

-- a start tag of production q
pub record EntersAs (s : List ℕ) (q : ℕ) (z : State) (p : Pen) (r : Taken ActedSeen) (d : List ℕ) : Type 0 where
  pub reach : IfSome r (λ x. x.at ≤ p.at + visit_reach)
  pub count : IfSome r (λ x. x.state.count ≤ z.count + 1)
  pub dry : p.write ≡ false → d ≡ p.lent
  pub right : (a : Sheet) → IsSheet s a → Shaped z → z.depth < most →
      Comes (act a (start_tag q) (meaning_of z).store) (inside (at_start q) (opens_of (meaning_of z).control)) z p r d

-- an end tag of production q, of which a set is kept
pub record LeavesAs (s : List ℕ) (q : ℕ) (z : State) (p : Pen) (r : Taken ActedSeen) (d : List ℕ) : Type 0 where
  pub reach : IfSome r (λ x. x.at ≤ p.at + visit_reach)
  pub count : IfSome r (λ x. x.state.count ≤ z.count + 1)
  pub dry : p.write ≡ false → d ≡ p.lent
  pub right : (a : Sheet) → IsSheet s a → Shaped z → (o : Open) (os : List Open) → (meaning_of z).control ≡ inside o os → 0 < (top_of z).«open» →
      Comes (act a (end_tag q) (meaning_of z).store) (outer os) z p r d

-- a character
pub record ReadsAs (c : ℕ) (z : State) (p : Pen) (r : ActedSeen) (d : List ℕ) : Type 0 where
  pub reach : r.at ≤ p.at + visit_reach
  pub count : r.state.count ≤ z.count
  pub dry : p.write ≡ false → d ≡ p.lent
  pub right : (a : Sheet) → Shaped z → Comes (act a (letter_read c) (meaning_of z).store) (meaning_of z).control z p (Some r) d
