-- The nodes and the depth of a model and of what lies around it, each return. Assumes nothing.
use mathlib.Core.Path.{◌≡◌, refl, sym, ◌∙◌, subst}
use mathlib.Core.List.{List, [], ◌∷◌}
use Prim.Native.Nat.{ℕ, ◌+◌, ◌-◌, ◌/◌, ◌≤◌, ◌<◌, max}
use native.Mathlib.Omega.{arith}
use lib.ListN.{length, get_or}
use Rattle.models.specs.Models.{Model, called, children}
use Rattle.models.specs.Expressions.{model_expression, model_nodes, model_depth}
use Rattle.models.specs.Reader.{LeftOf, fresh, commas, bars, behind_left, around_model, short_name}
use Rattle.models.proofs.Counted.{counted, depth_counted}
use Rattle.declarations.specs.declared.NodeRow.{NodeRow}
use Rattle.declarations.specs.Nodes.{room_for_nodes, most_node_bytes, LeftShown}
use Rattle.declarations.proofs.Laws.{two_bytes, no_deeper}
use Rattle.extents.specs.Held.{last_first}
use Rattle.extents.proofs.Stacks.{top}
use Rattle.levels.specs.declared.Level.{Level}
use Rattle.levels.specs.declared.Nest.{Nest}
use Rattle.levels.specs.declared.ModelSize.{ModelSize}
use Rattle.levels.specs.Levels.{bare_level, AllShown}
use Rattle.levels.specs.Sizes.{SizeOf, RowSize, BehindSize, SizedAround, MeasuredAs, WantingAs}
use Rattle.levels.proofs.Counting.{part_of}

pub row_size_lem : (a : NodeRow) → RowSize a (record { nodes = a.length / 2; deep = a.deep })
row_size_lem a = record {
  is = λ number x s. record {
    nodes_are = omega (arith, s.laid.length_is, two_bytes (model_expression number x), counted number x);
    deep_is = s.deep_is ∙ depth_counted number (children x);
  };
}

-- no deeper than it has nodes
low : (x : Model) → model_depth x ≤ model_nodes x
low x = let n : List ℕ → ℕ = λ m. 0 in omega (arith, (no_deeper (model_expression n x)).1, counted n x, depth_counted n (children x))

module _ (p : Level) (s : ModelSize) where
  pub behind_none : p.kind ≡ 0 → BehindSize p s s
  behind_none e = record { is = go }
    where
      go : (number : List ℕ → ℕ) (l : LeftOf) (x : Model) → LeftShown number l p.kind p.nodes → SizeOf x s → model_nodes (behind_left l x) ≤ room_for_nodes → SizeOf (behind_left l x) s
      go number fresh x h k few = k
      go number (commas y) x h k few = absurd (omega (arith, h.0, e))
      go number (bars y) x h k few = absurd (omega (arith, h.0, e))

  module _ (left : ModelSize) (some : p.kind ≡ 0 → ⊥) (a : RowSize p.nodes left) where
    -- it is too large for none within its limits
    pub behind_far : (deeper more most : ℕ) → deeper ≡ max left.deep s.deep → more ≡ max left.nodes s.nodes → most ≡ max more deeper → most_node_bytes < most → BehindSize p s s
    behind_far deeper more most d m e far = record { is = go }
      where
        over : (x y : Model) → SizeOf y left → SizeOf x s → model_nodes y + model_nodes x + 1 ≤ room_for_nodes → ⊥
        over x y h k few = omega (arith, far, d, m, e, h.nodes_are, h.deep_is, k.nodes_are, k.deep_is, low x, low y, few)

        go : (number : List ℕ → ℕ) (l : LeftOf) (x : Model) → LeftShown number l p.kind p.nodes → SizeOf x s → model_nodes (behind_left l x) ≤ room_for_nodes → SizeOf (behind_left l x) s
        go number fresh x h k few = absurd (some h)
        go number (commas y) x h k few = absurd (over x y (a.is number y h.1) k few)
        go number (bars y) x h k few = absurd (over x y (a.is number y h.1) k few)

    pub behind_some : (r : ModelSize) → r.nodes ≡ left.nodes + s.nodes + 1 → r.deep ≡ max left.deep s.deep + 1 → BehindSize p s r
    behind_some r n d = record { is = go }
      where
        go : (number : List ℕ → ℕ) (l : LeftOf) (x : Model) → LeftShown number l p.kind p.nodes → SizeOf x s → model_nodes (behind_left l x) ≤ room_for_nodes → SizeOf (behind_left l x) r
        go number fresh x h k few = absurd (some h)
        go number (commas y) x h k few = let z = a.is number y h.1 in record { nodes_are = omega (arith, n, z.nodes_are, k.nodes_are); deep_is = omega (arith, d, z.deep_is, k.deep_is) }
        go number (bars y) x h k few = let z = a.is number y h.1 in record { nodes_are = omega (arith, n, z.nodes_are, k.nodes_are); deep_is = omega (arith, d, z.deep_is, k.deep_is) }

-- the first n of the levels around, innermost first
abbrev first : List Level → ℕ → List Level
first around n = last_first (λ (q : Level). q) bare_level around n

-- the levels that are left, and the model so far
pub record Left (number : List ℕ → ℕ) (levels : List Level) (now : ModelSize) (whole : Model) : Type 0 where
  pub inner : Model
  pub outer : List LeftOf
  pub shown : AllShown number outer levels
  pub size : SizeOf inner now
  pub same : around_model outer inner ≡ whole

pub record Outward (around : List Level) (n : ℕ) (begun : ModelSize) (i : ℕ) (now : ModelSize) : Type 0 where
  pub at_most : i ≤ n
  pub is : (number : List ℕ → ℕ) (whole : Model) → model_nodes whole ≤ room_for_nodes → Left number (first around n) begun whole → Left number (first around i) now whole

module _ (around : List Level) (n : ℕ) (begun : ModelSize) where
  pub outward_start : Outward around n begun n begun
  outward_start = record { at_most = omega arith; is = λ number whole few h. h }

  step : (number : List ℕ → ℕ) (p : Level) (ps : List Level) (now next : ModelSize) (whole : Model) → BehindSize p now next → model_nodes whole ≤ room_for_nodes → Left number (p ∷ ps) now whole → Left number ps next whole
  step number p ps now next whole b few h = go h.outer h.shown h.same
    where
      go : (outer : List LeftOf) → AllShown number outer (p ∷ ps) → around_model outer h.inner ≡ whole → Left number ps next whole
      go [] a e = absurd a
      go (l ∷ ls) a e = record {
        inner = behind_left l h.inner;
        outer = ls;
        shown = a.1;
        size = b.is number l h.inner a.0 h.size (part_of room_for_nodes ls (behind_left l h.inner) (subst (λ y. model_nodes y ≤ room_for_nodes) (sym e) few));
        same = e;
      }

  pub outward_on : (i : ℕ) (now next : ModelSize) (z : Level) → 0 < i → n ≤ 32 → length around ≡ 32 → Outward around n begun i now → BehindSize (get_or around (i - 1) z) now next → Outward around n begun (i - 1) next
  outward_on i now next z some room full h b = record {
    at_most = omega (arith, h.at_most);
    is = λ number whole few k.
        step number (get_or around (i - 1) z) (first around (i - 1)) now next whole b few
        (subst (λ y. Left number y now whole) (top (λ (q : Level). q) bare_level around i z some (omega (arith, h.at_most, room, full))) (h.is number whole few k));
  }

  over : (i : ℕ) (now : ModelSize) → i ≡ 0 → Outward around n begun i now → (number : List ℕ → ℕ) (whole : Model) → model_nodes whole ≤ room_for_nodes → Left number (first around n) begun whole → SizeOf whole now
  over i now none h number whole few k = end (subst (λ j. Left number (first around j) now whole) none (h.is number whole few k))
    where
      end : Left number [] now whole → SizeOf whole now
      end g = go g.outer g.shown g.same
        where
          go : (outer : List LeftOf) → AllShown number outer [] → around_model outer g.inner ≡ whole → SizeOf whole now
          go [] a e = subst (λ y. SizeOf y now) e g.size
          go (l ∷ ls) a e = absurd a

module _ (v : Nest) (s : ModelSize) where
  pub sized_is : (begun : ModelSize) (i : ℕ) (now : ModelSize) → BehindSize v.here s begun → Outward v.around v.«open» begun i now → i ≤ 0 → SizedAround v s now
  sized_is begun i now b h none = record {
    is = λ number x l ls a k few.
        over v.around v.«open» begun i now (omega (arith, none)) h number (around_model (l ∷ ls) x) few
        (record { inner = behind_left l x; outer = ls; shown = a.around_are; size = b.is number l x a.here_is k (part_of room_for_nodes ls (behind_left l x) few); same = refl });
  }

  pub sized_far : (r : ModelSize) → 32 < v.«open» → SizedAround v s r
  sized_far r far = record { is = λ number x l ls h k few. absurd (omega (arith, h.open_is, h.few_open, far)) }

pub measured : (v : Nest) (s r : ModelSize) → RowSize v.model s → SizedAround v s r → MeasuredAs v r
measured v s r a b = record { is = λ number x l ls h few. b.is number x l ls h.around (a.is number x h.model_is) few }

pub measured_wanting : (v : Nest) (r : ModelSize) → SizedAround v (record { nodes = 1; deep = 1 }) r → WantingAs v r
measured_wanting v r b = record { is = λ number l ls h few. b.is number (called short_name) l ls h (record { nodes_are = refl; deep_is = refl }) few }
