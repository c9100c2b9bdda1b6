-- A place in a content model behind each byte, each return. Assumes nothing.
use mathlib.Core.Path.{◌≡◌, refl, sym, subst}
use mathlib.Core.List.{List, [], ◌∷◌}
use Prim.Native.Nat.{ℕ, ◌+◌, ◌-◌, ◌≤◌, ◌<◌}
use native.Mathlib.Omega.{arith}
use lib.ListN.{length, get_or, set}
use Rattle.limits.specs.Limits.{nodes_at_most}
use Rattle.expressions.specs.Expr.{nonterminal, atom}
use Rattle.models.specs.Models.{Model}
use Rattle.models.specs.Expressions.{model_expression}
use Rattle.models.specs.Reader.{LeftOf, behind_left}
use Rattle.declarations.specs.declared.NodeRow.{NodeRow}
use Rattle.declarations.specs.Nodes.{Shows, MarkedAs, BehindAs}
use Rattle.extents.proofs.Stacks.{pushed, top}
use Rattle.levels.specs.declared.Level.{Level}
use Rattle.levels.specs.declared.Nest.{Nest}
use Rattle.levels.specs.Levels.{bare_level, AllShown, Around, Nested, KeepsNodes, BareLevelIs, OpenedIs, NamedIs, MarkIn, JoinIs, PushIs, CloseIs}
use Rattle.levels.proofs.Counting.{part_of, mark_nodes}

abbrev nest : NodeRow → Level → List Level → ℕ → Nest
nest model here around n = record { model = model; here = here; around = around; «open» = n }

pub opened_is : (model : NodeRow) (here : Level) (around : List Level) → BareLevelIs here → OpenedIs (nest model here around 0)
opened_is model here around h = record { is = λ number. record { open_is = refl; few_open = omega arith; here_is = h.is; around_are = tt } }

-- what was read last is no part of what lies around it
same_around : {number : List ℕ → ℕ} {l : LeftOf} {ls : List LeftOf} {v : Nest} (row : NodeRow) → Around number l ls v → Around number l ls (nest row v.here v.around v.«open»)
same_around row h = record { open_is = h.open_is; few_open = h.few_open; here_is = h.here_is; around_are = h.around_are }

module _ (v : Nest) where
  pub named_is : (n : ℕ) (row : NodeRow) → Shows (atom (nonterminal n)) row → NamedIs v n (nest row v.here v.around v.«open»)
  named_is n row s = record { is = λ number m l ls h e. record { around = same_around row h; model_is = subst (λ k. Shows (atom (nonterminal k)) row) (sym e) s } }

  pub mark_is : (b : ℕ) (row : NodeRow) → MarkedAs b v.model row → MarkIn v b (nest row v.here v.around v.«open»)
  mark_is b row s = record {
    is = λ number x y l ls h m few. record {
      around = same_around row h.around;
      model_is = s.is number x y m h.model_is (omega (arith, part_of nodes_at_most (l ∷ ls) x few, mark_nodes m));
    };
  }

  -- the model behind what stands to its left
  module _ (row : NodeRow) (b : BehindAs v.here.kind v.here.nodes v.model row) where
    behind_shown : (number : List ℕ → ℕ) (x : Model) (l : LeftOf) (ls : List LeftOf) → Nested number x l ls v → KeepsNodes x l ls → Shows (model_expression number (behind_left l x)) row
    behind_shown number x l ls h few = b.is number l x h.around.here_is h.model_is (omega (arith, part_of nodes_at_most ls (behind_left l x) few))

    pub join_is : (kind : ℕ) → JoinIs v kind (nest v.model (record { kind = kind; nodes = row }) v.around v.«open»)
    join_is kind = record {
      with_comma_lem = λ e number x l ls h few. record { open_is = h.around.open_is; few_open = h.around.few_open; here_is = (e, behind_shown number x l ls h few); around_are = h.around.around_are };
      with_bar_lem = λ e number x l ls h few. record { open_is = h.around.open_is; few_open = h.around.few_open; here_is = (e, behind_shown number x l ls h few); around_are = h.around.around_are };
    }

    pub close_last : v.«open» ≡ 0 → CloseIs v (nest row v.here v.around 0)
    close_last last = record {
      inner = λ number x l l' ls h few. absurd (omega (arith, h.around.open_is, last));
      outer = λ number x l h few. behind_shown number x l [] h few;
    }

    pub close_is : (z : Level) → (v.«open» ≡ 0 → ⊥) → v.«open» ≤ 32 → length v.around ≡ 32 → CloseIs v (nest row (get_or v.around (v.«open» - 1) z) v.around (v.«open» - 1))
    close_is z more room full = record {
      inner = λ number x l l' ls h few.
          let some : 0 < v.«open» = omega (arith, h.around.open_is) in
          let p = top (λ (q : Level). q) bare_level v.around v.«open» z some (omega (arith, room, full)) in
          let q = subst (AllShown number (l' ∷ ls)) p h.around.around_are in
          record {
            around = record { open_is = omega (arith, h.around.open_is); few_open = omega (arith, h.around.few_open); here_is = q.0; around_are = q.1 };
            model_is = behind_shown number x l (l' ∷ ls) h few;
          };
      outer = λ number x l h few. absurd (more h.around.open_is);
    }

  pub close_far : 32 < v.«open» → CloseIs v v
  close_far far = record {
    inner = λ number x l l' ls h few. absurd (omega (arith, h.around.open_is, h.around.few_open, far));
    outer = λ number x l h few. absurd (omega (arith, h.around.open_is, far));
  }

  pub push_is : (new : Level) → v.«open» < 32 → length v.around ≡ 32 → BareLevelIs new → PushIs v (nest v.model new (set v.around v.«open» v.here) (v.«open» + 1))
  push_is new room full bare = record {
    is = λ number l ls h few. record {
      open_is = omega (arith, h.open_is);
      few_open = omega (arith, few);
      here_is = bare.is;
      around_are = subst (AllShown number (l ∷ ls)) (sym (pushed (λ (q : Level). q) bare_level v.around v.«open» v.here (omega (arith, room, full)))) (h.here_is, h.around_are);
    };
  }

  pub push_far : 32 ≤ v.«open» → PushIs v v
  push_far far = record { is = λ number l ls h few. absurd (omega (arith, h.open_is, h.few_open, far)) }
