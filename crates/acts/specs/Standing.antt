-- Where a run stands between the brackets of a string: attributes, echo and the sets of the innermost element, apart from the state that they began with.
-- Assumes nothing.
use Rattle.std.specs.Prelude.{◌≡◌, List, ℕ, ◌+◌, ◌%◌, ◌≤◌, ◌<◌}
use Rattle.state.specs.Bounds.{most_sets}
use Rattle.state.specs.declared.Saved.{Saved}
use Rattle.live.specs.declared.Live.{Live}
use Rattle.visits.specs.declared.Env.{Env}

-- where the set of the bracket whose byte is c stands, n sets being in use: an opening one keeps it behind them, a closing one takes the last of them off;
-- past all sets where no element is open, or there is none to take
pub record SlotIs (c n depth r : ℕ) : Type 0 where
  pub byte : c < 256
  pub deep : r < most_sets → 0 < depth
  pub even : c % 2 ≡ 0 → r < most_sets → r ≡ n
  pub odd : (c % 2 ≡ 0 → ⊥) → r < most_sets → n ≡ r + 1
  pub none_even : c % 2 ≡ 0 → 0 < depth → r ≡ n
  pub none_odd : (c % 2 ≡ 0 → ⊥) → 0 < depth → most_sets ≤ r → n ≤ most_sets → n ≡ 0

-- the state after i brackets from z on: n sets are in use
abbrev pub standing_at : Live → ℕ → Env → ℕ → List Saved → Live
standing_at z i e n sets =
    record {
      values = e.values;
      echo = e.echo;
      count = z.count + i;
      rooted = z.rooted;
      closed = z.closed;
      depth = z.depth;
      top = record { production = z.top.production; place = z.top.place; «open» = n; saved = sets };
    }
