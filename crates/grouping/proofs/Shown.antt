-- Regrouping unions can change the count: both runs, computed.
-- Assumes nothing.
use mathlib.Core.Path.{refl}
use mathlib.Core.List.{List, [], ◌∷◌}
use native.Mathlib.Omega.{arith}
use Rattle.tokens.specs.Tokens.{start, end, empty, Tok, tag}
use Rattle.runs.specs.Visits.{fresh}
use Rattle.runs.specs.Examples.{Run, accepts, RunHolds, Each, ended, child_of}
use Rattle.runs.proofs.Examples.{computed, given, Fits, run_holds, each}
use Rattle.calls.specs.Names.{tokens_for}
use Rattle.grouping.specs.Regrouped.{step, union, regrouped_tree, and_production}
use Rattle.grouping.specs.Unions.{to_the_left, to_the_right, UnionsChangeTheCount}
use Rattle.grouping.proofs.Grammars.{grammar_refl}

abbrev tokens : List Tok
tokens = tag start (0x72 ∷ []) [] ∷ tag empty (0x63 ∷ []) [] ∷ tag end (0x72 ∷ []) [] ∷ []

abbrev two_runs : List Run
two_runs =
    accepts to_the_left (tokens_for to_the_left tokens) (ended fresh.values [] 8)
    ∷ accepts to_the_right (tokens_for to_the_right tokens) (ended fresh.values [] 10)
    ∷ []

they_fit : Each Fits two_runs
they_fit = search arith depth 40 fits 5000

both_hold : Each RunHolds two_runs
both_hold = each Fits RunHolds computed given run_holds two_runs they_fit refl

pub unions_change_the_count : UnionsChangeTheCount
unions_change_the_count = record {
  are_regrouped = and_production (record {
    same_nonterminal = refl;
    same_tag = refl;
    expression = regrouped_tree (step (union (child_of 1) (child_of 2) (child_of 3)));
  }) (grammar_refl _);
  left_passes = both_hold.0.0;
  right_passes = both_hold.1.0.0;
  under_left = ended fresh.values [] 8;
  under_right = ended fresh.values [] 10;
  left_accepted = record { tokens = tokens; good = search; short = search arith; whole = (tt, (tt, (tt, tt))); are_bytes = refl; spells = both_hold.0.1; counts = omega arith };
  right_accepted = record { tokens = tokens; good = search; short = search arith; whole = (tt, (tt, (tt, tt))); are_bytes = refl; spells = both_hold.1.0.1; counts = omega arith };
  left_count = refl;
  right_count = refl;
}
