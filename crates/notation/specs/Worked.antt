-- The smallest rule text, `n0 ::= a()`, and the rules that it writes. Assumes nothing.
use Rattle.std.specs.Prelude.{List, [], ◌∷◌, ℕ}
use Rattle.std.proofs.Math.Option.{none}
use Rattle.notation.specs.Rules.{Rules}
use Rattle.notation.specs.RuleText.{RuleText}

abbrev pub smallest_text : List ℕ
smallest_text = 110 ∷ 48 ∷ 32 ∷ 58 ∷ 58 ∷ 61 ∷ 32 ∷ 97 ∷ 40 ∷ 41 ∷ []

abbrev pub smallest_rules : Rules
smallest_rules = record {
  start = 0;
  productions = record { nonterminal = 0; tag = 97 ∷ []; own = record { first_visit = none; second_visit = none }; inside = none } ∷ [];
}

abbrev pub Smallest : Type 0
Smallest = RuleText smallest_text smallest_rules
