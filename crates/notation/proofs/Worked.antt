-- The smallest rule text is one. Assumes nothing.
use mathlib.Core.Path.{◌≡◌, refl}
use mathlib.Core.List.{List, [], ◌∷◌}
use Prim.Native.Nat.{ℕ}
use native.Mathlib.Omega.{arith}
use Rattle.notation.specs.Tokens.{nonterminal, name, sign, DEFINED, OPEN, CLOSE, decimal}
use Rattle.notation.specs.Gaps.{Gap, white, gap}
use Rattle.notation.specs.Spelled.{end, token}
use Rattle.notation.specs.Statements.{absent}
use Rattle.notation.specs.Productions.{nothing, production, one, start_first}
use Rattle.notation.specs.Worked.{Smallest}

pub smallest : Smallest
unfolding decimal
smallest = record {
  tokens = nonterminal 0 ∷ sign DEFINED ∷ name (97 ∷ []) ∷ sign OPEN ∷ sign CLOSE ∷ [];
  spelled =
      token {g = []} (nonterminal 0) Gap.none refl
      (token {g = 32 ∷ []} (sign DEFINED) (white refl Gap.none) refl
      (token {g = 32 ∷ []} (name (97 ∷ [])) (white refl Gap.none) refl
      (token {g = []} (sign OPEN) Gap.none refl
      (token {g = []} (sign CLOSE) Gap.none tt (end (gap Gap.none))))));
  grammatical = start_first (one (production {n = 0} {tag = 97 ∷ []} (omega arith) absent (record { a_name = (refl, tt); short = omega arith }) nothing absent));
  within = record {
    few_productions = omega arith;
    few_nodes = omega arith;
    each = (record { own = (tt, tt); inside = record { few_nodes = omega arith; shallow = omega arith; programs = tt } }, tt);
  };
}
