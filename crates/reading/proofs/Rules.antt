-- The machine reads the tokens of rules. Assumes nothing.
use mathlib.Core.Path.{◌≡◌, refl, sym, ◌∙◌, ap, subst}
use mathlib.Core.Option.{Option, none, some}
use mathlib.Core.List.{List, [], ◌∷◌, ◌++◌, append_assoc, append-nil}
use Prim.Native.Nat.{ℕ, ◌≤◌}
use native.Mathlib.Omega.{arith}
use Rattle.notation.specs.Rules.{Rules}
use Rattle.notation.specs.Tokens.{TextToken}
use Rattle.reading.specs.Machine.{and_then, walk}
use Rattle.reading.specs.Reads.{ReadBy}
use Rattle.reading.specs.Rules.{Progress, beginning, first_word, named, defined, own_front, wants_tag, tagged, within, closed, own_back, complete, step_rules, value_of_rules, finished_rules}
use Rattle.reading.specs.Promises.{ReadsRules}
use Rattle.reading.proofs.Telling.{none≢some, held_after}
use Rattle.reading.proofs.Expressions.{nothing_within}
use Rattle.reading.proofs.RuleWalk.{ends}
use Rattle.reading.proofs.RuleHeld.{Held, held_step, held_value, held_shortest}
use Rattle.reading.proofs.RuleSize.{Grown, step_grows}

finished_value : (s : Progress) (v : Rules) → value_of_rules s ≡ some v → finished_rules s ≡ v
finished_value beginning v e = absurd (none≢some refl e)
finished_value (first_word n) v e = absurd (none≢some refl e)
finished_value (named h) v e = absurd (none≢some refl e)
finished_value (defined h) v e = absurd (none≢some refl e)
finished_value (own_front q h) v e = absurd (none≢some refl e)
finished_value (wants_tag f h) v e = absurd (none≢some refl e)
finished_value (tagged f t h) v e = absurd (none≢some refl e)
finished_value (within x f t h) v e = absurd (none≢some refl e)
finished_value (closed f t x h) v e = cc
finished_value (own_back q f t x h) v e = absurd (none≢some refl e)
finished_value (complete r h) v e = cc

held : (ts : List TextToken) (s : Progress) → walk step_rules beginning ts ≡ some s → Held s ts
held ts s e = held_after step_rules Held held_step beginning s ts refl e

pub reads_rules : ReadsRules
reads_rules = record {
  complete = ends;
  sound = λ ts s v e t. held_value s ts v (held ts s e) t;
  shortest = λ ts s e. held_shortest s ts (held ts s e);
  finished_last = finished_value;
  grows = λ s s' t e f. (subst (Grown s) e (step_grows s t)) f;
  starts = record { few_productions = omega arith; few_nodes = omega arith; each = (record { own = (tt, tt); inside = nothing_within }, tt) };
}
