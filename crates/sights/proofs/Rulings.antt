-- What is told of a whole text. Assumes nothing.
use mathlib.Core.Path.{refl, ap}
use mathlib.Core.List.{List}
use Prim.Native.Nat.{ℕ}
use Rattle.notation.specs.Rules.{Rules}
use Rattle.notation.specs.RuleText.{RuleText}
use Rattle.notation.proofs.Refusals.{one_place, none_where_written}
use Rattle.reading.specs.Rules.{beginning}
use Rattle.verdicts.specs.Judged.{writes, refused_at}
use Rattle.verdicts.proofs.Judging.{judged_right}
use Rattle.rulings.specs.declared.Reader.{Reader}
use Rattle.rulings.specs.Readers.{StartIs}
use Rattle.std.specs.Prelude.{Err}
use Rattle.sights.specs.Glances.{Somewhere, RestTold, rest_writes, rest_refused, RestIs}
use Rattle.sights.specs.Rulings.{Ruling, RulingIs, writes_rules, writes_none, OneRuling}

pub one_ruling : OneRuling
one_ruling text a b (writes_rules r h) (writes_rules q i) = refl
one_ruling text a b (writes_rules r h) (writes_none {k = k} i) = absurd (none_where_written ℕ Rules RuleText text r k h i)
one_ruling text a b (writes_none {k = k} h) (writes_rules q i) = absurd (none_where_written ℕ Rules RuleText text q k i h)
one_ruling text a b (writes_none {k = j} h) (writes_none {k = k} i) = ap Err (one_place ℕ Rules RuleText text j k h i)

pub somewhere_first : (r : Reader) → StartIs r → Somewhere r
somewhere_first r h = record { state = beginning; holds = h.holds }

told_ruling : (text : List ℕ) (a : Ruling) → RestTold beginning text a → RulingIs text a
told_ruling text a (rest_writes v j) = writes_rules v (judged_right text (writes v) j)
told_ruling text a (rest_refused {k = k} j) = writes_none (judged_right text (refused_at k) j)

-- all of it is the rest, from the first reader on
pub whole_told : (text : List ℕ) (r : Reader) (a : Ruling) → StartIs r → RestIs text r a → RulingIs text a
whole_told text r a h i = told_ruling text a (i.told beginning h.holds)
