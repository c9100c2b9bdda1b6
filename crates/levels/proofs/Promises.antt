-- Only the numbers of names that were read matter. Assumes nothing.
use mathlib.Core.Path.{◌≡◌, refl, ap, ap₂, subst}
use mathlib.Core.List.Memᴰ
use mathlib.Core.List.{List, [], ◌∷◌, ◌++◌, Memᴰ}
use Prim.Native.Nat.{ℕ}
use Rattle.expressions.specs.Expr.{nonterminal, atom, cat, alt, star, empty}
use Rattle.models.specs.Models.{Model, called, sequence, choice, optional, any_number, at_least_one}
use Rattle.models.specs.Expressions.{model_expression}
use Rattle.models.specs.Family.{names_in}
use Rattle.models.specs.Reader.{LeftOf, fresh, commas, bars}
use Rattle.models.specs.Names.{names_left, names_around}
use Rattle.declarations.specs.declared.NodeRow.{NodeRow}
use Rattle.declarations.specs.Nodes.{Shows, LeftShown}
use Rattle.levels.specs.declared.Level.{Level}
use Rattle.levels.specs.Levels.{AllShown, levels_in}
use Rattle.levels.specs.Promises.{NumberedAlike, SameExpression, AroundStays, NestedStays, AroundCounted, MarkHasRoom, CommaHasRoom, BarHasRoom}
use Rattle.levels.proofs.Counting as counting

pub around_counted : AroundCounted
around_counted = counting.around_counted

pub mark_has_room : MarkHasRoom
mark_has_room = counting.mark_has_room

pub comma_has_room : CommaHasRoom
comma_has_room = counting.comma_has_room

pub bar_has_room : BarHasRoom
bar_has_room = counting.bar_has_room

module _ (number number' : List ℕ → ℕ) where
  in_front : (u w : List (List ℕ)) → NumberedAlike number number' (u ++ w) → NumberedAlike number number' u
  in_front u w h m k = h m (Memᴰ.append_left w k)

  behind : (u w : List (List ℕ)) → NumberedAlike number number' (u ++ w) → NumberedAlike number number' w
  behind u w h m k = h m (Memᴰ.append_right u k)

  alike : (x : Model) → NumberedAlike number number' (names_in x) → model_expression number x ≡ model_expression number' x
  alike (called n) h = ap (λ k. atom (nonterminal k)) (h n (Memᴰ.head refl))
  alike (sequence x y) h = ap₂ cat (alike x (in_front (names_in x) (names_in y) h)) (alike y (behind (names_in x) (names_in y) h))
  alike (choice x y) h = ap₂ alt (alike x (in_front (names_in x) (names_in y) h)) (alike y (behind (names_in x) (names_in y) h))
  alike (optional x) h = ap (λ e. alt e empty) (alike x h)
  alike (any_number x) h = ap star (alike x h)
  alike (at_least_one x) h = ap (λ e. cat e (star e)) (alike x h)

  shown : (x : Model) (row : NodeRow) → NumberedAlike number number' (names_in x) → Shows (model_expression number x) row → Shows (model_expression number' x) row
  shown x row h s = subst (λ e. Shows e row) (alike x h) s

  left_shown : (l : LeftOf) (kind : ℕ) (row : NodeRow) → NumberedAlike number number' (names_left l) → LeftShown number l kind row → LeftShown number' l kind row
  left_shown fresh kind row h s = s
  left_shown (commas y) kind row h s = (s.0, shown y row h s.1)
  left_shown (bars y) kind row h s = (s.0, shown y row h s.1)

  all_shown : (ls : List LeftOf) (ps : List Level) → NumberedAlike number number' (names_around ls) → AllShown number ls ps → AllShown number' ls ps
  all_shown [] [] h s = tt
  all_shown [] (p ∷ ps) h s = absurd s
  all_shown (l ∷ ls) [] h s = absurd s
  all_shown (l ∷ ls) (p ∷ ps) h s = (left_shown l p.kind p.nodes (behind (names_around ls) (names_left l) h) s.0, all_shown ls ps (in_front (names_around ls) (names_left l) h) s.1)

pub same_expression : SameExpression
same_expression number number' x h = alike number number' x h

pub around_stays : AroundStays
around_stays number number' l ls v h a = record {
  open_is = a.open_is;
  few_open = a.few_open;
  here_is = left_shown number number' l v.here.kind v.here.nodes (behind number number' (names_around ls) (names_left l) h) a.here_is;
  around_are = all_shown number number' ls (levels_in v) (in_front number number' (names_around ls) (names_left l) h) a.around_are;
}

pub nested_stays : NestedStays
nested_stays number number' x l ls v h a = record {
  around = around_stays number number' l ls v (in_front number number' (names_around (l ∷ ls)) (names_in x) h) a.around;
  model_is = shown number number' x v.model (behind number number' (names_around (l ∷ ls)) (names_in x) h) a.model_is;
}
