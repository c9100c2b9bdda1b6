-- Only the numbers of whole names matter; what one byte makes has room. Assumes nothing.
use mathlib.Core.Path.{◌≡◌, refl, sym, ◌∙◌, ap, subst}
use mathlib.Core.Bool.{Bool, true, false, cond}
use mathlib.Core.Option.{Option, none, some}
use mathlib.Core.List.Memᴰ
use mathlib.Core.List.{List, [], ◌∷◌, ◌++◌}
use Prim.Native.Nat.{ℕ, suc, ◌+◌, ◌≤◌}
use native.Mathlib.Omega.{arith}
use lib.Dec.{eqb, ltb}
use lib.ListN.{length, length-append}
use Rattle.limits.specs.Limits.{longest_name}
use Rattle.text.specs.Names.{name_first, name_byte, blank}
use Rattle.expressions.specs.Expr.{nonterminal, anychar, Exp, atom, alt, star, tree}
use Rattle.models.specs.Models.{Model, called, optional, any_number, at_least_one, ContentSpec, nothing_inside, mixed, children}
use Rattle.models.specs.Expressions.{or_names, spec_content, spec_nodes, model_nodes}
use Rattle.models.specs.Family.{names_in_spec}
use Rattle.models.specs.Spelling.{MarkIs, question, asterisk, plus}
use Rattle.models.specs.Reader.{LeftOf, fresh, commas, bars, behind_left, around_model, short_name, Phase, opening, naming, named, contents, emptying, inside, hashing, mixing, barred, mixed_name, mixed_closed, wants, in_name, marking, after, group_closed, ended, Move, to, over, only_if_true, longer, step_ended, step_mark, with_comma, with_bar, closed_group, step_after, step_marking, step_item, step_mixing, unstarred, step_phase, finished_phase}
use Rattle.declarations.specs.declared.NodeRow.{NodeRow}
use Rattle.declarations.specs.Nodes.{content_preorder, room_for_nodes, LaysNodes, Shows}
use Rattle.levels.specs.Promises.{NumberedAlike}
use Rattle.levels.specs.Levels.{KeepsNodes}
use Rattle.levels.proofs.Promises.{same_expression, around_stays, nested_stays, around_counted, mark_has_room, comma_has_room, bar_has_room}
use Rattle.stages.specs.declared.Headway.{Headway}
use Rattle.stages.specs.Headway.{MixedShown, ContentShown, PhaseHolds}
use Rattle.stages.specs.Steps.{FewNodesIn}
use Rattle.models.specs.Names.{whole_names}
use Rattle.strata.specs.Promises.{HeadwayStays, StepHasRoom}

-- other numbers
module _ (number number' : List ℕ → ℕ) where
  or_alike : (e : Exp) (names : List (List ℕ)) → NumberedAlike number number' names → or_names number e names ≡ or_names number' e names
  or_alike e [] h = refl
  or_alike e (n ∷ names) h =
      ap (λ k. or_names number (alt e (atom (nonterminal k))) names) (h n (Memᴰ.head refl)) ∙ or_alike (alt e (atom (nonterminal (number' n)))) names (λ m k. h m (Memᴰ.tail k))

  mixed_stays : (names : List (List ℕ)) (b : Bool) (r : NodeRow) → NumberedAlike number number' names → MixedShown number names b r → MixedShown number' names b r
  mixed_stays names b r h x = record { named_is = x.named_is; row_is = subst (λ (e : Exp). Shows e r) (or_alike (atom anychar) names h) x.row_is }

  spec_alike : (c : ContentSpec) → NumberedAlike number number' (names_in_spec c) → spec_content number c ≡ spec_content number' c
  spec_alike nothing_inside h = refl
  spec_alike (mixed names) h = ap (λ e. tree (star e)) (or_alike (atom anychar) names h)
  spec_alike (children x) h = ap tree (same_expression number number' x h)

  content_stays : (c : ContentSpec) (r : NodeRow) → NumberedAlike number number' (names_in_spec c) → ContentShown number c r → ContentShown number' c r
  content_stays c r h x = record { laid = subst (λ k. LaysNodes (content_preorder k) r) (spec_alike c h) x.laid; deep_is = x.deep_is }

  holds_still : (q : Phase) (s : Headway) → NumberedAlike number number' (whole_names q) → PhaseHolds number q s → PhaseHolds number' q s
  holds_still (opening rest) s h x = x
  holds_still naming s h x = x
  holds_still (named n) s h x = x
  holds_still (contents n) s h x = x
  holds_still (emptying n rest) s h x = x
  holds_still (inside n) s h x = x
  holds_still (hashing n rest) s h x = (x.0, mixed_stays [] s.named s.row h x.1)
  holds_still (mixing n names) s h x = mixed_stays names s.named s.row h x
  holds_still (barred n names) s h x = mixed_stays names s.named s.row h x
  holds_still (mixed_name n names m) s h x = (x.0, mixed_stays names s.named s.row h x.1)
  holds_still (mixed_closed n names) s h x = mixed_stays names s.named s.row h x
  holds_still (wants n l ls) s h x = around_stays number number' l ls s.nest h x
  holds_still (in_name n m l ls) s h x = (x.0, around_stays number number' l ls s.nest h x.1)
  holds_still (marking n x l ls) s h y = nested_stays number number' x l ls s.nest h y
  holds_still (after n x l ls) s h y = nested_stays number number' x l ls s.nest h y
  holds_still (group_closed n x) s h y = subst (λ (e : Exp). Shows e s.row) (same_expression number number' x h) y
  holds_still (ended n c) s h x = content_stays c s.row h x

pub headway_stays : HeadwayStays
headway_stays number number' q s h x = record { station_is = x.station_is; holds = holds_still number number' q s h x.holds }

-- room for what a move leads to
abbrev Roomy : Option Move → Type 0
Roomy none = Unit {0}
Roomy (some (to q)) = spec_nodes (finished_phase q).content ≤ room_for_nodes
Roomy (some (over d)) = Unit {0}

either : (t : Bool) (a b : Option Move) → Roomy a → Roomy b → Roomy (cond t a b)
either true a b x y = x
either false a b x y = y

only : (t : Bool) (q : Phase) → spec_nodes (finished_phase q).content ≤ room_for_nodes → Roomy (only_if_true t q)
only t q h = either t (some (to q)) none h tt

ended_roomy : (n : List ℕ) (c : ContentSpec) (b : ℕ) → spec_nodes c ≤ room_for_nodes → Roomy (step_ended n c b)
ended_roomy n c b h = either (blank b) (some (to (ended n c))) (cond (eqb b 62) (some (over (record { declared = n; content = c }))) none) h (either (eqb b 62) (some (over (record { declared = n; content = c }))) none tt tt)

mark_roomy : (x : Model) (f : Model → Phase) (o : Option Move) (b : ℕ) → ((y : Model) (k : List ℕ) → MarkIs x k y → spec_nodes (finished_phase (f y)).content ≤ room_for_nodes) → Roomy o → Roomy (step_mark x f o b)
mark_roomy x f o b h k =
    either (eqb b 63) (some (to (f (optional x)))) (cond (eqb b 42) (some (to (f (any_number x)))) (cond (eqb b 43) (some (to (f (at_least_one x)))) o)) (h (optional x) (63 ∷ []) question)
    (either (eqb b 42) (some (to (f (any_number x)))) (cond (eqb b 43) (some (to (f (at_least_one x)))) o) (h (any_number x) (42 ∷ []) asterisk)
    (either (eqb b 43) (some (to (f (at_least_one x)))) o (h (at_least_one x) (43 ∷ []) plus) k))

comma_roomy : (n : List ℕ) (x : Model) (l : LeftOf) (ls : List LeftOf) → KeepsNodes x l ls → Roomy (with_comma n x l ls)
comma_roomy n x fresh ls h = comma_has_room x fresh ls h
comma_roomy n x (commas y) ls h = comma_has_room x (commas y) ls h
comma_roomy n x (bars y) ls h = tt

bar_roomy : (n : List ℕ) (x : Model) (l : LeftOf) (ls : List LeftOf) → KeepsNodes x l ls → Roomy (with_bar n x l ls)
bar_roomy n x fresh ls h = bar_has_room x fresh ls h
bar_roomy n x (commas y) ls h = tt
bar_roomy n x (bars y) ls h = bar_has_room x (bars y) ls h

closed_roomy : (n : List ℕ) (x : Model) (l : LeftOf) (ls : List LeftOf) → KeepsNodes x l ls → Roomy (some (to (closed_group n (behind_left l x) ls)))
closed_roomy n x l [] h = omega (arith, h)
closed_roomy n x l (l' ∷ ls) h = omega (arith, h)

after_roomy : (n : List ℕ) (x : Model) (l : LeftOf) (ls : List LeftOf) (b : ℕ) → KeepsNodes x l ls → Roomy (step_after n x l ls b)
after_roomy n x l ls b h =
    let o = cond (eqb b 41) (some (to (closed_group n (behind_left l x) ls))) none in
    either (blank b) (some (to (after n x l ls))) (cond (eqb b 44) (with_comma n x l ls) (cond (eqb b 124) (with_bar n x l ls) o)) (omega (arith, h))
    (either (eqb b 44) (with_comma n x l ls) (cond (eqb b 124) (with_bar n x l ls) o) (comma_roomy n x l ls h)
    (either (eqb b 124) (with_bar n x l ls) o (bar_roomy n x l ls h) (either (eqb b 41) (some (to (closed_group n (behind_left l x) ls))) none (closed_roomy n x l ls h) tt)))

marking_roomy : (n : List ℕ) (x : Model) (l : LeftOf) (ls : List LeftOf) (b : ℕ) → KeepsNodes x l ls → Roomy (step_marking n x l ls b)
marking_roomy n x l ls b h = mark_roomy x (λ y. after n y l ls) (step_after n x l ls b) b (λ y k m. mark_has_room x y k l ls m h) (after_roomy n x l ls b h)

-- a name takes the place of a, with as many nodes
name_nodes : (ls : List LeftOf) (m : List ℕ) → model_nodes (around_model ls (called m)) ≡ model_nodes (around_model ls (called short_name))
name_nodes ls m = around_counted ls (called m) ∙ sym (around_counted ls (called short_name))

item_roomy : (p : ℕ) (n : List ℕ) (l : LeftOf) (ls : List LeftOf) (b : ℕ) → KeepsNodes (called short_name) l ls → Roomy (step_item p n l ls b)
item_roomy p n l ls b h =
    either (name_first b) (some (to (in_name n (b ∷ []) l ls))) (cond (eqb b 40) (only_if_true (ltb (suc (length ls)) p) (wants n fresh (l ∷ ls))) none) (omega (arith, name_nodes (l ∷ ls) (b ∷ []), h))
    (either (eqb b 40) (only_if_true (ltb (suc (length ls)) p) (wants n fresh (l ∷ ls))) none (only (ltb (suc (length ls)) p) (wants n fresh (l ∷ ls)) (omega (arith, h))) tt)

mixing_roomy : (n : List ℕ) (names : List (List ℕ)) (b : ℕ) → FewNodesIn (mixing n names) → Roomy (step_mixing n names b)
mixing_roomy n names b h =
    let o = cond (eqb b 41) (some (to (mixed_closed n names))) none in
    either (blank b) (some (to (mixing n names))) (cond (eqb b 124) (some (to (barred n names))) o) (omega (arith, h))
    (either (eqb b 124) (some (to (barred n names))) o (omega (arith, h, length-append names (short_name ∷ []))) (either (eqb b 41) (some (to (mixed_closed n names))) none (omega (arith, h)) tt))

unstarred_roomy : (n : List ℕ) (names : List (List ℕ)) (b : ℕ) → FewNodesIn (mixed_closed n names) → Roomy (unstarred n names b)
unstarred_roomy n [] b h = ended_roomy n (mixed []) b (omega arith)
unstarred_roomy n (m ∷ names) b h = tt

roomy : (p : ℕ) (q : Phase) (b : ℕ) → FewNodesIn q → Roomy (step_phase p q b)
roomy p (opening []) b h = only (blank b) naming (omega arith)
roomy p (opening (c ∷ rest)) b h = only (eqb b c) (opening rest) (omega arith)
roomy p naming b h = either (blank b) (some (to naming)) (only_if_true (name_first b) (named (b ∷ []))) (omega arith) (only (name_first b) (named (b ∷ [])) (omega arith))
roomy p (named n) b h = either (name_byte b) (longer n named b) (only_if_true (blank b) (contents n)) (only (ltb (length n) longest_name) (named (n ++ b ∷ [])) (omega arith)) (only (blank b) (contents n) (omega arith))
roomy p (contents n) b h =
    let o = only_if_true (eqb b 40) (inside n) in
    let e = some (to (emptying n (77 ∷ 80 ∷ 84 ∷ 89 ∷ []))) in
    either (blank b) (some (to (contents n))) (cond (eqb b 69) e o) (omega arith) (either (eqb b 69) e o (omega arith) (only (eqb b 40) (inside n) (omega arith)))
roomy p (emptying n []) b h = ended_roomy n nothing_inside b (omega arith)
roomy p (emptying n (c ∷ rest)) b h = only (eqb b c) (emptying n rest) (omega arith)
roomy p (inside n) b h =
    let e = some (to (hashing n (80 ∷ 67 ∷ 68 ∷ 65 ∷ 84 ∷ 65 ∷ []))) in
    either (blank b) (some (to (inside n))) (cond (eqb b 35) e (step_item p n fresh [] b)) (omega arith) (either (eqb b 35) e (step_item p n fresh [] b) (omega arith) (item_roomy p n fresh [] b h))
roomy p (hashing n []) b h = mixing_roomy n [] b h
roomy p (hashing n (c ∷ rest)) b h = only (eqb b c) (hashing n rest) (omega arith)
roomy p (mixing n names) b h = mixing_roomy n names b h
roomy p (barred n names) b h =
    either (blank b) (some (to (barred n names))) (only_if_true (name_first b) (mixed_name n names (b ∷ []))) (omega (arith, h))
    (only (name_first b) (mixed_name n names (b ∷ [])) (omega (arith, h, length-append names (short_name ∷ []), length-append names ((b ∷ []) ∷ []))))
roomy p (mixed_name n names m) b h =
    either (name_byte b) (longer m (mixed_name n names) b) (step_mixing n (names ++ m ∷ []) b)
    (only (ltb (length m) longest_name) (mixed_name n names (m ++ b ∷ [])) (omega (arith, h, length-append names (m ∷ []), length-append names ((m ++ b ∷ []) ∷ [])))) (mixing_roomy n (names ++ m ∷ []) b h)
roomy p (mixed_closed n names) b h = either (eqb b 42) (some (to (ended n (mixed names)))) (unstarred n names b) (omega (arith, h)) (unstarred_roomy n names b h)
roomy p (wants n l ls) b h = either (blank b) (some (to (wants n l ls))) (step_item p n l ls b) (omega (arith, h)) (item_roomy p n l ls b h)
roomy p (in_name n m l ls) b h =
    either (name_byte b) (longer m (λ k. in_name n k l ls) b) (step_marking n (called m) l ls b)
    (only (ltb (length m) longest_name) (in_name n (m ++ b ∷ []) l ls) (omega (arith, h, name_nodes (l ∷ ls) m, name_nodes (l ∷ ls) (m ++ b ∷ [])))) (marking_roomy n (called m) l ls b h)
roomy p (marking n x l ls) b h = marking_roomy n x l ls b h
roomy p (after n x l ls) b h = after_roomy n x l ls b h
roomy p (group_closed n x) b h =
    mark_roomy x (λ y. ended n (children y)) (step_ended n (children x) b) b (λ y k m. mark_has_room x y k fresh [] m h) (ended_roomy n (children x) b (omega (arith, h)))
roomy p (ended n c) b h = ended_roomy n c b (omega (arith, h))

pub step_has_room : StepHasRoom
step_has_room p q q' b h e = subst Roomy e (roomy p q b h)
