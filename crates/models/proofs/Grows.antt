-- A model only grows with every byte: what the shortest continuation has keeps its limits where that of a longer beginning does. Assumes nothing.
use mathlib.Core.Path.{◌≡◌, refl, sym, ap, subst}
use mathlib.Core.Bool.{Bool, true, false, cond}
use mathlib.Core.Option.{Option, none, some}
use mathlib.Core.List.{List, [], ◌∷◌, ◌++◌}
use Prim.Native.Nat.{ℕ, suc, ◌+◌, ◌*◌, ◌≤◌, max}
use native.Mathlib.Omega.{arith}
use lib.Dec.{eqb, ltb}
use lib.ListN.{length, length-append}
use Rattle.limits.specs.Limits.{nodes_at_most, deepest_tree, longest_name}
use Rattle.text.specs.Names.{name_first, name_byte, blank}
use Rattle.reading.proofs.Telling.{IfSome}
use Rattle.models.specs.Models.{Model, called, sequence, choice, optional, any_number, at_least_one, ContentSpec, nothing_inside, mixed, children, Declaration}
use Rattle.models.specs.Expressions.{model_nodes, model_depth, spec_nodes, spec_depth}
use Rattle.models.specs.Family.{EachFewNodes, Shallow}
use Rattle.models.specs.Reader.{LeftOf, fresh, commas, bars, behind_left, Phase, opening, naming, named, contents, emptying, inside, hashing, mixing, barred, mixed_name, mixed_closed, wants, in_name, marking, after, group_closed, ended, Move, to, over, only_if_true, longer, step_ended, step_mark, with_comma, with_bar, closed_group, step_after, step_marking, step_item, step_mixing, unstarred, step_phase, DtdProgress, outside, within, moved_by, step_declarations, short_name, around_model, finished_phase, finished_dtd}
use Rattle.models.specs.Promises.{DtdFits}

-- no more nodes, and no deeper
record Under (x y : Model) : Type 0 where
  few : model_nodes x ≤ model_nodes y
  low : model_depth x ≤ model_depth y

same : (x : Model) → Under x x
same x = record { few = omega arith; low = omega arith }

behind_under : (l : LeftOf) (x y : Model) → Under x y → Under (behind_left l x) (behind_left l y)
behind_under fresh x y u = u
behind_under (commas z) x y u = record { few = omega (arith, u.few); low = omega (arith, u.low) }
behind_under (bars z) x y u = record { few = omega (arith, u.few); low = omega (arith, u.low) }

around_under : (ls : List LeftOf) (x y : Model) → Under x y → Under (around_model ls x) (around_model ls y)
around_under [] x y u = u
around_under (l ∷ ls) x y u = around_under ls (behind_left l x) (behind_left l y) (behind_under l x y u)

optional_over : (x : Model) → Under x (optional x)
optional_over x = record { few = omega arith; low = omega arith }

any_over : (x : Model) → Under x (any_number x)
any_over x = record { few = omega arith; low = omega arith }

some_over : (x : Model) → Under x (at_least_one x)
some_over x = record { few = omega arith; low = omega arith }

pub record SpecUnder (c d : ContentSpec) : Type 0 where
  pub few : spec_nodes c ≤ spec_nodes d
  pub low : spec_depth c ≤ spec_depth d

of_children : {x y : Model} → Under x y → SpecUnder (children x) (children y)
of_children u = record { few = u.few; low = u.low }

-- what is declared after a move
abbrev pub content_after : Move → ContentSpec
content_after (to q) = (finished_phase q).content
content_after (over d) = d.content

abbrev pub Grown : ContentSpec → Option Move → Type 0
Grown c o = IfSome (λ m. SpecUnder c (content_after m)) o

either_way : (c : ContentSpec) (t : Bool) (a b : Option Move) → Grown c a → Grown c b → Grown c (cond t a b)
either_way c true a b f g = f
either_way c false a b f g = g

only : (c : ContentSpec) (t : Bool) (q : Phase) → SpecUnder c (finished_phase q).content → Grown c (only_if_true t q)
only c t q h = either_way c t (some (to q)) none h tt

alike : (c : ContentSpec) → SpecUnder c c
alike c = record { few = omega arith; low = omega arith }

ended_grows : (n : List ℕ) (c : ContentSpec) (b : ℕ) → Grown c (step_ended n c b)
ended_grows n c b = either_way c (blank b) (some (to (ended n c))) (cond (eqb b 62) (some (over (record { declared = n; content = c }))) none) (alike c) (either_way c (eqb b 62) (some (over (record { declared = n; content = c }))) none (alike c) tt)

mark_grows : (c : ContentSpec) (x : Model) (f : Model → Phase) (o : Option Move) (b : ℕ) → ((y : Model) → Under x y → SpecUnder c (finished_phase (f y)).content) → Grown c o → Grown c (step_mark x f o b)
mark_grows c x f o b h k =
    either_way c (eqb b 63) (some (to (f (optional x)))) (cond (eqb b 42) (some (to (f (any_number x)))) (cond (eqb b 43) (some (to (f (at_least_one x)))) o)) (h (optional x) (optional_over x))
    (either_way c (eqb b 42) (some (to (f (any_number x)))) (cond (eqb b 43) (some (to (f (at_least_one x)))) o) (h (any_number x) (any_over x))
    (either_way c (eqb b 43) (some (to (f (at_least_one x)))) o (h (at_least_one x) (some_over x)) k))

next_sequence : (x : Model) → Under x (sequence x (called short_name))
next_sequence x = record { few = omega arith; low = omega arith }

next_choice : (x : Model) → Under x (choice x (called short_name))
next_choice x = record { few = omega arith; low = omega arith }

comma_grows : (n : List ℕ) (x : Model) (l : LeftOf) (ls : List LeftOf) → Grown (children (around_model (l ∷ ls) x)) (with_comma n x l ls)
comma_grows n x fresh ls = of_children (around_under ls x (sequence x (called short_name)) (next_sequence x))
comma_grows n x (commas y) ls = of_children (around_under ls (sequence y x) (sequence (sequence y x) (called short_name)) (next_sequence (sequence y x)))
comma_grows n x (bars y) ls = tt

bar_grows : (n : List ℕ) (x : Model) (l : LeftOf) (ls : List LeftOf) → Grown (children (around_model (l ∷ ls) x)) (with_bar n x l ls)
bar_grows n x fresh ls = of_children (around_under ls x (choice x (called short_name)) (next_choice x))
bar_grows n x (commas y) ls = tt
bar_grows n x (bars y) ls = of_children (around_under ls (choice y x) (choice (choice y x) (called short_name)) (next_choice (choice y x)))

close_grows : (n : List ℕ) (y : Model) (ls : List LeftOf) → SpecUnder (children (around_model ls y)) (finished_phase (closed_group n y ls)).content
close_grows n y [] = alike (children y)
close_grows n y (l ∷ ls) = alike (children (around_model (l ∷ ls) y))

after_grows : (n : List ℕ) (x : Model) (l : LeftOf) (ls : List LeftOf) (b : ℕ) → Grown (children (around_model (l ∷ ls) x)) (step_after n x l ls b)
after_grows n x l ls b =
    let c = children (around_model (l ∷ ls) x) in
    either_way c (blank b) (some (to (after n x l ls))) (cond (eqb b 44) (with_comma n x l ls) (cond (eqb b 124) (with_bar n x l ls) (cond (eqb b 41) (some (to (closed_group n (behind_left l x) ls))) none))) (alike c)
    (either_way c (eqb b 44) (with_comma n x l ls) (cond (eqb b 124) (with_bar n x l ls) (cond (eqb b 41) (some (to (closed_group n (behind_left l x) ls))) none)) (comma_grows n x l ls)
    (either_way c (eqb b 124) (with_bar n x l ls) (cond (eqb b 41) (some (to (closed_group n (behind_left l x) ls))) none) (bar_grows n x l ls)
    (either_way c (eqb b 41) (some (to (closed_group n (behind_left l x) ls))) none (close_grows n (behind_left l x) ls) tt)))

marking_grows : (n : List ℕ) (x : Model) (l : LeftOf) (ls : List LeftOf) (b : ℕ) → Grown (children (around_model (l ∷ ls) x)) (step_marking n x l ls b)
marking_grows n x l ls b = mark_grows (children (around_model (l ∷ ls) x)) x (λ y. after n y l ls) (step_after n x l ls b) b (λ y u. of_children (around_under (l ∷ ls) x y u)) (after_grows n x l ls b)

named_alike : (l : LeftOf) (ls : List LeftOf) (m k : List ℕ) → SpecUnder (children (around_model (l ∷ ls) (called m))) (children (around_model (l ∷ ls) (called k)))
named_alike l ls m k = of_children (around_under (l ∷ ls) (called m) (called k) (record { few = omega arith; low = omega arith }))

item_grows : (p : ℕ) (n : List ℕ) (l : LeftOf) (ls : List LeftOf) (b : ℕ) → Grown (children (around_model (l ∷ ls) (called short_name))) (step_item p n l ls b)
item_grows p n l ls b =
    let c = children (around_model (l ∷ ls) (called short_name)) in
    either_way c (name_first b) (some (to (in_name n (b ∷ []) l ls))) (cond (eqb b 40) (only_if_true (ltb (suc (length ls)) p) (wants n fresh (l ∷ ls))) none) (named_alike l ls short_name (b ∷ []))
    (either_way c (eqb b 40) (only_if_true (ltb (suc (length ls)) p) (wants n fresh (l ∷ ls))) none (only c (ltb (suc (length ls)) p) (wants n fresh (l ∷ ls)) (alike c)) tt)

mixed_under : (names more : List (List ℕ)) → length names ≤ length more → SpecUnder (mixed names) (mixed more)
mixed_under names more h = record { few = omega arith; low = omega arith }

mixing_grows : (n : List ℕ) (names : List (List ℕ)) (b : ℕ) → Grown (mixed names) (step_mixing n names b)
mixing_grows n names b =
    either_way (mixed names) (blank b) (some (to (mixing n names))) (cond (eqb b 124) (some (to (barred n names))) (cond (eqb b 41) (some (to (mixed_closed n names))) none)) (alike (mixed names))
    (either_way (mixed names) (eqb b 124) (some (to (barred n names))) (cond (eqb b 41) (some (to (mixed_closed n names))) none) (mixed_under names (names ++ short_name ∷ []) (simp length-append (omega arith)))
    (either_way (mixed names) (eqb b 41) (some (to (mixed_closed n names))) none (alike (mixed names)) tt))

renamed : (names : List (List ℕ)) (m k : List ℕ) → SpecUnder (mixed (names ++ m ∷ [])) (mixed (names ++ k ∷ []))
renamed names m k = mixed_under (names ++ m ∷ []) (names ++ k ∷ []) (simp length-append (omega arith))

unstarred_grows : (n : List ℕ) (names : List (List ℕ)) (b : ℕ) → Grown (mixed names) (unstarred n names b)
unstarred_grows n [] b = ended_grows n (mixed []) b
unstarred_grows n (m ∷ names) b = tt

pub phase_grows : (p : ℕ) (q : Phase) (b : ℕ) → Grown (finished_phase q).content (step_phase p q b)
phase_grows p (opening []) b = only nothing_inside (blank b) naming (alike nothing_inside)
phase_grows p (opening (c ∷ rest)) b = only nothing_inside (eqb b c) (opening rest) (alike nothing_inside)
phase_grows p naming b = either_way nothing_inside (blank b) (some (to naming)) (only_if_true (name_first b) (named (b ∷ []))) (alike nothing_inside) (only nothing_inside (name_first b) (named (b ∷ [])) (alike nothing_inside))
phase_grows p (named n) b =
    either_way nothing_inside (name_byte b) (longer n named b) (only_if_true (blank b) (contents n)) (only nothing_inside (ltb (length n) longest_name) (named (n ++ b ∷ [])) (alike nothing_inside)) (only nothing_inside (blank b) (contents n) (alike nothing_inside))
phase_grows p (contents n) b =
    either_way nothing_inside (blank b) (some (to (contents n))) (cond (eqb b 69) (some (to (emptying n (77 ∷ 80 ∷ 84 ∷ 89 ∷ [])))) (only_if_true (eqb b 40) (inside n))) (alike nothing_inside)
    (either_way nothing_inside (eqb b 69) (some (to (emptying n (77 ∷ 80 ∷ 84 ∷ 89 ∷ [])))) (only_if_true (eqb b 40) (inside n)) (alike nothing_inside) (only nothing_inside (eqb b 40) (inside n) (record { few = omega arith; low = omega arith })))
phase_grows p (emptying n []) b = ended_grows n nothing_inside b
phase_grows p (emptying n (c ∷ rest)) b = only nothing_inside (eqb b c) (emptying n rest) (alike nothing_inside)
phase_grows p (inside n) b =
    let c = children (called short_name) in
    either_way c (blank b) (some (to (inside n))) (cond (eqb b 35) (some (to (hashing n (80 ∷ 67 ∷ 68 ∷ 65 ∷ 84 ∷ 65 ∷ [])))) (step_item p n fresh [] b)) (alike c)
    (either_way c (eqb b 35) (some (to (hashing n (80 ∷ 67 ∷ 68 ∷ 65 ∷ 84 ∷ 65 ∷ [])))) (step_item p n fresh [] b) (record { few = omega arith; low = omega arith }) (item_grows p n fresh [] b))
phase_grows p (hashing n []) b = mixing_grows n [] b
phase_grows p (hashing n (c ∷ rest)) b = only (mixed []) (eqb b c) (hashing n rest) (alike (mixed []))
phase_grows p (mixing n names) b = mixing_grows n names b
phase_grows p (barred n names) b =
    let c = mixed (names ++ short_name ∷ []) in
    either_way c (blank b) (some (to (barred n names))) (only_if_true (name_first b) (mixed_name n names (b ∷ []))) (alike c) (only c (name_first b) (mixed_name n names (b ∷ [])) (renamed names short_name (b ∷ [])))
phase_grows p (mixed_name n names m) b =
    let c = mixed (names ++ m ∷ []) in
    either_way c (name_byte b) (longer m (mixed_name n names) b) (step_mixing n (names ++ m ∷ []) b) (only c (ltb (length m) longest_name) (mixed_name n names (m ++ b ∷ [])) (renamed names m (m ++ b ∷ []))) (mixing_grows n (names ++ m ∷ []) b)
phase_grows p (mixed_closed n names) b = either_way (mixed names) (eqb b 42) (some (to (ended n (mixed names)))) (unstarred n names b) (alike (mixed names)) (unstarred_grows n names b)
phase_grows p (wants n l ls) b =
    let c = children (around_model (l ∷ ls) (called short_name)) in
    either_way c (blank b) (some (to (wants n l ls))) (step_item p n l ls b) (alike c) (item_grows p n l ls b)
phase_grows p (in_name n m l ls) b =
    let c = children (around_model (l ∷ ls) (called m)) in
    either_way c (name_byte b) (longer m (λ k. in_name n k l ls) b) (step_marking n (called m) l ls b) (only c (ltb (length m) longest_name) (in_name n (m ++ b ∷ []) l ls) (named_alike l ls m (m ++ b ∷ []))) (marking_grows n (called m) l ls b)
phase_grows p (marking n x l ls) b = marking_grows n x l ls b
phase_grows p (after n x l ls) b = after_grows n x l ls b
phase_grows p (group_closed n x) b = mark_grows (children x) x (λ y. ended n (children y)) (step_ended n (children x) b) b (λ y u. of_children u) (ended_grows n (children x) b)
phase_grows p (ended n c) b = ended_grows n c b

-- the limits of each model
nodes_last : (ds : List Declaration) (d e : Declaration) → SpecUnder d.content e.content → EachFewNodes (ds ++ e ∷ []) → EachFewNodes (ds ++ d ∷ [])
nodes_last [] d e u f = (omega (arith, u.few, f.0), tt)
nodes_last (x ∷ ds) d e u f = (f.0, nodes_last ds d e u f.1)

depth_last : (ds : List Declaration) (d e : Declaration) → SpecUnder d.content e.content → Shallow (ds ++ e ∷ []) → Shallow (ds ++ d ∷ [])
depth_last [] d e u f = (omega (arith, u.low, f.0), tt)
depth_last (x ∷ ds) d e u f = (f.0, depth_last ds d e u f.1)

nodes_front : (ds : List Declaration) (d : Declaration) → EachFewNodes (ds ++ d ∷ []) → EachFewNodes ds
nodes_front [] d f = tt
nodes_front (x ∷ ds) d f = (f.0, nodes_front ds d f.1)

depth_front : (ds : List Declaration) (d : Declaration) → Shallow (ds ++ d ∷ []) → Shallow ds
depth_front [] d f = tt
depth_front (x ∷ ds) d f = (f.0, depth_front ds d f.1)

-- declarations of which there is one are what they finish with
pub finished_some : (ds : List Declaration) (d : Declaration) → finished_dtd (outside (ds ++ d ∷ [])) ≡ ds ++ d ∷ []
finished_some [] d = refl
finished_some (x ∷ ds) d = refl

-- limits that a declaration with less in it keeps, and so do fewer declarations
module _ (Fits : List Declaration → Type 0) (last : (ds : List Declaration) (d e : Declaration) → SpecUnder d.content e.content → Fits (ds ++ e ∷ []) → Fits (ds ++ d ∷ []))
    (front : (ds : List Declaration) (d : Declaration) → Fits (ds ++ d ∷ []) → Fits ds) where
  moved_grows : (ds : List Declaration) (d : Declaration) (o : Option Move) → Grown d.content o → IfSome (λ z. Fits (finished_dtd z) → Fits (ds ++ d ∷ [])) (moved_by ds o)
  moved_grows ds d none h = tt
  moved_grows ds d (some (to q)) h = λ f. last ds d (finished_phase q) h f
  moved_grows ds d (some (over e)) h = λ f. last ds d e h (subst Fits (finished_some ds e) f)

  limits_grow : (p : ℕ) (s : DtdProgress) (b : ℕ) → IfSome (λ z. Fits (finished_dtd z) → Fits (finished_dtd s)) (step_declarations p s b)
  limits_grow p (outside ds) b = on (blank b) (eqb b 60) ds
    where
      on : (t u : Bool) (ds : List Declaration) → IfSome (λ z. Fits (finished_dtd z) → Fits (finished_dtd (outside ds))) (cond t (some (outside ds)) (moved_by ds (only_if_true u (opening (33 ∷ 69 ∷ 76 ∷ 69 ∷ 77 ∷ 69 ∷ 78 ∷ 84 ∷ [])))))
      on true u ds = λ f. f
      on false true [] = λ f. f
      on false true (d ∷ ds) = λ f. front (d ∷ ds) (record { declared = short_name; content = nothing_inside }) f
      on false false ds = tt
  limits_grow p (within ds q) b = moved_grows ds (finished_phase q) (step_phase p q b) (phase_grows p q b)

pub step_grows : (p : ℕ) (s : DtdProgress) (b : ℕ) → IfSome (λ z. DtdFits (finished_dtd z) → DtdFits (finished_dtd s)) (step_declarations p s b)
step_grows =
    limits_grow DtdFits (λ ds d e u f. record { few = nodes_last ds d e u f.few; shallow = depth_last ds d e u f.shallow })
    (λ ds d f. record { few = nodes_front ds d f.few; shallow = depth_front ds d f.shallow })

pub nodes_grow : (p : ℕ) (s : DtdProgress) (b : ℕ) → IfSome (λ z. EachFewNodes (finished_dtd z) → EachFewNodes (finished_dtd s)) (step_declarations p s b)
nodes_grow = limits_grow EachFewNodes nodes_last nodes_front
