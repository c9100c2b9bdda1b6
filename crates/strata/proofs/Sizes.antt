-- The size of the shortest whole, station by station. Assumes nothing.
use mathlib.Core.Path.{◌≡◌, refl, sym, ◌∙◌}
use mathlib.Core.Bool.{Bool}
use mathlib.Core.List.{List, [], ◌∷◌, ◌++◌}
use Prim.Native.Nat.{ℕ, ◌+◌, ◌*◌, ◌/◌, ◌≤◌}
use native.Mathlib.Omega.{arith}
use lib.ListN.{length, length-append}
use Rattle.expressions.specs.Expr.{anychar, atom, star, nodes, depth, Content, nothing, tree, nodes_of}
use Rattle.models.specs.Models.{Model, called, ContentSpec, nothing_inside, mixed, children}
use Rattle.models.specs.Expressions.{model_expression, or_names, spec_content, model_nodes, model_depth, spec_nodes, spec_depth}
use Rattle.models.specs.Reader.{LeftOf, fresh, commas, bars, behind_left, around_model, short_name, finished_phase}
use Rattle.models.proofs.Counted.{nodes_counted, depth_counted}
use Rattle.declarations.specs.declared.NodeRow.{NodeRow}
use Rattle.declarations.specs.Nodes.{content_preorder, room_for_nodes, Shows}
use Rattle.declarations.proofs.Laws.{two_bytes, no_deeper}
use Rattle.levels.specs.declared.ModelSize.{ModelSize}
use Rattle.levels.specs.declared.Nest.{Nest}
use Rattle.levels.specs.Levels.{Around}
use Rattle.levels.specs.Sizes.{SizeOf, MeasuredAs, WantingAs}
use Rattle.stages.specs.declared.Station.{Station}
use Rattle.stages.specs.declared.Headway.{Headway}
use Rattle.stages.specs.Headway.{MixedShown, ContentShown, PhaseHolds}
use Rattle.stages.specs.Steps.{AtStation, SpecSize, SizesAs}
use Rattle.stages.proofs.Stations.{of_station}
use Rattle.strata.specs.Particles.{MoreSize}

-- the sizes at one station
abbrev SizesAt : Station → Headway → ModelSize → Type 0
SizesAt t s r = (number : List ℕ → ℕ) → AtStation (λ q. PhaseHolds number q s → spec_nodes (finished_phase q).content ≤ room_for_nodes → SpecSize (finished_phase q).content r) t

sized : (s : Headway) (t : Station) (r : ModelSize) → s.station ≡ t → SizesAt t s r → SizesAs s r
sized s t r e f = record { is = λ number q h room. of_station (λ q. PhaseHolds number q s → spec_nodes (finished_phase q).content ≤ room_for_nodes → SpecSize (finished_phase q).content r) t e h (f number) h.holds room }

-- nodes in a row
half_of : (a n : ℕ) → a ≡ 2 * n → a / 2 ≡ n
half_of a n e = omega (arith, e)

module _ (number : List ℕ → ℕ) (names : List (List ℕ)) (b : Bool) (a : NodeRow) (h : MixedShown number names b a) where
  union_nodes : a.length / 2 ≡ 2 * length names + 1
  union_nodes =
      let e = or_names number (atom anychar) names in
      let count : nodes (star e) ≡ 2 * length names + 2 = nodes_counted number (mixed names) in
      half_of a.length (2 * length names + 1) (omega (arith, h.row_is.laid.length_is, two_bytes e, count))

  union_deep : a.deep ≡ length names + 1
  union_deep =
      let count : depth (star (or_names number (atom anychar) names)) ≡ length names + 2 = depth_counted number (mixed names) in
      omega (arith, h.row_is.deep_is, count)

  -- with its star; and with one name more and its star
  mixed_size : (r : ModelSize) → MoreSize a 1 1 r → spec_nodes (mixed names) ≤ room_for_nodes → SpecSize (mixed names) r
  mixed_size r m room = let x = m.is (omega (arith, union_deep, room)) in record { nodes_are = omega (arith, x.0, union_nodes); deep_is = omega (arith, x.1, union_deep) }

  named_size : (r : ModelSize) (n : List ℕ) → MoreSize a 3 2 r → spec_nodes (mixed (names ++ n ∷ [])) ≤ room_for_nodes → SpecSize (mixed (names ++ n ∷ [])) r
  named_size r n m room =
      let one : length (names ++ n ∷ []) ≡ length names + 1 = length-append names (n ∷ []) in
      let x = m.is (omega (arith, union_deep, room, one)) in
      record { nodes_are = omega (arith, x.0, union_nodes, one); deep_is = omega (arith, x.1, union_deep, one) }

-- a content that is closed
content_bytes : (c : Content) → length (content_preorder c) ≡ 2 * nodes_of c
content_bytes nothing = refl
content_bytes (tree e) = two_bytes e

spec_low : (c : ContentSpec) → spec_depth c ≤ spec_nodes c
spec_low nothing_inside = omega arith
spec_low (mixed names) = omega arith
spec_low (children x) = let f : List ℕ → ℕ = λ m. 0 in let e = no_deeper (model_expression f x) in omega (arith, e.1, nodes_counted f (children x), depth_counted f (children x))

content_size : (number : List ℕ → ℕ) (c : ContentSpec) (a : NodeRow) (r : ModelSize) → ContentShown number c a → MoreSize a 0 0 r → spec_nodes c ≤ room_for_nodes → SpecSize c r
content_size number c a r h m room =
    let count : a.length / 2 ≡ spec_nodes c = half_of a.length (spec_nodes c) (omega (arith, h.laid.length_is, content_bytes (spec_content number c), nodes_counted number c)) in
    let x = m.is (omega (arith, h.deep_is, spec_low c, room)) in
    record { nodes_are = omega (arith, x.0, count); deep_is = omega (arith, x.1, h.deep_is) }

children_size : (number : List ℕ → ℕ) (y : Model) (a : NodeRow) (r : ModelSize) → Shows (model_expression number y) a → MoreSize a 0 0 r → model_nodes y ≤ room_for_nodes → SpecSize (children y) r
children_size number y a r h m room = content_size number (children y) a r (record { laid = h.laid; deep_is = h.deep_is ∙ depth_counted number (children y) }) m room

of_model : (x : Model) (r : ModelSize) → SizeOf x r → SpecSize (children x) r
of_model x r h = record { nodes_are = h.nodes_are; deep_is = h.deep_is }

-- whichever name it is
record Alike (x y : Model) : Type 0 where
  same_nodes : model_nodes x ≡ model_nodes y
  same_depth : model_depth x ≡ model_depth y

behind_alike : (l : LeftOf) (x y : Model) → Alike x y → Alike (behind_left l x) (behind_left l y)
behind_alike fresh x y h = h
behind_alike (commas z) x y h = record { same_nodes = omega (arith, h.same_nodes); same_depth = omega (arith, h.same_depth) }
behind_alike (bars z) x y h = record { same_nodes = omega (arith, h.same_nodes); same_depth = omega (arith, h.same_depth) }

around_alike : (ls : List LeftOf) (x y : Model) → Alike x y → Alike (around_model ls x) (around_model ls y)
around_alike [] x y h = h
around_alike (l ∷ ls) x y h = around_alike ls (behind_left l x) (behind_left l y) (behind_alike l x y h)

name_size : (number : List ℕ → ℕ) (m : List ℕ) (l : LeftOf) (ls : List LeftOf) (v : Nest) (r : ModelSize) → WantingAs v r → Around number l ls v → model_nodes (around_model (l ∷ ls) (called m)) ≤ room_for_nodes
    → SpecSize (children (around_model (l ∷ ls) (called m))) r
name_size number m l ls v r w h room =
    let same : Alike (around_model (l ∷ ls) (called m)) (around_model (l ∷ ls) (called short_name)) = around_alike (l ∷ ls) (called m) (called short_name) (record { same_nodes = refl; same_depth = refl }) in
    let x = w.is number l ls h (omega (arith, same.same_nodes, room)) in
    record { nodes_are = x.nodes_are ∙ sym same.same_nodes; deep_is = x.deep_is ∙ sym same.same_depth }

-- each station by its law
module _ (s : Headway) (r : ModelSize) where
  module _ (n : r.nodes ≡ 0) (d : r.deep ≡ 0) where
    pub opening_sized : s.station ≡ Station.Opening → SizesAs s r
    opening_sized e = sized s Station.Opening r e (λ number rest h room. record { nodes_are = n; deep_is = d })

    pub naming_sized : s.station ≡ Station.Naming → SizesAs s r
    naming_sized e = sized s Station.Naming r e (λ number h room. record { nodes_are = n; deep_is = d })

    pub own_sized : s.station ≡ Station.Named → SizesAs s r
    own_sized e = sized s Station.Named r e (λ number m h room. record { nodes_are = n; deep_is = d })

    pub contents_sized : s.station ≡ Station.Contents → SizesAs s r
    contents_sized e = sized s Station.Contents r e (λ number m h room. record { nodes_are = n; deep_is = d })

    pub emptying_sized : s.station ≡ Station.Emptying → SizesAs s r
    emptying_sized e = sized s Station.Emptying r e (λ number m rest h room. record { nodes_are = n; deep_is = d })

  pub inside_sized : s.station ≡ Station.Inside → r.nodes ≡ 1 → r.deep ≡ 1 → SizesAs s r
  inside_sized e n d = sized s Station.Inside r e (λ number m h room. record { nodes_are = n; deep_is = d })

  -- in mixed content
  module _ (m : MoreSize s.row 1 1 r) where
    pub hashing_sized : s.station ≡ Station.Hashing → SizesAs s r
    hashing_sized e = sized s Station.Hashing r e (λ number n rest h room. mixed_size number [] s.named s.row h.1 r m room)

    pub mixing_sized : s.station ≡ Station.Mixing → SizesAs s r
    mixing_sized e = sized s Station.Mixing r e (λ number n names h room. mixed_size number names s.named s.row h r m room)

    pub mixed_closed_sized : s.station ≡ Station.MixedClosed → SizesAs s r
    mixed_closed_sized e = sized s Station.MixedClosed r e (λ number n names h room. mixed_size number names s.named s.row h r m room)

  module _ (m : MoreSize s.row 3 2 r) where
    pub barred_sized : s.station ≡ Station.Barred → SizesAs s r
    barred_sized e = sized s Station.Barred r e (λ number n names h room. named_size number names s.named s.row h r short_name m room)

    pub mixed_name_sized : s.station ≡ Station.MixedName → SizesAs s r
    mixed_name_sized e = sized s Station.MixedName r e (λ number n names k h room. named_size number names s.named s.row h.1 r k m room)

  -- in a model of children
  module _ (w : WantingAs s.nest r) where
    pub wants_sized : s.station ≡ Station.Wants → SizesAs s r
    wants_sized e = sized s Station.Wants r e (λ number n l ls h room. of_model (around_model (l ∷ ls) (called short_name)) r (w.is number l ls h room))

    pub in_name_sized : s.station ≡ Station.InName → SizesAs s r
    in_name_sized e = sized s Station.InName r e (λ number n k l ls h room. name_size number k l ls s.nest r w h.1 room)

  module _ (w : MeasuredAs s.nest r) where
    pub marking_sized : s.station ≡ Station.Marking → SizesAs s r
    marking_sized e = sized s Station.Marking r e (λ number n x l ls h room. of_model (around_model (l ∷ ls) x) r (w.is number x l ls h room))

    pub after_sized : s.station ≡ Station.After → SizesAs s r
    after_sized e = sized s Station.After r e (λ number n x l ls h room. of_model (around_model (l ∷ ls) x) r (w.is number x l ls h room))

  -- behind it
  module _ (m : MoreSize s.row 0 0 r) where
    pub group_closed_sized : s.station ≡ Station.GroupClosed → SizesAs s r
    group_closed_sized e = sized s Station.GroupClosed r e (λ number n x h room. children_size number x s.row r h m room)

    pub ended_sized : s.station ≡ Station.Ended → SizesAs s r
    ended_sized e = sized s Station.Ended r e (λ number n c h room. content_size number c s.row r h m room)
