-- Laws of parts and of what lies around them: one for each answer of the code. Assumes nothing.
use mathlib.Core.Path.{◌≡◌, refl, sym, ◌∙◌, ap, ap₂, subst}
use mathlib.Core.Bool.{true, false}
use mathlib.Core.Option.{Option, none, some}
use mathlib.Core.List.{List, [], ◌∷◌, map}
use Prim.Native.Nat.{ℕ, zero, suc, ◌+◌, ◌*◌, ◌-◌, ◌≤◌, ◌<◌}
use native.Mathlib.Omega.{arith}
use lib.ListN.{length, length-map, get_or}
use Rattle.std.specs.Prelude.{Option as Side, Some, None}
use Rattle.outlines.specs.Extents as outlines
use Rattle.outlines.specs.Extents.{extent, paired, in_turn, branching, vacant}
use Rattle.outlines.specs.Conditions as conditions
use Rattle.outlines.specs.Conditions.{paired_with, up_to_and, whole_of, with_margins}
use Rattle.outlines.specs.Statements as statements
use Rattle.outlines.specs.Statements.{among, then_of, else_of_lem, wrapped, wrapped_in, closed_list}
use Rattle.outlines.specs.Shape.{ExtentUnder, LayerUnder, LayersUnder, SideUnder, MarginUnder, MarginsUnder}
use Rattle.extents.specs.declared.Extent.{Extent}
use Rattle.extents.specs.declared.Margin.{Margin}
use Rattle.extents.specs.declared.Layer.{Layer}
use Rattle.extents.specs.declared.Layer.TheVariants.{Among, Then, Else}
use Rattle.extents.specs.declared.Around.{Around}
use Rattle.extents.specs.Held.{ExtentIs, SmallExtent, extent_of, side_of, margin_of, layer_of, around_of, bare_around, bare_margin, layers_at, margins_at, most_around, most_margins, is_among, ClosedIs}
use Rattle.extents.proofs.Stacks.{top}

-- how long a field that is an array of structs is: its relation speaks of the mapped list
pub length_of_structs : {X Y : Type 0} (f : X → Y) (l : List X) (n : ℕ) → length (map f l) ≡ n → length l ≡ n
length_of_structs f l n p = sym (length-map l f) ∙ p

pub extent_same : {r : Extent} {e : outlines.Extent} → ExtentIs r e → extent_of r ≡ e
extent_same h = ap₂ extent h.bytes_are h.nested_is

sized : {n : ℕ} {e : Extent} → n ≤ 1000000 → ExtentUnder n (extent_of e) → SmallExtent e
sized g h = record { few_bytes = omega arith; few_deep = omega arith }

pub extent_sized : {e : Extent} → ExtentUnder 1000 (extent_of e) → SmallExtent e
extent_sized h = sized {n = 1000} (omega arith) h

-- sides
pub side_sized : (o : Side Extent) (e : Extent) → o ≡ Some e → SideUnder 1000 (side_of o) → SmallExtent e
side_sized o e q h = sized {n = 1000} (omega arith) (subst (λ x. SideUnder 1000 (side_of x)) q h)

pub paired_of : (o : Side Extent) (e d r : Extent) → o ≡ Some e → ExtentIs r (paired (extent_of e) (extent_of d)) → ExtentIs r (paired_with (side_of o) (extent_of d))
paired_of o e d r q h = subst (λ x. ExtentIs r (paired_with (side_of x) (extent_of d))) (sym q) h

pub paired_blank : (o : Side Extent) (d : Extent) → o ≡ None → ExtentIs d (paired_with (side_of o) (extent_of d))
paired_blank o d q = subst (λ x. ExtentIs d (paired_with (side_of x) (extent_of d))) (sym q) (record { bytes_are = refl; nested_is = refl })

-- layers
pub among_sized : (l : Layer) (b : Extent) → l ≡ Among b → LayerUnder 1000 (layer_of l) → SmallExtent b
among_sized l b q h = sized {n = 1000} (omega arith) (subst (λ x. LayerUnder 1000 (layer_of x)) q h)

pub then_sized : (l : Layer) (c : Extent) → l ≡ Then c → LayerUnder 1000 (layer_of l) → SmallExtent c
then_sized l c q h = sized {n = 1000} (omega arith) (subst (λ x. LayerUnder 1000 (layer_of x)) q h)

pub else_sized : (l : Layer) (c d : Extent) → l ≡ Else c d → LayerUnder 1000 (layer_of l) → SmallExtent c × SmallExtent d
else_sized l c d q h = let g = subst (λ x. LayerUnder 1000 (layer_of x)) q h in (sized {n = 1000} (omega arith) g.0, sized {n = 1000} (omega arith) g.1)

pub wrapped_as : (l m : Layer) (p r : Extent) → l ≡ m → ExtentIs r (wrapped (layer_of m) (extent_of p)) → ExtentIs r (wrapped (layer_of l) (extent_of p))
wrapped_as l m p r q h = subst (λ x. ExtentIs r (wrapped (layer_of x) (extent_of p))) (sym q) h

-- the layers that are left, and the extent so far
pub record Going (xs : List Around) (n i : ℕ) (e : Extent) : Type 0 where
  pub at_most : i ≤ n
  pub few_bytes : e.bytes + 2100 * i ≤ 300000 + 2100 * n
  pub few_deep : e.nested + 2100 * i ≤ 300000 + 2100 * n
  pub small : LayersUnder 1000 (layers_at xs i)

pub going_start : (xs : List Around) (n : ℕ) (e : Extent) → LayersUnder 1000 (layers_at xs n) → ExtentUnder 300000 (extent_of e) → Going xs n n e
going_start xs n e h g = record { at_most = omega arith; few_bytes = omega (arith, g.few_bytes); few_deep = omega (arith, g.few_deep); small = h }

pub going_sized : {xs : List Around} {n i : ℕ} {e : Extent} → n ≤ most_around → Going xs n i e → SmallExtent e
going_sized m h = record { few_bytes = omega arith; few_deep = omega arith }

cut : (xs : List Around) (i : ℕ) (z : Around) → 0 < i → i ≤ length xs → layers_at xs i ≡ around_of (get_or xs (i - 1) z) ∷ layers_at xs (i - 1)
cut xs i z h g = top around_of bare_around xs i z h g

pub going_top : (xs : List Around) (n i : ℕ) (e : Extent) (z : Around) → Going xs n i e → 0 < i → i ≤ length xs → LayerUnder 1000 (around_of (get_or xs (i - 1) z))
going_top xs n i e z h p q = (subst (LayersUnder 1000) (cut xs i z p q) h.small).0

wrapped_grows : (l : statements.Layer) (p : outlines.Extent) → LayerUnder 1000 l → ((wrapped l p).bytes ≤ p.bytes + 2100) × ((wrapped l p).nested ≤ p.nested + 2100)
wrapped_grows (among b) p h = (omega (arith, h.few_bytes), omega (arith, h.few_deep))
wrapped_grows (then_of c) p h = (omega (arith, h.few_bytes), omega (arith, h.few_deep))
wrapped_grows (else_of_lem c q) p h = (omega (arith, h.0.few_bytes, h.1.few_bytes), omega (arith, h.0.few_deep, h.1.few_deep))

pub going_on : (xs : List Around) (n i : ℕ) (e r : Extent) (z : Around) → Going xs n i e → 0 < i → i ≤ length xs → ExtentIs r (wrapped (around_of (get_or xs (i - 1) z)) (extent_of e)) → Going xs n (i - 1) r
going_on xs n i e r z h p q g =
    let k = going_top xs n i e z h p q in
    let w = wrapped_grows (around_of (get_or xs (i - 1) z)) (extent_of e) k in
    record {
      at_most = omega (arith, h.at_most);
      few_bytes = omega (arith, h.few_bytes, g.bytes_are, w.0);
      few_deep = omega (arith, h.few_deep, g.nested_is, w.1);
      small = (subst (LayersUnder 1000) (cut xs i z p q) h.small).1;
    }

pub wrapped_on : (xs : List Around) (i : ℕ) (e r : Extent) (z : Around) (w : outlines.Extent) → 0 < i → i ≤ length xs → ExtentIs r (wrapped (around_of (get_or xs (i - 1) z)) (extent_of e))
    → wrapped_in (layers_at xs i) (extent_of e) ≡ w → wrapped_in (layers_at xs (i - 1)) (extent_of r) ≡ w
wrapped_on xs i e r z w p q g h =
    ap (wrapped_in (layers_at xs (i - 1))) (extent_same g) ∙ (sym (ap (λ ls. wrapped_in ls (extent_of e)) (cut xs i z p q)) ∙ h)

none_left : (xs : List Around) (i : ℕ) → i ≤ 0 → layers_at xs i ≡ []
none_left xs zero h = refl
none_left xs (suc i) h = absurd (omega arith)

pub wrapped_over : (xs : List Around) (i : ℕ) (e : Extent) (w : outlines.Extent) → i ≤ 0 → wrapped_in (layers_at xs i) (extent_of e) ≡ w → extent_of e ≡ w
wrapped_over xs i e w p h = sym (ap (λ ls. wrapped_in ls (extent_of e)) (none_left xs i p)) ∙ h

-- a list that ends
list_closed : (l : statements.Layer) (ls : List statements.Layer) (p : outlines.Extent) → is_among l ≡ true → closed_list (l ∷ ls) p ≡ record { whole = wrapped l p; outside = ls }
list_closed (among b) ls p h = refl
list_closed (then_of c) ls p h = absurd (let z : ◌≡◌ {A = ℕ} 0 1 = cc in omega arith)
list_closed (else_of_lem c q) ls p h = absurd (let z : ◌≡◌ {A = ℕ} 0 1 = cc in omega arith)

if_passed : (l : statements.Layer) (ls : List statements.Layer) (p : outlines.Extent) → is_among l ≡ false → closed_list (l ∷ ls) p ≡ closed_list ls (wrapped l p)
if_passed (among b) ls p h = absurd (let z : ◌≡◌ {A = ℕ} 0 1 = cc in omega arith)
if_passed (then_of c) ls p h = refl
if_passed (else_of_lem c q) ls p h = refl

pub closed_at : (xs : List Around) (n i : ℕ) (p : outlines.Extent) (e r : Extent) (z : Around) → i ≤ n → 0 < i → i ≤ length xs → ExtentIs r (wrapped (around_of (get_or xs (i - 1) z)) (extent_of e))
    → is_among (around_of (get_or xs (i - 1) z)) ≡ true → closed_list (layers_at xs i) (extent_of e) ≡ closed_list (layers_at xs n) p → ClosedIs xs n p (record { whole = r; left = i - 1 })
closed_at xs n i p e r z m h q g t s =
    record {
      fewer = omega arith;
      whole_is =
          sym s
          ∙ (ap (λ ls. closed_list ls (extent_of e)) (cut xs i z h q)
          ∙ (list_closed (around_of (get_or xs (i - 1) z)) (layers_at xs (i - 1)) (extent_of e) t
          ∙ ap (λ x. record { whole = x; outside = layers_at xs (i - 1) }) (sym (extent_same g))));
    }

pub closed_on : (xs : List Around) (n i : ℕ) (p : outlines.Extent) (e r : Extent) (z : Around) → 0 < i → i ≤ length xs → ExtentIs r (wrapped (around_of (get_or xs (i - 1) z)) (extent_of e))
    → is_among (around_of (get_or xs (i - 1) z)) ≡ false → closed_list (layers_at xs i) (extent_of e) ≡ closed_list (layers_at xs n) p → closed_list (layers_at xs (i - 1)) (extent_of r) ≡ closed_list (layers_at xs n) p
closed_on xs n i p e r z h q g t s =
    ap (closed_list (layers_at xs (i - 1))) (extent_same g)
    ∙ (sym (if_passed (around_of (get_or xs (i - 1) z)) (layers_at xs (i - 1)) (extent_of e) t)
    ∙ (sym (ap (λ ls. closed_list ls (extent_of e)) (cut xs i z h q)) ∙ s))

pub closed_over : (xs : List Around) (n i : ℕ) (p : outlines.Extent) (e : Extent) → i ≤ 0 → closed_list (layers_at xs i) (extent_of e) ≡ closed_list (layers_at xs n) p → ClosedIs xs n p (record { whole = e; left = 0 })
closed_over xs n i p e h s = record { fewer = omega arith; whole_is = sym s ∙ ap (λ ls. closed_list ls (extent_of e)) (none_left xs i h) }

-- margins
pub record Holding (xs : List Margin) (n i : ℕ) (e : Extent) : Type 0 where
  pub at_most : i ≤ n
  pub few_bytes : e.bytes + 3100 * i ≤ 10000 + 3100 * n
  pub few_deep : e.nested + 3100 * i ≤ 10000 + 3100 * n
  pub small : MarginsUnder 1000 (margins_at xs i)

pub holding_start : (xs : List Margin) (n : ℕ) (e : Extent) → MarginsUnder 1000 (margins_at xs n) → ExtentUnder 10000 (extent_of e) → Holding xs n n e
holding_start xs n e h g = record { at_most = omega arith; few_bytes = omega (arith, g.few_bytes); few_deep = omega (arith, g.few_deep); small = h }

pub holding_under : {xs : List Margin} {n i : ℕ} {e : Extent} → n ≤ most_margins → Holding xs n i e → ExtentUnder 200000 (extent_of e)
holding_under m h = record { few_bytes = omega arith; few_deep = omega arith }

margin_cut : (xs : List Margin) (i : ℕ) (z : Margin) → 0 < i → i ≤ length xs → margins_at xs i ≡ margin_of (get_or xs (i - 1) z) ∷ margins_at xs (i - 1)
margin_cut xs i z h g = top margin_of bare_margin xs i z h g

pub holding_top : (xs : List Margin) (n i : ℕ) (e : Extent) (z : Margin) → Holding xs n i e → 0 < i → i ≤ length xs → MarginUnder 1000 (margin_of (get_or xs (i - 1) z))
holding_top xs n i e z h p q = (subst (MarginsUnder 1000) (margin_cut xs i z p q) h.small).0

pub side_grows : (o : Option outlines.Extent) (p : outlines.Extent) → SideUnder 1000 o → ((paired_with o p).bytes ≤ p.bytes + 1001) × ((paired_with o p).nested ≤ p.nested + 1001)
side_grows none p h = (omega arith, omega arith)
side_grows (some c) p h = (omega (arith, h.few_bytes), omega (arith, h.few_deep))

pub up_grows : (m : conditions.Margin) (p : outlines.Extent) → MarginUnder 1000 m → ((up_to_and m p).bytes ≤ p.bytes + 2001) × ((up_to_and m p).nested ≤ p.nested + 2001)
up_grows m p h = let g = side_grows m.and_left (outlines.behind_nots m.nots p) h.and_side in (omega (arith, g.0, h.few_nots), omega (arith, g.1, h.few_nots))

pub whole_is : (m : Margin) (e u r : Extent) → ExtentIs u (up_to_and (margin_of m) (extent_of e)) → ExtentIs r (paired_with (side_of m.or_left) (extent_of u)) → extent_of r ≡ whole_of (margin_of m) (extent_of e)
whole_is m e u r g h = extent_same h ∙ ap (paired_with (side_of m.or_left)) (extent_same g)

pub holding_on : (xs : List Margin) (n i : ℕ) (e r : Extent) (z : Margin) → Holding xs n i e → 0 < i → i ≤ length xs → extent_of r ≡ whole_of (margin_of (get_or xs (i - 1) z)) (extent_of e) → Holding xs n (i - 1) r
holding_on xs n i e r z h p q g =
    let k = holding_top xs n i e z h p q in
    let m = margin_of (get_or xs (i - 1) z) in
    let u = up_grows m (extent_of e) k in
    let w = side_grows m.or_left (up_to_and m (extent_of e)) k.or_side in
    record {
      at_most = omega (arith, h.at_most);
      few_bytes = omega (arith, h.few_bytes, ap (λ x. x.bytes) g, u.0, w.0);
      few_deep = omega (arith, h.few_deep, ap (λ x. x.nested) g, u.1, w.1);
      small = (subst (MarginsUnder 1000) (margin_cut xs i z p q) h.small).1;
    }

pub margins_on : (xs : List Margin) (i : ℕ) (e r : Extent) (z : Margin) (w : outlines.Extent) → 0 < i → i ≤ length xs → extent_of r ≡ whole_of (margin_of (get_or xs (i - 1) z)) (extent_of e)
    → with_margins (margins_at xs i) (extent_of e) ≡ w → with_margins (margins_at xs (i - 1)) (extent_of r) ≡ w
margins_on xs i e r z w p q g h = ap (with_margins (margins_at xs (i - 1))) g ∙ (sym (ap (λ ms. with_margins ms (extent_of e)) (margin_cut xs i z p q)) ∙ h)

no_margin : (xs : List Margin) (i : ℕ) → i ≤ 0 → margins_at xs i ≡ []
no_margin xs zero h = refl
no_margin xs (suc i) h = absurd (omega arith)

pub margins_over : (xs : List Margin) (i : ℕ) (e : Extent) (w : outlines.Extent) → i ≤ 0 → with_margins (margins_at xs i) (extent_of e) ≡ w → extent_of e ≡ w
margins_over xs i e w p h = sym (ap (λ ms. with_margins ms (extent_of e)) (no_margin xs i p)) ∙ h
