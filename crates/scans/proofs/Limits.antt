-- The limits of declarations, with the last of them; the byte that follows, and numbers. Assumes nothing.
use Rattle.std.specs.Prelude.{Option as Taken, Some, None}
use mathlib.Core.Path.{◌≡◌, refl, sym, ◌∙◌, ap}
use mathlib.Core.Bool.{Bool, false, cond}
use mathlib.Core.List.{List, [], ◌∷◌, ◌++◌}
use Prim.Native.Nat.{ℕ, suc, ◌≤◌, ◌<◌}
use native.Mathlib.Omega.{arith}
use lib.Dec.{ltb}
use lib.ListN.{length, drop, length-drop}
use borrow.Author.Tests.{lt-ltb, le-ltb}
use Rattle.limits.specs.Limits.{nodes_at_most, deepest_tree}
use Rattle.models.specs.Models.{Declaration}
use Rattle.models.specs.Expressions.{spec_nodes, spec_depth}
use Rattle.models.specs.Family.{EachFewNodes, Shallow}
use Rattle.levels.specs.declared.ModelSize.{ModelSize}
use Rattle.stages.specs.declared.Station.{Station}
use Rattle.stages.specs.declared.Station.TheVariants.{Opening, Naming, Named, Contents, Emptying, Inside, Hashing, Mixing, Barred, MixedName, MixedClosed, Wants, InName, Marking, After, GroupClosed, Ended}
use Rattle.stages.specs.declared.Headway.{Headway}
use Rattle.dockets.specs.declared.Docket.{Docket}
use Rattle.scans.specs.declared.Scan.{Scan}
use Rattle.scans.specs.Scans.{limit_by, content_in}

pub last_few : (ds : List Declaration) (d : Declaration) → EachFewNodes (ds ++ d ∷ []) → spec_nodes d.content ≤ nodes_at_most
last_few [] d h = h.0
last_few (x ∷ ds) d h = last_few ds d h.1

pub last_shallow : (ds : List Declaration) (d : Declaration) → Shallow (ds ++ d ∷ []) → spec_depth d.content ≤ deepest_tree
last_shallow [] d h = h.0
last_shallow (x ∷ ds) d h = last_shallow ds d h.1

-- another one in its place
pub few_with : (ds : List Declaration) (d e : Declaration) → EachFewNodes (ds ++ d ∷ []) → spec_nodes e.content ≤ nodes_at_most → EachFewNodes (ds ++ e ∷ [])
few_with [] d e h k = (k, tt)
few_with (x ∷ ds) d e h k = (h.0, few_with ds d e h.1 k)

pub shallow_with : (ds : List Declaration) (d e : Declaration) → Shallow (ds ++ d ∷ []) → spec_depth e.content ≤ deepest_tree → Shallow (ds ++ e ∷ [])
shallow_with [] d e h k = (k, tt)
shallow_with (x ∷ ds) d e h k = (h.0, shallow_with ds d e h.1 k)

-- one more
pub few_more : (ds : List Declaration) (e : Declaration) → EachFewNodes ds → spec_nodes e.content ≤ nodes_at_most → EachFewNodes (ds ++ e ∷ [])
few_more [] e h k = (k, tt)
few_more (x ∷ ds) e h k = (h.0, few_more ds e h.1 k)

pub shallow_more : (ds : List Declaration) (e : Declaration) → Shallow ds → spec_depth e.content ≤ deepest_tree → Shallow (ds ++ e ∷ [])
shallow_more [] e h k = (k, tt)
shallow_more (x ∷ ds) e h k = (h.0, shallow_more ds e h.1 k)

-- a byte that follows is inside
pub followed : (text rest : List ℕ) (at b : ℕ) → drop at text ≡ b ∷ rest → suc at ≤ length text
followed text rest at b e = omega (arith, ap length e, length-drop at text)

abbrev pub scan : Bool → Taken ℕ → Headway → Docket → Scan
scan o n h k = record { out = o; halt = n; headway = h; docket = k }

-- the number of a size
pub too_large : (s : ModelSize) → nodes_at_most < s.nodes → Some 53 ≡ limit_by s
too_large s h = ap (λ (t : Bool). cond t (Some 53) (cond (ltb deepest_tree s.deep) (Some 54) None)) (sym (lt-ltb _ _ h))

pub too_deep : (s : ModelSize) → s.nodes ≤ nodes_at_most → deepest_tree < s.deep → Some 54 ≡ limit_by s
too_deep s h k =
    ap (λ (t : Bool). cond t (Some 54) None) (sym (lt-ltb _ _ k)) ∙ ap (λ (t : Bool). cond t (Some 53) (cond (ltb deepest_tree s.deep) (Some 54) None)) (sym (le-ltb _ _ h))

pub within_limits : (s : ModelSize) → s.nodes ≤ nodes_at_most → s.deep ≤ deepest_tree → None ≡ limit_by s
within_limits s h k =
    ap (λ (t : Bool). cond t (Some 54) None) (sym (le-ltb _ _ k)) ∙ ap (λ (t : Bool). cond t (Some 53) (cond (ltb deepest_tree s.deep) (Some 54) None)) (sym (le-ltb _ _ h))

-- no content begins elsewhere
pub elsewhere : (t : Station) → (t ≡ Contents → ⊥) → false ≡ content_in t
elsewhere Opening h = refl
elsewhere Naming h = refl
elsewhere Named h = refl
elsewhere Contents h = absurd (h refl)
elsewhere Emptying h = refl
elsewhere Inside h = refl
elsewhere Hashing h = refl
elsewhere Mixing h = refl
elsewhere Barred h = refl
elsewhere MixedName h = refl
elsewhere MixedClosed h = refl
elsewhere Wants h = refl
elsewhere InName h = refl
elsewhere Marking h = refl
elsewhere After h = refl
elsewhere GroupClosed h = refl
elsewhere Ended h = refl
