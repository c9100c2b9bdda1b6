-- Counting atoms node by node: a node adds one exactly if it is an atom, so the count says which node is the p-th, and that is one node.
-- Assumes nothing.
use mathlib.Core.Path.{◌≡◌, refl, sym, ap, ◌∙◌}
use mathlib.Core.Bool.{Bool, true, false, cond}
use mathlib.Core.List.{List}
use Prim.Native.Nat.{ℕ, zero, suc, ◌+◌, ◌-◌, ◌≤◌, ◌<◌}
use native.Mathlib.Nat.{add-zero, add-suc}
use native.Mathlib.Omega.{arith}
use lib.Dec.{ltb}
use borrow.Author.Tests.{ltb-true, ltb-false}
use Rattle.layout.specs.LaidOut.{LaidOut}
use Rattle.layout.specs.declared.Layout.{Layout}
use Rattle.trees.specs.Parsed.{RunsInside}
use Rattle.layout.specs.Records.{first_node_of, node_count_of, kind_of}
use Rattle.words.specs.Atoms.{one_if_atom, atoms_before, AtomAt, FoundIs}
use Rattle.std.specs.Int.{from_bool}
use Rattle.std.specs.Prelude.{Option, Some, None}

-- production q's nodes are nodes of the sheet, and so is each of its atoms
pub run_inside : {s : List ℕ} {l : Layout} {q : ℕ} → LaidOut s l → RunsInside s → q < l.productions → first_node_of s q + node_count_of s q ≤ l.nodes
run_inside {q = q} a r h = let i = r.inside q (omega (arith, h, a.layout_is.productions_is.is)) in omega (arith, i, a.layout_is.nodes_is.is)

pub found_inside : {s : List ℕ} {l : Layout} {q i : ℕ} (p : ℕ) → LaidOut s l → RunsInside s → q < l.productions → FoundIs s q p (Some i) → i < l.nodes
found_inside p a r h f = let e = run_inside a r h in omega (arith, e, f.1, f.2.within)

is_atom : (k : ℕ) → one_if_atom k ≡ 1 → k < 3
is_atom k e = go (ltb k 3) refl e where
  go : (b : Bool) → ltb k 3 ≡ b → cond {A = ℕ} b 1 0 ≡ 1 → k < 3
  go true q e = ltb-true k 3 q
  go false q e = absurd (omega (arith, e))

adds_one : (k : ℕ) → k < 3 → one_if_atom k ≡ 1
adds_one k h = go (ltb k 3) refl where
  go : (b : Bool) → ltb k 3 ≡ b → cond {A = ℕ} b 1 0 ≡ 1
  go true q = refl
  go false q = absurd (let z = ltb-false k 3 q in omega (arith, z, h))

-- what a test of a kind adds to a count
pub test_adds : (k here : ℕ) → here ≡ from_bool (ltb k 3) → here ≡ one_if_atom k
test_adds k here e = e ∙ go (ltb k 3) where
  go : (b : Bool) → from_bool b ≡ cond {A = ℕ} b 1 0
  go true = refl
  go false = refl

-- one turn: node k of production q, of that kind, after k nodes with that many atoms
module _ (s : List ℕ) (q p k : ℕ) {first before kind here : ℕ} (f : first ≡ first_node_of s q) (d : kind ≡ kind_of s (first + k)) (h : here ≡ one_if_atom kind) (b : before ≡ atoms_before s (first_node_of s q) k) where
  kind_is : kind ≡ kind_of s (first_node_of s q + k)
  kind_is = d ∙ ap (λ (x : ℕ). kind_of s (x + k)) f

  pub found : k < node_count_of s q → here ≡ 1 → before + here ≡ p → FoundIs s q p (Some (first + k))
  found z o e =
      (k, ap (λ (x : ℕ). x + k) f, record { within = z; an_atom = rw kind_is at (is_atom kind (sym h ∙ o)); number = omega (arith, b, o, e) })

  pub missed : ((here ≡ 1) × (before + here ≡ p) → ⊥) → AtomAt s q p k → ⊥
  missed z a =
      let o : here ≡ 1 = h ∙ adds_one kind (rw (sym kind_is) at a.an_atom) in
      z (o, omega (arith, b, o, a.number))

  pub counted : before + here ≡ atoms_before s (first_node_of s q) (suc k)
  counted = ap (λ (x : ℕ). x + here) b ∙ ap (λ (x : ℕ). atoms_before s (first_node_of s q) k + x) (h ∙ ap one_if_atom kind_is)

-- later nodes only add atoms
atoms_rise : (s : List ℕ) (i k n : ℕ) → atoms_before s i k ≤ atoms_before s i (k + n)
atoms_rise s i k zero = rw (add-zero k) (omega arith)
atoms_rise s i k (suc n) = rw (add-suc k n) (let r = atoms_rise s i k n in omega (arith, r))

later_atom : (s : List ℕ) (q p j k : ℕ) → AtomAt s q p j → AtomAt s q p k → j < k → ⊥
later_atom s q p j k a b h =
    let e : suc j + (k - suc j) ≡ k = omega (arith, h) in
    let r : atoms_before s (first_node_of s q) (suc j) ≤ atoms_before s (first_node_of s q) k = rw e at (atoms_rise s (first_node_of s q) (suc j) (k - suc j)) in
    let o : one_if_atom (kind_of s (first_node_of s q + j)) ≡ 1 = adds_one _ a.an_atom in
    omega (arith, r, o, a.number, b.number)

-- any two allowed answers are equal
pub one_found : (s : List ℕ) (q p : ℕ) (x y : Option ℕ) → FoundIs s q p x → FoundIs s q p y → x ≡ y
one_found s q p (Some i) (Some j) a b =
    let l : a.0 < b.0 → ⊥ = later_atom s q p _ _ a.2 b.2 in
    let g : b.0 < a.0 → ⊥ = later_atom s q p _ _ b.2 a.2 in
    let e : a.0 ≡ b.0 = omega (arith, l, g) in
    ap Some (omega (arith, a.1, b.1, e))
one_found s q p (Some i) None a b = absurd (b a.0 a.2)
one_found s q p None (Some j) a b = absurd (a b.0 b.2)
one_found s q p None None a b = refl
