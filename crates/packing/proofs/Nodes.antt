-- The nodes of a sheet of rules, where their section lies: kinds, arguments, programs, trees. Assumes nothing.
use mathlib.Core.Path.{◌≡◌, refl, sym, ◌∙◌, ap, ap₂, subst}
use mathlib.Core.List.{List, [], ◌∷◌, ◌++◌}
use mathlib.Core.Option.{Option, none, some}
use Prim.Native.Nat.{ℕ, zero, suc, ◌+◌, ◌*◌, ◌≤◌, ◌<◌}
use native.Mathlib.Omega.{arith}
use lib.ListN.{length, length-append}
use Rattle.expressions.specs.Expr.{Atom, nonterminal, anychar, nodes, nodes_of}
use Rattle.programs.specs.Limits.{Visit, first, second}
use Rattle.programs.specs.Section.{FieldIs}
use Rattle.layout.specs.Layout.{node_offset}
use Rattle.layout.specs.Records.{kind_of, argument_of, first_program_of_node, second_program_of_node}
use Rattle.trees.specs.Trees.{TreeAt}
use Rattle.sheet.specs.Fields.{Visits, FieldsAre}
use Rattle.sheet.specs.Sheet.{From, NodeIs}
use Rattle.notation.specs.Program.{TextProgram}
use Rattle.notation.specs.Rules.{TextVisits, Tree, node, Form, atom, cat, alt, star, empty, expression, expression_of, visits, visits_of, content_inside, visits_inside, Rules}
use Rattle.encoding.specs.Mentions.{in_braces, in_tree, in_form, in_content}
use Rattle.encoding.specs.Encoded.{Room, maybe, both_of, each, sheet_of}
use Rattle.encoding.specs.Keeps.{ProgramKeeps, VisitsKeep, AllKeep}
use Rattle.encoding.specs.Sound.{SoundTree, SoundForm, SoundContent}
use Rattle.packing.specs.Packed.{field, kind, argument, node_record, tree_bytes, form_bytes, content_bytes}
use Rattle.packing.proofs.Here.{Here, here_byte, here_word, two_bytes, here_front, here_behind, here_at}
use Rattle.packing.proofs.Store.{stored_programs, Holds, holds_front, holds_back, field_is}

-- lists of what is said of numbers, one behind the other
pub from_append : {A : Type 0} (P : ℕ → A → Type 0) (i j k : ℕ) (xs ys : List A) → From P i j xs → From P j k ys → From P i k (xs ++ ys)
from_append P i j k [] ys h g = subst (λ n. From P n k ys) (sym h) g
from_append P i j k (x ∷ xs) ys h g = (h.0, from_append P (suc i) j k xs ys h.1 g)

pub from_to : {A : Type 0} (P : ℕ → A → Type 0) (i j k : ℕ) (xs : List A) → j ≡ k → From P i j xs → From P i k xs
from_to P i j k xs e h = subst (λ n. From P i n xs) e h

-- six bytes for each node
mutual
  tree_length : (r : Rules) (e : Tree) → length (tree_bytes r e) ≡ 6 * nodes (expression e)
  tree_length r (node f g k) = omega (arith, form_length r k)

  form_length : (r : Rules) (k : Form) → 6 + length (form_bytes r k) ≡ 6 * nodes (expression_of k)
  form_length r (atom a) = refl
  form_length r (cat l m) = simp length-append (omega (arith, tree_length r l, tree_length r m))
  form_length r (alt l m) = simp length-append (omega (arith, tree_length r l, tree_length r m))
  form_length r (star e) = omega (arith, tree_length r e)
  form_length r empty = refl

pub content_length : (r : Rules) (o : Option Tree) → length (content_bytes r o) ≡ 6 * nodes_of (content_inside o)
content_length r none = refl
content_length r (some e) = tree_length r e

each_append : (r : Rules) (us ws : List TextVisits) → each r (us ++ ws) ≡ each r us ++ each r ws
each_append r [] ws = refl
each_append r (u ∷ us) ws = ap (λ l. both_of r u ∷ l) (each_append r us ws)

pub keep_front : (r : Rules) (us ws : List TextVisits) → AllKeep (sheet_of r) (each r (us ++ ws)) → AllKeep (sheet_of r) (each r us)
keep_front r [] ws h = tt
keep_front r (u ∷ us) ws h = (h.0, keep_front r us ws h.1)

pub keep_back : (r : Rules) (us ws : List TextVisits) → AllKeep (sheet_of r) (each r (us ++ ws)) → AllKeep (sheet_of r) (each r ws)
keep_back r [] ws h = h
keep_back r (u ∷ us) ws h = keep_back r us ws h.1

six_more : (o i c : ℕ) → o + 6 * i + 6 * c ≡ o + 6 * (i + c)
six_more o i c = omega arith

one_more : (i : ℕ) → i + 1 ≡ suc i
one_more i = omega arith

module _ (r : Rules) (room : Room r) (s : List ℕ) where
  abbrev pub NodesFrom : ℕ → List ℕ → Type 0
  NodesFrom i l = Here s (node_offset s + 6 * i) l

  pub nodes_behind : (i c : ℕ) (l m : List ℕ) → length l ≡ 6 * c → NodesFrom i (l ++ m) → NodesFrom (i + c) m
  nodes_behind i c l m e h = here_at s (node_offset s + 6 * i + 6 * c) (node_offset s + 6 * (i + c)) m (six_more (node_offset s) i c) (here_behind s (node_offset s + 6 * i) (6 * c) l m e h)

  -- the two fields of a node
  fields_at : (f g : Option TextProgram) (k : Form) (i : ℕ) → NodesFrom i (node_record r f g k) → VisitsKeep (sheet_of r) (both_of r (record { first_visit = f; second_visit = g })) → Holds r (in_braces f) → Holds r (in_braces g)
      → NodeIs s (stored_programs r) i (both_of r (record { first_visit = f; second_visit = g }))
  fields_at f g k i h v a b = record {
    first_is = subst (λ n. FieldIs (stored_programs r) first n (maybe r f)) (sym (here_word s (node_offset s + 6 * i) (node_record r f g k) h 2 (omega arith) ∙ two_bytes (field r f))) (field_is r room first f v.0 a);
    second_is = subst (λ n. FieldIs (stored_programs r) second n (maybe r g)) (sym (here_word s (node_offset s + 6 * i) (node_record r f g k) h 4 (omega arith) ∙ two_bytes (field r g))) (field_is r room second g v.1 b);
  }

  abbrev Both : ℕ → Tree → Type 0
  Both i e = TreeAt s i (expression e) × From (NodeIs s (stored_programs r)) i (i + nodes (expression e)) (each r (visits e))

  -- two trees, one behind the other
  two_from : (i : ℕ) (l m : Tree) → Both (suc i) l → Both (suc i + nodes (expression l)) m → From (NodeIs s (stored_programs r)) (suc i) (i + suc (nodes (expression l) + nodes (expression m))) (each r (visits l ++ visits m))
  two_from i l m a b =
      subst (From (NodeIs s (stored_programs r)) (suc i) (i + suc (nodes (expression l) + nodes (expression m)))) (sym (each_append r (visits l) (visits m)))
      (from_append (NodeIs s (stored_programs r)) (suc i) (suc i + nodes (expression l)) (i + suc (nodes (expression l) + nodes (expression m))) (each r (visits l)) (each r (visits m)) a.1
      (from_to (NodeIs s (stored_programs r)) (suc i + nodes (expression l)) (suc i + nodes (expression l) + nodes (expression m)) (i + suc (nodes (expression l) + nodes (expression m))) (each r (visits m)) (sum i (nodes (expression l)) (nodes (expression m))) b.1))
    where
      sum : (i a b : ℕ) → suc i + a + b ≡ i + suc (a + b)
      sum i a b = omega arith

  mutual
    pub tree_at : (e : Tree) (i : ℕ) → NodesFrom i (tree_bytes r e) → SoundTree e → AllKeep (sheet_of r) (each r (visits e)) → Holds r (in_tree e) → Both i e
    tree_at (node f g k) i h s' w m =
        let n = here_front s (node_offset s + 6 * i) (node_record r f g k) (form_bytes r k) h in
        let b = holds_back r (in_braces f) (in_form k ++ in_braces g) m in
        let below = form_at k i (here_byte s (node_offset s + 6 * i) (node_record r f g k) n 0 (omega arith)) (here_byte s (node_offset s + 6 * i) (node_record r f g k) n 1 (omega arith))
        (subst (λ j. NodesFrom j (form_bytes r k)) (one_more i) (nodes_behind i 1 (node_record r f g k) (form_bytes r k) refl h)) s'.1.1 w.1 (holds_front r (in_form k) (in_braces g) b) in
        (below.0, (fields_at f g k i n w.0 (holds_front r (in_braces f) (in_form k ++ in_braces g) m) (holds_back r (in_form k) (in_braces g) b), below.1))

    form_at : (k : Form) (i : ℕ) → kind_of s i ≡ kind k → argument_of s i ≡ argument k → NodesFrom (suc i) (form_bytes r k) → SoundForm k → AllKeep (sheet_of r) (each r (visits_of k)) → Holds r (in_form k)
        → TreeAt s i (expression_of k) × From (NodeIs s (stored_programs r)) (suc i) (i + nodes (expression_of k)) (each r (visits_of k))
    form_at (atom (nonterminal n)) i a b h s' w m = ((a, b, omega arith), omega arith)
    form_at (atom anychar) i a b h s' w m = ((a, b), omega arith)
    form_at (cat x y) i a b h s' w m =
        let u = tree_at x (suc i) (here_front s (node_offset s + 6 * suc i) (tree_bytes r x) (tree_bytes r y) h) s'.0 (keep_front r (visits x) (visits y) w) (holds_front r (in_tree x) (in_tree y) m) in
        let v = tree_at y (suc i + nodes (expression x)) (nodes_behind (suc i) (nodes (expression x)) (tree_bytes r x) (tree_bytes r y) (tree_length r x) h) s'.1 (keep_back r (visits x) (visits y) w)
        (holds_back r (in_tree x) (in_tree y) m) in
        ((a, b, u.0, v.0), two_from i x y u v)
    form_at (alt x y) i a b h s' w m =
        let u = tree_at x (suc i) (here_front s (node_offset s + 6 * suc i) (tree_bytes r x) (tree_bytes r y) h) s'.0 (keep_front r (visits x) (visits y) w) (holds_front r (in_tree x) (in_tree y) m) in
        let v = tree_at y (suc i + nodes (expression x)) (nodes_behind (suc i) (nodes (expression x)) (tree_bytes r x) (tree_bytes r y) (tree_length r x) h) s'.1 (keep_back r (visits x) (visits y) w)
        (holds_back r (in_tree x) (in_tree y) m) in
        ((a, b, u.0, v.0), two_from i x y u v)
    form_at (star e) i a b h s' w m =
        let z = tree_at e (suc i) h s' w m in
        ((a, b, z.0), from_to (NodeIs s (stored_programs r)) (suc i) (suc i + nodes (expression e)) (i + suc (nodes (expression e))) (each r (visits e)) (omega arith) z.1)
    form_at empty i a b h s' w m = ((a, b), omega arith)
