-- Expressions as they are written: a node by its kind, the parts of a tree and their programs, and a tree from its parts. Assumes nothing.
use mathlib.Core.Path.{◌≡◌, refl, sym, ap, ◌∙◌, subst}
use mathlib.Core.Bool.{Bool, true, false, cond, not, ◌||◌}
use mathlib.Core.List.{List, [], ◌∷◌, ◌++◌, append-nil, append_assoc}
use mathlib.Core.Option.{Option, none, some}
use Prim.Native.Nat.{ℕ, suc, ◌+◌, ◌-◌, ◌*◌, ◌≤◌, ◌<◌}
use native.Mathlib.Omega.{arith}
use native.Mathlib.Numerals.{add-one}
use lib.Dec.{eqb, ltb}
use lib.ListN.{length, length-append}
use borrow.Author.Tests.{ne_eqb, eq-eqb}
use Rattle.lent.specs.Put.{PutAs}
use Rattle.output.proofs.Writing.{put_then, same_bytes}
use Rattle.expressions.specs.Expr.{Atom, nonterminal, anychar, nodes}
use Rattle.programs.specs.Program.{Program}
use Rattle.programs.specs.Limits.{Visit, first, second}
use Rattle.programs.specs.Section.{FieldIs, no_program, names}
use Rattle.layout.specs.Records.{kind_of, argument_of, first_program_of_node, second_program_of_node}
use Rattle.trees.specs.Trees.{TreeAt}
use Rattle.sheet.specs.Sheet.{Sheet}
use Rattle.notation.specs.Program.{TextProgram}
use Rattle.notation.specs.Rules.{TextVisits, Tree, node, Form, atom, cat, alt, star, empty, expression, expression_of, visits, visits_of}
use Rattle.notation.specs.Tokens.{token_bytes}
use Rattle.encoding.proofs.Sheets.{tree_length}
use Rattle.packing.specs.Packs.{Packs}
use Rattle.printed.specs.Spacing.{in_parentheses, in_parentheses_if}
use Rattle.printed.specs.Expressions.{program_in_front, program_behind, has_one, binds, atom_token, tree_text, form_text}
use Rattle.naming.specs.ByName.{option_named}
use Rattle.visits.specs.Written.{Pen, Written}
use Rattle.clauses.specs.Clauses.{sign_where}
use Rattle.clauses.proofs.Laws.{decimal_short, sign_short}
use Rattle.asides.specs.Asides.{aside_text, most_of_an_aside, FieldNamed, FieldText}
use Rattle.asides.proofs.Laws.{asides_are_theirs}
use Rattle.boughs.specs.Boughs.{binds_at, leaf_text, join_at, apart_at, NodesNamed, TreeNamed, bare_text, inside_text, most_of_a_node, TreePut}
use Rattle.boughs.specs.declared.Placed.{Placed}

-- ---- by the kind
pub binds_union : (k : ℕ) → k ≡ 4 → 0 ≡ binds_at k
binds_union k e = rw e refl

pub binds_concatenation : (k : ℕ) → k ≡ 3 → 1 ≡ binds_at k
binds_concatenation k e = rw e refl

pub binds_star : (k : ℕ) → k ≡ 5 → 2 ≡ binds_at k
binds_star k e = rw e refl

pub binds_most : (k : ℕ) → (k ≡ 4 → ⊥) → (k ≡ 3 → ⊥) → (k ≡ 5 → ⊥) → 3 ≡ binds_at k
binds_most k f g h = rw (ne_eqb k 4 f, ne_eqb k 3 g, ne_eqb k 5 h) refl

pub atom_number : (k n : ℕ) → k ≡ 1 → token_bytes (Rattle.notation.specs.Tokens.nonterminal n) ≡ leaf_text k n
atom_number k n e = rw e refl

pub atom_character : (k n : ℕ) → k ≡ 2 → 67 ∷ 72 ∷ 65 ∷ 82 ∷ [] ≡ leaf_text k n
atom_character k n e = rw e refl

pub atom_empty : (k n : ℕ) → (k ≡ 1 → ⊥) → (k ≡ 2 → ⊥) → 69 ∷ 77 ∷ 80 ∷ 84 ∷ 89 ∷ [] ≡ leaf_text k n
atom_empty k n f g = rw (ne_eqb k 1 f, ne_eqb k 2 g) refl

pub atom_short : (k n : ℕ) → length (leaf_text k n) ≤ 5
atom_short k n = on (eqb k 1) (eqb k 2)
  where
    on : (b c : Bool) → length (cond b (token_bytes (Rattle.notation.specs.Tokens.nonterminal n)) (cond c (67 ∷ 72 ∷ 65 ∷ 82 ∷ []) (69 ∷ 77 ∷ 80 ∷ 84 ∷ 89 ∷ []))) ≤ 5
    on true c = omega (arith, decimal_short n)
    on false true = omega arith
    on false false = omega arith

pub join_dot : (k : ℕ) → k ≡ 3 → 46 ∷ [] ≡ join_at k
join_dot k e = rw e refl

pub join_bar : (k : ℕ) → (k ≡ 3 → ⊥) → 124 ∷ [] ≡ join_at k
join_bar k f = rw (ne_eqb k 3 f) refl

pub join_short : (k : ℕ) → length (join_at k) ≡ 1
join_short k = on (eqb k 3)
  where
    on : (b : Bool) → length {A = ℕ} (cond b (46 ∷ []) (124 ∷ [])) ≡ 1
    on true = refl
    on false = refl

-- ---- parentheses
pub apart_first : (s : List ℕ) (i asked n : ℕ) → n ≡ first_program_of_node s i → (n ≡ 65535 → ⊥) → true ≡ apart_at s i asked
apart_first s i asked n e f = let g = ne_eqb (first_program_of_node s i) 65535 (λ h. f (e ∙ h)) in rw g refl

pub apart_second : (s : List ℕ) (i asked n : ℕ) → n ≡ second_program_of_node s i → (n ≡ 65535 → ⊥) → true ≡ apart_at s i asked
apart_second s i asked n e f = let g = ne_eqb (second_program_of_node s i) 65535 (λ h. f (e ∙ h)) in on (eqb (first_program_of_node s i) 65535)
  where
    on : (b : Bool) → true ≡ (not b || not (eqb (second_program_of_node s i) 65535)) || ltb (binds_at (kind_of s i)) asked
    on true = rw (ne_eqb (second_program_of_node s i) 65535 (λ h. f (e ∙ h))) refl
    on false = refl

pub apart_by_binding : (s : List ℕ) (i asked n m b : ℕ) → n ≡ first_program_of_node s i → n ≡ 65535 → m ≡ second_program_of_node s i → m ≡ 65535 → b ≡ binds_at (kind_of s i)
    → ltb b asked ≡ apart_at s i asked
apart_by_binding s i asked n m b e e' f f' g =
    let x : eqb (first_program_of_node s i) 65535 ≡ true = eq-eqb (first_program_of_node s i) 65535 (sym e ∙ e') in
    let y : eqb (second_program_of_node s i) 65535 ≡ true = eq-eqb (second_program_of_node s i) 65535 (sym f ∙ f') in
    rw (x, y, g) refl

-- ---- what lies there
kind_binds : (s : List ℕ) (i : ℕ) (k : Form) → TreeAt s i (expression_of k) → binds_at (kind_of s i) ≡ binds k
kind_binds s i (atom (nonterminal n)) h = ap binds_at h.0
kind_binds s i (atom anychar) h = ap binds_at h.0
kind_binds s i (cat l r) h = ap binds_at h.0
kind_binds s i (alt l r) h = ap binds_at h.0
kind_binds s i (star e) h = ap binds_at h.0
kind_binds s i empty h = ap binds_at h.0

pub some_nodes : (t : Tree) → 1 ≤ nodes (expression t)
some_nodes (node f g (atom k)) = omega arith
some_nodes (node f g (cat l r)) = omega arith
some_nodes (node f g (alt l r)) = omega arith
some_nodes (node f g (star e)) = omega arith
some_nodes (node f g empty) = omega arith

module _ (s : List ℕ) (a : Sheet) (z : Packs s a) where
  -- a field is empty exactly where no program is named
  names_one : (v : Visit) (field : ℕ) (o : Option TextProgram) → FieldNamed s a z v field o → not (eqb field 65535) ≡ has_one o
  names_one v field o h = on h.program h.is ∙ ap has_one (sym h.named)
    where
      on : (m : Option Program) → FieldIs z.programs.programs v field m → not (eqb field 65535) ≡ has_one (option_named a m)
      on none (no_program e) = ap not (eq-eqb field 65535 e)
      on (some p) (names n q S w) = ap not (ne_eqb field 65535 n)

  apart_is : (i asked : ℕ) (f g : Option TextProgram) (k : Form) → TreeNamed s a z i (node f g k) → apart_at s i asked ≡ (has_one f || has_one g) || ltb (binds k) asked
  apart_is i asked f g k h =
      let x : not (eqb (first_program_of_node s i) 65535) ≡ has_one f = names_one first (first_program_of_node s i) f h.programs.0.first_is in
      let y : not (eqb (second_program_of_node s i) 65535) ≡ has_one g = names_one second (second_program_of_node s i) g h.programs.0.second_is in
      ap (λ (b : Bool). (b || not (eqb (second_program_of_node s i) 65535)) || ltb (binds_at (kind_of s i)) asked) x
      ∙ ap (λ (b : Bool). (has_one f || b) || ltb (binds_at (kind_of s i)) asked) y ∙ ap (λ (n : ℕ). (has_one f || has_one g) || ltb n asked) (kind_binds s i k h.stands)

  -- programs of the nodes of the one tree, and of the other behind it
  front_nodes : (i : ℕ) (us vs : List TextVisits) → NodesNamed s a z i (us ++ vs) → NodesNamed s a z i us
  front_nodes i [] vs h = tt
  front_nodes i (u ∷ us) vs h = (h.0, front_nodes (suc i) us vs h.1)

  back_nodes : (i : ℕ) (us vs : List TextVisits) → NodesNamed s a z i (us ++ vs) → NodesNamed s a z (i + length us) vs
  back_nodes i [] vs h = let e : i ≡ i + 0 = omega arith in subst (λ (n : ℕ). NodesNamed s a z n vs) e h
  back_nodes i (u ∷ us) vs h = let e : suc i + length us ≡ i + suc (length us) = omega arith in subst (λ (n : ℕ). NodesNamed s a z n vs) e (back_nodes (suc i) us vs h.1)

  module _ (i : ℕ) where
    pub left_part : (l r : Tree) → TreeAt s (suc i) (expression l) → NodesNamed s a z (suc i) (visits l ++ visits r) → TreeNamed s a z (i + 1) l
    left_part l r h n = subst (λ (m : ℕ). TreeNamed s a z m l) (sym (add-one i)) (record { stands = h; programs = front_nodes (suc i) (visits l) (visits r) n })

    pub right_part : (m : ℕ) (l r : Tree) → m ≡ i + 1 + nodes (expression l) → TreeAt s (suc i + nodes (expression l)) (expression r) → NodesNamed s a z (suc i) (visits l ++ visits r) → TreeNamed s a z m r
    right_part m l r e h n =
        let same : suc i + nodes (expression l) ≡ m = omega (arith, e) in
        let len : suc i + length (visits l) ≡ suc i + nodes (expression l) = ap (λ (x : ℕ). suc i + x) (tree_length l) in
        subst (λ (x : ℕ). TreeNamed s a z x r) same (record { stands = h; programs = subst (λ (x : ℕ). NodesNamed s a z x (visits r)) len (back_nodes (suc i) (visits l) (visits r) n) })

    pub only_part : (e : Tree) → TreeAt s (suc i) (expression e) → NodesNamed s a z (suc i) (visits e) → TreeNamed s a z (i + 1) e
    only_part e h n = subst (λ (m : ℕ). TreeNamed s a z m e) (sym (add-one i)) (record { stands = h; programs = n })

-- what was read of the node is what lies there
pub binds_here : {k n b : ℕ} → k ≡ n → b ≡ binds_at k → b ≡ binds_at n
binds_here e f = f ∙ ap binds_at e

module _ {w : Bool} {d e : List ℕ} {at r k n : ℕ} (f : k ≡ n) where
  pub atom_here : {x y : ℕ} → x ≡ y → PutAs w d at (leaf_text k x) e r → PutAs w d at (leaf_text n y) e r
  atom_here {x} {y} g P = subst (λ (m : ℕ). PutAs w d at (leaf_text n m) e r) g (subst (λ (m : ℕ). PutAs w d at (leaf_text m x) e r) f P)

  pub join_here : PutAs w d at (join_at k) e r → PutAs w d at (join_at n) e r
  join_here P = subst (λ (m : ℕ). PutAs w d at (join_at m) e r) f P

-- ---- what was put
module _ (s : List ℕ) (i left : ℕ) (p : Pen) where
  pub no_node : (asked : ℕ) → left ≡ 0 → TreePut 0 (tree_text asked) s i left p (record { next = i; at = p.at }) p.lent
  no_node asked e = record { low = omega arith; high = omega arith; reach = omega arith; right = λ a z t h few. absurd (omega (arith, few, e, some_nodes t)) }

  abbrev Right : (Tree → List ℕ) → ℕ → ℕ → List ℕ → Type 0
  Right text next at d =
      (a : Sheet) (z : Packs s a) (t : Tree) → TreeNamed s a z i t → nodes (expression t) ≤ left → (next ≡ i + nodes (expression t)) × PutAs p.write p.lent p.at (text t) d at

  module _ (some_left : 1 ≤ left) where
    pub an_atom : (b : ℕ) → b ≡ binds_at (kind_of s i) → b ≡ 3 → (n : ℕ) (d : List ℕ) → PutAs p.write p.lent p.at (leaf_text (kind_of s i) (argument_of s i)) d n
        → TreePut (2 * most_of_an_aside + 2) bare_text s i left p (record { next = i + 1; at = n }) d
    an_atom b eb e n d P = record { low = omega arith; high = omega (arith, some_left); reach = omega (arith, P.next, atom_short (kind_of s i) (argument_of s i)); right = go }
      where
        never : (k : Form) → TreeAt s i (expression_of k) → binds k ≡ 3
        never k h = sym (kind_binds s i k h) ∙ sym eb ∙ e

        it : (x y : ℕ) → kind_of s i ≡ x → argument_of s i ≡ y → PutAs p.write p.lent p.at (leaf_text x y) d n
        it x y f g = subst (λ (m : ℕ). PutAs p.write p.lent p.at (leaf_text x m) d n) g (subst (λ (m : ℕ). PutAs p.write p.lent p.at (leaf_text m (argument_of s i)) d n) f P)

        go : Right bare_text (i + 1) n d
        go a z (node f g (atom (nonterminal m))) h few = (refl, it 1 m h.stands.0 h.stands.1)
        go a z (node f g (atom anychar)) h few = (refl, it 2 0 h.stands.0 h.stands.1)
        go a z (node f g empty) h few = (refl, it 6 0 h.stands.0 h.stands.1)
        go a z (node f g (cat l r)) h few = absurd (omega (arith, never (cat l r) h.stands))
        go a z (node f g (alt l r)) h few = absurd (omega (arith, never (alt l r) h.stands))
        go a z (node f g (star e)) h few = absurd (omega (arith, never (star e) h.stands))

    module _ (b : ℕ) (eb : b ≡ binds_at (kind_of s i)) (d₁ d₂ : List ℕ) (n₂ : ℕ) (r : Placed) where
      other : (k : Form) → TreeAt s i (expression_of k) → b ≡ binds k
      other k h = eb ∙ kind_binds s i k h

      pub a_star : b ≡ 2 → TreePut 0 (tree_text (b + 1)) s (i + 1) (left - 1) p r d₁ → PutAs p.write d₁ r.at (42 ∷ []) d₂ n₂
          → TreePut (2 * most_of_an_aside + 2) bare_text s i left p (record { next = r.next; at = n₂ }) d₂
      a_star e R P = record { low = omega (arith, R.low); high = omega (arith, R.high, some_left); reach = omega (arith, R.reach, P.next); right = go }
        where
          go : Right bare_text r.next n₂ d₂
          go a z (node f g (atom k)) h few = absurd (omega (arith, e, other (atom k) h.stands))
          go a z (node f g empty) h few = absurd (omega (arith, e, other empty h.stands))
          go a z (node f g (cat l m)) h few = absurd (omega (arith, e, other (cat l m) h.stands))
          go a z (node f g (alt l m)) h few = absurd (omega (arith, e, other (alt l m) h.stands))
          go a z (node f g (star x)) h few =
              let q = R.right a z x (only_part s a z i x h.stands.2 h.programs.1) (omega (arith, few)) in
              (omega (arith, q.0), put_then _ _ _ _ _ _ _ _ _ (subst (λ (n : ℕ). PutAs p.write p.lent p.at (tree_text (n + 1) x) d₁ r.at) e q.1) P)

      module _ (d₃ : List ℕ) (q : Placed) (R : TreePut 0 (tree_text b) s (i + 1) (left - 1) p r d₁) (J : PutAs p.write d₁ r.at (join_at (kind_of s i)) d₂ n₂)
          (Q : TreePut 0 (tree_text (b + 1)) s r.next (i + left - r.next) (record { write = p.write; lent = d₂; at = n₂ }) q d₃) where
        both : (a : Sheet) (z : Packs s a) (l m : Tree) → TreeAt s (suc i) (expression l) → TreeAt s (suc i + nodes (expression l)) (expression m) → NodesNamed s a z (suc i) (visits l ++ visits m)
            → suc (nodes (expression l) + nodes (expression m)) ≤ left
            → (q.next ≡ i + suc (nodes (expression l) + nodes (expression m))) × PutAs p.write p.lent p.at (tree_text b l ++ (join_at (kind_of s i) ++ tree_text (b + 1) m)) d₃ q.at
        both a z l m h g n few =
            let x = R.right a z l (left_part s a z i l m h n) (omega (arith, few)) in
            let y = Q.right a z m (right_part s a z i r.next l m x.0 g n) (omega (arith, few, x.0)) in
            (omega (arith, x.0, y.0), put_then _ _ _ _ _ _ _ _ _ x.1 (put_then _ _ _ _ _ _ _ _ _ J y.1))

        same : (k j : ℕ) (l m : Tree) → kind_of s i ≡ k → b ≡ j → tree_text b l ++ (join_at (kind_of s i) ++ tree_text (b + 1) m) ≡ tree_text j l ++ (join_at k ++ tree_text (j + 1) m)
        same k j l m e f = ap (λ (n : ℕ). tree_text n l ++ (join_at (kind_of s i) ++ tree_text (n + 1) m)) f ∙ ap (λ (n : ℕ). tree_text j l ++ (join_at n ++ tree_text (j + 1) m)) e

        pub a_pair : (b ≡ 3 → ⊥) → (b ≡ 2 → ⊥) → TreePut (2 * most_of_an_aside + 2) bare_text s i left p q d₃
        a_pair f g = record { low = omega (arith, R.low, Q.low); high = omega (arith, R.high, Q.high, some_left); reach = omega (arith, R.reach, J.next, join_short (kind_of s i), Q.reach); right = go }
          where
            go : Right bare_text q.next q.at d₃
            go a z (node u v (atom k)) h few = absurd (f (other (atom k) h.stands))
            go a z (node u v empty) h few = absurd (f (other empty h.stands))
            go a z (node u v (star e)) h few = absurd (g (other (star e) h.stands))
            go a z (node u v (cat l m)) h few =
                let w = both a z l m h.stands.2 h.stands.3 h.programs.1 few in
                (w.0, same_bytes _ _ _ _ (form_text (cat l m)) _ _ (same 3 1 l m h.stands.0 (other (cat l m) h.stands)) w.1)
            go a z (node u v (alt l m)) h few =
                let w = both a z l m h.stands.2 h.stands.3 h.programs.1 few in
                (w.0, same_bytes _ _ _ _ (form_text (alt l m)) _ _ (same 4 0 l m h.stands.0 (other (alt l m) h.stands)) w.1)

  -- with its programs
  module _ (d₁ d₂ d₃ : List ℕ) (n₁ n₃ : ℕ) (r : Placed) where
    pub with_programs : (f g : ℕ) → f ≡ first_program_of_node s i → g ≡ second_program_of_node s i → Written most_of_an_aside (FieldText s f true) p n₁ d₁
        → TreePut (2 * most_of_an_aside + 2) bare_text s i left (record { write = p.write; lent = d₁; at = n₁ }) r d₂
        → Written most_of_an_aside (FieldText s g false) (record { write = p.write; lent = d₂; at = r.at }) n₃ d₃ → TreePut 2 inside_text s i left p (record { next = r.next; at = n₃ }) d₃
    with_programs f g ef eg F R G = record { low = R.low; high = R.high; reach = omega (arith, F.reach, R.reach, G.reach); right = go }
      where
        field : (a : Sheet) (z : Packs s a) (v : Visit) (n m : ℕ) (b : Bool) (o : Option TextProgram) → n ≡ m → FieldNamed s a z v m o → FieldText s n b (aside_text b o)
        field a z v n m b o e h = record { sheet = a; packs = z; visit = v; program = o; names = subst (λ (x : ℕ). FieldNamed s a z v x o) (sym e) h; bytes = refl }

        go : Right inside_text r.next n₃ d₃
        go a z (node u v k) h few =
            let q = R.right a z (node u v k) h few in
            let x = F.right (aside_text true u) (field a z first f (first_program_of_node s i) true u ef h.programs.0.first_is) in
            let y = G.right (aside_text false v) (field a z second g (second_program_of_node s i) false v eg h.programs.0.second_is) in
            (q.0, same_bytes _ _ _ _ (inside_text (node u v k)) _ _ (asides_are_theirs u v (form_text k)) (put_then _ _ _ _ _ _ _ _ _ x (put_then _ _ _ _ _ _ _ _ _ q.1 y)))

    -- and with parentheses
    pub in_its_place : (asked : ℕ) (b : Bool) → b ≡ apart_at s i asked → PutAs p.write p.lent p.at (sign_where b 40) d₁ n₁
        → TreePut 2 inside_text s i left (record { write = p.write; lent = d₁; at = n₁ }) r d₂ → PutAs p.write d₂ r.at (sign_where b 41) d₃ n₃
        → TreePut 0 (tree_text asked) s i left p (record { next = r.next; at = n₃ }) d₃
    in_its_place asked b eb P R Q =
        record { low = R.low; high = R.high; reach = omega (arith, P.next, R.reach, Q.next, sign_short b 40, sign_short b 41); right = go }
      where
        around : (c : Bool) (x : List ℕ) → sign_where c 40 ++ (x ++ sign_where c 41) ≡ in_parentheses_if c x
        around true x = refl
        around false x = append-nil x

        go : Right (tree_text asked) r.next n₃ d₃
        go a z (node u v k) h few =
            let q = R.right a z (node u v k) h few in
            let x = inside_text (node u v k) in
            let e : b ≡ (has_one u || has_one v) || ltb (binds k) asked = eb ∙ apart_is s a z i asked u v k h in
            (q.0, same_bytes _ _ _ _ (tree_text asked (node u v k)) _ _ (around b x ∙ ap (λ (c : Bool). in_parentheses_if c x) e) (put_then _ _ _ _ _ _ _ _ _ P (put_then _ _ _ _ _ _ _ _ _ q.1 Q)))
