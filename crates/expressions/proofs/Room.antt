-- 65,536 bytes suffice for the fault list. An expression of k atoms has at least 2k - 1 nodes, so the places of all productions are at most
-- 224, with 66 next symbols each; the counts of rule T sum to the number of productions, so there are at most as many T faults.
-- Assumes nothing.
use mathlib.Core.Path.{◌≡◌, refl, sym, ◌∙◌, ap, subst}
use mathlib.Core.Bool.{Bool, true, false, cond, ◌&&◌, and-false}
use mathlib.Core.List.{List, [], ◌∷◌, ◌++◌, append_assoc, Memᴰ}
use mathlib.Core.Logic.{⊎_elim}
use Prim.Native.Nat.{ℕ, zero, suc, ◌+◌, ◌*◌, ◌≤◌}
use native.Mathlib.Nat.{le_trans}
use native.Mathlib.Omega.{arith}
use lib.Dec.{eqb, leb}
use lib.ListN.{length, length-append}
use borrow.Author.Tests.{eqb-true, eqb-false, ne_eqb, leb-true}
use Rattle.expressions.specs.Expr.{Exp, atom, cat, alt, star, empty, nodes, atoms, Content, nothing, tree, nodes_of, atoms_of, places}
use Rattle.expressions.specs.Grammar.{only_if, Production, nonterminals, Small, nodes_in, tags_of, tag, character, end}
use Rattle.expressions.specs.FaultList.{IsFaultList, list_bytes}
use Rattle.expressions.specs.Decide.{count}
use Rattle.expressions.specs.Listed.{gather, alike, t_fault_at, t_faults_of, t_faults, is_many, s_fault_at, s_faults_at, s_faults_of, s_faults_from, fault_list}
use Rattle.expressions.proofs.Order.{Bytes, one_list}
use Rattle.expressions.proofs.Listed.{listed}

-- sums over a range of numbers
abbrev total : ℕ → ℕ → (ℕ → ℕ) → ℕ
total i zero f = 0
total i (suc n) f = f i + total (suc i) n f

total_none : (f : ℕ → ℕ) (i n : ℕ) → ((k : ℕ) → i ≤ k → f k ≡ 0) → total i n f ≡ 0
total_none f i zero h = refl
total_none f i (suc n) h = omega (arith, h i (omega arith), total_none f (suc i) n (λ k l. h k (omega arith)))

total_mono : (f g : ℕ → ℕ) → ((k : ℕ) → f k ≤ g k) → (i n : ℕ) → total i n f ≤ total i n g
total_mono f g h i zero = omega arith
total_mono f g h i (suc n) = omega (arith, h i, total_mono f g h (suc i) n)

total_add : (f g : ℕ → ℕ) (i n : ℕ) → total i n (λ k. f k + g k) ≡ total i n f + total i n g
total_add f g i zero = omega arith
total_add f g i (suc n) = omega (arith, total_add f g (suc i) n)

-- what is at most 1, and that at a alone, sums to at most 1
total_once : (f : ℕ → ℕ) (a : ℕ) → ((k : ℕ) → f k ≤ 1) → ((k : ℕ) → (k ≡ a → ⊥) → f k ≡ 0) → (i n : ℕ) → total i n f ≤ 1
total_once f a h z i zero = omega arith
total_once f a h z i (suc n) = here (total_once f a h z (suc i) n) (eqb i a) refl
  where
    here : total (suc i) n f ≤ 1 → (t : Bool) → eqb i a ≡ t → f i + total (suc i) n f ≤ 1
    here later true e = let s : i ≡ a = eqb-true i a e in omega (arith, h i, total_none f (suc i) n (λ k l. z k (λ e'. omega arith)))
    here later false e = omega (arith, z i (eqb-false i a e))

gather_length : (f : ℕ → List Bytes) (h : ℕ → ℕ) → ((k : ℕ) → length (f k) ≤ h k) → (i n : ℕ) → length (gather i n f) ≤ total i n h
gather_length f h s i zero = omega arith
gather_length f h s i (suc n) = omega (arith, length-append (f i) (gather (suc i) n f), s i, gather_length f h s (suc i) n)

gather_most : (f : ℕ → List Bytes) (c : ℕ) → ((k : ℕ) → length (f k) ≤ c) → (i n : ℕ) → length (gather i n f) ≤ n * c
gather_most f c s i zero = omega arith
gather_most f c s i (suc n) = omega (arith, length-append (f i) (gather (suc i) n f), s i, gather_most f c s (suc i) n)

-- rule T: each entry's count is at least 1, and each production is counted once
entry_count : (k : ℕ) (b : Bytes) → length (only_if (leb 2 k) b) ≤ k
entry_count k b = by_test (leb 2 k) refl
  where
    by_test : (t : Bool) → leb 2 k ≡ t → length (only_if t b) ≤ k
    by_test true e = omega (arith, leb-true 2 k e)
    by_test false e = omega arith

abbrev one_if_lem : Bool → ℕ
one_if_lem t = cond t 1 0

one_most : (t : Bool) → one_if_lem t ≤ 1
one_most true = omega arith
one_most false = omega arith

-- the counts of w nonterminals and n tags
abbrev grid : ℕ → ℕ → (ℕ → ℕ → ℕ) → ℕ
grid w n f = total 0 w (λ m. total 0 n (f m))

module _ (w n : ℕ) where
  grid_once : (a b : ℕ) → grid w n (λ m t. one_if_lem (eqb m a && eqb t b)) ≤ 1
  grid_once a b =
      total_once (λ m. total 0 n (λ t. one_if_lem (eqb m a && eqb t b))) a
      (λ m. total_once (λ t. one_if_lem (eqb m a && eqb t b)) b (λ t. one_most (eqb m a && eqb t b)) (λ t d. rw (ne_eqb t b d, and-false (eqb m a))) 0 n)
      (λ m d. total_none (λ t. one_if_lem (eqb m a && eqb t b)) 0 n (λ t l. rw (ne_eqb m a d))) 0 w

  grid_add : (f g : ℕ → ℕ → ℕ) → grid w n (λ m t. f m t + g m t) ≤ grid w n f + grid w n g
  grid_add f g =
      let h = total_mono (λ m. total 0 n (λ t. f m t + g m t)) (λ m. total 0 n (f m) + total 0 n (g m)) (λ m. omega (arith, total_add (f m) (g m) 0 n)) 0 w in
      omega (arith, total_add (λ m. total 0 n (f m)) (λ m. total 0 n (g m)) 0 w)

  grid_alike : (g : List Production) → grid w n (alike g) ≤ length g
  grid_alike [] = omega (arith, total_none (λ m. total 0 n (alike [] m)) 0 w (λ m l. total_none (alike [] m) 0 n (λ t l'. refl)))
  grid_alike (d ∷ g) =
      omega (arith, grid_add (λ m t. one_if_lem (eqb m d.nonterm && eqb t d.tagno)) (alike g), grid_once d.nonterm d.tagno, grid_alike g)

t_room : (n : ℕ) (g : List Production) → length (t_faults n g) ≤ length g
t_room n g =
    le_trans (gather_length (t_faults_of n g) (λ m. total 0 n (alike g m))
    (λ m. gather_length (t_fault_at g m) (alike g m) (λ t. entry_count (alike g m t) _) 0 n) 0 nonterminals) (grid_alike nonterminals n g)

-- rule S: places times next symbols
entry_one : (t : Bool) (b : Bytes) → length (only_if t b) ≤ 1
entry_one true b = omega arith
entry_one false b = omega arith

place_room : (n : ℕ) (tags : ℕ → List ℕ) (e : Content) (q p : ℕ) → n ≤ 64 → length (s_faults_at n tags e q p) ≤ 66
place_room n tags e q p few =
    omega (
      arith,
      length-append (gather 0 n (λ t. s_fault_at tags e q p (tag t))) (s_fault_at tags e q p character ++ s_fault_at tags e q p end),
      length-append (s_fault_at tags e q p character) (s_fault_at tags e q p end),
      gather_most (λ t. s_fault_at tags e q p (tag t)) 1 (λ t. entry_one (is_many (count tags e p (tag t))) _) 0 n,
      entry_one (is_many (count tags e p character)) (9 ∷ q ∷ p ∷ 254 ∷ []),
      entry_one (is_many (count tags e p end)) (9 ∷ q ∷ p ∷ 255 ∷ []),
    )

abbrev atoms_in : List Production → ℕ
atoms_in [] = 0
atoms_in (d ∷ ds) = atoms_of d.content + atoms_in ds

s_room : (n : ℕ) (tags : ℕ → List ℕ) → n ≤ 64 → (q : ℕ) (ds : List Production) → length (s_faults_from n tags q ds) ≤ (length ds + atoms_in ds) * 66
s_room n tags few q [] = omega arith
s_room n tags few q (d ∷ ds) =
    omega (
      arith,
      length-append (s_faults_of n tags q d.content) (s_faults_from n tags (suc q) ds),
      gather_most (s_faults_at n tags d.content q) 66 (λ p. place_room n tags d.content q p few) 0 (places d.content),
      s_room n tags few (suc q) ds,
    )

-- two atoms in a node more than the tree has
atoms_nodes : (e : Exp) → atoms e + atoms e ≤ suc (nodes e)
atoms_nodes (atom k) = omega arith
atoms_nodes (cat l r) = omega (arith, atoms_nodes l, atoms_nodes r)
atoms_nodes (alt l r) = omega (arith, atoms_nodes l, atoms_nodes r)
atoms_nodes (star e) = omega (arith, atoms_nodes e)
atoms_nodes empty = omega arith

content_atoms : (e : Content) → atoms_of e + atoms_of e ≤ suc (nodes_of e)
content_atoms nothing = omega arith
content_atoms (tree e) = atoms_nodes e

atoms_in_lem : (ds : List Production) → atoms_in ds + atoms_in ds ≤ length ds + nodes_in ds
atoms_in_lem [] = omega arith
atoms_in_lem (d ∷ ds) = omega (arith, content_atoms d.content, atoms_in_lem ds)

pub suffices : (n : ℕ) (g : List Production) → Small n g → length g ≤ 64 → nodes_in g ≤ 256 → 4 * length (fault_list n g) ≤ 65536
suffices n g small few_productions few_nodes =
    omega (
      arith,
      length-append (t_faults n g) (s_faults_from n (tags_of g) 0 g),
      t_room n g,
      s_room n (tags_of g) small.few_tags 0 g,
      atoms_in_lem g,
    )

pub any_suffices : (n : ℕ) (g : List Production) (l : List Bytes) → Small n g → length g ≤ 64 → nodes_in g ≤ 256 → IsFaultList g l → 4 * length l ≤ 65536
any_suffices n g l small few_productions few_nodes h =
    subst (λ (z : List Bytes). 4 * length z ≤ 65536) (one_list (listed n g small) h) (suffices n g small few_productions few_nodes)

-- the bytes of a fault list are four for each entry
four_each : (l : List Bytes) → ((b : Bytes) → Memᴰ b l → length b ≡ 4) → length (list_bytes l) ≡ 4 * length l
four_each [] h = refl
four_each (b ∷ l) h = omega (arith, length-append b (list_bytes l), h b (Memᴰ.head refl), four_each l (λ c m. h c (Memᴰ.tail m)))

pub list_bytes_lem : (g : List Production) (l : List Bytes) → IsFaultList g l → length (list_bytes l) ≡ 4 * length l
list_bytes_lem g l h = four_each l (λ b m. ⊎_elim (λ f. ap length f.are_bytes) (λ f. ap length f.are_bytes) ((h.holds b).1 m))

pub bytes_append : (l l' : List Bytes) → list_bytes (l ++ l') ≡ list_bytes l ++ list_bytes l'
bytes_append [] l' = refl
bytes_append (b ∷ l) l' = ap (λ (z : Bytes). b ++ z) (bytes_append l l') ∙ sym (append_assoc b (list_bytes l) (list_bytes l'))
