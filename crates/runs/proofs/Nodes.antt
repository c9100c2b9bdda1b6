-- A bracket string takes the open nodes of a place to those of the next: it closes only the innermost, and at the end none is left. A word's brackets
-- nest (`Bal`), and each atom is met with the nodes around it open.
-- Assumes nothing.
use mathlib.Core.Path.{◌≡◌, refl, sym, ◌∙◌, ap, subst}
use mathlib.Core.Bool.{Bool, true, false}
use mathlib.Core.List.{List, [], ◌∷◌, ◌++◌, append_assoc, append-nil}
use mathlib.Core.Logic.{◌⊎◌, inl, inr, ⊎_elim, ◌↔◌}
use mathlib.Core.Option.{Option, none, some, none-ne-some as none_some}
use Prim.Native.Nat.{ℕ, zero, suc, ◌+◌, ◌≤◌, ◌<◌}
use native.Mathlib.Omega.{arith}
use lib.Dec.{ltb, eqb}
use lib.ListN.{length, length-append}
use borrow.Author.Tests.{eq-eqb, eqb-true, le-ltb, lt-ltb, ltb-false, ltb-true}
use Rattle.expressions.specs.Expr.{Atom, Exp, atom, cat, alt, star, empty, nodes, atoms, depth, Content, nothing, tree, places}
use Rattle.expressions.specs.Words.{Bracket, opening, closing, Sym, br, at, ◌▷◌, Lang, Only, only, both, left, right, Star, stop, more, within, Word}
use Rattle.runs.specs.Options.{when_true}
use Rattle.runs.specs.Nodes.{one_of_lem, inside_node, nodes_at, open_nodes, deepest, only_if, through_nodes}
use Rattle.expressions.proofs.Tree.{reach}
use Rattle.expressions.proofs.Rule.{Rest}

abbrev Text : Type 0
Text = List Sym

abbrev Stack : Type 0
Stack = List ℕ

abbrev Where : Type 1
Where = ℕ → Stack → Type 0

-- from one stack of open nodes to another; A says which stack an atom is met with
abbrev Bal : ℕ → Where → Stack → Text → Stack → Type 0
Bal D A ns [] ms = ns ≡ ms
Bal D A ns (br (opening b) ∷ w) ms = (length ns < D) × Bal D A (b ∷ ns) w ms
Bal D A ns (br (closing b) ∷ w) ms = (rest : Stack) × (ns ≡ b ∷ rest) × Bal D A rest w ms
Bal D A ns (at j k ∷ w) ms = A j ns × Bal D A ns w ms

bal_append : (D : ℕ) (A : Where) (ns : Stack) (u : Text) (ms : Stack) (v : Text) (ls : Stack) → Bal D A ns u ms → Bal D A ms v ls → Bal D A ns (u ++ v) ls
bal_append D A ns [] ms v ls h h' = subst (λ (z : Stack). Bal D A z v ls) (sym h) h'
bal_append D A ns (br (opening b) ∷ u) ms v ls h h' = (h.0, bal_append D A (b ∷ ns) u ms v ls h.1 h')
bal_append D A ns (br (closing b) ∷ u) ms v ls h h' = (h.0, h.1, bal_append D A h.0 u ms v ls h.2 h')
bal_append D A ns (at j k ∷ u) ms v ls h h' = (h.0, bal_append D A ns u ms v ls h.1 h')

bal_weak : (D : ℕ) (A B : Where) → ((j : ℕ) (ns : Stack) → A j ns → B j ns) → (ns : Stack) (w : Text) (ms : Stack) → Bal D A ns w ms → Bal D B ns w ms
bal_weak D A B f ns [] ms h = h
bal_weak D A B f ns (br (opening b) ∷ w) ms h = (h.0, bal_weak D A B f (b ∷ ns) w ms h.1)
bal_weak D A B f ns (br (closing b) ∷ w) ms h = (h.0, h.1, bal_weak D A B f h.0 w ms h.2)
bal_weak D A B f ns (at j k ∷ w) ms h = (f j ns h.0, bal_weak D A B f ns w ms h.1)

bal_within : (D : ℕ) (A : Where) (i : ℕ) (ns : Stack) (m : Text) → length ns < D → Bal D A (i ∷ ns) m (i ∷ ns) → Bal D A ns (br (opening i) ∷ (m ++ br (closing i) ∷ [])) ns
bal_within D A i ns m l h = (l, bal_append D A (i ∷ ns) m (i ∷ ns) (br (closing i) ∷ []) ns h (ns, refl, refl))

bal_star : (D : ℕ) (A : Where) (L : Lang) (ns : Stack) → ((w : Text) → L w → Bal D A ns w ns) → (w : Text) → Star L w → Bal D A ns w ns
bal_star D A L ns f w stop = refl
bal_star D A L ns f w (more u v a s) = bal_append D A ns u ns v ns (f u a) (bal_star D A L ns f v s)

-- an atom of the expression, and the nodes around it
abbrev Around : Exp → ℕ → ℕ → Stack → Where
Around e i j base j' ns = (j ≤ j') × (j' < j + atoms e) × (inner : Stack) × (nodes_at e i j j' ≡ some inner) × (ns ≡ inner ++ base)

-- the nodes around an atom of a part of a pair (a concatenation or a union), with the pair's own
module _ (l r : Exp) (i j : ℕ) (base : Stack) (j' : ℕ) (ns : Stack) where
  of_first : Around l (suc i) j (i ∷ base) j' ns → Around (cat l r) i j base j' ns
  of_first (x, y, inner, e, h) = (
    x,
    omega arith,
    inner ++ i ∷ [],
    ap (λ (b : Bool). inside_node i (one_of_lem b (nodes_at l (suc i) j j') (nodes_at r (suc i + nodes l) (j + atoms l) j'))) (lt-ltb j' (j + atoms l) y)
        ∙ ap (inside_node i) e,
    h ∙ sym (append_assoc inner (i ∷ []) base),
  )

  of_second : Around r (suc i + nodes l) (j + atoms l) (i ∷ base) j' ns → Around (cat l r) i j base j' ns
  of_second (x, y, inner, e, h) = (
    (omega arith),
    (omega arith),
    inner ++ i ∷ [],
    ap (λ (b : Bool). inside_node i (one_of_lem b (nodes_at l (suc i) j j') (nodes_at r (suc i + nodes l) (j + atoms l) j'))) (le-ltb j' (j + atoms l) x)
        ∙ ap (inside_node i) e,
    h ∙ sym (append_assoc inner (i ∷ []) base),
  )

of_star : (e : Exp) (i j : ℕ) (base : Stack) (j' : ℕ) (ns : Stack) → Around e (suc i) j (i ∷ base) j' ns → Around (star e) i j base j' ns
of_star e i j base j' ns (x, y, inner, h, h') = (x, y, inner ++ i ∷ [], ap (inside_node i) h, h' ∙ sym (append_assoc inner (i ∷ []) base))

own_node : (i j : ℕ) → when_true (eqb j j) (i ∷ []) ≡ some (i ∷ [])
own_node i j = ap (λ (b : Bool). when_true b (i ∷ [])) (eq-eqb j j refl)

word_bal : (D : ℕ) (e : Exp) (i j : ℕ) (base : Stack) (w : Text) → length base + depth e ≤ D → Word e i j w → Bal D (Around e i j base) base w base
word_bal D (atom k) i j base w d (within m only) = (omega arith, ((omega arith, omega arith, i ∷ [], own_node i j, refl), (base, refl, refl)))
word_bal D (cat l r) i j base w d (within m (both u v a b)) =
    let A : Where = Around (cat l r) i j base in
    bal_within D A i base (u ++ v) (omega arith) (bal_append D A (i ∷ base) u (i ∷ base) v (i ∷ base)
    (bal_weak D (Around l (suc i) j (i ∷ base)) A (of_first l r i j base) (i ∷ base) u (i ∷ base) (word_bal D l _ _ (i ∷ base) u (omega arith) a))
    (bal_weak D (Around r (suc i + nodes l) (j + atoms l) (i ∷ base)) A (of_second l r i j base) (i ∷ base) v (i ∷ base)
    (word_bal D r _ _ (i ∷ base) v (omega arith) b)))
word_bal D (alt l r) i j base w d (within m (left a)) =
    let A : Where = Around (alt l r) i j base in
    bal_within D A i base m (omega arith)
    (bal_weak D (Around l (suc i) j (i ∷ base)) A (of_first l r i j base) (i ∷ base) m (i ∷ base) (word_bal D l _ _ (i ∷ base) m (omega arith) a))
word_bal D (alt l r) i j base w d (within m (right b)) =
    let A : Where = Around (alt l r) i j base in
    bal_within D A i base m (omega arith)
    (bal_weak D (Around r (suc i + nodes l) (j + atoms l) (i ∷ base)) A (of_second l r i j base) (i ∷ base) m (i ∷ base)
    (word_bal D r _ _ (i ∷ base) m (omega arith) b))
word_bal D (star e) i j base w d (within m s) =
    let A : Where = Around (star e) i j base in
    bal_within D A i base m (omega arith) (bal_star D A (Word e (suc i) j) (i ∷ base)
    (λ w a. bal_weak D (Around e (suc i) j (i ∷ base)) A (of_star e i j base) (i ∷ base) w (i ∷ base) (word_bal D e (suc i) j (i ∷ base) w (omega arith) a)) m s)
word_bal D empty i j base w d (within m only) = (omega arith, (base, refl, refl))

bal_tail : (D : ℕ) (A : Where) (ns : Stack) (u : Text) (j : ℕ) (k : Atom) (s : Text) (ms : Stack) → Bal D A ns (u ++ at j k ∷ s) ms → (ls : Stack) × A j ls × Bal D A ls s ms
bal_tail D A ns [] j k s ms h = (ns, h.0, h.1)
bal_tail D A ns (br (opening b) ∷ u) j k s ms h = bal_tail D A (b ∷ ns) u j k s ms h.1
bal_tail D A ns (br (closing b) ∷ u) j k s ms h = bal_tail D A h.0 u j k s ms h.2
bal_tail D A ns (at j' k' ∷ u) j k s ms h = bal_tail D A ns u j k s ms h.1

abbrev RestAround : Content → Where
RestAround nothing j ns = ⊥
RestAround (tree e) j ns = (1 ≤ j) × (nodes_at e 1 1 j ≡ some ns)

to_rest : (e : Exp) (j : ℕ) (ns : Stack) → Around e 1 1 [] j ns → RestAround (tree e) j ns
to_rest e j ns (x, y, inner, h, h') = (x, h ∙ ap some (sym (append-nil inner) ∙ sym h'))

only_bal : (D : ℕ) (A : Where) (w : Text) → Only [] w → Bal D A [] w []
only_bal D A w only = refl

rest_bal : (D : ℕ) (e : Content) (p : ℕ) (w : Text) → deepest e ≤ D → Rest e p w → (ns : Stack) × (open_nodes e p ≡ some ns) × Bal D (RestAround e) ns w []
rest_bal D nothing zero w d h = ([], refl, only_bal D (RestAround nothing) w h)
rest_bal D nothing (suc p) w d h = absurd h
rest_bal D (tree e) zero w d₀ h =
    let d : 0 + depth e ≤ D = omega arith in
    ([], refl, bal_weak D (Around e 1 1 []) (RestAround (tree e)) (to_rest e) [] w [] (word_bal D e 1 1 [] w d h))
rest_bal D (tree e) (suc p) w d₀ h =
    let d : 0 + depth e ≤ D = omega arith in
    let t = reach e 1 1 (suc p) w h in
    let b = bal_tail D (Around e 1 1 []) [] t.0 (suc p) t.1 w [] (word_bal D e 1 1 [] (t.0 ++ at (suc p) t.1 ∷ w) d (t.2 w h)) in
    (b.0, (to_rest e (suc p) b.0 b.1).1, bal_weak D (Around e 1 1 []) (RestAround (tree e)) (to_rest e) b.0 w [] b.2)

same_node : (b m : ℕ) (rest ns : Stack) (o : Option Stack) → m ∷ ns ≡ b ∷ rest → only_if (eqb b m) o ≡ o
same_node b m rest ns o e =
    let q : m ≡ b = cc in
    subst (λ (z : ℕ). only_if (eqb b z) o ≡ o) (sym q) (ap (λ (t : Bool). only_if t o) (eq-eqb b b refl))

room_left : (D : ℕ) (ns : Stack) (o : Option Stack) → length ns < D → only_if (ltb (length ns) D) o ≡ o
room_left D ns o l = ap (λ (t : Bool). only_if t o) (lt-ltb (length ns) D l)

to_end : (D : ℕ) (A : Where) (α : List Bracket) (ns ms : Stack) → Bal D A ns (α ▷ []) ms → through_nodes D α ns ≡ some ms
to_end D A [] ns ms h = ap some h
to_end D A (opening b ∷ α) ns ms h = room_left D ns (through_nodes D α (b ∷ ns)) h.0 ∙ to_end D A α (b ∷ ns) ms h.1
to_end D A (closing b ∷ α) [] ms h = let e = h.1 in absurd (let z : ◌≡◌ {A = ℕ} 0 1 = cc in omega arith)
to_end D A (closing b ∷ α) (m ∷ ns) ms h =
    let e : m ∷ ns ≡ b ∷ h.0 = h.1 in
    let q : h.0 ≡ ns = cc in
    same_node b m h.0 ns (through_nodes D α ns) e ∙ to_end D A α ns ms (subst (λ (z : Stack). Bal D A z (α ▷ []) ms) q h.2)

to_atom : (D : ℕ) (A : Where) (α : List Bracket) (ns : Stack) (j : ℕ) (k : Atom) (s : Text) (ms : Stack) → Bal D A ns (α ▷ at j k ∷ s) ms →
    (ls : Stack) × A j ls × (through_nodes D α ns ≡ some ls)
to_atom D A [] ns j k s ms h = (ns, h.0, refl)
to_atom D A (opening b ∷ α) ns j k s ms h =
    let t = to_atom D A α (b ∷ ns) j k s ms h.1 in
    (t.0, t.1, room_left D ns (through_nodes D α (b ∷ ns)) h.0 ∙ t.2)
to_atom D A (closing b ∷ α) [] j k s ms h = let e = h.1 in absurd (let z : ◌≡◌ {A = ℕ} 0 1 = cc in omega arith)
to_atom D A (closing b ∷ α) (m ∷ ns) j k s ms h =
    let e : m ∷ ns ≡ b ∷ h.0 = h.1 in
    let q : h.0 ≡ ns = cc in
    let t = to_atom D A α ns j k s ms (subst (λ (z : Stack). Bal D A z (α ▷ at j k ∷ s) ms) q h.2) in
    (t.0, t.1, same_node b m h.0 ns (through_nodes D α ns) e ∙ t.2)

around_open : (e : Content) (j : ℕ) (ls : Stack) → RestAround e j ls → open_nodes e j ≡ some ls
around_open nothing j ls h = absurd h
around_open (tree e) zero ls h = let x : 1 ≤ 0 = h.0 in absurd (omega arith)
around_open (tree e) (suc j) ls h = h.1

-- the machine's bracket strings take the open nodes of a place to those of the next place, and to none at the end; on the way there are never more
-- of them than the expression is deep
pub atom_nodes : (e : Content) (p : ℕ) (α : List Bracket) (j : ℕ) (k : Atom) (s : Text) → Rest e p (α ▷ at j k ∷ s) → (ns : Stack) → open_nodes e p ≡ some ns →
    (ms : Stack) × (open_nodes e j ≡ some ms) × (through_nodes (deepest e) α ns ≡ some ms)
atom_nodes e p α j k s h ns o =
    let b = rest_bal (deepest e) e p _ (omega arith) h in
    let t = to_atom (deepest e) (RestAround e) α b.0 j k s [] b.2 in
    let q : some b.0 ≡ some ns = sym b.1 ∙ o in
    let i : b.0 ≡ ns = cc in
    (t.0, around_open e j t.0 t.1, ap (through_nodes (deepest e) α) (sym i) ∙ t.2)

pub end_nodes : (e : Content) (p : ℕ) (α : List Bracket) → Rest e p (α ▷ []) → (ns : Stack) → open_nodes e p ≡ some ns → through_nodes (deepest e) α ns ≡ some []
end_nodes e p α h ns o =
    let b = rest_bal (deepest e) e p _ (omega arith) h in
    let q : some b.0 ≡ some ns = sym b.1 ∙ o in
    let i : b.0 ≡ ns = cc in
    ap (through_nodes (deepest e) α) (sym i) ∙ to_end (deepest e) (RestAround e) α b.0 [] b.2

-- where more may be open a string does the same
only_inv : (b : Bool) (o : Option Stack) (ms : Stack) → only_if b o ≡ some ms → (b ≡ true) × (o ≡ some ms)
only_inv true o ms e = (refl, e)
only_inv false o ms e = absurd (none_some ms e)

pub through_more : (D E : ℕ) → D ≤ E → (α : List Bracket) (ns ms : Stack) → through_nodes D α ns ≡ some ms → through_nodes E α ns ≡ some ms
through_more D E d [] ns ms e = e
through_more D E d (opening b ∷ α) ns ms e =
    let v = only_inv (ltb (length ns) D) (through_nodes D α (b ∷ ns)) ms e in
    let l : length ns < D = ltb-true (length ns) D v.0 in
    room_left E ns (through_nodes E α (b ∷ ns)) (omega arith) ∙ through_more D E d α (b ∷ ns) ms v.1
through_more D E d (closing b ∷ α) [] ms e = absurd (none_some ms e)
through_more D E d (closing b ∷ α) (m ∷ ns) ms e =
    let v = only_inv (eqb b m) (through_nodes D α ns) ms e in
    ap (λ (t : Bool). only_if t (through_nodes E α ns)) v.0 ∙ through_more D E d α ns ms v.1

-- a node around others
inside_inv : (i : ℕ) (o : Option Stack) (ns : Stack) → inside_node i o ≡ some ns → (inner : Stack) × (o ≡ some inner) × (length ns ≡ suc (length inner))
inside_inv i none ns e = absurd (none_some ns e)
inside_inv i (some inner) ns e =
    let h : inner ++ i ∷ [] ≡ ns = cc in
    let l : length (inner ++ i ∷ []) ≡ length ns = ap length h in
    let k = length-append inner (i ∷ []) in
    (inner, refl, omega arith)

one_inv : (b : Bool) (x y : Option Stack) (ns : Stack) → one_of_lem b x y ≡ some ns → ((b ≡ true) × (x ≡ some ns)) ⊎ ((b ≡ false) × (y ≡ some ns))
one_inv true x y ns e = inl (refl, e)
one_inv false x y ns e = inr (refl, e)

-- the places of an expression are its atoms, and it has at most as many nodes around an atom as it is deep
abbrev Inside : Exp → ℕ → ℕ → Stack → Type 0
Inside e j p ns = (j ≤ p) × (p < j + atoms e) × (length ns ≤ depth e)

pair_inside : (l r : Exp) (i j p : ℕ) (ns : Stack) → ((is : Stack) → nodes_at l (suc i) j p ≡ some is → Inside l j p is) →
    ((is : Stack) → nodes_at r (suc i + nodes l) (j + atoms l) p ≡ some is → Inside r (j + atoms l) p is) →
    inside_node i (one_of_lem (ltb p (j + atoms l)) (nodes_at l (suc i) j p) (nodes_at r (suc i + nodes l) (j + atoms l) p)) ≡ some ns → Inside (cat l r) j p ns
pair_inside l r i j p ns L R e =
    let v = inside_inv i (one_of_lem (ltb p (j + atoms l)) (nodes_at l (suc i) j p) (nodes_at r (suc i + nodes l) (j + atoms l) p)) ns e in
    let k : length ns ≡ suc (length v.0) = v.2 in
    ⊎_elim (λ x. let h = L v.0 x.1 in (omega arith, omega arith, omega arith)) (λ x. let h = R v.0 x.1 in (omega arith, omega arith, omega arith))
    (one_inv (ltb p (j + atoms l)) (nodes_at l (suc i) j p) (nodes_at r (suc i + nodes l) (j + atoms l) p) v.0 v.1)

nodes_inside : (e : Exp) (i j p : ℕ) (ns : Stack) → nodes_at e i j p ≡ some ns → Inside e j p ns
nodes_inside (atom k) i j p ns e = by (eqb p j) refl e
  where
    by : (b : Bool) → eqb p j ≡ b → when_true b (i ∷ []) ≡ some ns → Inside (atom k) j p ns
    by true q e =
        let h : p ≡ j = eqb-true p j q in
        let l : i ∷ [] ≡ ns = cc in
        let m : length (i ∷ []) ≡ length ns = ap length l in
        (omega arith, omega arith, omega arith)
    by false q e = absurd (none_some ns e)
nodes_inside (cat l r) i j p ns e = pair_inside l r i j p ns (λ is h. nodes_inside l (suc i) j p is h) (λ is h. nodes_inside r (suc i + nodes l) (j + atoms l) p is h) e
nodes_inside (alt l r) i j p ns e = pair_inside l r i j p ns (λ is h. nodes_inside l (suc i) j p is h) (λ is h. nodes_inside r (suc i + nodes l) (j + atoms l) p is h) e
nodes_inside (star e) i j p ns h =
    let v = inside_inv i (nodes_at e (suc i) j p) ns h in
    let k : length ns ≡ suc (length v.0) = v.2 in
    let x = nodes_inside e (suc i) j p v.0 v.1 in
    (omega arith, omega arith, omega arith)
nodes_inside empty i j p ns e = absurd (none_some ns e)

pair_there : (l r : Exp) (i j p : ℕ) → (p < j + atoms l → (ns : Stack) × (nodes_at l (suc i) j p ≡ some ns)) →
    (j + atoms l ≤ p → (ns : Stack) × (nodes_at r (suc i + nodes l) (j + atoms l) p ≡ some ns)) →
    (ns : Stack) × (inside_node i (one_of_lem (ltb p (j + atoms l)) (nodes_at l (suc i) j p) (nodes_at r (suc i + nodes l) (j + atoms l) p)) ≡ some ns)
pair_there l r i j p L R = by (ltb p (j + atoms l)) refl
  where
    by : (b : Bool) → ltb p (j + atoms l) ≡ b → (ns : Stack) × (inside_node i (one_of_lem b (nodes_at l (suc i) j p) (nodes_at r (suc i + nodes l) (j + atoms l) p)) ≡ some ns)
    by true q = let x = L (ltb-true p (j + atoms l) q) in (x.0 ++ i ∷ [], ap (inside_node i) x.1)
    by false q = let h = ltb-false p (j + atoms l) q in let x = R (omega arith) in (x.0 ++ i ∷ [], ap (inside_node i) x.1)

nodes_there : (e : Exp) (i j p : ℕ) → j ≤ p → p < j + atoms e → (ns : Stack) × (nodes_at e i j p ≡ some ns)
nodes_there (atom k) i j p a b = let h : p ≡ j = omega arith in (i ∷ [], ap (λ (q : ℕ). when_true (eqb q j) (i ∷ [])) h ∙ own_node i j)
nodes_there (cat l r) i j p a b = pair_there l r i j p (λ h. nodes_there l (suc i) j p a h) (λ h. nodes_there r (suc i + nodes l) (j + atoms l) p h (omega arith))
nodes_there (alt l r) i j p a b = pair_there l r i j p (λ h. nodes_there l (suc i) j p a h) (λ h. nodes_there r (suc i + nodes l) (j + atoms l) p h (omega arith))
nodes_there (star e) i j p a b = let x = nodes_there e (suc i) j p a b in (x.0 ++ i ∷ [], ap (inside_node i) x.1)
nodes_there empty i j p a b = absurd (omega arith)

-- a place has open nodes exactly where the expression has it
pub open_iff : (e : Content) (p : ℕ) → ((ns : Stack) × (open_nodes e p ≡ some ns)) ↔ (p < places e)
open_iff e zero = ((λ h. omega arith), (λ h. ([], refl)))
open_iff nothing (suc p) = ((λ h. absurd (none_some h.0 h.1)), (λ h. absurd (omega arith)))
open_iff (tree e) (suc p) =
    ((λ h. let x = nodes_inside e 1 1 (suc p) h.0 h.1 in omega arith), (λ h. nodes_there e 1 1 (suc p) (omega arith) (omega arith)))

-- at most as many as the expression is deep: 12
pub open_few : (e : Content) (p : ℕ) (ns : Stack) → open_nodes e p ≡ some ns → length ns ≤ deepest e
open_few e zero ns h = let q : [] ≡ ns = cc in let l : 0 ≡ length ns = ap length q in omega arith
open_few nothing (suc p) ns h = absurd (none_some ns h)
open_few (tree e) (suc p) ns h = (nodes_inside e 1 1 (suc p) ns h).2
