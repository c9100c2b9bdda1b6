-- The row by the tree leads to its place, and none that does is shorter: once over the tree for whole words, and once for words up to an atom.
-- Assumes nothing.
use mathlib.Core.Path.{◌≡◌, refl, sym, ◌∙◌, ap, subst}
use mathlib.Core.Bool.{Bool, true, false, cond}
use mathlib.Core.List.{List, [], ◌∷◌, ◌++◌, append_assoc, append-nil}
use mathlib.Core.Logic.{inl, inr, ⊎_elim}
use Prim.Native.Nat.{ℕ, zero, suc, ◌+◌, ◌≤◌, ◌<◌}
use native.Mathlib.Omega.{arith}
use lib.Dec.{ltb}
use lib.ListN.{length, length-append}
use borrow.Author.Tests.{ltb-true, ltb-false, lt-ltb, le-ltb}
use Rattle.expressions.specs.Expr.{Exp, atom, cat, alt, star, empty, nodes, atoms, nothing, tree}
use Rattle.expressions.specs.Words.{opening, closing, Sym, br, at, Lang, only, both, left, right, Star, stop, more, within, Word}
use Rattle.expressions.proofs.Tree.{some_word}
use Rattle.shortest.specs.Leads.{numbers_in, LeadsTo}
use Rattle.shortest.specs.Rows.{shorter, shortest_word, shortest_in}
use Rattle.shortest.specs.Promises.{ShortestLeads}
use Rattle.shortest.proofs.Cut.{Cut, numbers_append, cut_first, cut_second, cut_parts, cut_word, cut_there}

abbrev Text : Type 0
Text = List Sym

-- a word's own brackets are no atoms
around : (i : ℕ) (m : Text) → numbers_in (br (opening i) ∷ (m ++ br (closing i) ∷ [])) ≡ numbers_in m
around i m = numbers_append m (br (closing i) ∷ []) ∙ append-nil (numbers_in m)

-- what holds of a row whichever of two it is
module _ (p b : ℕ) (x y : List ℕ) where
  in_either : (P : List ℕ → Type 0) → (p < b → P x) → (b ≤ p → P y) → P (cond (ltb p b) x y)
  in_either P f g = go (ltb p b) refl
    where
      go : (t : Bool) → ltb p b ≡ t → P (cond t x y)
      go true h = f (ltb-true p b h)
      go false h = g (ltb-false p b h)

  pub if_first : p < b → cond (ltb p b) x y ≡ x
  if_first h = ap (λ (t : Bool). cond t x y) (lt-ltb p b h)

  pub if_second : b ≤ p → cond (ltb p b) x y ≡ y
  if_second h = ap (λ (t : Bool). cond t x y) (le-ltb p b h)

module _ (a b : List ℕ) where
  shorter_one : (P : List ℕ → Type 0) → P a → P b → P (shorter a b)
  shorter_one P x y = in_either (length b) (length a) b a P (λ _. y) (λ _. x)

  shorter_first : length (shorter a b) ≤ length a
  shorter_first = in_either (length b) (length a) b a (λ (z : List ℕ). length z ≤ length a) (λ h. omega arith) (λ h. omega arith)

  shorter_second : length (shorter a b) ≤ length b
  shorter_second = in_either (length b) (length a) b a (λ (z : List ℕ). length z ≤ length b) (λ h. omega arith) (λ h. omega arith)

-- no word is shorter
word_least : (e : Exp) (i j : ℕ) (w : Text) → Word e i j w → length (shortest_word e j) ≤ length (numbers_in w)
word_least (atom k) i j w (within m only) = omega arith
word_least (cat l r) i j w (within m (both u v a b)) =
    rw around
    (omega (
      arith,
      word_least l (suc i) j u a,
      word_least r (suc i + nodes l) (j + atoms l) v b,
      ap length (numbers_append u v),
      length-append (numbers_in u) (numbers_in v),
      length-append (shortest_word l j) (shortest_word r (j + atoms l)),
    ))
word_least (alt l r) i j w (within m (left a)) =
    rw around (omega (arith, word_least l (suc i) j m a, shorter_first (shortest_word l j) (shortest_word r (j + atoms l))))
word_least (alt l r) i j w (within m (right b)) =
    rw around (omega (arith, word_least r (suc i + nodes l) (j + atoms l) m b, shorter_second (shortest_word l j) (shortest_word r (j + atoms l))))
word_least (star e) i j w (within m s) = omega arith
word_least empty i j w (within m only) = omega arith

-- and it is one
abbrev HasWord : Exp → ℕ → ℕ → List ℕ → Type 0
HasWord e i j row = (w : Text) × Word e i j w × (row ≡ numbers_in w)

word_there : (e : Exp) (i j : ℕ) → HasWord e i j (shortest_word e j)
word_there (atom k) i j = (_, within _ only, refl)
word_there (cat l r) i j =
    let x = word_there l (suc i) j in
    let y = word_there r (suc i + nodes l) (j + atoms l) in
    let e : numbers_in (x.0 ++ y.0) ≡ numbers_in x.0 ++ numbers_in y.0 = numbers_append x.0 y.0 in
    (_, within _ (both x.0 y.0 x.1 y.1), (cc (x.2, y.2, e, around i (x.0 ++ y.0))))
word_there (alt l r) i j =
    shorter_one (shortest_word l j) (shortest_word r (j + atoms l)) (HasWord (alt l r) i j)
    (let x = word_there l (suc i) j in (_, within x.0 (left x.1), x.2 ∙ sym (around i x.0)))
    (let y = word_there r (suc i + nodes l) (j + atoms l) in (_, within y.0 (right y.1), y.2 ∙ sym (around i y.0)))
word_there (star e) i j = (_, within _ stop, refl)
word_there empty i j = (_, within _ only, refl)

-- one is cut there
abbrev HasCut : Exp → ℕ → ℕ → ℕ → List ℕ → Type 0
HasCut e i j p row = (w : Text) × Word e i j w × Cut p w row

cut_within : (i p : ℕ) (m : Text) (row : List ℕ) → Cut p m row → Cut p (br (opening i) ∷ (m ++ br (closing i) ∷ [])) row
cut_within i p m row c = cut_first p m (br (closing i) ∷ []) row c

within_cut : (i p : ℕ) (m : Text) (row : List ℕ) → Cut p (br (opening i) ∷ (m ++ br (closing i) ∷ [])) row → Cut p m row
within_cut i p m row c = ⊎_elim (λ h. h) (λ h. absurd h.2) (cut_parts p m (br (closing i) ∷ []) row c)

has_cut : (e : Exp) (i j p : ℕ) → j ≤ p → p < j + atoms e → HasCut e i j p (shortest_in e j p)
has_cut (atom k) i j p low high = (_, within _ only, inl ((omega arith), refl))
has_cut (cat l r) i j p low high =
    in_either p (j + atoms l) (shortest_in l j p) (shortest_word l j ++ shortest_in r (j + atoms l) p) (HasCut (cat l r) i j p)
    (λ h. let x = has_cut l (suc i) j p low h in
    let y = some_word r (suc i + nodes l) (j + atoms l) in
    (_, within _ (both x.0 y.0 x.1 y.1), cut_within i p (x.0 ++ y.0) _ (cut_first p x.0 y.0 _ x.2)))
    (λ h. let x = word_there l (suc i) j in
    let y = has_cut r (suc i + nodes l) (j + atoms l) p h (omega arith) in (
      _,
      within _ (both x.0 y.0 x.1 y.1),
      cut_within i p (x.0 ++ y.0) _
          (subst (λ (a : List ℕ). Cut p (x.0 ++ y.0) (a ++ shortest_in r (j + atoms l) p)) (sym x.2) (cut_second p x.0 y.0 _ y.2)),
    ))
has_cut (alt l r) i j p low high =
    in_either p (j + atoms l) (shortest_in l j p) (shortest_in r (j + atoms l) p) (HasCut (alt l r) i j p)
    (λ h. let x = has_cut l (suc i) j p low h in (_, within x.0 (left x.1), cut_within i p x.0 _ x.2))
    (λ h. let y = has_cut r (suc i + nodes l) (j + atoms l) p h (omega arith) in (_, within y.0 (right y.1), cut_within i p y.0 _ y.2))
has_cut (star e) i j p low high =
    let x = has_cut e (suc i) j p low high in
    (_, within _ (more x.0 [] x.1 stop), cut_within i p (x.0 ++ []) _ (cut_first p x.0 [] _ x.2))
has_cut empty i j p low high = absurd (omega arith)

-- where one is cut, the atom is one of the expression's, and the row is no shorter
record Bounds (e : Exp) (j p n : ℕ) : Type 0 where
  low : j ≤ p
  high : p < j + atoms e
  least : length (shortest_in e j p) ≤ n

star_bounds : (A : Lang) (p n : ℕ) (P : Type 0) → ((w : Text) (row : List ℕ) → A w → Cut p w row → length row ≤ n → P) →
    (w : Text) (row : List ℕ) → Star A w → Cut p w row → length row ≤ n → P
star_bounds A p n P f w row stop c h = absurd c
star_bounds A p n P f w row (more u v a r) c h =
    ⊎_elim (λ z. f u row a z h)
    (λ z. star_bounds A p n P f v z.0 r z.2 (omega (arith, ap length z.1, length-append (numbers_in u) z.0))) (cut_parts p u v row c)

bounds : (e : Exp) (i j p : ℕ) (w : Text) (row : List ℕ) → Word e i j w → Cut p w row → Bounds e j p (length row)
bounds (atom k) i j p w row (within m only) c = go (within_cut i p (at j k ∷ []) row c)
  where
    go : Cut p (at j k ∷ []) row → Bounds (atom k) j p (length row)
    go (inl h) = record { low = omega (arith, h.0); high = omega (arith, h.0); least = omega (arith, ap length h.1) }
    go (inr h) = absurd h.2
bounds (cat l r) i j p w row (within m (both u v a b)) c =
    ⊎_elim
    (λ h. let x = bounds l (suc i) j p u row a h in
    record { low = x.low; high = omega (arith, x.high); least = rw (if_first p (j + atoms l) _ _ x.high) x.least })
    (λ h. let y = bounds r (suc i + nodes l) (j + atoms l) p v h.0 b h.2 in
    record {
      low = omega (arith, y.low);
      high = omega (arith, y.high);
      least = rw (if_second p (j + atoms l) _ _ y.low)
          (omega (arith, y.least, word_least l (suc i) j u a, ap length h.1, length-append (numbers_in u) h.0, length-append (shortest_word l j) (shortest_in r (j + atoms l) p)));
    })
    (cut_parts p u v row (within_cut i p (u ++ v) row c))
bounds (alt l r) i j p w row (within m (left a)) c =
    let x = bounds l (suc i) j p m row a (within_cut i p m row c) in
    record { low = x.low; high = omega (arith, x.high); least = rw (if_first p (j + atoms l) _ _ x.high) x.least }
bounds (alt l r) i j p w row (within m (right b)) c =
    let y = bounds r (suc i + nodes l) (j + atoms l) p m row b (within_cut i p m row c) in
    record { low = omega (arith, y.low); high = omega (arith, y.high); least = rw (if_second p (j + atoms l) _ _ y.low) y.least }
bounds (star e) i j p w row (within m s) c =
    star_bounds (Word e (suc i) j) p (length row) (Bounds (star e) j p (length row))
    (λ u t a z h. let x = bounds e (suc i) j p u t a z in record { low = x.low; high = x.high; least = omega (arith, x.least) })
    m row s (within_cut i p m row c) (omega arith)
bounds empty i j p w row (within m only) c = absurd (within_cut i p [] row c)

-- a row that leads to an atom is cut there
leads_cut : (e : Exp) (p : ℕ) (row : List ℕ) → LeadsTo (tree e) (suc p) row → HasCut e 1 1 (suc p) row
leads_cut e p row h =
    let u = h.up_to in (
      h.before ++ h.behind,
      h.word,
      subst (λ (z : List ℕ). Cut (suc p) (h.before ++ h.behind) z) (sym h.row_is)
          (subst (λ (z : Text). Cut (suc p) (z ++ h.behind) (numbers_in z)) (sym u.2) (cut_there (suc p) u.0 u.1 h.behind)),
    )

cut_leads : (e : Exp) (p : ℕ) (row : List ℕ) → HasCut e 1 1 (suc p) row → LeadsTo (tree e) (suc p) row
cut_leads e p row h =
    let t = cut_word (suc p) h.0 row h.2 in
    record {
      before = t.0 ++ at (suc p) t.1 ∷ [];
      behind = t.2;
      up_to = (t.0, t.1, refl);
      word = subst (Word e 1 1) (t.3 ∙ sym (append_assoc t.0 (at (suc p) t.1 ∷ []) t.2)) h.1;
      row_is = t.4;
    }

pub shortest_leads : ShortestLeads
shortest_leads nothing zero h = record {
  leads = record { before = []; behind = []; up_to = refl; word = only; row_is = refl };
  least = λ other x. omega arith;
}
shortest_leads nothing (suc p) h = absurd (omega arith)
shortest_leads (tree e) zero h =
    let w = some_word e 1 1 in
    record {
      leads = record { before = []; behind = w.0; up_to = refl; word = w.1; row_is = refl };
      least = λ other x. omega arith;
    }
shortest_leads (tree e) (suc p) h = record {
  leads = cut_leads e p _ (has_cut e 1 1 (suc p) (omega arith) (omega arith));
  least = λ other x. let c = leads_cut e p other x in (bounds e 1 1 (suc p) c.0 other c.1 c.2).least;
}
