-- From event to event each open element is of the nonterminal that the place of the one around it has, the root of the start: a
-- bracket string leads to the atom that its word says, and an element is opened only of that atom's nonterminal.
-- Assumes nothing.
use mathlib.Core.Path.{◌≡◌, refl, sym, ap, subst, ◌∙◌}
use mathlib.Core.Bool.{Bool, cond}
use mathlib.Core.List.{List, [], ◌∷◌, ◌++◌}
use mathlib.Core.Option.{Option, none, some}
use Prim.Native.Nat.{ℕ, zero, suc, ◌+◌, ◌≤◌, ◌<◌}
use native.Mathlib.Omega.{arith}
use borrow.Author.Tests.{lt-ltb, le-ltb, eq-eqb}
use Rattle.expressions.specs.Expr.{Atom, nonterminal, Exp, atom, cat, alt, star, empty, nodes, atoms, Content, nothing, tree}
use Rattle.expressions.specs.Words.{Bracket, closing, Sym, br, at, ◌▷◌, Lang, only, both, left, right, Star, stop, more, within, Word}
use Rattle.expressions.specs.Grammar.{Production, tags_of, content_of, tag}
use Rattle.expressions.proofs.Tree.{reach}
use Rattle.expressions.proofs.Rule.{Rest}
use Rattle.runs.specs.Options.{when_true}
use Rattle.runs.specs.Lookup.{find}
use Rattle.runs.specs.Events.{Event, starts, ends, letter}
use Rattle.runs.specs.Acts.{Act, start_tag}
use Rattle.runs.specs.Way.{Way}
use Rattle.runs.specs.Machine.{Open, at_place_lem, at_start, Control, before, inside, after, go, outer, root_by, move}
use Rattle.runs.proofs.Find.{find_sound}
use Rattle.runs.proofs.Ways.{GoesTo, found_atom}
use Rattle.runs.proofs.Moves.{Moves, stay, then, go_inj, refuse_go}
use Rattle.runs.proofs.Sound.{started, was_read, ended}
use Rattle.fit.specs.Fit.{atom_in, atom_at, child_of}
use Rattle.fit.specs.RunFits.{Chain, ChainAt}

abbrev Text : Type 0
Text = List Sym

abbrev Rel : Type 1
Rel = ℕ → Atom → Type 0

-- each atom of a word is as R says of its number
abbrev AtomsAre : Rel → Text → Type 0
AtomsAre R [] = Unit {0}
AtomsAre R (br c ∷ w) = AtomsAre R w
AtomsAre R (at j k ∷ w) = R j k × AtomsAre R w

are_append : (R : Rel) (u v : Text) → AtomsAre R u → AtomsAre R v → AtomsAre R (u ++ v)
are_append R [] v a b = b
are_append R (br c ∷ u) v a b = are_append R u v a b
are_append R (at j k ∷ u) v a b = (a.0, are_append R u v a.1 b)

are_tail : (R : Rel) (u v : Text) → AtomsAre R (u ++ v) → AtomsAre R v
are_tail R [] v a = a
are_tail R (br c ∷ u) v a = are_tail R u v a
are_tail R (at j k ∷ u) v a = are_tail R u v a.1

are_weak : (R S : Rel) → ((j : ℕ) (k : Atom) → R j k → S j k) → (w : Text) → AtomsAre R w → AtomsAre S w
are_weak R S f [] a = tt
are_weak R S f (br c ∷ w) a = are_weak R S f w a
are_weak R S f (at j k ∷ w) a = (f j k a.0, are_weak R S f w a.1)

are_within : (R : Rel) (i : ℕ) (m : Text) → AtomsAre R m → AtomsAre R (m ++ br (closing i) ∷ [])
are_within R i m a = are_append R m (br (closing i) ∷ []) a tt

are_star : (R : Rel) (L : Lang) → ((w : Text) → L w → AtomsAre R w) → (w : Text) → Star L w → AtomsAre R w
are_star R L f w stop = tt
are_star R L f w (more u v a s) = are_append R u v (f u a) (are_star R L f v s)

-- atom j' of an expression whose first atom is j
abbrev In : Exp → ℕ → Rel
In e j j' k = (j ≤ j') × (j' < j + atoms e) × (atom_in e j j' ≡ some k)

module _ (l r : Exp) (j j' : ℕ) (k : Atom) where
  in_first : In l j j' k → In (cat l r) j j' k
  in_first h = (h.0, omega (arith, h.1), ap (λ (b : Bool). cond b (atom_in l j j') (atom_in r (j + atoms l) j')) (lt-ltb j' (j + atoms l) h.1) ∙ h.2)

  in_second : In r (j + atoms l) j' k → In (cat l r) j j' k
  in_second h = (omega (arith, h.0), omega (arith, h.1), ap (λ (b : Bool). cond b (atom_in l j j') (atom_in r (j + atoms l) j')) (le-ltb j' (j + atoms l) h.0) ∙ h.2)

word_atoms : (e : Exp) (i j : ℕ) (w : Text) → Word e i j w → AtomsAre (In e j) w
word_atoms (atom k) i j w (within m only) = ((omega arith, omega arith, ap (λ (b : Bool). when_true b k) (eq-eqb j j refl)), tt)
word_atoms (cat l r) i j w (within m (both u v a b)) =
    are_within (In (cat l r) j) i (u ++ v) (are_append (In (cat l r) j) u v (are_weak (In l j) (In (cat l r) j) (in_first l r j) u (word_atoms l (suc i) j u a))
    (are_weak (In r (j + atoms l)) (In (cat l r) j) (in_second l r j) v (word_atoms r (suc i + nodes l) (j + atoms l) v b)))
word_atoms (alt l r) i j w (within m (left a)) = are_within (In (alt l r) j) i m (are_weak (In l j) (In (alt l r) j) (in_first l r j) m (word_atoms l (suc i) j m a))
word_atoms (alt l r) i j w (within m (right b)) =
    are_within (In (alt l r) j) i m (are_weak (In r (j + atoms l)) (In (alt l r) j) (in_second l r j) m (word_atoms r (suc i + nodes l) (j + atoms l) m b))
word_atoms (star e) i j w (within m s) = are_within (In (star e) j) i m (are_star (In (star e) j) (Word e (suc i) j) (λ u a. word_atoms e (suc i) j u a) m s)
word_atoms empty i j w (within m only) = tt

-- a bracket string from a place leads to the atom that the word says
abbrev IsAtom : Content → Rel
IsAtom e j k = atom_at e j ≡ some k

from_in : (e : Exp) (j : ℕ) (k : Atom) → In e 1 j k → IsAtom (tree e) j k
from_in e zero k h = let x : 1 ≤ 0 = h.0 in absurd (omega arith)
from_in e (suc j) k h = h.2

rest_atoms : (e : Content) (p : ℕ) (w : Text) → Rest e p w → AtomsAre (IsAtom e) w
rest_atoms nothing zero w only = tt
rest_atoms nothing (suc p) w h = absurd h
rest_atoms (tree e) zero w h = are_weak (In e 1) (IsAtom (tree e)) (from_in e) w (word_atoms e 1 1 w h)
rest_atoms (tree e) (suc p) w h =
    let t = reach e 1 1 (suc p) w h in
    let a = are_tail (In e 1) t.0 (at (suc p) t.1 ∷ w) (word_atoms e 1 1 (t.0 ++ at (suc p) t.1 ∷ w) (t.2 w h)) in
    are_weak (In e 1) (IsAtom (tree e)) (from_in e) w a.1

past_string : (R : Rel) (α : List Bracket) (j : ℕ) (k : Atom) (s : Text) → AtomsAre R (α ▷ at j k ∷ s) → R j k
past_string R [] j k s a = a.0
past_string R (c ∷ α) j k s a = past_string R α j k s a

pub led_to : (e : Content) (p : ℕ) (α : List Bracket) (j : ℕ) (k : Atom) (s : Text) → Rest e p (α ▷ at j k ∷ s) → atom_at e j ≡ some k
led_to e p α j k s h = past_string (IsAtom e) α j k s (rest_atoms e p (α ▷ at j k ∷ s) h)

module _ (g : List Production) (n : ℕ) where
  elsewhere : (o : Open) (os : List Open) (p : ℕ) → Chain g n o os → Chain g n (at_place_lem o p) os
  elsewhere o [] p h = h
  elsewhere o (q ∷ os) p h = h

  chain_outer : (o : Open) (os : List Open) → Chain g n o os → ChainAt g n (outer os)
  chain_outer o [] h = tt
  chain_outer o (p ∷ os) h = h.3

  module _ (lim : ℕ) where
    chain_inside : (o : Open) (os : List Open) (x : Event) (bs : List Act) (c : Control) → move g n lim (inside o os) x ≡ go bs c → Chain g n o os → ChainAt g n c
    chain_inside o os (starts none) bs c e h = refuse_go bs c e
    chain_inside o os (starts (some t)) bs c e h =
        let d = started g lim o os n t bs c e in
        let w : Way = d.by in
        let C : Content = content_of g o.production in
        let G : GoesTo (tags_of g) (tag t) (Rest C o.place) w = found_atom (tags_of g) (tag t) C o.place w d.is_way in
        let a : atom_at C w.place ≡ some (nonterminal d.nonterm) = led_to C o.place w.string w.place w.kind G.0 G.2 ∙ ap some d.is_kind in
        subst (ChainAt g n) (sym d.is_control) (d.nonterm, ap child_of a, (find_sound g d.nonterm t d.production d.is_found).0, elsewhere o os w.place h)
    chain_inside o os (ends t) bs c e h = let d = ended g lim o os n t bs c e in subst (ChainAt g n) (sym d.is_control) (chain_outer o os h)
    chain_inside o os (letter x) bs c e h = let d = was_read g lim o os n x bs c e in subst (ChainAt g n) (sym d.is_control) (elsewhere o os d.by.place h)

    chain_step : (c : Control) (x : Event) (bs : List Act) (c' : Control) → move g n lim c x ≡ go bs c' → ChainAt g n c → ChainAt g n c'
    chain_step before (starts none) bs c' e h = refuse_go bs c' e
    chain_step before (starts (some t)) bs c' e h = by (find g n t) refl e
      where
        by : (f : Option ℕ) → find g n t ≡ f → root_by f ≡ go bs c' → ChainAt g n c'
        by none i e = refuse_go bs c' e
        by (some q) i e = subst (ChainAt g n) (go_inj (start_tag q ∷ []) bs (inside (at_start q) []) c' e).1 (find_sound g n t q i).0
    chain_step before (ends t) bs c' e h = refuse_go bs c' e
    chain_step before (letter x) bs c' e h = refuse_go bs c' e
    chain_step (inside o os) x bs c' e h = chain_inside o os x bs c' e h
    chain_step after x bs c' e h = refuse_go bs c' e

    pub chain_moves : {c c' : Control} {xs : List Event} {bs : List Act} → Moves g n lim c xs bs c' → ChainAt g n c → ChainAt g n c'
    chain_moves stay h = h
    chain_moves {c} (then {c' = d} x bs e r) h = chain_moves r (chain_step c x bs d e h)
