-- What the walk that counts for all symbols at once answers at a node from its answers behind it: n lead to the start of the node's tree, and what
-- that comes to in its parts adds up to what it comes to in the whole, by the laws of none, one and many. Then from a tree to a production.
-- Assumes nothing.
use mathlib.Core.Path.{◌≡◌, refl, sym, ◌∙◌, ap, ap₂, subst}
use mathlib.Core.Bool.{Bool, true, false, cond}
use mathlib.Core.List.{List}
use Prim.Native.Nat.{ℕ, zero, suc, ◌+◌, ◌<◌}
use native.Mathlib.Omega.{arith}
use native.Mathlib.Numerals.{add-one}
use lib.Dec.{eqb, ltb}
use lib.ListN.{length, get_or, set}
use lib.Seq.{get_or-set_same, get_or-set_other}
use borrow.Author.Tests.{ltb-true, ltb-false, ne_eqb}
use Rattle.expressions.specs.Expr.{Exp, atom, cat, alt, star, empty, nonterminal, anychar, nodes, atoms, Content, nothing, tree}
use Rattle.limits.specs.Limits.{most_tags}
use Rattle.expressions.specs.Grammar.{Production, nonterminals, content_of, tags_of, Next, tag, character, memb, can_be}
use Rattle.expressions.specs.Count.{Count, none, one, add, mul, rep, bit}
use Rattle.expressions.specs.Decide.{null, first, last, follow, to_end, to_atom}
use Rattle.layout.specs.Layout.{production_count}
use Rattle.layout.specs.Records.{kind_of, argument_of, first_node_of, node_count_of}
use Rattle.trees.specs.declared.Number.{Number}
use Rattle.trees.specs.declared.Onward.{Onward}
use Rattle.trees.specs.declared.Tally.{Tally}
use Rattle.trees.specs.Trees.{TreeAt, ContentAt}
use Rattle.trees.specs.GrammarAt.{GrammarIs}
use Rattle.trees.specs.Tally.{count_of, PastOf, Tallied}
use Rattle.trees.specs.Sums.{cell_of, AllAlike, sum_cells, raised, symbol_of, Raised, TagsRaised, PassedAs, UnionAs, Spread, CountedFrom}
use Rattle.trees.proofs.Unique.{nodes_pos, by_kind_1, by_kind_2, by_kind_3, by_kind_4, by_kind_5, by_kind_6}
use Rattle.trees.proofs.Grammars.{alike_there, member_alike, content_at}
use Rattle.trees.proofs.Counts.{add_none, mul_none, mul_one, raised_add, through_either, out_of_both, into_both, out_of_star, into_star}

-- sums by symbol: what is added twice, and what is the same count of every symbol
raised_same : (f h : Next → Count) (before after : List ℕ) → ((x : Next) → f x ≡ h x) → Raised f before after → Raised h before after
raised_same f h before after e r = record { each = λ i l. r.each i l ∙ ap (raised (get_or before i 0)) (e (symbol_of i)) }

raised_twice : (f h : Next → Count) (before mid after : List ℕ) → Raised f before mid → Raised h mid after → Raised (λ x. add (f x) (h x)) before after
raised_twice f h before mid after r u = record {
  each = λ i l. u.each i l ∙ ap (λ (z : ℕ). raised z (h (symbol_of i))) (r.each i l) ∙ raised_add (get_or before i 0) (f (symbol_of i)) (h (symbol_of i));
}

-- a sum is a tag's or a character's
by_symbol : (f : Next → Count) (before after : List ℕ) → ((t : ℕ) → t < most_tags → get_or after t 0 ≡ raised (get_or before t 0) (f (tag t))) →
    get_or after most_tags 0 ≡ raised (get_or before most_tags 0) (f character) → Raised f before after
by_symbol f before after tags last = record { each = λ i l. by i l (ltb i most_tags) refl }
  where
    by : (i : ℕ) → i < sum_cells → (b : Bool) → ltb i most_tags ≡ b → get_or after i 0 ≡ raised (get_or before i 0) (f (cond b (tag i) character))
    by i l true e = tags i (ltb-true i most_tags e)
    by i l false e = let h = ltb-false i most_tags e in let z : i ≡ most_tags = omega arith in rw z last

module _ (s : List ℕ) (p at j : ℕ) (n : Count) (before after : List ℕ) (r : Onward) where
  -- the tree that stands there is known by its first node's kind, so the answers for that one are the answers for all
  only_tree : (f : Exp) → ((e : Exp) → TreeAt s at e → e ≡ f) → PastOf at j f r.next r.atom → count_of r.out ≡ add (mul n (null f)) (last f j p) →
      ((g : List Production) → GrammarIs s g → Raised (λ x. add (mul n (first (tags_of g) f x)) (follow (tags_of g) f j p x)) before after) → Spread s p at j n before after r
  only_tree f same a o c =
      record {
        passes = λ e h. subst (λ (u : Exp). PastOf at j u r.next r.atom) (sym (same e h)) a;
        out_is = λ e h. subst (λ (u : Exp). count_of r.out ≡ add (mul n (null u)) (last u j p)) (sym (same e h)) o;
        sums_are = λ g γ e h. subst (λ (u : Exp). Raised (λ x. add (mul n (first (tags_of g) u x)) (follow (tags_of g) u j p x)) before after) (sym (same e h)) (c g γ);
      }

  -- the empty node: what leads to it leads on
  pub empty_spread : 5 < kind_of s at → count_of r.out ≡ n → r.next ≡ at + 1 → r.atom ≡ j → after ≡ before → Spread s p at j n before after r
  empty_spread k o x a e =
      only_tree empty (λ f h. (by_kind_6 s at k f h).0) (record { next_is = x; atom_is = omega (arith, a) }) (o ∙ sym (add_none (mul n one) ∙ mul_one n))
      (λ g γ. record { each = λ i l. ap (λ (z : List ℕ). get_or z i 0) e ∙ ap (raised (get_or before i 0)) (sym (ap (λ (z : Count). add z none) (mul_none n))) })

  -- an atom: it is behind, and what leads to it is added where it can be the symbol
  module _ (q : PassedAs (eqb p j) (at + 1) (j + 1) r) where
    atom_out : count_of r.out ≡ add (mul n none) (bit (eqb p j))
    atom_out = q.out_is ∙ ap (λ (z : Count). add z (bit (eqb p j))) (sym (mul_none n))

    hits : (b c : Bool) → b ≡ c → (sum : ℕ) → raised sum (mul n (bit b)) ≡ raised sum (add (mul n (bit c)) none)
    hits b c e sum = ap (raised sum) (ap (λ (z : Bool). mul n (bit z)) e ∙ sym (add_none (mul n (bit c))))

    misses : (sum : ℕ) → sum ≡ raised sum (add (mul n none) none)
    misses sum = ap (raised sum) (sym (ap (λ (z : Count). add z none) (mul_none n)))

    pub nonterminal_spread : kind_of s at ≡ 1 → (known : List ℕ) → AllAlike s known → (m : ℕ) → m ≡ argument_of s at → m < nonterminals → TagsRaised known m n before after → Spread s p at j n before after r
    nonterminal_spread k known all m a low t =
        only_tree (atom (nonterminal m)) (λ e h. (by_kind_1 s at k e h).0 ∙ ap (λ (z : ℕ). atom (nonterminal z)) (sym a))
        (record { next_is = q.next_is; atom_is = q.atom_is }) atom_out
        (λ g γ. by_symbol (λ x. add (mul n (bit (can_be (tags_of g) (nonterminal m) x))) none) before after
        (λ u b. t.tags u b ∙ hits (ltb 0 (get_or known (cell_of m u) 0)) (memb u (tags_of g m))
        (ap (ltb 0) (all.is m u low (omega arith) ∙ alike_there s m u g γ) ∙ sym (member_alike u m g)) (get_or before u 0))
        (t.character ∙ misses (get_or before most_tags 0)))

    pub character_spread : kind_of s at ≡ 2 → length before ≡ sum_cells → (v : ℕ) → v ≡ raised (get_or before most_tags 0) (mul n (bit true)) → after ≡ set before most_tags v → Spread s p at j n before after r
    character_spread k long v e w =
        only_tree (atom anychar) (λ e h. (by_kind_2 s at k e h).0) (record { next_is = q.next_is; atom_is = q.atom_is }) atom_out
        (λ g γ. by_symbol (λ x. add (mul n (bit (can_be (tags_of g) anychar x))) none) before after
        (λ u b. ap (λ (z : List ℕ). get_or z u 0) w ∙ get_or-set_other before most_tags u v 0 (λ z. omega arith) ∙ misses (get_or before u 0))
        (ap (λ (z : List ℕ). get_or z most_tags 0) w ∙ get_or-set_same before most_tags v 0 (omega arith) ∙ e ∙ hits true true refl (get_or before most_tags 0)))

module _ (s : List ℕ) (p at j : ℕ) (n : Count) (before : List ℕ) where
  -- a star: what leads to its part comes to it and comes round in it
  pub star_spread : (after : List ℕ) (part : Tally) → Tallied s p (at + 1) j part → (start : Number) →
      count_of start ≡ mul (add n (count_of part.last)) (rep (count_of part.null) one) →
      (r' : Onward) → Spread s p (at + 1) j (count_of start) before after r' → kind_of s at ≡ 5 →
      (r : Onward) → r.out ≡ start → r.next ≡ part.next → r.atom ≡ part.atom → Spread s p at j n before after r
  star_spread after part tl start e r' inner k r o x a = record { passes = passed; out_is = out; sums_are = sums }
    where
      starts : (f : Exp) → TreeAt s (at + 1) f → count_of start ≡ mul (add n (last f j p)) (rep (null f) one)
      starts f h = let c = tl.counts f h in e ∙ ap₂ (λ (u v : Count). mul (add n u) (rep v one)) c.last_is c.null_is

      passed : (e : Exp) → TreeAt s at e → PastOf at j e r.next r.atom
      passed e h =
          let v = by_kind_5 s at k e h in
          let m = tl.passes v.0 (rw add-one v.3) in
          subst (λ (u : Exp). PastOf at j u r.next r.atom) (sym v.1) (record { next_is = omega (arith, m, x); atom_is = a ∙ m.atom_is })

      out : (e : Exp) → TreeAt s at e → count_of r.out ≡ add (mul n (null e)) (last e j p)
      out e h =
          let v = by_kind_5 s at k e h in
          let f = v.0 in
          subst (λ (u : Exp). count_of r.out ≡ add (mul n (null u)) (last u j p)) (sym v.1)
          (ap count_of o ∙ starts f (rw add-one v.3) ∙ out_of_star n (last f j p) (rep (null f) one))

      sums : (g : List Production) → GrammarIs s g → (e : Exp) → TreeAt s at e → Raised (λ x. add (mul n (first (tags_of g) e x)) (follow (tags_of g) e j p x)) before after
      sums g γ e h =
          let v = by_kind_5 s at k e h in
          let f = v.0 in
          let h' : TreeAt s (at + 1) f = rw add-one v.3 in
          subst (λ (u : Exp). Raised (λ x. add (mul n (first (tags_of g) u x)) (follow (tags_of g) u j p x)) before after) (sym v.1)
          (raised_same (λ x. add (mul (count_of start) (first (tags_of g) f x)) (follow (tags_of g) f j p x)) (λ x. add (mul n (first (tags_of g) (star f) x)) (follow (tags_of g) (star f) j p x)) before after
          (λ x. ap (λ (z : Count). add (mul z (first (tags_of g) f x)) (follow (tags_of g) f j p x)) (starts f h') ∙ into_star n (last f j p) (null f) (first (tags_of g) f x) (follow (tags_of g) f j p x))
          (inner.sums_are g γ f h'))

  module _ (mid : List ℕ) (l : Onward) (sl : Spread s p (at + 1) j n before mid l) (after : List ℕ) (m : Count) (r' : Onward)
      (sr : Spread s p l.next l.atom m mid after r') where
    -- the second part's answers, by the first part's end
    right_part : (e : Exp) → TreeAt s (suc at) e → Spread s p (suc at + nodes e) (j + atoms e) m mid after r'
    right_part e h =
        let m' = sl.passes e (rw add-one h) in
        subst (λ (z : ℕ). Spread s p (suc at + nodes e) z m mid after r') m'.atom_is
        (subst (λ (z : ℕ). Spread s p z l.atom m mid after r') (rw add-one at m'.next_is) sr)

    -- a concatenation or a union: what is added in the two parts, and what leads out, by laws that tell the two apart
    module _ (join : Exp → Exp → Exp) (r : Onward) (x : r.next ≡ r'.next) (a : r.atom ≡ r'.atom)
        (nodes_join : (e f : Exp) → nodes (join e f) ≡ suc (nodes e + nodes f)) (atoms_join : (e f : Exp) → atoms (join e f) ≡ atoms e + atoms f)
        (by_kind : (e : Exp) → TreeAt s at e → (e' : Exp) × (f : Exp) × (e ≡ join e' f) × (argument_of s at ≡ 0) × TreeAt s (suc at) e' × TreeAt s (suc at + nodes e') f)
        (out_join : (e f : Exp) → count_of l.out ≡ add (mul n (null e)) (last e j p) → count_of r'.out ≡ add (mul m (null f)) (last f (j + atoms e) p) →
        count_of r.out ≡ add (mul n (null (join e f))) (last (join e f) j p))
        (sum_join : (tags : ℕ → List ℕ) (e f : Exp) → count_of l.out ≡ add (mul n (null e)) (last e j p) → (y : Next) →
        add (add (mul n (first tags e y)) (follow tags e j p y)) (add (mul m (first tags f y)) (follow tags f (j + atoms e) p y)) ≡ add (mul n (first tags (join e f) y)) (follow tags (join e f) j p y)) where
      join_spread : Spread s p at j n before after r
      join_spread = record {
        passes = λ e h.
            let v = by_kind e h in
            let b = (right_part v.0 v.4).passes v.1 v.5 in
            subst (λ (u : Exp). PastOf at j u r.next r.atom) (sym v.2)
            (record { next_is = omega (arith, b, x, nodes_join v.0 v.1); atom_is = omega (arith, b, a, atoms_join v.0 v.1) });
        out_is = λ e h.
            let v = by_kind e h in
            subst (λ (u : Exp). count_of r.out ≡ add (mul n (null u)) (last u j p)) (sym v.2)
            (out_join v.0 v.1 (sl.out_is v.0 (rw add-one v.4)) ((right_part v.0 v.4).out_is v.1 v.5));
        sums_are = λ g γ e h.
            let v = by_kind e h in
            let f : Next → Count = λ y. add (mul n (first (tags_of g) v.0 y)) (follow (tags_of g) v.0 j p y) in
            let k : Next → Count = λ y. add (mul m (first (tags_of g) v.1 y)) (follow (tags_of g) v.1 (j + atoms v.0) p y) in
            subst (λ (u : Exp). Raised (λ y. add (mul n (first (tags_of g) u y)) (follow (tags_of g) u j p y)) before after) (sym v.2)
            (raised_same (λ y. add (f y) (k y)) (λ y. add (mul n (first (tags_of g) (join v.0 v.1) y)) (follow (tags_of g) (join v.0 v.1) j p y)) before after
            (sum_join (tags_of g) v.0 v.1 (sl.out_is v.0 (rw add-one v.4)))
            (raised_twice f k before mid after (sl.sums_are g γ v.0 (rw add-one v.4)) ((right_part v.0 v.4).sums_are g γ v.1 v.5)));
      }

  pub cat_spread : (mid : List ℕ) (l : Onward) → Spread s p (at + 1) j n before mid l → (after : List ℕ) (r : Onward) →
      Spread s p l.next l.atom (count_of l.out) mid after r → kind_of s at ≡ 3 → Spread s p at j n before after r
  cat_spread mid l sl after r sr k =
      join_spread mid l sl after (count_of l.out) r sr cat r refl refl (λ e f. refl) (λ e f. refl) (by_kind_3 s at k)
      (λ e f o q. q ∙ ap (λ (z : Count). add (mul z (null f)) (last f (j + atoms e) p)) o ∙ out_of_both n (null e) (last e j p) (null f) (last f (j + atoms e) p))
      (λ tags e f o y.
      ap (λ (z : Count). add (add (mul n (first tags e y)) (follow tags e j p y)) (add (mul z (first tags f y)) (follow tags f (j + atoms e) p y))) o
      ∙ into_both n (null e) (last e j p) (first tags e y) (follow tags e j p y) (first tags f y) (follow tags f (j + atoms e) p y))

  pub alt_spread : (mid : List ℕ) (l : Onward) → Spread s p (at + 1) j n before mid l → (after : List ℕ) (r' r : Onward) →
      Spread s p l.next l.atom n mid after r' → UnionAs (count_of l.out) r' r → kind_of s at ≡ 4 → Spread s p at j n before after r
  alt_spread mid l sl after r' r sr q k =
      join_spread mid l sl after n r' sr alt r q.next_is q.atom_is (λ e f. refl) (λ e f. refl) (by_kind_4 s at k)
      (λ e f o u. q.out_is ∙ ap₂ add o u ∙ through_either n (null e) (null f) (last e j p) (last f (j + atoms e) p))
      (λ tags e f o y. through_either n (first tags e y) (first tags f y) (follow tags e j p y) (follow tags f (j + atoms e) p y))

-- no bracket string starts at a place before all atoms
none_out : (e : Exp) (j p : ℕ) → p < j → last e j p ≡ none
none_out (atom k) j p h = ap bit (ne_eqb p j (λ z. omega arith))
none_out (cat l r) j p h = rw (none_out l j p h, none_out r (j + atoms l) p (omega arith)) refl
none_out (alt l r) j p h = rw (none_out l j p h, none_out r (j + atoms l) p (omega arith)) refl
none_out (star e) j p h = rw (none_out e j p h) refl
none_out empty j p h = refl

none_across : (tags : ℕ → List ℕ) (e : Exp) (j p : ℕ) (x : Next) → p < j → follow tags e j p x ≡ none
none_across tags (atom k) j p x h = refl
none_across tags (cat l r) j p x h = rw (none_across tags l j p x h, none_out l j p h, none_across tags r (j + atoms l) p x (omega arith)) refl
none_across tags (alt l r) j p x h = rw (none_across tags l j p x h, none_across tags r (j + atoms l) p x (omega arith)) refl
none_across tags (star e) j p x h = rw (none_across tags e j p x h, none_out e j p h) refl
none_across tags empty j p x h = refl

-- place 0 leads to the start of the whole, any other is in it
not_start : (p : ℕ) → eqb (suc p) 0 ≡ false
not_start p = ne_eqb (suc p) 0 (λ z. omega arith)

from_place_end : (p : ℕ) (e : Exp) → add (mul (bit (eqb p 0)) (null e)) (last e 1 p) ≡ to_end (tree e) p
from_place_end zero e = ap (add (null e)) (none_out e 1 0 (omega arith)) ∙ add_none (null e)
from_place_end (suc p) e = ap (λ (b : Bool). add (mul (bit b) (null e)) (last e 1 (suc p))) (not_start p)

from_place : (tags : ℕ → List ℕ) (p : ℕ) (e : Exp) (x : Next) → add (mul (bit (eqb p 0)) (first tags e x)) (follow tags e 1 p x) ≡ to_atom tags (tree e) p x
from_place tags zero e x = ap (add (first tags e x)) (none_across tags e 1 0 x (omega arith)) ∙ add_none (first tags e x)
from_place tags (suc p) e x = ap (λ (b : Bool). add (mul (bit b) (first tags e x)) (follow tags e 1 (suc p) x)) (not_start p)

from_nothing : (p : ℕ) → bit (eqb p 0) ≡ to_end nothing p
from_nothing zero = refl
from_nothing (suc p) = ap bit (not_start p)

module _ (s : List ℕ) (q p k : ℕ) (there : q < production_count s) (nodes_are : k ≡ node_count_of s q) (before : List ℕ) (start : Number) (starts : count_of start ≡ bit (eqb p 0)) where
  pub none_counted_from : k ≡ 0 → CountedFrom s q p before before start
  none_counted_from z = record {
    end_is = λ g γ. end (content_of g q) (content_at s g γ q there);
    sums_are = λ g γ. sums (tags_of g) (content_of g q) (content_at s g γ q there);
  }
    where
      no_tree : (e : Exp) → ContentAt s q (tree e) → ⊥
      no_tree e h = omega (arith, h.1, nodes_pos e)

      end : (c : Content) → ContentAt s q c → count_of start ≡ to_end c p
      end nothing h = starts ∙ from_nothing p
      end (tree e) h = absurd (no_tree e h)

      sums : (tags : ℕ → List ℕ) (c : Content) → ContentAt s q c → Raised (to_atom tags c p) before before
      sums tags nothing h = record { each = λ i l. refl }
      sums tags (tree e) h = absurd (no_tree e h)

  module _ (some : k ≡ 0 → ⊥) (i : ℕ) (at_first : i ≡ first_node_of s q) (after : List ℕ) (r : Onward) (h : Spread s p i 1 (count_of start) before after r) where
    stands : (e : Exp) → ContentAt s q (tree e) → TreeAt s i e
    stands e c = subst (λ (z : ℕ). TreeAt s z e) (sym at_first) c.0

    end_of : (c : Content) → ContentAt s q c → count_of r.out ≡ to_end c p
    end_of nothing c = absurd (some (nodes_are ∙ c))
    end_of (tree e) c = h.out_is e (stands e c) ∙ ap (λ (z : Count). add (mul z (null e)) (last e 1 p)) starts ∙ from_place_end p e

    sums_of : (g : List Production) → GrammarIs s g → (c : Content) → ContentAt s q c → Raised (to_atom (tags_of g) c p) before after
    sums_of g γ nothing c = absurd (some (nodes_are ∙ c))
    sums_of g γ (tree e) c =
        raised_same (λ x. add (mul (count_of start) (first (tags_of g) e x)) (follow (tags_of g) e 1 p x)) (to_atom (tags_of g) (tree e) p) before after
        (λ x. ap (λ (z : Count). add (mul z (first (tags_of g) e x)) (follow (tags_of g) e 1 p x)) starts ∙ from_place (tags_of g) p e x)
        (h.sums_are g γ e (stands e c))

    pub tree_counted_from : CountedFrom s q p before after r.out
    tree_counted_from = record {
      end_is = λ g γ. end_of (content_of g q) (content_at s g γ q there);
      sums_are = λ g γ. sums_of g γ (content_of g q) (content_at s g γ q there);
    }
