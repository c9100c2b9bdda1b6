-- Where rule S finds no fault, the string that is found has no bracket twice; and it is the only one.
-- Assumes nothing.
use mathlib.Core.Path.{◌≡◌, ap, subst}
use mathlib.Core.Bool.{true, false≢true}
use mathlib.Core.List.{List, [], ◌++◌}
use mathlib.Core.Option.{Option, none, some, none-ne-some as none_some}
use Prim.Native.Nat.{ℕ, zero, suc, ◌+◌, ◌*◌, ◌≤◌}
use native.Mathlib.Omega.{arith}
use lib.ListN.{length, length-append}
use Rattle.expressions.specs.Count.{Count, mul, rep}
use Rattle.expressions.specs.Expr.{Atom, nonterminal, anychar, Exp, star, nodes, Content, nothing, tree, nodes_of}
use Rattle.expressions.specs.Words.{Bracket}
use Rattle.expressions.specs.Grammar.{Production, tags_of, content_of, Next, tag, character, end, can_be}
use Rattle.expressions.specs.FaultList.{KeepsS}
use Rattle.expressions.specs.Decide.{null, first, last, follow, count}
use Rattle.expressions.proofs.Rule.{Rest, Paths, classed_count, to_path, many_fault, one_way}
use Rattle.runs.specs.Options.{bind}
use Rattle.runs.specs.Way.{Way, atom_way, end_way, into, across, through, out_of_lem, led}
use Rattle.runs.proofs.Rules.{no_S_lem}
use Rattle.runs.proofs.Ways.{end_found, atom_found, found_atom}
use Rattle.limits.specs.Limits.{nodes_at_most}
use Rattle.few.specs.Strings.{most_brackets, FewBrackets, StringsFew, string_to, WaysFew}
use Rattle.few.proofs.Weighed.{Few, few_add_right, Fine, Most, MostWay, weigh, total, through_fine, into_fine, out_fine, round, across_fine}
use Rattle.few.proofs.Counting.{one_each, weigh_length, total_nodes, only, total_once, weighed_once}

abbrev Str : Type 0
Str = List Bracket

module _ (weight : Bracket → ℕ) where
  abbrev total_of : Content → ℕ
  total_of nothing = 0
  total_of (tree e) = total weight e 1

  of_string : (N : ℕ) (n : Count) (o : Option Str) (α : Str) → Fine (Most weight N) o n → o ≡ some α → weigh weight α ≤ N
  of_string N n none α h e = absurd (none_some α e)
  of_string N n (some β) α h e = let i : β ≡ α = cc in subst (Most weight N) i h.1

  of_way : (N : ℕ) (n : Count) (o : Option Way) (α : Str) → Fine (MostWay weight N) o n → bind o (λ w. some w.string) ≡ some α → weigh weight α ≤ N
  of_way N n none α h e = absurd (none_some α e)
  of_way N n (some w) α h e = let i : w.string ≡ α = cc in subst (Most weight N) i h.1

  found_weighs : (tags : ℕ → List ℕ) (c : Content) (p : ℕ) (x : Next) → (count tags c p x ≡ Count.many → ⊥) → (α : Str) → string_to tags c p x ≡ some α →
      weigh weight α ≤ total_of c
  found_weighs tags nothing p (tag t) f α e = absurd (none_some α e)
  found_weighs tags nothing p character f α e = absurd (none_some α e)
  found_weighs tags nothing zero end f α e = let i : [] ≡ α = cc in subst (Most weight 0) i (omega arith)
  found_weighs tags nothing (suc p) end f α e = absurd (none_some α e)
  found_weighs tags (tree b) zero (tag t) f α e = of_way _ _ (into tags b 1 1 (tag t)) α (into_fine weight tags (tag t) b 1 1) e
  found_weighs tags (tree b) zero character f α e = of_way _ _ (into tags b 1 1 character) α (into_fine weight tags character b 1 1) e
  found_weighs tags (tree b) zero end f α e = of_string _ _ (through b 1) α (through_fine weight b 1) e
  found_weighs tags (tree b) (suc p) (tag t) f α e = of_way _ _ (across tags b 1 1 (suc p) (tag t)) α (across_fine weight tags (tag t) b 1 1 (suc p) f) e
  found_weighs tags (tree b) (suc p) character f α e = of_way _ _ (across tags b 1 1 (suc p) character) α (across_fine weight tags character b 1 1 (suc p) f) e
  found_weighs tags (tree b) (suc p) end f α e = of_string _ _ (out_of_lem b 1 1 (suc p)) α (out_fine weight b 1 1 (suc p)) e

nodes_total : (c : Content) → total_of one_each c ≡ 2 * nodes_of c
nodes_total nothing = omega arith
nodes_total (tree e) = total_nodes e 1

once_total : (b : Bracket) (c : Content) → total_of (only b) c ≤ 1
once_total b nothing = omega arith
once_total b (tree e) = total_once b e 1

pub ways_few : WaysFew
ways_few tags c p x no_fault α e =
    let f : count tags c p x ≡ Count.many → ⊥ = λ m. no_fault (many_fault tags c p x m) in
    record {
      once = weighed_once α (λ b. omega (arith, found_weighs (only b) tags c p x f α e, once_total b c));
      few = omega (arith, found_weighs one_each tags c p x f α e, weigh_length α, nodes_total c);
    }

pub string_of : {o : Option Way} (w : Way) → o ≡ some w → bind o (λ w. some w.string) ≡ some w.string
string_of w e = ap (λ (o : Option Way). bind o (λ w. some w.string)) e

-- wherever a word has a string from the place to x, one is found
found : (tags : ℕ → List ℕ) (c : Content) (p : ℕ) (x : Next) (α : Str) → Paths tags (Rest c p) x α → (β : Str) × (string_to tags c p x ≡ some β) × Paths tags (Rest c p) x β
found tags c p (tag t) α a =
    let f = atom_found tags (tag t) c p α a in
    let w : Way = f.0 in
    (w.string, string_of w f.1, (w.place, w.kind, f.2.0, f.2.1, f.2.2))
found tags c p character α a =
    let f = atom_found tags character c p α a in
    let w : Way = f.0 in
    (w.string, string_of w f.1, (w.place, w.kind, f.2.0, f.2.1, f.2.2))
found tags c p end α a = end_found tags c p α a

pub strings_few : StringsFew
strings_few tags c p x no_fault u h α a =
    let P = Paths tags (Rest c p) x in
    let b = to_path tags c p u h x α a in
    let f = found tags c p x α b in
    let same : f.0 ≡ α = one_way P (count tags c p x) (classed_count tags c p x) (λ m. no_fault (many_fault tags c p x m)) f.0 α f.2 b in
    subst (FewBrackets c) same (ways_few tags c p x no_fault f.0 f.1)

-- no atom is the end
never_end : (tags : ℕ → List ℕ) (k : Atom) → can_be tags k end ≡ true → ⊥
never_end tags (nonterminal n) e = false≢true e
never_end tags anychar e = false≢true e

module _ (g : List Production) (keeps : KeepsS g) (q p : ℕ) where
  pub few_brackets : (x : Next) (α : Str) → string_to (tags_of g) (content_of g q) p x ≡ some α → FewBrackets (content_of g q) α
  few_brackets x α e = ways_few (tags_of g) (content_of g q) p x (no_S_lem g keeps q p x) α e

  -- as the search needs it: in a grammar that keeps rule S, a way in a production of at most 32 nodes has at most 64 brackets
  module _ (few : nodes_of (content_of g q) ≤ nodes_at_most) where
    at_most_64 : (α : Str) → FewBrackets (content_of g q) α → length α ≤ most_brackets
    at_most_64 α b = omega (arith, b.few, few)

    pub atom_way_64 : (x : Next) (w : Way) → atom_way (tags_of g) (content_of g q) p x ≡ some w → length w.string ≤ most_brackets
    atom_way_64 (tag t) w e = at_most_64 w.string (few_brackets (tag t) w.string (string_of w e))
    atom_way_64 character w e = at_most_64 w.string (few_brackets character w.string (string_of w e))
    atom_way_64 end w e = absurd (never_end (tags_of g) w.kind (found_atom (tags_of g) end (content_of g q) p w e).1)

    pub end_way_64 : (α : Str) → end_way (content_of g q) p ≡ some α → length α ≤ most_brackets
    end_way_64 α e = at_most_64 α (few_brackets end α e)

-- of the search on its way: round a star the string out of the body and the one into it again have together at most two brackets for each of
-- its nodes. That the count of the star is not many follows from the count of the whole, part by part (`few_add_left`, `few_add_right`)
pub round_few : (tags : ℕ → List ℕ) (x : Next) (e : Exp) (i j p : ℕ) → Few (follow tags (star e) j p x) → (α : Str) → out_of_lem e i j p ≡ some α → (w : Way) →
    into tags e i j x ≡ some w → length α + length w.string ≤ 2 * nodes e
round_few tags x e i j p few α out w in_again =
    let n : Count = mul (last e j p) (rep (null e) (first tags e x)) in
    let f = round one_each tags x e i j p (few_add_right (follow tags e j p x) n few) in
    let h = subst (λ (o : Option Way). Fine (MostWay one_each (total one_each e i)) o n) (λ k. led (out k) (in_again k)) f in
    omega (arith, h.1, weigh_length (α ++ w.string), length-append α w.string, total_nodes e i)
