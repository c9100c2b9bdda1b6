-- The grammar of a sheet: that there is one, what its productions are, its size, and how its productions are counted.
-- Each law is an induction on the productions from some number on.
-- Assumes nothing.
use mathlib.Core.Path.{◌≡◌, refl, sym, ap, subst, ◌∙◌}
use mathlib.Core.Bool.{Bool, true, false, cond, ◌&&◌, ◌||◌}
use mathlib.Core.List.{List, [], ◌∷◌, ◌++◌}
use Prim.Native.Nat.{ℕ, zero, suc, ◌+◌, ◌≤◌, ◌<◌}
use native.Mathlib.Omega.{arith}
use lib.Dec.{eqb, ltb}
use lib.ListN.{length}
use borrow.Author.Tests.{lt-ltb}
use Rattle.expressions.specs.Expr.{Content, nothing, tree, nodes_of}
use Rattle.expressions.specs.Grammar.{Production, Nth, content_of, Numbered, Small, nodes_in, only_if, tags_of, memb}
use Rattle.expressions.specs.Listed.{alike}
use Rattle.layout.specs.Layout.{production_count, tag_count, Sections}
use Rattle.layout.specs.Records.{nonterminal_of, tag_number_of, node_count_of, nodes_before}
use Rattle.trees.specs.Trees.{ContentAt, Trees}
use Rattle.trees.specs.Answers.{alike_before}
use Rattle.trees.specs.GrammarAt.{ProductionIs, GrammarFrom, GrammarIs}
use Rattle.trees.proofs.Unique.{from_most, one_production}

pub nodes_of_content : (s : List ℕ) (q : ℕ) (e : Content) → ContentAt s q e → nodes_of e ≡ node_count_of s q
nodes_of_content s q nothing h = sym h
nodes_of_content s q (tree e) h = h.1

pub content_nth : (g : List Production) (q : ℕ) (d : Production) → Nth g q d → content_of g q ≡ d.content
content_nth [] q d n = absurd n
content_nth (c ∷ g) zero d n = ap (λ (z : Production). z.content) (sym n)
content_nth (c ∷ g) (suc q) d n = content_nth g q d n

module _ (s : List ℕ) where
  build : Trees s → (n q : ℕ) → q + n ≡ production_count s → (g : List Production) × GrammarFrom s q g
  build t zero q e = ([], omega arith)
  build t (suc n) q e =
      let c = t.each q (omega arith) in
      let r = build t n (suc q) (omega arith) in
      (record { nonterm = nonterminal_of s q; tagno = tag_number_of s q; content = c.0 } ∷ r.0, (record { nonterminal_is = refl; tag_is = refl; content_is = c.1 }, r.1))

  pub grammar_is : Trees s → (g : List Production) × GrammarIs s g
  grammar_is t = build t (production_count s) 0 (omega arith)

  length_from : (q : ℕ) (g : List Production) → GrammarFrom s q g → q + length g ≡ production_count s
  length_from q [] h = omega arith
  length_from q (d ∷ g) h = omega (arith, length_from (suc q) g h.1)

  pub length_grammar : (g : List Production) → GrammarIs s g → length g ≡ production_count s
  length_grammar g h = omega (arith, length_from 0 g h)

  nth_from : (q : ℕ) (g : List Production) → GrammarFrom s q g → (i k : ℕ) → k ≡ q + i → (d : Production) → Nth g i d → ProductionIs s k d
  nth_from q [] h i k e d n = absurd n
  nth_from q (c ∷ g) h zero k e d n = subst (ProductionIs s k) (sym n) (subst (λ (z : ℕ). ProductionIs s z c) (omega arith) h.0)
  nth_from q (c ∷ g) h (suc i) k e d n = nth_from (suc q) g h.1 i k (omega arith) d n

  -- the production of a number is what its record says, and there is one for each number below the count
  pub nth_is : (g : List Production) → GrammarIs s g → (q : ℕ) (d : Production) → Nth g q d → ProductionIs s q d
  nth_is g h q d n = nth_from 0 g h q q (omega arith) d n

  there_from : (q : ℕ) (g : List Production) → GrammarFrom s q g → (i : ℕ) → q + i < production_count s → (d : Production) × Nth g i d
  there_from q [] h i b = absurd (omega arith)
  there_from q (c ∷ g) h zero b = (c, refl)
  there_from q (c ∷ g) h (suc i) b = there_from (suc q) g h.1 i (omega arith)

  pub nth_there : (g : List Production) → GrammarIs s g → (q : ℕ) → q < production_count s → (d : Production) × Nth g q d
  nth_there g h q b = there_from 0 g h q (omega arith)

  pub content_at : (g : List Production) → GrammarIs s g → (q : ℕ) → q < production_count s → ContentAt s q (content_of g q)
  content_at g h q b = let d = nth_there g h q b in subst (ContentAt s q) (sym (content_nth g q d.0 d.1)) (nth_is g h q d.0 d.1).content_is

  pub is_nth : (g : List Production) → GrammarIs s g → (q : ℕ) → q < production_count s → (d : Production) → ProductionIs s q d → Nth g q d
  is_nth g h q b d p =
      let n = nth_there g h q b in
      subst (Nth g q) (one_production s q n.0 d (nth_is g h q n.0 n.1) p) n.1

  below_from : (q : ℕ) (g : List Production) → GrammarFrom s q g → (i : ℕ) (d : Production) → Nth g i d → q + i < production_count s
  below_from q [] h i d n = absurd n
  below_from q (c ∷ g) h zero d n = omega (arith, from_most s (suc q) g h.1)
  below_from q (c ∷ g) h (suc i) d n = omega (arith, below_from (suc q) g h.1 i d n)

  pub nth_below : (g : List Production) → GrammarIs s g → (q : ℕ) (d : Production) → Nth g q d → q < production_count s
  nth_below g h q d n = omega (arith, below_from 0 g h q d n)

  module _ (low : (q : ℕ) → q < production_count s → nonterminal_of s q ≤ 63) (known : (q : ℕ) → q < production_count s → tag_number_of s q < tag_count s) where
    numbered_from : (q : ℕ) (g : List Production) → GrammarFrom s q g → Numbered (tag_count s) g
    numbered_from q [] h = tt
    numbered_from q (d ∷ g) h =
        let b : q < production_count s = from_most s (suc q) g h.1 in
        (omega (arith, h.0.nonterminal_is, low q b), rw h.0.tag_is (known q b), numbered_from (suc q) g h.1)

    pub small_grammar : Sections s → (g : List Production) → GrammarIs s g → Small (tag_count s) g
    small_grammar t g h = record { few_tags = t.few_tags; numbered = numbered_from 0 g h }

  nodes_from : (q : ℕ) (g : List Production) → GrammarFrom s q g → nodes_before s q + nodes_in g ≡ nodes_before s (production_count s)
  nodes_from q [] h = let e : nodes_before s q ≡ nodes_before s (production_count s) = ap (nodes_before s) h in omega arith
  nodes_from q (d ∷ g) h = omega (arith, nodes_of_content s q d.content h.0.content_is, nodes_from (suc q) g h.1)

  pub nodes_of_grammar : (g : List Production) → GrammarIs s g → nodes_in g ≡ nodes_before s (production_count s)
  nodes_of_grammar g h = omega (arith, nodes_from 0 g h)

  module _ (m t : ℕ) where
    alike_from : (q : ℕ) (g : List Production) → GrammarFrom s q g → alike_before s m t q + alike g m t ≡ alike_before s m t (production_count s)
    alike_from q [] h = let e : alike_before s m t q ≡ alike_before s m t (production_count s) = ap (alike_before s m t) h in omega arith
    alike_from q (d ∷ g) h =
        let x : d.nonterm ≡ nonterminal_of s q = h.0.nonterminal_is in
        let y : d.tagno ≡ tag_number_of s q = h.0.tag_is in
        let z = alike_from (suc q) g h.1 in
        rw (x, y) (omega arith)

    -- a grammar's productions alike are the records alike
    pub alike_there : (g : List Production) → GrammarIs s g → alike_before s m t (production_count s) ≡ alike g m t
    alike_there g h = omega (arith, alike_from 0 g h)

-- a tag is one of a nonterminal's where a production is of both
module _ (t : ℕ) (ts : List ℕ) (k : ℕ) (rest : memb t ts ≡ ltb 0 k) where
  none_more : memb t ts ≡ ltb 0 (0 + k)
  none_more = let z : k ≡ 0 + k = omega arith in rest ∙ ap (ltb 0) z

  either : (b : Bool) → (b || memb t ts) ≡ ltb 0 (cond b 1 0 + k)
  either true = sym (lt-ltb 0 (1 + k) (omega arith))
  either false = none_more

  member_of : (a : Bool) (u : ℕ) → memb t (only_if a u ++ ts) ≡ ltb 0 (cond (a && eqb t u) 1 0 + k)
  member_of true u = either (eqb t u)
  member_of false u = none_more

pub member_alike : (t n : ℕ) (g : List Production) → memb t (tags_of g n) ≡ ltb 0 (alike g n t)
member_alike t n [] = refl
member_alike t n (d ∷ g) = member_of t (tags_of g n) (alike g n t) (member_alike t n g) (eqb n d.nonterm) d.tagno
