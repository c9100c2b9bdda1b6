-- A regrouped grammar has the same productions, but for their grouping, at the same numbers; and the relation goes both ways.
-- Assumes nothing.
use mathlib.Core.Path.{◌≡◌, refl, sym, ap, subst}
use mathlib.Core.List.{List, [], ◌∷◌, ◌++◌}
use Prim.Native.Nat.{ℕ, zero, suc}
use lib.Dec.{eqb}
use Rattle.expressions.specs.Expr.{Content, nothing}
use Rattle.expressions.specs.Grammar.{Production, Nth, only_if, content_of, tags_of}
use Rattle.runs.specs.Lookup.{tag_of, produces}
use Rattle.grouping.specs.Regrouped.{Which, as_it_is, back, RegroupedContent, still_nothing, regrouped_tree, RegroupedProduction, RegroupedGrammar, no_production, and_production}

content_refl : {w : Which} (c : Content) → RegroupedContent w c c
content_refl nothing = still_nothing
content_refl (Content.tree e) = regrouped_tree as_it_is

content_back : {w : Which} {c c' : Content} → RegroupedContent w c c' → RegroupedContent w c' c
content_back still_nothing = still_nothing
content_back (regrouped_tree r) = regrouped_tree (back r)

pub grammar_refl : {w : Which} (g : List Production) → RegroupedGrammar w g g
grammar_refl [] = no_production
grammar_refl (d ∷ g) = and_production (record { same_nonterminal = refl; same_tag = refl; expression = content_refl d.content }) (grammar_refl g)

pub grammar_back : {w : Which} {g g' : List Production} → RegroupedGrammar w g g' → RegroupedGrammar w g' g
grammar_back no_production = no_production
grammar_back (and_production d r) =
    and_production (record { same_nonterminal = sym d.same_nonterminal; same_tag = sym d.same_tag; expression = content_back d.expression }) (grammar_back r)

-- by number
pub nth_stays : {w : Which} {g g' : List Production} → RegroupedGrammar w g g' → (q : ℕ) (d : Production) → Nth g q d →
    (d' : Production) × Nth g' q d' × RegroupedProduction w d d'
nth_stays {w} (and_production {d = x} {d' = x'} p r) zero d h = (x', refl, subst (λ (y : Production). RegroupedProduction w y x') (sym h) p)
nth_stays (and_production p r) (suc q) d h = nth_stays r q d h
nth_stays no_production q d h = absurd h

pub content_stays : {w : Which} {g g' : List Production} → RegroupedGrammar w g g' → (q : ℕ) → RegroupedContent w (content_of g q) (content_of g' q)
content_stays no_production q = still_nothing
content_stays (and_production p r) zero = p.expression
content_stays (and_production p r) (suc q) = content_stays r q

pub tag_stays : {w : Which} {g g' : List Production} → RegroupedGrammar w g g' → (q : ℕ) → tag_of g q ≡ tag_of g' q
tag_stays no_production q = refl
tag_stays (and_production p r) zero = p.same_tag
tag_stays (and_production p r) (suc q) = tag_stays r q

pub produces_stays : {w : Which} {g g' : List Production} → RegroupedGrammar w g g' → (n q : ℕ) → produces g n q ≡ produces g' n q
produces_stays no_production n q = refl
produces_stays (and_production p r) n zero = ap (eqb n) p.same_nonterminal
produces_stays (and_production p r) n (suc q) = produces_stays r n q

pub tags_stay : {w : Which} {g g' : List Production} → RegroupedGrammar w g g' → tags_of g ≡ tags_of g'
tags_stay no_production = refl
tags_stay (and_production p r) = λ i n. only_if (eqb n (p.same_nonterminal i)) (p.same_tag i) ++ tags_stay r i n
