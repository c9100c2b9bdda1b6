-- Regrouping: (a . b) . c for a . (b . c), and (a ∪ b) ∪ c for a ∪ (b ∪ c), anywhere in an expression, as often as one likes and either way round.
-- Assumes nothing.
use Rattle.std.specs.Prelude.{◌≡◌, List, [], ◌∷◌}
use Rattle.expressions.specs.Expr.{Exp, cat, alt, star, Content, nothing, tree}
use Rattle.expressions.specs.Grammar.{Production}

-- which of the two are regrouped: concatenations only, or both
pub data Which : Type 0 where
  concatenations : Which
  concatenations_and_unions : Which

-- one step, in any surroundings
pub data RegroupedOnce : Which → Exp → Exp → Type 0 where
  concatenation : {w : Which} (a b c : Exp) → RegroupedOnce w (cat (cat a b) c) (cat a (cat b c))
  union : (a b c : Exp) → RegroupedOnce concatenations_and_unions (alt (alt a b) c) (alt a (alt b c))
  left_of_cat : {w : Which} {l l' : Exp} (r : Exp) → RegroupedOnce w l l' → RegroupedOnce w (cat l r) (cat l' r)
  right_of_cat : {w : Which} (l : Exp) {r r' : Exp} → RegroupedOnce w r r' → RegroupedOnce w (cat l r) (cat l r')
  left_of_alt : {w : Which} {l l' : Exp} (r : Exp) → RegroupedOnce w l l' → RegroupedOnce w (alt l r) (alt l' r)
  right_of_alt : {w : Which} (l : Exp) {r r' : Exp} → RegroupedOnce w r r' → RegroupedOnce w (alt l r) (alt l r')
  under_star : {w : Which} {e e' : Exp} → RegroupedOnce w e e' → RegroupedOnce w (star e) (star e')

-- any number of steps, one after another, each forth or back
pub data Regrouped (w : Which) : Exp → Exp → Type 0 where
  as_it_is : {e : Exp} → Regrouped w e e
  step : {e e' : Exp} → RegroupedOnce w e e' → Regrouped w e e'
  back : {e e' : Exp} → Regrouped w e e' → Regrouped w e' e
  then : {e e' e'' : Exp} → Regrouped w e e' → Regrouped w e' e'' → Regrouped w e e''

-- a production's expression, and a grammar: the same nonterminals and tags in the same order, each expression regrouped
pub data RegroupedContent (w : Which) : Content → Content → Type 0 where
  still_nothing : RegroupedContent w nothing nothing
  regrouped_tree : {e e' : Exp} → Regrouped w e e' → RegroupedContent w (tree e) (tree e')

pub record RegroupedProduction (w : Which) (d d' : Production) : Type 0 where
  pub same_nonterminal : d.nonterm ≡ d'.nonterm
  pub same_tag : d.tagno ≡ d'.tagno
  pub expression : RegroupedContent w d.content d'.content

pub data RegroupedGrammar (w : Which) : List Production → List Production → Type 0 where
  no_production : RegroupedGrammar w [] []
  and_production : {d d' : Production} {g g' : List Production} → RegroupedProduction w d d' → RegroupedGrammar w g g' → RegroupedGrammar w (d ∷ g) (d' ∷ g')
