-- What a token of each kind does where a reader stands, and whether the shortest continuation of a place keeps the limits. Assumes nothing.
use Rattle.std.specs.Prelude.{Bool, true, false, ◌&&◌, ◌||◌, List, [], ◌∷◌, ℕ, suc, ◌+◌, ltb, length, get_or}
use Rattle.std.proofs.Math.Option.{Option, none, some}
use Rattle.limits.specs.Limits.{most_productions, most_nodes, nodes_at_most, deepest_tree}
use Rattle.programs.specs.Limits.{Visit, first, second}
use Rattle.notation.specs.Statements.{parentheses}
use Rattle.sketches.specs.declared.Figure.{Figure}
use Rattle.sketches.specs.declared.Surround.{Surround}
use Rattle.sketches.specs.declared.Paren.{Paren}
use Rattle.sketches.specs.declared.Point.{Point}
use Rattle.sketches.specs.declared.Point.TheVariants.{Beginning, FirstWord, Named, Defined, OwnFront, WantsTag, Tagged, Wants, InFront, After, Behind, Over, Closed, OwnBack, Complete}
use Rattle.sketches.specs.declared.Inside.{Inside}
use Rattle.sketches.specs.declared.Outside.{Outside}
use Rattle.sketches.specs.declared.Move.{Move}
use Rattle.sketches.specs.Figures.{figure, beside, paren, lone, starred, joined_to, whole_in, left_of, held_in, clash, fronted_by, nodes_with, depth_with, bare, inner_of, just_opened}

-- what the kinds are, by number
abbrev pub insides : List Inside
insides =
    Inside.Leaf ∷ Inside.Other ∷ Inside.Other ∷ Inside.Other ∷ Inside.Other ∷ Inside.Other ∷ Inside.Other ∷ Inside.Other ∷ Inside.Other ∷ Inside.Other
    ∷ Inside.Leaf ∷ Inside.Other ∷ Inside.Other ∷ Inside.Other ∷ Inside.Other ∷ Inside.Other ∷ Inside.Other ∷ Inside.Other ∷ Inside.Other ∷ Inside.Other ∷ Inside.Other ∷ Inside.Other ∷ Inside.Other
    ∷ Inside.Other ∷ Inside.Other ∷ Inside.Open ∷ Inside.Close ∷ Inside.Brace ∷ Inside.Other ∷ Inside.Dot ∷ Inside.Bar ∷ Inside.Star ∷ Inside.Other ∷ Inside.Other ∷ Inside.Leaf ∷ []

abbrev pub outsides : List Outside
outsides =
    Outside.Nonterminal ∷ Outside.Other ∷ Outside.Other ∷ Outside.Other ∷ Outside.Other ∷ Outside.Name ∷ Outside.Other ∷ Outside.Other ∷ Outside.Other ∷ Outside.Other
    ∷ Outside.Other ∷ Outside.Other ∷ Outside.Other ∷ Outside.Other ∷ Outside.Other ∷ Outside.Other ∷ Outside.Other ∷ Outside.Other ∷ Outside.Other ∷ Outside.Other ∷ Outside.Other ∷ Outside.Other ∷ Outside.Other
    ∷ Outside.Definition ∷ Outside.Other ∷ Outside.Open ∷ Outside.Other ∷ Outside.Brace ∷ Outside.Other ∷ Outside.Other ∷ Outside.Other ∷ Outside.Other ∷ Outside.Other ∷ Outside.Other ∷ Outside.Other ∷ []

abbrev pub inside_of : ℕ → Inside
inside_of k = get_or insides k Inside.Other

abbrev pub outside_of : ℕ → Outside
outside_of k = get_or outsides k Outside.Other

abbrev pub move_if : Bool → Move → Move
move_if true m = m
move_if false m = Move.Refused

abbrev pub unless : Bool → Move → Move
unless true m = Move.Refused
unless false m = m

-- where an operand is wanted; just behind a parenthesis a program too, and in the tag's own pair nothing
abbrev pub wanted : Bool → Paren → Inside → Move
wanted b p Inside.Leaf = Move.To (After lone p)
wanted b p Inside.Star = Move.Refused
wanted b p Inside.Dot = Move.Refused
wanted b p Inside.Bar = Move.Refused
wanted b p Inside.Open = Move.Opened p
wanted b p Inside.Close = move_if b Move.Emptied
wanted b p Inside.Brace = move_if b (Move.To (InFront p.surround))
wanted b p Inside.Other = Move.Refused

-- behind an operand
abbrev pub dotted : Figure → Paren → Paren
dotted e p = paren p.before p.union (left_of (joined_to p.cat e)) p.surround

abbrev pub barred : Figure → Paren → Paren
barred e p = paren p.before (left_of (whole_in p e)) (beside false 0 0) p.surround

abbrev pub shut : Bool → Figure → Move
shut b e = unless (clash b e) (Move.Closed (fronted_by b e))

abbrev pub backed_by : Bool → Surround → Figure → Move
backed_by b m e = unless (clash b e || e.second) (Move.To (Behind (figure e.nodes e.depth (b || e.first) true) m))

abbrev pub behind_operand : Figure → Paren → Inside → Move
behind_operand e p Inside.Leaf = Move.Refused
behind_operand e p Inside.Star = Move.To (After (starred e) p)
behind_operand e p Inside.Dot = Move.To (Wants false (dotted e p))
behind_operand e p Inside.Bar = Move.To (Wants false (barred e p))
behind_operand e p Inside.Open = Move.Refused
behind_operand e p Inside.Close = shut p.before (whole_in p e)
behind_operand e p Inside.Brace = backed_by p.before p.surround (whole_in p e)
behind_operand e p Inside.Other = Move.Refused

-- behind the program behind
abbrev pub finishing : Figure → Inside → Move
finishing e Inside.Leaf = Move.Refused
finishing e Inside.Star = Move.Refused
finishing e Inside.Dot = Move.Refused
finishing e Inside.Bar = Move.Refused
finishing e Inside.Open = Move.Refused
finishing e Inside.Close = Move.Closed e
finishing e Inside.Brace = Move.Refused
finishing e Inside.Other = Move.Refused

-- outside expressions: what a nonterminal, a name, ::=, ( or { does
abbrev pub choice : Outside → Move → Move → Move → Move → Move → Move
choice Outside.Nonterminal n t d o b = n
choice Outside.Name n t d o b = t
choice Outside.Definition n t d o b = d
choice Outside.Open n t d o b = o
choice Outside.Brace n t d o b = b
choice Outside.Other n t d o b = Move.Refused

abbrev pub refusal : Move
refusal = Move.Refused

-- of a token by what it is, outside programs
abbrev pub move_as : Point → Outside → Inside → Move
move_as Beginning o i = choice o (Move.To FirstWord) refusal refusal refusal refusal
move_as FirstWord o i = choice o (Move.To Named) refusal (Move.To Defined) refusal refusal
move_as Named o i = choice o refusal refusal (Move.To Defined) refusal refusal
move_as Defined o i = choice o refusal (Move.To Tagged) refusal refusal (Move.To OwnFront)
move_as OwnFront o i = refusal
move_as WantsTag o i = choice o refusal (Move.To Tagged) refusal refusal refusal
move_as Tagged o i = choice o refusal refusal refusal (Move.To (Wants true (just_opened bare))) refusal
move_as (Wants b p) o i = wanted b p i
move_as (InFront m) o i = refusal
move_as (After e p) o i = behind_operand e p i
move_as (Behind e m) o i = refusal
move_as (Over e m) o i = finishing e i
move_as (Closed n) o i = choice o (Move.Next n) refusal refusal refusal (Move.To (OwnBack n))
move_as (OwnBack n) o i = refusal
move_as (Complete n) o i = choice o (Move.Next n) refusal refusal refusal refusal

abbrev pub move_of : Point → ℕ → Move
move_of p k = move_as p (outside_of k) (inside_of k)

-- a place in a text: the point, the pairs of parentheses around, innermost first, and how many productions and nodes stand before this production
pub record Sketch : Type 0 where
  pub point : Point
  pub around : List Paren
  pub productions : ℕ
  pub earlier : ℕ

abbrev pub sketched : Point → List Paren → ℕ → ℕ → Sketch
sketched p a q n = record { point = p; around = a; productions = q; earlier = n }

-- before the first token
abbrev pub sketch_start : Sketch
sketch_start = sketched Beginning [] 0 0

abbrev pub opened_if : Bool → Paren → Sketch → Option Sketch
opened_if true p k = some (sketched (Wants true (just_opened (inner_of p))) (p ∷ k.around) k.productions k.earlier)
opened_if false p k = none

abbrev pub closed_in : List Paren → Figure → Sketch → Option Sketch
closed_in [] e k = some (sketched (Closed e.nodes) [] k.productions k.earlier)
closed_in (p ∷ ps) e k = some (sketched (After e p) ps k.productions k.earlier)

abbrev pub emptied_in : List Paren → Sketch → Option Sketch
emptied_in [] k = some (sketched (Closed 0) [] k.productions k.earlier)
emptied_in (p ∷ ps) k = none

abbrev pub after_move_lem : Sketch → Move → Option Sketch
after_move_lem k Move.Refused = none
after_move_lem k (Move.To p) = some (sketched p k.around k.productions k.earlier)
after_move_lem k (Move.Opened p) = opened_if (ltb (length k.around) parentheses) p k
after_move_lem k (Move.Closed e) = closed_in k.around e k
after_move_lem k Move.Emptied = emptied_in k.around k
after_move_lem k (Move.Next n) = some (sketched Named k.around (k.productions + 1) (k.earlier + n))

-- the shortest continuation's expression: its nodes and its depth, where that is not known to keep the limits yet
abbrev pub none_or : {A : Type 0} → List Paren → A → A → A
none_or [] x y = x
none_or (p ∷ ps) x y = y

abbrev pub nodes_there : Point → List Paren → ℕ
nodes_there Beginning ps = 0
nodes_there FirstWord ps = 0
nodes_there Named ps = 0
nodes_there Defined ps = 0
nodes_there OwnFront ps = 0
nodes_there WantsTag ps = 0
nodes_there Tagged ps = 0
nodes_there (Wants true p) ps = none_or ps 0 (nodes_with p.surround lone)
nodes_there (Wants false p) ps = nodes_with p.surround (held_in p lone)
nodes_there (InFront m) ps = nodes_with m (figure 1 1 true false)
nodes_there (After e p) ps = nodes_with p.surround (held_in p e)
nodes_there (Behind e m) ps = nodes_with m e
nodes_there (Over e m) ps = nodes_with m e
nodes_there (Closed n) ps = n
nodes_there (OwnBack n) ps = n
nodes_there (Complete n) ps = n

abbrev pub depth_there : Point → List Paren → ℕ
depth_there Beginning ps = 0
depth_there FirstWord ps = 0
depth_there Named ps = 0
depth_there Defined ps = 0
depth_there OwnFront ps = 0
depth_there WantsTag ps = 0
depth_there Tagged ps = 0
depth_there (Wants true p) ps = none_or ps 0 (depth_with p.surround lone)
depth_there (Wants false p) ps = depth_with p.surround (held_in p lone)
depth_there (InFront m) ps = depth_with m (figure 1 1 true false)
depth_there (After e p) ps = depth_with p.surround (held_in p e)
depth_there (Behind e m) ps = depth_with m e
depth_there (Over e m) ps = depth_with m e
depth_there (Closed n) ps = 0
depth_there (OwnBack n) ps = 0
depth_there (Complete n) ps = 0

-- the limits of a text
abbrev pub keeps : ℕ → ℕ → ℕ → ℕ → Bool
keeps productions earlier nodes depth = ltb productions most_productions && (ltb (earlier + nodes) (suc most_nodes) && (ltb nodes (suc nodes_at_most) && ltb depth (suc deepest_tree)))

abbrev pub sketch_fits : Sketch → Bool
sketch_fits k = keeps k.productions k.earlier (nodes_there k.point k.around) (depth_there k.point k.around)

abbrev pub sketch_if : Bool → Sketch → Option Sketch
sketch_if true k = some k
sketch_if false k = none

abbrev pub where_fit : Option Sketch → Option Sketch
where_fit none = none
where_fit (some k) = sketch_if (sketch_fits k) k

-- a token of a kind, outside programs
abbrev pub step_sketch : Sketch → ℕ → Option Sketch
step_sketch k kind = where_fit (after_move_lem k (move_of k.point kind))

-- the visit whose program is being read, and the point behind that program
abbrev pub program_at : Point → Option Visit
program_at Beginning = none
program_at FirstWord = none
program_at Named = none
program_at Defined = none
program_at OwnFront = some first
program_at WantsTag = none
program_at Tagged = none
program_at (Wants b p) = none
program_at (InFront m) = some first
program_at (After e p) = none
program_at (Behind e m) = some second
program_at (Over e m) = none
program_at (Closed n) = none
program_at (OwnBack n) = some second
program_at (Complete n) = none

abbrev pub unbraced : Point → Point
unbraced Beginning = Beginning
unbraced FirstWord = FirstWord
unbraced Named = Named
unbraced Defined = Defined
unbraced OwnFront = WantsTag
unbraced WantsTag = WantsTag
unbraced Tagged = Tagged
unbraced (Wants b p) = Wants b p
unbraced (InFront m) = Wants false (paren true (beside false 0 0) (beside false 0 0) m)
unbraced (After e p) = After e p
unbraced (Behind e m) = Over e m
unbraced (Over e m) = Over e m
unbraced (Closed n) = Closed n
unbraced (OwnBack n) = Complete n
unbraced (Complete n) = Complete n

-- behind the program that was read
abbrev pub unbraced_sketch : Sketch → Sketch
unbraced_sketch k = sketched (unbraced k.point) k.around k.productions k.earlier

-- whether a text may end here
abbrev pub text_ends : Point → Bool
text_ends Beginning = false
text_ends FirstWord = false
text_ends Named = false
text_ends Defined = false
text_ends OwnFront = false
text_ends WantsTag = false
text_ends Tagged = false
text_ends (Wants b p) = false
text_ends (InFront m) = false
text_ends (After e p) = false
text_ends (Behind e m) = false
text_ends (Over e m) = false
text_ends (Closed n) = true
text_ends (OwnBack n) = false
text_ends (Complete n) = true
