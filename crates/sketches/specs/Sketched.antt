-- The sketch of a state of the machine. Assumes nothing.
use Rattle.std.specs.Prelude.{true, List, [], ℕ, length}
use Rattle.std.proofs.Math.Option.{Option, none, some}
use Rattle.expressions.specs.Expr.{nodes, depth, nodes_of}
use Rattle.notation.specs.Rules.{Tree, TextRule, expression_of, content_inside}
use Rattle.notation.specs.Limits.{nodes_in_all}
use Rattle.reading.specs.Statements.{Listing}
use Rattle.reading.specs.Expressions.{ExpressionLevel, Parsing, wants, in_front, after, behind, over}
use Rattle.reading.specs.Rules.{Head, Progress, beginning, first_word, named, defined, own_front, wants_tag, tagged, within, closed, own_back, complete}
use Rattle.sketches.specs.declared.Point.{Point}
use Rattle.sketches.specs.declared.Point.TheVariants.{Beginning, FirstWord, Named, Defined, OwnFront, WantsTag, Tagged, Wants, InFront, After, Behind, Over, Closed, OwnBack, Complete}
use Rattle.sketches.specs.Figures.{present, figure, figure_of, surround_of, paren_of, parens_of}
use Rattle.sketches.specs.Moves.{Sketch, sketched}

abbrev pub point_of : Parsing → Point
point_of (wants b l ls) = Wants b (paren_of l ls)
point_of (in_front q ls) = InFront (surround_of ls)
point_of (after e l ls) = After (figure_of e) (paren_of l ls)
point_of (behind q f k ls) = Behind (figure (nodes (expression_of k)) (depth (expression_of k)) (present f) true) (surround_of ls)
point_of (over e ls) = Over (figure_of e) (surround_of ls)

abbrev pub levels_of : Parsing → List ExpressionLevel
levels_of (wants b l ls) = ls
levels_of (in_front q ls) = ls
levels_of (after e l ls) = ls
levels_of (behind q f k ls) = ls
levels_of (over e ls) = ls

abbrev pub nodes_inside : Option Tree → ℕ
nodes_inside e = nodes_of (content_inside e)

abbrev pub at_head : Point → Head → Sketch
at_head p h = sketched p [] (length h.earlier) (nodes_in_all h.earlier)

abbrev pub inside_head : Parsing → Head → Sketch
inside_head x h = sketched (point_of x) (parens_of (levels_of x)) (length h.earlier) (nodes_in_all h.earlier)

abbrev pub sketch : Progress → Sketch
sketch beginning = sketched Beginning [] 0 0
sketch (first_word n) = sketched FirstWord [] 0 0
sketch (named h) = at_head Named h
sketch (defined h) = at_head Defined h
sketch (own_front q h) = at_head OwnFront h
sketch (wants_tag f h) = at_head WantsTag h
sketch (tagged f t h) = at_head Tagged h
sketch (within x f t h) = inside_head x h
sketch (closed f t e h) = at_head (Closed (nodes_inside e)) h
sketch (own_back q f t e h) = at_head (OwnBack (nodes_inside e)) h
sketch (complete r h) = at_head (Complete (nodes_inside r.inside)) h

-- the program that is being read
abbrev pub listing_in : Parsing → Option Listing
listing_in (wants b l ls) = none
listing_in (in_front q ls) = some q
listing_in (after e l ls) = none
listing_in (behind q f k ls) = some q
listing_in (over e ls) = none

abbrev pub listing_of : Progress → Option Listing
listing_of beginning = none
listing_of (first_word n) = none
listing_of (named h) = none
listing_of (defined h) = none
listing_of (own_front q h) = some q
listing_of (wants_tag f h) = none
listing_of (tagged f t h) = none
listing_of (within x f t h) = listing_in x
listing_of (closed f t e h) = none
listing_of (own_back q f t e h) = some q
listing_of (complete r h) = none
