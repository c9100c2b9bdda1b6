-- What has been read of programs keeps their limits, and so do the productions before. Assumes nothing.
use Rattle.std.specs.Prelude.{List, [], ◌∷◌}
use Rattle.notation.specs.Rules.{visits, visits_of, visits_inside}
use Rattle.notation.specs.Limits.{ProgramWithin, OptionWithin, AllWithin, ContentWithin, RuleWithin, EachWithin}
use Rattle.reading.specs.Statements.{finished_list}
use Rattle.reading.specs.Expressions.{ExpressionLevel, Parsing, wants, in_front, after, behind, over}
use Rattle.reading.specs.Rules.{Progress, beginning, first_word, named, defined, own_front, wants_tag, tagged, within, closed, own_back, complete}

abbrev pub LevelKept : ExpressionLevel → Type 0
LevelKept l = OptionWithin l.before × (AllWithin (visits_inside l.alt_left) × AllWithin (visits_inside l.cat_left))

abbrev pub LevelsKept : List ExpressionLevel → Type 0
LevelsKept [] = Unit {0}
LevelsKept (l ∷ ls) = LevelKept l × LevelsKept ls

abbrev pub KeptInside : Parsing → Type 0
KeptInside (wants b l ls) = LevelKept l × LevelsKept ls
KeptInside (in_front q ls) = ProgramWithin (finished_list q) × LevelsKept ls
KeptInside (after e l ls) = AllWithin (visits e) × (LevelKept l × LevelsKept ls)
KeptInside (behind q f k ls) = ProgramWithin (finished_list q) × (OptionWithin f × (AllWithin (visits_of k) × LevelsKept ls))
KeptInside (over e ls) = AllWithin (visits e) × LevelsKept ls

abbrev pub KeptSoFar : Progress → Type 0
KeptSoFar beginning = Unit {0}
KeptSoFar (first_word n) = Unit {0}
KeptSoFar (named h) = EachWithin h.earlier
KeptSoFar (defined h) = EachWithin h.earlier
KeptSoFar (own_front q h) = ProgramWithin (finished_list q) × EachWithin h.earlier
KeptSoFar (wants_tag f h) = OptionWithin f × EachWithin h.earlier
KeptSoFar (tagged f t h) = OptionWithin f × EachWithin h.earlier
KeptSoFar (within x f t h) = KeptInside x × (OptionWithin f × EachWithin h.earlier)
KeptSoFar (closed f t e h) = ContentWithin e × (OptionWithin f × EachWithin h.earlier)
KeptSoFar (own_back q f t e h) = ProgramWithin (finished_list q) × (ContentWithin e × (OptionWithin f × EachWithin h.earlier))
KeptSoFar (complete r h) = RuleWithin r × EachWithin h.earlier
