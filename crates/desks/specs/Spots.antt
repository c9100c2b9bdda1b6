-- Where a reader of rules stands, by a number. Assumes nothing.
use Rattle.std.specs.Prelude.{ℕ}
use Rattle.reading.specs.Rules.{Progress, beginning, first_word, named, defined, own_front, wants_tag, tagged, within, closed, own_back, complete}
use Rattle.sketches.specs.declared.Point.{Point}
use Rattle.sketches.specs.declared.Point.TheVariants.{Beginning, FirstWord, Named, Defined, OwnFront, WantsTag, Tagged, Wants, InFront, After, Behind, Over, Closed, OwnBack, Complete}

abbrev pub spot : Progress → ℕ
spot beginning = 0
spot (first_word n) = 1
spot (named h) = 2
spot (defined h) = 3
spot (own_front q h) = 4
spot (wants_tag f h) = 5
spot (tagged f t h) = 6
spot (within x f t h) = 7
spot (closed f t e h) = 8
spot (own_back q f t e h) = 9
spot (complete r h) = 10

abbrev pub spot_of : Point → ℕ
spot_of Beginning = 0
spot_of FirstWord = 1
spot_of Named = 2
spot_of Defined = 3
spot_of OwnFront = 4
spot_of WantsTag = 5
spot_of Tagged = 6
spot_of (Wants b p) = 7
spot_of (InFront m) = 7
spot_of (After e p) = 7
spot_of (Behind e m) = 7
spot_of (Over e m) = 7
spot_of (Closed n) = 8
spot_of (OwnBack n) = 9
spot_of (Complete n) = 10
