-- The place before the first byte is one.
-- Assumes nothing.
use Rattle.std.proofs.Common.{◌≡◌, ℕ, []}
use Rattle.places.specs.Lines.{how_many, last_line, PlaceIs}
use Rattle.places.specs.declared.Place.{Place}
use Rattle.standing.specs.Standings.{first_place}

placed : (offset line column : ℕ) → offset ≡ 0 → line ≡ 1 → column ≡ 1 → ◌≡◌ {A = Place} (record { offset = offset; line = line; column = column }) first_place
placed offset line column o l c = rw (o, l, c)

pub at_first : (p : Place) → PlaceIs [] p → p ≡ first_place
unfolding how_many last_line
at_first p is = placed p.offset p.line p.column is.offset is.line is.column
