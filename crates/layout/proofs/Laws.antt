-- Laws of the layout: tests joined by `&`, one answer of a test, and the layout of a sheet that keeps numbers 1 and 2.
-- Assumes nothing.
use mathlib.Core.Path.{◌≡◌}
use mathlib.Core.Bool.{Bool, ◌&&◌}
use mathlib.Core.List.{List}
use Prim.Native.Nat.{ℕ, ◌+◌, ◌*◌}
use native.Mathlib.Omega.{arith}
use lib.ListN.{length}
use lib.Dec.{leb, eqb}
use Rattle.tells.specs.Tells.{Tells}
use Rattle.tells.proofs.Laws.{as_told, both_told, eqb_tells, leb_tells}
use Rattle.layout.specs.Layout.{Size, Sections}
use Rattle.layout.specs.LaidOut.{Follows, LayoutIs, LaidOut}
use Rattle.layout.specs.declared.Layout.{Layout}

pub laid_out : {s : List ℕ} {l : Layout} → LayoutIs s l → Size s → Sections s → LaidOut s l
laid_out i z p =
    record { tags_from = omega arith; tags_before = omega arith; productions_before = omega arith; nodes_before = omega arith; programs_before = omega arith; strings_before = omega arith; small = omega arith; few_tags = omega arith; few_productions = omega arith; few_nodes = omega arith; short_programs = omega arith; short_strings = omega arith; layout_is = i; size = z; sections = p }

pub follows_told : (at end count least most : ℕ) → Tells (Follows at end count least most) (eqb at end && (leb least count && leb count most))
follows_told at end count least most =
    as_told (λ z. record { placed = z.0; enough = z.1.0; few = z.1.1 }) (λ z. (z.placed, (z.enough, z.few)))
    (both_told (eqb_tells at end) (both_told (leb_tells least count) (leb_tells count most)))

-- number 2 from its tests: a section's test says where it starts by the fields before it, and the trailer's numbers are the fields
module _ {s : List ℕ} {l : Layout} (i : LayoutIs s l) where
  sections_from :
      Follows l.tags_at 0 l.tags 1 64 →
      Follows l.productions_at (l.tags_at + 16 * l.tags) l.productions 1 64 →
      Follows l.nodes_at (l.productions_at + 12 * l.productions) l.nodes 0 256 →
      Follows l.programs_at (l.nodes_at + 6 * l.nodes) l.programs 0 16384 →
      Follows l.strings_at (l.programs_at + l.programs) l.strings 0 8192 →
      length s ≡ l.strings_at + l.strings + 24 →
      l.mark ≡ 0x5358 →
      Sections s
  sections_from t p n g z e m =
      record { marked = omega arith; tags_at_lem = omega arith; some_tags = omega arith; few_tags = omega arith; productions_at_lem = omega arith; some_productions = omega arith; few_productions = omega arith; nodes_at_lem = omega arith; few_nodes = omega arith; programs_at_lem = omega arith; short_programs = omega arith; strings_at_lem = omega arith; short_strings = omega arith; trailer_at = omega arith }

  pub sections_told :
      {a b c d e : Bool} →
      Tells (Follows l.tags_at 0 l.tags 1 64) a →
      Tells (Follows l.productions_at (l.tags_at + 16 * l.tags) l.productions 1 64) b →
      Tells (Follows l.nodes_at (l.productions_at + 12 * l.productions) l.nodes 0 256) c →
      Tells (Follows l.programs_at (l.nodes_at + 6 * l.nodes) l.programs 0 16384) d →
      Tells (Follows l.strings_at (l.programs_at + l.programs) l.strings 0 8192) e →
      Tells (Sections s) ((a && b) && ((c && d) && (e && (eqb (length s) (l.strings_at + l.strings + 24) && eqb l.mark 0x5358))))
  sections_told t p n g z =
      as_told (λ x. sections_from x.0.0 x.0.1 x.1.0.0 x.1.0.1 x.1.1.0 x.1.1.1.0 x.1.1.1.1)
      (λ x. ((record { placed = omega arith; enough = omega arith; few = omega arith }, record { placed = omega arith; enough = omega arith; few = omega arith }), ((record { placed = omega arith; enough = omega arith; few = omega arith }, record { placed = omega arith; enough = omega arith; few = omega arith }), (record { placed = omega arith; enough = omega arith; few = omega arith }, (omega arith, omega arith)))))
      (both_told (both_told t p) (both_told (both_told n g) (both_told z (both_told (eqb_tells _ _) (eqb_tells _ _)))))
