-- The end of a rule text that has room in a sheet: the sheet, or the length that it needs. Assumes nothing.
use Rattle.std.specs.Prelude.{◌≡◌, List, ℕ}
use Rattle.notation.specs.Rules.{Rules}
use Rattle.notation.specs.RuleText.{RuleText}
use Rattle.encoding.specs.Distinct.{run_together}
use Rattle.encoding.specs.Encoded.{Room, tags_stored, strings_stored, programs_stored}
use Rattle.stores.specs.Rows.{RowsIn}
use Rattle.packing.specs.Packed.{productions_section, nodes_section}
use Rattle.writing.specs.Written.{WrittenAs}
use Rattle.sealing.specs.declared.Outcome.{Outcome}

-- a store of tags, and sections, that are those of rules
pub record SectionsOf (r : Rules) (bytes ends : List ℕ) (count : ℕ) (productions nodes programs strings : List ℕ) (start : ℕ) : Type 0 where
  pub tags_are : RowsIn bytes ends count (tags_stored r)
  pub productions_are : productions ≡ productions_section r 0 r.productions
  pub nodes_are : nodes ≡ nodes_section r r.productions
  pub programs_are : programs ≡ run_together (programs_stored r)
  pub strings_are : strings ≡ run_together (strings_stored r)
  pub start_is : start ≡ r.start

pub record SealedIs (bytes ends : List ℕ) (count : ℕ) (productions nodes programs strings : List ℕ) (start : ℕ) (area after : List ℕ) (o : Outcome) : Type 0 where
  pub is : (text : List ℕ) (r : Rules) → RuleText text r → Room r → SectionsOf r bytes ends count productions nodes programs strings start → WrittenAs text area o.number o.count after
