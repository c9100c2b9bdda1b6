-- The end of a rule text whose tags, strings and programs are stored: what is kept there, and what is written then. Assumes nothing.
use Rattle.std.specs.Prelude.{◌≡◌, List, [], ℕ, ◌≤◌, length}
use Rattle.std.proofs.Math.Option.{some}
use Rattle.notation.specs.Rules.{Rules}
use Rattle.notation.specs.RuleText.{RuleText}
use Rattle.encoding.specs.Distinct.{run_together}
use Rattle.encoding.specs.Encoded.{Room, tags_stored, strings_stored, programs_stored}
use Rattle.reading.specs.Rules.{Progress, value_of_rules}
use Rattle.stores.specs.Rows.{RowsIn}
use Rattle.mentions.specs.SoFar.{Tidy}
use Rattle.writing.specs.Written.{WrittenAs}
use Rattle.desks.specs.Kept.{StoresHold, PastHolds}
use Rattle.shelves.specs.declared.Shelved.{Shelved}
use Rattle.shelves.specs.Shelves.{Rowed}
use Rattle.slips.specs.declared.Slip.{Slip}
use Rattle.slips.specs.Slips.{Slipped, SlipFits}
use Rattle.pasts.specs.declared.Past.{Past}
use Rattle.pasts.specs.Pasts.{PastKept}
use Rattle.sealing.specs.declared.Outcome.{Outcome}

-- the bytes of a store's rows
pub record UsedIs (ends : List ℕ) (count n : ℕ) : Type 0 where
  pub is : (bytes : List ℕ) (l : List (List ℕ)) → RowsIn bytes ends count l → n ≡ length (run_together l)

-- all is there
pub record AllThere (text : List ℕ) (r : Rules) (start : ℕ) (counts : Shelved) (past : Past) (tags tagends productions nodes strings stringends programs programends : List ℕ) : Type 0 where
  pub is_text : RuleText text r
  pub room : Room r
  pub production_room : length productions ≡ 768
  pub node_room : length nodes ≡ 1536
  pub start_small : start ≤ 0xFFFF
  pub start_is : start ≡ r.start
  pub tags_held : RowsIn tags tagends counts.tags (tags_stored r)
  pub strings_held : RowsIn strings stringends counts.strings (strings_stored r)
  pub programs_held : RowsIn programs programends counts.programs (programs_stored r)
  pub past_held : PastKept r r.productions [] past productions nodes

pub record SomeReady (start : ℕ) (counts : Shelved) (past : Past) (tags tagends productions nodes strings stringends programs programends : List ℕ) : Type 0 where
  pub text : List ℕ
  pub rules : Rules
  pub ready : AllThere text rules start counts past tags tagends productions nodes strings stringends programs programends

pub record BoundAs (start : ℕ) (counts : Shelved) (past : Past) (tags tagends productions nodes strings stringends programs programends area after : List ℕ) (o : Outcome) : Type 0 where
  pub is : (text : List ℕ) (r : Rules) → AllThere text r start counts past tags tagends productions nodes strings stringends programs programends → WrittenAs text area o.number o.count after

-- a state at which the text may end, and what is kept there
pub record AtTheEnd (text : List ℕ) (r : Rules) (s : Progress) (slip : Slip) (counts : Shelved) (past : Past) (tags tagends productions nodes strings stringends programs programends : List ℕ) : Type 0 where
  pub is_text : RuleText text r
  pub value : value_of_rules s ≡ some r
  pub tidy : Tidy s
  pub rowed : Rowed counts tags tagends strings stringends programs programends
  pub production_room : length productions ≡ 768
  pub node_room : length nodes ≡ 1536
  pub stores : StoresHold r s tags tagends counts.tags strings stringends counts.strings programs programends counts.programs
  pub slipped : Slipped r s slip
  pub slip_fits : SlipFits slip
  pub past_held : PastHolds r s past.productions past.before past.nodes productions nodes

pub record SomeWhole (slip : Slip) (counts : Shelved) (past : Past) (tags tagends productions nodes strings stringends programs programends : List ℕ) : Type 0 where
  pub text : List ℕ
  pub rules : Rules
  pub state : Progress
  pub whole : AtTheEnd text rules state slip counts past tags tagends productions nodes strings stringends programs programends

pub record FinishIs (slip : Slip) (counts : Shelved) (past : Past) (tags tagends productions nodes strings stringends programs programends area after : List ℕ) (o : Outcome) : Type 0 where
  pub is : (text : List ℕ) (r : Rules) (s : Progress) → AtTheEnd text r s slip counts past tags tagends productions nodes strings stringends programs programends → WrittenAs text area o.number o.count after
