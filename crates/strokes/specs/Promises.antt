-- What is promised of the bytes of a program while it is read: they follow the machine token by token. Assumes nothing.
use Rattle.std.specs.Prelude.{◌≡◌, Bool, List, ◌∷◌, ℕ, ◌<◌}
use Rattle.std.proofs.Math.Option.{some}
use Rattle.text.specs.Characters.{utf8s}
use Rattle.programs.specs.Program.{program_bytes}
use Rattle.programs.specs.Parsed.{which_visit}
use Rattle.notation.specs.Program.{TextProgram, program_in}
use Rattle.notation.specs.Limits.{ProgramWithin}
use Rattle.notation.specs.Tokens.{TextToken, nonterminal, value, attribute, name, start_tag, end_tag, empty_tag, string, word, sign}
use Rattle.reading.specs.Conditions.{Reading}
use Rattle.reading.specs.Statements.{Listing, wants, target, assigning, printing, testing, after, list_start, value_of_list, finished_list}
use Rattle.lexemes.specs.Kinds.{token_kind, token_number, TokenFits}
use Rattle.outlines.specs.Statements.{outline}
use Rattle.outlines.specs.Shape.{SoundOutline}
use Rattle.outlines.specs.Promises.{MachineKeeps}
use Rattle.strokes.specs.Conditions.{ors_on, ands_on, levels_in, mode_of}
use Rattle.strokes.specs.Bodies.{test_front, ink_of, marks_in}
use Rattle.strokes.specs.Strokes.{Inks, no_ink, writes, inked, stroke_of, item_bytes, sealed_bytes}

-- in a condition that begins behind xs
pub record TestIs (xs : List ℕ) (r : Reading) (s : Inks) : Type 0 where
  pub mode_is : s.mode ≡ mode_of r
  pub ors_are : s.ors ≡ ors_on xs (levels_in r)
  pub ands_are : s.ands ≡ ands_on xs (levels_in r)

pub record TargetIs (m a : ℕ) (s : Inks) : Type 0 where
  pub mode_is : s.mode ≡ m
  pub target_is : s.target ≡ a

abbrev pub StageIs : (List ℕ → ℕ) → (List ℕ → ℕ) → Listing → Inks → Type 0
StageIs tag offset (wants w l ls) s = s.mode ≡ 0
StageIs tag offset (target a l ls) s = TargetIs 0 a s
StageIs tag offset (assigning a l ls) s = TargetIs 1 a s
StageIs tag offset (printing l ls) s = s.mode ≡ 0
StageIs tag offset (testing r l ls) s = TestIs (test_front tag offset (l ∷ ls)) r s
StageIs tag offset (after b p l ls) s = s.mode ≡ 0

-- the bytes of where the machine stands, and what is needed to go on
pub record DrawnInk (tag offset : List ℕ → ℕ) (q : Listing) (s : Inks) : Type 0 where
  pub bytes_are : s.bytes ≡ ink_of tag offset q
  pub marks_are : s.marks ≡ marks_in q
  pub stage_is : StageIs tag offset q s

-- of a state that was reached within the limits
pub record InksAre (tag offset : List ℕ → ℕ) (q : Listing) (s : Inks) : Type 0 where
  pub drawn : DrawnInk tag offset q s
  pub sound : SoundOutline (outline q)
  pub within : ProgramWithin (finished_list q)

-- a token that is no item of a print
abbrev pub NoItem : TextToken → Type 0
NoItem (nonterminal n) = Unit {0}
NoItem (value v) = Unit {0}
NoItem (attribute m a) = Unit {0}
NoItem (name n) = Unit {0}
NoItem (start_tag n) = ⊥
NoItem (end_tag n) = ⊥
NoItem (empty_tag n) = ⊥
NoItem (string cs) = ⊥
NoItem (word w) = Unit {0}
NoItem (sign s) = Unit {0}

-- an item whose tag has that number, or whose string lies at that place
pub record TagNumbered (tag : List ℕ → ℕ) (n : List ℕ) (place : ℕ) : Type 0 where
  pub numbered : place ≡ tag n
  pub small : place < 256

pub record StringAt (offset : List ℕ → ℕ) (s : List ℕ) (place : ℕ) : Type 0 where
  pub lies : place ≡ offset s
  pub small : place < 65536

abbrev pub ItemAt : (List ℕ → ℕ) → (List ℕ → ℕ) → ℕ → TextToken → Type 0
ItemAt tag offset place (nonterminal n) = ⊥
ItemAt tag offset place (value v) = ⊥
ItemAt tag offset place (attribute m a) = ⊥
ItemAt tag offset place (name n) = ⊥
ItemAt tag offset place (start_tag n) = TagNumbered tag n place
ItemAt tag offset place (end_tag n) = TagNumbered tag n place
ItemAt tag offset place (empty_tag n) = TagNumbered tag n place
ItemAt tag offset place (string cs) = StringAt offset (utf8s cs) place
ItemAt tag offset place (word w) = ⊥
ItemAt tag offset place (sign s) = ⊥

abbrev pub StartsBlank : Type 0
StartsBlank = (tag offset : List ℕ → ℕ) → InksAre tag offset list_start no_ink

-- a token that the machine takes within the limits
abbrev pub TokensDraw : Type 0
TokensDraw = (tag offset : List ℕ → ℕ) (second : Bool) (q q' : Listing) (t : TextToken) (s : Inks) → InksAre tag offset q s → NoItem t → TokenFits t
    → MachineKeeps (which_visit second) q t q' → InksAre tag offset q' (inked (stroke_of second (token_kind t) (token_number t)) s)

abbrev pub ItemsDraw : Type 0
ItemsDraw = (tag offset : List ℕ → ℕ) (second : Bool) (q q' : Listing) (t : TextToken) (place : ℕ) (s : Inks) → InksAre tag offset q s → ItemAt tag offset place t → TokenFits t
    → MachineKeeps (which_visit second) q t q' → InksAre tag offset q' (inked (writes (item_bytes (token_kind t) place (token_number t))) s)

-- where the program may end
abbrev pub SealsWhole : Type 0
SealsWhole = (tag offset : List ℕ → ℕ) (q : Listing) (p : TextProgram) (s : Inks) → InksAre tag offset q s → value_of_list q ≡ some p → sealed_bytes s ≡ program_bytes (program_in tag offset p)
