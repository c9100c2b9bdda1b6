-- What an ink is promised to hold: the bytes of the program that the machine reads, token by token. Assumes nothing.
use Rattle.std.specs.Prelude.{◌≡◌, Bool, List, ℕ}
use Rattle.std.proofs.Math.Option.{some}
use Rattle.programs.specs.Program.{program_bytes}
use Rattle.programs.specs.Parsed.{which_visit}
use Rattle.notation.specs.Program.{TextProgram, program_in}
use Rattle.notation.specs.Tokens.{TextToken}
use Rattle.reading.specs.Statements.{Listing, list_start, value_of_list}
use Rattle.lexemes.specs.Kinds.{token_kind, token_number, TokenFits}
use Rattle.outlines.specs.Promises.{MachineKeeps}
use Rattle.strokes.specs.Strokes.{no_ink, writes, inked, stroke_of, item_bytes, sealed_bytes}
use Rattle.strokes.specs.Promises.{InksAre, NoItem, ItemAt}
use Rattle.pages.specs.declared.Page.{Page}
use Rattle.pages.specs.Pages.{page_text, PageIs}
use Rattle.inks.specs.declared.Ink.{Ink}
use Rattle.inks.specs.Held.{inks_in, Trim, InkIs}

-- the ink holds the program that is being read, where `tag` numbers the names and `offset` says where each string lies
pub record Inked (tag offset : List ℕ → ℕ) (q : Listing) (i : Ink) : Type 0 where
  pub trim : Trim i
  pub are : InksAre tag offset q (inks_in i)

abbrev pub StartsInked : Type 0
StartsInked = (tag offset : List ℕ → ℕ) (i : Ink) → InkIs no_ink i → Inked tag offset list_start i

-- a token that the machine takes within the limits, and that is no item of a print
abbrev pub PutsInked : Type 0
PutsInked = (tag offset : List ℕ → ℕ) (second : Bool) (q q' : Listing) (t : TextToken) (i r : Ink) → Inked tag offset q i → NoItem t → TokenFits t
    → MachineKeeps (which_visit second) q t q' → InkIs (inked (stroke_of second (token_kind t) (token_number t)) (inks_in i)) r → Inked tag offset q' r

-- an item of a print, with its tag's number or its string's place
abbrev pub ItemsInked : Type 0
ItemsInked = (tag offset : List ℕ → ℕ) (second : Bool) (q q' : Listing) (t : TextToken) (place : ℕ) (i r : Ink) → Inked tag offset q i → ItemAt tag offset place t → TokenFits t
    → MachineKeeps (which_visit second) q t q' → InkIs (inked (writes (item_bytes (token_kind t) place (token_number t))) (inks_in i)) r → Inked tag offset q' r

-- where the program may end
abbrev pub SealsInked : Type 0
SealsInked = (tag offset : List ℕ → ℕ) (q : Listing) (p : TextProgram) (i : Ink) (r : Page) → Inked tag offset q i → value_of_list q ≡ some p
    → PageIs (sealed_bytes (inks_in i)) r → page_text r ≡ program_bytes (program_in tag offset p)

-- one program at most is the answer
abbrev pub OnePage : Type 0
OnePage = (xs : List ℕ) (r t : Page) → PageIs xs r → PageIs xs t → page_text r ≡ page_text t
