-- The machine that reads declarations byte by byte. Assumes nothing.
use Rattle.std.specs.Prelude.{Bool, true, false, cond, List, [], ◌∷◌, ◌++◌, ℕ, suc, eqb, ltb, length}
use Rattle.std.proofs.Math.Option.{Option, none, some}
use Rattle.limits.specs.Limits.{longest_name}
use Rattle.text.specs.Names.{name_first, name_byte, blank}
use Rattle.reading.specs.Machine.{Machine}
use Rattle.models.specs.Models.{Model, called, sequence, choice, optional, any_number, at_least_one, ContentSpec, nothing_inside, mixed, children, Declaration}

-- what stands to the left within one pair of parentheses: nothing, or models with commas, or with bars
pub data LeftOf : Type 0 where
  fresh : LeftOf
  commas bars : Model → LeftOf

abbrev pub behind_left : LeftOf → Model → Model
behind_left fresh x = x
behind_left (commas y) x = sequence y x
behind_left (bars y) x = choice y x

-- how far a declaration is read; n is the element's name, and ls are the pairs around, innermost first
pub data Phase : Type 0 where
  opening : List ℕ → Phase  -- what is left of <!ELEMENT
  naming : Phase
  named : List ℕ → Phase  -- in the element's name
  contents : List ℕ → Phase  -- where a content may begin
  emptying : List ℕ → List ℕ → Phase  -- what is left of EMPTY
  inside : List ℕ → Phase  -- behind the content's own (
  hashing : List ℕ → List ℕ → Phase  -- what is left of #PCDATA
  mixing : List ℕ → List (List ℕ) → Phase  -- behind #PCDATA or a name
  barred : List ℕ → List (List ℕ) → Phase  -- behind a | of mixed content
  mixed_name : List ℕ → List (List ℕ) → List ℕ → Phase  -- in a name of mixed content
  mixed_closed : List ℕ → List (List ℕ) → Phase  -- behind the ) of mixed content
  wants : List ℕ → LeftOf → List LeftOf → Phase  -- a name or a group
  in_name : List ℕ → List ℕ → LeftOf → List LeftOf → Phase
  marking : List ℕ → Model → LeftOf → List LeftOf → Phase  -- behind a group: a mark may stand here
  after : List ℕ → Model → LeftOf → List LeftOf → Phase
  group_closed : List ℕ → Model → Phase  -- behind the content's own )
  ended : List ℕ → ContentSpec → Phase

pub data Move : Type 0 where
  to : Phase → Move
  over : Declaration → Move

abbrev pub only_if_true : Bool → Phase → Option Move
only_if_true t q = cond t (some (to q)) none

-- a name goes on where it has fewer bytes than the longest
abbrev pub longer : List ℕ → (List ℕ → Phase) → ℕ → Option Move
longer m f b = only_if_true (ltb (length m) longest_name) (f (m ++ b ∷ []))

-- behind a content: >
abbrev pub step_ended : List ℕ → ContentSpec → ℕ → Option Move
step_ended n c b = cond (blank b) (some (to (ended n c))) (cond (eqb b 62) (some (over (record { declared = n; content = c }))) none)

-- a mark, or else what `otherwise` says
abbrev pub step_mark : Model → (Model → Phase) → Option Move → ℕ → Option Move
step_mark x f otherwise b = cond (eqb b 63) (some (to (f (optional x)))) (cond (eqb b 42) (some (to (f (any_number x)))) (cond (eqb b 43) (some (to (f (at_least_one x)))) otherwise))

abbrev pub with_comma : List ℕ → Model → LeftOf → List LeftOf → Option Move
with_comma n x fresh ls = some (to (wants n (commas x) ls))
with_comma n x (commas y) ls = some (to (wants n (commas (sequence y x)) ls))
with_comma n x (bars y) ls = none

abbrev pub with_bar : List ℕ → Model → LeftOf → List LeftOf → Option Move
with_bar n x fresh ls = some (to (wants n (bars x) ls))
with_bar n x (commas y) ls = none
with_bar n x (bars y) ls = some (to (wants n (bars (choice y x)) ls))

abbrev pub closed_group : List ℕ → Model → List LeftOf → Phase
closed_group n x [] = group_closed n x
closed_group n x (l ∷ ls) = marking n x l ls

abbrev pub step_after : List ℕ → Model → LeftOf → List LeftOf → ℕ → Option Move
step_after n x l ls b =
    cond (blank b) (some (to (after n x l ls)))
    (cond (eqb b 44) (with_comma n x l ls)
    (cond (eqb b 124) (with_bar n x l ls)
    (cond (eqb b 41) (some (to (closed_group n (behind_left l x) ls))) none)))

abbrev pub step_marking : List ℕ → Model → LeftOf → List LeftOf → ℕ → Option Move
step_marking n x l ls b = step_mark x (λ y. after n y l ls) (step_after n x l ls b) b

-- a name or a group, with at most p parentheses open at once
abbrev pub step_item : ℕ → List ℕ → LeftOf → List LeftOf → ℕ → Option Move
step_item p n l ls b = cond (name_first b) (some (to (in_name n (b ∷ []) l ls))) (cond (eqb b 40) (only_if_true (ltb (suc (length ls)) p) (wants n fresh (l ∷ ls))) none)

abbrev pub step_mixing : List ℕ → List (List ℕ) → ℕ → Option Move
step_mixing n names b = cond (blank b) (some (to (mixing n names))) (cond (eqb b 124) (some (to (barred n names))) (cond (eqb b 41) (some (to (mixed_closed n names))) none))

abbrev pub unstarred : List ℕ → List (List ℕ) → ℕ → Option Move
unstarred n [] b = step_ended n (mixed []) b
unstarred n (m ∷ names) b = none

abbrev pub step_phase : ℕ → Phase → ℕ → Option Move
step_phase p (opening []) b = only_if_true (blank b) naming
step_phase p (opening (c ∷ rest)) b = only_if_true (eqb b c) (opening rest)
step_phase p naming b = cond (blank b) (some (to naming)) (only_if_true (name_first b) (named (b ∷ [])))
step_phase p (named n) b = cond (name_byte b) (longer n named b) (only_if_true (blank b) (contents n))
step_phase p (contents n) b = cond (blank b) (some (to (contents n))) (cond (eqb b 69) (some (to (emptying n (77 ∷ 80 ∷ 84 ∷ 89 ∷ [])))) (only_if_true (eqb b 40) (inside n)))
step_phase p (emptying n []) b = step_ended n nothing_inside b
step_phase p (emptying n (c ∷ rest)) b = only_if_true (eqb b c) (emptying n rest)
step_phase p (inside n) b = cond (blank b) (some (to (inside n))) (cond (eqb b 35) (some (to (hashing n (80 ∷ 67 ∷ 68 ∷ 65 ∷ 84 ∷ 65 ∷ [])))) (step_item p n fresh [] b))
step_phase p (hashing n []) b = step_mixing n [] b
step_phase p (hashing n (c ∷ rest)) b = only_if_true (eqb b c) (hashing n rest)
step_phase p (mixing n names) b = step_mixing n names b
step_phase p (barred n names) b = cond (blank b) (some (to (barred n names))) (only_if_true (name_first b) (mixed_name n names (b ∷ [])))
step_phase p (mixed_name n names m) b = cond (name_byte b) (longer m (mixed_name n names) b) (step_mixing n (names ++ m ∷ []) b)
step_phase p (mixed_closed n names) b = cond (eqb b 42) (some (to (ended n (mixed names)))) (unstarred n names b)
step_phase p (wants n l ls) b = cond (blank b) (some (to (wants n l ls))) (step_item p n l ls b)
step_phase p (in_name n m l ls) b = cond (name_byte b) (longer m (λ k. in_name n k l ls) b) (step_marking n (called m) l ls b)
step_phase p (marking n x l ls) b = step_marking n x l ls b
step_phase p (after n x l ls) b = step_after n x l ls b
step_phase p (group_closed n x) b = step_mark x (λ y. ended n (children y)) (step_ended n (children x) b) b
step_phase p (ended n c) b = step_ended n c b

-- between declarations, or in one
pub data DtdProgress : Type 0 where
  outside : List Declaration → DtdProgress
  within : List Declaration → Phase → DtdProgress

abbrev pub moved_by : List Declaration → Option Move → Option DtdProgress
moved_by ds none = none
moved_by ds (some (to q)) = some (within ds q)
moved_by ds (some (over d)) = some (outside (ds ++ d ∷ []))

abbrev pub step_declarations : ℕ → DtdProgress → ℕ → Option DtdProgress
step_declarations p (outside ds) b = cond (blank b) (some (outside ds)) (moved_by ds (only_if_true (eqb b 60) (opening (33 ∷ 69 ∷ 76 ∷ 69 ∷ 77 ∷ 69 ∷ 78 ∷ 84 ∷ []))))
step_declarations p (within ds q) b = moved_by ds (step_phase p q b)

abbrev pub value_of_dtd : DtdProgress → Option (List Declaration)
value_of_dtd (outside []) = none
value_of_dtd (outside (d ∷ ds)) = some (d ∷ ds)
value_of_dtd (within ds q) = none

-- the shortest continuation names a and closes
abbrev pub short_name : List ℕ
short_name = 97 ∷ []

abbrev pub around_model : List LeftOf → Model → Model
around_model [] x = x
around_model (l ∷ ls) x = around_model ls (behind_left l x)

abbrev pub finished_phase : Phase → Declaration
finished_phase (opening rest) = record { declared = short_name; content = nothing_inside }
finished_phase naming = record { declared = short_name; content = nothing_inside }
finished_phase (named n) = record { declared = n; content = nothing_inside }
finished_phase (contents n) = record { declared = n; content = nothing_inside }
finished_phase (emptying n rest) = record { declared = n; content = nothing_inside }
finished_phase (inside n) = record { declared = n; content = children (called short_name) }
finished_phase (hashing n rest) = record { declared = n; content = mixed [] }
finished_phase (mixing n names) = record { declared = n; content = mixed names }
finished_phase (barred n names) = record { declared = n; content = mixed (names ++ short_name ∷ []) }
finished_phase (mixed_name n names m) = record { declared = n; content = mixed (names ++ m ∷ []) }
finished_phase (mixed_closed n names) = record { declared = n; content = mixed names }
finished_phase (wants n l ls) = record { declared = n; content = children (around_model (l ∷ ls) (called short_name)) }
finished_phase (in_name n m l ls) = record { declared = n; content = children (around_model (l ∷ ls) (called m)) }
finished_phase (marking n x l ls) = record { declared = n; content = children (around_model (l ∷ ls) x) }
finished_phase (after n x l ls) = record { declared = n; content = children (around_model (l ∷ ls) x) }
finished_phase (group_closed n x) = record { declared = n; content = children x }
finished_phase (ended n c) = record { declared = n; content = c }

abbrev pub finished_dtd : DtdProgress → List Declaration
finished_dtd (outside []) = record { declared = short_name; content = nothing_inside } ∷ []
finished_dtd (outside (d ∷ ds)) = d ∷ ds
finished_dtd (within ds q) = ds ++ finished_phase q ∷ []

abbrev pub dtds : ℕ → Machine ℕ (List Declaration)
dtds p = record { State = DtdProgress; start = outside []; step = step_declarations p; value = value_of_dtd; finished = finished_dtd }
