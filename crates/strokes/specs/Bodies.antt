-- The bytes that a program has so far while it is read, where `tag` numbers the names and `offset` says where each string lies. Assumes nothing.
use Rattle.std.specs.Prelude.{List, [], ◌∷◌, ◌++◌, ℕ}
use Rattle.programs.specs.Program.{condition_bytes, statement_bytes}
use Rattle.notation.specs.Program.{TextProgram, done, step, statement_in}
use Rattle.reading.specs.Statements.{Pending, in_then, in_else, ListLevel, Listing, wants, target, assigning, printing, testing, after}
use Rattle.strokes.specs.Conditions.{reading_on}

-- without the closing 0
abbrev pub body_bytes : (List ℕ → ℕ) → (List ℕ → ℕ) → TextProgram → List ℕ
body_bytes tag offset done = []
body_bytes tag offset (step t p) = statement_bytes (statement_in tag offset t) ++ body_bytes tag offset p

-- an if up to the branch in which the place lies
abbrev pub pending_bytes : (List ℕ → ℕ) → (List ℕ → ℕ) → Pending → List ℕ
pending_bytes tag offset (in_then c) = 10 ∷ condition_bytes c
pending_bytes tag offset (in_else c q) = 10 ∷ (condition_bytes c ++ (body_bytes tag offset q ++ 0 ∷ []))

-- behind xs, innermost first
abbrev pub ifs_on : (List ℕ → ℕ) → (List ℕ → ℕ) → List ℕ → List Pending → List ℕ
ifs_on tag offset xs [] = xs
ifs_on tag offset xs (f ∷ fs) = ifs_on tag offset xs fs ++ pending_bytes tag offset f

-- all that stands before the place in the lists around it, innermost first
abbrev pub front_of : (List ℕ → ℕ) → (List ℕ → ℕ) → List ListLevel → List ℕ
front_of tag offset [] = []
front_of tag offset (l ∷ ls) = ifs_on tag offset (front_of tag offset ls ++ body_bytes tag offset l.before) l.ifs

-- where a condition begins: behind its if
abbrev pub test_front : (List ℕ → ℕ) → (List ℕ → ℕ) → List ListLevel → List ℕ
test_front tag offset ls = front_of tag offset ls ++ 10 ∷ []

abbrev pub ink_of : (List ℕ → ℕ) → (List ℕ → ℕ) → Listing → List ℕ
ink_of tag offset (wants w l ls) = front_of tag offset (l ∷ ls)
ink_of tag offset (target a l ls) = front_of tag offset (l ∷ ls)
ink_of tag offset (assigning a l ls) = front_of tag offset (l ∷ ls)
ink_of tag offset (printing l ls) = front_of tag offset (l ∷ ls)
ink_of tag offset (testing r l ls) = reading_on (test_front tag offset (l ∷ ls)) r
ink_of tag offset (after b p l ls) = front_of tag offset (l ∷ ls) ++ body_bytes tag offset p

-- what lies around the place by the number of closing 0s that each owes: 0 a list, 1 an if in its second branch, 2 an if in its first; innermost first
abbrev pub mark_of : Pending → ℕ
mark_of (in_then c) = 2
mark_of (in_else c q) = 1

abbrev pub marks_on : List Pending → List ℕ → List ℕ
marks_on [] ms = ms
marks_on (f ∷ fs) ms = mark_of f ∷ marks_on fs ms

abbrev pub marks_of : List ListLevel → List ℕ
marks_of [] = []
marks_of (l ∷ ls) = marks_on l.ifs (0 ∷ marks_of ls)

abbrev pub marks_in : Listing → List ℕ
marks_in (wants w l ls) = marks_of (l ∷ ls)
marks_in (target a l ls) = marks_of (l ∷ ls)
marks_in (assigning a l ls) = marks_of (l ∷ ls)
marks_in (printing l ls) = marks_of (l ∷ ls)
marks_in (testing r l ls) = marks_of (l ∷ ls)
marks_in (after b p l ls) = marks_of (l ∷ ls)
