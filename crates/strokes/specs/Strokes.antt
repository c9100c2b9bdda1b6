-- What a token does to the bytes of a program that is being read. Assumes nothing.
use Rattle.std.specs.Prelude.{Bool, cond, ◌&&◌, List, [], ◌∷◌, ◌++◌, ℕ, suc, ◌+◌, ◌/◌, ◌%◌, eqb, ltb, length, take, drop, replicate}
use Rattle.limits.specs.Limits.{longest_program}

-- a program that is being read: its bytes so far; what an operand would be, 0 the target of an assignment, 1 what is assigned, 2 a comparison's first, 3 its
-- second; the target; what lies around the place, by the closing 0s that each owes; and for each open parenthesis where an or and an and would be put in
pub record Inks : Type 0 where
  pub bytes : List ℕ
  pub mode : ℕ
  pub target : ℕ
  pub marks : List ℕ
  pub ors : List ℕ
  pub ands : List ℕ

abbrev pub inks : List ℕ → ℕ → ℕ → List ℕ → List ℕ → List ℕ → Inks
inks b m t ms os ns = record { bytes = b; mode = m; target = t; marks = ms; ors = os; ands = ns }

pub data Stroke : Type 0 where
  idle : Stroke
  writes : List ℕ → Stroke  -- bytes as they are
  uses : ℕ → ℕ → Stroke  -- 0 a value, 1 an attribute's current value, 2 the value it had; and which
  assigns tests thens elses begins ends separates conjoins disjoins opens closes : Stroke

-- as many as there are open parentheses with what is around them, and more than what lies around a place
abbrev pub most_stacked : ℕ
most_stacked = 33

-- bytes put behind the others, as far as there is room
abbrev pub written_on : List ℕ → List ℕ → List ℕ
written_on xs bs = take longest_program (xs ++ bs)

-- a byte put in at n, where there is such a place and room
abbrev pub inserted_at : ℕ → ℕ → List ℕ → List ℕ
inserted_at n b xs = cond (ltb (length xs) longest_program) (cond (ltb (length xs) n) xs (take n xs ++ b ∷ drop n xs)) xs

-- one more, where there is room; another first one
abbrev pub stacked : ℕ → List ℕ → List ℕ
stacked m ms = cond (ltb (length ms) most_stacked) (m ∷ ms) ms

abbrev pub topped : ℕ → List ℕ → List ℕ
topped x [] = []
topped x (m ∷ ms) = x ∷ ms

abbrev pub first_of : List ℕ → ℕ
first_of [] = 0
first_of (m ∷ ms) = m

abbrev pub rest_of : List ℕ → List ℕ
rest_of [] = []
rest_of (m ∷ ms) = ms

-- an if in its second branch owes one closing 0, and one in its first two
abbrev pub zeros_of : ℕ → ℕ
zeros_of m = cond (eqb m 1) 1 2

-- the ifs around a place end, up to the list in which it lies
abbrev pub unwound : List ℕ → List ℕ
unwound [] = []
unwound (m ∷ ms) = cond (eqb m 0) (m ∷ ms) (unwound ms)

abbrev pub owed : List ℕ → ℕ
owed [] = 0
owed (m ∷ ms) = cond (eqb m 0) 0 (zeros_of m + owed ms)

-- an else: the ifs that have one end, and the next is in its second branch
abbrev pub skipped : List ℕ → List ℕ
skipped [] = []
skipped (m ∷ ms) = cond (eqb m 1) (skipped ms) (m ∷ ms)

abbrev pub else_owed : List ℕ → ℕ
else_owed [] = 1
else_owed (m ∷ ms) = cond (eqb m 1) (suc (else_owed ms)) 1

-- as the mode says
abbrev pub operand_on : ℕ → ℕ → ℕ → Inks → Inks
operand_on m c n s =
    cond (eqb m 0) (inks s.bytes 0 n s.marks s.ors s.ands)
    (cond (eqb m 1) (inks (written_on s.bytes (suc c ∷ s.target ∷ n ∷ [])) 0 s.target s.marks s.ors s.ands)
    (cond (eqb m 2) (inks (written_on s.bytes (0 ∷ c ∷ n ∷ [])) 3 s.target s.marks s.ors s.ands)
    (inks (written_on s.bytes (c ∷ n ∷ [])) 2 s.target s.marks s.ors s.ands)))

-- a condition that begins behind xs
abbrev pub test_on : List ℕ → Inks → Inks
test_on xs s = inks xs 2 s.target s.marks (length xs ∷ []) (length xs ∷ [])

-- behind an or, with the bytes xs, an and would join what comes
abbrev pub or_on : List ℕ → Inks → Inks
or_on xs s = inks xs s.mode s.target s.marks s.ors (topped (length xs) s.ands)

abbrev pub inked : Stroke → Inks → Inks
inked idle s = s
inked (writes bs) s = inks (written_on s.bytes bs) s.mode s.target s.marks s.ors s.ands
inked (uses c n) s = operand_on s.mode c n s
inked assigns s = inks s.bytes 1 s.target s.marks s.ors s.ands
inked tests s = test_on (written_on s.bytes (10 ∷ [])) s
inked thens s = inks s.bytes 0 s.target (stacked 2 s.marks) s.ors s.ands
inked elses s = inks (written_on s.bytes (replicate (else_owed s.marks) 0)) s.mode s.target (topped 1 (skipped s.marks)) s.ors s.ands
inked begins s = inks s.bytes s.mode s.target (stacked 0 s.marks) s.ors s.ands
inked ends s = inks (written_on s.bytes (replicate (owed s.marks) 0)) s.mode s.target (rest_of (unwound s.marks)) s.ors s.ands
inked separates s = inks (written_on s.bytes (replicate (owed s.marks) 0)) s.mode s.target (unwound s.marks) s.ors s.ands
inked conjoins s = inks (inserted_at (first_of s.ands) 2 s.bytes) s.mode s.target s.marks s.ors s.ands
inked disjoins s = or_on (inserted_at (first_of s.ors) 3 s.bytes) s
inked opens s = inks s.bytes s.mode s.target s.marks (stacked (length s.bytes) s.ors) (stacked (length s.bytes) s.ands)
inked closes s = inks s.bytes s.mode s.target s.marks (rest_of s.ors) (rest_of s.ands)

-- behind the closing brace: the ifs that are still open end, and so does the list
abbrev pub sealed_bytes : Inks → List ℕ
sealed_bytes s = written_on s.bytes (replicate (suc (owed s.marks)) 0)

-- where a program begins
abbrev pub no_ink : Inks
no_ink = inks [] 0 0 (0 ∷ []) [] []

-- an operand of that kind in a visit: $[.a in a second visit is the value that a had
abbrev pub operand_code : Bool → ℕ → ℕ
operand_code second k = cond (eqb k 1) 0 (cond (eqb k 3 && second) 2 1)

-- a token of that kind and number that is no item of a print
abbrev pub plain_stroke : ℕ → Stroke
plain_stroke k = cond (eqb k 11) (writes (8 ∷ [])) (cond (eqb k 12) (writes (9 ∷ [])) (cond (eqb k 13) (writes (4 ∷ [])) idle))

abbrev pub word_stroke : ℕ → Stroke
word_stroke k = cond (eqb k 15) tests (cond (eqb k 16) thens (cond (eqb k 17) elses (cond (eqb k 18) begins (cond (eqb k 19) ends idle))))

abbrev pub sign_stroke : ℕ → Stroke
sign_stroke k =
    cond (eqb k 20) conjoins
    (cond (eqb k 21) disjoins
    (cond (eqb k 22) (writes (1 ∷ []))
    (cond (eqb k 24) assigns
    (cond (eqb k 25) opens
    (cond (eqb k 26) closes
    (cond (eqb k 32) separates idle))))))

abbrev pub stroke_of : Bool → ℕ → ℕ → Stroke
stroke_of second k n = cond (ltb k 5) (uses (operand_code second k) (n % 256)) (cond (ltb k 15) (plain_stroke k) (cond (ltb k 20) (word_stroke k) (sign_stroke k)))

-- an item: of a tag its number, of a string where it lies and how many bytes it has
abbrev pub item_bytes : ℕ → ℕ → ℕ → List ℕ
item_bytes k place len =
    cond (eqb k 6) (5 ∷ (place % 256) ∷ [])
    (cond (eqb k 7) (6 ∷ (place % 256) ∷ [])
    (cond (eqb k 8) (5 ∷ (place % 256) ∷ 6 ∷ (place % 256) ∷ [])
    (cond (eqb k 9) (7 ∷ (place % 256) ∷ (place / 256 % 256) ∷ (len % 256) ∷ []) [])))
