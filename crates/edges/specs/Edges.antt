-- A table of numbers of documents 01 and 02 at their bounds, in the order of the numbers: those of a sheet, of its faults, of a stream's fronts, of states and of a salvage run's sheets. Not every number has a row.
-- Assumes nothing.
use Rattle.std.specs.Prelude.{◌≡◌, Bool, true, false, List, [], ◌∷◌, ◌++◌, ℕ, zero, suc, ◌+◌, ◌-◌, ◌*◌, ◌^◌, ◌/◌, ◌%◌, length, get_or, replicate}
use Rattle.std.proofs.Math.Option.{some}
use Rattle.tokens.specs.declared.Event.{Event}
use Rattle.tokens.specs.declared.Event.TheVariants.{Start, Character}
use Rattle.tokens.specs.declared.Answer.{Answer}
use Rattle.tokens.specs.declared.Answer.TheVariants.{Token}
use Rattle.tokens.specs.Tokens.{front, Means}
use Rattle.tokens.specs.Numbers.{number_of}
use Rattle.expressions.specs.Expr.{star, nothing, tree}
use Rattle.layout.specs.Layout.{Size}
use Rattle.sheet.specs.Tags.{tag_record}
use Rattle.sheet.specs.Defect.{DefectIs}
use Rattle.sheet.specs.Sheet.{Rule, Sheet, IsSheet}
use Rattle.faults.specs.Verdict.{VerdictIs}
use Rattle.faults.specs.Checked.{CheckedAs}
use Rattle.faults.specs.declared.Checked.{Checked}
use Rattle.output.specs.Escape.{start_tag}
use Rattle.runs.specs.Visits.{attributes, no_programs_lem}
use Rattle.runs.specs.Taken.{Passed}
use Rattle.runs.specs.Examples.{rule, sheet_of, child_of, name_A, endless}
use Rattle.salvage.specs.Shape.{OfShape, HasRecords}
use Rattle.salvage.specs.Shaped.{record_tags, shape_number}
use Rattle.state.specs.Bounds.{most_sets}
use Rattle.state.specs.Bytes.{state_from}
use Rattle.state.specs.declared.Saved.{Saved}
use Rattle.state.specs.declared.Frame.{Frame}
use Rattle.state.specs.declared.State.{State}
use Rattle.converter.specs.Answered.{FitsSheet, AnsweredAs}
use Rattle.converter.specs.Bytes.{BytesAnsweredAs}
use Rattle.worked.specs.Worked.{fault, unused, small_word, production_bytes, node_bytes, trailer_bytes}

-- a row: so many bytes, and the number that they have, whichever they are; so many bytes, which have not number 1; bytes and their number;
-- the bytes of a sheet and its number where no list is lent; the same with a lent list, that list then, the number and the count of the faults;
-- bytes of a stream, the event of their first token and how many bytes it has; bytes of a stream and the number of their front, whether more is to come or not;
-- a sheet and a state that fits it; a number of a state, what it is, and the number that a call with such a state is answered with; the same of so many bytes as a state;
-- a sheet that a salvage run takes, with the root's tag and the records'; a sheet that it does not take, and the number
pub data Edge : Type 0 where
  of_length : ℕ → ℕ → Edge
  length_fits : ℕ → Edge
  has_number : List ℕ → ℕ → Edge
  has_verdict : List ℕ → ℕ → Edge
  checks : List ℕ → List ℕ → List ℕ → ℕ → ℕ → Edge
  reads_token : List ℕ → Event → ℕ → Edge
  refuses_front : List ℕ → ℕ → Edge
  state_fits : Sheet → State → Edge
  state_with : (State → ℕ) → ℕ → ℕ → Edge
  state_of_length : ℕ → ℕ → Edge
  has_shape : Sheet → ℕ → ℕ → Edge
  no_shape : Sheet → ℕ → Edge

-- x has the property, and nothing else has
abbrev pub Sole : {A : Type 0} → (A → Type 0) → A → Type 0
Sole {A} P x = P x × ((y : A) → P y → y ≡ x)

-- Of states that do not fit, whatever the sheet is that passes, and whatever the part and the lent output: nothing is taken or written, the output is as lent, and the state
-- is handed back as given.
abbrev pub EdgeHolds : Edge → Type 0
EdgeHolds (of_length k n) = (s : List ℕ) → length s ≡ k → Sole (DefectIs s) n
EdgeHolds (length_fits k) = (s : List ℕ) → length s ≡ k → Size s
EdgeHolds (has_number s n) = Sole (DefectIs s) n
EdgeHolds (has_verdict s n) = Sole (VerdictIs s) n
EdgeHolds (checks s lent after n k) =
    CheckedAs s lent after (record { number = n; count = k }) × ((x : List ℕ) (q : Checked) → CheckedAs s lent x q → (x ≡ after) × (q ≡ record { number = n; count = k }))
EdgeHolds (reads_token s e k) = Sole (Means (front s 0) 0) (Token e (record { at = k }))
EdgeHolds (refuses_front s n) = (x : Answer) × Sole (Means (front s 0) 0) x × ((more : Bool) → number_of more (length s) x ≡ some n)
EdgeHolds (state_fits a z) = FitsSheet a z
EdgeHolds (state_with f k n) =
    (s : List ℕ) (a : Sheet) → IsSheet s a → Passed a → (z : State) → f z ≡ k → (part : List ℕ) (ended : Bool) (lent : List ℕ) →
    AnsweredAs s z part ended lent lent (record { number = n; taken = 0; written = 0; visits = z.count; state = z })
EdgeHolds (state_of_length k n) =
    (s : List ℕ) (a : Sheet) → IsSheet s a → Passed a → (b : List ℕ) → length b ≡ k → (part : List ℕ) (ended : Bool) (lent : List ℕ) →
    BytesAnsweredAs s b b part ended lent lent (record { number = n; taken = 0; written = 0; visits = (state_from b).count })
EdgeHolds (has_shape a t u) = (n : ℕ) × OfShape a n (record { root_tag = t; record_tag = u })
EdgeHolds (no_shape a n) = (HasRecords a → ⊥) × (shape_number (record_tags a) ≡ n)

-- The tags' names, beside a.
abbrev pub name_B : List ℕ
name_B = 98 ∷ []

abbrev pub r : List ℕ
r = 114 ∷ []

-- n tags, and one production, of nonterminal 0 and tag t, with no nodes and no programs
abbrev pub one_production : List ℕ → ℕ → ℕ → List ℕ
one_production tags n t =
    tags ++ (0 ∷ t ∷ (small_word 0 ++ small_word 0 ++ unused ++ unused ++ small_word 0)) ++ trailer_bytes n (16 * n) 1 (16 * n + 12) 0 (16 * n + 12) 0 (16 * n + 12)

-- the production's tag number is the count of the tags; and it is that of the last tag
abbrev pub no_such_tag : List ℕ
no_such_tag = one_production (tag_record name_A) 1 1

abbrev pub last_tag : List ℕ
last_tag = one_production (tag_record name_A ++ tag_record name_B) 2 1

-- tag a, and one production of it and of nonterminal 0: k nodes, the field of its first visit, n bytes of programs; then the start and the mark
abbrev pub one_rule : List ℕ → ℕ → List ℕ → List ℕ → ℕ → List ℕ → List ℕ
one_rule nodes k field programs n ending =
    tag_record name_A ++ production_bytes 0 0 k field unused ++ nodes ++ programs
    ++ (small_word 0 ++ small_word 1 ++ small_word 16 ++ small_word 1 ++ small_word 28 ++ small_word k ++ small_word (28 + 6 * k) ++ small_word n ++ small_word (28 + 6 * k + n) ++ small_word 0) ++ ending

-- with the start n, and nothing else
abbrev pub starts_at : ℕ → List ℕ
starts_at n = one_rule [] 0 unused [] 0 (small_word n ++ 0x58 ∷ 0x53 ∷ [])

-- with other bytes for the mark
abbrev pub marked_by : List ℕ → List ℕ
marked_by mark = one_rule [] 0 unused [] 0 (small_word 0 ++ mark)

-- with a byte between the last section and the trailer, or with none
abbrev pub with_gap : List ℕ → List ℕ
with_gap gap = one_rule [] 0 unused gap 0 (small_word 0 ++ 0x58 ∷ 0x53 ∷ [])

-- with one node, of a kind and an argument
abbrev pub one_node : ℕ → ℕ → List ℕ
one_node kind argument = one_rule (node_bytes kind argument) 1 unused [] 0 (small_word 0 ++ 0x58 ∷ 0x53 ∷ [])

-- with an expression n deep: stars, one in another, and the production's own nonterminal in the innermost
abbrev pub stars_over : ℕ → List ℕ
stars_over zero = node_bytes 1 0
stars_over (suc n) = node_bytes 5 0 ++ stars_over n

abbrev pub deep : ℕ → List ℕ
deep n = one_rule (stars_over (n - 1)) n unused [] 0 (small_word 0 ++ 0x58 ∷ 0x53 ∷ [])

-- with the program "attribute 0 becomes v"
abbrev pub becomes : ℕ → List ℕ
becomes v = one_rule [] 0 (small_word 0) (1 ∷ 0 ∷ v ∷ 0 ∷ []) 4 (small_word 0 ++ 0x58 ∷ 0x53 ∷ [])

-- a number of two bytes, over 255 too
abbrev pub two_bytes : ℕ → List ℕ
two_bytes n = (n % 256) ∷ (n / 256) ∷ []

-- n tags, p productions and k nodes, all of zeros
abbrev pub blanks : ℕ → ℕ → ℕ → List ℕ
blanks n p k =
    let nodes_at_lem : ℕ = 16 * n + 12 * p in
    let end : ℕ = nodes_at_lem + 6 * k in
    replicate end 0 ++ small_word 0 ++ two_bytes n ++ two_bytes (16 * n) ++ two_bytes p ++ two_bytes nodes_at_lem ++ two_bytes k ++ two_bytes end ++ small_word 0 ++ two_bytes end ++ small_word 0 ++ small_word 0 ++ 0x58 ∷ 0x53 ∷ []

-- a*.a: tags r, a; production 0 is r with it, production 1 is a, empty; then more productions, n with those two
abbrev pub star_then_A : List ℕ → ℕ → List ℕ
star_then_A more n =
    tag_record r ++ tag_record name_A ++ production_bytes 0 0 4 unused unused ++ production_bytes 1 4 0 unused unused ++ more
    ++ node_bytes 3 0 ++ node_bytes 5 0 ++ node_bytes 1 1 ++ node_bytes 1 1 ++ trailer_bytes 2 32 n (32 + 12 * n) 4 (56 + 12 * n) 0 (56 + 12 * n)

-- two S faults; and with production 1 once more, a T fault beside them
abbrev pub two_faults : List ℕ
two_faults = star_then_A [] 2

abbrev pub three_faults : List ℕ
three_faults = star_then_A (production_bytes 1 4 0 unused unused) 3

-- <aa..a>, with 30 letters and with 31
abbrev pub tag_of_32_bytes : List ℕ
tag_of_32_bytes = start_tag (replicate 30 97)

abbrev pub tag_of_33_bytes : List ℕ
tag_of_33_bytes = start_tag (replicate 31 97)

-- a reference by number: & # digits ;
abbrev pub reference : List ℕ → List ℕ
reference digits = 38 ∷ 35 ∷ (digits ++ 59 ∷ [])

-- &#:; &#x110000; and &#4294967361; which is 2^32 + 65
abbrev pub no_digit : List ℕ
no_digit = reference (58 ∷ [])

abbrev pub over_last : List ℕ
over_last = reference (120 ∷ 49 ∷ 49 ∷ 48 ∷ 48 ∷ 48 ∷ 48 ∷ [])

abbrev pub over_32_bits : List ℕ
over_32_bits = reference (52 ∷ 50 ∷ 57 ∷ 52 ∷ 57 ∷ 54 ∷ 55 ∷ 51 ∷ 54 ∷ 49 ∷ [])

-- n elements open under n0 ::= a(n0), each at its child, with two sets in use; c visits; closed by k
abbrev pub set_in_use : Saved
set_in_use = record { values = replicate attributes 63; echo = false }

abbrev pub element_in_use : Frame
element_in_use = record { production = 0; place = 1; «open» = 2; saved = replicate most_sets set_in_use }

abbrev pub in_use : ℕ → ℕ → ℕ → State
in_use n c k = record { values = replicate attributes 63; echo = false; count = c; rooted = false; closed = k; depth = n; frames = replicate n element_in_use }

-- a*, of which the root is r, and a, empty; then more productions
abbrev pub records : List Rule → Sheet
records more = sheet_of (r ∷ name_A ∷ name_B ∷ []) (rule 0 (tree (star (child_of 1))) no_programs_lem ∷ rule 1 nothing no_programs_lem ∷ more)

-- the start's second production, whose tag is b
abbrev pub second_start : Rule
second_start = record { production = record { nonterm = 0; tagno = 2; content = tree (star (child_of 1)) }; own = no_programs_lem; of_nodes = replicate 2 no_programs_lem }

-- 1 to 7: sheets that are not well-formed
abbrev pub of_sheets : List Edge
of_sheets =
    -- 1: under 24 or over 27,928 bytes
    of_length 23 1
    ∷ length_fits 24
    ∷ length_fits 27928
    ∷ of_length 27929 1
    -- 2: the mark is 58 53; the trailer follows at once; tags and productions are 1 to 64, nodes at most 256
    ∷ has_number (marked_by (0x53 ∷ 0x58 ∷ [])) 2
    ∷ has_number (with_gap (0 ∷ [])) 2
    ∷ has_number (blanks 0 1 0) 2
    ∷ has_number (blanks 65 1 0) 2
    ∷ has_number (blanks 1 0 0) 2
    ∷ has_number (blanks 1 65 0) 2
    ∷ has_number (blanks 1 1 257) 2
    -- 3: tags have names (those of zeros have none), and are all different
    ∷ has_number (blanks 1 1 0) 3
    ∷ has_number (blanks 64 64 256) 3
    ∷ has_number (one_production (tag_record name_A ++ tag_record name_A) 2 0) 3
    -- 4: a production's tag number is that of a tag, so below their count; the last one is
    ∷ has_number no_such_tag 4
    ∷ has_number last_tag 0
    -- and the start is one of the nonterminals 0 to 63
    ∷ has_number (starts_at 64) 4
    -- 5: kinds are 1 to 6, and nonterminals 0 to 63
    ∷ has_number (one_node 6 0) 0
    ∷ has_number (one_node 7 0) 5
    ∷ has_number (one_node 1 64) 5
    -- and an expression is at most 12 deep
    ∷ has_number (deep 12) 0
    ∷ has_number (deep 13) 5
    -- 6: values are 0 to 63
    ∷ has_number (becomes 63) 0
    ∷ has_number (becomes 64) 6
    -- 7: the start, and each atom's nonterminal, has a production
    ∷ has_number (starts_at 1) 7
    ∷ has_number (starts_at 63) 7
    ∷ has_number (one_node 1 0) 0
    ∷ has_number (one_node 1 1) 7
    ∷ has_number (one_node 1 63) 7
    -- each number over the whole sheet, in number order: a tag and a production are not as above
    ∷ has_number (one_production (tag_record name_A ++ tag_record name_A) 2 2) 3
    ∷ []

-- 8 to 10: sheets with faults
abbrev pub of_faults : List Edge
of_faults =
    -- 8, 9: a T fault; S faults only
    has_verdict three_faults 8
    ∷ has_verdict two_faults 9
    -- 10: faults, but the lent list has under four bytes for each of them; the count is right and nothing is written
    ∷ checks two_faults (replicate 7 0xAA) (replicate 7 0xAA) 10 2
    ∷ checks two_faults (replicate 9 0xAA) (fault 0 0 1 ++ fault 0 1 1 ++ 0xAA ∷ []) 9 2
    ∷ []

-- 20 and 21: the stream's tokens
abbrev pub of_fronts : List Edge
of_fronts =
    -- a line end is the character LF: CR LF, and CR alone, before x
    reads_token (13 ∷ 10 ∷ 120 ∷ []) (Character 10 true) 2
    ∷ reads_token (13 ∷ 120 ∷ []) (Character 10 true) 1
    -- references by number: &#64; &#x40; &#58; and the last character, &#x10FFFF;
    ∷ reads_token (reference (54 ∷ 52 ∷ [])) (Character 64 false) 5
    ∷ reads_token (reference (120 ∷ 52 ∷ 48 ∷ [])) (Character 64 false) 6
    ∷ reads_token (reference (53 ∷ 56 ∷ [])) (Character 58 false) 5
    ∷ reads_token (reference (120 ∷ 49 ∷ 48 ∷ 70 ∷ 70 ∷ 70 ∷ 70 ∷ [])) (Character 0x10FFFF false) 10
    -- the character E000, behind the surrogates
    ∷ reads_token (0xEE ∷ 0x80 ∷ 0x80 ∷ []) (Character 0xE000 true) 3
    -- 20: FF begins no character, and ED BF, a surrogate, none either; the byte behind 9 is no digit; a number is over the last character, and is not taken for another
    ∷ refuses_front (0xFF ∷ []) 20
    ∷ refuses_front (0xED ∷ 0xBF ∷ []) 20
    ∷ refuses_front no_digit 20
    ∷ refuses_front over_last 20
    ∷ refuses_front over_32_bits 20
    -- 21: a 32-byte tag token is read; at 33 it is 21
    ∷ reads_token tag_of_32_bytes (Start 1 30) 32
    ∷ refuses_front tag_of_33_bytes 21
    ∷ []

-- 29: states
abbrev pub of_states : List Edge
of_states =
    -- over 32 open; a closing number other than 0, 20 to 27, 30; a count over 2^62
    state_fits endless (in_use 32 (2 ^ 62) 30)
    ∷ state_with (λ z. z.depth) 33 29
    ∷ state_with (λ z. z.closed) 31 29
    ∷ state_with (λ z. z.count) (2 ^ 62 + 1) 29
    -- a value over 63, of the first attribute and of the eighth
    ∷ state_with (λ z. get_or z.values 0 0) 64 29
    ∷ state_with (λ z. get_or z.values 7 0) 64 29
    -- a state is 3,867 bytes
    ∷ state_of_length 3866 29
    ∷ state_of_length 3868 29
    ∷ []

-- 34: a salvage run is for sheets whose start has one production
abbrev pub of_shapes : List Edge
of_shapes = has_shape (records []) 0 1 ∷ no_shape (records (second_start ∷ [])) 34 ∷ []

abbrev pub edges : List Edge
edges = of_sheets ++ (of_faults ++ (of_fronts ++ (of_states ++ of_shapes)))
