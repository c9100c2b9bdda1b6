-- Runs on small sheets: what document 01 says of visits, of echo and of white space, and the numbers that a token is refused with. Assumes nothing.
use Rattle.std.specs.Prelude.{true, false, List, [], ◌∷◌, ℕ, zero, suc}
use Rattle.std.proofs.Math.Option.{none, some}
use Rattle.expressions.specs.Expr.{atom, cat, star, anychar, nothing, tree}
use Rattle.programs.specs.Program.{constant, recalled, equal, negated, both, either, become, copy, recall, print_start, print_text, echo, branch, done}
use Rattle.sheet.specs.Sheet.{Sheet}
use Rattle.output.specs.Escape.{start, end, character}
use Rattle.runs.specs.Visits.{no_programs_lem}
use Rattle.runs.specs.Events.{Event, starts, ends, letter}
use Rattle.runs.specs.Spells.{Token, start_token, end_token, empty_token, literal}
use Rattle.runs.specs.Examples.{Run, accepts, halts, refuses, program, first_only, two_visits, rule, rule_with, sheet_of, child_of, book, name_A, ended, current_is, endless}

abbrev pub open_tag : ℕ → Token
open_tag t = start_token (some t)

abbrev pub close_tag : ℕ → Token
close_tag t = end_token (some t)

abbrev pub empty_tag : ℕ → Token
empty_tag t = empty_token (some t)

-- a second visit gets the values from just after the node's first visit: the root's first visit makes attribute 0 one and its child's makes it two; the
-- root's second visit prints its start tag where it recalls one while neither one nor three is current, and keeps in attribute 1 what it recalls
abbrev pub recalling : Sheet
recalling =
    sheet_of (name_A ∷ book ∷ [])
    (rule 0 (tree (child_of 1))
    (two_visits (become 0 1 ∷ [])
    (branch (both (equal (recalled 0) (constant 1)) (negated (either (current_is 1) (current_is 3)))) (program (print_start 0 ∷ [])) done ∷ recall 1 0 ∷ []))
    ∷ rule 1 nothing (first_only (become 0 2 ∷ copy 2 0 ∷ [])) ∷ [])

-- text, then books: echo is on in the root's first visit, and off in that of book*, node 4
abbrev pub echoing : Sheet
echoing =
    sheet_of (name_A ∷ book ∷ [])
    (rule_with 0 (tree (cat (star (atom anychar)) (star (child_of 1)))) (first_only (echo true ∷ []))
    (no_programs_lem ∷ no_programs_lem ∷ no_programs_lem ∷ first_only (echo false ∷ []) ∷ no_programs_lem ∷ [])
    ∷ rule 1 nothing no_programs_lem ∷ [])

-- books, each of which is empty
abbrev pub books : Sheet
books = sheet_of (name_A ∷ book ∷ []) (rule 0 (tree (star (child_of 1))) (first_only (echo true ∷ [])) ∷ rule 1 nothing no_programs_lem ∷ [])

abbrev pub starts_of_a : ℕ → List Event
starts_of_a zero = []
starts_of_a (suc k) = starts (some 0) ∷ starts_of_a k

-- printed text: the characters A and ≤ from a string
abbrev pub printing : Sheet
printing = record {
  names = name_A ∷ [];
  rules = rule 0 nothing (first_only (print_text 1 4 ∷ [])) ∷ [];
  strings = 0 ∷ 65 ∷ 0xE2 ∷ 0x89 ∷ 0xA4 ∷ [];
  start_nonterminal = 0;
}

abbrev pub examples : List Run
examples =
    -- white space around the root and inside it is no event
    accepts recalling (literal 32 ∷ open_tag 0 ∷ literal 9 ∷ empty_tag 1 ∷ close_tag 0 ∷ literal 10 ∷ []) (ended (2 ∷ 1 ∷ 2 ∷ []) (start name_A ∷ []) 6)
    -- also in an element that only happens to be empty; in one whose production has no nodes it is refused
    ∷ accepts books (open_tag 0 ∷ literal 32 ∷ close_tag 0 ∷ []) (ended [] (start name_A ∷ end name_A ∷ []) 4)
    ∷ halts books (open_tag 0 ∷ open_tag 1 ∷ literal 32 ∷ close_tag 1 ∷ []) 23 (start name_A ∷ start book ∷ []) (literal 32 ∷ close_tag 1 ∷ [])
    -- beside text it is a character
    ∷ accepts echoing (open_tag 0 ∷ literal 32 ∷ empty_tag 1 ∷ close_tag 0 ∷ []) (ended [] (start name_A ∷ character 32 ∷ end name_A ∷ []) 14)
    ∷ accepts printing (empty_tag 0 ∷ []) (ended [] (character 65 ∷ character 0x2264 ∷ []) 2)
    -- the 33rd open element
    ∷ refuses endless (starts_of_a 33) 24 [] (starts (some 0) ∷ [])
    -- an element that cannot end yet
    ∷ refuses recalling (starts (some 0) ∷ ends (some 0) ∷ []) 23 [] (ends (some 0) ∷ [])
    -- another's end tag, and a tag that the sheet lacks
    ∷ refuses recalling (starts (some 0) ∷ ends (some 1) ∷ []) 22 [] (ends (some 1) ∷ [])
    ∷ refuses recalling (starts (some 0) ∷ starts none ∷ []) 23 [] (starts none ∷ [])
    -- a character after the root
    ∷ refuses printing (starts (some 0) ∷ ends (some 0) ∷ letter 97 ∷ []) 26 (character 65 ∷ character 0x2264 ∷ []) (letter 97 ∷ [])
    ∷ []
