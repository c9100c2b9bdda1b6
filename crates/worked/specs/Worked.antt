-- The table of document 01's worked examples that have a star, in its order.
-- Assumes nothing.
use Rattle.std.specs.Prelude.{◌≡◌, true, false, List, [], ◌∷◌, ◌++◌, ℕ, ◌+◌, ◌≤◌, length, replicate}
use Rattle.expressions.specs.Expr.{Exp, cat, alt, star, atom, anychar, Content, nothing, tree}
use Rattle.expressions.specs.Grammar.{Production}
use Rattle.expressions.specs.FaultList.{KeepsT, KeepsS, IsFaultList}
use Rattle.programs.specs.Program.{Statement, become, reject, print_start, print_end, echo, branch, done}
use Rattle.sheet.specs.Tags.{tag_record}
use Rattle.sheet.specs.Sheet.{Sheet, grammar_of, IsSheet}
use Rattle.output.specs.Escape.{start_tag, end_tag, render}
use Rattle.runs.specs.Visits.{no_programs_lem, Env}
use Rattle.runs.specs.Taken.{Passed}
use Rattle.runs.specs.Examples.{program, first_only, two_visits, rule, rule_with, sheet_of, child_of, book, current_is}
use Rattle.calls.specs.Accepted.{Accepted}
use Rattle.calls.specs.Explained.{Explained}

-- a row: productions and the whole list of their faults; bytes and the sheet that they are, which keeps both rules; a sheet, a stream's bytes that are accepted, the bytes
-- of their output and the visits; or a sheet, a stream's bytes, the number that a token of it is refused with, the bytes before that token, and the output of those
pub data Row : Type 0 where
  has_faults : List Production → List (List ℕ) → Row
  is_sheet : List ℕ → Sheet → Row
  accepts : Sheet → List ℕ → List ℕ → ℕ → Row
  refuses : Sheet → List ℕ → ℕ → ℕ → List ℕ → Row

abbrev pub RowHolds : Row → Type 0
RowHolds (has_faults g l) = IsFaultList g l
RowHolds (is_sheet s a) = IsSheet s a × KeepsT (grammar_of a.rules) × KeepsS (grammar_of a.rules)
RowHolds (accepts a s o n) = Passed a × ((v : Env) × Accepted a s v × (render v.out ≡ o) × (v.count ≡ n))
RowHolds (refuses a s k at o) = Passed a × ((n : ℕ) × ((room : ℕ) → length o ≤ room → Explained a s false room k at o n))

-- The rows on faults. Where no other names stand, r is 0, a is 1 and b is 2, as nonterminal and as tag.
abbrev pub production : ℕ → ℕ → Content → Production
production n t e = record { nonterm = n; tagno = t; content = e }

abbrev pub a : Exp
a = child_of 1

abbrev pub b : Exp
b = child_of 2

-- r with the expression, and a and b with none
abbrev pub over_AB : Exp → List Production
over_AB e = production 0 0 (tree e) ∷ production 1 1 nothing ∷ production 2 2 nothing ∷ []

-- rule S's entry: production, place, next
abbrev pub fault : ℕ → ℕ → ℕ → List ℕ
fault q p x = 9 ∷ q ∷ p ∷ x ∷ []

-- The smallest sheet: a tag record, a production record, the trailer; and what it is: one production with tag a, no nodes and no programs.
abbrev pub smallest_bytes : List ℕ
smallest_bytes =
    (0x01 ∷ 0x61 ∷ replicate 14 0x00)
    ++ (0x00 ∷ 0x00 ∷ 0x00 ∷ 0x00 ∷ 0x00 ∷ 0x00 ∷ 0xFF ∷ 0xFF ∷ 0xFF ∷ 0xFF ∷ 0x00 ∷ 0x00 ∷ [])
    ++ (0x00 ∷ 0x00 ∷ 0x01 ∷ 0x00 ∷ 0x10 ∷ 0x00 ∷ 0x01 ∷ 0x00 ∷ 0x1C ∷ 0x00 ∷ 0x00 ∷ 0x00 ∷ 0x1C ∷ 0x00 ∷ 0x00 ∷ 0x00 ∷ 0x1C ∷ 0x00 ∷ 0x00 ∷ 0x00 ∷ 0x00 ∷ 0x00 ∷ 0x58 ∷ 0x53 ∷ [])

abbrev pub smallest : Sheet
smallest = sheet_of ((97 ∷ []) ∷ []) (rule 0 nothing no_programs_lem ∷ [])

-- The sheets of the paper's examples.
abbrev pub bib : List ℕ
bib = 98 ∷ 105 ∷ 98 ∷ []

abbrev pub title : List ℕ
title = 116 ∷ 105 ∷ 116 ∷ 108 ∷ 101 ∷ []

abbrev pub author : List ℕ
author = 97 ∷ 117 ∷ 116 ∷ 104 ∷ 111 ∷ 114 ∷ []

abbrev pub year : List ℕ
year = 121 ∷ 101 ∷ 97 ∷ 114 ∷ []

abbrev pub article : List ℕ
article = 97 ∷ 114 ∷ 116 ∷ 105 ∷ 99 ∷ 108 ∷ 101 ∷ []

-- The bytes of their sheets: a field that names no program, and one that names the program at o; the records; the trailer's words.
abbrev pub unused : List ℕ
unused = 0xFF ∷ 0xFF ∷ []

abbrev pub small_word : ℕ → List ℕ
small_word n = n ∷ 0 ∷ []

-- nonterminal and tag are n; the run of nodes, and both fields
abbrev pub production_bytes : ℕ → ℕ → ℕ → List ℕ → List ℕ → List ℕ
production_bytes n first count f g = n ∷ n ∷ first ∷ 0 ∷ count ∷ 0 ∷ (f ++ g ++ 0 ∷ 0 ∷ [])

abbrev pub node_bytes : ℕ → ℕ → List ℕ
node_bytes kind argument = kind ∷ argument ∷ (unused ++ unused)

-- offsets and counts of tags, productions, nodes, programs and strings; the start, 0; the mark
abbrev pub trailer_bytes : ℕ → ℕ → ℕ → ℕ → ℕ → ℕ → ℕ → ℕ → List ℕ
trailer_bytes tags productions_at_lem productions nodes_at_lem nodes programs_at_lem programs strings_at_lem =
    small_word 0 ++ small_word tags ++ small_word productions_at_lem ++ small_word productions ++ small_word nodes_at_lem ++ small_word nodes ++ small_word programs_at_lem ++ small_word programs ++ small_word strings_at_lem ++ small_word 0 ++ small_word 0
    ++ 0x58 ∷ 0x53 ∷ []

-- <name/>, and <name></name>
abbrev pub empty_tag : List ℕ → List ℕ
empty_tag n = 60 ∷ (n ++ 47 ∷ 62 ∷ [])

abbrev pub both_tags : List ℕ → List ℕ
both_tags n = start_tag n ++ end_tag n

-- Example 28: echo on in bib's first visit, off in that of author*, node 6 of title.(author.(author*.year))
abbrev pub pcdata : Content
pcdata = tree (star (atom anychar))

abbrev pub sheet28 : Sheet
sheet28 =
    sheet_of (bib ∷ book ∷ title ∷ author ∷ year ∷ [])
    (rule 0 (tree (star (child_of 1))) (first_only (echo true ∷ []))
    ∷ rule_with 1 (tree (cat (child_of 2) (cat (child_of 3) (cat (star (child_of 3)) (child_of 4))))) no_programs_lem
    (replicate 5 no_programs_lem ++ first_only (echo false ∷ []) ∷ replicate 2 no_programs_lem)
    ∷ rule 2 pcdata no_programs_lem ∷ rule 3 pcdata no_programs_lem ∷ rule 4 pcdata no_programs_lem ∷ [])

-- 264 bytes: five tags, five productions, 16 nodes, the programs "echo on" at 0 and "echo off" at 2
abbrev pub bytes28 : List ℕ
bytes28 =
    tag_record bib ++ tag_record book ++ tag_record title ++ tag_record author ++ tag_record year
    ++ production_bytes 0 0 2 (small_word 0) unused ++ production_bytes 1 2 8 unused unused ++ production_bytes 2 10 2 unused unused ++ production_bytes 3 12 2 unused unused
    ++ production_bytes 4 14 2 unused unused
    ++ node_bytes 5 0 ++ node_bytes 1 1
    ++ node_bytes 3 0 ++ node_bytes 1 2 ++ node_bytes 3 0 ++ node_bytes 1 3 ++ node_bytes 3 0 ++ (5 ∷ 0 ∷ (small_word 2 ++ unused)) ++ node_bytes 1 3 ++ node_bytes 1 4
    ++ node_bytes 5 0 ++ node_bytes 2 0 ++ node_bytes 5 0 ++ node_bytes 2 0 ++ node_bytes 5 0 ++ node_bytes 2 0
    ++ (8 ∷ 0 ∷ 9 ∷ 0 ∷ []) ++ trailer_bytes 5 80 5 140 16 236 4 240

-- Example 29's input, unindented: <bib><book><title/><author/><author/><author/><year/></book></bib>
abbrev pub input29 : List ℕ
input29 =
    start_tag bib ++ start_tag book ++ empty_tag title ++ empty_tag author ++ empty_tag author ++ empty_tag author ++ empty_tag year ++ end_tag book ++ end_tag bib

-- <bib><book><title></title><author></author><year></year></book></bib>
abbrev pub output29 : List ℕ
output29 = start_tag bib ++ start_tag book ++ both_tags title ++ both_tags author ++ both_tags year ++ end_tag book ++ end_tag bib

-- Example 27: attribute 0 is the kind of the element before, 1 for an article and 2 for a book; books have the statements ts
abbrev pub sheet27_with : List Statement → Sheet
sheet27_with ts =
    sheet_of (bib ∷ book ∷ article ∷ [])
    (rule 0 (tree (star (alt (child_of 1) (child_of 2)))) (two_visits (print_start 0 ∷ []) (print_end 0 ∷ []))
    ∷ rule 1 nothing (first_only ts) ∷ rule 2 nothing (first_only (print_start 2 ∷ print_end 2 ∷ become 0 1 ∷ [])) ∷ [])

abbrev pub book27 : List Statement
book27 = branch (current_is 1) (program (print_start 1 ∷ print_end 1 ∷ [])) done ∷ become 0 2 ∷ []

abbrev pub sheet27 : Sheet
sheet27 = sheet27_with book27

-- its rejecting form: a book after a book rejects
abbrev pub rejecting_book27 : List Statement
rejecting_book27 =
    branch (current_is 1) (program (print_start 1 ∷ print_end 1 ∷ become 0 2 ∷ []))
    (program (branch (current_is 2) (program (reject ∷ [])) (program (become 0 2 ∷ [])) ∷ []))
    ∷ []

abbrev pub rejecting27 : Sheet
rejecting27 = sheet27_with rejecting_book27

-- three tags, three productions, four nodes, and four programs, of which a book's, of n bytes, is the last: bib's at 0 and 3, an article's at 6
abbrev pub bytes27_with : List ℕ → ℕ → List ℕ
bytes27_with of_book n =
    tag_record bib ++ tag_record book ++ tag_record article
    ++ production_bytes 0 0 4 (small_word 0) (small_word 3) ++ production_bytes 1 4 0 (small_word 14) unused ++ production_bytes 2 4 0 (small_word 6) unused
    ++ node_bytes 5 0 ++ node_bytes 4 0 ++ node_bytes 1 1 ++ node_bytes 1 2
    ++ (5 ∷ 0 ∷ 0 ∷ []) ++ (6 ∷ 0 ∷ 0 ∷ []) ++ (5 ∷ 2 ∷ 6 ∷ 2 ∷ 1 ∷ 0 ∷ 1 ∷ 0 ∷ []) ++ of_book
    ++ trailer_bytes 3 48 3 84 4 108 (14 + n) (122 + n)

abbrev pub bytes27 : List ℕ
bytes27 = bytes27_with (10 ∷ 0 ∷ 1 ∷ 0 ∷ 0 ∷ 1 ∷ 5 ∷ 1 ∷ 6 ∷ 1 ∷ 0 ∷ 0 ∷ 1 ∷ 0 ∷ 2 ∷ 0 ∷ []) 16

abbrev pub rejecting_bytes27 : List ℕ
rejecting_bytes27 =
    bytes27_with (10 ∷ 0 ∷ 1 ∷ 0 ∷ 0 ∷ 1 ∷ 5 ∷ 1 ∷ 6 ∷ 1 ∷ 1 ∷ 0 ∷ 2 ∷ 0 ∷ 10 ∷ 0 ∷ 1 ∷ 0 ∷ 0 ∷ 2 ∷ 4 ∷ 0 ∷ 1 ∷ 0 ∷ 2 ∷ 0 ∷ 0 ∷ 0 ∷ []) 28

-- <bib><article/><book/><book/></bib>, of which the second book starts at byte 22
abbrev pub input27 : List ℕ
input27 = start_tag bib ++ empty_tag article ++ empty_tag book ++ empty_tag book ++ end_tag bib

-- <bib><article></article><book></book>
abbrev pub output27 : List ℕ
output27 = start_tag bib ++ both_tags article ++ both_tags book

-- The runs: <a/> under the smallest sheet; Example 28 on Example 29's input; Example 27; its rejecting form, at the second book.
abbrev pub run_smallest : Row
run_smallest = accepts smallest (empty_tag (97 ∷ [])) [] 2

abbrev pub run28 : Row
run28 = accepts sheet28 input29 output29 46

abbrev pub run27 : Row
run27 = accepts sheet27 input27 (output27 ++ end_tag bib) 22

abbrev pub run_rejecting27 : Row
run_rejecting27 = refuses rejecting27 input27 25 22 output27

abbrev pub worked : List Row
worked =
    -- a*.a
    has_faults (over_AB (cat (star a) a)) (fault 0 0 1 ∷ fault 0 1 1 ∷ [])
    -- a* ∪ b*
    ∷ has_faults (over_AB (alt (star a) (star b))) (fault 0 0 255 ∷ [])
    -- a.a* ∪ b*
    ∷ has_faults (over_AB (alt (cat a (star a)) (star b))) []
    -- (a*.b)*
    ∷ has_faults (over_AB (star (cat (star a) b))) []
    -- (a ∪ b)*.a.a*, grouped from the left, and from the right
    ∷ has_faults (over_AB (cat (cat (star (alt a b)) a) (star a))) (fault 0 0 1 ∷ fault 0 1 1 ∷ fault 0 2 1 ∷ [])
    ∷ has_faults (over_AB (cat (star (alt a b)) (cat a (star a)))) (fault 0 0 1 ∷ fault 0 1 1 ∷ fault 0 2 1 ∷ [])
    -- tags r, a; production 0 is r with (a*)*, production 1 is a, empty
    ∷ has_faults (production 0 0 (tree (star (star a))) ∷ production 1 1 nothing ∷ [])
    (fault 0 0 1 ∷ fault 0 0 255 ∷ fault 0 1 1 ∷ fault 0 1 255 ∷ [])
    -- book ∪ cited, both with tag book, 1
    ∷ has_faults (production 0 0 (tree (alt a b)) ∷ production 1 1 nothing ∷ production 2 1 nothing ∷ []) (fault 0 0 1 ∷ [])
    -- publication* with tags book, 1, and article, 2
    ∷ has_faults (production 0 0 (tree (star a)) ∷ production 1 1 nothing ∷ production 1 2 nothing ∷ []) []
    -- the smallest sheet, 52 bytes; the examples' sheets; the runs
    ∷ is_sheet smallest_bytes smallest
    ∷ is_sheet bytes28 sheet28
    ∷ is_sheet bytes27 sheet27
    ∷ is_sheet rejecting_bytes27 rejecting27
    ∷ run_smallest
    ∷ run28
    ∷ run27
    ∷ run_rejecting27
    ∷ []
