-- Lines of the paper's Examples 27 and 28 as they are printed. Assumes nothing.
use Rattle.std.specs.Prelude.{◌≡◌, false, List, [], ◌∷◌, ◌++◌, ℕ}
use Rattle.std.proofs.Math.Option.{Option, none, some}
use Rattle.expressions.specs.Expr.{Atom}
use Rattle.programs.specs.Program.{constant, current, equal}
use Rattle.notation.specs.Program.{become, print_start, print_end, echo, branch, TextProgram, done, step}
use Rattle.notation.specs.Rules.{Tree, node, atom, cat, star, Rules}
use Rattle.printed.specs.Text.{text_of}

abbrev pub book_tag : List ℕ
book_tag = 98 ∷ 111 ∷ 111 ∷ 107 ∷ []

abbrev pub nonterminal_node : ℕ → Tree
nonterminal_node n = node none none (atom (Atom.nonterminal n))

-- if a0 is 1, an empty book is printed; a0 becomes 2
abbrev pub changed : TextProgram
changed = step (branch (equal (current 0) (constant 1)) (step (print_start book_tag) (step (print_end book_tag) done)) done) (step (become 0 2) done)

-- (n2.n3).n3*.n4, where the star turns echo off
abbrev pub joined_books : Tree
joined_books = node none none (cat (node none none (cat (node none none (cat (nonterminal_node 2) (nonterminal_node 3))) (node (some (step (echo false) done)) none (star (nonterminal_node 3))))) (nonterminal_node 4))

abbrev pub worked_rules : Rules
worked_rules = record {
  start = 0;
  productions =
      record { nonterminal = 1; tag = book_tag; own = record { first_visit = some changed; second_visit = none }; inside = none }
      ∷ record { nonterminal = 1; tag = book_tag; own = record { first_visit = none; second_visit = none }; inside = some joined_books } ∷ [];
}

-- n0
abbrev pub start_line : List ℕ
start_line = 110 ∷ 48 ∷ 10 ∷ []

-- n1 ::= {if $.a0 = 1 then print <book> </book>; $.a0 := 2} book()
abbrev pub first_line : List ℕ
first_line = 110 ∷ 49 ∷ 32 ∷ 58 ∷ 58 ∷ 61 ∷ 32 ∷ 123 ∷ 105 ∷ 102 ∷ 32 ∷ 36 ∷ 46 ∷ 97 ∷ 48 ∷ 32 ∷ 61 ∷ 32 ∷ 49 ∷ 32 ∷ 116 ∷ 104 ∷ 101 ∷ 110 ∷ 32 ∷ 112 ∷ 114 ∷ 105 ∷ 110 ∷ 116 ∷ 32 ∷ 60 ∷ 98 ∷ 111 ∷ 111 ∷ 107 ∷ 62 ∷ 32 ∷ 60 ∷ 47 ∷ 98 ∷ 111 ∷ 111 ∷ 107 ∷ 62 ∷ 59 ∷ 32 ∷ 36 ∷ 46 ∷ 97 ∷ 48 ∷ 32 ∷ 58 ∷ 61 ∷ 32 ∷ 50 ∷ 125 ∷ 32 ∷ 98 ∷ 111 ∷ 111 ∷ 107 ∷ 40 ∷ 41 ∷ 10 ∷ []

-- n1 ::= book(n2.n3.({ECHO_OFF} n3*).n4)
abbrev pub second_line : List ℕ
second_line = 110 ∷ 49 ∷ 32 ∷ 58 ∷ 58 ∷ 61 ∷ 32 ∷ 98 ∷ 111 ∷ 111 ∷ 107 ∷ 40 ∷ 110 ∷ 50 ∷ 46 ∷ 110 ∷ 51 ∷ 46 ∷ 40 ∷ 123 ∷ 69 ∷ 67 ∷ 72 ∷ 79 ∷ 95 ∷ 79 ∷ 70 ∷ 70 ∷ 125 ∷ 32 ∷ 110 ∷ 51 ∷ 42 ∷ 41 ∷ 46 ∷ 110 ∷ 52 ∷ 41 ∷ 10 ∷ []

abbrev pub Printed27And28 : Type 0
Printed27And28 = text_of worked_rules ≡ start_line ++ (first_line ++ second_line)
