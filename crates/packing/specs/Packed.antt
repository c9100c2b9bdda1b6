-- The bytes of the sheet of rules, section by section. Assumes nothing.
use Rattle.std.specs.Prelude.{List, [], ◌∷◌, ◌++◌, ℕ, ◌+◌, ◌*◌, ◌/◌, ◌%◌, length}
use Rattle.std.proofs.Math.Option.{Option, none, some}
use Rattle.expressions.specs.Expr.{Atom, nonterminal, anychar, nodes_of}
use Rattle.programs.specs.Program.{program_bytes}
use Rattle.sheet.specs.Tags.{tag_record}
use Rattle.notation.specs.Program.{TextProgram}
use Rattle.notation.specs.Rules.{TextVisits, Tree, node, Form, atom, cat, alt, star, empty, content_inside, TextRule, Rules}
use Rattle.notation.specs.Limits.{nodes_in_all}
use Rattle.encoding.specs.Distinct.{place_of, offset_of, run_together}
use Rattle.encoding.specs.Encoded.{tags_stored, strings_stored, programs_stored, program_of}

-- a number of two bytes, little-endian, in front of others
abbrev pub word : ℕ → List ℕ → List ℕ
word n l = (n % 256) ∷ (n / 256) ∷ l

-- the field of a program: where it is stored; FFFF where there is none
abbrev pub field : Rules → Option TextProgram → ℕ
field r none = 0xFFFF
field r (some p) = offset_of (programs_stored r) (program_bytes (program_of r p))

abbrev pub fields : Rules → Option TextProgram → Option TextProgram → List ℕ → List ℕ
fields r f g l = word (field r f) (word (field r g) l)

-- a node: kind, argument, fields
abbrev pub kind : Form → ℕ
kind (atom (nonterminal n)) = 1
kind (atom anychar) = 2
kind (cat l m) = 3
kind (alt l m) = 4
kind (star e) = 5
kind empty = 6

abbrev pub argument : Form → ℕ
argument (atom (nonterminal n)) = n
argument (atom anychar) = 0
argument (cat l m) = 0
argument (alt l m) = 0
argument (star e) = 0
argument empty = 0

abbrev pub node_record : Rules → Option TextProgram → Option TextProgram → Form → List ℕ
node_record r f g k = kind k ∷ argument k ∷ fields r f g []

-- in preorder
abbrev mutual
  pub tree_bytes : Rules → Tree → List ℕ
  tree_bytes r (node f g k) = node_record r f g k ++ form_bytes r k

  pub form_bytes : Rules → Form → List ℕ
  form_bytes r (atom a) = []
  form_bytes r (cat l m) = tree_bytes r l ++ tree_bytes r m
  form_bytes r (alt l m) = tree_bytes r l ++ tree_bytes r m
  form_bytes r (star e) = tree_bytes r e
  form_bytes r empty = []

abbrev pub content_bytes : Rules → Option Tree → List ℕ
content_bytes r none = []
content_bytes r (some e) = tree_bytes r e

abbrev pub nodes_section : Rules → List TextRule → List ℕ
nodes_section r [] = []
nodes_section r (d ∷ ds) = content_bytes r d.inside ++ nodes_section r ds

abbrev pub nodes_of_rule : TextRule → ℕ
nodes_of_rule d = nodes_of (content_inside d.inside)

-- a production, whose first node has that number: nonterminal, tag, first node, count of nodes, 0, fields, 0, 0
abbrev pub production_record : Rules → ℕ → TextRule → List ℕ
production_record r first d = d.nonterminal ∷ place_of (tags_stored r) d.tag ∷ word first (nodes_of_rule d ∷ 0 ∷ fields r d.own.first_visit d.own.second_visit (0 ∷ 0 ∷ []))

abbrev pub productions_section : Rules → ℕ → List TextRule → List ℕ
productions_section r first [] = []
productions_section r first (d ∷ ds) = production_record r first d ++ productions_section r (first + nodes_of_rule d) ds

abbrev pub tags_section : List (List ℕ) → List ℕ
tags_section [] = []
tags_section (n ∷ ns) = tag_record n ++ tags_section ns

-- where each section lies, with its count or length; the start; the mark
abbrev pub trailer : ℕ → ℕ → ℕ → ℕ → ℕ → ℕ → List ℕ
trailer tags productions nodes programs strings start =
    word 0 (word tags
    (word (16 * tags) (word productions
    (word (16 * tags + 12 * productions) (word nodes
    (word (16 * tags + 12 * productions + 6 * nodes) (word programs
    (word (16 * tags + 12 * productions + 6 * nodes + programs) (word strings
    (word start (word 0x5358 [])))))))))))

abbrev pub trailer_of : Rules → List ℕ
trailer_of r = trailer (length (tags_stored r)) (length r.productions) (nodes_in_all r.productions) (length (run_together (programs_stored r))) (length (run_together (strings_stored r))) r.start

-- the sheet
unfoldable pub sheet_bytes : Rules → List ℕ
sheet_bytes r = tags_section (tags_stored r) ++ (productions_section r 0 r.productions ++ (nodes_section r r.productions ++ (run_together (programs_stored r) ++ (run_together (strings_stored r) ++ trailer_of r))))
