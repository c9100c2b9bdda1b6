-- Tags, strings and programs in the order in which they stand in the text. Assumes nothing.
use Rattle.std.specs.Prelude.{List, [], ◌∷◌, ◌++◌, ℕ}
use Rattle.std.proofs.Math.Option.{Option, none, some}
use Rattle.notation.specs.Program.{TextStatement, become, copy, recall, reject, print_start, print_end, print_text, echo, branch, TextProgram, done, step}
use Rattle.notation.specs.Rules.{TextVisits, Tree, node, Form, atom, cat, alt, star, empty, TextRule, Rules}

pub data Mention : Type 0 where
  a_tag : List ℕ → Mention
  a_string : List ℕ → Mention
  a_program : TextProgram → Mention

abbrev mutual
  pub in_statement : TextStatement → List Mention
  in_statement (become a v) = []
  in_statement (copy a b) = []
  in_statement (recall a b) = []
  in_statement reject = []
  in_statement (print_start n) = a_tag n ∷ []
  in_statement (print_end n) = a_tag n ∷ []
  in_statement (print_text s) = a_string s ∷ []
  in_statement (echo on) = []
  in_statement (branch c l m) = in_program l ++ in_program m

  pub in_program : TextProgram → List Mention
  in_program done = []
  in_program (step t p) = in_statement t ++ in_program p

-- a program stands where its braces do
abbrev pub in_braces : Option TextProgram → List Mention
in_braces none = []
in_braces (some p) = in_program p ++ a_program p ∷ []

-- a node's first program stands in front of what is below it, its second behind
abbrev mutual
  pub in_tree : Tree → List Mention
  in_tree (node f g k) = in_braces f ++ (in_form k ++ in_braces g)

  pub in_form : Form → List Mention
  in_form (atom k) = []
  in_form (cat l r) = in_tree l ++ in_tree r
  in_form (alt l r) = in_tree l ++ in_tree r
  in_form (star e) = in_tree e
  in_form empty = []

abbrev pub in_content : Option Tree → List Mention
in_content none = []
in_content (some e) = in_tree e

abbrev pub in_rule : TextRule → List Mention
in_rule r = in_braces r.own.first_visit ++ (a_tag r.tag ∷ (in_content r.inside ++ in_braces r.own.second_visit))

abbrev pub in_rules : List TextRule → List Mention
in_rules [] = []
in_rules (r ∷ rs) = in_rule r ++ in_rules rs

-- of one sort
abbrev pub tags_mentioned : List Mention → List (List ℕ)
tags_mentioned [] = []
tags_mentioned (a_tag n ∷ ms) = n ∷ tags_mentioned ms
tags_mentioned (a_string s ∷ ms) = tags_mentioned ms
tags_mentioned (a_program p ∷ ms) = tags_mentioned ms

abbrev pub strings_mentioned : List Mention → List (List ℕ)
strings_mentioned [] = []
strings_mentioned (a_tag n ∷ ms) = strings_mentioned ms
strings_mentioned (a_string s ∷ ms) = s ∷ strings_mentioned ms
strings_mentioned (a_program p ∷ ms) = strings_mentioned ms

abbrev pub programs_mentioned : List Mention → List TextProgram
programs_mentioned [] = []
programs_mentioned (a_tag n ∷ ms) = programs_mentioned ms
programs_mentioned (a_string s ∷ ms) = programs_mentioned ms
programs_mentioned (a_program p ∷ ms) = p ∷ programs_mentioned ms
