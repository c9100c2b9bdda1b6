-- Programs as they are printed: neighbouring prints are one `print` with several items; statements are separated by `;`. Assumes nothing.
use Rattle.std.specs.Prelude.{Bool, true, false, cond, not, ◌&&◌, List, [], ◌∷◌, ◌++◌, ℕ, eqb}
use Rattle.programs.specs.Program.{Operand, constant, current, recalled}
use Rattle.notation.specs.Program.{TextStatement, become, copy, recall, reject, print_start, print_end, print_text, echo, branch, TextProgram, done, step}
use Rattle.notation.specs.Tokens.{plain, attribute, start_tag, end_tag, ECHO, ECHO-OFF, REJECT, PRINT, IF, THEN, ELSE, BEGIN, END, ASSIGNED, word_bytes, sign_bytes, token_bytes}
use Rattle.printed.specs.Spacing.{◌␣◌}
use Rattle.printed.specs.Conditions.{operand_token, condition_text}

-- a byte of a string: the five that are escaped are bytes of their own in UTF-8
abbrev pub in_string : ℕ → List ℕ
in_string b = cond (eqb b 34) (92 ∷ 34 ∷ []) (cond (eqb b 92) (92 ∷ 92 ∷ []) (cond (eqb b 9) (92 ∷ 116 ∷ []) (cond (eqb b 10) (92 ∷ 110 ∷ []) (cond (eqb b 13) (92 ∷ 114 ∷ []) (b ∷ [])))))

abbrev pub all_in_string : List ℕ → List ℕ
all_in_string [] = []
all_in_string (b ∷ bs) = in_string b ++ all_in_string bs

abbrev pub quoted : List ℕ → List ℕ
quoted s = 34 ∷ (all_in_string s ++ 34 ∷ [])

-- items of a print, and an if
abbrev pub is_item : TextStatement → Bool
is_item (become a v) = false
is_item (copy a b) = false
is_item (recall a b) = false
is_item reject = false
is_item (print_start n) = true
is_item (print_end n) = true
is_item (print_text s) = true
is_item (echo on) = false
is_item (branch c l m) = false

abbrev pub is_if : TextStatement → Bool
is_if (become a v) = false
is_if (copy a b) = false
is_if (recall a b) = false
is_if reject = false
is_if (print_start n) = false
is_if (print_end n) = false
is_if (print_text s) = false
is_if (echo on) = false
is_if (branch c l m) = true

-- one statement: several prints are one
abbrev pub all_items : TextProgram → Bool
all_items done = true
all_items (step t p) = is_item t && all_items p

abbrev pub is_done : TextProgram → Bool
is_done done = true
is_done (step t p) = false

abbrev pub is_one : TextProgram → Bool
is_one done = false
is_one (step t p) = cond (is_item t) (all_items p) (is_done p)

-- one, and no if
abbrev pub is_plain_one : TextProgram → Bool
is_plain_one done = false
is_plain_one (step t p) = not (is_if t) && is_one (step t p)

-- what stands before a statement in its list, and what is written between the two: an item behind a print is one more of its items
pub data Preceding : Type 0 where
  nothing_yet a_statement an_item : Preceding

abbrev pub between_statements : Preceding → Bool → List ℕ
between_statements nothing_yet false = []
between_statements nothing_yet true = word_bytes PRINT ++ 32 ∷ []
between_statements a_statement false = 59 ∷ 32 ∷ []
between_statements a_statement true = 59 ∷ 32 ∷ (word_bytes PRINT ++ 32 ∷ [])
between_statements an_item false = 59 ∷ 32 ∷ []
between_statements an_item true = 32 ∷ []

abbrev pub after_it : Bool → Preceding
after_it false = a_statement
after_it true = an_item

-- a branch whose statements are written x: bare, or with begin and end
abbrev pub branch_text : Bool → TextProgram → List ℕ → List ℕ
branch_text true p x = x
branch_text false done x = word_bytes BEGIN ␣ word_bytes END
branch_text false (step t p) x = word_bytes BEGIN ␣ x ␣ word_bytes END

-- an empty else branch is left out
abbrev pub else_text : TextProgram → List ℕ → List ℕ
else_text done x = []
else_text (step t p) x = 32 ∷ (word_bytes ELSE ␣ branch_text (is_one (step t p)) (step t p) x)

abbrev pub assignment : ℕ → Operand → List ℕ
assignment a x = token_bytes (attribute plain a) ␣ sign_bytes ASSIGNED ␣ token_bytes (operand_token x)

-- of a print the item alone. An if stands bare only after else, so that no else is given to an inner if
abbrev mutual
  pub statement_text : TextStatement → List ℕ
  statement_text (become a v) = assignment a (constant v)
  statement_text (copy a b) = assignment a (current b)
  statement_text (recall a b) = assignment a (recalled b)
  statement_text reject = word_bytes REJECT
  statement_text (print_start n) = token_bytes (start_tag n)
  statement_text (print_end n) = token_bytes (end_tag n)
  statement_text (print_text s) = quoted s
  statement_text (echo true) = word_bytes ECHO
  statement_text (echo false) = word_bytes ECHO-OFF
  statement_text (branch c l m) = word_bytes IF ␣ condition_text c ␣ word_bytes THEN ␣ (branch_text (is_plain_one l) l (list_text nothing_yet l) ++ else_text m (list_text nothing_yet m))

  pub list_text : Preceding → TextProgram → List ℕ
  list_text b done = []
  list_text b (step t p) = between_statements b (is_item t) ++ (statement_text t ++ list_text (after_it (is_item t)) p)

abbrev pub program_text : TextProgram → List ℕ
program_text p = 123 ∷ (list_text nothing_yet p ++ 125 ∷ [])
