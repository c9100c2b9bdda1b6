-- The condition that lies in a program section, as text: how tightly it binds and the word between its parts, by its first byte; and what putting it
-- leaves in lent memory. Assumes nothing.
use Rattle.std.specs.Prelude.{◌≡◌, Bool, false, cond, List, [], ◌∷◌, ◌++◌, ℕ, ◌+◌, ◌*◌, ◌≤◌, eqb, ltb, length, get_or}
use Rattle.lent.specs.Put.{PutAs}
use Rattle.programs.specs.Program.{Condition, condition_bytes}
use Rattle.notation.specs.Tokens.{AND, OR, word_bytes}
use Rattle.printed.specs.Spacing.{in_parentheses_if}
use Rattle.printed.specs.Conditions.{condition_binds, condition_text}
use Rattle.visits.specs.Evaluated.{LiesAt}
use Rattle.visits.specs.Written.{Pen}
use Rattle.clauses.specs.declared.Put.{Put}

-- 3: or; 2: and; any other binds most
abbrev pub binds_at : ℕ → ℕ
binds_at k = cond (eqb k 3) 0 (cond (eqb k 2) 1 2)

-- it is the condition's
abbrev pub BindsAreTheirs : Type 0
BindsAreTheirs = (c : Condition) → binds_at (get_or (condition_bytes c) 0 0) ≡ condition_binds c

-- the word between two conditions, with a space on each side
abbrev pub word_between : ℕ → List ℕ
word_between k = 32 ∷ (cond (eqb k 2) (word_bytes AND) (word_bytes OR) ++ 32 ∷ [])

-- in a place that asks for so much binding
abbrev pub condition_text_in : ℕ → Condition → List ℕ
condition_text_in asked c = in_parentheses_if (ltb (condition_binds c) asked) (condition_text c)

-- a sign where the test holds
abbrev pub sign_where : Bool → ℕ → List ℕ
sign_where b x = cond b (x ∷ []) []

-- no condition's text is longer than this for each of its bytes: a word of five with its spaces, and parentheses around it
abbrev pub most_of_a_byte : ℕ
most_of_a_byte = 7

-- the condition that lies at i is put as that text, and where it ends; so far that `spare` bytes more may follow
pub record ClausePut (spare : ℕ) (text : Condition → List ℕ) (s : List ℕ) (i : ℕ) (p : Pen) (r : Put) (d : List ℕ) : Type 0 where
  pub low : i ≤ r.next
  pub high : r.next ≤ length s
  pub reach : r.at + spare + most_of_a_byte * i ≤ p.at + most_of_a_byte * r.next
  pub dry : p.write ≡ false → d ≡ p.lent
  pub right : (c : Condition) → LiesAt condition_bytes s i c → (r.next ≡ i + length (condition_bytes c)) × PutAs p.write p.lent p.at (text c) d r.at
