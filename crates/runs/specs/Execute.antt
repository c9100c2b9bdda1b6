-- What a program does: what it makes of the attributes and of echo, and what it prints; or that it rejects.
-- Assumes nothing.
use Rattle.std.specs.Prelude.{Bool, true, false, not, ◌&&◌, ◌||◌, List, [], ◌∷◌, ◌++◌, ℕ, zero, suc, eqb, get_or, set, take, drop}
use Rattle.std.proofs.Math.Option.{Option, none, some}
use Rattle.programs.specs.Program.{Operand, constant, current, recalled, Condition, equal, negated, both, either, Statement, become, copy, recall, reject, print_start, print_end, print_text, echo, branch, Program, done, step}
use Rattle.sheet.specs.Sheet.{Sheet}
use Rattle.output.specs.Escape.{Piece, start, end, characters}
use Rattle.runs.specs.Options.{bind}
use Rattle.runs.specs.Characters.{characters_of}

-- what a program or a statement comes to. The attributes' values are a list, attribute 0 first
pub record Effect : Type 0 where
  pub values : List ℕ
  pub echo : Bool
  pub printed : List Piece

-- tag t's name
abbrev pub name_of : List (List ℕ) → ℕ → List ℕ
name_of [] t = []
name_of (n ∷ ns) zero = n
name_of (n ∷ ns) (suc t) = name_of ns t

-- k are the values just after this node's first visit, vs the current ones
abbrev pub operand_value : List ℕ → Operand → List ℕ → ℕ
operand_value k (constant v) vs = v
operand_value k (current a) vs = get_or vs a 0
operand_value k (recalled a) vs = get_or k a 0

abbrev pub holds : List ℕ → Condition → List ℕ → Bool
holds k (equal x y) vs = eqb (operand_value k x vs) (operand_value k y vs)
holds k (negated c) vs = not (holds k c vs)
holds k (both c d) vs = holds k c vs && holds k d vs
holds k (either c d) vs = holds k c vs || holds k d vs

abbrev pub chosen : Bool → Option Effect → Option Effect → Option Effect
chosen true x y = x
chosen false x y = y

-- what came after x, with what x had printed in front
abbrev pub after_print : List Piece → Option Effect → Option Effect
after_print o x = bind x (λ y. some (record { values = y.values; echo = y.echo; printed = o ++ y.printed }))

-- the statements of document 01, and a list of them; none is a rejection
abbrev mutual
  pub execute_one : Sheet → List ℕ → Statement → List ℕ → Bool → Option Effect
  execute_one s k (become a v) vs on = some (record { values = set vs a v; echo = on; printed = [] })
  execute_one s k (copy a b) vs on = some (record { values = set vs a (get_or vs b 0); echo = on; printed = [] })
  execute_one s k (recall a b) vs on = some (record { values = set vs a (get_or k b 0); echo = on; printed = [] })
  execute_one s k reject vs on = none
  execute_one s k (print_start t) vs on = some (record { values = vs; echo = on; printed = start (name_of s.names t) ∷ [] })
  execute_one s k (print_end t) vs on = some (record { values = vs; echo = on; printed = end (name_of s.names t) ∷ [] })
  execute_one s k (print_text o n) vs on =
      some (record { values = vs; echo = on; printed = characters (characters_of (take n (drop o s.strings))) })
  execute_one s k (echo b) vs on = some (record { values = vs; echo = b; printed = [] })
  execute_one s k (branch c l m) vs on = chosen (holds k c vs) (execute s k l vs on) (execute s k m vs on)

  pub execute : Sheet → List ℕ → Program → List ℕ → Bool → Option Effect
  execute s k done vs on = some (record { values = vs; echo = on; printed = [] })
  execute s k (step t p) vs on =
      bind (execute_one s k t vs on) (λ x. after_print x.printed (execute s k p x.values x.echo))
