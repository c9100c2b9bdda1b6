-- Attribution programs: statements, conditions and operands as document 01 lists them, and their bytes. Assumes nothing.
use Rattle.std.specs.Prelude.{Bool, true, false, List, [], ◌∷◌, ◌++◌, ℕ, ◌/◌, ◌%◌}

pub data Operand : Type 0 where
  constant : ℕ → Operand  -- 0 v
  current : ℕ → Operand  -- 1 a: attribute a's current value
  recalled : ℕ → Operand  -- 2 a: its value just after this node's first visit

pub data Condition : Type 0 where
  equal : Operand → Operand → Condition  -- 0 x y
  negated : Condition → Condition  -- 1 c
  both : Condition → Condition → Condition  -- 2 c d
  either : Condition → Condition → Condition  -- 3 c d

mutual
  pub data Statement : Type 0 where
    become : ℕ → ℕ → Statement  -- 1 a v: attribute a becomes v
    copy : ℕ → ℕ → Statement  -- 2 a b: a becomes b's current value
    recall : ℕ → ℕ → Statement  -- 3 a b: a becomes the value b had just after this node's first visit
    reject : Statement  -- 4
    print_start : ℕ → Statement  -- 5 t: the start tag of tag t
    print_end : ℕ → Statement  -- 6 t: its end tag
    print_text : ℕ → ℕ → Statement  -- 7 o o n: n bytes of strings from offset o, as escaped text
    echo : Bool → Statement  -- 8 on, 9 off
    branch : Condition → Program → Program → Statement  -- 10 c L M: if c then L else M

  -- a list of statements, ended by 0
  pub data Program : Type 0 where
    done : Program
    step : Statement → Program → Program

abbrev pub operand_bytes : Operand → List ℕ
operand_bytes (constant v) = 0 ∷ v ∷ []
operand_bytes (current a) = 1 ∷ a ∷ []
operand_bytes (recalled a) = 2 ∷ a ∷ []

abbrev pub condition_bytes : Condition → List ℕ
condition_bytes (equal x y) = 0 ∷ (operand_bytes x ++ operand_bytes y)
condition_bytes (negated c) = 1 ∷ condition_bytes c
condition_bytes (both c d) = 2 ∷ (condition_bytes c ++ condition_bytes d)
condition_bytes (either c d) = 3 ∷ (condition_bytes c ++ condition_bytes d)

abbrev pub echo_byte : Bool → ℕ
echo_byte true = 8
echo_byte false = 9

abbrev mutual
  pub statement_bytes : Statement → List ℕ
  statement_bytes (become a v) = 1 ∷ a ∷ v ∷ []
  statement_bytes (copy a b) = 2 ∷ a ∷ b ∷ []
  statement_bytes (recall a b) = 3 ∷ a ∷ b ∷ []
  statement_bytes reject = 4 ∷ []
  statement_bytes (print_start t) = 5 ∷ t ∷ []
  statement_bytes (print_end t) = 6 ∷ t ∷ []
  statement_bytes (print_text o n) = 7 ∷ (o % 256) ∷ (o / 256) ∷ n ∷ []
  statement_bytes (echo on) = echo_byte on ∷ []
  statement_bytes (branch c l m) = 10 ∷ (condition_bytes c ++ (program_bytes l ++ program_bytes m))

  pub program_bytes : Program → List ℕ
  program_bytes done = 0 ∷ []
  program_bytes (step t p) = statement_bytes t ++ program_bytes p
