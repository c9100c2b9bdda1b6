-- Each form of operand, condition, statement and list, read at i: from the readings of its parts, or from its bytes where it has no parts.
-- Assumes nothing.
use mathlib.Core.Path.{◌≡◌, refl, sym, ap, ap₂, ◌∙◌, subst}
use mathlib.Core.Logic.{◌⊎◌, inl, inr, ⊎_elim}
use mathlib.Core.Bool.{true, false}
use Rattle.std.specs.Prelude.{Option, Some, None}
use mathlib.Core.List.{List, [], ◌∷◌, ◌++◌}
use Prim.Native.Nat.{ℕ, zero, suc, ◌+◌, ◌*◌, ◌-◌, ◌/◌, ◌%◌, ◌≤◌, ◌<◌}
use native.Mathlib.Omega.{arith}
use native.Mathlib.Nat.{add_assoc, eq-or-lt_of_le}
use lib.ListN.{length, get_or, drop}
use Rattle.text.specs.Chars.{Starts}
use Rattle.programs.specs.Program.{Operand, constant, current, recalled, operand_bytes, Condition, equal, negated, both, either, condition_bytes, Statement, become, copy, recall, reject, print_start, print_end, print_text, echo, branch, statement_bytes, Program, done, step, program_bytes}
use Rattle.programs.specs.Bounds.{bounds}
use Rattle.programs.specs.Limits.{Attribute, Value, OperandFits, StatementFits, Printable, first, second, operand_allowed, condition_allowed, statement_allowed, allowed, statement_nesting}
use Rattle.programs.specs.Parsed.{whole, none, ForBoth, OperandAt, ConditionAt, StatementAt, PlainAt, ListAt, ConditionWithin, StatementWithin, ListWithin}
use Rattle.programs.specs.declared.Parsed.{Parsed}
use Rattle.programs.proofs.Agree.{ConditionForm, condition_form, StatementForm, statement_form}
use Rattle.programs.proofs.Reading.{Kind, Reads, then, no_first, marked, at_byte, after_byte, seen_as, byte_of, first_byte}

abbrev pub operands : Kind
operands = record { Thing = Operand; bytes = operand_bytes; Good = OperandFits; may = operand_allowed }

abbrev pub conditions : ℕ → Kind
conditions room = record { Thing = Condition; bytes = condition_bytes; Good = ConditionWithin room; may = condition_allowed }

abbrev pub statements : ℕ → List ℕ → ℕ → Kind
statements tags strings room = record { Thing = Statement; bytes = statement_bytes; Good = StatementWithin tags strings room; may = statement_allowed }

abbrev pub lists : ℕ → List ℕ → ℕ → Kind
lists tags strings room = record { Thing = Program; bytes = program_bytes; Good = ListWithin tags strings room; may = allowed }

-- ---- operands
module _ (s : List ℕ) (i : ℕ) where
  -- what the bytes of an operand that fits are
  abbrev pub OperandBytes : Type 0
  OperandBytes = (i + 1 < length s) × (get_or s i 0 ≤ 2) × (get_or s i 0 ≡ 0 → Value (get_or s (i + 1) 0)) × ((get_or s i 0 ≡ 0 → ⊥) → Attribute (get_or s (i + 1) 0))

  operand_bytes_lem : (x : Operand) → OperandFits x → Starts (drop i s) (operand_bytes x) → OperandBytes
  operand_bytes_lem (constant v) g st =
      let a = first_byte s i 0 (v ∷ []) st in
      let b = byte_of s i (0 ∷ v ∷ []) st 1 (omega arith) in
      (b.0, omega arith, λ z. omega arith, λ z. absurd (z a))
  operand_bytes_lem (current v) g st =
      let a = first_byte s i 1 (v ∷ []) st in
      let b = byte_of s i (1 ∷ v ∷ []) st 1 (omega arith) in
      (b.0, omega arith, λ z. absurd (omega arith), λ z. omega arith)
  operand_bytes_lem (recalled v) g st =
      let a = first_byte s i 2 (v ∷ []) st in
      let b = byte_of s i (2 ∷ v ∷ []) st 1 (omega arith) in
      (b.0, omega arith, λ z. absurd (omega arith), λ z. omega arith)

  pub no_operand : (OperandBytes → ⊥) → OperandAt s i None
  no_operand f = none (λ x g st. f (operand_bytes_lem x g st))

  module _ (h : i + 1 < length s) where
    pub two_bytes : drop i s ≡ get_or s i 0 ∷ get_or s (i + 1) 0 ∷ drop (i + 1 + 1) s
    two_bytes = at_byte s i (omega arith) ∙ ap (λ (l : List ℕ). get_or s i 0 ∷ l) (at_byte s (i + 1) h)

    pub operand_whole : (k : ℕ) (x : Operand) → get_or s i 0 ≡ k → operand_bytes x ≡ k ∷ get_or s (i + 1) 0 ∷ [] → OperandFits x → {r : Parsed} → r.next ≡ i + 2 → r.first ≡ operand_allowed first x → r.second ≡ operand_allowed second x → OperandAt s i (Some r)
    operand_whole k x e w g q α β =
        whole x g (drop (i + 1 + 1) s, two_bytes ∙ ap (λ (n : ℕ). n ∷ get_or s (i + 1) 0 ∷ drop (i + 1 + 1) s) e ∙ ap (λ (l : List ℕ). l ++ drop (i + 1 + 1) s) (sym w)) (q ∙ ap (λ (l : List ℕ). i + length l) (sym w)) α β

pub three_bytes : (s : List ℕ) (i : ℕ) → i + 2 < length s → drop i s ≡ get_or s i 0 ∷ get_or s (i + 1) 0 ∷ get_or s (i + 2) 0 ∷ drop (i + 3) s
three_bytes s i h = two_bytes s i (omega arith) ∙ ap (λ (l : List ℕ). get_or s i 0 ∷ get_or s (i + 1) 0 ∷ l) (ap (λ (n : ℕ). drop n s) (add_assoc i 1 1) ∙ at_byte s (i + 2) h ∙ ap (λ (n : ℕ). get_or s (i + 2) 0 ∷ drop n s) (add_assoc i 2 1))

pub four_bytes : (s : List ℕ) (i : ℕ) → i + 3 < length s → drop i s ≡ get_or s i 0 ∷ get_or s (i + 1) 0 ∷ get_or s (i + 2) 0 ∷ get_or s (i + 3) 0 ∷ drop (i + 4) s
four_bytes s i h = three_bytes s i (omega arith) ∙ ap (λ (l : List ℕ). get_or s i 0 ∷ get_or s (i + 1) 0 ∷ get_or s (i + 2) 0 ∷ l) (at_byte s (i + 3) h ∙ ap (λ (n : ℕ). get_or s (i + 3) 0 ∷ drop n s) (add_assoc i 3 1))

-- ---- conditions
two_or_three : (n : ℕ) → (n ≡ 0 → ⊥) → (n ≡ 1 → ⊥) → n ≤ 3 → (n ≡ 2) ⊎ (n ≡ 3)
two_or_three zero a b c = absurd (a refl)
two_or_three (suc zero) a b c = absurd (b refl)
two_or_three (suc (suc zero)) a b c = inl refl
two_or_three (suc (suc (suc zero))) a b c = inr refl
two_or_three (suc (suc (suc (suc n)))) a b c = absurd (omega arith)

one_or_not : (n : ℕ) → (n ≡ 1) ⊎ (n ≡ 1 → ⊥)
one_or_not zero = inr (λ e. omega arith)
one_or_not (suc zero) = inl refl
one_or_not (suc (suc n)) = inr (λ e. omega arith)

module _ (s : List ℕ) (i : ℕ) (h : i < length s) where
  form_of : (c : Condition) → Starts (drop i s) (condition_bytes c) → {k : ℕ} → get_or s i 0 ≡ k → ConditionForm k c
  form_of c st e = subst (λ (n : ℕ). ConditionForm n c) e (condition_form c st.0 (sym st.1 ∙ at_byte s i h))

  pub equal_at : (room : ℕ) → get_or s i 0 ≡ 0 → {r : Option Parsed} → Reads (then operands operands) s (i + 1) r → ConditionAt room s i r
  equal_at room e r =
      seen_as (marked 0 (then operands operands)) (conditions room)
      (λ p g. (equal p.0 p.1, (g, omega arith), refl, λ v. refl))
      (λ c g st. let w = form_of c st e in ((w.0, w.1), (rw w.2 at g).0, ap condition_bytes w.2))
      (after_byte (then operands operands) h e r)

  module _ (room : ℕ) (k : get_or s i 0 ≡ 0 → ⊥) where
    -- not, and, or nest
    pub no_condition : (room ≡ 0) ⊎ (3 < get_or s i 0) → ConditionAt room s i None
    no_condition why = none go
      where
        go : (c : Condition) → ConditionWithin room c → Starts (drop i s) (condition_bytes c) → ⊥
        go (equal x y) g st = k (first_byte s i 0 (operand_bytes x ++ operand_bytes y) st)
        go (negated c) g st = let b = first_byte s i 1 (condition_bytes c) st in ⊎_elim (λ z. omega arith) (λ z. omega arith) why
        go (both c d) g st = let b = first_byte s i 2 (condition_bytes c ++ condition_bytes d) st in ⊎_elim (λ z. omega arith) (λ z. omega arith) why
        go (either c d) g st = let b = first_byte s i 3 (condition_bytes c ++ condition_bytes d) st in ⊎_elim (λ z. omega arith) (λ z. omega arith) why

    module _ (some : room ≡ 0 → ⊥) where
      pub negated_at : get_or s i 0 ≡ 1 → {r : Option Parsed} → Reads (conditions (room - 1)) s (i + 1) r → ConditionAt room s i r
      negated_at e r =
          seen_as (marked 1 (conditions (room - 1))) (conditions room)
          (λ c g. (negated c, (g.0, omega arith), refl, λ v. refl))
          (λ c g st. let w = form_of c st e in let f = rw w.1 at g in (w.0, (f.0, omega arith), ap condition_bytes w.1))
          (after_byte (conditions (room - 1)) h e r)

      both_at : get_or s i 0 ≡ 2 → {r : Option Parsed} → Reads (then (conditions (room - 1)) (conditions (room - 1))) s (i + 1) r → ConditionAt room s i r
      both_at e r =
          seen_as (marked 2 (then (conditions (room - 1)) (conditions (room - 1)))) (conditions room)
          (λ p g. (both p.0 p.1, ((g.0.0, g.1.0), omega arith), refl, λ v. refl))
          (λ c g st. let w = form_of c st e in let f = rw w.2 at g in ((w.0, w.1), ((f.0.0, omega arith), (f.0.1, omega arith)), ap condition_bytes w.2))
          (after_byte (then (conditions (room - 1)) (conditions (room - 1))) h e r)

      either_at : get_or s i 0 ≡ 3 → {r : Option Parsed} → Reads (then (conditions (room - 1)) (conditions (room - 1))) s (i + 1) r → ConditionAt room s i r
      either_at e r =
          seen_as (marked 3 (then (conditions (room - 1)) (conditions (room - 1)))) (conditions room)
          (λ p g. (either p.0 p.1, ((g.0.0, g.1.0), omega arith), refl, λ v. refl))
          (λ c g st. let w = form_of c st e in let f = rw w.2 at g in ((w.0, w.1), ((f.0.0, omega arith), (f.0.1, omega arith)), ap condition_bytes w.2))
          (after_byte (then (conditions (room - 1)) (conditions (room - 1))) h e r)

      -- and, or
      pub double_at : (get_or s i 0 ≡ 1 → ⊥) → get_or s i 0 ≤ 3 → {r : Option Parsed} → Reads (then (conditions (room - 1)) (conditions (room - 1))) s (i + 1) r → ConditionAt room s i r
      double_at l m r = ⊎_elim (λ e. both_at e r) (λ e. either_at e r) (two_or_three (get_or s i 0) k l m)

      -- where nothing lies inside, whichever of the three it is
      pub no_inside : get_or s i 0 ≤ 3 → Reads (conditions (room - 1)) s (i + 1) None → ConditionAt room s i None
      no_inside m r = ⊎_elim (λ e. negated_at e r) (λ e. double_at e m (no_first (conditions (room - 1)) (conditions (room - 1)) r)) (one_or_not (get_or s i 0))

-- ---- statements
pub one_of_two : (k n : ℕ) → k ≤ n → n < k + 2 → (n ≡ k) ⊎ (n ≡ k + 1)
one_of_two k n a b = ⊎_elim (λ e. inl (sym e)) (λ l. inr (omega arith)) (eq-or-lt_of_le a)

pub ten_apart : (n : ℕ) → 10 ≤ n → (n ≡ 10 → ⊥) → 10 < n
ten_apart n a b = omega arith

-- the two numbers after the first byte
abbrev pub Two : ℕ → ℕ → List ℕ → ℕ → Type 0
Two a b s i = (i + 2 < length s) × (get_or s (i + 1) 0 ≤ a) × (get_or s (i + 2) 0 ≤ b)

-- the offset after the first byte
abbrev pub offset : List ℕ → ℕ → ℕ
offset s i = get_or s (i + 1) 0 + 256 * get_or s (i + 2) 0

module _ (s : List ℕ) (i : ℕ) (h : i < length s) (tags : ℕ) (strings : List ℕ) where
  pub statement_of : (t : Statement) → Starts (drop i s) (statement_bytes t) → {k : ℕ} → get_or s i 0 ≡ k → StatementForm k t
  statement_of t st e = subst (λ (n : ℕ). StatementForm n t) e (statement_form t st.0 (sym st.1 ∙ at_byte s i h))

  -- a statement of one byte
  pub byte_whole : (k : ℕ) (t : Statement) → get_or s i 0 ≡ k → statement_bytes t ≡ k ∷ [] → StatementFits tags strings t → statement_nesting t ≡ 0 → {r : Parsed} → r.next ≡ i + 1 → r.first ≡ statement_allowed first t → r.second ≡ statement_allowed second t
      → PlainAt tags strings s i (Some r)
  byte_whole k t e w g flat q α β room =
      whole t (g, omega arith) (drop (i + 1) s, at_byte s i h ∙ ap (λ (n : ℕ). n ∷ drop (i + 1) s) e ∙ ap (λ (l : List ℕ). l ++ drop (i + 1) s) (sym w)) (q ∙ ap (λ (l : List ℕ). i + length l) (sym w)) α β

  pub tag_whole : (k : ℕ) (t : Statement) → i + 1 < length s → get_or s i 0 ≡ k → statement_bytes t ≡ k ∷ get_or s (i + 1) 0 ∷ [] → StatementFits tags strings t → statement_nesting t ≡ 0 → {r : Parsed} → r.next ≡ i + 2 → r.first ≡ statement_allowed first t → r.second ≡ statement_allowed second t
      → PlainAt tags strings s i (Some r)
  tag_whole k t l e w g flat q α β room =
      whole t (g, omega arith) (drop (i + 1 + 1) s, two_bytes s i l ∙ ap (λ (n : ℕ). n ∷ get_or s (i + 1) 0 ∷ drop (i + 1 + 1) s) e ∙ ap (λ (l : List ℕ). l ++ drop (i + 1 + 1) s) (sym w)) (q ∙ ap (λ (l : List ℕ). i + length l) (sym w)) α β

  pub two_whole : (k : ℕ) (t : Statement) → i + 2 < length s → get_or s i 0 ≡ k → statement_bytes t ≡ k ∷ get_or s (i + 1) 0 ∷ get_or s (i + 2) 0 ∷ [] → StatementFits tags strings t → statement_nesting t ≡ 0
      → {r : Parsed} → r.next ≡ i + 3 → r.first ≡ statement_allowed first t → r.second ≡ statement_allowed second t → PlainAt tags strings s i (Some r)
  two_whole k t l e w g flat q α β room =
      whole t (g, omega arith) (drop (i + 3) s, three_bytes s i l ∙ ap (λ (n : ℕ). n ∷ get_or s (i + 1) 0 ∷ get_or s (i + 2) 0 ∷ drop (i + 3) s) e ∙ ap (λ (l : List ℕ). l ++ drop (i + 3) s) (sym w)) (q ∙ ap (λ (l : List ℕ). i + length l) (sym w)) α β

  pub text_whole : get_or s i 0 ≡ 7 → i + 3 < length s → get_or s (i + 1) 0 < 256 → Printable strings (offset s i) (get_or s (i + 3) 0) → {r : Parsed} → ForBoth (i + 4) r → PlainAt tags strings s i (Some r)
  text_whole e l low p w room =
      let o = offset s i in
      let n = get_or s (i + 3) 0 in
      let a : get_or s (i + 1) 0 ≡ o % 256 = omega arith in
      let b : get_or s (i + 2) 0 ≡ o / 256 = omega arith in
      let lies : drop i s ≡ 7 ∷ (o % 256) ∷ (o / 256) ∷ n ∷ drop (i + 4) s = four_bytes s i l ∙ ap₂ (λ (x y : ℕ). x ∷ y ∷ get_or s (i + 2) 0 ∷ n ∷ drop (i + 4) s) e a ∙ ap (λ (y : ℕ). 7 ∷ (o % 256) ∷ y ∷ n ∷ drop (i + 4) s) b in
      whole (print_text o n) (p, omega arith) (drop (i + 4) s, lies) w.next_is w.first_is w.second_is

  pub tag_at : (get_or s i 0 ≡ 5) ⊎ (get_or s i 0 ≡ 6) → i + 1 < length s → get_or s (i + 1) 0 < tags → {r : Parsed} → ForBoth (i + 2) r → PlainAt tags strings s i (Some r)
  tag_at (inl e) l g w = tag_whole 5 (print_start (get_or s (i + 1) 0)) l e refl g refl w.next_is w.first_is w.second_is
  tag_at (inr e) l g w = tag_whole 6 (print_end (get_or s (i + 1) 0)) l e refl g refl w.next_is w.first_is w.second_is

  pub echo_at : (get_or s i 0 ≡ 8) ⊎ (get_or s i 0 ≡ 9) → PlainAt tags strings s i (Some (record { next = i + 1; first = true; second = false }))
  echo_at (inl e) = byte_whole 8 (echo true) e refl tt refl refl refl refl
  echo_at (inr e) = byte_whole 9 (echo false) e refl tt refl refl refl refl

  -- a statement whose first byte tells its form, and which does not fit
  no_such : ((t : Statement) → StatementFits tags strings t → Starts (drop i s) (statement_bytes t) → ⊥) → PlainAt tags strings s i None
  no_such f room = none (λ t g st. f t g.0 st)

  two_of : (k a b : ℕ) {m n : ℕ} → Starts (drop i s) (k ∷ a ∷ b ∷ []) → a ≤ m → b ≤ n → Two m n s i
  two_of k a b st α β =
      let p = byte_of s i (k ∷ a ∷ b ∷ []) st 1 (omega arith) in
      let q = byte_of s i (k ∷ a ∷ b ∷ []) st 2 (omega arith) in
      (q.0, omega arith, omega arith)

  pub no_become : get_or s i 0 ≡ 1 → (Two bounds.highest_attribute bounds.highest_value s i → ⊥) → PlainAt tags strings s i None
  no_become e f = no_such (λ t g st. let w = statement_of t st e in let h = rw w.2 at g in f (two_of 1 w.0 w.1 (rw w.2 at st) h.0 h.1))

  pub no_copy : get_or s i 0 ≡ 2 → (Two bounds.highest_attribute bounds.highest_attribute s i → ⊥) → PlainAt tags strings s i None
  no_copy e f = no_such (λ t g st. let w = statement_of t st e in let h = rw w.2 at g in f (two_of 2 w.0 w.1 (rw w.2 at st) h.0 h.1))

  pub no_recall : get_or s i 0 ≡ 3 → (Two bounds.highest_attribute bounds.highest_attribute s i → ⊥) → PlainAt tags strings s i None
  no_recall e f = no_such (λ t g st. let w = statement_of t st e in let h = rw w.2 at g in f (two_of 3 w.0 w.1 (rw w.2 at st) h.0 h.1))

  tag_of : (k n : ℕ) → Starts (drop i s) (k ∷ n ∷ []) → n < tags → (i + 1 < length s) × (get_or s (i + 1) 0 < tags)
  tag_of k n st g = let p = byte_of s i (k ∷ n ∷ []) st 1 (omega arith) in (p.0, omega arith)

  pub no_tag : (get_or s i 0 ≡ 5) ⊎ (get_or s i 0 ≡ 6) → ((i + 1 < length s) × (get_or s (i + 1) 0 < tags) → ⊥) → PlainAt tags strings s i None
  no_tag (inl e) f = no_such (λ t g st. let w = statement_of t st e in f (tag_of 5 w.0 (rw w.1 at st) (rw w.1 at g)))
  no_tag (inr e) f = no_such (λ t g st. let w = statement_of t st e in f (tag_of 6 w.0 (rw w.1 at st) (rw w.1 at g)))

  pub no_text : get_or s i 0 ≡ 7 → ((i + 3 < length s) × Printable strings (offset s i) (get_or s (i + 3) 0) → ⊥) → PlainAt tags strings s i None
  no_text e f = no_such go
    where
      go : (t : Statement) → StatementFits tags strings t → Starts (drop i s) (statement_bytes t) → ⊥
      go t g st =
          let w = statement_of t st e in
          let o = w.0 in
          let n = w.1 in
          let bytes : List ℕ = 7 ∷ (o % 256) ∷ (o / 256) ∷ n ∷ [] in
          let st' : Starts (drop i s) bytes = rw w.2 at st in
          let a = byte_of s i bytes st' 1 (omega arith) in
          let b = byte_of s i bytes st' 2 (omega arith) in
          let c = byte_of s i bytes st' 3 (omega arith) in
          let same : o ≡ offset s i = omega arith in
          let p : Printable strings o n = rw w.2 at g in
          f (c.0, subst (λ (m : ℕ). Printable strings m (get_or s (i + 3) 0)) same (subst (λ (m : ℕ). Printable strings o m) (sym c.1) p))

  pub no_statement : (get_or s i 0 ≡ 0) ⊎ (10 < get_or s i 0) → PlainAt tags strings s i None
  no_statement (inl e) = no_such (λ t g st. statement_of t st e)
  no_statement (inr over) = no_such (λ t g st. first_at_most t st)
    where
      first_at_most : (t : Statement) → Starts (drop i s) (statement_bytes t) → ⊥
      first_at_most (become a v) st = omega (arith, first_byte s i 1 (a ∷ v ∷ []) st)
      first_at_most (copy a b) st = omega (arith, first_byte s i 2 (a ∷ b ∷ []) st)
      first_at_most (recall a b) st = omega (arith, first_byte s i 3 (a ∷ b ∷ []) st)
      first_at_most reject st = omega (arith, first_byte s i 4 [] st)
      first_at_most (print_start n) st = omega (arith, first_byte s i 5 (n ∷ []) st)
      first_at_most (print_end n) st = omega (arith, first_byte s i 6 (n ∷ []) st)
      first_at_most (print_text o n) st = omega (arith, first_byte s i 7 ((o % 256) ∷ (o / 256) ∷ n ∷ []) st)
      first_at_most (echo true) st = omega (arith, first_byte s i 8 [] st)
      first_at_most (echo false) st = omega (arith, first_byte s i 9 [] st)
      first_at_most (branch c l m) st = omega (arith, first_byte s i 10 (condition_bytes c ++ (program_bytes l ++ program_bytes m)) st)

  module _ (room : ℕ) (e : get_or s i 0 ≡ 10) where
    pub no_room : room ≡ 0 → StatementAt tags strings room s i None
    no_room z = none (λ t g st. let w = statement_of t st e in let f = rw w.3 at g in omega arith)

    pub branch_at : (room ≡ 0 → ⊥) → {r : Option Parsed} → Reads (then (conditions (room - 1)) (then (lists tags strings (room - 1)) (lists tags strings (room - 1)))) s (i + 1) r → StatementAt tags strings room s i r
    branch_at some r =
        seen_as (marked 10 (then (conditions (room - 1)) (then (lists tags strings (room - 1)) (lists tags strings (room - 1))))) (statements tags strings room)
        (λ p g. (branch p.0 p.1.0 p.1.1, ((g.0.0, g.1.0.0, g.1.1.0), omega arith), refl, λ v. refl))
        (λ t g st. let w = statement_of t st e in let f = rw w.3 at g in ((w.0, (w.1, w.2)), ((f.0.0, omega arith), ((f.0.1, omega arith), (f.0.2, omega arith))), ap statement_bytes w.3))
        (after_byte (then (conditions (room - 1)) (then (lists tags strings (room - 1)) (lists tags strings (room - 1)))) h e r)

  -- ---- lists
  pub done_at : (room : ℕ) → get_or s i 0 ≡ 0 → {r : Parsed} → ForBoth (i + 1) r → ListAt tags strings room s i (Some r)
  done_at room e w = whole done (tt, omega arith) (drop (i + 1) s, at_byte s i h ∙ ap (λ (n : ℕ). n ∷ drop (i + 1) s) e) w.next_is w.first_is w.second_is

  pub step_at : (room : ℕ) → (get_or s i 0 ≡ 0 → ⊥) → {r : Option Parsed} → Reads (then (statements tags strings room) (lists tags strings room)) s i r → ListAt tags strings room s i r
  step_at room k r =
      seen_as (then (statements tags strings room) (lists tags strings room)) (lists tags strings room)
      (λ p g. (step p.0 p.1, ((g.0.0, g.1.0), omega arith), refl, λ v. refl))
      back
      r
    where
      back : (p : Program) → ListWithin tags strings room p → Starts (drop i s) (program_bytes p) → (x : Statement × Program) × (then (statements tags strings room) (lists tags strings room)).Good x × (program_bytes p ≡ (then (statements tags strings room) (lists tags strings room)).bytes x)
      back done g st = absurd (k (first_byte s i 0 [] st))
      back (step t p) g st = ((t, p), ((g.0.0, omega arith), (g.0.1, omega arith)), refl)
