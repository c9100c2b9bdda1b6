-- No two operands, conditions, statements or programs start the same bytes: the first byte tells the form, and then part by part.
-- Assumes nothing.
use mathlib.Core.Path.{◌≡◌, refl, sym, ◌∙◌, subst}
use mathlib.Core.Bool.{true, false}
use mathlib.Core.List.{List, ◌∷◌, ◌++◌, append_assoc, head-eq_of_cons-eq, tail-eq_of_cons-eq}
use Prim.Native.Nat.{ℕ, zero, suc, ◌/◌, ◌%◌, ◌≤◌}
use native.Mathlib.Omega.{arith}
use lib.ListN.{length, length-append}
use Rattle.programs.specs.Program.{Operand, constant, current, recalled, operand_bytes, Condition, equal, negated, both, either, condition_bytes, Statement, become, copy, recall, reject, print_start, print_end, print_text, echo, branch, statement_bytes, Program, done, step, program_bytes}

-- where two of a kind start the same bytes, they are equal, and so is what follows them
abbrev pub Agree : {T : Type 0} → (T → List ℕ) → Type 0
Agree {T} bytes = (x y : T) (u v : List ℕ) → bytes x ++ u ≡ bytes y ++ v → (x ≡ y) × (u ≡ v)

-- the form that a first byte tells
abbrev pub OperandForm : ℕ → Operand → Type 0
OperandForm zero x = (v : ℕ) × (x ≡ constant v)
OperandForm (suc zero) x = (a : ℕ) × (x ≡ current a)
OperandForm (suc (suc zero)) x = (a : ℕ) × (x ≡ recalled a)
OperandForm (suc (suc (suc n))) x = ⊥

abbrev pub ConditionForm : ℕ → Condition → Type 0
ConditionForm zero c = (x y : Operand) × (c ≡ equal x y)
ConditionForm (suc zero) c = (d : Condition) × (c ≡ negated d)
ConditionForm (suc (suc zero)) c = (d e : Condition) × (c ≡ both d e)
ConditionForm (suc (suc (suc zero))) c = (d e : Condition) × (c ≡ either d e)
ConditionForm (suc (suc (suc (suc n)))) c = ⊥

abbrev pub StatementForm : ℕ → Statement → Type 0
StatementForm zero t = ⊥
StatementForm (suc zero) t = (a v : ℕ) × (t ≡ become a v)
StatementForm (suc (suc zero)) t = (a b : ℕ) × (t ≡ copy a b)
StatementForm (suc (suc (suc zero))) t = (a b : ℕ) × (t ≡ recall a b)
StatementForm (suc (suc (suc (suc zero)))) t = t ≡ reject
StatementForm (suc (suc (suc (suc (suc zero))))) t = (n : ℕ) × (t ≡ print_start n)
StatementForm (suc (suc (suc (suc (suc (suc zero)))))) t = (n : ℕ) × (t ≡ print_end n)
StatementForm (suc (suc (suc (suc (suc (suc (suc zero))))))) t = (o n : ℕ) × (t ≡ print_text o n)
StatementForm (suc (suc (suc (suc (suc (suc (suc (suc zero)))))))) t = t ≡ echo true
StatementForm (suc (suc (suc (suc (suc (suc (suc (suc (suc zero))))))))) t = t ≡ echo false
StatementForm (suc (suc (suc (suc (suc (suc (suc (suc (suc (suc zero)))))))))) t = (c : Condition) × (l m : Program) × (t ≡ branch c l m)
StatementForm (suc (suc (suc (suc (suc (suc (suc (suc (suc (suc (suc n))))))))))) t = ⊥

module _ {k : ℕ} {g : List ℕ} where
  pub operand_form : (x : Operand) (u : List ℕ) → operand_bytes x ++ u ≡ k ∷ g → OperandForm k x
  operand_form (constant v) u e = subst (λ (n : ℕ). OperandForm n (constant v)) (head-eq_of_cons-eq e) (v, refl)
  operand_form (current a) u e = subst (λ (n : ℕ). OperandForm n (current a)) (head-eq_of_cons-eq e) (a, refl)
  operand_form (recalled a) u e = subst (λ (n : ℕ). OperandForm n (recalled a)) (head-eq_of_cons-eq e) (a, refl)

  pub condition_form : (c : Condition) (u : List ℕ) → condition_bytes c ++ u ≡ k ∷ g → ConditionForm k c
  condition_form (equal x y) u e = subst (λ (n : ℕ). ConditionForm n (equal x y)) (head-eq_of_cons-eq e) (x, y, refl)
  condition_form (negated c) u e = subst (λ (n : ℕ). ConditionForm n (negated c)) (head-eq_of_cons-eq e) (c, refl)
  condition_form (both c d) u e = subst (λ (n : ℕ). ConditionForm n (both c d)) (head-eq_of_cons-eq e) (c, d, refl)
  condition_form (either c d) u e = subst (λ (n : ℕ). ConditionForm n (either c d)) (head-eq_of_cons-eq e) (c, d, refl)

  pub statement_form : (t : Statement) (u : List ℕ) → statement_bytes t ++ u ≡ k ∷ g → StatementForm k t
  statement_form (become a v) u e = subst (λ (n : ℕ). StatementForm n (become a v)) (head-eq_of_cons-eq e) (a, v, refl)
  statement_form (copy a b) u e = subst (λ (n : ℕ). StatementForm n (copy a b)) (head-eq_of_cons-eq e) (a, b, refl)
  statement_form (recall a b) u e = subst (λ (n : ℕ). StatementForm n (recall a b)) (head-eq_of_cons-eq e) (a, b, refl)
  statement_form reject u e = subst (λ (n : ℕ). StatementForm n reject) (head-eq_of_cons-eq e) refl
  statement_form (print_start t) u e = subst (λ (n : ℕ). StatementForm n (print_start t)) (head-eq_of_cons-eq e) (t, refl)
  statement_form (print_end t) u e = subst (λ (n : ℕ). StatementForm n (print_end t)) (head-eq_of_cons-eq e) (t, refl)
  statement_form (print_text o n) u e = subst (λ (k : ℕ). StatementForm k (print_text o n)) (head-eq_of_cons-eq e) (o, n, refl)
  statement_form (echo true) u e = subst (λ (n : ℕ). StatementForm n (echo true)) (head-eq_of_cons-eq e) refl
  statement_form (echo false) u e = subst (λ (n : ℕ). StatementForm n (echo false)) (head-eq_of_cons-eq e) refl
  statement_form (branch c l m) u e = subst (λ (n : ℕ). StatementForm n (branch c l m)) (head-eq_of_cons-eq e) (c, l, m, refl)

-- two parts and what follows them, the first part apart
apart : (x y u x' y' v : List ℕ) → (x ++ y) ++ u ≡ (x' ++ y') ++ v → x ++ (y ++ u) ≡ x' ++ (y' ++ v)
apart x y u x' y' v e = sym (append_assoc x y u) ∙ e ∙ append_assoc x' y' v

pub operand_agree : Agree operand_bytes
operand_agree (constant n) y u v e = let w = operand_form y v (sym e) in let f = rw w.1 at e in (rw w.1 (cc), cc)
operand_agree (current a) y u v e = let w = operand_form y v (sym e) in let f = rw w.1 at e in (rw w.1 (cc), cc)
operand_agree (recalled a) y u v e = let w = operand_form y v (sym e) in let f = rw w.1 at e in (rw w.1 (cc), cc)

pub condition_agree : Agree condition_bytes
condition_agree (equal x x') c u v e =
    let w = condition_form c v (sym e) in
    let f = apart (operand_bytes x) (operand_bytes x') u (operand_bytes w.0) (operand_bytes w.1) v (tail-eq_of_cons-eq (rw w.2 at e)) in
    let p = operand_agree x w.0 (operand_bytes x' ++ u) (operand_bytes w.1 ++ v) f in
    let q = operand_agree x' w.1 u v p.1 in
    (rw w.2 (cc), q.1)
condition_agree (negated c) d u v e =
    let w = condition_form d v (sym e) in
    let p = condition_agree c w.0 u v (tail-eq_of_cons-eq (rw w.1 at e)) in
    (rw w.1 (cc), p.1)
condition_agree (both c c') d u v e =
    let w = condition_form d v (sym e) in
    let f = apart (condition_bytes c) (condition_bytes c') u (condition_bytes w.0) (condition_bytes w.1) v (tail-eq_of_cons-eq (rw w.2 at e)) in
    let p = condition_agree c w.0 (condition_bytes c' ++ u) (condition_bytes w.1 ++ v) f in
    let q = condition_agree c' w.1 u v p.1 in
    (rw w.2 (cc), q.1)
condition_agree (either c c') d u v e =
    let w = condition_form d v (sym e) in
    let f = apart (condition_bytes c) (condition_bytes c') u (condition_bytes w.0) (condition_bytes w.1) v (tail-eq_of_cons-eq (rw w.2 at e)) in
    let p = condition_agree c w.0 (condition_bytes c' ++ u) (condition_bytes w.1 ++ v) f in
    let q = condition_agree c' w.1 u v p.1 in
    (rw w.2 (cc), q.1)

-- an offset is its two bytes
pub offset_one : (o p : ℕ) → o % 256 ≡ p % 256 → o / 256 ≡ p / 256 → o ≡ p
offset_one o p low high = omega arith

-- no statement starts with the closing 0
pub not_closing : (t : Statement) (u g : List ℕ) → statement_bytes t ++ u ≡ 0 ∷ g → ⊥
not_closing t u g e = statement_form t u e

mutual
  pub statement_agree : Agree statement_bytes
  statement_agree (become a n) t u v e = let w = statement_form t v (sym e) in let f = rw w.2 at e in (rw w.2 (cc), cc)
  statement_agree (copy a b) t u v e = let w = statement_form t v (sym e) in let f = rw w.2 at e in (rw w.2 (cc), cc)
  statement_agree (recall a b) t u v e = let w = statement_form t v (sym e) in let f = rw w.2 at e in (rw w.2 (cc), cc)
  statement_agree reject t u v e = let w = statement_form t v (sym e) in let f = rw w at e in (rw w (cc), cc)
  statement_agree (print_start n) t u v e = let w = statement_form t v (sym e) in let f = rw w.1 at e in (rw w.1 (cc), cc)
  statement_agree (print_end n) t u v e = let w = statement_form t v (sym e) in let f = rw w.1 at e in (rw w.1 (cc), cc)
  statement_agree (print_text o n) t u v e =
      let w = statement_form t v (sym e) in
      let f = rw w.2 at e in
      let same : o ≡ w.0 = offset_one o w.0 (cc) (cc) in
      (rw w.2 (cc), cc)
  statement_agree (echo true) t u v e = let w = statement_form t v (sym e) in let f = rw w at e in (rw w (cc), cc)
  statement_agree (echo false) t u v e = let w = statement_form t v (sym e) in let f = rw w at e in (rw w (cc), cc)
  statement_agree (branch c l m) t u v e =
      let w = statement_form t v (sym e) in
      let f = apart (condition_bytes c) (program_bytes l ++ program_bytes m) u (condition_bytes w.0) (program_bytes w.1 ++ program_bytes w.2) v (tail-eq_of_cons-eq (rw w.3 at e)) in
      let p = condition_agree c w.0 ((program_bytes l ++ program_bytes m) ++ u) ((program_bytes w.1 ++ program_bytes w.2) ++ v) f in
      let q = program_agree l w.1 (program_bytes m ++ u) (program_bytes w.2 ++ v) (apart (program_bytes l) (program_bytes m) u (program_bytes w.1) (program_bytes w.2) v p.1) in
      let r = program_agree m w.2 u v q.1 in
      (rw w.3 (cc), r.1)

  pub program_agree : Agree program_bytes
  program_agree done done u v e = (refl, cc)
  program_agree done (step t p) u v e = absurd (not_closing t (program_bytes p ++ v) u (simp append_assoc at (sym e)))
  program_agree (step t p) done u v e = absurd (not_closing t (program_bytes p ++ u) v (simp append_assoc at e))
  program_agree (step t p) (step t' p') u v e =
      let a = statement_agree t t' (program_bytes p ++ u) (program_bytes p' ++ v) (simp append_assoc at e) in
      let b = program_agree p p' u v a.1 in
      (cc, b.1)

-- none of them is empty
pub operand_some : (x : Operand) → 1 ≤ length (operand_bytes x)
operand_some (constant v) = omega arith
operand_some (current a) = omega arith
operand_some (recalled a) = omega arith

pub condition_some : (c : Condition) → 1 ≤ length (condition_bytes c)
condition_some (equal x y) = omega arith
condition_some (negated c) = omega arith
condition_some (both c d) = omega arith
condition_some (either c d) = omega arith

pub statement_some : (t : Statement) → 1 ≤ length (statement_bytes t)
statement_some (become a v) = omega arith
statement_some (copy a b) = omega arith
statement_some (recall a b) = omega arith
statement_some reject = omega arith
statement_some (print_start t) = omega arith
statement_some (print_end t) = omega arith
statement_some (print_text o n) = omega arith
statement_some (echo on) = omega arith
statement_some (branch c l m) = omega arith

pub program_some : (p : Program) → 1 ≤ length (program_bytes p)
program_some done = omega arith
program_some (step t p) = omega (arith, length-append (statement_bytes t) (program_bytes p), statement_some t)
