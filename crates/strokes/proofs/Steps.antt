-- The bytes and what is needed to go on follow the machine, token by token. Assumes nothing.
use mathlib.Core.Path.{◌≡◌, refl, sym, ◌∙◌, ap, ap₂, subst}
use mathlib.Core.Bool.{Bool, true, false}
use mathlib.Core.Option.{Option, none, some}
use mathlib.Core.List.{List, [], ◌∷◌, ◌++◌, append-nil, append_assoc}
use Prim.Native.Nat.{ℕ, suc, ◌≤◌}
use native.Mathlib.Omega.{arith}
use borrow.Author.Tests.{ltb-true}
use lib.Dec.{ltb}
use lib.ListN.{length, replicate}
use Rattle.limits.specs.Limits.{longest_program}
use Rattle.programs.specs.Program.{Operand, constant, current, recalled, operand_bytes, Condition, equal, condition_bytes, statement_bytes}
use Rattle.programs.specs.Limits.{Visit}
use Rattle.notation.specs.Program.{TextProgram, done, statement_in}
use Rattle.notation.specs.Statements.{parentheses, only, assigned}
use Rattle.notation.specs.Tokens.{TextToken}
use Rattle.reading.specs.Conditions as conditions
use Rattle.reading.specs.Conditions.{ConditionPart, disjoined, Reading, condition_opened, step_part, step_condition, value_of_condition}
use Rattle.reading.specs.Statements.{Start, Behind, Pending, otherwise, ListLevel, list_level, listed, Place, opening, separated, branching, Listing, wants, target, assigning, printing, testing, after, unblocked, blocked, emptied, started_list, elsed, one_more, followed, printed, targeted, assigned_by, thenned, tested, behind_of, step_statements}
use Rattle.strokes.specs.Conditions.{or_part, levels_on, ors_on, ands_on}
use Rattle.strokes.specs.Bodies.{body_bytes, front_of, test_front, ink_of, marks_of, marks_in}
use Rattle.strokes.specs.Strokes.{Inks, Stroke, most_stacked, written_on, inserted_at, stacked, topped, first_of, rest_of, unwound, owed, skipped, else_owed, operand_on, inked}
use Rattle.strokes.specs.Promises.{DrawnInk}
use Rattle.strokes.proofs.Lists.{grown, put_in, heaped}
use Rattle.strokes.proofs.Conditions.{or_bytes, close_bytes, other_bytes, not_bytes, and_in, or_in}
use Rattle.strokes.proofs.Bodies as bodies
use Rattle.strokes.proofs.Bodies.{then_bytes, listed_bytes, ElsedAs, unwound_marks}
use Rattle.strokes.proofs.Does.{code_of, which_of, PartDoes, part_used, part_not, part_and, part_or, part_open, part_close, part_equals, no_part, StartDoes, start_simple, start_target, start_print, start_if_lem, start_begin, start_end, start_none, NextDoes, next_item, next_semicolon, next_else, next_end, next_then, next_assign, next_none, TokenDoes}

operand_bytes_lem : (x : Operand) {c n : ℕ} → c ≡ code_of x → n ≡ which_of x → c ∷ n ∷ [] ≡ operand_bytes x
operand_bytes_lem (constant v) e g = ap₂ (λ y z. y ∷ z ∷ []) e g
operand_bytes_lem (current a) e g = ap₂ (λ y z. y ∷ z ∷ []) e g
operand_bytes_lem (recalled a) e g = ap₂ (λ y z. y ∷ z ∷ []) e g

ors_long : (xs : List ℕ) (ls : List conditions.ConditionLevel) → length (ors_on xs ls) ≡ length ls
ors_long xs [] = refl
ors_long xs (l ∷ ls) = ap suc (ors_long xs ls)

ands_long : (xs : List ℕ) (ls : List conditions.ConditionLevel) → length (ands_on xs ls) ≡ length ls
ands_long xs [] = refl
ands_long xs (l ∷ ls) = ap suc (ands_long xs ls)

module _ (tag offset : List ℕ → ℕ) where
  -- room for the bytes and the marks of a state
  pub record Fits (q : Listing) : Type 0 where
    pub few_bytes : length (ink_of tag offset q) ≤ longest_program
    pub few_marks : length (marks_in q) ≤ most_stacked

  abbrev pub DrawnIf : Option Listing → Inks → Type 0
  DrawnIf none s = Unit {0}
  DrawnIf (some q) s = Fits q → DrawnInk tag offset q s

  -- a list opens with nothing before it
  abbrev pub OpensBlank : Place → ListLevel → Type 0
  OpensBlank opening l = body_bytes tag offset (listed l done) ≡ []
  OpensBlank separated l = Unit {0}
  OpensBlank branching l = Unit {0}

  -- the list in which the place lies ends behind p
  closing : (s : Inks) (l : ListLevel) (ls : List ListLevel) (p : TextProgram) → s.bytes ≡ front_of tag offset (l ∷ ls) ++ body_bytes tag offset p → s.marks ≡ marks_of (l ∷ ls)
      → length (front_of tag offset ls ++ body_bytes tag offset (listed l p)) ≤ longest_program
      → written_on s.bytes (replicate (owed s.marks) 0) ≡ front_of tag offset ls ++ body_bytes tag offset (listed l p)
  closing s l ls p e g h =
      ap (λ m. written_on s.bytes (replicate (owed m) 0)) g
      ∙ grown (replicate (owed (marks_of (l ∷ ls))) 0) (front_of tag offset ls ++ body_bytes tag offset (listed l p)) e (listed_bytes tag offset l ls p) h

  -- where a statement may begin
  begun : (w : Place) (l : ListLevel) (ls : List ListLevel) (s : Inks) → DrawnInk tag offset (wants w l ls) s → DrawnIf (blocked w l ls) (inked Stroke.begins s)
  begun opening l ls s d = tt
  begun separated l ls s d = tt
  begun branching l ls s d = λ f. record { bytes_are = d.bytes_are ∙ sym (append-nil (front_of tag offset (l ∷ ls))); marks_are = heaped 0 d.marks_are f.few_marks; stage_is = d.stage_is }

  nothing_read : (l : ListLevel) (ls : List ListLevel) (s : Inks) → DrawnInk tag offset (wants opening l ls) s → OpensBlank opening l → DrawnIf (unblocked ls done) (inked Stroke.ends s)
  nothing_read l [] s d b = tt
  nothing_read l (m ∷ ls) s d b = λ f.
      let e : front_of tag offset (m ∷ ls) ++ body_bytes tag offset (listed l done) ≡ front_of tag offset (m ∷ ls) ++ [] = ap (λ z. front_of tag offset (m ∷ ls) ++ z) b in
      record { bytes_are = closing s l (m ∷ ls) done (d.bytes_are ∙ sym (append-nil (front_of tag offset (l ∷ m ∷ ls)))) d.marks_are (subst (λ z. length z ≤ longest_program) (sym e) f.few_bytes) ∙ e; marks_are = ap (λ z. rest_of (unwound z)) d.marks_are ∙ ap rest_of (unwound_marks tag offset l.ifs (marks_of (m ∷ ls))); stage_is = d.stage_is }

  nothing_ends : (w : Place) (l : ListLevel) (ls : List ListLevel) (s : Inks) → DrawnInk tag offset (wants w l ls) s → OpensBlank w l → DrawnIf (emptied w l ls) (inked Stroke.ends s)
  nothing_ends opening l ls s d b = nothing_read l ls s d b
  nothing_ends separated l ls s d b = tt
  nothing_ends branching l ls s d b = tt

  tested_drawn : (w : Place) (l : ListLevel) (ls : List ListLevel) (s : Inks) → DrawnInk tag offset (wants w l ls) s → DrawnIf (started_list w l ls Start.an_if) (inked Stroke.tests s)
  tested_drawn w l ls s d = λ f.
      let xs : List ℕ = test_front tag offset (l ∷ ls) in
      let e : written_on s.bytes (10 ∷ []) ≡ test_front tag offset (l ∷ ls) = grown (10 ∷ []) (test_front tag offset (l ∷ ls)) d.bytes_are refl (subst (λ z. length z ≤ longest_program) (append-nil (test_front tag offset (l ∷ ls))) f.few_bytes) in
      let g : written_on s.bytes (10 ∷ []) ≡ test_front tag offset (l ∷ ls) ++ [] = e ∙ sym (append-nil (test_front tag offset (l ∷ ls))) in
      record { bytes_are = g; marks_are = d.marks_are; stage_is = record { mode_is = refl; ors_are = ap (λ z. length z ∷ []) e; ands_are = ap (λ z. length z ∷ []) g } }

  started_drawn : (w : Place) (l : ListLevel) (ls : List ListLevel) (s : Inks) {k : Start} {st : Stroke} → DrawnInk tag offset (wants w l ls) s → OpensBlank w l
      → StartDoes tag offset k st → DrawnIf (started_list w l ls k) (inked st s)
  started_drawn w l ls s d b (start_simple {t = t} {bs = bs} e) = λ f.
      record { bytes_are = grown bs _ d.bytes_are (ap (λ z. front_of tag offset (l ∷ ls) ++ z) (sym (append-nil (statement_bytes (statement_in tag offset t)) ∙ e))) f.few_bytes; marks_are = d.marks_are; stage_is = d.stage_is }
  started_drawn w l ls s d b (start_target {a = a} {c = c} {n = n} e) = λ f.
      subst (λ m. DrawnInk tag offset (target a l ls) (operand_on m c n s)) (sym d.stage_is) (record { bytes_are = d.bytes_are; marks_are = d.marks_are; stage_is = record { mode_is = refl; target_is = e } })
  started_drawn w l ls s d b start_print = λ f. record { bytes_are = d.bytes_are; marks_are = d.marks_are; stage_is = d.stage_is }
  started_drawn w l ls s d b start_if_lem = tested_drawn w l ls s d
  started_drawn w l ls s d b start_begin = begun w l ls s d
  started_drawn w l ls s d b start_end = nothing_ends w l ls s d b
  started_drawn w l ls s d b start_none = tt

  -- an assignment, and the items of a print
  targeted_drawn : (a : ℕ) (l : ListLevel) (ls : List ListLevel) (s : Inks) {k : Behind} {st : Stroke} → DrawnInk tag offset (target a l ls) s → NextDoes tag offset k st → DrawnIf (targeted a l ls k) (inked st s)
  targeted_drawn a l ls s d (next_item e) = tt
  targeted_drawn a l ls s d next_semicolon = tt
  targeted_drawn a l ls s d next_else = tt
  targeted_drawn a l ls s d next_end = tt
  targeted_drawn a l ls s d next_then = tt
  targeted_drawn a l ls s d next_assign = λ f. record { bytes_are = d.bytes_are; marks_are = d.marks_are; stage_is = record { mode_is = refl; target_is = d.stage_is.target_is } }
  targeted_drawn a l ls s d next_none = tt

  assigned_bytes : (a : ℕ) (x : Operand) {b c n : ℕ} → b ≡ a → c ≡ code_of x → n ≡ which_of x → suc c ∷ b ∷ n ∷ [] ≡ body_bytes tag offset (only (assigned a x))
  assigned_bytes a (constant v) h e g = cc
  assigned_bytes a (current b) h e g = cc
  assigned_bytes a (recalled b) h e g = cc

  assigned_drawn : (a : ℕ) (l : ListLevel) (ls : List ListLevel) (s : Inks) {k : ConditionPart} {st : Stroke} → DrawnInk tag offset (assigning a l ls) s → PartDoes k st → DrawnIf (assigned_by a l ls k) (inked st s)
  assigned_drawn a l ls s d (part_used {x = x} {c = c} {n = n} e g) = λ f.
      subst (λ m. DrawnInk tag offset (after false (only (assigned a x)) l ls) (operand_on m c n s)) (sym d.stage_is.mode_is)
      (record { bytes_are = grown (suc c ∷ s.target ∷ n ∷ []) _ d.bytes_are (ap (λ z. front_of tag offset (l ∷ ls) ++ z) (assigned_bytes a x d.stage_is.target_is e g)) f.few_bytes; marks_are = d.marks_are; stage_is = refl })
  assigned_drawn a l ls s d part_not = tt
  assigned_drawn a l ls s d part_and = tt
  assigned_drawn a l ls s d part_or = tt
  assigned_drawn a l ls s d part_open = tt
  assigned_drawn a l ls s d part_close = tt
  assigned_drawn a l ls s d part_equals = tt
  assigned_drawn a l ls s d no_part = tt

  printed_drawn : (l : ListLevel) (ls : List ListLevel) (s : Inks) {k : Behind} {st : Stroke} → DrawnInk tag offset (printing l ls) s → NextDoes tag offset k st → DrawnIf (printed l ls k) (inked st s)
  printed_drawn l ls s d (next_item {bs = bs} e) = λ f. record { bytes_are = grown bs _ d.bytes_are (ap (λ z. front_of tag offset (l ∷ ls) ++ z) (sym e)) f.few_bytes; marks_are = d.marks_are; stage_is = d.stage_is }
  printed_drawn l ls s d next_semicolon = tt
  printed_drawn l ls s d next_else = tt
  printed_drawn l ls s d next_end = tt
  printed_drawn l ls s d next_then = tt
  printed_drawn l ls s d next_assign = tt
  printed_drawn l ls s d next_none = tt

  -- behind a statement
  one_more_drawn : (b : Bool) (p q : TextProgram) (l : ListLevel) (ls : List ListLevel) (s : Inks) (bs : List ℕ) → DrawnInk tag offset (after b p l ls) s → body_bytes tag offset q ≡ bs → DrawnIf (one_more b p q l ls) (inked (Stroke.writes bs) s)
  one_more_drawn true p q l ls s bs d e = λ f.
      record { bytes_are = grown bs _ d.bytes_are (append_assoc (front_of tag offset (l ∷ ls)) (body_bytes tag offset p) bs ∙ ap (λ z. front_of tag offset (l ∷ ls) ++ z) (ap (λ z. body_bytes tag offset p ++ z) (sym e) ∙ sym (then_bytes tag offset p q))) f.few_bytes; marks_are = d.marks_are; stage_is = d.stage_is }
  one_more_drawn false p q l ls s bs d e = tt

  elsed_drawn : (b : Bool) (p : TextProgram) (l : ListLevel) (ls : List ListLevel) (s : Inks) (o : Option (List Pending)) → DrawnInk tag offset (after b p l ls) s
      → ElsedAs tag offset (front_of tag offset ls ++ body_bytes tag offset l.before) l.ifs (0 ∷ marks_of ls) p o → DrawnIf (elsed l ls o) (inked Stroke.elses s)
  elsed_drawn b p l ls s none d h = tt
  elsed_drawn b p l ls s (some gs) d h = λ f.
      record { bytes_are = ap (λ m. written_on s.bytes (replicate (else_owed m) 0)) d.marks_are ∙ grown (replicate (else_owed (marks_of (l ∷ ls))) 0) _ d.bytes_are h.0 f.few_bytes; marks_are = ap (λ m. topped 1 (skipped m)) d.marks_are ∙ h.1; stage_is = d.stage_is }

  ended_drawn : (b : Bool) (p : TextProgram) (l : ListLevel) (ls : List ListLevel) (s : Inks) → DrawnInk tag offset (after b p l ls) s → DrawnIf (unblocked ls (listed l p)) (inked Stroke.ends s)
  ended_drawn b p l [] s d = tt
  ended_drawn b p l (m ∷ ls) s d = λ f.
      record { bytes_are = closing s l (m ∷ ls) p d.bytes_are d.marks_are f.few_bytes; marks_are = ap (λ z. rest_of (unwound z)) d.marks_are ∙ ap rest_of (unwound_marks tag offset l.ifs (marks_of (m ∷ ls))); stage_is = d.stage_is }

  followed_drawn : (b : Bool) (p : TextProgram) (l : ListLevel) (ls : List ListLevel) (s : Inks) {k : Behind} {st : Stroke} → DrawnInk tag offset (after b p l ls) s → NextDoes tag offset k st → DrawnIf (followed b p l ls k) (inked st s)
  followed_drawn b p l ls s d (next_item {p = q} {bs = bs} e) = one_more_drawn b p q l ls s bs d e
  followed_drawn b p l ls s d next_semicolon = λ f. record { bytes_are = closing s l ls p d.bytes_are d.marks_are f.few_bytes; marks_are = ap unwound d.marks_are ∙ unwound_marks tag offset l.ifs (marks_of ls); stage_is = d.stage_is }
  followed_drawn b p l ls s d next_else = elsed_drawn b p l ls s (otherwise l.ifs p) d (bodies.elsed tag offset (front_of tag offset ls ++ body_bytes tag offset l.before) l.ifs (0 ∷ marks_of ls) p)
  followed_drawn b p l ls s d next_end = ended_drawn b p l ls s d
  followed_drawn b p l ls s d next_then = tt
  followed_drawn b p l ls s d next_assign = tt
  followed_drawn b p l ls s d next_none = tt

  -- in a condition
  module _ (l : ListLevel) (ls : List ListLevel) where
    abbrev TestIf : Option Reading → Inks → Type 0
    TestIf none s = Unit {0}
    TestIf (some r) s = Fits (testing r l ls) → DrawnInk tag offset (testing r l ls) s

    abbrev xs : List ℕ
    xs = test_front tag offset (l ∷ ls)

    opened_drawn : (b : Bool) (k : conditions.ConditionLevel) (ks : List conditions.ConditionLevel) (s : Inks) → ltb (length ks) parentheses ≡ b → DrawnInk tag offset (testing (Reading.wants k ks) l ls) s → TestIf (condition_opened b k ks) (inked Stroke.opens s)
    opened_drawn true k ks s h d = λ f.
        let g : length (levels_on xs (k ∷ ks)) ≡ length (levels_on xs (k ∷ ks) ++ []) = ap length (sym (append-nil (levels_on xs (k ∷ ks)))) in
        record { bytes_are = d.bytes_are ∙ sym (append-nil (levels_on xs (k ∷ ks))); marks_are = d.marks_are; stage_is = record { mode_is = d.stage_is.mode_is; ors_are = ap (λ z. stacked (length z) s.ors) d.bytes_are ∙ heaped (length (levels_on xs (k ∷ ks))) d.stage_is.ors_are (omega (arith, ors_long xs ks, ltb-true (length ks) parentheses h)); ands_are = ap (λ z. stacked (length z) s.ands) d.bytes_are ∙ (heaped (length (levels_on xs (k ∷ ks))) d.stage_is.ands_are (omega (arith, ands_long xs ks, ltb-true (length ks) parentheses h)) ∙ ap (λ z. z ∷ ands_on xs (k ∷ ks)) g) } }
    opened_drawn false k ks s h d = tt

    closed_drawn : (c : Condition) (o : Option Condition) (ks : List conditions.ConditionLevel) (s : Inks) → DrawnInk tag offset (testing (Reading.after c o ks) l ls) s → TestIf (conditions.condition_closed ks (disjoined o c)) (inked Stroke.closes s)
    closed_drawn c o [] s d = tt
    closed_drawn c o (k ∷ ks) s d = λ f. record { bytes_are = d.bytes_are ∙ close_bytes xs c o k ks; marks_are = d.marks_are; stage_is = record { mode_is = d.stage_is.mode_is; ors_are = ap rest_of d.stage_is.ors_are; ands_are = ap rest_of d.stage_is.ands_are } }

    and_drawn : (c : Condition) (o : Option Condition) (ks : List conditions.ConditionLevel) (s : Inks) → DrawnInk tag offset (testing (Reading.after c o ks) l ls) s → TestIf (step_part parentheses (Reading.after c o ks) ConditionPart.an_and) (inked Stroke.conjoins s)
    and_drawn c o ks s d = λ f.
        record { bytes_are = put_in 2 (levels_on xs ks ++ or_part o) (condition_bytes c) (d.bytes_are ∙ sym (append_assoc (levels_on xs ks) (or_part o) (condition_bytes c))) (ap first_of d.stage_is.ands_are) (subst (λ z. length z ≤ longest_program) (sym (and_in xs c o ks)) f.few_bytes) ∙ and_in xs c o ks; marks_are = d.marks_are; stage_is = record { mode_is = d.stage_is.mode_is; ors_are = d.stage_is.ors_are; ands_are = d.stage_is.ands_are } }

    or_drawn : (c : Condition) (o : Option Condition) (ks : List conditions.ConditionLevel) (s : Inks) → DrawnInk tag offset (testing (Reading.after c o ks) l ls) s → TestIf (step_part parentheses (Reading.after c o ks) ConditionPart.an_or) (inked Stroke.disjoins s)
    or_drawn c o ks s d = λ f.
        let e : inserted_at (first_of s.ors) 3 s.bytes ≡ levels_on xs (conditions.condition_level (some (disjoined o c)) none 0 ∷ ks) = put_in 3 (levels_on xs ks) (or_part o ++ condition_bytes c) d.bytes_are (ap first_of d.stage_is.ors_are) (subst (λ z. length z ≤ longest_program) (sym (or_in xs c o ks)) f.few_bytes) ∙ or_in xs c o ks in
        record { bytes_are = e; marks_are = d.marks_are; stage_is = record { mode_is = d.stage_is.mode_is; ors_are = d.stage_is.ors_are; ands_are = ap₂ (λ z m. topped (length z) m) e d.stage_is.ands_are ∙ ap (λ z. length (levels_on xs ks ++ z) ∷ ands_on xs ks) (append-nil (3 ∷ condition_bytes (disjoined o c))) } }

    part_drawn : (r : Reading) (s : Inks) {k : ConditionPart} {st : Stroke} → DrawnInk tag offset (testing r l ls) s → PartDoes k st → TestIf (step_part parentheses r k) (inked st s)
    part_drawn (Reading.wants k ks) s d (part_used {x = x} {c = c} {n = n} e g) = λ f.
        subst (λ m. DrawnInk tag offset (testing (Reading.compares x k ks) l ls) (operand_on m c n s)) (sym d.stage_is.mode_is)
        (record { bytes_are = grown (0 ∷ c ∷ n ∷ []) _ d.bytes_are (ap (λ z. levels_on xs (k ∷ ks) ++ 0 ∷ z) (operand_bytes_lem x e g)) f.few_bytes; marks_are = d.marks_are; stage_is = record { mode_is = refl; ors_are = d.stage_is.ors_are; ands_are = d.stage_is.ands_are } })
    part_drawn (Reading.wants k ks) s d part_not = λ f. record { bytes_are = grown (1 ∷ []) _ d.bytes_are (not_bytes xs k ks) f.few_bytes; marks_are = d.marks_are; stage_is = record { mode_is = d.stage_is.mode_is; ors_are = d.stage_is.ors_are; ands_are = d.stage_is.ands_are } }
    part_drawn (Reading.wants k ks) s d part_and = tt
    part_drawn (Reading.wants k ks) s d part_or = tt
    part_drawn (Reading.wants k ks) s d part_open = opened_drawn (ltb (length ks) parentheses) k ks s refl d
    part_drawn (Reading.wants k ks) s d part_close = tt
    part_drawn (Reading.wants k ks) s d part_equals = tt
    part_drawn (Reading.wants k ks) s d no_part = tt
    part_drawn (Reading.compares x k ks) s d (part_used e g) = tt
    part_drawn (Reading.compares x k ks) s d part_not = tt
    part_drawn (Reading.compares x k ks) s d part_and = tt
    part_drawn (Reading.compares x k ks) s d part_or = tt
    part_drawn (Reading.compares x k ks) s d part_open = tt
    part_drawn (Reading.compares x k ks) s d part_close = tt
    part_drawn (Reading.compares x k ks) s d part_equals = λ f. record { bytes_are = d.bytes_are; marks_are = d.marks_are; stage_is = record { mode_is = d.stage_is.mode_is; ors_are = d.stage_is.ors_are; ands_are = d.stage_is.ands_are } }
    part_drawn (Reading.compares x k ks) s d no_part = tt
    part_drawn (Reading.wants_other y k ks) s d (part_used {x = x} {c = c} {n = n} e g) = λ f.
        subst (λ m. DrawnInk tag offset (testing (conditions.got k ks (equal y x)) l ls) (operand_on m c n s)) (sym d.stage_is.mode_is)
        (record { bytes_are = grown (c ∷ n ∷ []) _ d.bytes_are (ap (λ z. (levels_on xs (k ∷ ks) ++ 0 ∷ operand_bytes y) ++ z) (operand_bytes_lem x e g) ∙ other_bytes xs y x k ks) f.few_bytes; marks_are = d.marks_are; stage_is = record { mode_is = refl; ors_are = d.stage_is.ors_are; ands_are = d.stage_is.ands_are } })
    part_drawn (Reading.wants_other y k ks) s d part_not = tt
    part_drawn (Reading.wants_other y k ks) s d part_and = tt
    part_drawn (Reading.wants_other y k ks) s d part_or = tt
    part_drawn (Reading.wants_other y k ks) s d part_open = tt
    part_drawn (Reading.wants_other y k ks) s d part_close = tt
    part_drawn (Reading.wants_other y k ks) s d part_equals = tt
    part_drawn (Reading.wants_other y k ks) s d no_part = tt
    part_drawn (Reading.after c o ks) s d (part_used e g) = tt
    part_drawn (Reading.after c o ks) s d part_not = tt
    part_drawn (Reading.after c o ks) s d part_and = and_drawn c o ks s d
    part_drawn (Reading.after c o ks) s d part_or = or_drawn c o ks s d
    part_drawn (Reading.after c o ks) s d part_open = tt
    part_drawn (Reading.after c o ks) s d part_close = closed_drawn c o ks s d
    part_drawn (Reading.after c o ks) s d part_equals = tt
    part_drawn (Reading.after c o ks) s d no_part = tt

    then_drawn : (c : Condition) (o : Option Condition) (s : Inks) {k : Behind} {st : Stroke} → DrawnInk tag offset (testing (Reading.after c o []) l ls) s → NextDoes tag offset k st → DrawnIf (thenned (some (disjoined o c)) l ls k) (inked st s)
    then_drawn c o s d (next_item e) = tt
    then_drawn c o s d next_semicolon = tt
    then_drawn c o s d next_else = tt
    then_drawn c o s d next_end = tt
    then_drawn c o s d next_then = λ f.
        record { bytes_are = d.bytes_are ∙ (append_assoc (front_of tag offset (l ∷ ls)) (10 ∷ []) (or_part o ++ condition_bytes c) ∙ ap (λ z. front_of tag offset (l ∷ ls) ++ 10 ∷ z) (sym (or_bytes o c))); marks_are = heaped 2 d.marks_are f.few_marks; stage_is = refl }
    then_drawn c o s d next_assign = tt
    then_drawn c o s d next_none = tt

    thenned_drawn : (r : Reading) (s : Inks) {k : Behind} {st : Stroke} → DrawnInk tag offset (testing r l ls) s → NextDoes tag offset k st → DrawnIf (thenned (value_of_condition r) l ls k) (inked st s)
    thenned_drawn (Reading.wants k ks) s d n = tt
    thenned_drawn (Reading.compares x k ks) s d n = tt
    thenned_drawn (Reading.wants_other x k ks) s d n = tt
    thenned_drawn (Reading.after c o []) s d n = then_drawn c o s d n
    thenned_drawn (Reading.after c o (k ∷ ks)) s d n = tt

    in_condition : (o : Option Reading) (c : Option Condition) (k : Behind) (s : Inks) → TestIf o s → DrawnIf (thenned c l ls k) s → DrawnIf (tested o c l ls k) s
    in_condition none c k s g h = h
    in_condition (some r) c k s g h = g

  -- what a list that opens has before it
  abbrev pub BlankIn : Listing → Type 0
  BlankIn (wants w l ls) = OpensBlank w l
  BlankIn (target a l ls) = Unit {0}
  BlankIn (assigning a l ls) = Unit {0}
  BlankIn (printing l ls) = Unit {0}
  BlankIn (testing r l ls) = Unit {0}
  BlankIn (after b p l ls) = Unit {0}

  pub steps_drawn : (v : Visit) (q : Listing) (t : TextToken) (st : Stroke) (s : Inks) → DrawnInk tag offset q s → BlankIn q → TokenDoes tag offset v t st → DrawnIf (step_statements v q t) (inked st s)
  steps_drawn v (wants w l ls) t st s d b h = started_drawn w l ls s d b h.start
  steps_drawn v (target a l ls) t st s d b h = targeted_drawn a l ls s d h.next
  steps_drawn v (assigning a l ls) t st s d b h = assigned_drawn a l ls s d h.part
  steps_drawn v (printing l ls) t st s d b h = printed_drawn l ls s d h.next
  steps_drawn v (testing r l ls) t st s d b h = in_condition l ls (step_condition v parentheses r t) (value_of_condition r) (behind_of t) (inked st s) (part_drawn l ls r s d h.part) (thenned_drawn l ls r s d h.next)
  steps_drawn v (after b p l ls) t st s d c h = followed_drawn b p l ls s d h.next
