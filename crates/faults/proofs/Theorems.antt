-- What the checker's contract says: it allows one answer only; 0 is given exactly to the sheets that keep rules T and S; 65,536 bytes always
-- suffice; the number is of the table, and the list keeps its length. The argument: the sheet, its grammar and its list of faults are one,
-- and beside them either the lent list is too short (10), or the number is that of the faults and the list stands at the start (Answer).
-- Where no list is lent the verdict is one, and it is the checker's number but for 10.
-- Assumes nothing.
use mathlib.Core.Path.{◌≡◌, sym, ap, subst, ◌∙◌}
use mathlib.Core.List.{List, []}
use mathlib.Core.Logic.{◌↔◌}
use Prim.Native.Nat.{ℕ, ◌*◌, ◌≤◌}
use native.Mathlib.Omega.{arith}
use lib.ListN.{length, drop, length-append, length-drop}
use Rattle.expressions.specs.Grammar.{Production}
use Rattle.expressions.specs.FaultList.{KeepsT, KeepsS, IsFaultList, list_bytes, FaultNumber, passes, t_fault, s_faults}
use Rattle.expressions.proofs.Order.{Bytes, one_list}
use Rattle.expressions.proofs.Numbers.{none_iff, one_number}
use Rattle.expressions.proofs.Room.{list_bytes_lem, any_suffices}
use Rattle.layout.specs.Layout.{tag_count}
use Rattle.trees.proofs.Unique.{one_grammar}
use Rattle.sheet.specs.Defect.{DefectIs, well_formed_lem, its_size, its_sections, a_tag, a_production, a_tree, a_program, not_grounded}
use Rattle.sheet.specs.Sheet.{Sheet, grammar_of, IsSheet}
use Rattle.sheet.proofs.DefectLaws.{one_defect}
use Rattle.sheet.proofs.SheetLaws.{few_productions, numbered_productions, few_nodes, sheet_grammar}
use Rattle.faults.specs.Checked.{ListedAs, too_short, all_listed, CheckedAs, malformed, well_formed_lem as faults_of}
use Rattle.faults.specs.Verdict.{VerdictIs, malformed as no_sheet, of_sheet}
use Rattle.faults.specs.declared.Checked.{Checked}

defect_most : {s : List ℕ} {n : ℕ} → DefectIs s n → n ≤ 7
defect_most (well_formed_lem w) = omega arith
defect_most (its_size h) = omega arith
defect_most (its_sections z h) = omega arith
defect_most (a_tag z y h) = omega arith
defect_most (a_production z y x h) = omega arith
defect_most (a_tree z y x v h) = omega arith
defect_most (a_program z y x v u h) = omega arith
defect_most (not_grounded z y x v u t h) = omega arith

number_most : {g : List Production} {n : ℕ} → FaultNumber g n → n ≤ 9
number_most (passes k h) = omega arith
number_most (t_fault f) = omega arith
number_most (s_faults k f) = omega arith

number_none : {g : List Production} {n : ℕ} → FaultNumber g n → n ≡ 0 → KeepsT g × KeepsS g
number_none (passes k h) e = (k, h)
number_none (t_fault f) e = absurd (omega (arith, e))
number_none (s_faults k f) e = absurd (omega (arith, e))

none_given : {g : List Production} {l : List Bytes} {lent after : List ℕ} {n : ℕ} → KeepsT g → KeepsS g → l ≡ [] → ListedAs g l lent after n → n ≡ 0
none_given t u e (too_short h q f) = let z = ap (λ (x : List Bytes). 4 * length x) e in absurd (omega (arith, h, z))
none_given {g} t u e (all_listed h q f) = one_number g q (passes t u)

one_listed : {g : List Production} {l : List Bytes} {lent x y : List ℕ} {m n : ℕ} → ListedAs g l lent x m → ListedAs g l lent y n → (x ≡ y) × (m ≡ n)
one_listed (too_short h e a) (too_short k f b) = (a ∙ sym b, e ∙ sym f)
one_listed (too_short h e a) (all_listed k f b) = absurd (omega (arith, h, k))
one_listed (all_listed h e a) (too_short k f b) = absurd (omega (arith, h, k))
one_listed {g} (all_listed h e a) (all_listed k f b) = (a ∙ sym b, one_number g e f)

-- one grammar, whichever way the bytes are read as a sheet
same_grammar : {s : List ℕ} {a b : Sheet} → IsSheet s a → IsSheet s b → grammar_of a.rules ≡ grammar_of b.rules
same_grammar {s} {a} {b} i j = one_grammar s (grammar_of a.rules) (grammar_of b.rules) (sheet_grammar i) (sheet_grammar j)

same_checked : {r q : Checked} → r.number ≡ q.number → r.count ≡ q.count → r ≡ q
same_checked {r} {q} e h = ap (λ (n : ℕ). record { number = n; count = r.count }) e ∙ ap (λ (k : ℕ). record { number = q.number; count = k }) h

no_both : {s : List ℕ} {n : ℕ} {a : Sheet} → 1 ≤ n → DefectIs s n → IsSheet s a → ⊥
no_both h d i = let e = one_defect d (well_formed_lem i.well_formed_lem) in omega (arith, h, e)

one_of_one : {lent x y : List ℕ} {r q : Checked} {g h : List Production} {l k : List Bytes} → g ≡ h → IsFaultList g l → IsFaultList h k →
    r.count ≡ length l → q.count ≡ length k → ListedAs g l lent x r.number → ListedAs h k lent y q.number → (x ≡ y) × (r ≡ q)
one_of_one {lent} {x} {y} {r} {q} {g} {h} {l} {k} e i j m n a b =
    let i' : IsFaultList h l = subst (λ (z : List Production). IsFaultList z l) e i in
    let f : l ≡ k = one_list i' j in
    let a' : ListedAs h l lent x r.number = subst (λ (z : List Production). ListedAs z l lent x r.number) e a in
    let a'' : ListedAs h k lent x r.number = subst (λ (z : List Bytes). ListedAs h z lent x r.number) f a' in
    let o = one_listed a'' b in
    (o.0, same_checked o.1 (m ∙ ap length f ∙ sym n))

-- any two answers that the contract allows are one
pub one_answer : {s lent x y : List ℕ} {r q : Checked} → CheckedAs s lent x r → CheckedAs s lent y q → (x ≡ y) × (r ≡ q)
one_answer (malformed h d c e) (malformed k f b a) = (e ∙ sym a, same_checked (one_defect d f) (c ∙ sym b))
one_answer (malformed h d c e) (faults_of a i l is k z) = absurd (no_both h d i)
one_answer (faults_of a i l is k z) (malformed h d c e) = absurd (no_both h d i)
one_answer (faults_of a i l is c z) (faults_of b j k is' d y) = one_of_one (same_grammar i j) is is' c d z y

-- a sheet passes exactly when its bytes are a sheet that keeps rules T and S
pub passes_iff : {s lent after : List ℕ} {r : Checked} → CheckedAs s lent after r →
    (r.number ≡ 0) ↔ ((a : Sheet) × IsSheet s a × KeepsT (grammar_of a.rules) × KeepsS (grammar_of a.rules))
passes_iff (malformed h d c e) = ((λ z. absurd (omega (arith, h, z))), (λ z. absurd (no_both h d z.1)))
passes_iff {s} {lent} {after} {r} (faults_of a i l is c z) = (there z, back z)
  where
    there : ListedAs (grammar_of a.rules) l lent after r.number → r.number ≡ 0 →
        (b : Sheet) × IsSheet s b × KeepsT (grammar_of b.rules) × KeepsS (grammar_of b.rules)
    there (too_short h e f) q = absurd (omega (arith, e, q))
    there (all_listed h e f) q = let k = number_none e q in (a, i, k.0, k.1)

    back : ListedAs (grammar_of a.rules) l lent after r.number →
        (b : Sheet) × IsSheet s b × KeepsT (grammar_of b.rules) × KeepsS (grammar_of b.rules) → r.number ≡ 0
    back y k =
        let same : grammar_of k.0.rules ≡ grammar_of a.rules = same_grammar k.1 i in
        let t = subst KeepsT same k.2 in
        let u = subst KeepsS same k.3 in
        none_given t u ((none_iff (grammar_of a.rules) l is).1 (t, u)) y

-- 65,536 bytes always suffice
pub list_long_enough : {s lent after : List ℕ} {r : Checked} → CheckedAs s lent after r → 65536 ≤ length lent → r.number ≡ 10 → ⊥
list_long_enough (malformed h d c e) k z = omega (arith, defect_most d, z)
list_long_enough {s} {lent} {after} {r} (faults_of a i l is c z) k e = never z
  where
    never : ListedAs (grammar_of a.rules) l lent after r.number → ⊥
    never (too_short h q f) =
        let g = grammar_of a.rules in
        let w = i.well_formed_lem in
        let o = sheet_grammar i in
        omega (arith, h, k, any_suffices (tag_count s) g l (numbered_productions w g o) (few_productions w g o) (few_nodes w g o) is)
    never (all_listed h q f) = omega (arith, number_most q, e)

-- the number is one of the sheet's, 0 to 10
pub numbers : {s lent after : List ℕ} {r : Checked} → CheckedAs s lent after r → r.number ≤ 10
numbers (malformed h d c e) = omega (arith, defect_most d)
numbers {s} {lent} {after} {r} (faults_of a i l is c z) = most z
  where
    most : ListedAs (grammar_of a.rules) l lent after r.number → r.number ≤ 10
    most (too_short h q f) = omega (arith, q)
    most (all_listed h q f) = omega (arith, number_most q)

-- the list keeps its length
pub same_length : {s lent after : List ℕ} {r : Checked} → CheckedAs s lent after r → length after ≡ length lent
same_length (malformed h d c e) = ap length e
same_length {s} {lent} {after} {r} (faults_of a i l is c z) = kept z
  where
    kept : ListedAs (grammar_of a.rules) l lent after r.number → length after ≡ length lent
    kept (too_short h q f) = ap length f
    kept (all_listed h q f) =
        ap length f ∙ length-append (list_bytes l) (drop (4 * length l) lent) ∙ omega (arith, h, list_bytes_lem (grammar_of a.rules) l is, length-drop (4 * length l) lent)

-- a verdict is the number of the sheet's faults, or of its defect
number_of : {s : List ℕ} {n : ℕ} → VerdictIs s n → (a : Sheet) → IsSheet s a → FaultNumber (grammar_of a.rules) n
number_of (no_sheet h d) a i = absurd (no_both h d i)
number_of {s} {n} (of_sheet b j q) a i = subst (λ (g : List Production). FaultNumber g n) (same_grammar j i) q

of_defect : {s : List ℕ} {m n : ℕ} → 1 ≤ m → DefectIs s m → VerdictIs s n → m ≡ n
of_defect h d (no_sheet k f) = one_defect d f
of_defect h d (of_sheet a i q) = absurd (no_both h d i)

-- any two verdicts are one
pub one_verdict : {s : List ℕ} {m n : ℕ} → VerdictIs s m → VerdictIs s n → m ≡ n
one_verdict (no_sheet h d) w = of_defect h d w
one_verdict (of_sheet a i q) w = one_number (grammar_of a.rules) q (number_of w a i)

-- and it is at most 9
pub verdict_most : {s : List ℕ} {n : ℕ} → VerdictIs s n → n ≤ 9
verdict_most (no_sheet h d) = omega (arith, defect_most d)
verdict_most (of_sheet a i q) = number_most q

-- it is the checker's number, unless the lent list is too short
pub verdict_checked : {s lent after : List ℕ} {r : Checked} {n : ℕ} → CheckedAs s lent after r → (r.number ≡ 10 → ⊥) → VerdictIs s n → r.number ≡ n
verdict_checked (malformed h d c e) k v = of_defect h d v
verdict_checked {s} {lent} {after} {r} {n} (faults_of a i l is c z) k v = by z
  where
    by : ListedAs (grammar_of a.rules) l lent after r.number → r.number ≡ n
    by (too_short h e f) = absurd (k e)
    by (all_listed h e f) = one_number (grammar_of a.rules) e (number_of v a i)
