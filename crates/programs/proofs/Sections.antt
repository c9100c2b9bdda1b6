-- Sections of programs: a program read within its first 256 bytes, the programs that fill a section one by one, and the starts of programs.
-- The programs that fill a section are one list, and a field names one program. Assumes nothing.
use mathlib.Core.Path.{◌≡◌, refl, sym, ap, ◌∙◌, subst}
use mathlib.Core.Bool.{Bool, true, false, true≢false}
use Rattle.std.specs.Prelude.{Option as Read, Some, None}
use mathlib.Core.List.{List, [], ◌∷◌, ◌++◌, append_assoc, head-eq_of_cons-eq, tail-eq_of_cons-eq}
use mathlib.Core.Option.{Option, some}
use Prim.Native.Nat.{ℕ, ◌+◌, ◌-◌, ◌≤◌, ◌<◌, min}
use native.Mathlib.Omega.{arith}
use lib.ListN.{length, take, drop, length-append, length-take, length-drop, take-append-drop}
use lib.Seq.{take-add, drop_at, length-take-le, take-append-add}
use Rattle.text.specs.Chars.{Starts}
use Rattle.programs.specs.Program.{Program, program_bytes}
use Rattle.programs.specs.Limits.{IsProgram, Visit, allowed}
use Rattle.programs.specs.Section.{back_to_back, Fill, StartOf, FieldIs, no_program, names}
use Rattle.tells.specs.Tells.{Tells, holds, fails}
use Rattle.programs.specs.Parsed.{whole, ListAt, ProgramAt, Filled, which_visit, FieldTold, StartNamed, unnamed, named}
use Rattle.programs.specs.Parsed as parsed
use Rattle.programs.specs.declared.Parsed.{Parsed}
use Rattle.programs.proofs.Agree.{program_agree, program_some}
use Rattle.programs.proofs.Reading.{Kind, behind, starts_length, one_reading}
use Rattle.tells.proofs.Laws.{one_telling}

abbrev pub programs : ℕ → List ℕ → Kind
programs tags strings = record { Thing = Program; bytes = program_bytes; Good = IsProgram tags strings; may = allowed }

-- ---- a program within its first bytes
module _ (s : List ℕ) (i : ℕ) (h : i < length s) where
  abbrev most : ℕ
  most = min (length s - i) 256

  front : drop i (take (i + most) s) ≡ take most (drop i s)
  front = ap (λ (l : List ℕ). drop i l) (take-add i most s) ∙ drop_at (take i s) (take most (drop i s)) i (length-take-le i s (omega arith))

  from_front : (w : List ℕ) → Starts (take most (drop i s)) w → Starts (drop i s) w × (length w ≤ 256)
  from_front w st = (
    (st.0 ++ drop most (drop i s), sym (take-append-drop most (drop i s)) ∙ ap (λ (l : List ℕ). l ++ drop most (drop i s)) st.1 ∙ append_assoc w st.0 (drop most (drop i s))),
    omega (arith, starts_length (take most (drop i s)) w st, length-take most (drop i s)),
  )

  to_front : (w : List ℕ) → Starts (drop i s) w → length w ≤ 256 → Starts (take most (drop i s)) w
  to_front w st l =
      let n = most - length w in
      let e : most ≡ length w + n = omega (arith, starts_length (drop i s) w st, length-drop i s) in
      (take n st.0, ap (λ (k : ℕ). take k (drop i s)) e ∙ ap (λ (l : List ℕ). take (length w + n) l) st.1 ∙ take-append-add w st.0 n)

  pub within : (tags : ℕ) (strings : List ℕ) (w : List ℕ) → w ≡ take (i + most) s → {r : Read Parsed} → ListAt tags strings 8 w i r → ProgramAt tags strings s i r
  within tags strings w same {r} read = go (subst (λ (l : List ℕ). ListAt tags strings 8 l i r) same read)
    where
      go : {r : Read Parsed} → ListAt tags strings 8 (take (i + most) s) i r → ProgramAt tags strings s i r
      go (whole p g st q α β) =
          let f = from_front (program_bytes p) (st.0, sym front ∙ st.1) in
          whole p (record { short = f.1; shallow = g.1; fits = g.0 }) f.0 q α β
      go (parsed.none f) = parsed.none (λ p g st. let t = to_front (program_bytes p) st g.short in f p (g.fits, g.shallow) (t.0, front ∙ t.1))

-- ---- filling
pub same_programs : (ps qs : List Program) → back_to_back ps ≡ back_to_back qs → ps ≡ qs
same_programs [] [] e = refl
same_programs [] (q ∷ qs) e = absurd (omega (arith, ap length e, length-append (program_bytes q) (back_to_back qs), program_some q))
same_programs (p ∷ ps) [] e = absurd (omega (arith, ap length e, length-append (program_bytes p) (back_to_back ps), program_some p))
same_programs (p ∷ ps) (q ∷ qs) e =
    let a = program_agree p q (back_to_back ps) (back_to_back qs) e in
    let b = same_programs ps qs a.1 in
    let c = a.0 in
    cc

module _ (tags : ℕ) (strings : List ℕ) where
  -- the programs that fill a section are one list
  pub one_filling : (s : List ℕ) (ps qs : List Program) → Fill tags strings s ps → Fill tags strings s qs → ps ≡ qs
  one_filling s ps qs a b = same_programs ps qs (sym a.filled ∙ b.filled)

  -- of a section that starts with a program, that program is the first
  first_of : (f : List ℕ) (p : Program) (v : List ℕ) → f ≡ program_bytes p ++ v → (ps : List Program) → Fill tags strings f ps → (qs : List Program) × (ps ≡ p ∷ qs) × Fill tags strings v qs
  first_of f p v e [] F = absurd (omega (arith, ap length (sym e ∙ F.filled), length-append (program_bytes p) v, program_some p))
  first_of f p v e (q ∷ qs) F =
      let a = program_agree p q v (back_to_back qs) (sym e ∙ F.filled) in
      (qs, ap (λ (x : Program). x ∷ qs) (sym a.0), record { programs = F.programs.1; filled = a.1 })

  pub nothing_fills : (f : List ℕ) → length f ≡ 0 → Filled tags strings f
  nothing_fills [] e = ([], record { programs = tt; filled = refl })
  nothing_fills (x ∷ f) e = absurd (omega arith)

  module _ (s : List ℕ) (i : ℕ) where
    -- where a program lies at i, the rest is filled exactly when all from i on is
    pub past_program : {r : Parsed} → ProgramAt tags strings s i (Some r) → (Filled tags strings (drop r.next s) → Filled tags strings (drop i s)) × (Filled tags strings (drop i s) → Filled tags strings (drop r.next s))
    past_program {r} (whole p g st q α β) = (forth, back)
      where
        rest : drop r.next s ≡ st.0
        rest = ap (λ (m : ℕ). drop m s) q ∙ behind s i (program_bytes p) st.0 st.1

        forth : Filled tags strings (drop r.next s) → Filled tags strings (drop i s)
        forth (ps, F) = (p ∷ ps, record { programs = (g, F.programs); filled = st.1 ∙ ap (λ (l : List ℕ). program_bytes p ++ l) (sym rest ∙ F.filled) })

        back : Filled tags strings (drop i s) → Filled tags strings (drop r.next s)
        back (ps, F) = let w = first_of (drop i s) p st.0 st.1 ps F in (w.0, subst (λ (l : List ℕ). Fill tags strings l w.0) (sym rest) w.2)

    nothing_there : ProgramAt tags strings s i None → (ps : List Program) → Fill tags strings (drop i s) ps → ps ≡ []
    nothing_there (parsed.none f) [] F = refl
    nothing_there (parsed.none f) (p ∷ ps) F = absurd (f p F.programs.0 (back_to_back ps, F.filled))

    pub no_filling : i < length s → ProgramAt tags strings s i None → Filled tags strings (drop i s) → ⊥
    no_filling h r (ps, F) = let e = F.filled ∙ ap back_to_back (nothing_there r ps F) in omega (arith, ap length e, length-drop i s)

-- ---- starts
same_start : (b b' : List Program) (p q : Program) (a a' : List Program) → b ++ p ∷ a ≡ b' ++ q ∷ a' → length (back_to_back b) ≡ length (back_to_back b') → p ≡ q
same_start [] [] p q a a' e l = head-eq_of_cons-eq e
same_start [] (x ∷ b') p q a a' e l = absurd (omega (arith, l, length-append (program_bytes x) (back_to_back b'), program_some x))
same_start (x ∷ b) [] p q a a' e l = absurd (omega (arith, l, length-append (program_bytes x) (back_to_back b), program_some x))
same_start (x ∷ b) (y ∷ b') p q a a' e l =
    let same : length (program_bytes x) ≡ length (program_bytes y) = ap (λ (z : Program). length (program_bytes z)) (head-eq_of_cons-eq e) in
    same_start b b' p q a a' (tail-eq_of_cons-eq e) (omega (arith, l, same, length-append (program_bytes x) (back_to_back b), length-append (program_bytes y) (back_to_back b')))

pub one_start : (ps : List Program) (o : ℕ) (p q : Program) → StartOf ps o p → StartOf ps o q → p ≡ q
one_start ps o p q S T = same_start S.before T.before p q S.after T.after (sym S.are ∙ T.are) (sym S.offset ∙ T.offset)

-- a field names one program at most
pub one_field : (ps : List Program) (v : Visit) (field : ℕ) (m n : Option Program) → FieldIs ps v field m → FieldIs ps v field n → m ≡ n
one_field ps v field m n (no_program e) (no_program f) = refl
one_field ps v field m n (no_program e) (names k q T β) = absurd (k e)
one_field ps v field m n (names k p S α) (no_program f) = absurd (k f)
one_field ps v field m n (names k p S α) (names l q T β) = ap some (one_start ps field p q S T)

pub names_none : {field : ℕ} → StartNamed field None → field ≡ 0xFFFF
names_none (unnamed e) = e

pub names_start : {field start : ℕ} → StartNamed field (Some start) → (start ≡ field) × (field ≡ 0xFFFF → ⊥)
names_start (named k e) = (e, k)

no_start : (o : ℕ) (p : Program) → StartOf [] o p → ⊥
no_start o p S = go S.before S.are
  where
    go : (b : List Program) → [] ≡ b ++ p ∷ S.after → ⊥
    go [] e = omega (arith, ap length e)
    go (x ∷ b) e = omega (arith, ap length e)

start_first : (x : Program) (ps : List Program) → StartOf (x ∷ ps) 0 x
start_first x ps = record { before = []; after = ps; are = refl; offset = refl }

start_later : (x : Program) (ps : List Program) (o : ℕ) (p : Program) → 0 < o → StartOf (x ∷ ps) o p → (length (program_bytes x) ≤ o) × StartOf ps (o - length (program_bytes x)) p
start_later x ps o p h S = go S.before S.are S.offset
  where
    go : (b : List Program) → x ∷ ps ≡ b ++ p ∷ S.after → o ≡ length (back_to_back b) → (length (program_bytes x) ≤ o) × StartOf ps (o - length (program_bytes x)) p
    go [] e l = absurd (omega arith)
    go (y ∷ b) e l =
        let same : length (program_bytes x) ≡ length (program_bytes y) = ap (λ (z : Program). length (program_bytes z)) (head-eq_of_cons-eq e) in
        let sum = length-append (program_bytes y) (back_to_back b) in
        (omega (arith, l, same, sum), record { before = b; after = S.after; are = tail-eq_of_cons-eq e; offset = omega (arith, l, same, sum) })

start_behind : (x : Program) (ps : List Program) (o : ℕ) (p : Program) → length (program_bytes x) ≤ o → StartOf ps (o - length (program_bytes x)) p → StartOf (x ∷ ps) o p
start_behind x ps o p h S =
    record { before = x ∷ S.before; after = S.after; are = ap (λ (l : List Program). x ∷ l) S.are; offset = omega (arith, S.offset, length-append (program_bytes x) (back_to_back S.before)) }

-- ---- the walk from program to program: what lies from i on is programs too, and a start from i on is one of theirs
pub record Walked (tags : ℕ) (strings s : List ℕ) (ps : List Program) (field i : ℕ) : Type 0 where
  pub ahead : List Program
  pub fill : Fill tags strings (drop i s) ahead
  pub there : (p : Program) → StartOf ps field p → (i ≤ field) × StartOf ahead (field - i) p
  pub back : (p : Program) → i ≤ field → StartOf ahead (field - i) p → StartOf ps field p

module _ (tags : ℕ) (strings s : List ℕ) (ps : List Program) (field : ℕ) where
  pub set_out : Fill tags strings s ps → Walked tags strings s ps field 0
  set_out F =
      let e : field - 0 ≡ field = omega arith in
      record { ahead = ps; fill = F; there = λ p S. (omega arith, subst (λ (o : ℕ). StartOf ps o p) (sym e) S); back = λ p h S. subst (λ (o : ℕ). StartOf ps o p) e S }

  module _ (i : ℕ) (W : Walked tags strings s ps field i) where
    pub walk_on : i < field → {r : Parsed} → ProgramAt tags strings s i (Some r) → Walked tags strings s ps field r.next
    walk_on h {r} (whole x g st q α β) =
        let w = first_of tags strings (drop i s) x st.0 st.1 W.ahead W.fill in
        let rest : drop r.next s ≡ st.0 = ap (λ (m : ℕ). drop m s) q ∙ behind s i (program_bytes x) st.0 st.1 in
        record {
          ahead = w.0;
          fill = subst (λ (l : List ℕ). Fill tags strings l w.0) (sym rest) w.2;
          there = λ p S.
              let t = W.there p S in
              let u = start_later x w.0 (field - i) p (omega arith) (subst (λ (l : List Program). StartOf l (field - i) p) w.1 t.1) in
              let e : field - i - length (program_bytes x) ≡ field - r.next = omega (arith, q) in
              (omega (arith, q, t.0, u.0), subst (λ (o : ℕ). StartOf w.0 o p) e u.1);
          back = λ p l S.
              let e : field - r.next ≡ field - i - length (program_bytes x) = omega (arith, q) in
              W.back p (omega arith) (subst (λ (l : List Program). StartOf l (field - i) p) (sym w.1) (start_behind x w.0 (field - i) p (omega (arith, q, l)) (subst (λ (o : ℕ). StartOf w.0 o p) e S)));
        }

    module _ (is_second : Bool) (some_program : field ≡ 0xFFFF → ⊥) where
      -- no field where no program starts
      no_field : ((p : Program) → StartOf ps field p → ⊥) → Tells ((m : Option Program) × FieldIs ps (which_visit is_second) field m) false
      no_field f = fails go
        where
          go : (m : Option Program) × FieldIs ps (which_visit is_second) field m → ⊥
          go (m, no_program e) = some_program e
          go (m, names k p S α) = f p S

      pub past_end_field : ProgramAt tags strings s i None → Tells ((m : Option Program) × FieldIs ps (which_visit is_second) field m) false
      past_end_field r = no_field (λ p S. no_start (field - i) p (subst (λ (l : List Program). StartOf l (field - i) p) (nothing_there tags strings s i r W.ahead W.fill) (W.there p S).1))

      pub middle_field : field < i → Tells ((m : Option Program) × FieldIs ps (which_visit is_second) field m) false
      middle_field h = no_field (λ p S. omega (arith, (W.there p S).0))

      pub start_field : i ≡ field → {t : Parsed} → ProgramAt tags strings s i (Some t) → (r : Bool) → (is_second ≡ false → r ≡ t.first) → (is_second ≡ true → r ≡ t.second) → Tells ((m : Option Program) × FieldIs ps (which_visit is_second) field m) r
      start_field h (whole x g st q α β) r ra rb = go r (by_visit is_second refl)
        where
          by_visit : (u : Bool) → is_second ≡ u → r ≡ allowed (which_visit is_second) x
          by_visit false e = ra e ∙ α ∙ ap (λ (u : Bool). allowed (which_visit u) x) (sym e)
          by_visit true e = rb e ∙ β ∙ ap (λ (u : Bool). allowed (which_visit u) x) (sym e)

          w : (qs : List Program) × (W.ahead ≡ x ∷ qs) × Fill tags strings st.0 qs
          w = first_of tags strings (drop i s) x st.0 st.1 W.ahead W.fill

          zero_off : field - i ≡ 0
          zero_off = omega arith

          starts : StartOf ps field x
          starts = W.back x (omega arith) (subst (λ (l : List Program). StartOf l (field - i) x) (sym w.1) (subst (λ (o : ℕ). StartOf (x ∷ w.0) o x) (sym zero_off) (start_first x w.0)))

          go : (r : Bool) → r ≡ allowed (which_visit is_second) x → Tells ((m : Option Program) × FieldIs ps (which_visit is_second) field m) r
          go true e = holds (some x, names some_program x starts (sym e))
          go false e = fails no_other
            where
              no_other : (m : Option Program) × FieldIs ps (which_visit is_second) field m → ⊥
              no_other (m, no_program f) = some_program f
              no_other (m, names k p S γ) = true≢false (sym γ ∙ ap (λ (z : Program). allowed (which_visit is_second) z) (one_start ps field p x S starts) ∙ sym e)

-- ---- one answer only
pub one_program : (tags : ℕ) (strings s : List ℕ) (i : ℕ) (p q : Read Parsed) → ProgramAt tags strings s i p → ProgramAt tags strings s i q → p ≡ q
one_program tags strings s i = one_reading (programs tags strings) program_agree

pub one_told : (tags : ℕ) (strings s : List ℕ) (field : ℕ) (is_second : Bool) → Filled tags strings s → (a b : Bool) → FieldTold tags strings s field is_second a → FieldTold tags strings s field is_second b → a ≡ b
one_told tags strings s field is_second (ps, F) a b α β = one_telling (α ps F) (β ps F)
