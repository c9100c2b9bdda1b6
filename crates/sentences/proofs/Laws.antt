-- Assignments, strings and statements other than an if as they are written. Assumes nothing.
use mathlib.Core.Path.{◌≡◌, refl, ap, ◌∙◌}
use mathlib.Core.Bool.{Bool, true, false, cond}
use mathlib.Core.List.{List, [], ◌∷◌, ◌++◌}
use Prim.Native.Nat.{ℕ, ◌+◌, ◌-◌, ◌*◌, ◌/◌, ◌%◌, ◌≤◌, ◌<◌}
use native.Mathlib.Omega.{arith}
use lib.Dec.{eqb, ltb}
use lib.ListN.{length, get_or, take, drop, length-append, length-take}
use borrow.Author.Tests.{ne_eqb, lt-ltb, le-ltb}
use Rattle.text.specs.Chars.{Starts}
use Rattle.lent.specs.Put.{PutAs}
use Rattle.programs.specs.Program.{constant, current, recalled, Statement, become, copy, recall, reject, print_start, print_end, print_text, echo, branch, condition_bytes, statement_bytes, program_bytes}
use Rattle.programs.specs.Limits.{Printable}
use Rattle.programs.proofs.Reading.{byte_of, first_byte}
use Rattle.sheet.specs.Sheet.{Sheet}
use Rattle.runs.specs.Execute.{name_of}
use Rattle.notation.specs.Tokens.{REJECT, ECHO, ECHO-OFF, PRINT, word_bytes}
use Rattle.printed.specs.Programs.{all_in_string, quoted, a_statement, an_item, between_statements, statement_text}
use Rattle.naming.specs.ByName.{statement_named}
use Rattle.printer.specs.Operands.{operand_text_at}
use Rattle.printer.proofs.Laws.{all_short}
use Rattle.visits.specs.Written.{Pen, Written, TagOf}
use Rattle.visits.specs.Ran.{most_printed}
use Rattle.visits.proofs.Lying.{statement_of}
use Rattle.visits.proofs.Printing.{just, as_due}
use Rattle.clauses.proofs.Laws.{operand_short}
use Rattle.sentences.specs.Sentences.{assignment_at, AssignmentsAreTheirs, QuotedRange, PlainText, preceding_at, item_at, ItemsAreTheirs}

pub assignments_are_theirs : AssignmentsAreTheirs
assignments_are_theirs a (constant v) = refl
assignments_are_theirs a (current b) = refl
assignments_are_theirs a (recalled b) = refl

pub quoted_short : (f : List ℕ) → length (quoted f) ≤ 2 * length f + 2
quoted_short f = omega (arith, length-append (all_in_string f) (34 ∷ []), all_short f)

pub range_put : (s : List ℕ) (o n : ℕ) (p : Pen) (r : ℕ) (d : List ℕ) → n < 256 → PutAs p.write p.lent p.at (quoted (take (o + n - o) (drop o s))) d r
    → Written most_printed (QuotedRange s o n) p r d
range_put s o n p r d h P =
    let f = take (o + n - o) (drop o s) in
    just most_printed (QuotedRange s o n) p (quoted f) r d P (omega (arith, quoted_short f, length-take (o + n - o) (drop o s)))
    (λ w Q. Q.is ∙ ap (λ (k : ℕ). quoted (take k (drop o s))) (let e : n ≡ o + n - o = omega arith in e))

assignment_short : (kind a v : ℕ) → length (assignment_at kind a v) ≤ most_printed
assignment_short kind a v =
    omega (arith, length-append (operand_text_at 1 a) (32 ∷ 58 ∷ 61 ∷ 32 ∷ [] ++ operand_text_at kind v), operand_short 1 a, operand_short kind v)

-- ---- a statement other than an if, by its first byte
module _ (s tags strings : List ℕ) (i : ℕ) (h : i < length s) (p : Pen) (r : ℕ) (d : List ℕ) where
  abbrev Due : List ℕ → Type 0
  Due = PlainText s tags strings i

  pub rejects : get_or s i 0 ≡ 4 → PutAs p.write p.lent p.at (word_bytes REJECT) d r → Written most_printed Due p r d
  rejects k P = just most_printed Due p (word_bytes REJECT) r d P (omega arith) (λ w T. T.bytes ∙ ap (λ (t : Statement). statement_text (statement_named T.sheet t)) (statement_of s i h k T.statement T.lies))

  pub echoes : get_or s i 0 ≡ 8 → PutAs p.write p.lent p.at (word_bytes ECHO) d r → Written most_printed Due p r d
  echoes k P = just most_printed Due p (word_bytes ECHO) r d P (omega arith) (λ w T. T.bytes ∙ ap (λ (t : Statement). statement_text (statement_named T.sheet t)) (statement_of s i h k T.statement T.lies))

  pub echoes_not : get_or s i 0 ≡ 9 → PutAs p.write p.lent p.at (word_bytes ECHO-OFF) d r → Written most_printed Due p r d
  echoes_not k P = just most_printed Due p (word_bytes ECHO-OFF) r d P (omega arith) (λ w T. T.bytes ∙ ap (λ (t : Statement). statement_text (statement_named T.sheet t)) (statement_of s i h k T.statement T.lies))

  pub starts : get_or s i 0 ≡ 5 → (t : ℕ) → t ≡ get_or s (i + 1) 0 → Written most_printed (TagOf tags t false) p r d → Written most_printed Due p r d
  starts k t tis = as_due most_printed most_printed (TagOf tags t false) Due p r d (omega arith) go
    where
      go : (w : List ℕ) → Due w → TagOf tags t false w
      go w T =
          let z = statement_of s i h k T.statement T.lies in
          let same : t ≡ z.0 = tis ∙ (byte_of s i (5 ∷ z.0 ∷ []) (rw z.1 at T.lies) 1 (omega arith)).1 in
          (name_of T.sheet.names z.0, rw same (T.sources.names_are z.0 (rw z.1 at T.fits)), T.bytes ∙ ap (λ (u : Statement). statement_text (statement_named T.sheet u)) z.1)

  pub ends : get_or s i 0 ≡ 6 → (t : ℕ) → t ≡ get_or s (i + 1) 0 → Written most_printed (TagOf tags t true) p r d → Written most_printed Due p r d
  ends k t tis = as_due most_printed most_printed (TagOf tags t true) Due p r d (omega arith) go
    where
      go : (w : List ℕ) → Due w → TagOf tags t true w
      go w T =
          let z = statement_of s i h k T.statement T.lies in
          let same : t ≡ z.0 = tis ∙ (byte_of s i (6 ∷ z.0 ∷ []) (rw z.1 at T.lies) 1 (omega arith)).1 in
          (name_of T.sheet.names z.0, rw same (T.sources.names_are z.0 (rw z.1 at T.fits)), T.bytes ∙ ap (λ (u : Statement). statement_text (statement_named T.sheet u)) z.1)

  pub prints : get_or s i 0 ≡ 7 → (low high n : ℕ) → low ≡ get_or s (i + 1) 0 → high ≡ get_or s (i + 2) 0 → n ≡ get_or s (i + 3) 0
      → Written most_printed (QuotedRange strings (low + 256 * high) n) p r d → Written most_printed Due p r d
  prints k low high n lis his nis = as_due most_printed most_printed (QuotedRange strings (low + 256 * high) n) Due p r d (omega arith) go
    where
      go : (w : List ℕ) → Due w → QuotedRange strings (low + 256 * high) n w
      go w T =
          let z = statement_of s i h k T.statement T.lies in
          let o = z.0 in
          let m = z.1 in
          let bytes : List ℕ = 7 ∷ (o % 256) ∷ (o / 256) ∷ m ∷ [] in
          let st : Starts (drop i s) bytes = rw z.2 at T.lies in
          let a = lis ∙ (byte_of s i bytes st 1 (omega arith)).1 in
          let b = his ∙ (byte_of s i bytes st 2 (omega arith)).1 in
          let c = nis ∙ (byte_of s i bytes st 3 (omega arith)).1 in
          let same : low + 256 * high ≡ o = omega arith in
          let fits : Printable strings o m = rw z.2 at T.fits in
          let due : w ≡ quoted (take m (drop o T.sheet.strings)) = T.bytes ∙ ap (λ (u : Statement). statement_text (statement_named T.sheet u)) z.2 in
          rw (same, c) (record { inside = fits.inside; is = rw T.sources.strings_are at due })

  pub assigns : (x y : ℕ) → x ≡ get_or s (i + 1) 0 → y ≡ get_or s (i + 2) 0 → (get_or s i 0 ≡ 4 → ⊥) → (get_or s i 0 ≡ 5 → ⊥) → (get_or s i 0 ≡ 6 → ⊥) → (get_or s i 0 ≡ 7 → ⊥) → (get_or s i 0 ≡ 8 → ⊥) → (get_or s i 0 ≡ 9 → ⊥) → (get_or s i 0 ≡ 10 → ⊥)
      → PutAs p.write p.lent p.at (assignment_at (get_or s i 0 - 1) x y) d r → Written most_printed Due p r d
  assigns x y xis yis f4 f5 f6 f7 f8 f9 f10 P = just most_printed Due p (assignment_at (get_or s i 0 - 1) x y) r d P (assignment_short (get_or s i 0 - 1) x y) (λ w T. T.bytes ∙ go T.sheet T.statement T.lies)
    where
      three : (k a v : ℕ) → Starts (drop i s) (k ∷ a ∷ v ∷ []) → assignment_at (k - 1) a v ≡ assignment_at (get_or s i 0 - 1) x y
      three k a v st = rw (xis, yis, first_byte s i k (a ∷ v ∷ []) st, (byte_of s i (k ∷ a ∷ v ∷ []) st 1 (omega arith)).1, (byte_of s i (k ∷ a ∷ v ∷ []) st 2 (omega arith)).1) refl

      go : (a : Sheet) (t : Statement) → Starts (drop i s) (statement_bytes t) → statement_text (statement_named a t) ≡ assignment_at (get_or s i 0 - 1) x y
      go a (become b v) st = three 1 b v st
      go a (copy b c) st = three 2 b c st
      go a (recall b c) st = three 3 b c st
      go a reject st = absurd (f4 (first_byte s i 4 [] st))
      go a (print_start t) st = absurd (f5 (first_byte s i 5 (t ∷ []) st))
      go a (print_end t) st = absurd (f6 (first_byte s i 6 (t ∷ []) st))
      go a (print_text o n) st = absurd (f7 (first_byte s i 7 ((o % 256) ∷ (o / 256) ∷ n ∷ []) st))
      go a (echo true) st = absurd (f8 (first_byte s i 8 [] st))
      go a (echo false) st = absurd (f9 (first_byte s i 9 [] st))
      go a (branch c l m) st = absurd (f10 (first_byte s i 10 (condition_bytes c ++ (program_bytes l ++ program_bytes m)) st))

-- ---- between statements
pub first_item : (k : ℕ) (b : Bool) → k ≡ 0 → b ≡ true → word_bytes PRINT ++ 32 ∷ [] ≡ between_statements (preceding_at k) b
first_item k b e f = rw (e, f) refl

pub first_other : (k : ℕ) (b : Bool) → k ≡ 0 → b ≡ false → [] ≡ between_statements (preceding_at k) b
first_other k b e f = rw (e, f) refl

pub next_other : (k : ℕ) (b : Bool) → (k ≡ 0 → ⊥) → b ≡ false → 59 ∷ 32 ∷ [] ≡ between_statements (preceding_at k) b
next_other k b h f = rw (ne_eqb k 0 h, f) (on (eqb k 1))
  where
    on : (c : Bool) → 59 ∷ 32 ∷ [] ≡ between_statements (cond c a_statement an_item) false
    on true = refl
    on false = refl

pub next_print : (k : ℕ) (b : Bool) → k ≡ 1 → b ≡ true → 59 ∷ 32 ∷ (word_bytes PRINT ++ 32 ∷ []) ≡ between_statements (preceding_at k) b
next_print k b e f = rw (e, f) refl

pub next_item : (k : ℕ) (b : Bool) → (k ≡ 0 → ⊥) → (k ≡ 1 → ⊥) → b ≡ true → 32 ∷ [] ≡ between_statements (preceding_at k) b
next_item k b h i f = rw (ne_eqb k 0 h, ne_eqb k 1 i, f) refl

-- ---- items
pub items_are_theirs : ItemsAreTheirs
items_are_theirs a (become b v) = refl
items_are_theirs a (copy b c) = refl
items_are_theirs a (recall b c) = refl
items_are_theirs a reject = refl
items_are_theirs a (print_start t) = refl
items_are_theirs a (print_end t) = refl
items_are_theirs a (print_text o n) = refl
items_are_theirs a (echo true) = refl
items_are_theirs a (echo false) = refl
items_are_theirs a (branch c l m) = refl

pub no_item : (k : ℕ) → k < 5 → false ≡ item_at k
no_item k h = rw (lt-ltb k 5 h) refl

pub may_be_item : (k : ℕ) → 5 ≤ k → ltb k 8 ≡ item_at k
may_be_item k h = rw (le-ltb k 5 h) refl
