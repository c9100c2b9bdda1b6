-- Statements, lists and branches as they are written, from what their parts wrote. Assumes nothing.
use mathlib.Core.Path.{◌≡◌, refl, sym, ap, ◌∙◌, subst}
use mathlib.Core.Bool.{Bool, true, false, cond, not, ◌&&◌}
use mathlib.Core.List.{List, [], ◌∷◌, ◌++◌, append-nil, append_assoc}
use Prim.Native.Nat.{ℕ, ◌+◌, ◌*◌, ◌≤◌, ◌<◌}
use native.Mathlib.Omega.{arith}
use lib.Dec.{eqb}
use lib.ListN.{length, get_or, length-append}
use borrow.Author.Tests.{ne_eqb}
use Rattle.lent.specs.Put.{PutAs}
use Rattle.lent.proofs.Laws.{nothing_put}
use Rattle.programs.specs.Program.{Condition, Statement, branch, statement_bytes, Program, done, step, program_bytes}
use Rattle.programs.specs.Limits.{StatementFits, StatementsFit}
use Rattle.sheet.specs.Sheet.{Sheet}
use Rattle.output.proofs.Writing.{put_then, same_bytes}
use Rattle.notation.specs.Program.{TextProgram}
use Rattle.printed.specs.Programs.{is_item, is_if, is_done, is_one, Preceding, nothing_yet, between_statements, after_it, branch_text, statement_text, list_text}
use Rattle.printed.specs.Conditions.{condition_text}
use Rattle.naming.specs.ByName.{statement_named, program_named}
use Rattle.visits.specs.Evaluated.{LiesAt, PastIs}
use Rattle.visits.specs.Written.{Pen, Written, Sources}
use Rattle.visits.specs.Ran.{most_printed, Ground}
use Rattle.visits.proofs.Lying.{statement_of}
use Rattle.visits.proofs.Running.{pen_at}
use Rattle.clauses.specs.Clauses.{condition_text_in, ClausePut}
use Rattle.clauses.specs.declared.Put.{Put}
use Rattle.clauses.proofs.Laws.{dry_put, never_in_parentheses}
use Rattle.sentences.specs.Sentences.{PlainText, preceding_at, item_at}
use Rattle.glances.specs.Glances.{shape_of, ShapeIs}
use Rattle.glances.proofs.Laws.{nothing_lies, BranchLies, branch_lies, rest_lies, first_lies, item_lies, not_done}
use Rattle.passages.specs.Passages.{stands_bare, branch_of, bare_at, opening_of, end_word, most_of_a_program, statements, lists, branches, PassagePut, ProgramTextAt}

-- ---- words around a branch
pub bare_one : (e : Bool) (k : ℕ) → k ≡ 1 → true ≡ bare_at e k
bare_one e k f = rw f refl

pub bare_after_else : (e : Bool) (k : ℕ) → (k ≡ 1 → ⊥) → e ≡ true → eqb k 2 ≡ bare_at e k
bare_after_else e k f t = rw (ne_eqb k 1 f, t) refl

pub bare_never : (e : Bool) (k : ℕ) → (k ≡ 1 → ⊥) → e ≡ false → false ≡ bare_at e k
bare_never e k f t = rw (ne_eqb k 1 f, t) refl

pub opened : (b : Bool) → b ≡ true → [] ≡ opening_of b
opened b e = rw e refl

pub opened_begin : (b : Bool) → b ≡ false → 98 ∷ 101 ∷ 103 ∷ 105 ∷ 110 ∷ 32 ∷ [] ≡ opening_of b
opened_begin b e = rw e refl

pub closed : (b e : Bool) → b ≡ true → [] ≡ end_word b e
closed b e f = rw f refl

pub closed_empty : (b e : Bool) → b ≡ false → e ≡ true → 101 ∷ 110 ∷ 100 ∷ [] ≡ end_word b e
closed_empty b e f g = rw (f, g) refl

pub closed_end : (b e : Bool) → b ≡ false → e ≡ false → 32 ∷ 101 ∷ 110 ∷ 100 ∷ [] ≡ end_word b e
closed_end b e f g = rw (f, g) refl

pub opening_short : (b : Bool) → length (opening_of b) ≤ 6
opening_short true = omega arith
opening_short false = omega arith

pub closing_short : (b e : Bool) → length (end_word b e) ≤ 4
closing_short true e = omega arith
closing_short false true = omega arith
closing_short false false = omega arith

pub between_short : (b : Preceding) (item : Bool) → length (between_statements b item) ≤ 8
between_short Preceding.nothing_yet true = omega arith
between_short Preceding.nothing_yet false = omega arith
between_short Preceding.a_statement true = omega arith
between_short Preceding.a_statement false = omega arith
between_short Preceding.an_item true = omega arith
between_short Preceding.an_item false = omega arith

pub behind_item : (b : Bool) → b ≡ true → preceding_at 2 ≡ after_it b
behind_item b e = rw e refl

pub behind_other : (b : Bool) → b ≡ false → preceding_at 1 ≡ after_it b
behind_other b e = rw e refl

-- ---- the shape of a list tells how its branch is written
bare_is : (e : Bool) (p : TextProgram) → bare_at e (shape_of p) ≡ stands_bare e p
bare_is true TextProgram.done = refl
bare_is false TextProgram.done = refl
bare_is e (TextProgram.step t p) = on e (is_if t) (is_one (TextProgram.step t p))
  where
    on : (e x y : Bool) → bare_at e (cond (not x && y) 1 (cond y 2 3)) ≡ cond e y (not x && y)
    on true true true = refl
    on true true false = refl
    on true false true = refl
    on true false false = refl
    on false true true = refl
    on false true false = refl
    on false false true = refl
    on false false false = refl

empty_is : (p : TextProgram) → eqb (shape_of p) 0 ≡ is_done p
empty_is TextProgram.done = refl
empty_is (TextProgram.step t p) = on (is_if t) (is_one (TextProgram.step t p))
  where
    on : (x y : Bool) → eqb (cond (not x && y) 1 (cond y 2 3)) 0 ≡ false
    on true true = refl
    on true false = refl
    on false true = refl
    on false false = refl

around : (e : Bool) (p : TextProgram) → opening_of (stands_bare e p) ++ (list_text nothing_yet p ++ end_word (stands_bare e p) (is_done p)) ≡ branch_of e p
around true TextProgram.done = refl
around false TextProgram.done = refl
around e (TextProgram.step t p) = on (stands_bare e (TextProgram.step t p)) (list_text nothing_yet (TextProgram.step t p))
  where
    on : (b : Bool) (x : List ℕ) → opening_of b ++ (x ++ end_word b false) ≡ branch_text b (TextProgram.step t p) x
    on true x = append-nil x
    on false x = refl

-- the words of an if up to its first branch, and what follows that
abbrev if_text : List ℕ → List ℕ → List ℕ
if_text c x = 105 ∷ 102 ∷ 32 ∷ (c ++ (32 ∷ 116 ∷ 104 ∷ 101 ∷ 110 ∷ 32 ∷ x))

followed : (c x y : List ℕ) → if_text c x ++ y ≡ if_text c (x ++ y)
followed c x y = ap (λ (l : List ℕ). 105 ∷ 102 ∷ 32 ∷ l) (append_assoc c (32 ∷ 116 ∷ 104 ∷ 101 ∷ 110 ∷ 32 ∷ x) y)

module _ (g : Ground) (i : ℕ) (p : Pen) where
  abbrev s : List ℕ
  s = g.section

  -- ---- a branch
  pub branch_put : (e : Bool) (k : ℕ) → ShapeIs s i k → (b : Bool) → b ≡ bare_at e k → (z : Bool) → z ≡ eqb k 0 → (d₁ d₂ d₃ : List ℕ) (n₁ n₃ : ℕ) (r : Put)
      → PutAs p.write p.lent p.at (opening_of b) d₁ n₁ → PassagePut (lists nothing_yet) g i (pen_at p d₁ n₁) r d₂ → PutAs p.write d₂ r.at (end_word b z) d₃ n₃
      → PassagePut (branches e) g i p (record { next = r.next; at = n₃ }) d₃
  branch_put e k S b bis z zis d₁ d₂ d₃ n₁ n₃ r O R C =
      record {
        low = R.low;
        high = R.high;
        reach = omega (arith, R.reach, O.next, C.next, opening_short b, closing_short b z);
        dry = λ f. dry_put _ _ _ _ _ _ f C ∙ R.dry f ∙ dry_put _ _ _ _ _ _ f O;
        right = go;
      }
    where
      go : (a : Sheet) → Sources g.tags g.strings a → (q : Program) → LiesAt program_bytes s i q → StatementsFit (length a.names) g.strings q
          → (r.next ≡ i + length (program_bytes q)) × PutAs p.write p.lent p.at (branch_of e (program_named a q)) d₃ n₃
      go a src q st fits =
          let m = program_named a q in
          let w = R.right a src q st fits in
          let bare : b ≡ stands_bare e m = bis ∙ ap (bare_at e) (S a q st) ∙ bare_is e m in
          let none : z ≡ is_done m = zis ∙ ap (λ (n : ℕ). eqb n 0) (S a q st) ∙ empty_is m in
          let same : opening_of b ++ (list_text nothing_yet m ++ end_word b z) ≡ branch_of e m
          = ap (λ (x : Bool). opening_of x ++ (list_text nothing_yet m ++ end_word x z)) bare ∙ ap (λ (x : Bool). opening_of (stands_bare e m) ++ (list_text nothing_yet m ++ end_word (stands_bare e m) x)) none ∙ around e m in
          (w.0, same_bytes _ _ _ _ (branch_of e m) _ _ same (put_then _ _ _ _ _ _ _ _ _ O (put_then _ _ _ _ _ _ _ _ _ w.1 C)))

  -- ---- lists
  pub list_cut : (b : Preceding) → i ≤ length s → length s ≤ i → PassagePut (lists b) g i p (record { next = i; at = p.at }) p.lent
  list_cut b h f = record { low = omega arith; high = h; reach = omega arith; dry = λ z. refl; right = λ a src q st fits. absurd (nothing_lies s i f q st) }

  module _ (h : i < length s) where
    pub list_ends : (b : Preceding) → get_or s i 0 ≡ 0 → PassagePut (lists b) g i p (record { next = i + 1; at = p.at }) p.lent
    list_ends b k = record { low = omega arith; high = omega arith; reach = omega arith; dry = λ z. refl; right = go }
      where
        go : (a : Sheet) → Sources g.tags g.strings a → (q : Program) → LiesAt program_bytes s i q → StatementsFit (length a.names) g.strings q
            → (i + 1 ≡ i + length (program_bytes q)) × PutAs p.write p.lent p.at (list_text b (program_named a q)) p.lent p.at
        go a src done st fits = (refl, nothing_put p.write p.lent p.at)
        go a src (step t q) st fits = absurd (statement_of s i h k t (first_lies s i t q st))

    pub list_goes : (b : Preceding) → (get_or s i 0 ≡ 0 → ⊥) → (item : Bool) → item ≡ item_at (get_or s i 0) → (d₁ d₂ d₃ : List ℕ) (n₁ : ℕ) (t r : Put) (after : ℕ)
        → PutAs p.write p.lent p.at (between_statements b item) d₁ n₁ → PassagePut statements g i (pen_at p d₁ n₁) t d₂ → preceding_at after ≡ after_it item
        → PassagePut (lists (preceding_at after)) g t.next (pen_at p d₂ t.at) r d₃ → PassagePut (lists b) g i p r d₃
    list_goes b k item iis d₁ d₂ d₃ n₁ t r after B T e R =
        record {
          low = omega (arith, T.low, R.low);
          high = R.high;
          reach = omega (arith, T.low, T.reach, R.reach, B.next, between_short b item);
          dry = λ z. R.dry z ∙ T.dry z ∙ dry_put _ _ _ _ _ _ z B;
          right = go;
        }
      where
        go : (a : Sheet) → Sources g.tags g.strings a → (q : Program) → LiesAt program_bytes s i q → StatementsFit (length a.names) g.strings q
            → (r.next ≡ i + length (program_bytes q)) × PutAs p.write p.lent p.at (list_text b (program_named a q)) d₃ r.at
        go a src done st fits = absurd (not_done s i h k st)
        go a src (step u q) st fits =
            let one = first_lies s i u q st in
            let x = T.right a src u one fits.0 in
            let y = R.right a src q (rest_lies s i u q st t.next (λ w. x.0)) fits.1 in
            let it : item ≡ is_item (statement_named a u) = iis ∙ item_lies s i a u one in
            let here = statement_text (statement_named a u) in
            let rest = program_named a q in
            let same : between_statements b item ++ (here ++ list_text (preceding_at after) rest) ≡ list_text b (program_named a (step u q))
            = ap (λ (l : Preceding). between_statements b item ++ (here ++ list_text l rest)) e ∙ ap (λ (x : Bool). between_statements b x ++ (here ++ list_text (after_it x) rest)) it in
            (omega (arith, x.0, y.0, length-append (statement_bytes u) (program_bytes q)), same_bytes _ _ _ _ (list_text b (program_named a (step u q))) _ _ same (put_then _ _ _ _ _ _ _ _ _ B (put_then _ _ _ _ _ _ _ _ _ x.1 y.1)))

  -- ---- a statement
  pub plain_put : (next to : ℕ) (d : List ℕ) → PastIs s i next → Written most_printed (PlainText s g.tags g.strings i) p to d → PassagePut statements g i p (record { next = next; at = to }) d
  plain_put next to d N W =
      record {
        low = N.low;
        high = N.high;
        reach = omega (arith, N.low, W.reach);
        dry = W.dry;
        right = λ a src t st fits. (N.exact t st, W.right (statement_text (statement_named a t)) (record { sheet = a; sources = src; statement = t; lies = st; fits = fits; bytes = refl }));
      }

  module _ (h : i < length s) (k : get_or s i 0 ≡ 10) (d₁ d₂ d₃ d₄ : List ℕ) (n₁ n₃ : ℕ) (c l : Put)
      (I : PutAs p.write p.lent p.at (105 ∷ 102 ∷ 32 ∷ []) d₁ n₁) (C : ClausePut 0 (condition_text_in 0) s (i + 1) (pen_at p d₁ n₁) c d₂)
      (T : PutAs p.write d₂ c.at (32 ∷ 116 ∷ 104 ∷ 101 ∷ 110 ∷ 32 ∷ []) d₃ n₃) (L : PassagePut (branches false) g c.next (pen_at p d₃ n₃) l d₄) where
    dry_so_far : p.write ≡ false → d₄ ≡ p.lent
    dry_so_far z = L.dry z ∙ dry_put _ _ _ _ _ _ z T ∙ C.dry z ∙ dry_put _ _ _ _ _ _ z I

    module _ (a : Sheet) (src : Sources g.tags g.strings a) (x : Condition) (q m : Program) (st : LiesAt statement_bytes s i (branch x q m)) (fits : StatementsFit (length a.names) g.strings q) where
      lies : BranchLies s i x q m c.next l.next
      lies = branch_lies s i x q m st c.next l.next (λ u. (C.right x u).0) (λ u. (L.right a src q u fits).0)

      first_put : PutAs p.write p.lent p.at (if_text (condition_text x) (branch_of false (program_named a q))) d₄ l.at
      first_put =
          let b = lies in
          let y = (C.right x b.condition_lies).1 in
          let w = same_bytes _ _ _ _ (condition_text x) _ _ (never_in_parentheses x) y in
          put_then _ _ _ _ _ _ _ _ _ I (put_then _ _ _ _ _ _ _ _ _ w (put_then _ _ _ _ _ _ _ _ _ T (L.right a src q b.first_lies fits).1))

    -- the same for every statement that lies there
    as_branch : (r : Put) (d : List ℕ)
        → ((a : Sheet) → Sources g.tags g.strings a → (x : Condition) (q m : Program) → LiesAt statement_bytes s i (branch x q m) → StatementFits (length a.names) g.strings (branch x q m)
        → (r.next ≡ i + length (statement_bytes (branch x q m))) × PutAs p.write p.lent p.at (statement_text (statement_named a (branch x q m))) d r.at)
        → (a : Sheet) → Sources g.tags g.strings a → (t : Statement) → LiesAt statement_bytes s i t → StatementFits (length a.names) g.strings t
        → (r.next ≡ i + length (statement_bytes t)) × PutAs p.write p.lent p.at (statement_text (statement_named a t)) d r.at
    as_branch r d f a src t st fits = let w = statement_of s i h k t st in rw w.3 (f a src w.0 w.1 w.2 (rw w.3 at st) (rw w.3 at fits))

    -- the section ends behind the first branch
    pub if_cut : length s ≤ l.next → PassagePut statements g i p l d₄
    if_cut f =
        record {
          low = omega (arith, C.low, L.low);
          high = L.high;
          reach = omega (arith, I.next, C.low, C.reach, T.next, L.low, L.reach);
          dry = dry_so_far;
          right = as_branch l d₄ (λ a src x q m st fits. absurd (nothing_lies s l.next f m (lies a src x q m st fits.1).second_lies));
        }

    module _ (f : l.next < length s) where
      pub if_put : get_or s l.next 0 ≡ 0 → PassagePut statements g i p (record { next = l.next + 1; at = l.at }) d₄
      if_put e =
          record {
            low = omega (arith, C.low, L.low);
            high = omega arith;
            reach = omega (arith, I.next, C.low, C.reach, T.next, L.low, L.reach);
            dry = dry_so_far;
            right = as_branch (record { next = l.next + 1; at = l.at }) d₄ go;
          }
        where
          go : (a : Sheet) → Sources g.tags g.strings a → (x : Condition) (q m : Program) → LiesAt statement_bytes s i (branch x q m) → StatementFits (length a.names) g.strings (branch x q m)
              → (l.next + 1 ≡ i + length (statement_bytes (branch x q m))) × PutAs p.write p.lent p.at (statement_text (statement_named a (branch x q m))) d₄ l.at
          go a src x q done st fits =
              let y = branch_of false (program_named a q) in
              ((lies a src x q done st fits.1).long, same_bytes _ _ _ _ (if_text (condition_text x) (y ++ [])) _ _ (ap (if_text (condition_text x)) (sym (append-nil y))) (first_put a src x q done st fits.1))
          go a src x q (step t m) st fits = absurd (statement_of s l.next f e t (first_lies s l.next t m (lies a src x q (step t m) st fits.1).second_lies))

      pub if_else_put : (get_or s l.next 0 ≡ 0 → ⊥) → (d₅ d₆ : List ℕ) (n₅ : ℕ) (r : Put) → PutAs p.write d₄ l.at (32 ∷ 101 ∷ 108 ∷ 115 ∷ 101 ∷ 32 ∷ []) d₅ n₅
          → PassagePut (branches true) g l.next (pen_at p d₅ n₅) r d₆ → PassagePut statements g i p r d₆
      if_else_put e d₅ d₆ n₅ r E R =
          record {
            low = omega (arith, C.low, L.low, R.low);
            high = R.high;
            reach = omega (arith, I.next, C.low, C.reach, T.next, L.low, L.reach, E.next, R.low, R.reach);
            dry = λ z. R.dry z ∙ dry_put _ _ _ _ _ _ z E ∙ dry_so_far z;
            right = as_branch r d₆ go;
          }
        where
          go : (a : Sheet) → Sources g.tags g.strings a → (x : Condition) (q m : Program) → LiesAt statement_bytes s i (branch x q m) → StatementFits (length a.names) g.strings (branch x q m)
              → (r.next ≡ i + length (statement_bytes (branch x q m))) × PutAs p.write p.lent p.at (statement_text (statement_named a (branch x q m))) d₆ r.at
          go a src x q done st fits = absurd (not_done s l.next f e (lies a src x q done st fits.1).second_lies)
          go a src x q (step t m) st fits =
              let b = lies a src x q (step t m) st fits.1 in
              let y = branch_of false (program_named a q) in
              let z = R.right a src (step t m) b.second_lies fits.2 in
              let other = branch_of true (program_named a (step t m)) in
              (z.0 ∙ b.long, same_bytes _ _ _ _ (if_text (condition_text x) (y ++ (32 ∷ 101 ∷ 108 ∷ 115 ∷ 101 ∷ 32 ∷ other))) _ _ (followed (condition_text x) y (32 ∷ 101 ∷ 108 ∷ 115 ∷ 101 ∷ 32 ∷ other)) (put_then _ _ _ _ _ _ _ _ _ (first_put a src x q (step t m) st fits.1) (put_then _ _ _ _ _ _ _ _ _ E z.1)))

-- ---- a program
module _ (s tags strings : List ℕ) (i : ℕ) (p : Pen) where
  pub no_program : length s < i → Written most_of_a_program (ProgramTextAt s tags strings i) p p.at p.lent
  no_program h = record { reach = omega arith; dry = λ z. refl; right = λ w D. absurd (nothing_lies s i (omega arith) D.program D.lies) }

  pub program_put : length s ≤ 65536 → (d₁ d₂ d₃ : List ℕ) (n₁ n₃ : ℕ) (r : Put) → PutAs p.write p.lent p.at (123 ∷ []) d₁ n₁
      → PassagePut (lists nothing_yet) (record { section = s; tags = tags; strings = strings }) i (pen_at p d₁ n₁) r d₂ → PutAs p.write d₂ r.at (125 ∷ []) d₃ n₃
      → Written most_of_a_program (ProgramTextAt s tags strings i) p n₃ d₃
  program_put h d₁ d₂ d₃ n₁ n₃ r O R C =
      record {
        reach = omega (arith, O.next, C.next, R.high, R.reach);
        dry = λ z. dry_put _ _ _ _ _ _ z C ∙ R.dry z ∙ dry_put _ _ _ _ _ _ z O;
        right = λ w D. same_bytes _ _ _ _ w _ _ (sym D.bytes) (put_then _ _ _ _ _ _ _ _ _ O (put_then _ _ _ _ _ _ _ _ _ (R.right D.sheet D.sources D.program D.lies D.fits).1 C));
      }
