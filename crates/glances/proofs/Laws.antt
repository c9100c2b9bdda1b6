-- Where statements end, from where their parts do; and the shape of a list from its first byte, what follows its first statement, and whether all
-- the rest are items of a print. Assumes nothing.
use mathlib.Core.Path.{◌≡◌, refl, sym, ap, ◌∙◌, subst}
use mathlib.Core.Bool.{Bool, true, false, cond, not, ◌&&◌}
use mathlib.Core.List.{List, [], ◌∷◌, ◌++◌}
use Prim.Native.Nat.{ℕ, ◌+◌, ◌/◌, ◌%◌, ◌≤◌, ◌<◌}
use native.Mathlib.Omega.{arith}
use lib.ListN.{length, get_or, drop, length-append, length-drop}
use Rattle.text.specs.Chars.{Starts}
use Rattle.programs.specs.Program.{Condition, condition_bytes, Statement, become, copy, recall, reject, print_start, print_end, print_text, echo, branch, statement_bytes, Program, done, step, program_bytes}
use Rattle.programs.proofs.Agree.{statement_some, program_some}
use Rattle.programs.proofs.Reading.{byte_of, first_byte, starts_length}
use Rattle.sheet.specs.Sheet.{Sheet}
use Rattle.printed.specs.Programs.{is_item, is_if, all_items, is_done}
use Rattle.naming.specs.ByName.{statement_named, program_named}
use Rattle.visits.specs.Evaluated.{LiesAt, JudgedAs, PastIs}
use Rattle.visits.specs.declared.Judged.{Judged}
use Rattle.visits.proofs.Lying.{first_part, second_part, statement_of}
use Rattle.sentences.specs.Sentences.{item_at}
use Rattle.sentences.proofs.Laws.{items_are_theirs}
use Rattle.glances.specs.Glances.{EndsAt, ItemsLeft, shape_of, ShapeIs}

pub condition_end : (s : List ℕ) (i : ℕ) (kept values : List ℕ) (r : Judged) → JudgedAs s i kept values r → EndsAt condition_bytes 0 s i r.next
condition_end s i kept values r J = record { low = omega (arith, J.low); high = J.high; exact = λ c st. (J.right c st).1 }

-- nothing lies where the section ends
pub nothing_lies : (s : List ℕ) (i : ℕ) → length s ≤ i → (p : Program) → LiesAt program_bytes s i p → ⊥
nothing_lies s i h p st = omega (arith, program_some p, starts_length (drop i s) (program_bytes p) st, length-drop i s)

pub list_cut : (s : List ℕ) (i : ℕ) → i ≤ length s → length s ≤ i → EndsAt program_bytes 0 s i i
list_cut s i h f = record { low = omega arith; high = h; exact = λ p st. absurd (nothing_lies s i f p st) }

-- ---- parts that lie one behind the other
module _ (s : List ℕ) (i : ℕ) where
  -- of a branch: its condition, and where each list lies, from where the condition and the first list end
  pub record BranchLies (c : Condition) (l m : Program) (j n : ℕ) : Type 0 where
    pub condition_lies : LiesAt condition_bytes s (i + 1) c
    pub first_lies : LiesAt program_bytes s j l
    pub second_lies : LiesAt program_bytes s n m
    pub long : n + length (program_bytes m) ≡ i + length (statement_bytes (branch c l m))

  pub branch_lies : (c : Condition) (l m : Program) → LiesAt statement_bytes s i (branch c l m) → (j n : ℕ) → (LiesAt condition_bytes s (i + 1) c → j ≡ i + 1 + length (condition_bytes c))
      → (LiesAt program_bytes s j l → n ≡ j + length (program_bytes l)) → BranchLies c l m j n
  branch_lies c l m st j n jis nis =
      let one = second_part s i (10 ∷ []) (condition_bytes c ++ (program_bytes l ++ program_bytes m)) st in
      let con = first_part s (i + 1) (condition_bytes c) (program_bytes l ++ program_bytes m) one in
      let two = subst (λ (k : ℕ). Starts (drop k s) (program_bytes l ++ program_bytes m)) (sym (jis con)) (second_part s (i + 1) (condition_bytes c) (program_bytes l ++ program_bytes m) one) in
      let fst = first_part s j (program_bytes l) (program_bytes m) two in
      record {
        condition_lies = con;
        first_lies = fst;
        second_lies = subst (λ (k : ℕ). Starts (drop k s) (program_bytes m)) (sym (nis fst)) (second_part s j (program_bytes l) (program_bytes m) two);
        long = omega (arith, jis con, nis fst, length-append (condition_bytes c) (program_bytes l ++ program_bytes m), length-append (program_bytes l) (program_bytes m));
      }

  -- of a list: its first statement, and the rest behind that
  pub rest_lies : (t : Statement) (p : Program) → LiesAt program_bytes s i (step t p) → (n : ℕ) → (LiesAt statement_bytes s i t → n ≡ i + length (statement_bytes t)) → LiesAt program_bytes s n p
  rest_lies t p st n nis =
      subst (λ (k : ℕ). Starts (drop k s) (program_bytes p)) (sym (nis (first_part s i (statement_bytes t) (program_bytes p) st))) (second_part s i (statement_bytes t) (program_bytes p) st)

  pub first_lies : (t : Statement) (p : Program) → LiesAt program_bytes s i (step t p) → LiesAt statement_bytes s i t
  first_lies t p st = first_part s i (statement_bytes t) (program_bytes p) st

  pub item_lies : (a : Sheet) (t : Statement) → LiesAt statement_bytes s i t → item_at (get_or s i 0) ≡ is_item (statement_named a t)
  item_lies a t st =
      let e : i ≡ i + 0 = omega arith in
      ap (λ (k : ℕ). item_at (get_or s k 0)) e ∙ ap item_at (byte_of s i (statement_bytes t) st 0 (omega (arith, statement_some t))).1 ∙ items_are_theirs a t

  pub if_lies : (a : Sheet) (t : Statement) → LiesAt statement_bytes s i t → (get_or s i 0 ≡ 10 → ⊥) → is_if (statement_named a t) ≡ false
  if_lies a (become b v) st f = refl
  if_lies a (copy b c) st f = refl
  if_lies a (recall b c) st f = refl
  if_lies a reject st f = refl
  if_lies a (print_start t) st f = refl
  if_lies a (print_end t) st f = refl
  if_lies a (print_text o n) st f = refl
  if_lies a (echo on) st f = refl
  if_lies a (branch c l m) st f = absurd (f (first_byte s i 10 (condition_bytes c ++ (program_bytes l ++ program_bytes m)) st))

module _ (s : List ℕ) (i : ℕ) (h : i < length s) where
  -- ---- ends
  pub plain_end : (r : ℕ) → PastIs s i r → EndsAt statement_bytes 1 s i r
  plain_end r P = record { low = P.low; high = P.high; exact = P.exact }

  pub branch_end : get_or s i 0 ≡ 10 → (j n r : ℕ) → EndsAt condition_bytes 0 s (i + 1) j → EndsAt program_bytes 0 s j n → EndsAt program_bytes 0 s n r → EndsAt statement_bytes 1 s i r
  branch_end k j n r C L M = record { low = omega (arith, C.low, L.low, M.low); high = M.high; exact = go }
    where
      go : (t : Statement) → LiesAt statement_bytes s i t → r ≡ i + length (statement_bytes t)
      go t st =
          let w = statement_of s i h k t st in
          let b = branch_lies s i w.0 w.1 w.2 (rw w.3 at st) j n (C.exact w.0) (L.exact w.1) in
          rw w.3 (M.exact w.2 b.second_lies ∙ b.long)

  pub list_end : get_or s i 0 ≡ 0 → EndsAt program_bytes 0 s i (i + 1)
  list_end k = record { low = omega arith; high = omega arith; exact = go }
    where
      go : (p : Program) → LiesAt program_bytes s i p → i + 1 ≡ i + length (program_bytes p)
      go done st = refl
      go (step t p) st = absurd (statement_of s i h k t (first_lies s i t p st))

  module _ (k : get_or s i 0 ≡ 0 → ⊥) where
    -- a list that lies there has a statement
    pub not_done : LiesAt program_bytes s i done → ⊥
    not_done st = k (first_byte s i 0 [] st)

    pub list_on : (n r : ℕ) → EndsAt statement_bytes 1 s i n → EndsAt program_bytes 0 s n r → EndsAt program_bytes 0 s i r
    list_on n r T P = record { low = omega (arith, T.low, P.low); high = P.high; exact = go }
      where
        go : (p : Program) → LiesAt program_bytes s i p → r ≡ i + length (program_bytes p)
        go done st = absurd (not_done st)
        go (step t p) st = omega (arith, P.exact p (rest_lies s i t p st n (T.exact t)), T.exact t (first_lies s i t p st), length-append (statement_bytes t) (program_bytes p))

    -- ---- items
    pub another : (b : Bool) → b ≡ item_at (get_or s i 0) → b ≡ false → ItemsLeft s i false
    another b e f a done st = absurd (not_done st)
    another b e f a (step t p) st = rw (sym (item_lies s i a t (first_lies s i t p st)) ∙ sym e ∙ f) refl

    pub item_more : (b : Bool) → b ≡ item_at (get_or s i 0) → b ≡ true → (n : ℕ) → EndsAt statement_bytes 1 s i n → (r : Bool) → ItemsLeft s n r → ItemsLeft s i r
    item_more b e f n T r I a done st = absurd (not_done st)
    item_more b e f n T r I a (step t p) st = rw (sym (item_lies s i a t (first_lies s i t p st)) ∙ sym e ∙ f) (I a p (rest_lies s i t p st n (T.exact t)))

  pub items_end : get_or s i 0 ≡ 0 → ItemsLeft s i true
  items_end k a done st = refl
  items_end k a (step t p) st = absurd (statement_of s i h k t (first_lies s i t p st))

  -- ---- shapes
  pub no_statement : get_or s i 0 ≡ 0 → ShapeIs s i 0
  no_statement k a done st = refl
  no_statement k a (step t p) st = absurd (statement_of s i h k t (first_lies s i t p st))

  module _ (k : get_or s i 0 ≡ 0 → ⊥) (n : ℕ) (T : EndsAt statement_bytes 1 s i n) where
    item_no_if : (a : Sheet) (t : Statement) → is_item (statement_named a t) ≡ true → is_if (statement_named a t) ≡ false
    item_no_if a (become b v) e = refl
    item_no_if a (copy b c) e = refl
    item_no_if a (recall b c) e = refl
    item_no_if a reject e = refl
    item_no_if a (print_start t) e = refl
    item_no_if a (print_end t) e = refl
    item_no_if a (print_text o m) e = refl
    item_no_if a (echo on) e = refl
    item_no_if a (branch c l m) e = sym e

    pub items_shape : item_at (get_or s i 0) ≡ true → (r v : Bool) → ItemsLeft s n r → r ≡ v → ShapeIs s i (cond v 1 3)
    items_shape e r v I f a done st = absurd (not_done k st)
    items_shape e r v I f a (step t p) st =
        let item = sym (item_lies s i a t (first_lies s i t p st)) ∙ e in
        rw (item, item_no_if a t item, sym (I a p (rest_lies s i t p st n (T.exact t))) ∙ f) (on v)
      where
        on : (b : Bool) → ◌≡◌ {A = ℕ} (cond b 1 3) (cond b 1 (cond b 2 3))
        on true = refl
        on false = refl

    module _ (e : item_at (get_or s i 0) ≡ false) where
      -- what follows its first statement
      done_behind : n < length s → get_or s n 0 ≡ 0 → (a : Sheet) (p : Program) → LiesAt program_bytes s n p → is_done (program_named a p) ≡ true
      done_behind g z a done st = refl
      done_behind g z a (step t p) st = absurd (statement_of s n g z t (first_lies s n t p st))

      pub one_if_lem : n < length s → get_or s n 0 ≡ 0 → get_or s i 0 ≡ 10 → ShapeIs s i 2
      one_if_lem g z f a done st = absurd (not_done k st)
      one_if_lem g z f a (step t p) st =
          let w = statement_of s i h f t (first_lies s i t p st) in
          rw (w.3, done_behind g z a p (rest_lies s i t p st n (T.exact t))) refl

      pub one_plain : n < length s → get_or s n 0 ≡ 0 → (get_or s i 0 ≡ 10 → ⊥) → ShapeIs s i 1
      one_plain g z f a done st = absurd (not_done k st)
      one_plain g z f a (step t p) st =
          rw (sym (item_lies s i a t (first_lies s i t p st)) ∙ e, if_lies s i a t (first_lies s i t p st) f, done_behind g z a p (rest_lies s i t p st n (T.exact t))) refl

      pub more_than_one : (n < length s → get_or s n 0 ≡ 0 → ⊥) → ShapeIs s i 3
      more_than_one z a done st = absurd (not_done k st)
      more_than_one z a (step t p) st =
          rw (sym (item_lies s i a t (first_lies s i t p st)) ∙ e, not_done_behind a p (rest_lies s i t p st n (T.exact t))) (on (is_if (statement_named a t)))
        where
          not_done_behind : (a : Sheet) (p : Program) → LiesAt program_bytes s n p → is_done (program_named a p) ≡ false
          not_done_behind a done st = absurd (z (omega (arith, starts_length (drop n s) (0 ∷ []) st, length-drop n s)) (first_byte s n 0 [] st))
          not_done_behind a (step t p) st = refl

          on : (b : Bool) → ◌≡◌ {A = ℕ} 3 (cond (not b && false) 1 3)
          on true = refl
          on false = refl

pub shape_cut : (s : List ℕ) (i : ℕ) → length s ≤ i → ShapeIs s i 0
shape_cut s i h a p st = absurd (nothing_lies s i h p st)

pub items_cut : (s : List ℕ) (i : ℕ) → length s ≤ i → ItemsLeft s i true
items_cut s i h a p st = absurd (nothing_lies s i h p st)
