-- Conditions as they are written: a comparison, parentheses around a condition, and a condition from its parts. Assumes nothing.
use mathlib.Core.Path.{◌≡◌, refl, sym, ap, ◌∙◌, subst}
use mathlib.Core.Bool.{Bool, true, false, cond}
use mathlib.Core.List.{List, [], ◌∷◌, ◌++◌, append-nil}
use Prim.Native.Nat.{ℕ, ◌+◌, ◌-◌, ◌*◌, ◌/◌, ◌%◌, ◌≤◌, ◌<◌}
use native.Mathlib.Omega.{arith}
use lib.Dec.{eqb, ltb}
use lib.ListN.{length, get_or, drop, length-append, length-drop}
use borrow.Author.Tests.{ne_eqb, le-ltb, lt-ltb}
use Rattle.text.specs.Chars.{pick, Starts}
use Rattle.lent.specs.Put.{PutAs}
use Rattle.lent.proofs.Laws.{put_dry}
use Rattle.output.proofs.Writing.{put_then, same_bytes}
use Rattle.programs.specs.Program.{Operand, constant, current, recalled, operand_bytes, Condition, equal, negated, both, either, condition_bytes}
use Rattle.programs.proofs.Agree.{condition_some}
use Rattle.programs.proofs.Reading.{byte_of, first_byte, starts_length}
use Rattle.notation.specs.Tokens.{decimal, token_bytes}
use Rattle.printed.specs.Spacing.{in_parentheses, in_parentheses_if}
use Rattle.printed.specs.Conditions.{operand_token, condition_binds, condition_text}
use Rattle.printer.specs.Operands.{operand_text_at}
use Rattle.visits.specs.Evaluated.{LiesAt}
use Rattle.visits.specs.Written.{Pen}
use Rattle.visits.proofs.Lying.{first_part, second_part, condition_of}
use Rattle.clauses.specs.Clauses.{binds_at, BindsAreTheirs, word_between, condition_text_in, sign_where, most_of_a_byte, ClausePut}
use Rattle.clauses.specs.declared.Put.{Put}

-- ---- by the first byte
pub binds_are_theirs : BindsAreTheirs
binds_are_theirs (equal x y) = refl
binds_are_theirs (negated c) = refl
binds_are_theirs (both c d) = refl
binds_are_theirs (either c d) = refl

pub binds_or : (k : ℕ) → k ≡ 3 → 0 ≡ binds_at k
binds_or k e = rw e refl

pub binds_and : (k : ℕ) → k ≡ 2 → 1 ≡ binds_at k
binds_and k e = rw e refl

pub binds_most : (k : ℕ) → (k ≡ 3 → ⊥) → (k ≡ 2 → ⊥) → 2 ≡ binds_at k
binds_most k f g = rw (ne_eqb k 3 f, ne_eqb k 2 g) refl

pub word_and : (k : ℕ) → k ≡ 2 → 32 ∷ 97 ∷ 110 ∷ 100 ∷ 32 ∷ [] ≡ word_between k
word_and k e = rw e refl

pub word_or : (k : ℕ) → (k ≡ 2 → ⊥) → 32 ∷ 111 ∷ 114 ∷ 32 ∷ [] ≡ word_between k
word_or k f = rw (ne_eqb k 2 f) refl

pub word_short : (k : ℕ) → length (word_between k) ≤ 5
word_short k = on (eqb k 2)
  where
    on : (b : Bool) → length {A = ℕ} (32 ∷ (cond b (97 ∷ 110 ∷ 100 ∷ []) (111 ∷ 114 ∷ []) ++ 32 ∷ [])) ≤ 5
    on true = omega arith
    on false = omega arith

pub sign_there : (b : Bool) (x : ℕ) → b ≡ true → x ∷ [] ≡ sign_where b x
sign_there b x e = rw e refl

pub no_sign : (b : Bool) (x : ℕ) → b ≡ false → [] ≡ sign_where b x
no_sign b x e = rw e refl

pub sign_short : (b : Bool) (x : ℕ) → length (sign_where b x) ≤ 1
sign_short true x = omega arith
sign_short false x = omega arith

-- ---- operands
pub decimal_short : (n : ℕ) → length (decimal n) ≤ 2
unfolding decimal
decimal_short n = on (ltb n 10)
  where
    on : (b : Bool) → length (pick b ((48 + n) ∷ []) ((48 + n / 10) ∷ (48 + n % 10) ∷ [])) ≤ 2
    on true = omega arith
    on false = omega arith

pub operand_short : (k v : ℕ) → length (operand_text_at k v) ≤ 6
operand_short k v = on (eqb k 0) (eqb k 1)
  where
    on : (p q : Bool) → length (cond p (decimal v) (cond q (36 ∷ 46 ∷ 97 ∷ [] ++ decimal v) (36 ∷ 91 ∷ 46 ∷ 97 ∷ [] ++ decimal v))) ≤ 6
    on true q = omega (arith, decimal_short v)
    on false true = omega (arith, decimal_short v)
    on false false = omega (arith, decimal_short v)

operand_length : (x : Operand) → length (operand_bytes x) ≡ 2
operand_length (constant v) = refl
operand_length (current a) = refl
operand_length (recalled a) = refl

-- the text of the bytes where an operand lies is the operand's
operand_text : (s : List ℕ) (j : ℕ) (x : Operand) → LiesAt operand_bytes s j x → operand_text_at (get_or s j 0) (get_or s (j + 1) 0) ≡ token_bytes (operand_token x)
operand_text s j (constant v) st = rw (first_byte s j 0 (v ∷ []) st, (byte_of s j (0 ∷ v ∷ []) st 1 (omega arith)).1) refl
operand_text s j (current a) st = rw (first_byte s j 1 (a ∷ []) st, (byte_of s j (1 ∷ a ∷ []) st 1 (omega arith)).1) refl
operand_text s j (recalled a) st = rw (first_byte s j 2 (a ∷ []) st, (byte_of s j (2 ∷ a ∷ []) st 1 (omega arith)).1) refl

-- ---- no place asks for less than nothing
pub never_in_parentheses : (c : Condition) → condition_text_in 0 c ≡ condition_text c
never_in_parentheses (equal x y) = refl
never_in_parentheses (negated c) = refl
never_in_parentheses (both c d) = refl
never_in_parentheses (either c d) = refl

-- ---- a dry run leaves all as lent
pub dry_put : (w : Bool) (d : List ℕ) (at : ℕ) (xs d₁ : List ℕ) (r : ℕ) → w ≡ false → PutAs w d at xs d₁ r → d₁ ≡ d
dry_put w d at xs d₁ r z P = P.left ∙ put_dry w d at xs z

module _ (s : List ℕ) (i : ℕ) (p : Pen) where
  -- ---- nothing, and a comparison
  pub nothing_left : (asked : ℕ) → i ≤ length s → length s ≤ i → ClausePut 0 (condition_text_in asked) s i p (record { next = i; at = p.at }) p.lent
  nothing_left asked l h =
      record { low = omega arith; high = l; reach = omega arith; dry = λ z. refl; right = λ c st. absurd (omega (arith, condition_some c, starts_length (drop i s) (condition_bytes c) st, length-drop i s)) }

  module _ (h : i < length s) where
    pub too_short : get_or s i 0 ≡ 0 → length s - i < 5 → ClausePut 2 condition_text s i p (record { next = length s; at = p.at }) p.lent
    too_short e short = record { low = omega arith; high = omega arith; reach = omega arith; dry = λ z. refl; right = λ c st. absurd (no c st) }
      where
        no : (c : Condition) → LiesAt condition_bytes s i c → ⊥
        no c st =
            let w = condition_of s i h e c st in
            let x = w.0 in
            let y = w.1 in
            omega (arith, starts_length (drop i s) (0 ∷ (operand_bytes x ++ operand_bytes y)) (rw w.2 at st), length-drop i s, length-append (operand_bytes x) (operand_bytes y), operand_length x, operand_length y)

    pub compared : get_or s i 0 ≡ 0 → i + 5 ≤ length s → (d₁ d₂ d₃ : List ℕ) (n₁ n₂ n₃ : ℕ)
        → PutAs p.write p.lent p.at (operand_text_at (get_or s (i + 1) 0) (get_or s (i + 1 + 1) 0)) d₁ n₁ → PutAs p.write d₁ n₁ (32 ∷ 61 ∷ 32 ∷ []) d₂ n₂
        → PutAs p.write d₂ n₂ (operand_text_at (get_or s (i + 3) 0) (get_or s (i + 3 + 1) 0)) d₃ n₃ → ClausePut 2 condition_text s i p (record { next = i + 5; at = n₃ }) d₃
    compared e long d₁ d₂ d₃ n₁ n₂ n₃ X M Y =
        record {
          low = omega arith;
          high = long;
          reach = omega (arith, X.next, M.next, Y.next, operand_short (get_or s (i + 1) 0) (get_or s (i + 1 + 1) 0), operand_short (get_or s (i + 3) 0) (get_or s (i + 3 + 1) 0));
          dry = λ z. dry_put _ _ _ _ _ _ z Y ∙ dry_put _ _ _ _ _ _ z M ∙ dry_put _ _ _ _ _ _ z X;
          right = go;
        }
      where
        go : (c : Condition) → LiesAt condition_bytes s i c → (i + 5 ≡ i + length (condition_bytes c)) × PutAs p.write p.lent p.at (condition_text c) d₃ n₃
        go c st =
            let w = condition_of s i h e c st in
            let x = w.0 in
            let y = w.1 in
            let lie : Starts (drop i s) ((0 ∷ []) ++ (operand_bytes x ++ operand_bytes y)) = rw w.2 at st in
            let two = second_part s i (0 ∷ []) (operand_bytes x ++ operand_bytes y) lie in
            let one = operand_text s (i + 1) x (first_part s (i + 1) (operand_bytes x) (operand_bytes y) two) in
            let at : i + 1 + length (operand_bytes x) ≡ i + 3 = omega (arith, operand_length x) in
            let other = operand_text s (i + 3) y (subst (λ (n : ℕ). Starts (drop n s) (operand_bytes y)) at (second_part s (i + 1) (operand_bytes x) (operand_bytes y) two)) in
            let X' = same_bytes _ _ _ _ (token_bytes (operand_token x)) _ _ one X in
            let Y' = same_bytes _ _ _ _ (token_bytes (operand_token y)) _ _ other Y in
            rw w.2 (omega (arith, length-append (operand_bytes x) (operand_bytes y), operand_length x, operand_length y), put_then _ _ _ _ _ _ _ _ _ X' (put_then _ _ _ _ _ _ _ _ _ M Y'))

  -- ---- parentheses around it
  binds_lying : (c : Condition) → LiesAt condition_bytes s i c → binds_at (get_or s i 0) ≡ condition_binds c
  binds_lying (equal x y) st = rw (first_byte s i 0 (operand_bytes x ++ operand_bytes y) st) refl
  binds_lying (negated c) st = rw (first_byte s i 1 (condition_bytes c) st) refl
  binds_lying (both c d) st = rw (first_byte s i 2 (condition_bytes c ++ condition_bytes d) st) refl
  binds_lying (either c d) st = rw (first_byte s i 3 (condition_bytes c ++ condition_bytes d) st) refl

  pub wrapped : (asked : ℕ) (b : Bool) → b ≡ ltb (binds_at (get_or s i 0)) asked → (d₁ d₂ d₃ : List ℕ) (n₁ n₃ : ℕ) (r : Put)
      → PutAs p.write p.lent p.at (sign_where b 40) d₁ n₁ → ClausePut 2 condition_text s i (record { write = p.write; lent = d₁; at = n₁ }) r d₂ → PutAs p.write d₂ r.at (sign_where b 41) d₃ n₃
      → ClausePut 0 (condition_text_in asked) s i p (record { next = r.next; at = n₃ }) d₃
  wrapped asked b e d₁ d₂ d₃ n₁ n₃ r O R C =
      record { low = R.low; high = R.high; reach = omega (arith, R.reach, O.next, C.next, sign_short b 40, sign_short b 41); dry = λ z. dry_put _ _ _ _ _ _ z C ∙ R.dry z ∙ dry_put _ _ _ _ _ _ z O; right = go }
    where
      around : (b : Bool) (x : List ℕ) → sign_where b 40 ++ (x ++ sign_where b 41) ≡ in_parentheses_if b x
      around true x = refl
      around false x = append-nil x

      go : (c : Condition) → LiesAt condition_bytes s i c → (r.next ≡ i + length (condition_bytes c)) × PutAs p.write p.lent p.at (condition_text_in asked c) d₃ n₃
      go c st =
          let q = R.right c st in
          let t : b ≡ ltb (condition_binds c) asked = e ∙ ap (λ (n : ℕ). ltb n asked) (binds_lying c st) in
          (q.0, same_bytes _ _ _ _ (condition_text_in asked c) _ _ (around b (condition_text c) ∙ ap (λ (z : Bool). in_parentheses_if z (condition_text c)) t) (put_then _ _ _ _ _ _ _ _ _ O (put_then _ _ _ _ _ _ _ _ _ q.1 C)))

  -- ---- a word, and parts
  module _ (h : i < length s) where
    pub not_it : get_or s i 0 ≡ 1 → (b : ℕ) → b ≡ binds_at (get_or s i 0) → (d₁ d₂ : List ℕ) (n₁ : ℕ) (r : Put) → PutAs p.write p.lent p.at (110 ∷ 111 ∷ 116 ∷ 32 ∷ []) d₁ n₁
        → ClausePut 0 (condition_text_in (b + 1)) s (i + 1) (record { write = p.write; lent = d₁; at = n₁ }) r d₂ → ClausePut 2 condition_text s i p r d₂
    not_it e b eb d₁ d₂ n₁ r N R = record { low = omega (arith, R.low); high = R.high; reach = omega (arith, R.reach, N.next); dry = λ z. R.dry z ∙ dry_put _ _ _ _ _ _ z N; right = go }
      where
        always : (c : Condition) → condition_text_in 3 c ≡ in_parentheses (condition_text c)
        always (equal x y) = refl
        always (negated c) = refl
        always (both c d) = refl
        always (either c d) = refl

        go : (c : Condition) → LiesAt condition_bytes s i c → (r.next ≡ i + length (condition_bytes c)) × PutAs p.write p.lent p.at (condition_text c) d₂ r.at
        go c st =
            let w = condition_of s i h e c st in
            let c' = w.0 in
            let lie : Starts (drop i s) ((1 ∷ []) ++ condition_bytes c') = rw w.1 at st in
            let q = R.right c' (second_part s i (1 ∷ []) (condition_bytes c') lie) in
            let same : condition_text_in (b + 1) c' ≡ in_parentheses (condition_text c') = ap (λ (n : ℕ). condition_text_in (n + 1) c') (eb ∙ ap binds_at e) ∙ always c' in
            rw w.1 (omega (arith, q.0), put_then _ _ _ _ _ _ _ _ _ N (same_bytes _ _ _ _ (in_parentheses (condition_text c')) _ _ same q.1))

    module _ (k : ℕ) (at_i : get_or s i 0 ≡ k) (b : ℕ) (eb : b ≡ binds_at k) (d₁ d₂ d₃ : List ℕ) (n₂ : ℕ) (r q : Put)
        (R : ClausePut 0 (condition_text_in b) s (i + 1) p r d₁) (W : PutAs p.write d₁ r.at (word_between k) d₂ n₂)
        (Q : ClausePut 0 (condition_text_in (b + 1)) s r.next (record { write = p.write; lent = d₂; at = n₂ }) q d₃) where
      two_parts : (c d : Condition) → Starts (drop i s) (k ∷ (condition_bytes c ++ condition_bytes d))
          → (q.next ≡ i + length (k ∷ (condition_bytes c ++ condition_bytes d))) × PutAs p.write p.lent p.at (condition_text_in b c ++ (word_between k ++ condition_text_in (b + 1) d)) d₃ q.at
      two_parts c d st =
          let two = second_part s i (k ∷ []) (condition_bytes c ++ condition_bytes d) st in
          let x = R.right c (first_part s (i + 1) (condition_bytes c) (condition_bytes d) two) in
          let y = Q.right d (subst (λ (n : ℕ). Starts (drop n s) (condition_bytes d)) (sym x.0) (second_part s (i + 1) (condition_bytes c) (condition_bytes d) two)) in
          (omega (arith, x.0, y.0, length-append (condition_bytes c) (condition_bytes d)), put_then _ _ _ _ _ _ _ _ _ x.1 (put_then _ _ _ _ _ _ _ _ _ W y.1))

      pub two_of : (k ≡ 0 → ⊥) → (k ≡ 1 → ⊥) → ClausePut 2 condition_text s i p q d₃
      two_of f g = record { low = omega (arith, R.low, Q.low); high = Q.high; reach = omega (arith, R.reach, W.next, word_short k, Q.reach); dry = λ z. Q.dry z ∙ dry_put _ _ _ _ _ _ z W ∙ R.dry z; right = go }
        where
          same : (j : ℕ) (c d : Condition) → k ≡ j → condition_text_in b c ++ (word_between k ++ condition_text_in (b + 1) d) ≡ condition_text_in (binds_at j) c ++ (word_between j ++ condition_text_in (binds_at j + 1) d)
          same j c d e = ap (λ (n : ℕ). condition_text_in n c ++ (word_between k ++ condition_text_in (n + 1) d)) eb ∙ ap (λ (n : ℕ). condition_text_in (binds_at n) c ++ (word_between n ++ condition_text_in (binds_at n + 1) d)) e

          again : (j : ℕ) (c d : Condition) → k ≡ j → Starts (drop i s) (j ∷ (condition_bytes c ++ condition_bytes d)) → Starts (drop i s) (k ∷ (condition_bytes c ++ condition_bytes d))
          again j c d e st = subst (λ (n : ℕ). Starts (drop i s) (n ∷ (condition_bytes c ++ condition_bytes d))) (sym e) st

          go : (c : Condition) → LiesAt condition_bytes s i c → (q.next ≡ i + length (condition_bytes c)) × PutAs p.write p.lent p.at (condition_text c) d₃ q.at
          go (equal x z) st = absurd (f (sym at_i ∙ first_byte s i 0 (operand_bytes x ++ operand_bytes z) st))
          go (negated c) st = absurd (g (sym at_i ∙ first_byte s i 1 (condition_bytes c) st))
          go (both c d) st =
              let e : k ≡ 2 = sym at_i ∙ first_byte s i 2 (condition_bytes c ++ condition_bytes d) st in
              let z = two_parts c d (again 2 c d e st) in
              (z.0, same_bytes _ _ _ _ (condition_text (both c d)) _ _ (same 2 c d e) z.1)
          go (either c d) st =
              let e : k ≡ 3 = sym at_i ∙ first_byte s i 3 (condition_bytes c ++ condition_bytes d) st in
              let z = two_parts c d (again 3 c d e st) in
              (z.0, same_bytes _ _ _ _ (condition_text (either c d)) _ _ (same 3 c d e ∙ ap (λ (l : List ℕ). l ++ (word_between 3 ++ condition_text_in 1 d)) (never_in_parentheses c)) z.1)
