-- The characters of a string as they are written: one way each, and none begins another. Assumes nothing.
use mathlib.Core.Path.{◌≡◌, refl, sym, ◌∙◌, ap}
use mathlib.Core.Bool.{cond}
use mathlib.Core.List.{List, [], ◌∷◌, ◌++◌, append_assoc, append_cancel_left, head-eq_of_cons-eq, tail-eq_of_cons-eq}
use Prim.Native.Nat.{ℕ}
use native.Mathlib.Omega.{arith}
use native.Mathlib.Decide.{ℕ_discrete}
use lib.Dec.{eqb}
use borrow.Author.Tests.{ne_eqb}
use Rattle.text.specs.Chars.{utf8}
use Rattle.text.proofs.Shapes.{shape1}
use Rattle.text.proofs.Unique.{char_one}
use Rattle.notation.specs.Tokens.{in_quotes, all_in_quotes}

abbrev pub unescaped : ℕ → ℕ
unescaped k = cond (eqb k 116) 9 (cond (eqb k 110) 10 (cond (eqb k 114) 13 k))

pub data Form (c : ℕ) : Type 0 where
  by_escape : (k : ℕ) → in_quotes c ≡ 92 ∷ k ∷ [] → c ≡ unescaped k → Form c
  as_itself : in_quotes c ≡ utf8 c → (c ≡ 92 → ⊥) → (c ≡ 34 → ⊥) → Form c

pub form : (c : ℕ) → Form c
unfolding in_quotes
form c = on (ℕ_discrete c 34) (ℕ_discrete c 92) (ℕ_discrete c 9) (ℕ_discrete c 10) (ℕ_discrete c 13)
  where
    on : Dec (c ≡ 34) → Dec (c ≡ 92) → Dec (c ≡ 9) → Dec (c ≡ 10) → Dec (c ≡ 13) → Form c
    on (yes e) b d f g = by_escape 34 (rw e refl) e
    on (no a) (yes e) d f g = by_escape 92 (rw e refl) e
    on (no a) (no b) (yes e) f g = by_escape 116 (rw e refl) e
    on (no a) (no b) (no d) (yes e) g = by_escape 110 (rw e refl) e
    on (no a) (no b) (no d) (no f) (yes e) = by_escape 114 (rw e refl) e
    on (no a) (no b) (no d) (no f) (no g) = as_itself (rw (ne_eqb c 34 a, ne_eqb c 92 b, ne_eqb c 9 d, ne_eqb c 10 f, ne_eqb c 13 g) refl) b a

escape_apart : (c k : ℕ) (u v : List ℕ) → (c ≡ 92 → ⊥) → 92 ∷ k ∷ u ≡ utf8 c ++ v → ⊥
escape_apart c k u v n e = n (sym (char_one 92 c (k ∷ u) v (ap (λ l. l ++ k ∷ u) (shape1 92 (omega arith)) ∙ e)))

pub escaped_one : (c d : ℕ) (u v : List ℕ) → in_quotes c ++ u ≡ in_quotes d ++ v → c ≡ d
escaped_one c d u v e = on (form c) (form d)
  where
    on : Form c → Form d → c ≡ d
    on (by_escape k i j) (by_escape l i' j') =
        let f : 92 ∷ k ∷ u ≡ 92 ∷ l ∷ v = sym (ap (λ x. x ++ u) i) ∙ e ∙ ap (λ x. x ++ v) i' in
        j ∙ ap unescaped (head-eq_of_cons-eq (tail-eq_of_cons-eq f)) ∙ sym j'
    on (by_escape k i j) (as_itself i' n m) = absurd (escape_apart d k u v n (sym (ap (λ x. x ++ u) i) ∙ e ∙ ap (λ x. x ++ v) i'))
    on (as_itself i n m) (by_escape l i' j') = absurd (escape_apart c l v u n (sym (ap (λ x. x ++ v) i') ∙ sym e ∙ ap (λ x. x ++ u) i))
    on (as_itself i n m) (as_itself i' n' m') = char_one c d u v (sym (ap (λ x. x ++ u) i) ∙ e ∙ ap (λ x. x ++ v) i')

pub no_quote : (c : ℕ) (u v : List ℕ) → in_quotes c ++ u ≡ 34 ∷ v → ⊥
no_quote c u v e = on (form c)
  where
    on : Form c → ⊥
    on (by_escape k i j) = let z : ◌≡◌ {A = ℕ} 92 34 = head-eq_of_cons-eq (sym (ap (λ x. x ++ u) i) ∙ e) in omega arith
    on (as_itself i n m) = m (char_one c 34 u v (sym (ap (λ x. x ++ u) i) ∙ e ∙ sym (ap (λ l. l ++ v) (shape1 34 (omega arith)))))

pub same_string : (cs ds r q : List ℕ) → (all_in_quotes cs ++ 34 ∷ []) ++ r ≡ (all_in_quotes ds ++ 34 ∷ []) ++ q → cs ≡ ds
same_string [] [] r q e = refl
same_string [] (d ∷ ds) r q e = absurd (no_quote d ((all_in_quotes ds ++ 34 ∷ []) ++ q) r (sym (e ∙ ap (λ l. l ++ q) (append_assoc (in_quotes d) (all_in_quotes ds) (34 ∷ [])) ∙ append_assoc (in_quotes d) (all_in_quotes ds ++ 34 ∷ []) q)))
same_string (c ∷ cs) [] r q e = absurd (no_quote c ((all_in_quotes cs ++ 34 ∷ []) ++ r) q (sym (ap (λ l. l ++ r) (append_assoc (in_quotes c) (all_in_quotes cs) (34 ∷ [])) ∙ append_assoc (in_quotes c) (all_in_quotes cs ++ 34 ∷ []) r) ∙ e))
same_string (c ∷ cs) (d ∷ ds) r q e =
    let f : in_quotes c ++ ((all_in_quotes cs ++ 34 ∷ []) ++ r) ≡ in_quotes d ++ ((all_in_quotes ds ++ 34 ∷ []) ++ q) =
    sym (ap (λ l. l ++ r) (append_assoc (in_quotes c) (all_in_quotes cs) (34 ∷ [])) ∙ append_assoc (in_quotes c) (all_in_quotes cs ++ 34 ∷ []) r) ∙ e
    ∙ (ap (λ l. l ++ q) (append_assoc (in_quotes d) (all_in_quotes ds) (34 ∷ [])) ∙ append_assoc (in_quotes d) (all_in_quotes ds ++ 34 ∷ []) q) in
    let same : c ≡ d = escaped_one c d ((all_in_quotes cs ++ 34 ∷ []) ++ r) ((all_in_quotes ds ++ 34 ∷ []) ++ q) f in
    let g = append_cancel_left (in_quotes d) ((all_in_quotes cs ++ 34 ∷ []) ++ r) ((all_in_quotes ds ++ 34 ∷ []) ++ q) (ap (λ x. in_quotes x ++ ((all_in_quotes cs ++ 34 ∷ []) ++ r)) (sym same) ∙ f) in
    let more = same_string cs ds r q g in
    cc
