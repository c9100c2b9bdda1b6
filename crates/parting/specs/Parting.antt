-- Where two bracket strings first part: at a star, which may go round or end, or at a union, which may go left or right.
-- Assumes nothing.
use Rattle.std.specs.Prelude.{◌≡◌, List, ◌∷◌, ◌++◌, ℕ, suc, ◌+◌}
use Rattle.expressions.specs.Expr.{Exp, cat, alt, star, nodes, Content, nothing, tree}
use Rattle.expressions.specs.Words.{Bracket, opening, closing}

-- bracket n is that of f, a part of the expression whose first bracket is i
pub data Node : Exp → ℕ → ℕ → Exp → Type 0 where
  itself : {e : Exp} {i : ℕ} → Node e i i e
  cat_left : {l r f : Exp} {i n : ℕ} → Node l (suc i) n f → Node (cat l r) i n f
  cat_right : {l r f : Exp} {i n : ℕ} → Node r (suc i + nodes l) n f → Node (cat l r) i n f
  alt_left : {l r f : Exp} {i n : ℕ} → Node l (suc i) n f → Node (alt l r) i n f
  alt_right : {l r f : Exp} {i n : ℕ} → Node r (suc i + nodes l) n f → Node (alt l r) i n f
  star_part : {e f : Exp} {i n : ℕ} → Node e (suc i) n f → Node (star e) i n f

-- at sign n one string has the first bracket next and the other the second: a star goes round or ends, a union goes left or right
pub data PartingSign (e : Exp) (i n : ℕ) : Bracket → Bracket → Type 0 where
  round_or_end : {f : Exp} → Node e i n (star f) → PartingSign e i n (opening (suc n)) (closing n)
  end_or_round : {f : Exp} → Node e i n (star f) → PartingSign e i n (closing n) (opening (suc n))
  left_or_right : {l r : Exp} → Node e i n (alt l r) → PartingSign e i n (opening (suc n)) (opening (suc n + nodes l))
  right_or_left : {l r : Exp} → Node e i n (alt l r) → PartingSign e i n (opening (suc n + nodes l)) (opening (suc n))

abbrev pub PartingSignOf : Content → ℕ → Bracket → Bracket → Type 0
PartingSignOf nothing n c d = ⊥
PartingSignOf (tree e) n c d = PartingSign e 1 n c d

-- the two strings are the same up to sign n, and part there
pub record PartAt (e : Content) (n : ℕ) (α β : List Bracket) : Type 0 where
  pub shared : List Bracket
  pub first_next : Bracket
  pub second_next : Bracket
  pub first_rest : List Bracket
  pub second_rest : List Bracket
  pub first_is : α ≡ shared ++ first_next ∷ first_rest
  pub second_is : β ≡ shared ++ second_next ∷ second_rest
  pub sign : PartingSignOf e n first_next second_next
