-- What the writer and the reader of declarations answer fits one byte, and of calls with one answer a host is told one number.
-- Assumes nothing.
use mathlib.Core.Path.{◌≡◌, ap, sym, ◌∙◌}
use mathlib.Core.Logic.{◌⊎◌, inl, inr}
use mathlib.Core.List.{List}
use Prim.Native.Nat.{ℕ, ◌+◌, ◌*◌, ◌%◌, ◌≤◌, ◌<◌}
use native.Mathlib.Omega.{arith}
use Rattle.writing.specs.Written.{WrittenAs, no_rules, too_many, too_short, written}
use Rattle.declaring.specs.Declares.{DeclaredAs}
use Rattle.declaring.proofs.Answers.{numbers_declared}
use Rattle.capi.specs.Counted.{counts, CountedAs, OneCounted}

pub small_written : {text area : List ℕ} {n k : ℕ} {x : List ℕ} → WrittenAs text area n k x → n < 256
small_written (no_rules b) = omega arith
small_written (too_many r t h b) = omega arith
small_written (too_short r t h l) = omega arith
small_written (written r t h l) = omega arith

pub small_declared : {text area : List ℕ} {n k : ℕ} {x : List ℕ} → DeclaredAs text area n k x → n < 256
small_declared {text} {area} {n} {k} {x} h = on (numbers_declared text area n k x h)
  where
    on : (n ≡ 0) ⊎ ((n ≡ 43) ⊎ ((50 ≤ n) × (n ≤ 56))) → n < 256
    on (inl e) = omega (arith, e)
    on (inr (inl e)) = omega (arith, e)
    on (inr (inr e)) = omega (arith, e.1)

packed_as : (m n j k : ℕ) → m ≡ n → j ≡ k → 256 * (j % counts) + m ≡ 256 * (k % counts) + n
packed_as m n j k e f = ap (λ (i : ℕ). 256 * (j % counts) + i) e ∙ ap (λ (i : ℕ). 256 * (i % counts) + n) f

pub one_counted : OneCounted
one_counted Answers one x y v w p q =
    let o = one p.number q.number p.count q.count x y p.answers q.answers in
    (o.2, p.packed ∙ (packed_as p.number q.number p.count q.count o.0 o.1 ∙ sym q.packed))
