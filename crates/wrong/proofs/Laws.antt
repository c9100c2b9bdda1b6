-- Laws of what is read of a sheet that has failed.
-- Assumes nothing.
use Prim.Native.Nat.{ℕ, suc, ◌+◌, ◌*◌, ◌≤◌, ◌<◌}
use native.Mathlib.Numerals.{add-one}
use native.Mathlib.Omega.{arith}
use mathlib.Core.Path.{◌≡◌, sym, ap, ◌∙◌}
use mathlib.Core.Bool.{true, false}
use mathlib.Core.List.{List}
use lib.ListN.{length, get_or-eq_default}
use Rattle.tells.specs.Tells.{Tells, holds, fails}
use Rattle.layout.specs.Layout.{byte_at, word_at, Size}
use Rattle.layout.specs.Records.{production_at, nonterminal_of}
use Rattle.sheet.specs.Grounded.{Produced}
use Rattle.wrong.specs.Read.{ByteAsRead, WordAsRead, TrailerAt, FieldAsRead, RecordIs}

pub byte_past : (s : List ℕ) (i : ℕ) → length s ≤ i → 0 ≡ byte_at s i
byte_past s i h = sym (get_or-eq_default s 0 {n = i} h)

pub word_is : (s : List ℕ) (i a b : ℕ) → ByteAsRead s i a → ByteAsRead s (i + 1) b → WordAsRead s i (a + 256 * b)
word_is s i a b low high =
    let next : byte_at s (i + 1) ≡ byte_at s (suc i) = ap (byte_at s) (add-one i) in
    record { small = omega (arith, low.small, high.small); same = omega (arith, low.same, high.same) }

pub field_is : (s : List ℕ) (k start r : ℕ) → TrailerAt s start → WordAsRead s (start + 2 * k) r → FieldAsRead s k r
field_is s k start r at is = record { small = is.small; same = λ size. is.same ∙ ap (λ i. word_at s (i + 2 * k)) (at.same size) }

pub record_is : (s : List ℕ) (q offset : ℕ) → q < 65536 → FieldAsRead s 2 offset → RecordIs s q (offset + 12 * q)
record_is s q offset few is = record { small = omega (arith, is.small); same = λ size. ap (λ i. i + 12 * q) (is.same size) }

pub its_nonterminal : (s : List ℕ) (q at r : ℕ) → RecordIs s q at → ByteAsRead s at r → Size s → nonterminal_of s q ≡ r
its_nonterminal s q at r is byte size =
    let there : production_at s q + 0 ≡ at = omega (arith, is.same size) in
    ap (byte_at s) there ∙ sym byte.same

pub is_produced_lem : (s : List ℕ) (n q at r count : ℕ) → RecordIs s q at → ByteAsRead s at r → FieldAsRead s 3 count → q < count → r ≡ n → Size s → Tells (Produced s n) true
is_produced_lem s n q at r count is byte field below e size =
    holds record { number = q; there = omega (arith, field.same size); its = its_nonterminal s q at r is byte size ∙ e }

pub not_produced : (s : List ℕ) (n q count : ℕ) → FieldAsRead s 3 count → count ≤ q → ((k : ℕ) → k < q → Size s → nonterminal_of s k ≡ n → ⊥) → Size s → Tells (Produced s n) false
not_produced s n q count field all none size = fails (λ p. none p.number (omega (arith, p.there, field.same size)) size p.its)
