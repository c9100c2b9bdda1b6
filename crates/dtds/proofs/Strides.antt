-- One byte after the other. Assumes nothing.
use Rattle.std.specs.Prelude.{Some, None}
use Rattle.std.proofs.lemmas.Option.{none-some, same_Some}
use mathlib.Core.Path.{◌≡◌, sym, ◌∙◌, subst}
use mathlib.Core.Bool.{true}
use mathlib.Core.List.{List}
use Prim.Native.Nat.{ℕ, suc, ◌+◌, ◌≤◌, ◌<◌}
use native.Mathlib.Omega.{arith}
use native.Mathlib.Numerals.{add-one}
use lib.ListN.{length, get_or, drop}
use lib.Seq.{drop-cons}
use Rattle.declaring.specs.Declares.{DeclaredAs, refused}
use Rattle.scans.specs.declared.Scan.{Scan}
use Rattle.scans.specs.Scans.{ReadUpTo, InText, ByteRead, onward, halted, ByteIs, BetweenIs}

module _ (text : List ℕ) (at : ℕ) (s : Scan) (nb ne tb te productions nodes : List ℕ) where
  pub next_byte : at < length text → ReadUpTo text at s nb ne tb te productions nodes → InText text at (get_or text at 0) s nb ne tb te productions nodes
  next_byte h k = record { up_to_lem = k; rest = drop (suc at) text; next = drop-cons text at 0 h }

  pub between_byte : (r : Scan) → at < length text → ReadUpTo text at s nb ne tb te productions nodes → s.out ≡ true → BetweenIs text at (get_or text at 0) s r → ByteIs text at nb ne tb te productions nodes r
  between_byte r h k o b = record { rooms = k.rooms; read = b.is nb ne tb te productions nodes (next_byte h k) o }

  pub byte_halted : (area : List ℕ) → ByteIs text at nb ne tb te productions nodes s → (n : ℕ) → s.halt ≡ Some n → DeclaredAs text area n at area
  byte_halted area b n e = on b.read
    where
      on : ByteRead text at nb ne tb te productions nodes s → DeclaredAs text area n at area
      on (onward h) = absurd (none-some n (sym h.going ∙ e))
      on (halted k f m) = subst (λ (j : ℕ). DeclaredAs text area j at area) (same_Some k n (sym f ∙ e)) (refused m)

  pub byte_onward : ByteIs text at nb ne tb te productions nodes s → s.halt ≡ None → ReadUpTo text (at + 1) s nb ne tb te productions nodes
  byte_onward b n = on b.read
    where
      on : ByteRead text at nb ne tb te productions nodes s → ReadUpTo text (at + 1) s nb ne tb te productions nodes
      on (onward h) = subst (λ (k : ℕ). ReadUpTo text k s nb ne tb te productions nodes) (sym (add-one at)) h
      on (halted k f m) = absurd (none-some k (sym n ∙ f))

  pub at_end : length text ≤ at → ReadUpTo text at s nb ne tb te productions nodes → ReadUpTo text (length text) s nb ne tb te productions nodes
  at_end h k = let e : at ≡ length text = omega (arith, h, k.inside) in subst (λ (n : ℕ). ReadUpTo text n s nb ne tb te productions nodes) e k
