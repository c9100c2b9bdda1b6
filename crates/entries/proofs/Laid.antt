-- Nodes put as records, a pair of bytes after the other. Assumes nothing.
use mathlib.Core.Path.{◌≡◌, refl, sym, ◌∙◌, ap}
use mathlib.Core.Bool.{true}
use mathlib.Core.List.{List, [], ◌∷◌, ◌++◌}
use Prim.Native.Nat.{ℕ, ◌<◌}
use native.Mathlib.Omega.{arith}
use lib.ListN.{length, get_or}
use Rattle.lent.specs.Put.{PutAs}
use Rattle.lent.proofs.Laws.{nothing_put}
use Rattle.output.proofs.Writing.{put_then, same_bytes}
use Rattle.declaring.specs.Sections.{node_records}

-- the pairs of `rest` are left to put, from n on
abbrev pub PairsLeft : List ℕ → ℕ → List ℕ → List ℕ → ℕ → List ℕ → Type 0
PairsLeft memory at pairs rest n now = (after : List ℕ) (r : ℕ) → PutAs true now n (node_records rest) after r → PutAs true memory at (node_records pairs) after r

abbrev pub record_of : ℕ → ℕ → List ℕ
record_of kind argument = kind ∷ argument ∷ 255 ∷ 255 ∷ 255 ∷ 255 ∷ []

two_of : (x : List ℕ) → length x ≡ 2 → x ≡ get_or x 0 0 ∷ get_or x 1 0 ∷ []
two_of [] h = absurd (omega arith)
two_of (a ∷ []) h = absurd (omega arith)
two_of (a ∷ b ∷ []) h = refl
two_of (a ∷ b ∷ c ∷ x) h = absurd (omega arith)

module _ (memory : List ℕ) (at : ℕ) (pairs : List ℕ) where
  pub pairs_first : PairsLeft memory at pairs pairs at memory
  pairs_first after r p = p

  pub pair_put : (rest x rest' : List ℕ) (n n' : ℕ) (now now' : List ℕ) → rest ≡ x ++ rest' → length x ≡ 2 → PairsLeft memory at pairs rest n now → PutAs true now n (record_of (get_or x 0 0) (get_or x 1 0)) now' n'
      → PairsLeft memory at pairs rest' n' now'
  pair_put rest x rest' n n' now now' e two left p after r q =
      left after r
      (same_bytes true now n (record_of (get_or x 0 0) (get_or x 1 0) ++ node_records rest') (node_records rest) after r (sym (ap node_records (e ∙ ap (λ (z : List ℕ). z ++ rest') (two_of x two))))
      (put_then true now n (record_of (get_or x 0 0) (get_or x 1 0)) (node_records rest') now' after n' r p q))

  short_none : (l : List ℕ) → length l < 2 → node_records l ≡ []
  short_none [] h = refl
  short_none (a ∷ []) h = refl
  short_none (a ∷ b ∷ l) h = absurd (omega arith)

  pub pairs_put : (rest : List ℕ) (n : ℕ) (now : List ℕ) → length rest < 2 → PairsLeft memory at pairs rest n now → PutAs true memory at (node_records pairs) now n
  pairs_put rest n now h left = left now n (same_bytes true now n [] (node_records rest) now n (sym (short_none rest h)) (nothing_put true now n))
