-- A store has one list of rows, and after each mention it has all that was mentioned. Assumes nothing.
use mathlib.Core.Path.{◌≡◌, refl, sym, ap, ap₂, subst, ◌∙◌}
use mathlib.Core.Logic.{◌⊎◌, inl, inr}
use mathlib.Core.Bool.{Bool, true, false, cond}
use mathlib.Core.List.{List, [], ◌∷◌, ◌++◌, append-nil, append_assoc}
use Prim.Native.Nat.{ℕ, ◌+◌, ◌≤◌, ◌<◌}
use native.Mathlib.Omega.{arith}
use lib.ListN.{length, take, drop, get_or, length-append}
use lib.Seq.{take-append_seam, drop-append_seam}
use Rattle.encoding.specs.Distinct.{has, distinct, place_of, offset_of, run_together}
use Rattle.stores.specs.declared.Filed.{Filed}
use Rattle.stores.specs.Rows.{ends_from, RowsIn}
use Rattle.stores.specs.Filed.{FiledAs}
use Rattle.stores.specs.Mentioned.{TooManyFor, MentionedAs}
use Rattle.stores.specs.Promises.{OneStore, EmptyStore, StoresMentions}
use Rattle.stores.proofs.Behind.{together}
use Rattle.stores.proofs.Grows.{grows_by_one}

same_rows : (at : ℕ) (l m : List (List ℕ)) (f g u v : List ℕ) → run_together l ++ f ≡ run_together m ++ g → ends_from at l ++ u ≡ ends_from at m ++ v → length l ≡ length m → l ≡ m
same_rows at [] [] f g u v b e n = refl
same_rows at [] (z ∷ m) f g u v b e n = absurd (omega arith)
same_rows at (y ∷ l) [] f g u v b e n = absurd (omega arith)
same_rows at (y ∷ l) (z ∷ m) f g u v b e n =
    let long : length y ≡ length z = omega (arith, ap (λ (w : List ℕ). get_or w 0 0) e) in
    let both : y ++ (run_together l ++ f) ≡ z ++ (run_together m ++ g) = sym (append_assoc y (run_together l) f) ∙ b ∙ append_assoc z (run_together m) g in
    let first : y ≡ z = sym (take-append_seam y (run_together l ++ f)) ∙ ap₂ (λ (k : ℕ) (w : List ℕ). take k w) long both ∙ take-append_seam z (run_together m ++ g) in
    let rest : run_together l ++ f ≡ run_together m ++ g = sym (drop-append_seam y (run_together l ++ f)) ∙ ap₂ (λ (k : ℕ) (w : List ℕ). drop k w) long both ∙ drop-append_seam z (run_together m ++ g) in
    let ends : ends_from (at + length y) l ++ u ≡ ends_from (at + length y) m ++ v = ap (drop 1) e ∙ ap (λ (k : ℕ). ends_from (at + k) m ++ v) (sym long) in
    ap₂ (λ (a : List ℕ) (w : List (List ℕ)). a ∷ w) first (same_rows (at + length y) l m f g u v rest ends (omega arith))

pub one_store : OneStore
one_store bytes ends count l m h k =
    same_rows 0 l m h.free_bytes k.free_bytes h.free_ends k.free_ends (sym h.bytes_are ∙ k.bytes_are) (sym h.ends_are ∙ k.ends_are) (sym h.number ∙ k.number)

pub empty_store : EmptyStore
empty_store bytes ends = record { free_bytes = bytes; bytes_are = refl; free_ends = ends; ends_are = refl; number = refl; different = tt }

module _ (l : List (List ℕ)) (x : List ℕ) where
  as_before : has (distinct l) x ≡ true → distinct l ≡ distinct (l ++ x ∷ [])
  as_before e = sym (grows_by_one l x ∙ ap (λ (b : Bool). cond b (distinct l) (distinct l ++ x ∷ [])) e)

  one_more : has (distinct l) x ≡ false → distinct l ++ x ∷ [] ≡ distinct (l ++ x ∷ [])
  one_more e = sym (grows_by_one l x ∙ ap (λ (b : Bool). cond b (distinct l) (distinct l ++ x ∷ [])) e)

  longer : length (run_together (distinct l ++ x ∷ [])) ≡ length (run_together (distinct l)) + length x
  longer =
      ap length (together (distinct l) (x ∷ []) ∙ ap (λ (z : List ℕ). run_together (distinct l) ++ z) (append-nil x)) ∙ length-append (run_together (distinct l)) x

  module _ (bytes ends : List ℕ) (count : ℕ) (h : RowsIn bytes ends count (distinct l)) where
    stored_as : (bytes_after ends_after : List ℕ) (r : Filed) → FiledAs (distinct l) x bytes ends count bytes_after ends_after r → MentionedAs l x count bytes_after ends_after r
    stored_as b e (Filed.There p o) (t, s) =
        let is = as_before t.had in
        record {
          rows = subst (λ (z : List ℕ). RowsIn z e count (distinct (l ++ x ∷ []))) (sym s.same_bytes)
              (subst (λ (z : List ℕ). RowsIn bytes z count (distinct (l ++ x ∷ []))) (sym s.same_ends) (subst (λ (z : List (List ℕ)). RowsIn bytes ends count z) is h));
          place_is = t.place_is ∙ ap (λ (z : List (List ℕ)). place_of z x) is;
          offset_is = t.offset_is ∙ ap (λ (z : List (List ℕ)). offset_of z x) is;
        }
    stored_as b e (Filed.Added p o) a =
        let is = one_more a.new in
        record {
          rows = subst (λ (z : List (List ℕ)). RowsIn b e (count + 1) z) is a.rows;
          place_is = a.place_is ∙ ap (λ (z : List (List ℕ)). place_of z x) is;
          offset_is = a.offset_is ∙ ap (λ (z : List (List ℕ)). offset_of z x) is;
        }
    stored_as b e Filed.Full (f, s) = subst (λ (z : List (List ℕ)). TooManyFor z b e) (one_more f.new) (too_many f.no_room)
      where
        too_many : (length bytes < length (run_together (distinct l)) + length x) ⊎ (length ends ≤ count) → TooManyFor (distinct l ++ x ∷ []) b e
        too_many (inl k) = inl (omega (arith, longer, k, ap length s.same_bytes))
        too_many (inr k) = inr (omega (arith, length-append (distinct l) (x ∷ []), k, h.number, ap length s.same_ends))

pub stores_mentions : StoresMentions
stores_mentions l x bytes ends count b e r h f = stored_as l x bytes ends count h b e r (f.is (distinct l) h)
