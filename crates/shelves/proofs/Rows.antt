-- A row filed in one store. Assumes nothing.
use mathlib.Core.Path.{◌≡◌, refl, sym, ap, subst}
use Rattle.std.specs.Prelude.{Some, None}
use mathlib.Core.Bool.{true}
use mathlib.Core.List.{List, [], ◌∷◌, ◌++◌}
use Prim.Native.Nat.{ℕ, ◌+◌, ◌≤◌}
use native.Mathlib.Omega.{arith}
use lib.ListN.{length, length-append}
use Rattle.encoding.specs.Distinct.{has, distinct, run_together}
use Rattle.encoding.proofs.Stored.{AllHad, distinct_all, place_below, lies}
use Rattle.stores.specs.declared.Filed.{Filed}
use Rattle.stores.specs.Rows.{ends_from, RowsIn, HasRows}
use Rattle.stores.specs.Filed.{FiledIs, SameStore}
use Rattle.stores.specs.Mentioned.{MentionStored}
use Rattle.stores.proofs.Mentioning.{stores_mentions}
use Rattle.shelves.specs.declared.Filing.{Filing}
use Rattle.shelves.specs.Shelves.{StoredAs, FilingIs}

abbrev pub filing : ℕ → ℕ → ℕ → Filing
filing n p o = record { count = n; place = p; offset = o }

ends_number : (at : ℕ) (l : List (List ℕ)) → length (ends_from at l) ≡ length l
ends_number at [] = refl
ends_number at (y ∷ l) = omega (arith, ends_number (at + length y) l)

pub rows_fit : (b e : List ℕ) (n : ℕ) (l : List (List ℕ)) → RowsIn b e n l → (length l ≤ length e) × (length (run_together l) ≤ length b)
rows_fit b e n l h =
    (omega (arith, ends_number 0 l, ap length h.ends_are, length-append (ends_from 0 l) h.free_ends), omega (arith, ap length h.bytes_are, length-append (run_together l) h.free_bytes))

all_last : (d l : List (List ℕ)) (x : List ℕ) → AllHad d (l ++ x ∷ []) → has d x ≡ true
all_last d [] x h = h.0
all_last d (y ∷ l) x h = all_last d l x h.1

-- the last one mentioned is there
pub last_had : (l : List (List ℕ)) (x : List ℕ) → has (distinct (l ++ x ∷ [])) x ≡ true
last_had l x = all_last (distinct (l ++ x ∷ [])) l x (distinct_all (l ++ x ∷ []))

stored_as : (l : List (List ℕ)) (x b e : List ℕ) (n p o : ℕ) → MentionStored (l ++ x ∷ []) x b e n p o → StoredAs l x b e (filing n p o)
stored_as l x b e n p o m =
    let d : List (List ℕ) = distinct (l ++ x ∷ []) in
    let f = rows_fit b e n d m.rows in
    record {
      rows = m.rows;
      place_is = m.place_is;
      offset_is = m.offset_is;
      low = omega (arith, m.place_is, place_below d x (last_had l x), f.0);
      inside = omega (arith, m.offset_is, (lies d x (last_had l x)).inside, f.1);
    }

module _ (bytes ends : List ℕ) (count : ℕ) (x b e : List ℕ) (h : HasRows bytes ends count) (lb : length b ≡ length bytes) (le : length e ≡ length ends) where
  -- a store that stays as it was has its rows
  still : SameStore bytes ends b e → HasRows b e count
  still s = subst (λ (z : List ℕ). HasRows z e count) (sym s.same_bytes) (subst (λ (z : List ℕ). HasRows bytes z count) (sym s.same_ends) h)

  pub shelved_there : (a : Filed) (p o : ℕ) → a ≡ Filed.There p o → FiledIs bytes ends count x b e a → FilingIs bytes ends count x b e (Some (filing count p o))
  shelved_there a p o k f' =
      let f = subst (FiledIs bytes ends count x b e) k f' in
      let s = (f.is h.rows h.are).1 in
      record {
        long_bytes = lb;
        long_ends = le;
        has_rows = still s;
        is = λ l i. stored_as l x b e count p o (stores_mentions l x bytes ends count b e (Filed.There p o) i f);
      }

  pub shelved_added : (a : Filed) (p o : ℕ) → a ≡ Filed.Added p o → FiledIs bytes ends count x b e a → FilingIs bytes ends count x b e (Some (filing (count + 1) p o))
  shelved_added a p o k f' =
      let f = subst (FiledIs bytes ends count x b e) k f' in
      record {
        long_bytes = lb;
        long_ends = le;
        has_rows = record { rows = h.rows ++ x ∷ []; are = (f.is h.rows h.are).rows };
        is = λ l i. stored_as l x b e (count + 1) p o (stores_mentions l x bytes ends count b e (Filed.Added p o) i f);
      }

  pub shelved_full : (a : Filed) → a ≡ Filed.Full → FiledIs bytes ends count x b e a → FilingIs bytes ends count x b e None
  shelved_full a k f' =
      let f = subst (FiledIs bytes ends count x b e) k f' in
      record { long_bytes = lb; long_ends = le; has_rows = still (f.is h.rows h.are).1; is = λ l i. stores_mentions l x bytes ends count b e Filed.Full i f }
