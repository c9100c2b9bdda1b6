-- Strings kept one after another: nothing is due; what is due is kept in two parts; or its first part does not fit, and then all of it does not.
-- Assumes nothing.
use mathlib.Core.Path.{◌≡◌, refl, sym, ap, ◌∙◌, subst}
use mathlib.Core.Logic.{inl, inr}
use Rattle.std.specs.Prelude.{Option, Some, None, IfSome}
use mathlib.Core.List.{List, [], ◌∷◌, ◌++◌, append-nil, append_assoc}
use Prim.Native.Nat.{ℕ, ◌+◌, ◌≤◌}
use native.Mathlib.Omega.{arith}
use lib.ListN.{length, length-append}
use Rattle.encoding.specs.Distinct.{distinct, added, run_together}
use Rattle.stores.specs.Rows.{ends_from, RowsIn, HasRows}
use Rattle.stores.specs.Filed.{FiledAs, FiledIs}
use Rattle.stores.specs.Mentioned.{TooManyFor, MentionedAs}
use Rattle.stores.specs.declared.Filed.{Filed}
use Rattle.stores.proofs.Behind.{together}
use Rattle.stores.proofs.Grows.{grows_behind}
use Rattle.stores.proofs.Mentioning.{stores_mentions}
use Rattle.gleans.specs.Gleans.{StoredIf, KeptAs}

-- as many as have an end
ends_many : (at : ℕ) (l : List (List ℕ)) → length (ends_from at l) ≡ length l
ends_many at [] = refl
ends_many at (x ∷ l) = omega (arith, ends_many (at + length x) l)

pub rows_few : (bytes ends : List ℕ) (count : ℕ) → HasRows bytes ends count → count ≤ length ends
rows_few bytes ends count h =
    omega (arith, h.are.number, ap length h.are.ends_are, length-append (ends_from 0 h.rows) h.are.free_ends, ends_many 0 h.rows)

-- with more of them still less
pub more_too_many : (l more : List (List ℕ)) (bytes ends : List ℕ) → TooManyFor (distinct l) bytes ends → TooManyFor (distinct (l ++ more)) bytes ends
more_too_many l more bytes ends t = subst (λ (z : List (List ℕ)). TooManyFor z bytes ends) (sym (grows_behind l more)) (on t)
  where
    on : TooManyFor (distinct l) bytes ends → TooManyFor (distinct l ++ added (distinct l) more) bytes ends
    on (inl k) = inl (omega (arith, k, ap length (together (distinct l) (added (distinct l) more)), length-append (run_together (distinct l)) (run_together (added (distinct l) more))))
    on (inr k) = inr (omega (arith, k, length-append (distinct l) (added (distinct l) more)))

-- what is due, in two parts
pub record Parts (First Second : List (List ℕ) → Type 0) (m : List (List ℕ)) : Type 0 where
  pub front : List (List ℕ)
  pub back : List (List ℕ)
  pub front_due : First front
  pub back_due : Second back
  pub is : m ≡ front ++ back

-- whatever it is
abbrev pub Any : List (List ℕ) → Type 0
Any m = Unit {0}

module _ (Due : List (List ℕ) → Type 0) (bytes ends : List ℕ) (count : ℕ) where
  pub kept_nothing : HasRows bytes ends count → ((m : List (List ℕ)) → Due m → m ≡ []) → KeptAs Due bytes ends count (Some count) bytes ends
  kept_nothing h f =
      record {
        same_bytes = refl;
        same_ends = refl;
        rows = h;
        right = λ m u l R. subst (λ (x : List (List ℕ)). RowsIn bytes ends count (distinct (l ++ x))) (sym (f m u)) (subst (λ (x : List (List ℕ)). RowsIn bytes ends count (distinct x)) (sym (append-nil l)) R);
      }

  pub kept_as : (Other : List (List ℕ) → Type 0) (r : Option ℕ) (bytes_after ends_after : List ℕ) → ((m : List (List ℕ)) → Due m → Other m) → KeptAs Other bytes ends count r bytes_after ends_after → KeptAs Due bytes ends count r bytes_after ends_after
  kept_as Other r b e f K = record { same_bytes = K.same_bytes; same_ends = K.same_ends; rows = K.rows; right = λ m u l R. K.right m (f m u) l R }

  -- what is said of an answer is said of what the answer is found to be
  pub kept_is : (r found : Option ℕ) (b e : List ℕ) → r ≡ found → KeptAs Due bytes ends count r b e → KeptAs Due bytes ends count found b e
  kept_is r found b e z K = subst (λ (v : Option ℕ). KeptAs Due bytes ends count v b e) z K

  module _ (First : List (List ℕ) → Type 0) (b e : List ℕ) where
    pub kept_stop : (r : Option ℕ) → r ≡ None → KeptAs First bytes ends count None b e → ((m : List (List ℕ)) → Due m → Parts First Any m) → KeptAs Due bytes ends count r b e
    kept_stop r z K f = subst (λ (v : Option ℕ). KeptAs Due bytes ends count v b e) (sym z) (record { same_bytes = K.same_bytes; same_ends = K.same_ends; rows = tt; right = go })
      where
        go : (m : List (List ℕ)) → Due m → (l : List (List ℕ)) → RowsIn bytes ends count (distinct l) → TooManyFor (distinct (l ++ m)) b e
        go m u l R =
            let p = f m u in
            let more = more_too_many (l ++ p.front) p.back b e (K.right p.front p.front_due l R) in
            let all : (l ++ p.front) ++ p.back ≡ l ++ m = append_assoc l p.front p.back ∙ ap (λ (x : List (List ℕ)). l ++ x) (sym p.is) in
            subst (λ (x : List (List ℕ)). TooManyFor (distinct x) b e) all more

    pub kept_then : (Second : List (List ℕ) → Type 0) (n : ℕ) (q : Option ℕ) (b' e' : List ℕ) → KeptAs First bytes ends count (Some n) b e → KeptAs Second b e n q b' e' → ((m : List (List ℕ)) → Due m → Parts First Second m)
        → KeptAs Due bytes ends count q b' e'
    kept_then Second n q b' e' K Q f = record { same_bytes = Q.same_bytes ∙ K.same_bytes; same_ends = Q.same_ends ∙ K.same_ends; rows = Q.rows; right = go }
      where
        go : (m : List (List ℕ)) → Due m → (l : List (List ℕ)) → RowsIn bytes ends count (distinct l) → StoredIf q (distinct (l ++ m)) b' e'
        go m u l R =
            let p = f m u in
            let all : (l ++ p.front) ++ p.back ≡ l ++ m = append_assoc l p.front p.back ∙ ap (λ (x : List (List ℕ)). l ++ x) (sym p.is) in
            subst (λ (x : List (List ℕ)). StoredIf q (distinct x) b' e') all (Q.right p.back p.back_due (l ++ p.front) (K.right p.front p.front_due l R))

-- ---- a row
abbrev pub kept_of : Filed → ℕ → Option ℕ
kept_of (Filed.There p o) n = Some n
kept_of (Filed.Added p o) n = Some (n + 1)
kept_of Filed.Full n = None

module _ (bytes ends : List ℕ) (count : ℕ) (x b e : List ℕ) where
  still_rows : (r : Filed) (l : List (List ℕ)) → RowsIn bytes ends count l → FiledAs l x bytes ends count b e r → IfSome (kept_of r count) (HasRows b e)
  still_rows (Filed.There p o) l R (t, s) = record {
    rows = l;
    are = subst (λ (y : List ℕ). RowsIn y e count l) (sym s.same_bytes) (subst (λ (y : List ℕ). RowsIn bytes y count l) (sym s.same_ends) R);
  }
  still_rows (Filed.Added p o) l R a = record { rows = l ++ x ∷ []; are = a.rows }
  still_rows Filed.Full l R f = tt

  stored : (r : Filed) (l : List (List ℕ)) → MentionedAs l x count b e r → StoredIf (kept_of r count) (distinct (l ++ x ∷ [])) b e
  stored (Filed.There p o) l m = m.rows
  stored (Filed.Added p o) l m = m.rows
  stored Filed.Full l m = m

  pub row_kept : (Due : List (List ℕ) → Type 0) (r : Filed) → HasRows bytes ends count → FiledIs bytes ends count x b e r → length b ≡ length bytes → length e ≡ length ends
      → ((m : List (List ℕ)) → Due m → m ≡ x ∷ []) → KeptAs Due bytes ends count (kept_of r count) b e
  row_kept Due r h F lb le f =
      record {
        same_bytes = lb;
        same_ends = le;
        rows = still_rows r h.rows h.are (F.is h.rows h.are);
        right = λ m u l R. subst (λ (y : List (List ℕ)). StoredIf (kept_of r count) (distinct (l ++ y)) b e) (sym (f m u)) (stored r l (stores_mentions l x bytes ends count b e r R F));
      }
