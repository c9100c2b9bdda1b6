-- A row looked for among those that are left: a row that is not it is passed, and place and offset are those of the whole store. Assumes nothing.
use mathlib.Core.Path.{◌≡◌, sym, ap, ap₂, ◌∙◌}
use mathlib.Core.Bool.{Bool, true, false, cond}
use mathlib.Core.List.{List, [], ◌∷◌, ◌++◌, append_assoc}
use Prim.Native.Nat.{ℕ, suc, ◌+◌, ◌-◌, ◌≤◌, ◌<◌}
use native.Mathlib.Omega.{arith}
use lib.Dec.{eqb}
use lib.ListN.{length, get_or, take, drop, length-append, length-drop}
use lib.Seq.{take-append_seam, drop-append_seam, get_or-drop, drop-drop}
use Rattle.std.specs.Cmp.Lexicographic.{pointwise}
use Rattle.encoding.specs.Distinct.{equal, place_of, offset_of, run_together}
use Rattle.stores.proofs.Compared.{pointwise_equal}
use Rattle.stores.specs.Rows.{ends_from, RowsIn, HasRows}
use Rattle.stores.specs.Filed.{SeatIs}

-- of the rows l those from number i on are left, and they lie from `from` on
pub record Left (bytes ends : List ℕ) (count : ℕ) (x : List ℕ) (i from : ℕ) (l : List (List ℕ)) : Type 0 where
  pub back : List (List ℕ)
  pub free_bytes : List ℕ
  pub free_ends : List ℕ
  pub bytes_left : drop from bytes ≡ run_together back ++ free_bytes
  pub ends_left : drop i ends ≡ ends_from from back ++ free_ends
  pub inside : from ≤ length bytes
  pub number : count ≡ i + length back
  pub place_is : place_of l x ≡ i + place_of back x
  pub offset_is : offset_of l x ≡ from + offset_of back x

-- where a row ends that starts at `from`
pub record NextEnd (bytes : List ℕ) (from to : ℕ) : Type 0 where
  pub low : from ≤ to
  pub high : to ≤ length bytes

module _ (bytes ends : List ℕ) (count : ℕ) (x : List ℕ) where
  pub all_left : (l : List (List ℕ)) → RowsIn bytes ends count l → Left bytes ends count x 0 0 l
  all_left l h =
      record {
        back = l;
        free_bytes = h.free_bytes;
        free_ends = h.free_ends;
        bytes_left = h.bytes_are;
        ends_left = h.ends_are;
        inside = omega arith;
        number = omega (arith, h.number);
        place_is = omega arith;
        offset_is = omega arith;
      }

  -- the next row, and the rows behind it
  record Ahead (i from : ℕ) (l : List (List ℕ)) : Type 0 where
    row : List ℕ
    back : List (List ℕ)
    free_bytes : List ℕ
    free_ends : List ℕ
    bytes_left : drop from bytes ≡ (row ++ run_together back) ++ free_bytes
    ends_left : drop i ends ≡ (from + length row) ∷ (ends_from (from + length row) back ++ free_ends)
    inside : from ≤ length bytes
    number : count ≡ i + suc (length back)
    place_is : place_of l x ≡ i + cond (equal x row) 0 (suc (place_of back x))
    offset_is : offset_of l x ≡ from + cond (equal x row) 0 (length row + offset_of back x)

  module _ (i from : ℕ) (l : List (List ℕ)) where
    ahead_of : (back : List (List ℕ)) (free later : List ℕ) → drop from bytes ≡ run_together back ++ free → drop i ends ≡ ends_from from back ++ later → from ≤ length bytes → count ≡ i + length back →
        place_of l x ≡ i + place_of back x → offset_of l x ≡ from + offset_of back x → i < count → Ahead i from l
    ahead_of [] free later b e inside n p o s = absurd (omega arith)
    ahead_of (y ∷ back) free later b e inside n p o s =
        record { row = y; back = back; free_bytes = free; free_ends = later; bytes_left = b; ends_left = e; inside = inside; number = n; place_is = p; offset_is = o }

    ahead : Left bytes ends count x i from l → i < count → Ahead i from l
    ahead h s = ahead_of h.back h.free_bytes h.free_ends h.bytes_left h.ends_left h.inside h.number h.place_is h.offset_is s

    end_is : (h : Ahead i from l) → get_or ends i 0 ≡ from + length h.row
    end_is h =
        let k : i ≡ i + 0 = omega arith in
        ap (λ (n : ℕ). get_or ends n 0) k ∙ sym (get_or-drop i ends 0 0) ∙ ap (λ (z : List ℕ). get_or z 0 0) h.ends_left

    parted : (h : Ahead i from l) → drop from bytes ≡ h.row ++ (run_together h.back ++ h.free_bytes)
    parted h = h.bytes_left ∙ append_assoc h.row (run_together h.back) h.free_bytes

    next_inside : (h : Ahead i from l) → from + length h.row ≤ length bytes
    next_inside h = omega (arith, sym (length-drop from bytes), ap length (parted h), length-append h.row (run_together h.back ++ h.free_bytes), h.inside)

    -- what the comparison with the next row tells
    module _ (to : ℕ) (t : to ≡ get_or ends i 0) where
      compared : (h : Ahead i from l) (b : Bool) → b ≡ pointwise eqb x (take (to - from) (drop from bytes)) → equal x h.row ≡ b
      compared h b d =
          let k : to - from ≡ length h.row = omega (arith, t, end_is h) in
          let is : take (to - from) (drop from bytes) ≡ h.row = ap₂ (λ (n : ℕ) (z : List ℕ). take n z) k (parted h) ∙ take-append_seam h.row (run_together h.back ++ h.free_bytes) in
          sym (d ∙ pointwise_equal x (take (to - from) (drop from bytes)) ∙ ap (equal x) is)

      next_end : Ahead i from l → NextEnd bytes from to
      next_end h = record { low = omega (arith, t, end_is h); high = omega (arith, t, end_is h, next_inside h) }

      passed : Ahead i from l → false ≡ pointwise eqb x (take (to - from) (drop from bytes)) → Left bytes ends count x (i + 1) to l
      passed h d =
          let k : to ≡ from + length h.row = t ∙ end_is h in
          let e = compared h false d in
          let rest : List ℕ = run_together h.back ++ h.free_bytes in
          let p : place_of l x ≡ i + suc (place_of h.back x) = h.place_is ∙ ap (λ (c : Bool). i + cond c 0 (suc (place_of h.back x))) e in
          let o : offset_of l x ≡ from + (length h.row + offset_of h.back x) = h.offset_is ∙ ap (λ (c : Bool). from + cond c 0 (length h.row + offset_of h.back x)) e in
          record {
            back = h.back;
            free_bytes = h.free_bytes;
            free_ends = h.free_ends;
            bytes_left = ap (λ (z : ℕ). drop z bytes) k ∙ sym (drop-drop (length h.row) from bytes) ∙ ap (drop (length h.row)) (parted h) ∙ drop-append_seam h.row rest;
            ends_left = sym (drop-drop 1 i ends) ∙ ap (drop 1) h.ends_left ∙ ap (λ (z : ℕ). ends_from z h.back ++ h.free_ends) (sym k);
            inside = omega (arith, k, next_inside h);
            number = omega (arith, h.number);
            place_is = omega (arith, p);
            offset_is = omega (arith, o, k);
          }

      pub row_passed : Left bytes ends count x i from l → i < count → false ≡ pointwise eqb x (take (to - from) (drop from bytes)) → Left bytes ends count x (i + 1) to l
      row_passed h s d = passed (ahead h s) d

      row_found : Ahead i from l → true ≡ pointwise eqb x (take (to - from) (drop from bytes)) → (i ≡ place_of l x) × (from ≡ offset_of l x)
      row_found h d =
          let e = compared h true d in
          let p : place_of l x ≡ i + 0 = h.place_is ∙ ap (λ (c : Bool). i + cond c 0 (suc (place_of h.back x))) e in
          let o : offset_of l x ≡ from + 0 = h.offset_is ∙ ap (λ (c : Bool). from + cond c 0 (length h.row + offset_of h.back x)) e in
          (omega (arith, p), omega (arith, o))

    none_of : (back : List (List ℕ)) → count ≡ i + length back → count ≤ i → place_of l x ≡ i + place_of back x → offset_of l x ≡ from + offset_of back x → (count ≡ place_of l x) × (from ≡ offset_of l x)
    none_of [] n h p o = (omega (arith, p, n), omega (arith, o))
    none_of (y ∷ back) n h p o = absurd (omega (arith, n))

    none_left : Left bytes ends count x i from l → count ≤ i → (count ≡ place_of l x) × (from ≡ offset_of l x)
    none_left h s = none_of h.back h.number s h.place_is h.offset_is

  -- what is known of all rows that the store has, of which there are some
  module _ (i from : ℕ) (some_rows : HasRows bytes ends count) (left : (l : List (List ℕ)) → RowsIn bytes ends count l → Left bytes ends count x i from l) where
    pub next_at : (to : ℕ) → to ≡ get_or ends i 0 → i < count → NextEnd bytes from to
    next_at to t s = next_end i from some_rows.rows to t (ahead i from some_rows.rows (left some_rows.rows some_rows.are) s)

    pub seat_found : (to : ℕ) → to ≡ get_or ends i 0 → i < count → true ≡ pointwise eqb x (take (to - from) (drop from bytes)) → SeatIs bytes ends count x (record { place = i; offset = from })
    seat_found to t s d =
        record {
          low = omega arith;
          inside = (left some_rows.rows some_rows.are).inside;
          place_is = λ l h. (row_found i from l to t (ahead i from l (left l h) s) d).0;
          offset_is = λ l h. (row_found i from l to t (ahead i from l (left l h) s) d).1;
        }

    pub seat_behind : count ≤ i → SeatIs bytes ends count x (record { place = count; offset = from })
    seat_behind s =
        record {
          low = omega arith;
          inside = (left some_rows.rows some_rows.are).inside;
          place_is = λ l h. (none_left i from l (left l h) s).0;
          offset_is = λ l h. (none_left i from l (left l h) s).1;
        }
