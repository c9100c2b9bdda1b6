-- The records of the names in a store: those from a number on are left to put. Assumes nothing.
use mathlib.Core.Path.{◌≡◌, sym, ◌∙◌, ap, ap₂, subst}
use mathlib.Core.Bool.{true}
use mathlib.Core.List.{List, [], ◌∷◌, ◌++◌, append_assoc}
use Prim.Native.Nat.{ℕ, suc, ◌+◌, ◌-◌, ◌*◌, ◌≤◌, ◌<◌}
use native.Mathlib.Omega.{arith}
use lib.ListN.{length, get_or, take, drop, replicate, length-append, length-drop, length-take, length-replicate}
use lib.Seq.{take-append_seam, drop-append_seam, get_or-drop, drop-drop}
use Rattle.limits.specs.Limits.{longest_name}
use Rattle.lent.specs.Put.{PutAs}
use Rattle.lent.proofs.Laws.{nothing_put, put_length}
use Rattle.output.proofs.Writing.{put_then}
use Rattle.sheet.specs.Tags.{tag_record}
use Rattle.encoding.specs.Distinct.{run_together}
use Rattle.stores.specs.Rows.{ends_from, RowsIn, HasRows}
use Rattle.stores.proofs.Mentioning.{one_store}
use Rattle.packing.specs.Packed.{tags_section}
use Rattle.binding.specs.Bound.{ShortNames, TagRows, TagsPut}

pub sixteen : (n : List ℕ) → length n ≤ longest_name → length (tag_record n) ≡ 16
sixteen n h = omega (arith, length-append n (replicate (longest_name - length n) 0), length-replicate {A = ℕ} (longest_name - length n) 0)

-- of the rows l those from number i on are left, and they lie from `from` on
pub record TagsLeft (bytes ends : List ℕ) (count : ℕ) (memory : List ℕ) (at : ℕ) (l : List (List ℕ)) (i from n : ℕ) (now : List ℕ) : Type 0 where
  pub back : List (List ℕ)
  pub free_bytes : List ℕ
  pub free_ends : List ℕ
  pub bytes_left : drop from bytes ≡ run_together back ++ free_bytes
  pub ends_left : drop i ends ≡ ends_from from back ++ free_ends
  pub inside : from ≤ length bytes
  pub number : count ≡ i + length back
  pub short_left : ShortNames back
  pub rest : (after : List ℕ) (r : ℕ) → PutAs true now n (tags_section back) after r → PutAs true memory at (tags_section l) after r

-- the name that is next, which ends at `to`
pub record NextName (bytes : List ℕ) (from to : ℕ) : Type 0 where
  pub low : from ≤ to
  pub high : to ≤ length bytes
  pub short : to - from ≤ longest_name

pub has_rows : (bytes ends : List ℕ) (count : ℕ) → TagRows bytes ends count → HasRows bytes ends count
has_rows bytes ends count t = record { rows = t.rows; are = t.are }

-- the store's rows are short, whichever they are called
pub short_all : (bytes ends : List ℕ) (count : ℕ) → TagRows bytes ends count → (l : List (List ℕ)) → RowsIn bytes ends count l → ShortNames l
short_all bytes ends count t l h = subst ShortNames (one_store bytes ends count t.rows l t.are h) t.short

module _ (bytes ends : List ℕ) (count : ℕ) (memory : List ℕ) (at : ℕ) where
  pub all_left : (l : List (List ℕ)) → RowsIn bytes ends count l → ShortNames l → TagsLeft bytes ends count memory at l 0 0 at memory
  all_left l h s = record {
    back = l;
    free_bytes = h.free_bytes;
    free_ends = h.free_ends;
    bytes_left = h.bytes_are;
    ends_left = h.ends_are;
    inside = omega arith;
    number = omega (arith, h.number);
    short_left = s;
    rest = λ after r p. p;
  }

  module _ (l : List (List ℕ)) (i from n : ℕ) (now : List ℕ) where
    record Ahead : Type 0 where
      row : List ℕ
      back : List (List ℕ)
      free_bytes : List ℕ
      free_ends : List ℕ
      parted : drop from bytes ≡ row ++ (run_together back ++ free_bytes)
      ends_left : drop i ends ≡ (from + length row) ∷ (ends_from (from + length row) back ++ free_ends)
      inside : from ≤ length bytes
      number : count ≡ i + suc (length back)
      short_row : length row ≤ longest_name
      short_left : ShortNames back
      rest : (after : List ℕ) (r : ℕ) → PutAs true now n (tag_record row ++ tags_section back) after r → PutAs true memory at (tags_section l) after r

    ahead : TagsLeft bytes ends count memory at l i from n now → i < count → Ahead
    ahead h s = go h.back h.bytes_left h.ends_left h.number h.short_left h.rest
      where
        go : (back : List (List ℕ)) → drop from bytes ≡ run_together back ++ h.free_bytes → drop i ends ≡ ends_from from back ++ h.free_ends → count ≡ i + length back → ShortNames back
            → ((after : List ℕ) (r : ℕ) → PutAs true now n (tags_section back) after r → PutAs true memory at (tags_section l) after r) → Ahead
        go [] b e c a r = absurd (omega arith)
        go (y ∷ back) b e c a r = record {
          row = y;
          back = back;
          free_bytes = h.free_bytes;
          free_ends = h.free_ends;
          parted = b ∙ append_assoc y (run_together back) h.free_bytes;
          ends_left = e;
          inside = h.inside;
          number = c;
          short_row = a.0;
          short_left = a.1;
          rest = r;
        }

    end_is : (h : Ahead) → get_or ends i 0 ≡ from + length h.row
    end_is h =
        let k : i ≡ i + 0 = omega arith in
        ap (λ (m : ℕ). get_or ends m 0) k ∙ sym (get_or-drop i ends 0 0) ∙ ap (λ (z : List ℕ). get_or z 0 0) h.ends_left

    next_inside : (h : Ahead) → from + length h.row ≤ length bytes
    next_inside h = omega (arith, sym (length-drop from bytes), ap length h.parted, length-append h.row (run_together h.back ++ h.free_bytes), h.inside)

    pub next_name : TagsLeft bytes ends count memory at l i from n now → i < count → (to : ℕ) → to ≡ get_or ends i 0 → NextName bytes from to
    next_name left s to t =
        let h = ahead left s in
        record { low = omega (arith, t, end_is h); high = omega (arith, t, end_is h, next_inside h); short = omega (arith, t, end_is h, h.short_row) }

    passed : (h : Ahead) (to n' : ℕ) (now' : List ℕ) → to ≡ get_or ends i 0 → PutAs true now n (tag_record (take (to - from) (drop from bytes))) now' n'
        → TagsLeft bytes ends count memory at l (i + 1) to n' now'
    passed h to n' now' t p =
        let k : to ≡ from + length h.row = t ∙ end_is h in
        let d : to - from ≡ length h.row = omega (arith, k) in
        let behind : List ℕ = run_together h.back ++ h.free_bytes in
        let is : take (to - from) (drop from bytes) ≡ h.row = ap₂ (λ (m : ℕ) (z : List ℕ). take m z) d h.parted ∙ take-append_seam h.row behind in
        let q : PutAs true now n (tag_record h.row) now' n' = subst (λ (z : List ℕ). PutAs true now n (tag_record z) now' n') is p in
        record {
          back = h.back;
          free_bytes = h.free_bytes;
          free_ends = h.free_ends;
          bytes_left = ap (λ (z : ℕ). drop z bytes) k ∙ sym (drop-drop (length h.row) from bytes) ∙ ap (drop (length h.row)) h.parted ∙ drop-append_seam h.row behind;
          ends_left = sym (drop-drop 1 i ends) ∙ ap (drop 1) h.ends_left ∙ ap (λ (z : ℕ). ends_from z h.back ++ h.free_ends) (sym k);
          inside = omega (arith, k, next_inside h);
          number = omega (arith, h.number);
          short_left = h.short_left;
          rest = λ after r o. h.rest after r (put_then true now n (tag_record h.row) (tags_section h.back) now' after n' r q o);
        }

    pub name_put : (to n' : ℕ) (now' : List ℕ) → TagsLeft bytes ends count memory at l i from n now → i < count → to ≡ get_or ends i 0 → PutAs true now n (tag_record (take (to - from) (drop from bytes))) now' n'
        → TagsLeft bytes ends count memory at l (i + 1) to n' now'
    name_put to n' now' h s t p = passed (ahead h s) to n' now' t p

    none_left : TagsLeft bytes ends count memory at l i from n now → count ≤ i → PutAs true memory at (tags_section l) now n
    none_left h s = go h.back h.number h.rest
      where
        go : (back : List (List ℕ)) → count ≡ i + length back → ((after : List ℕ) (r : ℕ) → PutAs true now n (tags_section back) after r → PutAs true memory at (tags_section l) after r)
            → PutAs true memory at (tags_section l) now n
        go [] c r = r now n (nothing_put true now n)
        go (y ∷ back) c r = absurd (omega (arith, c))

  pub tags_put : (i from n : ℕ) (now : List ℕ) → TagRows bytes ends count → ((l : List (List ℕ)) → RowsIn bytes ends count l → ShortNames l → TagsLeft bytes ends count memory at l i from n now) → i ≤ count → count ≤ i
      → n ≡ at + 16 * i → TagsPut bytes ends count memory at now n
  tags_put i from n now t left low high e = record { next = omega (arith, low, high, e); is = λ l h. none_left l i from n now (left l h (short_all bytes ends count t l h)) high }

pub short_part : (bytes : List ℕ) (from to : ℕ) → to - from ≤ longest_name → length (take (to - from) (drop from bytes)) ≤ longest_name
short_part bytes from to s = omega (arith, length-take (to - from) (drop from bytes), s)

pub sixteen_more : (bytes : List ℕ) (from to n n' : ℕ) (now now' : List ℕ) → to - from ≤ longest_name → to ≤ length bytes → PutAs true now n (tag_record (take (to - from) (drop from bytes))) now' n' → n' ≡ n + 16
sixteen_more bytes from to n n' now now' s inside p =
    omega (arith, p.next, sixteen (take (to - from) (drop from bytes)) (short_part bytes from to s))

pub same_room : (now now' new : List ℕ) (n n' : ℕ) → PutAs true now n new now' n' → length now' ≡ length now
same_room now now' new n n' p = ap length p.left ∙ put_length true now n new
