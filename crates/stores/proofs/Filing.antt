-- The answers of a store, one for each way out. Assumes nothing.
use mathlib.Core.Path.{◌≡◌, refl, sym, subst, ◌∙◌}
use mathlib.Core.Logic.{inl, inr}
use mathlib.Core.Bool.{true, false}
use mathlib.Core.List.{List, ◌++◌}
use Prim.Native.Nat.{ℕ, ◌+◌, ◌-◌, ◌≤◌, ◌<◌}
use native.Mathlib.Omega.{arith}
use lib.ListN.{length, take, drop, set}
use Rattle.lent.specs.Put.{PutAs}
use Rattle.lent.proofs.Laws.{put_all}
use Rattle.encoding.specs.Distinct.{has, run_together}
use Rattle.stores.specs.Rows.{RowsIn}
use Rattle.stores.specs.declared.Seat.{Seat}
use Rattle.stores.specs.declared.Filed.{Filed}
use Rattle.stores.specs.Filed.{SeatIs, SameStore, FiledIs}
use Rattle.stores.proofs.Behind.{had_below, new_beyond, last_place, last_offset, past_offset, rows_with}

module _ (bytes ends : List ℕ) (count : ℕ) (x : List ℕ) (seat : Seat) (s : SeatIs bytes ends count x seat) where
  untouched : SameStore bytes ends bytes ends
  untouched = record { same_bytes = refl; same_ends = refl }

  pub filed_there : seat.place < count → FiledIs bytes ends count x bytes ends (Filed.There seat.place seat.offset)
  filed_there h =
      record {
        is = λ l r. (record { had = had_below l x (omega (arith, s.place_is l r, r.number)); place_is = s.place_is l r; offset_is = s.offset_is l r }, untouched);
      }

  -- the row is none of theirs
  module _ (beyond : count ≤ seat.place) where
    new_row : (l : List (List ℕ)) → RowsIn bytes ends count l → has l x ≡ false
    new_row l r = new_beyond l x (omega (arith, s.place_is l r, r.number))

    offset_past : (l : List (List ℕ)) → RowsIn bytes ends count l → seat.offset ≡ length (run_together l)
    offset_past l r = s.offset_is l r ∙ past_offset l x (new_row l r)

    pub no_end_left : length ends ≤ count → FiledIs bytes ends count x bytes ends Filed.Full
    no_end_left h = record { is = λ l r. (record { new = new_row l r; no_room = inr h }, untouched) }

    pub no_bytes_left : length bytes - seat.offset < length x → FiledIs bytes ends count x bytes ends Filed.Full
    no_bytes_left h = record { is = λ l r. (record { new = new_row l r; no_room = inl (omega (arith, offset_past l r, s.inside)) }, untouched) }

    module _ (room : count < length ends) (fits : length x ≤ length bytes - seat.offset) where
      laid : seat.offset + length x ≤ length bytes
      laid = omega (arith, s.inside)

      added_as : FiledIs bytes ends count x (take seat.offset bytes ++ x ++ drop (seat.offset + length x) bytes) (set ends count (seat.offset + length x)) (Filed.Added count seat.offset)
      added_as =
          record {
            is = λ l r.
                let new = new_row l r in
                record {
                  new = new;
                  place_is = r.number ∙ sym (last_place l x new);
                  offset_is = offset_past l r ∙ sym (last_offset l x new);
                  rows = rows_with bytes ends count l x seat.offset r new (offset_past l r) room;
                  bytes_left = refl;
                  ends_left = refl;
                };
          }

      pub filed_behind : (after : List ℕ) (end : ℕ) → PutAs true bytes seat.offset x after end → FiledIs bytes ends count x after (set ends count end) (Filed.Added count seat.offset)
      filed_behind after end p =
          let b : after ≡ take seat.offset bytes ++ x ++ drop (seat.offset + length x) bytes = p.left ∙ put_all bytes seat.offset x laid in
          subst (λ (z : List ℕ). FiledIs bytes ends count x z (set ends count end) (Filed.Added count seat.offset)) (sym b)
          (subst (λ (n : ℕ). FiledIs bytes ends count x (take seat.offset bytes ++ x ++ drop (seat.offset + length x) bytes) (set ends count n) (Filed.Added count seat.offset)) (sym p.next) added_as)
