-- A name filed in a store: it was there, it is there now, or it is one too many. Assumes nothing.
use mathlib.Core.Path.{◌≡◌, refl, sym, ◌∙◌, ap, subst}
use mathlib.Core.Logic.{◌⊎◌, inl, inr}
use mathlib.Core.Bool.{Bool, true, false, cond, true≢false}
use mathlib.Core.List.Memᴰ
use mathlib.Core.List.{List, [], ◌∷◌, ◌++◌, append-nil, Memᴰ}
use Prim.Native.Nat.{ℕ, ◌+◌, ◌*◌, ◌≤◌, ◌<◌}
use native.Mathlib.Omega.{arith}
use lib.ListN.{length, length-append}
use Rattle.limits.specs.Limits.{most_tags, longest_name}
use Rattle.encoding.specs.Distinct.{has, added, distinct, place_of, run_together}
use Rattle.encoding.proofs.Stored.{AllHad, distinct_all, place_below}
use Rattle.stores.specs.declared.Filed.{Filed}
use Rattle.stores.specs.Rows.{ends_from, RowsIn}
use Rattle.stores.specs.Filed.{SameStore, ThereAs, AddedAs, FullAs, FiledIs}
use Rattle.stores.proofs.Grows.{grows_behind, grows_by_one, places_stay}
use Rattle.stores.proofs.Behind.{new_place, last_place}
use Rattle.binding.specs.Bound.{ShortNames}
use Rattle.rosters.specs.declared.Roster.{Roster}
use Rattle.rosters.specs.Rosters.{RosterRoom, Enrolling, RosterIs, EnrolledAs, Enrolled}

abbrev Names : Type 0
Names = List (List ℕ)

abbrev roster : ℕ → Bool → ℕ → Roster
roster n f p = record { count = n; full = f; number = p }

ends_long : (at : ℕ) (l : Names) → length (ends_from at l) ≡ length l
ends_long at [] = refl
ends_long at (y ∷ l) = omega (arith, ends_long (at + length y) l)

-- no more rows than places
pub rows_few : (b e : List ℕ) (n : ℕ) (l : Names) → RowsIn b e n l → length l ≤ length e
rows_few b e n l h = omega (arith, ends_long 0 l, ap length h.ends_are, length-append (ends_from 0 l) h.free_ends)

short_with : (l : Names) (x : List ℕ) → ShortNames l → length x ≤ longest_name → ShortNames (l ++ x ∷ [])
short_with [] x s h = (h, tt)
short_with (y ∷ l) x s h = (s.0, short_with l x s.1 h)

short_run : (l : Names) → ShortNames l → length (run_together l) ≤ 15 * length l
short_run [] s = omega arith
short_run (y ∷ l) s = let k = short_run l s.1 in let j = s.0 in omega (arith, length-append y (run_together l))

-- what is mentioned is never fewer names
no_fewer : (l : Names) (x : List ℕ) → length (distinct l) ≤ length (distinct (l ++ x ∷ []))
no_fewer l x = omega (arith, ap length (grows_behind l (x ∷ [])), length-append (distinct l) (added (distinct l) (x ∷ [])))

mentioned_again : (l : Names) (x : List ℕ) → has (distinct l) x ≡ true → distinct l ≡ distinct (l ++ x ∷ [])
mentioned_again l x e = sym (grows_by_one l x ∙ ap (λ (b : Bool). cond b (distinct l) (distinct l ++ x ∷ [])) e)

mentioned_new : (l : Names) (x : List ℕ) → has (distinct l) x ≡ false → distinct l ++ x ∷ [] ≡ distinct (l ++ x ∷ [])
mentioned_new l x e = sym (grows_by_one l x ∙ ap (λ (b : Bool). cond b (distinct l) (distinct l ++ x ∷ [])) e)

had_of : (l m : Names) (y : List ℕ) → AllHad l m → Memᴰ y m → has l y ≡ true
had_of l [] y h j = absurd (Memᴰ.not-nil j)
had_of l (z ∷ m) y h j = on (Memᴰ.cases_cons j) (λ k. had_of l m y h.1 k)
  where
    on : (y ≡ z) ⊎ Memᴰ y m → (Memᴰ y m → has l y ≡ true) → has l y ≡ true
    on (inl e) ih = ap (has l) e ∙ h.0
    on (inr k) ih = ih k

not_both : {A : Type 0} {b : Bool} → b ≡ true → b ≡ false → A
not_both e f = absurd (true≢false (sym e ∙ f))

module _ (all rows : Names) (bytes ends : List ℕ) (r : Roster) (x b e : List ℕ) (h : RosterIs all bytes ends r rows) (s : length x ≤ longest_name) (room : RosterRoom b e) where
  same_held : SameStore bytes ends b e → RowsIn b e r.count rows
  same_held k =
      subst (λ (z : List ℕ). RowsIn z e r.count rows) (sym k.same_bytes) (subst (λ (z : List ℕ). RowsIn bytes z r.count rows) (sym k.same_ends) h.held)

  there : (p o : ℕ) → ThereAs rows x p o → SameStore bytes ends b e → EnrolledAs all rows x b e (roster r.count r.full p)
  there p o t k = record {
    rows_now = rows;
    are = record {
      sized = room;
      held = same_held k;
      short = h.short;
      all_held = λ y. h.all_held y ∙ mentioned_again all x (subst (λ (l : Names). has l x ≡ true) (h.all_held y) t.had);
      all_places = h.all_places;
      too_many = λ y. let m = h.too_many y in omega (arith, no_fewer all x);
    };
    number_is = t.place_is;
    stay = λ y j. refl;
  }

  -- a store without places takes no name
  not_full : (p o : ℕ) → AddedAs rows x bytes ends r.count b e p o → r.full ≡ true → ⊥
  not_full p o a y = let m = h.all_places y in omega (arith, rows_few b e (r.count + 1) (rows ++ x ∷ []) a.rows, length-append rows (x ∷ []), room.places)

  -- every name that was mentioned is there
  known : (p o : ℕ) → AddedAs rows x bytes ends r.count b e p o → (y : List ℕ) → Memᴰ y all → (t : Bool) → r.full ≡ t → has rows y ≡ true
  known p o a y j true f = absurd (not_full p o a f)
  known p o a y j false f = subst (λ (l : Names). has l y ≡ true) (sym (h.all_held f)) (had_of (distinct all) all y (distinct_all all) j)

  added_to : (p o : ℕ) → AddedAs rows x bytes ends r.count b e p o → EnrolledAs all rows x b e (roster (r.count + 1) r.full p)
  added_to p o a = record {
    rows_now = rows ++ x ∷ [];
    are = record {
      sized = room;
      held = a.rows;
      short = short_with rows x h.short s;
      all_held = λ y. ap (λ (l : Names). l ++ x ∷ []) (h.all_held y) ∙ mentioned_new all x (subst (λ (l : Names). has l x ≡ false) (h.all_held y) a.new);
      all_places = λ y. absurd (not_full p o a y);
      too_many = λ y. absurd (not_full p o a y);
    };
    number_is = a.place_is;
    stay = λ y j. places_stay rows (x ∷ []) y (known p o a y j r.full refl);
  }

  -- there is no room: all places are taken
  all_taken : FullAs rows x bytes ends r.count → length rows ≡ most_tags
  all_taken f = on f.no_room
    where
      most : length rows ≤ most_tags
      most = omega (arith, rows_few bytes ends r.count rows h.held, h.sized.places)

      on : (length bytes < length (run_together rows) + length x) ⊎ (length ends ≤ r.count) → length rows ≡ most_tags
      on (inl k) = let j = short_run rows h.short in omega (arith, h.sized.room, most)
      on (inr k) = omega (arith, h.sized.places, h.held.number, most)

  one_too_many : FullAs rows x bytes ends r.count → (t : Bool) → r.full ≡ t → most_tags < length (distinct (all ++ x ∷ []))
  one_too_many f true y = let m = h.too_many y in omega (arith, no_fewer all x)
  one_too_many f false y =
      let i = h.all_held y in
      let n = mentioned_new all x (subst (λ (l : Names). has l x ≡ false) i f.new) in
      omega (arith, ap length n, length-append (distinct all) (x ∷ []), ap length i, all_taken f)

  behind_all : FullAs rows x bytes ends r.count → most_tags ≡ place_of rows x
  behind_all f =
      let k = new_place rows [] x f.new in
      let j : place_of (rows ++ []) x ≡ place_of rows x = ap (λ (l : Names). place_of l x) (append-nil rows) in
      omega (arith, all_taken f)

  no_room : FullAs rows x bytes ends r.count → SameStore bytes ends b e → EnrolledAs all rows x b e (roster r.count true most_tags)
  no_room f k = record {
    rows_now = rows;
    are = record {
      sized = room;
      held = same_held k;
      short = h.short;
      all_held = λ y. not_both refl y;
      all_places = λ y. all_taken f;
      too_many = λ y. one_too_many f r.full refl;
    };
    number_is = behind_all f;
    stay = λ y j. refl;
  }

module _ (bytes ends : List ℕ) (r : Roster) (x b e : List ℕ) (h : Enrolling bytes ends r) (lb : length b ≡ length bytes) (le : length e ≡ length ends) where
  room_now : RosterRoom b e
  room_now = record { room = omega (arith, h.sized.room); places = omega (arith, h.sized.places) }

  pub enrolled_there : (a : Filed) (p o : ℕ) → a ≡ Filed.There p o → FiledIs bytes ends r.count x b e a → Enrolled bytes ends r x b e (roster r.count r.full p)
  enrolled_there a p o k f' =
      let f = subst (FiledIs bytes ends r.count x b e) k f' in
      let t = (f.is h.has_rows.rows h.has_rows.are).0 in
      record {
        small = omega (arith, t.place_is, place_below h.has_rows.rows x t.had, rows_few bytes ends r.count h.has_rows.rows h.has_rows.are, h.sized.places);
        long_bytes = lb;
        long_ends = le;
        is = λ all rows i s. there all rows bytes ends r x b e i s room_now p o (f.is rows i.held).0 (f.is rows i.held).1;
      }

  pub enrolled_added : (a : Filed) (p o : ℕ) → a ≡ Filed.Added p o → FiledIs bytes ends r.count x b e a → Enrolled bytes ends r x b e (roster (r.count + 1) r.full p)
  enrolled_added a p o k f' =
      let f = subst (FiledIs bytes ends r.count x b e) k f' in
      let l = h.has_rows.rows in
      let t = f.is l h.has_rows.are in
      record {
        small = omega (arith, t.place_is, last_place l x t.new, rows_few bytes ends r.count l h.has_rows.are, h.sized.places);
        long_bytes = lb;
        long_ends = le;
        is = λ all rows i s. added_to all rows bytes ends r x b e i s room_now p o (f.is rows i.held);
      }

  pub enrolled_full : (a : Filed) → a ≡ Filed.Full → FiledIs bytes ends r.count x b e a → Enrolled bytes ends r x b e (roster r.count true most_tags)
  enrolled_full a k f' =
      let f = subst (FiledIs bytes ends r.count x b e) k f' in
      record {
        small = omega arith;
        long_bytes = lb;
        long_ends = le;
        is = λ all rows i s. no_room all rows bytes ends r x b e i s room_now (f.is rows i.held).0 (f.is rows i.held).1;
      }
