-- A stream that is never refused: the salvage run takes its tokens as 01's run does, so each record is whole; only the area may be too short for one.
-- Assumes nothing.
use mathlib.Core.Path.{◌≡◌, refl, sym, ap, ◌∙◌, subst}
use mathlib.Core.Logic.{◌⊎◌, inl, inr}
use mathlib.Core.Bool.{Bool, true, false}
use mathlib.Core.List.{List, [], ◌++◌, append_assoc}
use Prim.Native.Nat.{ℕ, ◌+◌, ◌-◌, ◌≤◌, ◌<◌}
use native.Mathlib.Omega.{arith}
use lib.Dec.{leb}
use lib.ListN.{length, length-append}
use borrow.Author.Tests.{leb-true, leb-false}
use Rattle.tokens.specs.declared.Event.{Event}
use Rattle.tokens.specs.declared.Answer.TheVariants.{Token}
use Rattle.tokens.specs.Stream.{ReadAs}
use Rattle.sheet.specs.Sheet.{Sheet}
use Rattle.runs.specs.Machine.{Configuration, took}
use Rattle.calls.specs.Names.{token_of}
use Rattle.calls.specs.Limits.{silent, output_of, Taking, taken, refuses, no_room, one_token}
use Rattle.calls.specs.Call.{Result, stopped_at, after_writing, room_left, stops, full, no_token, Runs, takes, halts}
use Rattle.calls.proofs.Answers.{AfterToken, split, to_number, one_run}
use Rattle.calls.proofs.Steps.{RunToken, takes_one}
use Rattle.salvage.specs.Shape.{RecordTags}
use Rattle.salvage.specs.Salvage.{begins_record, RecordAt, RecordEnd, whole, broken, InRecord, goes_on, ends, breaks, Salvage, without_report, behind_output, damaged, Salvages, passes, stands, keeps, full as full_room, waits, drops, loses, cut_off, over}
use Rattle.salvage.specs.NeverSent.{there, passes_on, keeps_on}
use Rattle.salvage.specs.Promises.{LongRecord, NeverRefused}
use Rattle.salvage.proofs.One.{damage, record_one}
use Rattle.salvage.proofs.Some.{Numbered, KnownEnd, record_goes}
use Rattle.salvage.proofs.Before.{token_in}
use Rattle.salvage.proofs.Follows.{taken_in, refused_in, writes_both}

module _ (a : Sheet) (z : Configuration) (room room' : ℕ) (k : RunToken) where
  -- a token that is taken in two rooms comes to the same in both
  taken_same : (z₁ z₂ : Configuration) (w₁ w₂ : List ℕ) → one_token a z room k ≡ taken z₁ w₁ → one_token a z room' k ≡ taken z₂ w₂ → (z₂ ≡ z₁) × (w₂ ≡ w₁) × (length w₂ ≤ room')
  taken_same z₁ z₂ w₁ w₂ e e' =
      let o = takes_one a z room k z₁ w₁ e in
      let o' = takes_one a z room' k z₂ w₂ e' in
      let q : took o'.reached ≡ took o.reached = sym o'.stepped ∙ o.stepped in
      let p : o'.reached ≡ o.reached = cc in
      (o'.silenced ∙ ap silent p ∙ sym o.silenced, o'.writes ∙ ap output_of p ∙ sym o.writes, omega (arith, o'.fits, ap length o'.writes))

  -- one that has no room in the first and is taken in the second writes more than the first has
  full_short : (z₂ : Configuration) (w₂ : List ℕ) → one_token a z room k ≡ no_room → one_token a z room' k ≡ taken z₂ w₂ → room < length w₂
  full_short z₂ w₂ e e' = by (leb (length w₂) room) refl
    where
      by : (b : Bool) → leb (length w₂) room ≡ b → room < length w₂
      by true h =
          let q = taken_in a z room' room k z₂ w₂ e' (leb-true (length w₂) room h) in
          absurd (let x : ◌≡◌ {A = ℕ} 0 1 = cc in omega arith)
      by false h = leb-false (length w₂) room h

module _ (a : Sheet) (s : List ℕ) (area : ℕ) where
  -- a record in a run that ends with 0
  abbrev EndsIn : ℕ → Configuration → List ℕ → Result → RecordEnd → Type 0
  EndsIn room y v q (whole to y₁ next z w) =
      (u : List ℕ) × (q' : Result) × (w ≡ v ++ u) × (length u ≤ room) × Runs a s false next (room_left room u) z q' × (q ≡ after_writing u q')
  EndsIn room y v q (broken n to y₁) = (n ≡ 0) ⊎ ((n ≡ 17) × (area < length v + length q.output))

  -- behind a token that writes w
  lifted : (room : ℕ) (y : Configuration) (v w : List ℕ) (q q₁ : Result) (y' : Configuration) (o : RecordEnd) → length w ≤ room → q ≡ after_writing w q₁ →
      EndsIn (room_left room w) y' (v ++ w) q₁ o → EndsIn room y v q o
  lifted room y v w q q₁ y' (whole to y₁ next z k) f e (u, q', h, l, r, p) = (
    w ++ u,
    q',
    h ∙ append_assoc v w u,
    omega (arith, length-append w u, l, f),
    subst (λ (i : ℕ). Runs a s false next i z q') (omega (arith, length-append w u)) r,
    e ∙ ap (after_writing w) p ∙ writes_both w u q',
  )
  lifted room y v w q q₁ y' (broken n to y₁) f e (inl h) = inl h
  lifted room y v w q q₁ y' (broken n to y₁) f e (inr (h, l)) =
      inr (h, omega (arith, l, length-append v w, length-append w q₁.output, ap (λ (p : Result). length p.output) e))

  in_a_run : {at : ℕ} {y : Configuration} {v : List ℕ} {o : RecordEnd} → InRecord a s area at y v o → (room : ℕ) (q : Result) → Runs a s false at room y q → q.number ≡ 0 → EndsIn room y v q o
  in_a_run {o = o} (goes_on {at} {y} {v} e next y' w m t h d) room q r n =
      by (one_token a y room (token_of a s e)) refl (split a s false r (Token e (record { at = next })) m) (λ room q r n. in_a_run d room q r n)
    where
      by : (u : Taking) → one_token a y room (token_of a s e) ≡ u → AfterToken a s false at room y next q u →
          ((room : ℕ) (q : Result) → Runs a s false next room y' q → q.number ≡ 0 → EndsIn room y' (v ++ w) q o) → EndsIn room y v q o
      by (taken y₂ w₂) p (q₁, r₁, e₁) rest =
          let (yy, ww, f) = taken_same a y (room_left area v) room (token_of a s e) y' y₂ w w₂ t p in
          let r₂ = subst (λ (k : Configuration). Runs a s false next (room_left room w₂) k q₁) yy r₁ in
          let r₃ = subst (λ (k : List ℕ). Runs a s false next (room_left room k) y' q₁) ww r₂ in
          lifted room y v w q q₁ y' o (omega (arith, f, ap length ww)) (e₁ ∙ ap (λ (k : List ℕ). after_writing k q₁) ww)
          (rest (room_left room w) q₁ r₃ (sym (ap (λ (k : Result). k.number) e₁) ∙ n))
      by (refuses k) p e₁ rest = absurd (let j = refused_in a y room (room_left area v) (token_of a s e) k p in let x : ◌≡◌ {A = ℕ} 0 1 = cc in omega arith)
      by no_room p e₁ rest = absurd (omega (arith, n, ap (λ (k : Result). k.number) e₁))
  in_a_run (ends {at} {y} {v} e next z w m t h) room q r n = by (one_token a y room (token_of a s e)) refl (split a s false r (Token e (record { at = next })) m)
    where
      by : (u : Taking) → one_token a y room (token_of a s e) ≡ u → AfterToken a s false at room y next q u → EndsIn room y v q (whole at y next z (v ++ w))
      by (taken y₂ w₂) p (q₁, r₁, e₁) =
          let (yy, ww, f) = taken_same a y (room_left area v) room (token_of a s e) z y₂ w w₂ t p in
          let r₂ = subst (λ (k : Configuration). Runs a s false next (room_left room w₂) k q₁) yy r₁ in
          let r₃ = subst (λ (k : List ℕ). Runs a s false next (room_left room k) z q₁) ww r₂ in
          (w, q₁, refl, omega (arith, f, ap length ww), r₃, e₁ ∙ ap (λ (k : List ℕ). after_writing k q₁) ww)
      by (refuses k) p e₁ = absurd (let j = refused_in a y room (room_left area v) (token_of a s e) k p in let x : ◌≡◌ {A = ℕ} 0 1 = cc in omega arith)
      by no_room p e₁ = absurd (omega (arith, n, ap (λ (k : Result). k.number) e₁))
  in_a_run (breaks {at} {y} {v} n (stops e next k m t)) room q r z =
      let p = refused_in a y (room_left area v) room (token_of a s e) k t in
      let e₁ = subst (AfterToken a s false at room y next q) p (split a s false r (Token e (record { at = next })) m) in
      inl (sym (ap (λ (k : Result). k.number) e₁) ∙ z)
  in_a_run (breaks {at} {y} {v} n (full e next m t)) room q r z = by (one_token a y room (token_of a s e)) refl (split a s false r (Token e (record { at = next })) m)
    where
      by : (u : Taking) → one_token a y room (token_of a s e) ≡ u → AfterToken a s false at room y next q u → EndsIn room y v q (broken 17 at y)
      by (taken y₂ w₂) p (q₁, r₁, e₁) =
          let l = full_short a y (room_left area v) room (token_of a s e) y₂ w₂ t p in
          inr (refl, omega (arith, l, length-append w₂ q₁.output, ap (λ (k : Result). length k.output) e₁))
      by (refuses k) p e₁ = absurd (let j = refused_in a y room (room_left area v) (token_of a s e) k p in let x : ◌≡◌ {A = ℕ} 0 1 = cc in omega arith)
      by no_room p e₁ = absurd (omega (arith, z, ap (λ (k : Result). k.number) e₁))
  in_a_run (breaks {at} {y} {v} n (no_token x k m p)) room q r z =
      inl (sym (ap (λ (j : Result). j.number) (to_number a s false at room y q x k p (split a s false r x m))) ∙ z)

module _ (a : Sheet) (s : List ℕ) (area : ℕ) (x : RecordTags) where
  -- a record that is whole in another area is so in this one, where its output fits
  whole_fits : (big : ℕ) {at : ℕ} {y : Configuration} {v : List ℕ} (to next : ℕ) (y₁ z : Configuration) (w : List ℕ) → InRecord a s big at y v (whole to y₁ next z w) →
      (u : List ℕ) × (w ≡ v ++ u) × (length w ≤ area → InRecord a s area at y v (whole to y₁ next z w))
  whole_fits big to next y₁ z w (goes_on {at} {y} {v} e nx y' u m t h d) =
      let (u', q, f) = whole_fits big to next y₁ z w d in (
        u ++ u',
        q ∙ append_assoc v u u',
        (λ l. goes_on e nx y' u m (taken_in a y (room_left big v) (room_left area v) (token_of a s e) y' u t (omega (arith, l, ap length q, length-append (v ++ u) u', length-append v u))) h (f l)),
      )
  whole_fits big to next y₁ z w (ends {at} {y} {v} e nx z' u m t h) =
      (u, refl, (λ l. ends e nx z' u m (taken_in a y (room_left big v) (room_left area v) (token_of a s e) z' u t (omega (arith, l, length-append v u))) h))

  abbrev Same : ℕ → ℕ → Configuration → Salvage → Result → Type 0
  Same at room z r q = (r ≡ without_report q) ⊎ ((r.answer.number ≡ 17) × LongRecord a x s area at room z)

  passed : (at room : ℕ) (z : Configuration) (e : Event) (next : ℕ) (z' : Configuration) (w : List ℕ) → ReadAs false s at (Token e (record { at = next })) →
      begins_record x z.control (token_of a s e) ≡ false → one_token a z room (token_of a s e) ≡ taken z' w → LongRecord a x s area next (room_left room w) z' → LongRecord a x s area at room z
  passed at room z e next z' w m h t k =
      record {
        at = k.at;
        written = w ++ k.written;
        left = k.left;
        stands_in = k.stands_in;
        comes = passes_on e next z' w m h t k.comes;
        is_record = k.is_record;
        wide = k.wide;
        to = k.to;
        next = k.next;
        ends_in = k.ends_in;
        goes_on_in = k.goes_on_in;
        output = k.output;
        is_whole = k.is_whole;
        longer = k.longer;
      }

  kept : (at room : ℕ) (z : Configuration) (to next : ℕ) (y z' : Configuration) (w : List ℕ) → RecordAt a x s at z → InRecord a s area at z [] (whole to y next z' w) → length w ≤ room →
      LongRecord a x s area next (room_left room w) z' → LongRecord a x s area at room z
  kept at room z to next y z' w h i l k =
      record {
        at = k.at;
        written = w ++ k.written;
        left = k.left;
        stands_in = k.stands_in;
        comes = keeps_on to next y z' w h i l k.comes;
        is_record = k.is_record;
        wide = k.wide;
        to = k.to;
        next = k.next;
        ends_in = k.ends_in;
        goes_on_in = k.goes_on_in;
        output = k.output;
        is_whole = k.is_whole;
        longer = k.longer;
      }

  after_it : (w : List ℕ) (at room next : ℕ) (z z' : Configuration) (r : Salvage) (q q' : Result) → q ≡ after_writing w q' →
      (LongRecord a x s area next (room_left room w) z' → LongRecord a x s area at room z) → Same next (room_left room w) z' r q' → Same at room z (behind_output w r) q
  after_it w at room next z z' r q q' e f (inl h) = inl (ap (behind_output w) h ∙ ap without_report (sym e))
  after_it w at room next z z' r q q' e f (inr (h, l)) = inr (h, f l)

  not_zero : (n : ℕ) (l : ℕ) → damaged n ≡ true → (n ≡ 0) ⊎ ((n ≡ 17) × (area < l)) → ⊥
  not_zero n l b (inl h) = let u = damage n b in omega (arith, u.0, h)
  not_zero n l b (inr h) = let u = damage n b in omega (arith, u.0, h.0)

  never : {at room : ℕ} {z : Configuration} {r : Salvage} → Salvages a x s area at room z r → (q : Result) → Runs a s false at room z q → q.number ≡ 0 → Same at room z r q
  never (passes {at} {room} {z} {r} e next z' w m h t d) q k n =
      let (q', k', p) = subst (AfterToken a s false at room z next q) t (split a s false k (Token e (record { at = next })) m) in
      after_it w at room next z z' r q q' p (passed at room z e next z' w m h t) (never d q' k' (sym (ap (λ (j : Result). j.number) p) ∙ n))
  never (stands n h st) q k z = inl (ap without_report (one_run a s false (halts st) k))
  never (keeps {at} {room} {z} {r} to next y z' w h i f d) q k n =
      let (u, q', e, l, k', p) = in_a_run a s area i room q k n in
      after_it w at room next z z' r q q' (p ∙ ap (λ (j : List ℕ). after_writing j q') (sym e)) (kept at room z to next y z' w h i f)
      (never d q' (subst (λ (j : List ℕ). Runs a s false next (room_left room j) z' q') (sym e) k') (sym (ap (λ (j : Result). j.number) p) ∙ n))
  never (full_room {at} {room} to next y z' w h i f) q k n =
      let (u, q', e, l, k', p) = in_a_run a s area i room q k n in
      absurd (omega (arith, l, f, ap length e))
  never (waits {at} {room} {z} to y h i) q k n =
      let l = token_in s at h.event h.next h.reads in
      let (o, d, f) = record_goes a x s (length q.output) at (omega (arith, l.0, l.1)) z h in
      inr (refl, by o d f (in_a_run a s (length q.output) d room q k n))
    where
      no_zero : (m : ℕ) → Numbered m → m ≡ 0 → ⊥
      no_zero m (inl e) g = omega (arith, e, g)
      no_zero m (inr (inl b)) g = let u = damage m b in omega (arith, u.0, g)
      no_zero m (inr (inr (inl e))) g = omega (arith, e, g)
      no_zero m (inr (inr (inr e))) g = omega (arith, e, g)

      by : (o : RecordEnd) → InRecord a s (length q.output) at z [] o → KnownEnd a s (length q.output) o → EndsIn a s (length q.output) room z [] q o → LongRecord a x s area at room z
      by (broken m to₁ y₁) d f (inl e) = absurd (no_zero m f e)
      by (broken m to₁ y₁) d f (inr (e, l)) = absurd (omega (arith, l))
      by (whole to₁ y₁ next z' w) d f g = on (leb (length w) area) refl
        where
          on : (b : Bool) → leb (length w) area ≡ b → LongRecord a x s area at room z
          on true e =
              let c = record_one a s area i ((whole_fits (length q.output) to₁ next y₁ z' w d).2 (leb-true (length w) area e)) in
              absurd (let j : ◌≡◌ {A = ℕ} 0 1 = cc in omega arith)
          on false e =
              record {
                at = at;
                written = [];
                left = room;
                stands_in = z;
                comes = there;
                is_record = h;
                wide = length q.output;
                to = to₁;
                next = next;
                ends_in = y₁;
                goes_on_in = z';
                output = w;
                is_whole = d;
                longer = leb-false (length w) area e;
              }
  never (drops {at} {room} n to last y h i b p d) q k z = absurd (not_zero n (0 + length q.output) b (in_a_run a s area i room q k z))
  never (loses {at} {room} n to last y h i b p e) q k z = absurd (not_zero n (0 + length q.output) b (in_a_run a s area i room q k z))
  never (cut_off {at} {room} to last y h i e) q k z = absurd (by (in_a_run a s area i room q k z))
    where
      by : ◌≡◌ {A = ℕ} 27 0 ⊎ (◌≡◌ {A = ℕ} 27 17 × (area < 0 + length q.output)) → ⊥
      by (inl e) = omega (arith, e)
      by (inr (e, l)) = omega (arith, e)
  never (over {at} {room} to y h i) q k z = absurd (by (in_a_run a s area i room q k z))
    where
      by : ◌≡◌ {A = ℕ} 30 0 ⊎ (◌≡◌ {A = ℕ} 30 17 × (area < 0 + length q.output)) → ⊥
      by (inl e) = omega (arith, e)
      by (inr (e, l)) = omega (arith, e)

-- a stream that is never refused
pub never_refused : (a : Sheet) (x : RecordTags) → NeverRefused a x
never_refused a x s area room r d q k n = never a s area x d q k n
