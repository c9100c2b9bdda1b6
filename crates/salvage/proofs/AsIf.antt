-- All of it comes out as if the record had never been sent: up to the record both runs take the same way, since `<` stands there in both streams; a record that lacks its end is refused there
-- in both; from there on `NeverSent` has it.
-- Assumes nothing.
use mathlib.Core.Path.{◌≡◌, refl, sym, ap, ◌∙◌, subst}
use mathlib.Core.Logic.{◌⊎◌, inl, inr}
use mathlib.Core.Bool.{Bool, true, false}
use mathlib.Core.List.{List, [], ◌∷◌, ◌++◌}
use Prim.Native.Nat.{ℕ, suc, ◌+◌, ◌≤◌, ◌<◌}
use native.Mathlib.Omega.{arith}
use lib.Dec.{ltb}
use lib.ListN.{length, drop, length-append, length-drop}
use lib.Seq.{drop-append-le, drop-append_seam}
use borrow.Author.Tests.{ltb-true, ltb-false}
use Rattle.text.specs.Chars.{Starts}
use Rattle.tokens.specs.Tokens.{start, end, empty, Tok, tag, ref, numeric, line, char, bytes}
use Rattle.tokens.specs.declared.Event.{Event}
use Rattle.tokens.specs.declared.Answer.TheVariants.{Token as Read}
use Rattle.tokens.specs.Stream.{ReadAs}
use Rattle.sheet.specs.Sheet.{Sheet}
use Rattle.runs.specs.Fits.{NamesFit}
use Rattle.runs.specs.Machine.{Configuration, fresh_configuration}
use Rattle.runs.specs.Spells.{Token}
use Rattle.runs.proofs.Execute.{both_true}
use Rattle.calls.specs.Names.{token_for, token_of}
use Rattle.calls.specs.Limits.{one_token}
use Rattle.calls.specs.Call.{Result, after_writing, Stop}
use Rattle.calls.proofs.Read.{read_token, token_of_lem}
use Rattle.salvage.specs.Shape.{RecordTags, OfShape}
use Rattle.salvage.specs.Resumption.{record_start, root_end, MayResume, ResumesAt}
use Rattle.salvage.specs.Salvage.{root_only, starts_with, begins_record, RecordAt, broken, InRecord, LostStretch, lost, damaged, Salvage, Salvages, passes, keeps, drops}
use Rattle.salvage.specs.NeverSent.{ComesTo, there, passes_on, keeps_on, drops_on, SameStretches, no_more, also, just_before, AsIfNeverSent}
use Rattle.salvage.proofs.One.{salvage_one}
use Rattle.salvage.proofs.Follows.{record_moves, writes_both}
use Rattle.salvage.proofs.Some.{runs_on}
use Rattle.salvage.proofs.Before.{token_in, starts_more, token_kept, token_before, record_kept, record_stops}
use Rattle.salvage.proofs.Main.{root_open}
use Rattle.salvage.proofs.Inside.{Fine, taken_fine}
use Rattle.salvage.proofs.Unended.{open_past, broken_fine, whole_fine, stops_so, record_self, root_self, refused_there, stops_at}
use Rattle.salvage.proofs.NeverSent.{may_lie_in, may_open, as_without}

module _ (a : Sheet) (x : RecordTags) where
  -- a record begins with <
  record_opens : (s : List ℕ) (at : ℕ) (z : Configuration) → RecordAt a x s at z → (u : List ℕ) × (drop at s ≡ 60 ∷ u)
  record_opens s at z h =
      let t = read_token false s at h.event h.next h.reads in
      let b = (both_true (root_only z.control) (starts_with x.record_tag (token_of a s h.event)) h.begins).1 in
      by t.tok (subst (λ (k : Token). starts_with x.record_tag k ≡ true) (token_of_lem a s t) b) t.split
    where
      by : (t : Tok) → starts_with x.record_tag (token_for a t) ≡ true → drop at s ≡ bytes t ++ drop h.next s → (u : List ℕ) × (drop at s ≡ 60 ∷ u)
      by (tag start n b) k e = (_, e)
      by (tag end n b) k e = (_, e)
      by (tag empty n b) k e = (_, e)
      by (ref r) k e = absurd (let y : ◌≡◌ {A = ℕ} 0 1 = cc in omega arith)
      by (numeric r ds) k e = absurd (let y : ◌≡◌ {A = ℕ} 0 1 = cc in omega arith)
      by (line r) k e = absurd (let y : ◌≡◌ {A = ℕ} 0 1 = cc in omega arith)
      by (char c) k e = absurd (let y : ◌≡◌ {A = ℕ} 0 1 = cc in omega arith)

  module _ (s : List ℕ) (area stop : ℕ) where
    record_in : (at : ℕ) (z : Configuration) → RecordAt a x s at z → at ≤ length s
    record_in at z h = let i = token_in s at h.event h.next h.reads in omega (arith, i.0, i.1)

    comes_before : {at room room' : ℕ} {z z' : Configuration} {w : List ℕ} {ds : List LostStretch} → ComesTo a x s area stop at room z w ds room' z' → at ≤ stop
    comes_before there = omega arith
    comes_before (passes_on {at} e next y u m h t d) = let i = token_in s at e next m in let j = comes_before d in omega (arith, i.0, j)
    comes_before (keeps_on {at} {z = z} to next y₁ y u h i f d) = let k = record_moves a s area i (record_in at z h) in let j = comes_before d in omega (arith, k.1, j)
    comes_before (drops_on n to last y h i b q d) = let j = comes_before d in omega (arith, q.past_start, j)

    -- what was written and dropped on the way, before the rest
    abbrev prefixed : List ℕ → List LostStretch → Salvage → Salvage
    prefixed w ds r = record { answer = after_writing w r.answer; report = ds ++ r.report }

    comes_then : {at room room' : ℕ} {z z' : Configuration} {w : List ℕ} {ds : List LostStretch} (r : Salvage) → ComesTo a x s area stop at room z w ds room' z' →
        Salvages a x s area stop room' z' r → Salvages a x s area at room z (prefixed w ds r)
    comes_then r there k = k
    comes_then r (passes_on {at} {room} {z = z} {w = w} {ds = ds} e next y u m h t d) k =
        subst (Salvages a x s area at room z) (ap (λ (q : Result). record { answer = q; report = ds ++ r.report }) (writes_both u w r.answer))
        (passes e next y u m h t (comes_then r d k))
    comes_then r (keeps_on {at} {room} {z = z} {w = w} {ds = ds} to next y₁ y u h i f d) k =
        subst (Salvages a x s area at room z) (ap (λ (q : Result). record { answer = q; report = ds ++ r.report }) (writes_both u w r.answer))
        (keeps to next y₁ y u h i f (comes_then r d k))
    comes_then r (drops_on n to last y h i b q d) k = drops n to last y h i b q (comes_then r d k)

  module _ (fit : NamesFit a.names) (p u v : List ℕ) (resume : MayResume a x (60 ∷ v) 0) (area : ℕ) where
    abbrev s : List ℕ
    s = p ++ 60 ∷ u

    abbrev s' : List ℕ
    s' = p ++ 60 ∷ v

    record_at_kept : (at : ℕ) (z : Configuration) → at < length p → RecordAt a x s at z → RecordAt a x s' at z
    record_at_kept at z l h =
        let (e', m', q) = token_kept a p u v at h.event h.next h.reads (token_before a p u v at h.event h.next h.reads l) in
        record { event = e'; next = h.next; reads = m'; begins = ap (begins_record x z.control) q ∙ h.begins }

    -- a byte string that begins before the < stands there whatever follows
    may_kept : (r r' : List ℕ) (i : ℕ) → i < length p → MayResume a x (p ++ 60 ∷ r) i → MayResume a x (p ++ 60 ∷ r') i
    may_kept r r' i l m =
        let e = drop-append-le i p (60 ∷ r) (omega (arith, l)) in
        let e' = drop-append-le i p (60 ∷ r') (omega (arith, l)) in
        subst (λ (f : List ℕ). Starts f (record_start a x) ⊎ Starts f (root_end a x)) (sym e')
        (on (may_lie_in a x fit (drop i p) r (omega (arith, length-drop i p, l)) (subst (λ (f : List ℕ). Starts f (record_start a x) ⊎ Starts f (root_end a x)) e m)))
      where
        on : Starts (drop i p) (record_start a x) ⊎ Starts (drop i p) (root_end a x) → Starts (drop i p ++ 60 ∷ r') (record_start a x) ⊎ Starts (drop i p ++ 60 ∷ r') (root_end a x)
        on (inl k) = inl (starts_more (drop i p) (60 ∷ r') (record_start a x) k)
        on (inr k) = inr (starts_more (drop i p) (60 ∷ r') (root_end a x) k)

    resumes_kept : (first bad to : ℕ) → to ≤ length p → ResumesAt a x s first bad to → ResumesAt a x s' first bad to
    resumes_kept first bad to l q =
        record {
          not_before = q.not_before;
          past_start = q.past_start;
          stands = by (ltb to (length p)) refl;
          none_sooner = λ i i₁ i₂ i₃ m. q.none_sooner i i₁ i₂ i₃ (may_kept v u i (omega (arith, i₃, l)) m);
        }
      where
        by : (b : Bool) → ltb to (length p) ≡ b → MayResume a x s' to
        by true h = may_kept u v to (ltb-true to (length p) h) q.stands
        by false h =
            let e : length p ≡ to = let k = ltb-false to (length p) h in omega (arith, k, l) in
            subst (λ (f : List ℕ). Starts f (record_start a x) ⊎ Starts f (root_end a x)) (sym (drop-append_seam p (60 ∷ v)) ∙ ap (λ (i : ℕ). drop i s') e) resume

    module _ (records : ℕ) (shape : OfShape a records x) (e₀ : Event) (next₀ : ℕ) (m₀ : ReadAs false s (length p) (Read e₀ (record { at = next₀ })))
        (b₀ : starts_with x.record_tag (token_of a s e₀) ≡ true) where
      abbrev Kept : ℕ → ℕ → Configuration → List ℕ → List LostStretch → ℕ → Configuration → Type 0
      Kept at room z w ds room' z' = (ds' : List LostStretch) × ComesTo a x s' area (length p) at room z w ds' room' z' × SameStretches (length p) ds ds'

      -- the record that lacks its end is refused at the < in both
      unended_kept : (at room room' : ℕ) (z z' : Configuration) (w : List ℕ) (ds : List LostStretch) (n to last : ℕ) (y : Configuration) → Fine a records x shape z.control → RecordAt a x s at z →
          InRecord a s area at z [] (broken n to y) → damaged n ≡ true → ResumesAt a x s at to (suc last) → to ≡ length p → suc last ≡ length p →
          ComesTo a x s area (length p) (suc last) room z w ds room' z' → ComesTo a x s' area (length p) (suc last) room z w ds room' z' → ds ≡ [] →
          Kept at room z w (lost at last n ∷ ds) room' z'
      unended_kept at room room' z z' w ds n to last y f h i b q et el d d' ended =
          let l = comes_before s area (length p) d in
          let f₁ = broken_fine a records x shape s area n to y i f in
          let o₁ = open_past a records x shape s area n to y i (omega (arith, et, el, q.past_start)) in
          let (room₁, stop) = stops_so a records x shape s area n to y i in
          let (is, un) = refused_there a records x shape s (length p) e₀ next₀ m₀ b₀ y o₁ f₁ room₁ n b (subst (λ (k : ℕ). Stop a s false k room₁ y n) et stop) in
          let self = root_self a records x shape z.control (root_open a x s at z h) f in
          let here : MayResume a x s' (length p) =
          subst (λ (f : List ℕ). Starts f (record_start a x) ⊎ Starts f (root_end a x)) (sym (drop-append_seam p (60 ∷ v))) resume in
          let (n', which, stop') = stops_at a records x shape fit (record_self a records x shape s (length p) e₀ next₀ m₀ b₀) self s' (length p) y o₁ f₁ here in
          let i' = record_stops a p u v area n to y n' i (omega (arith, et)) (λ k. subst (λ (j : ℕ). Stop a s' false j k y n') (sym et) (subst (Stop a s' false (length p) k y) (un n') (stop' k))) in
          let h' = record_at_kept at z (omega (arith, q.past_start, el)) h in
          let b' : damaged n' ≡ true = by n' which in
          (lost at last n' ∷ ds, drops_on n' to last y h' i' b' (resumes_kept at to (suc last) l q) d', same n' which is)
        where
          by : (k : ℕ) → (k ≡ 22) ⊎ (k ≡ 23) → damaged k ≡ true
          by k (inl e) = ap damaged e
          by k (inr e) = ap damaged e

          same : (k : ℕ) → (k ≡ 22) ⊎ (k ≡ 23) → n ≡ 23 → SameStretches (length p) (lost at last n ∷ ds) (lost at last k ∷ ds)
          same k c is = subst (λ (l : List LostStretch). SameStretches (length p) (lost at last n ∷ l) (lost at last k ∷ l)) (sym ended) (on c)
            where
              on : (k ≡ 22) ⊎ (k ≡ 23) → SameStretches (length p) (lost at last n ∷ []) (lost at last k ∷ [])
              on (inl e) =
                  subst (λ (i : ℕ). SameStretches (length p) (lost at last i ∷ []) (lost at last k ∷ [])) (sym is)
                  (subst (λ (i : ℕ). SameStretches (length p) (lost at last 23 ∷ []) (lost at last i ∷ [])) (sym e) (just_before at last el))
              on (inr e) =
                  let j : n ≡ k = is ∙ sym e in
                  subst (λ (i : ℕ). SameStretches (length p) (lost at last n ∷ []) (lost at last i ∷ [])) j (also (lost at last n) no_more)

      -- where the way has come to its end nothing more is dropped
      arrived : {at room room' : ℕ} {z z' : Configuration} {w : List ℕ} {ds : List LostStretch} → ComesTo a x s area (length p) at room z w ds room' z' → length p ≤ at → ds ≡ []
      arrived there l = refl
      arrived (passes_on {at} e next y c m h t d) l = let i = token_in s at e next m in let j = comes_before s area (length p) d in absurd (omega (arith, i.0, j, l))
      arrived (keeps_on {at} {z = z} to next y₁ y c h i f d) l =
          let k = record_moves a s area i (record_in s area (length p) at z h) in let j = comes_before s area (length p) d in absurd (omega (arith, k.1, j, l))
      arrived (drops_on n to last y h i b q d) l = let j = comes_before s area (length p) d in absurd (omega (arith, q.past_start, j, l))

      comes_kept : {at room room' : ℕ} {z z' : Configuration} {w : List ℕ} {ds : List LostStretch} → ComesTo a x s area (length p) at room z w ds room' z' →
          Fine a records x shape z.control → Kept at room z w ds room' z'
      comes_kept there f₀ = ([], there, no_more)
      comes_kept (passes_on {at} {room} {z = z} e next y c m h t d) f₀ =
          let (e', m', q) = token_kept a p u v at e next m (comes_before s area (length p) d) in
          let (ds', d', k) = comes_kept d (taken_fine a records x shape s e z room y c t f₀) in
          (ds', passes_on e' next y c m' (ap (begins_record x z.control) q ∙ h) (ap (one_token a z room) q ∙ t) d', k)
      comes_kept (keeps_on {at} {z = z} to next y₁ y c h i f d) f₀ =
          let l = comes_before s area (length p) d in
          let k = record_moves a s area i (record_in s area (length p) at z h) in
          let (ds', d', g) = comes_kept d (whole_fine a records x shape s area to next y₁ y c i f₀) in
          (ds', keeps_on to next y₁ y c (record_at_kept at z (omega (arith, k.1, l)) h) (record_kept a p u v area i l) f d', g)
      comes_kept (drops_on {at} {room} {room'} {z} {z'} {w} {ds} n to last y h i b q d) f₀ = by (ltb to (length p)) refl (comes_kept d f₀)
        where
          k : suc last ≤ length p
          k = comes_before s area (length p) d

          by : (c : Bool) → ltb to (length p) ≡ c → Kept (suc last) room z w ds room' z' → Kept at room z w (lost at last n ∷ ds) room' z'
          by true e (ds', d', g) =
              let l = ltb-true to (length p) e in (
                lost at last n ∷ ds',
                drops_on n to last y (record_at_kept at z (omega (arith, q.past_start, k)) h) (record_kept a p u v area i (l, b)) b (resumes_kept at to (suc last) k q) d',
                also (lost at last n) g,
              )
          by false e (ds', d', g) =
              let l = ltb-false to (length p) e in
              let et : to ≡ length p = omega (arith, l, q.not_before, k) in
              let el : suc last ≡ length p = omega (arith, l, q.not_before, k) in
              let ended = arrived d (omega (arith, el)) in
              let ended' = none_kept ds' (subst (λ (i : List LostStretch). SameStretches (length p) i ds') ended g) in
              unended_kept at room room' z z' w ds n to last y f₀ h i b q et el d (subst (λ (i : List LostStretch). ComesTo a x s' area (length p) (suc last) room z w i room' z') (ended' ∙ sym ended) d') ended
            where
              none_kept : (ls : List LostStretch) → SameStretches (length p) [] ls → ls ≡ []
              none_kept ls no_more = refl

-- all of it comes out as if the record had never been sent
pub as_if_never_sent : (a : Sheet) (x : RecordTags) → AsIfNeverSent a x
as_if_never_sent a x fit records shape area room p d q w ds room' z n come h r k =
    let s : List ℕ = p ++ (d ++ q) in
    let (u, e) = record_opens a x s (length p) z h.is_record in
    let eu : d ++ q ≡ 60 ∷ u = sym (drop-append_seam p (d ++ q)) ∙ e in
    let (v, ev) = may_open a x fit q h.followed in
    let come₁ = subst (λ (l : List ℕ). ComesTo a x (p ++ l) area (length p) 0 room fresh_configuration w ds room' z) eu come in
    let own = subst (λ (l : List ℕ). RecordAt a x (p ++ l) (length p) z) eu h.is_record in
    let starts_it = (both_true (root_only z.control) (starts_with x.record_tag (token_of a (p ++ 60 ∷ u) own.event)) own.begins).1 in
    let (earlier, come₂, same) =
    comes_kept a x fit p u v (subst (λ (l : List ℕ). MayResume a x l 0) ev h.followed) area records shape own.event own.next own.reads starts_it come₁ tt in
    let come₃ = subst (λ (l : List ℕ). ComesTo a x (p ++ l) area (length p) 0 room fresh_configuration w earlier room' z) (sym ev) come₂ in
    let (r₁, k₁) = runs_on a x s area (length s) (length p) (omega (arith, length-append p (d ++ q))) (omega arith) room' z in
    let f = as_without a x fit area room' p d q z n h r₁ k₁ in
    let one = salvage_one a x s area k (comes_then a x s area (length p) r₁ come k₁) ∙ ap (prefixed a x s area (length p) w ds) f.same in
    record {
      without = prefixed a x (p ++ q) area (length p) w earlier f.without;
      salvaged = comes_then a x (p ++ q) area (length p) f.without come₃ f.salvages;
      number = ap (λ (y : Salvage). y.answer.number) one;
      taken = ap (λ (y : Salvage). y.answer.taken) one;
      output = ap (λ (y : Salvage). y.answer.output) one;
      held = ap (λ (y : Salvage). y.answer.held) one;
      last = f.last;
      is_last = f.is_last;
      earlier = earlier;
      same_earlier = same;
      behind = f.without.report;
      report = ap (λ (y : Salvage). y.report) one;
      report_without = refl;
    }
