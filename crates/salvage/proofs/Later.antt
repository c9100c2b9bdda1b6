-- A run depends on the bytes from where it stands alone: on another stream that goes on with the same bytes it is the same, its places shifted.
-- Assumes nothing.
use mathlib.Core.Path.{◌≡◌, refl, sym, ap, ap₂, ◌∙◌, subst}
use mathlib.Core.Logic.{inl, inr}
use mathlib.Core.Bool.{Bool, true, false}
use mathlib.Core.List.{List, [], ◌++◌}
use Prim.Native.Nat.{ℕ, suc, ◌+◌, ◌-◌, ◌≤◌}
use native.Mathlib.Omega.{arith}
use lib.Dec.{ltb}
use lib.ListN.{length, drop}
use borrow.Author.Tests.{ltb-true, ltb-false, lt-ltb, le-ltb}
use Rattle.expressions.specs.Grammar.{only_if}
use Rattle.text.specs.Chars.{Starts}
use Rattle.tokens.specs.declared.Event.{Event}
use Rattle.tokens.specs.declared.Answer.TheVariants.{Token}
use Rattle.tokens.specs.Stream.{ReadAs}
use Rattle.sheet.specs.Sheet.{Sheet}
use Rattle.runs.specs.Machine.{Configuration}
use Rattle.calls.specs.Names.{token_of}
use Rattle.calls.specs.Limits.{one_token}
use Rattle.calls.specs.Call.{Result, stopped_at, room_left}
use Rattle.calls.proofs.Read.{read_token, read_moves, token_there}
use Rattle.salvage.specs.Shape.{RecordTags}
use Rattle.salvage.specs.Resumption.{record_start, root_end, MayResume, ResumesAt}
use Rattle.salvage.specs.Salvage.{begins_record, RecordAt, NoRecordAt, RecordEnd, whole, broken, InRecord, goes_on, ends, breaks, LostStretch, lost, Salvage, without_report, behind_output, reporting, Salvages, passes, stands, keeps, full, waits, drops, loses, cut_off, over}
use Rattle.salvage.specs.NeverSent.{later_stretches}
use Rattle.salvage.proofs.Follows.{stop_there, record_moves}
use Rattle.salvage.proofs.Main.{record_begins, resumes_in}

abbrev pub later_result : ℕ → Result → Result
later_result n r = record { number = r.number; taken = n + r.taken; output = r.output; held = r.held }

abbrev pub later_salvage : ℕ → Salvage → Salvage
later_salvage n r = record { answer = later_result n r.answer; report = later_stretches n r.report }

abbrev later_end : ℕ → RecordEnd → RecordEnd
later_end k (whole at y next z w) = whole (k + at) y (k + next) z w
later_end k (broken n at y) = broken n (k + at) y

-- from `low` on the bytes of s' are those of s, k bytes later
module _ (a : Sheet) (x : RecordTags) (s s' : List ℕ) (k low : ℕ) (same : (i : ℕ) → low ≤ i → drop (k + i) s ≡ drop i s') (long : length s ≡ k + length s') where
  abbrev There : ℕ → Event → ℕ → Type 0
  There at' e next = (e' : Event) × (to : ℕ) × ReadAs false s' at' (Token e' (record { at = to })) × (next ≡ k + to) × (at' ≤ to) × (token_of a s' e' ≡ token_of a s e)

  at_there : (at at' : ℕ) → low ≤ at' → at ≡ k + at' → drop at s ≡ drop at' s'
  at_there at at' l h = ap (λ (i : ℕ). drop i s) h ∙ same at' l

  there : (at at' : ℕ) → low ≤ at' → at ≡ k + at' → (e : Event) (next : ℕ) → ReadAs false s at (Token e (record { at = next })) → There at' e next
  there at at' l h e next m =
      let t = token_there false s s' at at' (at_there at at' l h) e next m in
      let n = (read_token false s at e next m).ends in
      (t.event, t.to, t.read, omega (arith, t.as_long, h), omega (arith, t.as_long, h, n), t.same a)

  record_there : (at at' : ℕ) (z : Configuration) → low ≤ at' → at ≡ k + at' → RecordAt a x s at z → RecordAt a x s' at' z
  record_there at at' z l h r =
      let (e', to, m, i, j, q) = there at at' l h r.event r.next r.reads in
      record { event = e'; next = to; reads = m; begins = ap (begins_record x z.control) q ∙ r.begins }

  none_begins : (at at' : ℕ) (z : Configuration) → low ≤ at' → at ≡ k + at' → NoRecordAt a x s at z → NoRecordAt a x s' at' z
  none_begins at at' z l h n e next m =
      let t = token_there false s' s at' at (sym (at_there at at' l h)) e next m in
      ap (begins_record x z.control) (sym (t.same a)) ∙ n t.event t.to t.read

  resumes_there : (i i' : ℕ) → low ≤ i' → i ≡ k + i' → MayResume a x s i → MayResume a x s' i'
  resumes_there i i' l h (inl q) = inl (subst (λ (f : List ℕ). Starts f (record_start a x)) (at_there i i' l h) q)
  resumes_there i i' l h (inr q) = inr (subst (λ (f : List ℕ). Starts f (root_end a x)) (at_there i i' l h) q)

  resumes_here : (i i' : ℕ) → low ≤ i' → i ≡ k + i' → MayResume a x s' i' → MayResume a x s i
  resumes_here i i' l h (inl q) = inl (subst (λ (f : List ℕ). Starts f (record_start a x)) (sym (at_there i i' l h)) q)
  resumes_here i i' l h (inr q) = inr (subst (λ (f : List ℕ). Starts f (root_end a x)) (sym (at_there i i' l h)) q)

  module _ (area : ℕ) where
    in_there : {at : ℕ} {y : Configuration} {v : List ℕ} {o : RecordEnd} → InRecord a s area at y v o → (at' : ℕ) → low ≤ at' → at ≡ k + at' →
        (o' : RecordEnd) × InRecord a s' area at' y v o' × (o ≡ later_end k o')
    in_there (goes_on {at} {y} {v} e next y' w m t h d) at' l p =
        let (e', to, m', i, j, q) = there at at' l p e next m in
        let (o', d', r) = in_there d to (omega (arith, l, j)) i in
        (o', goes_on e' to y' w m' (ap (one_token a y (room_left area v)) q ∙ t) h d', r)
    in_there (ends {at} {y} {v} e next z w m t h) at' l p =
        let (e', to, m', i, j, q) = there at at' l p e next m in
        (whole at' y to z (v ++ w), ends e' to z w m' (ap (one_token a y (room_left area v)) q ∙ t) h, ap₂ (λ (b c : ℕ). whole b y c z (v ++ w)) p i)
    in_there (breaks {at} {y} {v} n q) at' l p =
        (broken n at' y, breaks n (stop_there a s s' false at at' (room_left area v) y n (at_there at at' l p) q), ap (λ (b : ℕ). broken n b y) p)

    -- of a record that is whole, and of one that is broken
    whole_there : (at at' to next : ℕ) (y₀ y z : Configuration) (v w : List ℕ) → low ≤ at' → at ≡ k + at' → at ≤ length s → InRecord a s area at y₀ v (whole to y next z w) →
        (to' next' : ℕ) × InRecord a s' area at' y₀ v (whole to' y next' z w) × (to ≡ k + to') × (next ≡ k + next')
    whole_there at at' to next y₀ y z v w l p f d = by (in_there d at' l p)
      where
        by : (o' : RecordEnd) × InRecord a s' area at' y₀ v o' × (whole to y next z w ≡ later_end k o') →
            (to' next' : ℕ) × InRecord a s' area at' y₀ v (whole to' y next' z w) × (to ≡ k + to') × (next ≡ k + next')
        by (whole to' y₁ next' z₁ w₁, d', e) =
            let yy : y₁ ≡ y = cc in
            let zz : z₁ ≡ z = cc in
            let ww : w₁ ≡ w = cc in (
              to',
              next',
              subst (λ (c : Configuration). InRecord a s' area at' y₀ v (whole to' c next' z w)) yy
                  (subst (λ (c : Configuration). InRecord a s' area at' y₀ v (whole to' y₁ next' c w)) zz (subst (λ (c : List ℕ). InRecord a s' area at' y₀ v (whole to' y₁ next' z₁ c)) ww d')),
              cc,
              cc,
            )
        by (broken n to' y₁, d', e) = absurd (let u : ◌≡◌ {A = ℕ} 0 1 = cc in omega arith)

    broken_there : (at at' n to : ℕ) (y₀ y : Configuration) (v : List ℕ) → low ≤ at' → at ≡ k + at' → InRecord a s area at y₀ v (broken n to y) →
        (to' : ℕ) × InRecord a s' area at' y₀ v (broken n to' y) × (to ≡ k + to')
    broken_there at at' n to y₀ y v l p d = by (in_there d at' l p)
      where
        by : (o' : RecordEnd) × InRecord a s' area at' y₀ v o' × (broken n to y ≡ later_end k o') → (to' : ℕ) × InRecord a s' area at' y₀ v (broken n to' y) × (to ≡ k + to')
        by (whole to' y₁ next' z₁ w₁, d', e) = absurd (let u : ◌≡◌ {A = ℕ} 0 1 = cc in omega arith)
        by (broken n₁ to' y₁, d', e) =
            let yy : y₁ ≡ y = cc in
            let nn : n₁ ≡ n = cc in
            (to', subst (λ (c : Configuration). InRecord a s' area at' y₀ v (broken n to' c)) yy (subst (λ (c : ℕ). InRecord a s' area at' y₀ v (broken c to' y₁)) nn d'), cc)

    abbrev Moved : ℕ → ℕ → Configuration → Salvage → Type 0
    Moved at' room z r = (r' : Salvage) × Salvages a x s' area at' room z r' × (r ≡ later_salvage k r')

    pub moves : {at room : ℕ} {z : Configuration} {r : Salvage} → Salvages a x s area at room z r → at ≤ length s → (at' : ℕ) → low ≤ at' → at ≡ k + at' → Moved at' room z r
    moves (passes {at} {room} {z} {r} e next z' w m h t d) f at' l p =
        let (e', to, m', i, j, q) = there at at' l p e next m in
        let g = read_moves false s at e next m f in
        let (r', d', u) = moves d g.1 to (omega (arith, l, j)) i in
        (behind_output w r', passes e' to z' w m' (ap (begins_record x z.control) q ∙ h) (ap (one_token a z room) q ∙ t) d', ap (behind_output w) u)
    moves (stands {at} {room} {z} n h q) f at' l p =
        (without_report (stopped_at n at' z), stands n (none_begins at at' z l p h) (stop_there a s s' false at at' room z n (at_there at at' l p) q), ap (λ (b : ℕ). without_report (stopped_at n b z)) p)
    moves (keeps {at} {room} {z} {r} to next y z' w h i c d) f at' l p =
        let (to', next', i', u, v) = whole_there at at' to next z y z' [] w l p f i in
        let g = record_moves a s area i f in
        let (r', d', q) = moves d g.2 next' (omega (arith, l, p, v, g.1)) v in
        (behind_output w r', keeps to' next' y z' w (record_there at at' z l p h) i' c d', ap (behind_output w) q)
    moves (full {at} {room} {z} to next y z' w h i c) f at' l p =
        let (to', next', i', u, v) = whole_there at at' to next z y z' [] w l p f i in
        (without_report (stopped_at 17 to' y), full to' next' y z' w (record_there at at' z l p h) i' c, ap (λ (b : ℕ). without_report (stopped_at 17 b y)) u)
    moves (waits {at} {room} {z} to y h i) f at' l p =
        let (to', i', u) = broken_there at at' 17 to z y [] l p i in
        (without_report (stopped_at 17 to' y), waits to' y (record_there at at' z l p h) i', ap (λ (b : ℕ). without_report (stopped_at 17 b y)) u)
    moves (drops {at} {room} {z} {r} n to last y h i b q d) f at' l p =
        let (to', i', u) = broken_there at at' n to z y [] l p i in
        let g = record_moves a s area i f in
        let last' : ℕ = last - k in
        let c : last ≡ k + last' = omega (arith, q.past_start, p) in
        let j : suc last ≡ k + suc last' = omega (arith, c) in
        let low' : low ≤ suc last' = omega (arith, q.past_start, p, l, c) in
        let q' : ResumesAt a x s' at' to' (suc last') =
        record {
          not_before = omega (arith, q.not_before, u, c);
          past_start = omega (arith, q.past_start, p, c);
          stands = resumes_there (suc last) (suc last') low' j q.stands;
          none_sooner = λ e e₁ e₂ e₃ e₄.
              q.none_sooner (k + e) (omega (arith, e₁, u)) (omega (arith, e₂, p)) (omega (arith, e₃, j)) (resumes_here (k + e) e (omega (arith, e₂, l)) refl e₄);
        } in
        let (r', d', v) = moves d (resumed (suc last) q.stands) (suc last') low' j in (
          reporting (lost at' last' n) r',
          drops n to' last' y (record_there at at' z l p h) i' b q' d',
          ap (reporting (lost at last n)) v ∙ ap₂ (λ (b c : ℕ). reporting (lost b c n) (later_salvage k r')) p c,
        )
      where
        resumed : (i : ℕ) → MayResume a x s i → i ≤ length s
        resumed i r = let j = resumes_in a x s i r in omega (arith, j.1)
    moves (loses {at} {room} {z} n to last y h i b q e) f at' l p =
        let (to', i', u) = broken_there at at' n to z y [] l p i in
        let g = record_begins a x s at z h f in
        let last' : ℕ = last - k in
        let c : last ≡ k + last' = omega (arith, g, p, e) in (
          reporting (lost at' last' n) (without_report (stopped_at 27 (length s') z)),
          loses n to' last' y (record_there at at' z l p h) i' b (λ j j₁ j₂ j₃. q (k + j) (omega (arith, j₁, u)) (omega (arith, j₂, p)) (resumes_here (k + j) j (omega (arith, j₂, l)) refl j₃))
              (omega (arith, e, c, long)),
          ap₂ (λ (b c : ℕ). reporting (lost b c n) (without_report (stopped_at 27 (length s) z))) p c
              ∙ ap (λ (b : ℕ). reporting (lost (k + at') (k + last') n) (without_report (stopped_at 27 b z))) long,
        )
    moves (cut_off {at} {room} {z} to last y h i e) f at' l p =
        let (to', i', u) = broken_there at at' 27 to z y [] l p i in
        let g = record_begins a x s at z h f in
        let last' : ℕ = last - k in
        let c : last ≡ k + last' = omega (arith, g, p, e) in (
          reporting (lost at' last' 27) (without_report (stopped_at 27 to' z)),
          cut_off to' last' y (record_there at at' z l p h) i' (omega (arith, e, c, long)),
          ap₂ (λ (b c : ℕ). reporting (lost b c 27) (without_report (stopped_at 27 to z))) p c
              ∙ ap (λ (b : ℕ). reporting (lost (k + at') (k + last') 27) (without_report (stopped_at 27 b z))) u,
        )
    moves (over {at} {room} {z} to y h i) f at' l p =
        let (to', i', u) = broken_there at at' 30 to z y [] l p i in (
          record { answer = stopped_at 30 to' z; report = only_if (ltb at' to') (lost at' (to' - 1) 30) },
          over to' y (record_there at at' z l p h) i',
          ap₂ (λ (b : ℕ) (ls : List LostStretch). record { answer = stopped_at 30 b z; report = ls }) u (entry to to' u (ltb at to) refl),
        )
      where
        entry : (to to' : ℕ) → to ≡ k + to' → (b : Bool) → ltb at to ≡ b → only_if (ltb at to) (lost at (to - 1) 30) ≡ later_stretches k (only_if (ltb at' to') (lost at' (to' - 1) 30))
        entry to to' u true e =
            let j = ltb-true at to e in
            ap₂ (λ (b : Bool) (l : LostStretch). only_if b l) e (ap₂ (λ (b c : ℕ). lost b c 30) p (omega (arith, j, u, p)))
            ∙ ap (λ (b : Bool). later_stretches k (only_if b (lost at' (to' - 1) 30))) (sym (lt-ltb at' to' (omega (arith, j, u, p))))
        entry to to' u false e =
            let j = ltb-false at to e in
            ap (λ (b : Bool). only_if b (lost at (to - 1) 30)) e
            ∙ ap (λ (b : Bool). later_stretches k (only_if b (lost at' (to' - 1) 30))) (sym (le-ltb at' to' (omega (arith, j, u, p))))
