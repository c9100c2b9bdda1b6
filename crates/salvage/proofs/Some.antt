-- Every stream has an answer: each token taken leaves fewer bytes, and so does each record, kept or dropped; inside a record a run stops with 17, 20 to 25, 27 or 30 alone.
-- Assumes nothing.
use mathlib.Core.Path.{◌≡◌, refl, sym, ap₂, subst}
use mathlib.Core.Logic.{◌⊎◌, inl, inr}
use mathlib.Core.Bool.{Bool, true, false, ◌&&◌}
use mathlib.Core.List.{List, [], ◌∷◌, ◌++◌, head-eq_of_cons-eq, tail-eq_of_cons-eq}
use mathlib.Core.Option.{none, some}
use Prim.Native.Nat.{ℕ, zero, suc, ◌+◌, ◌-◌, ◌≤◌, ◌<◌}
use native.Mathlib.Omega.{arith}
use native.Mathlib.Decide.{ℕ_discrete}
use lib.Dec.{leb, ltb}
use lib.ListN.{length, drop}
use borrow.Author.Tests.{le-leb, leb-true, leb-false, ltb-true, ltb-false}
use Rattle.text.specs.Chars.{Starts}
use Rattle.text.proofs.Shapes.{cons≢[]}
use Rattle.tokens.specs.declared.Event.{Event}
use Rattle.tokens.specs.declared.Answer.{Answer}
use Rattle.tokens.specs.declared.Answer.TheVariants.{Token, Waiting, Begun, Bad, Long}
use Rattle.tokens.specs.Stream.{ReadAs}
use Rattle.tokens.proofs.Streams.{read_one}
use Rattle.tokens.proofs.Numerals.{Decided, decided}
use Rattle.sheet.specs.Sheet.{Sheet}
use Rattle.runs.specs.Visits.{most_visits}
use Rattle.runs.specs.Machine.{Control, before, inside, after, Configuration, fresh_configuration, took, refused}
use Rattle.runs.specs.Spells.{start_token, end_token, empty_token, literal, reference, step_token}
use Rattle.runs.proofs.Execute.{both_true}
use Rattle.calls.specs.Names.{token_of}
use Rattle.calls.specs.Limits.{output_of, Taking, taken, refuses, no_room, limited, within, one_token}
use Rattle.calls.specs.Call.{room_left, number_at, Stop, stops, full, no_token}
use Rattle.calls.proofs.Read.{some_read, never_waits, read_moves}
use Rattle.calls.proofs.Frame.{count_of, token_number}
use Rattle.calls.proofs.Steps.{RunToken, RunAnswer, takes_one}
use Rattle.salvage.specs.Shape.{RecordTags}
use Rattle.salvage.specs.Resumption.{record_start, root_end, MayResume, ResumesAt, NeverResumes}
use Rattle.salvage.specs.Salvage.{root_only, starts_with, begins_record, RecordAt, NoRecordAt, RecordEnd, whole, broken, InRecord, goes_on, ends, breaks, Salvage, damaged, Salvages, passes, stands, keeps, full as full_room, waits, drops, loses, cut_off, over}
use Rattle.salvage.specs.Promises.{SomeSalvage}
use Rattle.salvage.proofs.One.{no_record}
use Rattle.salvage.proofs.Follows.{record_moves}
use Rattle.salvage.proofs.Main.{record_begins, resumes_in}
use Rattle.salvage.proofs.Depths.{open_in, Leaves, TokenLeaves, token_leaves}

-- the numbers inside a record
abbrev pub Numbered : ℕ → Type 0
Numbered n = (n ≡ 17) ⊎ ((damaged n ≡ true) ⊎ ((n ≡ 27) ⊎ (n ≡ 30)))

damaged_by : (n : ℕ) → 20 ≤ n → n ≤ 25 → damaged n ≡ true
damaged_by n l h = ap₂ (λ (b b' : Bool). b && b') (le-leb 20 n l) (le-leb n 25 h)

module _ (a : Sheet) (y : Configuration) (h : 1 ≤ open_in y.control) where
  refusal_number : (room : ℕ) (k : RunToken) (n : ℕ) → one_token a y room k ≡ refuses n → Numbered n
  refusal_number room k n e = by (step_token a y k) refl (token_leaves a y h k) e
    where
      by_tests : (z : Configuration) (c f : Bool) → limited z c f ≡ refuses n → Numbered n
      by_tests z false f e = let i : 30 ≡ n = cc in inr (inr (inr (sym i)))
      by_tests z true false e = absurd (let x : ◌≡◌ {A = ℕ} 0 1 = cc in omega arith)
      by_tests z true true e = absurd (let x : ◌≡◌ {A = ℕ} 0 1 = cc in omega arith)

      by : (u : RunAnswer) → step_token a y k ≡ u → TokenLeaves k (open_in y.control) u → within room u ≡ refuses n → Numbered n
      by (took z) t l e = by_tests z (leb (count_of z) most_visits) (leb (length (output_of z)) room) e
      by (refused j) t l e =
          let i : j ≡ n = cc in
          let m = token_number a y k j t in
          inr (inl (damaged_by n (omega (arith, i, m.0)) (omega (arith, i, l))))

  begun_number : (left : ℕ) (n : ℕ) → number_at false left y.control Begun ≡ some n → n ≡ 27
  begun_number left n e = by left y.control h e
    where
      by : (left : ℕ) (c : Control) → 1 ≤ open_in c → number_at false left c Begun ≡ some n → n ≡ 27
      by left before h e = absurd (omega arith)
      by zero (inside o os) h e = let i : 27 ≡ n = cc in sym i
      by (suc left) (inside o os) h e = let i : 27 ≡ n = cc in sym i
      by left after h e = absurd (omega arith)

  stop_number : (s : List ℕ) (at room n : ℕ) → Stop a s false at room y n → Numbered n
  stop_number s at room n (stops e next k m t) = refusal_number room (token_of a s e) k t
  stop_number s at room n (full e next m t) = inl refl
  stop_number s at room n (no_token (Token e next) k m q) = absurd (let x : ◌≡◌ {A = ℕ} 0 1 = cc in omega arith)
  stop_number s at room n (no_token (Waiting e next) k m q) = absurd (let x : ◌≡◌ {A = ℕ} 0 1 = cc in omega arith)
  stop_number s at room n (no_token Begun k m q) = inr (inr (inl (begun_number (length (drop at s)) k q)))
  stop_number s at room n (no_token Bad k m q) = let i : 20 ≡ k = cc in inr (inl (damaged_by k (omega (arith, i)) (omega (arith, i))))
  stop_number s at room n (no_token Long k m q) = let i : 21 ≡ k = cc in inr (inl (damaged_by k (omega (arith, i)) (omega (arith, i))))

-- the number where no token comes next
none_number : (left : ℕ) (c : Control) → (n : ℕ) × (number_at false left c Begun ≡ some n)
none_number zero c = (_, refl)
none_number (suc left) c = (27, refl)

pub two_open : (c : Control) → 1 ≤ open_in c → root_only c ≡ false → 2 ≤ open_in c
two_open before h e = absurd (omega arith)
two_open (inside o []) h e = absurd (let x : ◌≡◌ {A = ℕ} 0 1 = cc in omega arith)
two_open (inside o (p ∷ os)) h e = omega arith
two_open after h e = absurd (omega arith)

pub one_open : (c : Control) → root_only c ≡ true → 1 ≤ open_in c
one_open before e = absurd (let x : ◌≡◌ {A = ℕ} 0 1 = cc in omega arith)
one_open (inside o os) e = omega arith
one_open after e = absurd (let x : ◌≡◌ {A = ℕ} 0 1 = cc in omega arith)

pub leaves_one : (k : RunToken) (d d' : ℕ) → 2 ≤ d → Leaves k d d' → 1 ≤ d'
leaves_one (start_token t) d d' h l = omega arith
leaves_one (end_token t) d d' h l = omega arith
leaves_one (empty_token t) d d' h l = omega arith
leaves_one (literal c) d d' h l = omega arith
leaves_one (reference c) d d' h l = omega arith

pub start_leaves : (t : ℕ) (k : RunToken) (d d' : ℕ) → starts_with t k ≡ true → 1 ≤ d → Leaves k d d' → 1 ≤ d'
start_leaves t (start_token u) d d' e h l = omega arith
start_leaves t (end_token u) d d' e h l = absurd (let x : ◌≡◌ {A = ℕ} 0 1 = cc in omega arith)
start_leaves t (empty_token u) d d' e h l = omega arith
start_leaves t (literal c) d d' e h l = omega arith
start_leaves t (reference c) d d' e h l = omega arith

module _ (a : Sheet) (s : List ℕ) (area : ℕ) where
  abbrev pub KnownEnd : RecordEnd → Type 0
  KnownEnd (whole to y next z w) = Unit {0}
  KnownEnd (broken n to y) = Numbered n

  -- behind the token at `at` an element is open still
  abbrev StaysIn : ℕ → Configuration → Type 0
  StaysIn at y = (e : Event) (next : ℕ) → ReadAs false s at (Token e (record { at = next })) → (z : Configuration) → step_token a y (token_of a s e) ≡ took z → 1 ≤ open_in z.control

  abbrev pub Goes : ℕ → Configuration → List ℕ → Type 0
  Goes at y v = (o : RecordEnd) × InRecord a s area at y v o × KnownEnd o

  stays_in : (at : ℕ) (y : Configuration) → 2 ≤ open_in y.control → StaysIn at y
  stays_in at y h e next m z t =
      leaves_one (token_of a s e) (open_in y.control) (open_in z.control) h (subst (TokenLeaves (token_of a s e) (open_in y.control)) t (token_leaves a y (omega (arith, h)) (token_of a s e)))

  module _ (at : ℕ) (rest : (next : ℕ) → at < next → next ≤ length s → (y : Configuration) (v : List ℕ) → 2 ≤ open_in y.control → Goes next y v) where
    from_token : (y : Configuration) (v : List ℕ) → at ≤ length s → 1 ≤ open_in y.control → StaysIn at y → (e : Event) (next : ℕ) →
        ReadAs false s at (Token e (record { at = next })) → (u : Taking) → one_token a y (room_left area v) (token_of a s e) ≡ u → Goes at y v
    from_token y v l h f e next m (taken y' w) t = by (root_only y'.control) refl
      where
        still : 1 ≤ open_in y'.control
        still =
            let o = takes_one a y (room_left area v) (token_of a s e) y' w t in
            subst (λ (z : Configuration). 1 ≤ open_in z.control) (sym o.silenced) (f e next m o.reached o.stepped)

        by : (b : Bool) → root_only y'.control ≡ b → Goes at y v
        by true q = (whole at y next y' (v ++ w), ends e next y' w m t q, tt)
        by false q =
            let i = read_moves false s at e next m l in
            let (o, d, n) = rest next i.0 i.1 y' (v ++ w) (two_open y'.control still q) in
            (o, goes_on e next y' w m t q d, n)
    from_token y v l h f e next m (refuses n) t = (broken n at y, breaks n (stops e next n m t), refusal_number a y h (room_left area v) (token_of a s e) n t)
    from_token y v l h f e next m no_room t = (broken 17 at y, breaks 17 (full e next m t), inl refl)

    from_answer : (y : Configuration) (v : List ℕ) → at ≤ length s → 1 ≤ open_in y.control → StaysIn at y → (x : Answer) → ReadAs false s at x → Goes at y v
    from_answer y v l h f (Token e next) m = from_token y v l h f e next.at m (one_token a y (room_left area v) (token_of a s e)) refl
    from_answer y v l h f (Waiting e next) m = absurd (never_waits false s at e next m)
    from_answer y v l h f Begun m =
        let (n, q) = none_number (length (drop at s)) y.control in
        let st = no_token Begun n m q in
        (broken n at y, breaks n st, stop_number a y h s at (room_left area v) n st)
    from_answer y v l h f Bad m = (broken 20 at y, breaks 20 (no_token Bad 20 m refl), inr (inl refl))
    from_answer y v l h f Long m = (broken 21 at y, breaks 21 (no_token Long 21 m refl), inr (inl refl))

  some_record : (left at : ℕ) → at ≤ length s → length s ≤ at + left → (y : Configuration) (v : List ℕ) → 1 ≤ open_in y.control → StaysIn at y → Goes at y v
  some_record zero at l k y v h f = let x = some_read false s at in from_answer at (λ next i j y' v' h'. absurd (omega (arith, i, j, k))) y v l h f x.0 x.1
  some_record (suc left) at l k y v h f =
      let x = some_read false s at in
      from_answer at (λ next i j y' v' h'. some_record left next j (omega (arith, i, k)) y' v' (omega (arith, h')) (stays_in next y' h')) y v l h f x.0 x.1

-- whether a byte string stands at the front
starts_decided : (f w : List ℕ) → Decided (Starts f w)
starts_decided f [] = inl (f, refl)
starts_decided [] (y ∷ w) = inr (λ h. cons≢[] (sym h.1))
starts_decided (x ∷ f) (y ∷ w) = by (decided (ℕ_discrete x y)) (starts_decided f w)
  where
    by : Decided (x ≡ y) → Decided (Starts f w) → Decided (Starts (x ∷ f) (y ∷ w))
    by (inl e) (inl (v, q)) = inl (v, ap₂ (λ (z : ℕ) (l : List ℕ). z ∷ l) e q)
    by (inl e) (inr n) = inr (λ h. n (h.0, tail-eq_of_cons-eq h.1))
    by (inr n) o = inr (λ h. n (head-eq_of_cons-eq h.1))

module _ (a : Sheet) (x : RecordTags) (s : List ℕ) where
  may_decided : (i : ℕ) → Decided (MayResume a x s i)
  may_decided i = by (starts_decided (drop i s) (record_start a x)) (starts_decided (drop i s) (root_end a x))
    where
      by : Decided (Starts (drop i s) (record_start a x)) → Decided (Starts (drop i s) (root_end a x)) → Decided (MayResume a x s i)
      by (inl h) o = inl (inl h)
      by (inr n) (inl h) = inl (inr h)
      by (inr n) (inr m) = inr (λ h. neither h)
        where
          neither : MayResume a x s i → ⊥
          neither (inl h) = n h
          neither (inr h) = m h

  abbrev Found : ℕ → ℕ → Type 0
  Found first bad = ((last : ℕ) × ResumesAt a x s first bad (suc last)) ⊎ NeverResumes a x s first bad

  -- none up to i, which is past the record's start
  search_on : (first bad left i : ℕ) → first ≤ i → bad ≤ suc i → length s ≤ i + left →
      ((j : ℕ) → bad ≤ j → first < j → j ≤ i → MayResume a x s j → ⊥) → Found first bad
  search_on first bad zero i l k h n = inr (λ j p q r. by (ltb i j) j refl p q r)
    where
      by : (b : Bool) (j : ℕ) → ltb i j ≡ b → bad ≤ j → first < j → MayResume a x s j → ⊥
      by true j e p q r = let u = ltb-true i j e in let v = resumes_in a x s j r in omega (arith, u, v.1, h)
      by false j e p q r = n j p q (ltb-false i j e) r
  search_on first bad (suc left) i l k h n = by (λ f. search_on first bad left (suc i) (omega arith) (omega arith) (omega arith) f) (may_decided (suc i))
    where
      by : (((j : ℕ) → bad ≤ j → first < j → j ≤ suc i → MayResume a x s j → ⊥) → Found first bad) → Decided (MayResume a x s (suc i)) → Found first bad
      by on (inl r) = inl (i, record { not_before = k; past_start = omega arith; stands = r; none_sooner = λ j p q u. n j p q (omega arith) })
      by on (inr m) = on (λ j p q u. up_to_lem j (ltb i j) refl p q u)
        where
          up_to_lem : (j : ℕ) (b : Bool) → ltb i j ≡ b → bad ≤ j → first < j → j ≤ suc i → MayResume a x s j → ⊥
          up_to_lem j true e p q u r = let v = ltb-true i j e in let w : j ≡ suc i = omega arith in m (subst (MayResume a x s) w r)
          up_to_lem j false e p q u r = n j p q (ltb-false i j e) r

  pub search : (first bad : ℕ) → Found first bad
  search first bad = by (ltb first bad) refl
    where
      by : (b : Bool) → ltb first bad ≡ b → Found first bad
      by true e =
          let u = ltb-true first bad e in
          search_on first bad (length s) (bad - 1) (omega arith) (omega arith) (omega arith) (λ j p q k r. absurd (omega arith))
      by false e =
          let u = ltb-false first bad e in
          search_on first bad (length s) first (omega arith) (omega arith) (omega arith) (λ j p q k r. absurd (omega arith))

  module _ (area : ℕ) where
    abbrev Goes_on : ℕ → ℕ → Configuration → Type 0
    Goes_on at room z = (r : Salvage) × Salvages a x s area at room z r

    pub record_goes : (at : ℕ) → at ≤ length s → (z : Configuration) → RecordAt a x s at z → Goes a s area at z []
    record_goes at l z h =
        let b = both_true (root_only z.control) (starts_with x.record_tag (token_of a s h.event)) h.begins in
        let one = one_open z.control b.0 in
        some_record a s area (length s) at l (omega arith) z [] one
        (λ e next m z' t. start_leaves x.record_tag (token_of a s e) (open_in z.control) (open_in z'.control) (begins e next m) one
        (subst (TokenLeaves (token_of a s e) (open_in z.control)) t (token_leaves a z one (token_of a s e))))
      where
        begins : (e : Event) (next : ℕ) → ReadAs false s at (Token e (record { at = next })) → starts_with x.record_tag (token_of a s e) ≡ true
        begins e next m =
            let q : Token h.event (record { at = h.next }) ≡ Token e (record { at = next }) =
            read_one false s at (Token h.event (record { at = h.next })) (Token e (record { at = next })) h.reads m in
            let c : h.event ≡ e = cc in
            subst (λ (k : Event). starts_with x.record_tag (token_of a s k) ≡ true) c
            (both_true (root_only z.control) (starts_with x.record_tag (token_of a s h.event)) h.begins).1

    module _ (at : ℕ) (l : at ≤ length s) (rest : (next : ℕ) → at < next → next ≤ length s → (room : ℕ) (z : Configuration) → Goes_on next room z) where
      from_lost : (room : ℕ) (z : Configuration) (n to : ℕ) (y : Configuration) → RecordAt a x s at z → InRecord a s area at z [] (broken n to y) → damaged n ≡ true →
          Found at to → Goes_on at room z
      from_lost room z n to y h i b (inl (last, q)) =
          let j = resumes_in a x s (suc last) q.stands in
          let (r, d) = rest (suc last) q.past_start (omega (arith, j.1)) room z in
          (_, drops n to last y h i b q d)
      from_lost room z n to y h i b (inr q) =
          let j = record_begins a x s at z h l in
          (_, loses n to (length s - 1) y h i b q (omega (arith, j)))

      from_end : (room : ℕ) (z : Configuration) → RecordAt a x s at z → (o : RecordEnd) → InRecord a s area at z [] o → KnownEnd a s area o → Goes_on at room z
      from_end room z h (whole to y next z' w) i f = by (leb (length w) room) refl
        where
          by : (b : Bool) → leb (length w) room ≡ b → Goes_on at room z
          by true e =
              let j = record_moves a s area i l in
              let (r, d) = rest next j.1 j.2 (room_left room w) z' in
              (_, keeps to next y z' w h i (leb-true (length w) room e) d)
          by false e = (_, full_room to next y z' w h i (leb-false (length w) room e))
      from_end room z h (broken n to y) i (inl e) = (_, waits to y h (subst (λ (k : ℕ). InRecord a s area at z [] (broken k to y)) e i))
      from_end room z h (broken n to y) i (inr (inl b)) = from_lost room z n to y h i b (search at to)
      from_end room z h (broken n to y) i (inr (inr (inl e))) =
          let j = record_begins a x s at z h l in
          (_, cut_off to (length s - 1) y h (subst (λ (k : ℕ). InRecord a s area at z [] (broken k to y)) e i) (omega (arith, j)))
      from_end room z h (broken n to y) i (inr (inr (inr e))) = (_, over to y h (subst (λ (k : ℕ). InRecord a s area at z [] (broken k to y)) e i))

      from_record : (room : ℕ) (z : Configuration) (h : RecordAt a x s at z) → Goes_on at room z
      from_record room z h = let (o, i, f) = record_goes at l z h in from_end room z h o i f

      from_outside : (room : ℕ) (z : Configuration) (e : Event) (next : ℕ) → ReadAs false s at (Token e (record { at = next })) → begins_record x z.control (token_of a s e) ≡ false →
          (u : Taking) → one_token a z room (token_of a s e) ≡ u → Goes_on at room z
      from_outside room z e next m b (taken z' w) t =
          let i = read_moves false s at e next m l in
          let (r, d) = rest next i.0 i.1 (room_left room w) z' in
          (_, passes e next z' w m b t d)
      from_outside room z e next m b (refuses n) t = (_, stands n (no_record a x s area at z e next m b) (stops e next n m t))
      from_outside room z e next m b no_room t = (_, stands 17 (no_record a x s area at z e next m b) (full e next m t))

      none_begins : (z : Configuration) (y : Answer) → ReadAs false s at y → ((e : Event) (next : ℕ) → y ≡ Token e (record { at = next }) → ⊥) → NoRecordAt a x s at z
      none_begins z y m n e next m' = absurd (n e next (read_one false s at y (Token e (record { at = next })) m m'))

      from_read : (room : ℕ) (z : Configuration) (y : Answer) → ReadAs false s at y → Goes_on at room z
      from_read room z (Token e next) m = by (begins_record x z.control (token_of a s e)) refl
        where
          by : (b : Bool) → begins_record x z.control (token_of a s e) ≡ b → Goes_on at room z
          by true q = from_record room z (record { event = e; next = next.at; reads = m; begins = q })
          by false q = from_outside room z e next.at m q (one_token a z room (token_of a s e)) refl
      from_read room z (Waiting e next) m = absurd (never_waits false s at e next m)
      from_read room z Begun m =
          let (n, q) = none_number (length (drop at s)) z.control in
          (_, stands n (none_begins z Begun m (λ e next p. let y : ◌≡◌ {A = ℕ} 0 1 = cc in omega arith)) (no_token Begun n m q))
      from_read room z Bad m = (_, stands 20 (none_begins z Bad m (λ e next p. let y : ◌≡◌ {A = ℕ} 0 1 = cc in omega arith)) (no_token Bad 20 m refl))
      from_read room z Long m = (_, stands 21 (none_begins z Long m (λ e next p. let y : ◌≡◌ {A = ℕ} 0 1 = cc in omega arith)) (no_token Long 21 m refl))

    pub runs_on : (left at : ℕ) → at ≤ length s → length s ≤ at + left → (room : ℕ) (z : Configuration) → Goes_on at room z
    runs_on zero at l k room z = let y = some_read false s at in from_read at l (λ next i j room' z'. absurd (omega (arith, i, j, k))) room z y.0 y.1
    runs_on (suc left) at l k room z =
        let y = some_read false s at in
        from_read at l (λ next i j room' z'. runs_on left next j (omega (arith, i, k)) room' z') room z y.0 y.1

-- every stream has an answer
pub some_salvage : (a : Sheet) (x : RecordTags) → SomeSalvage a x
some_salvage a x s area room = runs_on a x s area (length s) 0 (omega arith) (omega arith) room fresh_configuration
