-- What comes before a `<` does not depend on what comes behind it: neither tokens, nor where a run stops with 20 to 25, nor where reading resumes.
-- Assumes nothing.
use mathlib.Core.Path.{◌≡◌, refl, sym, ap, ap₂, ◌∙◌, subst}
use mathlib.Core.Bool.{Bool, true, false}
use mathlib.Core.List.{List, [], ◌∷◌, ◌++◌, append_assoc}
use mathlib.Core.Option.{some}
use Prim.Native.Nat.{ℕ, zero, suc, ◌+◌, ◌-◌, ◌≤◌, ◌<◌}
use native.Mathlib.Omega.{arith}
use lib.Dec.{ltb}
use lib.ListN.{length, take, drop, length-append, length-drop, take-append-drop}
use lib.Seq.{drop-append-le, take-append-le, take-append-add, take-append_seam, drop-drop}
use borrow.Author.Tests.{ltb-true, ltb-false}
use Rattle.text.specs.Chars.{Starts, Begins}
use Rattle.tokens.specs.declared.Event.{Event}
use Rattle.tokens.specs.declared.Answer.{Answer}
use Rattle.tokens.specs.declared.Answer.TheVariants.{Token, Waiting, Begun, Bad, Long}
use Rattle.tokens.specs.Tokens.{bytes, event_of, front, Means, BeginsOne, StartsNone}
use Rattle.tokens.specs.Stream.{settled, ReadAs, Followed}
use Rattle.sheet.specs.Sheet.{Sheet}
use Rattle.runs.specs.Machine.{Control, before, inside, after, Configuration}
use Rattle.calls.specs.Names.{token_of}
use Rattle.calls.specs.Limits.{one_token}
use Rattle.calls.specs.Call.{room_left, number_at, Stop, stops, full, no_token}
use Rattle.calls.proofs.Read.{read_token, read_moves, token_long, token_reads, token_at, token_of_lem}
use Rattle.salvage.specs.Salvage.{RecordEnd, whole, broken, InRecord, goes_on, ends, breaks, damaged}
use Rattle.salvage.proofs.One.{damage}
use Rattle.salvage.proofs.Follows.{NoLF, followed_by, record_moves, EndOf}
use Rattle.salvage.proofs.Opens.{NoOpen, OpensOnce, token_once, once_over}

-- a token that is read lies in the stream
pub token_in : (s : List ℕ) (at : ℕ) (e : Event) (next : ℕ) → ReadAs false s at (Token e (record { at = next })) → (at < next) × (next ≤ length s)
token_in s at e next m =
    let t = read_token false s at e next m in
    let n = token_long t.tok t.good in
    let l : at ≤ length s = omega (arith, n, ap length t.split, length-append (bytes t.tok) (drop next s), length-drop at s) in
    read_moves false s at e next m l

-- a byte string that stands in l, which `<` follows, lies in l
pub lies_in : (l r w : List ℕ) → OpensOnce w → 0 < length l → Starts (l ++ 60 ∷ r) w → Starts l w
lies_in [] r w h n k = absurd (omega arith)
lies_in (y ∷ l) r w h n (v, e) =
    let i = once_over y l r w v h e in
    let t : take (length w) (y ∷ l) ≡ w = sym (take-append-le (length w) (y ∷ l) (60 ∷ r) i) ∙ ap (take (length w)) e ∙ take-append_seam w v in
    (drop (length w) (y ∷ l), sym (take-append-drop (length w) (y ∷ l)) ∙ ap (λ (u : List ℕ). u ++ drop (length w) (y ∷ l)) t)

pub starts_more : (l r w : List ℕ) → Starts l w → Starts (l ++ r) w
starts_more l r w (v, e) = (v ++ r, ap (λ (u : List ℕ). u ++ r) e ∙ append_assoc w v r)

not_open : (l r : List ℕ) → NoOpen (l ++ 60 ∷ r) → ⊥
not_open [] r (n, h) = n refl
not_open (x ∷ l) r (n, h) = not_open l r h

-- bytes with a < past the first begin no token
pub begins_none : (l r w : List ℕ) → OpensOnce w → 0 < length l → Begins (l ++ 60 ∷ r) w → ⊥
begins_none [] r w h n k = omega arith
begins_none (x ∷ l) r w h n (v, e, k) = not_open l (r ++ v) (subst NoOpen (append_assoc l (60 ∷ r) v) (subst OpensOnce e h))

module _ (a : Sheet) (p u v : List ℕ) where
  abbrev s : List ℕ
  s = p ++ 60 ∷ u

  abbrev s' : List ℕ
  s' = p ++ 60 ∷ v

  dropped_here : (at : ℕ) → at ≤ length p → drop at s ≡ drop at p ++ 60 ∷ u
  dropped_here at l = drop-append-le at p (60 ∷ u) l

  dropped_there : (at : ℕ) → at ≤ length p → drop at s' ≡ drop at p ++ 60 ∷ v
  dropped_there at l = drop-append-le at p (60 ∷ v) l

  no_lf : (l : List ℕ) → NoLF (l ++ 60 ∷ u) → NoLF (l ++ 60 ∷ v)
  no_lf [] h = λ e. omega (arith, e)
  no_lf (x ∷ l) h = h

  pub token_kept : (at : ℕ) (e : Event) (next : ℕ) → ReadAs false s at (Token e (record { at = next })) → next ≤ length p →
      (e' : Event) × ReadAs false s' at (Token e' (record { at = next })) × (token_of a s' e' ≡ token_of a s e)
  token_kept at e next m l =
      let t = read_token false s at e next m in
      let w : List ℕ = bytes t.tok in
      let at≤ : at ≤ length p = omega (arith, t.ends, l) in
      let short : length w ≤ length (drop at p) = omega (arith, length-drop at p, t.ends, l) in
      let mine : take (length w) (drop at p) ≡ w =
      sym (take-append-le (length w) (drop at p) (60 ∷ u) short) ∙ ap (take (length w)) (sym (dropped_here at at≤) ∙ t.split) ∙ take-append_seam w (drop next s) in
      let rest : drop (length w) (drop at p) ≡ drop next p = drop-drop (length w) at p ∙ ap (λ (i : ℕ). drop i p) (sym t.ends) in
      let split : drop at p ≡ w ++ drop next p = sym (take-append-drop (length w) (drop at p)) ∙ ap₂ (λ (b c : List ℕ). b ++ c) mine rest in
      let here : drop at s' ≡ w ++ (drop next p ++ 60 ∷ v) = dropped_there at at≤ ∙ ap (λ (b : List ℕ). b ++ 60 ∷ v) split ∙ append_assoc w (drop next p) (60 ∷ v) in
      let f : Followed false t.tok (drop next p ++ 60 ∷ v) = followed_by s t.tok (drop next s) (drop next p ++ 60 ∷ v) (λ h. no_lf (drop next p) (subst NoLF (dropped_here next l) h)) t.whole in (
        event_of at t.tok,
        subst (λ (i : ℕ). ReadAs false s' at (Token (event_of at t.tok) (record { at = i }))) (sym t.ends) (token_reads s' at t.tok (drop next p ++ 60 ∷ v) here t.good t.short false f),
        token_at a s' t.tok at (drop next p ++ 60 ∷ v) here ∙ sym (token_of_lem a s t),
      )

  -- a token that begins before the < ends before it
  pub token_before : (at : ℕ) (e : Event) (next : ℕ) → ReadAs false s at (Token e (record { at = next })) → at < length p → next ≤ length p
  token_before at e next m l =
      let t = read_token false s at e next m in
      let w : List ℕ = bytes t.tok in
      let k = lies_in (drop at p) u w (token_once t.tok t.good) (omega (arith, length-drop at p, l)) (drop next s, sym (dropped_here at (omega (arith, l))) ∙ t.split) in
      omega (arith, t.ends, length-drop at p, ap length k.1, length-append w k.0)

  -- the front, where the < is in it
  near : (at : ℕ) (r : List ℕ) → at < length p → length (drop at p) < 32 → front (p ++ 60 ∷ r) at ≡ drop at p ++ 60 ∷ take (31 - length (drop at p)) r
  near at r l h =
      let n : 32 ≡ length (drop at p) + suc (31 - length (drop at p)) = omega arith in
      ap (take 32) (drop-append-le at p (60 ∷ r) (omega (arith, l))) ∙ ap (λ (i : ℕ). take i (drop at p ++ 60 ∷ r)) n ∙ take-append-add (drop at p) (60 ∷ r) (suc (31 - length (drop at p)))

  -- and where it is not
  far : (at : ℕ) → at < length p → 32 ≤ length (drop at p) → front s at ≡ front s' at
  far at l h =
      ap (take 32) (dropped_here at (omega (arith, l))) ∙ take-append-le 32 (drop at p) (60 ∷ u) h ∙ sym (take-append-le 32 (drop at p) (60 ∷ v) h)
      ∙ ap (take 32) (sym (dropped_there at (omega (arith, l))))

  bad_means : (at : ℕ) (y : Answer) → Means (front s at) at y → Bad ≡ settled false y → Means (front s at) at Bad
  bad_means at (Token e n) m q = absurd (let z : ◌≡◌ {A = ℕ} 0 1 = cc in omega arith)
  bad_means at (Waiting e n) m q = absurd (let z : ◌≡◌ {A = ℕ} 0 1 = cc in omega arith)
  bad_means at Begun m q = absurd (let z : ◌≡◌ {A = ℕ} 0 1 = cc in omega arith)
  bad_means at Bad m q = m
  bad_means at Long m q = absurd (let z : ◌≡◌ {A = ℕ} 0 1 = cc in omega arith)

  long_means : (at : ℕ) (y : Answer) → Means (front s at) at y → Long ≡ settled false y → Means (front s at) at Long
  long_means at (Token e n) m q = absurd (let z : ◌≡◌ {A = ℕ} 0 1 = cc in omega arith)
  long_means at (Waiting e n) m q = absurd (let z : ◌≡◌ {A = ℕ} 0 1 = cc in omega arith)
  long_means at Begun m q = absurd (let z : ◌≡◌ {A = ℕ} 0 1 = cc in omega arith)
  long_means at Bad m q = absurd (let z : ◌≡◌ {A = ℕ} 0 1 = cc in omega arith)
  long_means at Long m q = m

  bad_kept : (at : ℕ) → at < length p → ReadAs false s at Bad → ReadAs false s' at Bad
  bad_kept at l (y, m, q) = (Bad, by (ltb (length (drop at p)) 32) refl, refl)
    where
      there : Means (front s at) at Bad
      there = bad_means at y m q

      some_left : 0 < length (drop at p)
      some_left = omega (arith, length-drop at p, l)

      by : (b : Bool) → ltb (length (drop at p)) 32 ≡ b → Means (front s' at) at Bad
      by true h =
          let n = ltb-true (length (drop at p)) 32 h in
          let f = near at u l n in
          let f' = near at v l n in
          let l₁ : List ℕ = take (31 - length (drop at p)) u in
          let l₂ : List ℕ = take (31 - length (drop at p)) v in
          subst (λ (g : List ℕ). Means g at Bad) (sym f') (
            (λ t g k. subst StartsNone f there.0 t g (starts_more (drop at p) (60 ∷ l₁) (bytes t) (lies_in (drop at p) l₂ (bytes t) (token_once t g) some_left k))),
            (λ k. begins_none (drop at p) l₂ (bytes k.0) (token_once k.0 k.1) some_left k.2),
          )
      by false h = subst (λ (g : List ℕ). Means g at Bad) (far at l (ltb-false (length (drop at p)) 32 h)) there

  long_kept : (at : ℕ) → at < length p → ReadAs false s at Long → ReadAs false s' at Long
  long_kept at l (y, m, q) = (Long, by (ltb (length (drop at p)) 32) refl, refl)
    where
      there : Means (front s at) at Long
      there = long_means at y m q

      by : (b : Bool) → ltb (length (drop at p)) 32 ≡ b → Means (front s' at) at Long
      by true h =
          let f = near at u l (ltb-true (length (drop at p)) 32 h) in
          let k = subst BeginsOne f there.1 in
          absurd (begins_none (drop at p) (take (31 - length (drop at p)) u) (bytes k.0) (token_once k.0 k.1) (omega (arith, length-drop at p, l)) k.2)
      by false h = subst (λ (g : List ℕ). Means g at Long) (far at l (ltb-false (length (drop at p)) 32 h)) there

  begun_late : (left : ℕ) (y : Configuration) (n : ℕ) → number_at false left y.control Begun ≡ some n → damaged n ≡ true → ⊥
  begun_late zero y n q b = by y.control q
    where
      by : (c : Control) → number_at false 0 c Begun ≡ some n → ⊥
      by before q = let i : 27 ≡ n = cc in let w = damage n b in omega (arith, i, w.1)
      by (inside o os) q = let i : 27 ≡ n = cc in let w = damage n b in omega (arith, i, w.1)
      by after q = let i : 0 ≡ n = cc in let w = damage n b in omega (arith, i, w.0)
  begun_late (suc left) y n q b = let i : 27 ≡ n = cc in let w = damage n b in omega (arith, i, w.1)

  pub stop_kept : (at room : ℕ) (y : Configuration) (n : ℕ) → at < length p → damaged n ≡ true → Stop a s false at room y n → Stop a s' false at room y n
  stop_kept at room y n l b (stops e next k m t) =
      let (e', m', q) = token_kept at e next m (token_before at e next m l) in
      stops e' next k m' (ap (one_token a y room) q ∙ t)
  stop_kept at room y n l b (full e next m t) = absurd (let w = damage 17 b in omega (arith, w.0))
  stop_kept at room y n l b (no_token (Token e next) k m q) = absurd (let z : ◌≡◌ {A = ℕ} 0 1 = cc in omega arith)
  stop_kept at room y n l b (no_token (Waiting e next) k m q) = absurd (let z : ◌≡◌ {A = ℕ} 0 1 = cc in omega arith)
  stop_kept at room y n l b (no_token Begun k m q) = absurd (begun_late (length (drop at s)) y k q b)
  stop_kept at room y n l b (no_token Bad k m q) = let i : 20 ≡ k = cc in no_token Bad k (bad_kept at l m) (ap some i)
  stop_kept at room y n l b (no_token Long k m q) = let i : 21 ≡ k = cc in no_token Long k (long_kept at l m) (ap some i)

  module _ (area : ℕ) where
    -- a record that ends before the <
    abbrev EndsBefore : RecordEnd → Type 0
    EndsBefore (whole to y next z w) = next ≤ length p
    EndsBefore (broken n to y) = (to < length p) × (damaged n ≡ true)

    before_end : (at : ℕ) (o : RecordEnd) → EndOf at (length s) o → EndsBefore o → at ≤ length p
    before_end at (whole to y next z w) h k = omega (arith, h.1, k)
    before_end at (broken n to y) h k = omega (arith, h.0, k.0)

    pub record_kept : {at : ℕ} {y : Configuration} {v : List ℕ} {o : RecordEnd} → InRecord a s area at y v o → EndsBefore o → InRecord a s' area at y v o
    record_kept {o = o} (goes_on {at} {y} {v} e next y' w m t h d) k =
        let i = token_in s at e next m in
        let (e', m', q) = token_kept at e next m (before_end next o (record_moves a s area d i.1) k) in
        goes_on e' next y' w m' (ap (one_token a y (room_left area v)) q ∙ t) h (record_kept d k)
    record_kept (ends {at} {y} {v} e next z w m t h) k =
        let (e', m', q) = token_kept at e next m k in
        ends e' next z w m' (ap (one_token a y (room_left area v)) q ∙ t) h
    record_kept (breaks {at} {y} {v} n q) k = breaks n (stop_kept at (room_left area v) y n k.0 k.1 q)

    -- a record that is refused before the <, or by what stands there
    pub record_stops : {at : ℕ} {y : Configuration} {v : List ℕ} (n to : ℕ) (y₁ : Configuration) (n' : ℕ) → InRecord a s area at y v (broken n to y₁) → to ≤ length p →
        ((room : ℕ) → Stop a s' false to room y₁ n') → InRecord a s' area at y v (broken n' to y₁)
    record_stops n to y₁ n' (goes_on {at} {y} {v} e next y' w m t h d) l q =
        let i = token_in s at e next m in
        let j = record_moves a s area d i.1 in
        let (e', m', f) = token_kept at e next m (omega (arith, j.0, l)) in
        goes_on e' next y' w m' (ap (one_token a y (room_left area v)) f ∙ t) h (record_stops n to y₁ n' d l q)
    record_stops {at} {y} {v} n to y₁ n' (breaks k f) l q = breaks n' (q (room_left area v))
