-- A step of a call on a part, and the same step of a call on more bytes, in more room and with more entries: it is the same, but for a reference by number that the part cuts off; or the
-- call stops open, and the call on the whole goes on from there.
-- Assumes nothing.
use mathlib.Core.Path.{◌≡◌, refl, sym, ap, ap₂, ◌∙◌, subst}
use mathlib.Core.Logic.{◌⊎◌, inl, inr}
use mathlib.Core.Bool.{Bool, true, false, cond, true≢false, ◌||◌}
use mathlib.Core.List.{List, [], ◌∷◌, ◌++◌, append-nil, append_assoc}
use mathlib.Core.Option.{some}
use Prim.Native.Nat.{ℕ, zero, suc, ◌+◌, ◌-◌, ◌≤◌, ◌<◌}
use native.Mathlib.Omega.{arith}
use lib.Dec.{eqb, leb, ltb}
use lib.ListN.{length, drop, length-append, length-take, length-drop, take-append-drop}
use lib.Seq.{drop-append-le}
use borrow.Author.Tests.{le-leb, lt-ltb, leb-true, ne_eqb}
use Rattle.expressions.specs.Grammar.{only_if}
use Rattle.text.specs.Chars.{Starts}
use Rattle.tokens.specs.declared.Event.{Event}
use Rattle.tokens.specs.declared.Answer.{Answer}
use Rattle.tokens.specs.declared.Answer.TheVariants.{Token, Waiting, Begun, Bad, Long}
use Rattle.tokens.specs.Tokens.{bytes, front}
use Rattle.tokens.specs.Stream.{ReadAs}
use Rattle.tokens.specs.Parts.{CutNumber}
use Rattle.sheet.specs.Sheet.{Sheet}
use Rattle.runs.specs.Machine.{Control, before, after, Configuration, took, refused}
use Rattle.runs.specs.Machine as machine
use Rattle.runs.specs.Visits.{most_visits}
use Rattle.runs.specs.Spells.{Token as RunToken, step_token}
use Rattle.calls.specs.Names.{token_of}
use Rattle.calls.specs.Limits.{output_of, Taking, taken, refuses, no_room, limited, within, one_token}
use Rattle.calls.specs.Held.{leaves_open, closing_of}
use Rattle.calls.specs.Call.{room_left, number_at}
use Rattle.calls.specs.Parts.{EndTold}
use Rattle.calls.proofs.Read.{read_on, read_token, read_moves, token_long, token_at, token_of_lem}
use Rattle.calls.proofs.Frame.{count_of, token_number}
use Rattle.calls.proofs.Steps.{RunAnswer, takes_one}
use Rattle.salvage.specs.Shape.{RecordTags}
use Rattle.salvage.specs.Resumption.{record_start, root_end}
use Rattle.salvage.specs.Salvage.{root_only, begins_record, LostStretch, lost, damaged}
use Rattle.salvage.proofs.Follows.{taken_in, refused_in}
use Rattle.salvaging.specs.declared.Resumed.{Resumed}
use Rattle.salvaging.specs.declared.Resumed.TheVariants.{Here, Waits, Nowhere}
use Rattle.salvaging.specs.Resumed.{ApartUpTo, ResumedIs}
use Rattle.rescue.specs.Held.{Mode, between, inside, skipping, reads_tokens, control_of, waiting_in, Rescued}
use Rattle.rescue.specs.Step.{Setting, Step, on, stop, stay, last_byte, past_first, drops_at, closes_at, breaks_at, whole_at, record_token, other_token, token_step, number_step, ran_out, skip_step, skip_to, reported, StepIs, at_token, at_none, at_bytes}
use Rattle.rescue.specs.Call.{Rescues, goes, halts, setting}
use Rattle.rescue.specs.Parts.{CutIn, SameStretch, same_stretch, cut_stretch, SameReport, no_more, and_then, SameMode, same_mode, cut_mode, SameNumber, same_number, cut_off, Began}
use Rattle.rescue.proofs.Resumed.{one_resumed, stay_apart, still_here, from_later}
use Rattle.rescue.proofs.Whole.{reports, reports_end}
use Rattle.rescue.proofs.Waited.{began_waited, whole_waited}

pub same_length : {whole : List ℕ} {base : ℕ} {ds ds' : List LostStretch} → SameReport whole base ds ds' → length ds ≡ length ds'
same_length no_more = refl
same_length (and_then d i) = ap suc (same_length i)

pub same_report : (whole : List ℕ) (base : ℕ) (ds : List LostStretch) → SameReport whole base ds ds
same_report whole base [] = no_more
same_report whole base (d ∷ ds) = and_then (same_stretch d) (same_report whole base ds)

-- later bytes are not before
pub cut_later : {whole : List ℕ} {base f p q : ℕ} → p ≤ q → CutIn whole base f p → CutIn whole base f q
cut_later l c = record { place = c.place; had = c.had; cut = c.cut; stands = c.stands; behind = c.behind; not_past = omega (arith, c.not_past, l) }

-- the numbers with which a token is refused
refuses_known : (a : Sheet) (z : Configuration) (room : ℕ) (k : RunToken) (n : ℕ) → one_token a z room k ≡ refuses n → (leaves_open n ≡ false) × (eqb n 27 ≡ false)
refuses_known a z room k n e = by (step_token a z k) refl e
  where
    known : (n ≤ 26) ⊎ (n ≡ 30) → 22 ≤ n → (leaves_open n ≡ false) × (eqb n 27 ≡ false)
    known o h = (ap₂ (λ (b b' : Bool). b || b') (ne_eqb n 16 (λ e. omega arith)) (ne_eqb n 17 (λ e. omega arith)), ne_eqb n 27 (λ e. not_27 e o))
      where
        not_27 : n ≡ 27 → (n ≤ 26) ⊎ (n ≡ 30) → ⊥
        not_27 e (inl l) = omega arith
        not_27 e (inr q) = omega arith

    by_tests : (y : Configuration) (c f : Bool) → limited y c f ≡ refuses n → (leaves_open n ≡ false) × (eqb n 27 ≡ false)
    by_tests y false f e = let h : 30 ≡ n = cc in known (inr (sym h)) (omega arith)
    by_tests y true false e = absurd (let x : ◌≡◌ {A = ℕ} 0 1 = cc in omega arith)
    by_tests y true true e = absurd (let x : ◌≡◌ {A = ℕ} 0 1 = cc in omega arith)

    by : (u : RunAnswer) → step_token a z k ≡ u → within room u ≡ refuses n → (leaves_open n ≡ false) × (eqb n 27 ≡ false)
    by (took y) t e = by_tests y (leb (count_of y) most_visits) (leb (length (output_of y)) room) e
    by (refused m) t e =
        let h : m ≡ n = cc in
        let j = token_number a z k m t in
        known (inl (omega (arith, h, j.1))) (omega (arith, h, j.0))

end_leaves : (left : ℕ) (c : Control) (n : ℕ) → number_at false left c Begun ≡ some n → leaves_open n ≡ false
end_leaves zero before n q = let h : 27 ≡ n = cc in subst (λ (k : ℕ). leaves_open k ≡ false) h refl
end_leaves zero (machine.inside o os) n q = let h : 27 ≡ n = cc in subst (λ (k : ℕ). leaves_open k ≡ false) h refl
end_leaves zero after n q = let h : 0 ≡ n = cc in subst (λ (k : ℕ). leaves_open k ≡ false) h refl
end_leaves (suc left) c n q = let h : 27 ≡ n = cc in subst (λ (k : ℕ). leaves_open k ≡ false) h refl

-- the run's token of what was read in s is the same with more bytes behind
token_in : (a : Sheet) (s r : List ℕ) (b : Bool) (at : ℕ) (e : Event) (next : ℕ) → ReadAs b s at (Token e (record { at = next })) → token_of a (s ++ r) e ≡ token_of a s e
token_in a s r b at e next m =
    let t = read_token b s at e next m in
    let w : List ℕ = bytes t.tok in
    let within : at ≤ length s = omega (arith, length-drop at s, ap length t.split, length-append w (drop next s), token_long t.tok t.good) in
    let d : drop at (s ++ r) ≡ w ++ (drop next s ++ r) = drop-append-le at s r within ∙ ap (λ (l : List ℕ). l ++ r) t.split ∙ append_assoc w (drop next s) r in
    ap (token_of a (s ++ r)) t.event ∙ token_at a (s ++ r) t.tok at (drop next s ++ r) d ∙ sym (token_of_lem a s t)

module _ (a : Sheet) (x : RecordTags) (s later : List ℕ) (b more : Bool) (told : EndTold b later more) (base area extra entries : ℕ) where
  abbrev pub part_call : Setting
  part_call = setting a x s b base area

  abbrev pub whole_call : Setting
  whole_call = setting a x (s ++ later) more base area

  abbrev pub Modes : ℕ → Mode → Mode → Type 0
  Modes p m M = SameMode (s ++ later) base p m M

  abbrev pub Reports : List LostStretch → List LostStretch → Type 0
  Reports ds ds' = SameReport (s ++ later) base ds ds'

  -- where the stream is declared ended with the part, the whole is the part
  all_of_it : b ≡ false → (s ++ later ≡ s) × (more ≡ false)
  all_of_it e = by told
    where
      by : EndTold b later more → (s ++ later ≡ s) × (more ≡ false)
      by (inl t) = absurd (true≢false (sym t ∙ e))
      by (inr (l, t)) = (ap (λ (k : List ℕ). s ++ k) l ∙ append-nil s, sym t ∙ e)

  -- what waits where the part's call stands waits in the call on the whole
  still_waits : (p at room spare : ℕ) (m M : Mode) (r : Rescued) → Modes p m M → Rescues whole_call at room spare M r → length (waiting_in m) ≤ r.waited
  still_waits p at room spare m M r (same_mode k) d = began_waited whole_call d
  still_waits p at room spare m M r (cut_mode z f c) d = omega arith

  module _ (at room spare : ℕ) (m M : Mode) where
    abbrev pub WholeStep : Step → Type 0
    WholeStep t = StepIs whole_call at (room + extra) (spare + entries) M t

    -- the call on the whole can be taken up at p as well
    abbrev pub TakenUp : ℕ → Type 0
    TakenUp p = (r : Rescued) → Rescues whole_call at (room + extra) (spare + entries) M r → Rescues whole_call p (room + extra) (spare + entries) M r

    -- in the call on the whole k bytes waited at once
    abbrev pub Waited : ℕ → Type 0
    Waited k = (r : Rescued) → Rescues whole_call at (room + extra) (spare + entries) M r → k ≤ r.waited

    -- before the entries are counted
    data Before (p : ℕ) : Step → Type 0 where
      goes_alike : {next : ℕ} {m' : Mode} {w : List ℕ} {ds : List LostStretch} {k : ℕ} (M' : Mode) (ds' : List LostStretch) → next ≤ length s → length w ≤ room → Began (base + next) m' →
          Modes (base + next) m' M' → Reports ds ds' → WholeStep (reported (spare + entries) p M (on next M' w ds' k)) → Before p (on next m' w ds k)
      stops_alike : {n to : ℕ} {m' : Mode} {ds : List LostStretch} {k : ℕ} (N : ℕ) (M' : Mode) (ds' : List LostStretch) → leaves_open n ≡ false →
          SameNumber (s ++ later) to n (closing_of (leaves_open n) n) N (closing_of (leaves_open N) N) → Modes (base + to) m' M' → Reports ds ds' →
          WholeStep (reported (spare + entries) p M (stop N to M' ds' k)) → Before p (stop n to m' ds k)
      stays_open : {n to k : ℕ} → leaves_open n ≡ true → to ≤ length s → Modes (base + to) m M → TakenUp to → Waited k → Before p (stop n to m [] k)

    pub data Lifted : Step → Type 0 where
      goes_on : {next : ℕ} {m' : Mode} {w : List ℕ} {ds : List LostStretch} {k : ℕ} (M' : Mode) (ds' : List LostStretch) → next ≤ length s → length w ≤ room → length ds ≤ spare → Began (base + next) m' →
          Modes (base + next) m' M' → Reports ds ds' → WholeStep (on next M' w ds' k) → Lifted (on next m' w ds k)
      ends_so : {n to : ℕ} {m' : Mode} {ds : List LostStretch} {k : ℕ} (N : ℕ) (M' : Mode) (ds' : List LostStretch) → leaves_open n ≡ false →
          SameNumber (s ++ later) to n (closing_of (leaves_open n) n) N (closing_of (leaves_open N) N) → Modes (base + to) m' M' → Reports ds ds' →
          WholeStep (stop N to M' ds' k) → Lifted (stop n to m' ds k)
      waits : {n to k : ℕ} → leaves_open n ≡ true → to ≤ length s → Modes (base + to) m M → TakenUp to → Waited k → Lifted (stop n to m [] k)

    counted : (p : ℕ) → p ≤ length s → Modes (base + p) m M → TakenUp p → (t : Step) → Before p t → Lifted (reported spare p m t)
    counted p z i up (on next m' w ds k) (goes_alike M' ds' c f g j h st) = by (leb (length ds) spare) refl
      where
        by : (o : Bool) → leb (length ds) spare ≡ o → Lifted (cond o (on next m' w ds k) (stay 17 p m))
        by true e =
            let n = leb-true (length ds) spare e in
            goes_on M' ds' c f n g j h (subst WholeStep (reports (spare + entries) p M next M' w ds' k (omega (arith, n, same_length h))) st)
        by false e = waits refl z i up (λ r d. still_waits (base + p) at (room + extra) (spare + entries) m M r i d)
    counted p z i up (stop n to m' ds k) (stops_alike N M' ds' o q j h st) = by (leb (length ds) spare) refl
      where
        by : (c : Bool) → leb (length ds) spare ≡ c → Lifted (cond c (stop n to m' ds k) (stay 17 p m))
        by true e =
            let l = leb-true (length ds) spare e in
            ends_so N M' ds' o q j h (subst WholeStep (reports_end (spare + entries) p M N to M' ds' k (omega (arith, l, same_length h))) st)
        by false e = waits refl z i up (λ r d. still_waits (base + p) at (room + extra) (spare + entries) m M r i d)
    counted p z i up (stop n to m [] k) (stays_open o v j u x) = by (leb 0 spare)
      where
        by : (c : Bool) → Lifted (cond c (stop n to m [] k) (stay 17 p m))
        by true = waits o v j u x
        by false = waits refl z i up (λ r d. still_waits (base + p) at (room + extra) (spare + entries) m M r i d)

  -- a record that stops with a number that closes, or drops it
  module _ (at room spare : ℕ) (m : Mode) (z : Configuration) (f n : ℕ) where
    stopped_with : leaves_open n ≡ false → past_first part_call f at ≤ length s → closes_at part_call at m z f n ≡ closes_at whole_call at m z f n →
        ((t : Step) → breaks_at whole_call at m z f n ≡ t → WholeStep at room spare m m (reported (spare + entries) at m t)) → Before at room spare m m at (breaks_at part_call at m z f n)
    stopped_with o l q up =
        subst (λ (c : Bool). Before at room spare m m at (cond c (stay n at m) (cond (damaged n) (drops_at part_call at m z f n) (closes_at part_call at m z f n)))) (sym o) (by (damaged n) refl)
      where
        here : breaks_at whole_call at m z f n ≡ cond (damaged n) (drops_at whole_call at m z f n) (closes_at whole_call at m z f n)
        here = ap (λ (c : Bool). cond c (stay n at m) (cond (damaged n) (drops_at whole_call at m z f n) (closes_at whole_call at m z f n))) o

        by : (d : Bool) → damaged n ≡ d → Before at room spare m m at (cond d (drops_at part_call at m z f n) (closes_at part_call at m z f n))
        by true e =
            goes_alike {w = []} (skipping z f n) [] l (omega arith) tt (same_mode (skipping z f n)) no_more
            (up (drops_at whole_call at m z f n) (here ∙ ap (λ (c : Bool). cond c (drops_at whole_call at m z f n) (closes_at whole_call at m z f n)) e))
        by false e =
            subst (Before at room spare m m at) (sym q)
            (stops_alike n (between z) _ o (same_number n (closing_of (leaves_open n) n)) (same_mode (between z)) (same_report (s ++ later) base _)
            (up (closes_at whole_call at m z f n) (here ∙ ap (λ (c : Bool). cond c (drops_at whole_call at m z f n) (closes_at whole_call at m z f n)) e)))

  -- a token
  module _ (at room spare next : ℕ) (k : RunToken) (l : at < next) (i : next ≤ length s) (m : Mode)
      (up : (t : Step) → token_step whole_call at (room + extra) next k m ≡ t → WholeStep at room spare m m (reported (spare + entries) at m t)) where
    of_record : (z y : Configuration) (f : ℕ) (v : List ℕ) (u : Taking) → f < base + next → one_token a y (room_left area v) k ≡ u →
        token_step whole_call at (room + extra) next k m ≡ record_token whole_call at (room + extra) m z f v next u → Before at room spare m m at (record_token part_call at room m z f v next u)
    of_record z y f v (taken y' w) g t e = by (root_only y'.control) refl
      where
        by : (c : Bool) → root_only y'.control ≡ c →
            Before at room spare m m at (cond c (whole_at at room m next y' (v ++ w)) (on next (inside z y' f (v ++ w)) [] [] (length (v ++ w))))
        by true h = fits (leb (length (v ++ w)) room) refl
          where
            fits : (c : Bool) → leb (length (v ++ w)) room ≡ c →
                Before at room spare m m at (cond c (on next (between y') (v ++ w) [] (length (v ++ w))) (stop 17 at m [] (length (v ++ w))))
            fits true o =
                let j = leb-true (length (v ++ w)) room o in
                goes_alike (between y') [] i j tt (same_mode (between y')) no_more
                (up (on next (between y') (v ++ w) [] (length (v ++ w)))
                (e ∙ ap (λ (c : Bool). cond c (whole_at at (room + extra) m next y' (v ++ w)) (on next (inside z y' f (v ++ w)) [] [] (length (v ++ w)))) h
                ∙ ap (λ (c : Bool). cond c (on next (between y') (v ++ w) [] (length (v ++ w))) (stop 17 at m [] (length (v ++ w)))) (le-leb (length (v ++ w)) (room + extra) (omega (arith, j)))))
            fits false o =
                stays_open {to = at} refl (omega (arith, l, i)) (same_mode m) (λ r d. d) (λ r d.
                whole_waited whole_call next y' (v ++ w) (up (whole_at at (room + extra) m next y' (v ++ w))
                (e ∙ ap (λ (c : Bool). cond c (whole_at at (room + extra) m next y' (v ++ w)) (on next (inside z y' f (v ++ w)) [] [] (length (v ++ w)))) h)) d)
        by false h =
            goes_alike {w = []} (inside z y' f (v ++ w)) [] i (omega arith) g (same_mode (inside z y' f (v ++ w))) no_more
            (up (on next (inside z y' f (v ++ w)) [] [] (length (v ++ w)))
            (e ∙ ap (λ (c : Bool). cond c (whole_at at (room + extra) m next y' (v ++ w)) (on next (inside z y' f (v ++ w)) [] [] (length (v ++ w)))) h))
    of_record z y f v (refuses n) g t e =
        let o = refuses_known a y (room_left area v) k n t in
        stopped_with at room spare m z f n o.0 (past (ltb f (base + at)))
        (ap (λ (c : Bool). stop n at (between z) (cond c (lost f (last_byte part_call) n ∷ []) (only_if (ltb f (base + at)) (lost f (base + at - 1) n))) (length (waiting_in m))) o.1
        ∙ sym (ap (λ (c : Bool). stop n at (between z) (cond c (lost f (last_byte whole_call) n ∷ []) (only_if (ltb f (base + at)) (lost f (base + at - 1) n))) (length (waiting_in m))) o.1))
        (λ t' q. up t' (e ∙ q))
      where
        past : (c : Bool) → cond c at (suc at) ≤ length s
        past true = omega (arith, l, i)
        past false = omega (arith, l, i)
    of_record z y f v no_room g t e = stays_open {to = at} refl (omega (arith, l, i)) (same_mode m) (λ r d. d) (λ r d. began_waited whole_call d)

    of_other : (z : Configuration) (u : Taking) → one_token a z room k ≡ u → token_step whole_call at (room + extra) next k m ≡ other_token at m next (one_token a z (room + extra) k) →
        Before at room spare m m at (other_token at m next u)
    of_other z (taken y w) t e =
        let o = takes_one a z room k y w t in
        let j : length w ≤ room = omega (arith, o.fits, ap length o.writes) in
        goes_alike (between y) [] i j tt (same_mode (between y)) no_more
        (up (on next (between y) w [] 0) (e ∙ ap (other_token at m next) (taken_in a z room (room + extra) k y w t (omega (arith, j)))))
    of_other z (refuses n) t e =
        stops_alike n m [] (refuses_known a z room k n t).0 (same_number n (closing_of (leaves_open n) n)) (same_mode m) no_more
        (up (stay n at m) (e ∙ ap (other_token at m next) (refused_in a z room (room + extra) k n t)))
    of_other z no_room t e = stays_open {to = at} refl (omega (arith, l, i)) (same_mode m) (λ r d. d) (λ r d. began_waited whole_call d)

  at_tokens : (at room spare next : ℕ) (k : RunToken) → at < next → next ≤ length s → (m : Mode) → reads_tokens m ≡ true → Began (base + at) m →
      ((t : Step) → token_step whole_call at (room + extra) next k m ≡ t → WholeStep at room spare m m (reported (spare + entries) at m t)) →
      Before at room spare m m at (token_step part_call at room next k m)
  at_tokens at room spare next k l i (between z) q g up = by (begins_record x z.control k) refl
    where
      whole_is : (c : Bool) → begins_record x z.control k ≡ c → token_step whole_call at (room + extra) next k (between z) ≡
          cond c (record_token whole_call at (room + extra) (between z) z (base + at) [] next (one_token a z (room_left area []) k)) (other_token at (between z) next (one_token a z (room + extra) k))
      whole_is c e =
          ap (λ (d : Bool). cond d (record_token whole_call at (room + extra) (between z) z (base + at) [] next (one_token a z (room_left area []) k))
          (other_token at (between z) next (one_token a z (room + extra) k))) e

      by : (c : Bool) → begins_record x z.control k ≡ c → Before at room spare (between z) (between z) at
          (cond c (record_token part_call at room (between z) z (base + at) [] next (one_token a z (room_left area []) k)) (other_token at (between z) next (one_token a z room k)))
      by true e = of_record at room spare next k l i (between z) up z z (base + at) [] (one_token a z (room_left area []) k) (omega arith) refl (whole_is true e)
      by false e = of_other at room spare next k l i (between z) up z (one_token a z room k) refl (whole_is false e)
  at_tokens at room spare next k l i (inside z y f v) q g up = of_record at room spare next k l i (inside z y f v) up z y f v (one_token a y (room_left area v) k) (omega arith) refl refl
  at_tokens at room spare next k l i (skipping z f n) q g up = absurd (true≢false (sym q))

  past_began : (at f : ℕ) → at ≤ length s → f < base + at → past_first part_call f at ≤ length s
  past_began at f l g = subst (λ (c : Bool). cond c at (suc at) ≤ length s) (sym (lt-ltb f (base + at) g)) l

  -- no whole token comes next
  same_closing : (at : ℕ) (m : Mode) (z : Configuration) (f n : ℕ) → s ++ later ≡ s → closes_at part_call at m z f n ≡ closes_at whole_call at m z f n
  same_closing at m z f n e =
      ap (λ (j : List ℕ). stop n at (between z) (cond (eqb n 27) (lost f (base + length j - 1) n ∷ []) (only_if (ltb f (base + at)) (lost f (base + at - 1) n))) (length (waiting_in m))) (sym e)

  at_number : (at room spare n : ℕ) (m : Mode) → reads_tokens m ≡ true → at ≤ length s → Began (base + at) m → leaves_open n ≡ false → (eqb n 27 ≡ false) ⊎ (s ++ later ≡ s) →
      WholeStep at room spare m m (reported (spare + entries) at m (number_step whole_call at n m)) → Before at room spare m m at (number_step part_call at n m)
  at_number at room spare n (between z) q l g o c st = stops_alike n (between z) [] o (same_number n (closing_of (leaves_open n) n)) (same_mode (between z)) no_more st
  at_number at room spare n (inside z y f v) q l g o c st =
      stopped_with at room spare (inside z y f v) z f n o (past_began at f l g) (by c) (λ t e. subst (λ (k : Step). WholeStep at room spare (inside z y f v) (inside z y f v) (reported (spare + entries) at (inside z y f v) k)) e st)
    where
      by : (eqb n 27 ≡ false) ⊎ (s ++ later ≡ s) → closes_at part_call at (inside z y f v) z f n ≡ closes_at whole_call at (inside z y f v) z f n
      by (inl e) =
          ap (λ (c : Bool). stop n at (between z) (cond c (lost f (last_byte part_call) n ∷ []) (only_if (ltb f (base + at)) (lost f (base + at - 1) n))) (length v)) e
          ∙ sym (ap (λ (c : Bool). stop n at (between z) (cond c (lost f (last_byte whole_call) n ∷ []) (only_if (ltb f (base + at)) (lost f (base + at - 1) n))) (length v)) e)
      by (inr e) = same_closing at (inside z y f v) z f n e
  at_number at room spare n (skipping z f k) q l g o c st = absurd (true≢false (sym q))

  -- only begun, while more is to come
  at_waiting : (at room spare : ℕ) (m : Mode) → reads_tokens m ≡ true → at ≤ length s → Before at room spare m m at (number_step part_call at 16 m)
  at_waiting at room spare (between z) q l = stays_open {k = 0} refl l (same_mode (between z)) (λ r d. d) (λ r d. omega arith)
  at_waiting at room spare (inside z y f v) q l = stays_open refl l (same_mode (inside z y f v)) (λ r d. d) (λ r d. began_waited whole_call d)
  at_waiting at room spare (skipping z f k) q l = absurd (true≢false (sym q))

  -- the number of a reference that the part cuts off
  cut_there : (at : ℕ) → CutNumber (front s at) → Starts (drop at (s ++ later)) (front s at)
  cut_there at c =
      let (v, w) = c.opened in
      let within : at ≤ length s = omega (arith, length-drop at s, length-take 32 (drop at s), ap length w) in (
        drop 32 (drop at s) ++ later,
        drop-append-le at s later within ∙ ap (λ (l : List ℕ). l ++ later) (sym (take-append-drop 32 (drop at s))) ∙ append_assoc (front s at) (drop 32 (drop at s)) later,
      )

  at_cut : (at room spare : ℕ) (m : Mode) → reads_tokens m ≡ true → at ≤ length s → Began (base + at) m → CutNumber (front s at) →
      WholeStep at room spare m m (reported (spare + entries) at m (number_step whole_call at 20 m)) → Before at room spare m m at (number_step part_call at 21 m)
  at_cut at room spare (between z) q l g c st = stops_alike 20 (between z) [] refl (cut_off (front s at) c (cut_there at c)) (same_mode (between z)) no_more st
  at_cut at room spare (inside z y f v) q l g c st =
      goes_alike {w = []} (skipping z f 20) [] (past_began at f l g) (omega arith) tt
      (cut_mode z f (record { place = at; had = front s at; cut = c; stands = cut_there at c; behind = omega (arith, g); not_past = by (ltb f (base + at)) })) no_more st
    where
      by : (d : Bool) → base + at ≤ base + cond d at (suc at)
      by true = omega arith
      by false = omega arith
  at_cut at room spare (skipping z f k) q l g c st = absurd (true≢false (sym q))

  -- passing over
  abbrev w : List ℕ
  w = record_start a x

  abbrev w' : List ℕ
  w' = root_end a x

  abbrev NotHere : Resumed → Type 0
  NotHere (Here i) = ⊥
  NotHere (Waits i) = Unit {0}
  NotHere Nowhere = Unit {0}

  module _ (z : Configuration) (f N : ℕ) where
    -- what is found at `at` is found at p with the same step
    abbrev FoundAt : (at p : ℕ) → Type 0
    FoundAt at p =
        (r : Resumed) → ResumedIs w w' (s ++ later) at r →
        (r' : Resumed) × ResumedIs w w' (s ++ later) p r' × (skip_step whole_call z f N r' ≡ skip_step whole_call z f N r) × (skip_to whole_call r' ≡ skip_to whole_call r)

    module _ (at p room spare : ℕ) (found : FoundAt at p) where
      step_later : (t : Step) → StepIs whole_call at room spare (skipping z f N) t → StepIs whole_call p room spare (skipping z f N) t
      step_later t (at_token e next q r) = absurd (true≢false (sym q))
      step_later t (at_none y n q r h) = absurd (true≢false (sym q))
      step_later t (at_bytes z₁ f₁ n₁ r e h) =
          let (r', h', i, j) = found r h in
          let ez : z ≡ z₁ = cc in
          let ef : f ≡ f₁ = cc in
          let en : N ≡ n₁ = cc in
          let same : skip_step whole_call z f N r ≡ skip_step whole_call z₁ f₁ n₁ r = λ o. skip_step whole_call (ez o) (ef o) (en o) r in
          subst (StepIs whole_call p room spare (skipping z f N)) (ap₂ (λ (d : ℕ) (t : Step). reported spare d (skipping z f N) t) j (i ∙ same)) (at_bytes z f N r' refl h')

      run_later : (r : Rescued) → Rescues whole_call at room spare (skipping z f N) r → Rescues whole_call p room spare (skipping z f N) r
      run_later r (goes next m' o ds k i d) = goes next m' o ds k (step_later (on next m' o ds k) i) d
      run_later r (halts n to m' ds k i) = halts n to m' ds k (step_later (stop n to m' ds k) i)

    found_apart : (at p : ℕ) → at ≤ p → p ≤ length s → ApartUpTo w w' s at p → FoundAt at p
    found_apart at p l n h r g = (r, from_later w w' (s ++ later) at p l (stay_apart w w' s later at p n h) r g, refl, refl)

    -- where the stream is ended and nothing is found
    ended_step : s ++ later ≡ s → more ≡ false → (r : Resumed) → NotHere r →
        (skip_to whole_call r ≡ length s) × (skip_step whole_call z f N r ≡ stop 27 (length s) (between z) (lost f (base + length s - 1) N ∷ []) 0)
    ended_step e q (Here i) n = absurd n
    ended_step e q (Waits i) n = (
      ap length e,
      ap₂ (λ (c : Bool) (l : List ℕ). cond c (stay 16 i (skipping z f N)) (stop 27 (length l) (between z) (lost f (base + length l - 1) N ∷ []) 0)) q e,
    )
    ended_step e q Nowhere n = (
      ap length e,
      ap (λ (c : Bool). cond c (stay 16 (length (s ++ later)) (skipping z f N)) (stop 27 (length (s ++ later)) (between z) (lost f (base + length (s ++ later) - 1) N ∷ []) 0)) q
          ∙ ap (λ (l : List ℕ). stop 27 (length l) (between z) (lost f (base + length l - 1) N ∷ []) 0) e,
    )

    found_end : (at : ℕ) → s ++ later ≡ s → more ≡ false → (r : Resumed) → NotHere r → ResumedIs w w' s at r → FoundAt at (length s)
    found_end at e q r n h r₁ g =
        let same : r ≡ r₁ = one_resumed w w' (s ++ later) at r r₁ (subst (λ (l : List ℕ). ResumedIs w w' l at r) (sym e) h) g in
        let i = ended_step e q r₁ (subst NotHere same n) in
        let j = ended_step e q Nowhere tt in
        (Nowhere, (λ k o p. absurd (omega (arith, o, p, ap length e))), j.1 ∙ sym i.1, j.0 ∙ sym i.0)

  record Numbers (at : ℕ) (z : Configuration) (f n N : ℕ) : Type 0 where
    stretch : (l : ℕ) → base + at ≤ suc l → SameStretch (s ++ later) base (lost f l n) (lost f l N)
    modes : (p : ℕ) → base + at ≤ p → Modes p (skipping z f n) (skipping z f N)

  numbers_of : (at : ℕ) (z : Configuration) (f n : ℕ) (M : Mode) → Modes (base + at) (skipping z f n) M → (N : ℕ) × (skipping z f N ≡ M) × Numbers at z f n N
  numbers_of at z f n M (same_mode m) = (n, refl, record { stretch = λ l h. same_stretch (lost f l n); modes = λ p h. same_mode (skipping z f n) })
  numbers_of at z f n M (cut_mode z₁ f₁ c) =
      (20, refl, record { stretch = λ l h. cut_stretch f l (cut_later h c); modes = λ p h. cut_mode z f (cut_later h c) })

  module _ (at room spare : ℕ) (z : Configuration) (f n N : ℕ) (k : Numbers at z f n N) where
    abbrev Skipped : Step → Type 0
    Skipped t = Lifted at room spare (skipping z f n) (skipping z f N) t

    -- nothing is found in the part
    ran : (to : ℕ) (r : Resumed) → NotHere r → ResumedIs w w' s at r → at ≤ to → to ≤ length s → ApartUpTo w w' s at to →
        Skipped (reported spare (length s) (skipping z f n) (ran_out part_call to z f n))
    ran to r o h l g apart = by b refl
      where
        by : (c : Bool) → b ≡ c →
            Skipped (reported spare (length s) (skipping z f n) (cond c (stay 16 to (skipping z f n)) (stop 27 (length s) (between z) (lost f (base + length s - 1) n ∷ []) 0)))
        by true e =
            subst Skipped (sym (reports_end spare (length s) (skipping z f n) 16 to (skipping z f n) [] 0 (omega arith)))
            (waits {k = 0} refl g (k.modes (base + to) (omega (arith, l))) (run_later z f N at to (room + extra) (spare + entries) (found_apart z f N at to l g apart)) (λ r d. omega arith))
        by false e =
            let (same, q) = all_of_it e in
            let i = ended_step z f N same q r o in
            counted at room spare (skipping z f n) (skipping z f N) (length s) (omega arith) (k.modes (base + length s) (omega (arith, l, g)))
            (run_later z f N at (length s) (room + extra) (spare + entries) (found_end z f N at same q r o h))
            (stop 27 (length s) (between z) (lost f (base + length s - 1) n ∷ []) 0)
            (stops_alike 27 (between z) (lost f (base + length s - 1) N ∷ []) refl (same_number 27 (some 27)) (same_mode (between z))
            (and_then (k.stretch (base + length s - 1) (omega (arith, l, g))) no_more)
            (subst (WholeStep at room spare (skipping z f n) (skipping z f N))
            (ap₂ (λ (d : ℕ) (t : Step). reported (spare + entries) d (skipping z f N) t) i.0 i.1)
            (at_bytes z f N r refl (subst (λ (l : List ℕ). ResumedIs w w' l at r) (sym same) h))))

    at_skip : (r : Resumed) → ResumedIs w w' s at r → at ≤ length s → Skipped (reported spare (skip_to part_call r) (skipping z f n) (skip_step part_call z f n r))
    at_skip (Here to) (l, i, o, h) g =
        counted at room spare (skipping z f n) (skipping z f N) to (omega (arith, i)) (k.modes (base + to) (omega (arith, l)))
        (run_later z f N at to (room + extra) (spare + entries) (found_apart z f N at to l (omega (arith, i)) h))
        (on to (between z) [] (lost f (base + to - 1) n ∷ []) 0)
        (goes_alike {w = []} (between z) (lost f (base + to - 1) N ∷ []) (omega (arith, i)) (omega arith) tt (same_mode (between z)) (and_then (k.stretch (base + to - 1) (omega (arith, l))) no_more)
        (at_bytes z f N (Here to) refl (still_here w w' s later at to (l, i, o, h))))
    at_skip (Waits to) (l, i, o, h) g = ran to (Waits to) tt (l, i, o, h) l (omega (arith, i)) h
    at_skip Nowhere h g = ran (length s) Nowhere tt h g (omega arith) h

  -- a mode that reads tokens is the same in both
  not_cut : (p : ℕ) (m M : Mode) → Modes p m M → reads_tokens m ≡ true → m ≡ M
  not_cut p m M (same_mode k) q = refl
  not_cut p m M (cut_mode z f c) q = absurd (true≢false (sym q))

  token≢begun : (e : Event) (next : ℕ) → Token e (record { at = next }) ≡ Begun → ⊥
  token≢begun e next p = let z : ◌≡◌ {A = ℕ} 0 1 = cc in omega arith

  module _ (at room spare : ℕ) (m : Mode) (q : reads_tokens m ≡ true) (l : at ≤ length s) (g : Began (base + at) m) where
    abbrev Same : Step → Type 0
    Same t = Lifted at room spare m m t

    read_token_step : (e : Event) (next : ℕ) → ReadAs b s at (Token e (record { at = next })) → Same (reported spare at m (token_step part_call at room next (token_of a s e) m))
    read_token_step e next r = by (read_on b more s later at (Token e (record { at = next })) told (token≢begun e next) r)
      where
        by : ReadAs more (s ++ later) at (Token e (record { at = next })) ⊎ ((Token e (record { at = next }) ≡ Long) × ReadAs more (s ++ later) at Bad × CutNumber (front s at)) →
            Same (reported spare at m (token_step part_call at room next (token_of a s e) m))
        by (inl k) =
            let i = read_moves b s at e next r l in
            counted at room spare m m at l (same_mode m) (λ r d. d) (token_step part_call at room next (token_of a s e) m)
            (at_tokens at room spare next (token_of a s e) i.0 i.1 m q g (λ t j.
            subst (λ (t : Step). WholeStep at room spare m m (reported (spare + entries) at m t))
            (ap (λ (u : RunToken). token_step whole_call at (room + extra) next u m) (token_in a s later b at e next r) ∙ j) (at_token e next q k)))
        by (inr (i, j, k)) = absurd (let z : ◌≡◌ {A = ℕ} 0 1 = cc in omega arith)

    number_step_lem : (y : Answer) (n : ℕ) → ReadAs b s at y → number_at b (length (drop at s)) (control_of m) y ≡ some n → Same (reported spare at m (number_step part_call at n m))
    number_step_lem (Token e next) n r h = absurd (let z : ◌≡◌ {A = ℕ} 0 1 = cc in omega arith)
    number_step_lem (Waiting e next) n r h = absurd (let z : ◌≡◌ {A = ℕ} 0 1 = cc in omega arith)
    number_step_lem Begun n r h = by b refl
      where
        by : (c : Bool) → b ≡ c → Same (reported spare at m (number_step part_call at n m))
        by true e =
            let i : some 16 ≡ some n = ap (λ (c : Bool). number_at c (length (drop at s)) (control_of m) Begun) (sym e) ∙ h in
            let j : 16 ≡ n = cc in
            subst (λ (k : ℕ). Same (reported spare at m (number_step part_call at k m))) j
            (counted at room spare m m at l (same_mode m) (λ r d. d) (number_step part_call at 16 m) (at_waiting at room spare m q l))
        by false e =
            let (same, t) = all_of_it e in
            let r' : ReadAs more (s ++ later) at Begun = subst (λ (k : List ℕ). ReadAs more k at Begun) (sym same) (subst (λ (c : Bool). ReadAs c s at Begun) (e ∙ sym t) r) in
            let h' : number_at more (length (drop at (s ++ later))) (control_of m) Begun ≡ some n =
            ap₂ (λ (c : Bool) (k : List ℕ). number_at c (length (drop at k)) (control_of m) Begun) (t ∙ sym e) same ∙ h in
            counted at room spare m m at l (same_mode m) (λ r d. d) (number_step part_call at n m)
            (at_number at room spare n m q l g (end_leaves (length (drop at s)) (control_of m) n (ap (λ (c : Bool). number_at c (length (drop at s)) (control_of m) Begun) (sym e) ∙ h)) (inr same)
            (at_none Begun n q r' h'))
    number_step_lem Bad n r h = by (read_on b more s later at Bad told (λ e. let z : ◌≡◌ {A = ℕ} 0 1 = cc in omega arith) r)
      where
        by : ReadAs more (s ++ later) at Bad ⊎ ((Bad ≡ Long) × ReadAs more (s ++ later) at Bad × CutNumber (front s at)) → Same (reported spare at m (number_step part_call at n m))
        by (inl k) =
            let j : 20 ≡ n = cc in
            subst (λ (k : ℕ). Same (reported spare at m (number_step part_call at k m))) j
            (counted at room spare m m at l (same_mode m) (λ r d. d) (number_step part_call at 20 m) (at_number at room spare 20 m q l g refl (inl refl) (at_none Bad 20 q k refl)))
        by (inr (i, j, k)) = absurd (let z : ◌≡◌ {A = ℕ} 0 1 = cc in omega arith)
    number_step_lem Long n r h = by (read_on b more s later at Long told (λ e. let z : ◌≡◌ {A = ℕ} 0 1 = cc in omega arith) r)
      where
        is_21 : Same (reported spare at m (number_step part_call at 21 m)) → Same (reported spare at m (number_step part_call at n m))
        is_21 d = let j : 21 ≡ n = cc in subst (λ (k : ℕ). Same (reported spare at m (number_step part_call at k m))) j d

        by : ReadAs more (s ++ later) at Long ⊎ ((Long ≡ Long) × ReadAs more (s ++ later) at Bad × CutNumber (front s at)) → Same (reported spare at m (number_step part_call at n m))
        by (inl k) =
            is_21 (counted at room spare m m at l (same_mode m) (λ r d. d) (number_step part_call at 21 m) (at_number at room spare 21 m q l g refl (inl refl) (at_none Long 21 q k refl)))
        by (inr (e, k, c)) =
            is_21 (counted at room spare m m at l (same_mode m) (λ r d. d) (number_step part_call at 21 m) (at_cut at room spare m q l g c (at_none Bad 20 q k refl)))

  -- a step of a call on the part, as one of the call on the whole
  pub lift_step : (at room spare : ℕ) (m M : Mode) (t : Step) → StepIs part_call at room spare m t → at ≤ length s → Began (base + at) m → Modes (base + at) m M → Lifted at room spare m M t
  lift_step at room spare m M t (at_token e next q r) l g i = subst (λ (k : Mode). Lifted at room spare m k t) (not_cut (base + at) m M i q) (read_token_step at room spare m q l g e next r)
  lift_step at room spare m M t (at_none y n q r h) l g i = subst (λ (k : Mode). Lifted at room spare m k t) (not_cut (base + at) m M i q) (number_step_lem at room spare m q l g y n r h)
  lift_step at room spare m M t (at_bytes z f n r e h) l g i =
      subst (λ (k : Mode). Lifted at room spare k M (reported spare (skip_to part_call r) k (skip_step part_call z f n r))) (sym e)
      (let (N, p, k) = numbers_of at z f n M (subst (λ (k : Mode). Modes (base + at) k M) e i) in
      subst (λ (k : Mode). Lifted at room spare (skipping z f n) k (reported spare (skip_to part_call r) (skipping z f n) (skip_step part_call z f n r))) p (at_skip at room spare z f n N k r h l))
