-- How a stream is cut into parts, and how much room is lent at a time, changes nothing. What the reader answers of a part it answers of the whole, unless
-- it answers Begun, or it is the number of a reference that was cut off (`read_on`), and what a token comes to depends on the room only where there is too little; so a call on a part goes as the call on
-- the whole up to where it stops (`resume`). From there on the bytes that are left do as well as the whole (`shift`).
-- Assumes nothing.
use mathlib.Core.Path.{◌≡◌, refl, sym, ap, ap₂, ◌∙◌, subst}
use mathlib.Core.Logic.{◌⊎◌, inl, inr}
use mathlib.Core.Bool.{Bool, true, false, ◌||◌, true≢false}
use mathlib.Core.List.{List, [], ◌∷◌, ◌++◌, append-nil, append_assoc}
use mathlib.Core.Option.{Option, none, some}
use Prim.Native.Nat.{ℕ, zero, suc, ◌+◌, ◌-◌, ◌≤◌}
use native.Mathlib.Omega.{arith}
use lib.Dec.{leb, eqb}
use lib.ListN.{length, take, drop, length-append, length-take, length-drop, take-append-drop}
use lib.Seq.{drop-drop, drop-append-le}
use borrow.Author.Tests.{ne_eqb, leb-true, le-leb}
use Rattle.tokens.specs.declared.Cursor.{Cursor}
use Rattle.tokens.specs.declared.Event.{Event}
use Rattle.tokens.specs.declared.Answer.{Answer}
use Rattle.tokens.specs.declared.Answer.TheVariants.{Token, Waiting, Begun, Bad, Long}
use Rattle.text.specs.Chars.{Starts}
use Rattle.tokens.specs.Tokens.{bytes, front}
use Rattle.tokens.specs.Stream.{ReadAs}
use Rattle.tokens.specs.Parts.{CutNumber}
use Rattle.sheet.specs.Sheet.{Sheet}
use Rattle.runs.specs.Machine.{Control, before, inside, after, Configuration, took, refused}
use Rattle.runs.specs.Spells.{step_token}
use Rattle.calls.specs.Names.{token_of}
use Rattle.runs.specs.Visits.{most_visits}
use Rattle.calls.specs.Limits.{silent, output_of, Taking, taken, refuses, no_room, limited, within, one_token}
use Rattle.calls.specs.Held.{Held, leaves_open, closing_of, handed}
use Rattle.calls.specs.Call.{Result, stopped_at, after_writing, number_at, stops, full, no_token, Runs, takes, halts, CalledBy, Called}
use Rattle.calls.specs.Parts.{answers_together, EndTold, CutOff, SameAnswer, Continued, Feeds, at_once, closes, goes_on, EachCall, CallOf}
use Rattle.calls.proofs.Read.{NoToken, Alike, read_on, read_token, token_long, token_at, token_of_lem, none_there, token_there}
use Rattle.calls.proofs.Answers.{AfterToken, split, to_number, call_one, call_some}
use Rattle.calls.proofs.Frame.{count_of}
use Rattle.calls.proofs.Steps.{RunToken, RunAnswer, takes_one, one_takes, refuses_over}

-- more room changes nothing where there is enough, and no refusal
module _ (a : Sheet) (z : Configuration) (room extra : ℕ) (k : RunToken) where
  taken_in_more : (z' : Configuration) (w : List ℕ) → one_token a z room k ≡ taken z' w → (one_token a z (room + extra) k ≡ taken z' w) × (length w ≤ room)
  taken_in_more z' w e =
      let o = takes_one a z room k z' w e in (
        one_takes a z (room + extra) k o.reached o.stepped o.counts (omega (arith, o.fits)) ∙ ap₂ taken (sym o.silenced) (sym o.writes),
        omega (arith, o.fits, ap length o.writes),
      )

  refused_in_more : (n : ℕ) → one_token a z room k ≡ refuses n → one_token a z (room + extra) k ≡ refuses n
  refused_in_more n e = by (step_token a z k) e
    where
      by_tests : (y : Configuration) (c f f' : Bool) → limited y c f ≡ refuses n → limited y c f' ≡ refuses n
      by_tests y false f f' e = e
      by_tests y true false f' e = absurd (let x : ◌≡◌ {A = ℕ} 0 1 = cc in omega arith)
      by_tests y true true f' e = absurd (let x : ◌≡◌ {A = ℕ} 0 1 = cc in omega arith)

      by : (x : RunAnswer) → within room x ≡ refuses n → within (room + extra) x ≡ refuses n
      by (took y) e = by_tests y (leb (count_of y) most_visits) (leb (length (output_of y)) room) (leb (length (output_of y)) (room + extra)) e
      by (refused m) e = e

-- the run's token of what was read in s is the same with more bytes behind
token_in : (a : Sheet) (s r : List ℕ) (b : Bool) (at : ℕ) (e : Event) (next : ℕ) → ReadAs b s at (Token e (record { at = next })) → token_of a (s ++ r) e ≡ token_of a s e
token_in a s r b at e next m =
    let t = read_token b s at e next m in
    let w : List ℕ = bytes t.tok in
    let within : at ≤ length s = omega (arith, length-drop at s, ap length t.split, length-append w (drop next s), token_long t.tok t.good) in
    let d : drop at (s ++ r) ≡ w ++ (drop next s ++ r) = drop-append-le at s r within ∙ ap (λ (l : List ℕ). l ++ r) t.split ∙ append_assoc w (drop next s) r in
    ap (token_of a (s ++ r)) t.event ∙ token_at a (s ++ r) t.tok at (drop next s ++ r) d ∙ sym (token_of_lem a s t)

token≢begun : (e : Event) (n : Cursor) → Token e n ≡ Begun → ⊥
token≢begun e n p = let z : ◌≡◌ {A = ℕ} 0 1 = cc in omega arith

bad≢begun : Bad ≡ Begun → ⊥
bad≢begun p = let z : ◌≡◌ {A = ℕ} 0 1 = cc in omega arith

token≢long : (e : Event) (n : Cursor) → Token e n ≡ Long → ⊥
token≢long e n p = let z : ◌≡◌ {A = ℕ} 0 1 = cc in omega arith

bad≢long : Bad ≡ Long → ⊥
bad≢long p = let z : ◌≡◌ {A = ℕ} 0 1 = cc in omega arith

long≢begun : Long ≡ Begun → ⊥
long≢begun p = let z : ◌≡◌ {A = ℕ} 0 1 = cc in omega arith

-- a number over 17 closes
over_closes : (n : ℕ) → 18 ≤ n → closing_of (leaves_open n) n ≡ some n
over_closes n h = ap₂ (λ (b b' : Bool). closing_of (b || b') n) (ne_eqb n 16 (λ e. omega arith)) (ne_eqb n 17 (λ e. omega arith))

-- and so do 27 and 0, at the end of a stream
end_closes : (left : ℕ) (c : Control) (n : ℕ) → number_at false left c Begun ≡ some n → closing_of (leaves_open n) n ≡ some n
end_closes zero before n q = let h : 27 ≡ n = cc in over_closes n (omega arith)
end_closes zero (inside o os) n q = let h : 27 ≡ n = cc in over_closes n (omega arith)
end_closes zero after n q =
    let h : 0 ≡ n = cc in
    subst (λ (m : ℕ). closing_of (leaves_open m) m ≡ some m) h refl
end_closes (suc left) c n q = let h : 27 ≡ n = cc in over_closes n (omega arith)

module _ (a : Sheet) (s r : List ℕ) (b more : Bool) (told : EndTold b r more) (extra : ℕ) where
  -- how the call on the whole goes, by what closed the state of the call on the part
  abbrev Onward : ℕ → Result → Result → Option ℕ → Type 0
  Onward room r₁ R none =
      (r₂ : Result) × Runs a (s ++ r) more r₁.taken (room + extra - length r₁.output) r₁.held.run r₂ × (R ≡ after_writing r₁.output r₂)
  Onward room r₁ R (some n) = SameAnswer (s ++ r) r₁ R

  -- what is read of the part is read of the whole
  read_whole : (at : ℕ) (x : Answer) → (x ≡ Begun → ⊥) → (x ≡ Long → ⊥) → ReadAs b s at x → ReadAs more (s ++ r) at x
  read_whole at x n l m = by (read_on b more s r at x told n m)
    where
      by : ReadAs more (s ++ r) at x ⊎ ((x ≡ Long) × ReadAs more (s ++ r) at Bad × CutNumber (front s at)) → ReadAs more (s ++ r) at x
      by (inl k) = k
      by (inr k) = absurd (l k.0)

  -- where the part's call stops open, the whole's goes on from there
  from_here : (at room : ℕ) (z : Configuration) (R : Result) (n : ℕ) → Runs a (s ++ r) more at (room + extra) z R → Onward room (stopped_at n at z) R none
  from_here at room z R n d = (R, subst (λ (m : ℕ). Runs a (s ++ r) more at m z R) (omega arith) d, refl)

  lift : (room : ℕ) (w : List ℕ) (r₁ R R' : Result) (c : Option ℕ) → length w ≤ room → R ≡ after_writing w R' → Onward (room - length w) r₁ R' c →
      Onward room (after_writing w r₁) R c
  lift room w r₁ R R' none h e (r₂, d, q) = (
    r₂,
    subst (λ (m : ℕ). Runs a (s ++ r) more r₁.taken m r₁.held.run r₂) (omega (arith, length-append w r₁.output)) d,
    e ∙ ap (after_writing w) q ∙ ap (λ (l : List ℕ). record { number = r₂.number; taken = r₂.taken; output = l; held = r₂.held }) (sym (append_assoc w r₁.output r₂.output)),
  )
  lift room w r₁ R R' (some n) h e (inl q) = inl (e ∙ ap (after_writing w) q)
  lift room w r₁ R R' (some n) h e (inr c) = inr (record { number = c.number; had = c.had; cut = c.cut; stands = c.stands; is = e ∙ ap (after_writing w) c.is })

  -- where the part's call stops at a token that is only begun
  at_begun : (at room : ℕ) (z : Configuration) (R : Result) (n : ℕ) → ReadAs b s at Begun → number_at b (length (drop at s)) z.control Begun ≡ some n →
      Runs a (s ++ r) more at (room + extra) z R → Onward room (stopped_at n at z) R (handed n z).closing
  at_begun at room z R n m q d = by b refl told
    where
      waits : b ≡ true → Onward room (stopped_at n at z) R (handed n z).closing
      waits e =
          let i : some 16 ≡ some n = ap (λ (x : Bool). number_at x (length (drop at s)) z.control Begun) (sym e) ∙ q in
          let h : 16 ≡ n = cc in
          subst (λ (j : ℕ). Onward room (stopped_at j at z) R (handed j z).closing) h (from_here at room z R 16 d)

      by : (x : Bool) → b ≡ x → EndTold b r more → Onward room (stopped_at n at z) R (handed n z).closing
      by true e t = waits e
      by false e (inl t) = waits t
      by false e (inr (l, t)) =
          let w : s ≡ s ++ r = sym (append-nil s) ∙ ap (λ (x : List ℕ). s ++ x) (sym l) in
          let k : number_at more (length (drop at (s ++ r))) z.control Begun ≡ some n =
          ap₂ (λ (x : Bool) (y : List ℕ). number_at x (length (drop at y)) z.control Begun) (sym t) (sym w) ∙ q in
          subst (Onward room (stopped_at n at z) R)
          (sym (end_closes (length (drop at s)) z.control n (ap (λ (x : Bool). number_at x (length (drop at s)) z.control Begun) (sym e) ∙ q)))
          (inl (to_number a (s ++ r) more at (room + extra) z R Begun n k (split a (s ++ r) more d Begun (subst (λ (y : List ℕ). ReadAs more y at Begun) w (subst (λ (x : Bool). ReadAs x s at Begun) t m)))))

  -- where it stops at a token that can only be too long
  at_long : (at room : ℕ) (z : Configuration) (R : Result) (n : ℕ) → n ≡ 21 → number_at b (length (drop at s)) z.control Long ≡ some n → Runs a (s ++ r) more at (room + extra) z R →
      ReadAs more (s ++ r) at Long ⊎ ((Long ≡ Long) × ReadAs more (s ++ r) at Bad × CutNumber (front s at)) → SameAnswer (s ++ r) (stopped_at n at z) R
  at_long at room z R n i q d (inl m) = inl (to_number a (s ++ r) more at (room + extra) z R Long n q (split a (s ++ r) more d Long m))
  at_long at room z R n i q d (inr (e, m, c)) =
      inr
      (record {
        number = i;
        had = front s at;
        cut = c;
        stands = in_front c;
        is = to_number a (s ++ r) more at (room + extra) z R Bad 20 refl (split a (s ++ r) more d Bad m);
      })
    where
      in_front : CutNumber (front s at) → Starts (drop at (s ++ r)) (front s at)
      in_front c =
          let (v, w) = c.opened in
          let within : at ≤ length s = omega (arith, length-drop at s, length-take 32 (drop at s), ap length w) in (
            drop 32 (drop at s) ++ r,
            drop-append-le at s r within ∙ ap (λ (l : List ℕ). l ++ r) (sym (take-append-drop 32 (drop at s))) ∙ append_assoc (front s at) (drop 32 (drop at s)) r,
          )

  resume : {at room : ℕ} {z : Configuration} {r₁ R : Result} → Runs a s b at room z r₁ → Runs a (s ++ r) more at (room + extra) z R → Onward room r₁ R r₁.held.closing
  resume {R = R} (takes {at} {room} {z} {r = r₁} e next z' w m t d) d' =
      let m' = read_whole at (Token e (record { at = next })) (token≢begun e (record { at = next })) (token≢long e (record { at = next })) m in
      let o = taken_in_more a z room extra (token_of a s e) z' w t in
      let i = subst (AfterToken a (s ++ r) more at (room + extra) z next R)
      (ap (one_token a z (room + extra)) (token_in a s r b at e next m) ∙ o.0) (split a (s ++ r) more d' (Token e (record { at = next })) m') in
      let f = o.1 in
      lift room w r₁ R i.0 r₁.held.closing f i.2
      (resume d (subst (λ (n : ℕ). Runs a (s ++ r) more next n z' i.0) (omega arith) i.1))
  resume {R = R} (halts {at} {room} {z} (stops e next n m t)) d' =
      let m' = read_whole at (Token e (record { at = next })) (token≢begun e (record { at = next })) (token≢long e (record { at = next })) m in
      let i = subst (AfterToken a (s ++ r) more at (room + extra) z next R)
      (ap (one_token a z (room + extra)) (token_in a s r b at e next m) ∙ refused_in_more a z room extra (token_of a s e) n t)
      (split a (s ++ r) more d' (Token e (record { at = next })) m') in
      let h = refuses_over a z room (token_of a s e) n t in
      subst (Onward room (stopped_at n at z) R) (sym (over_closes n (omega arith))) (inl i)
  resume {R = R} (halts {at} {room} {z} (full e next m t)) d' = from_here at room z R 17 d'
  resume {R = R} (halts {at} {room} {z} (no_token (Token e next) n m q)) d' = absurd (let y : ◌≡◌ {A = ℕ} 0 1 = cc in omega arith)
  resume {R = R} (halts {at} {room} {z} (no_token (Waiting e next) n m q)) d' = absurd (let y : ◌≡◌ {A = ℕ} 0 1 = cc in omega arith)
  resume {R = R} (halts {at} {room} {z} (no_token Begun n m q)) d' = at_begun at room z R n m q d'
  resume {R = R} (halts {at} {room} {z} (no_token Bad n m q)) d' =
      let h : 20 ≡ n = cc in
      subst (Onward room (stopped_at n at z) R) (sym (over_closes n (omega arith)))
      (inl (to_number a (s ++ r) more at (room + extra) z R Bad n q (split a (s ++ r) more d' Bad (read_whole at Bad bad≢begun bad≢long m))))
  resume {R = R} (halts {at} {room} {z} (no_token Long n m q)) d' =
      let h : 21 ≡ n = cc in
      subst (Onward room (stopped_at n at z) R) (sym (over_closes n (omega arith)))
      (at_long at room z R n (sym h) q d' (read_on b more s r at Long told long≢begun m))

-- what stands in front of a part changes an answer's places only
abbrev moved_by : ℕ → Result → Result
moved_by n r = record { number = r.number; taken = n + r.taken; output = r.output; held = r.held }

module _ (a : Sheet) (whole : List ℕ) (more : Bool) (n : ℕ) where
  abbrev rest : List ℕ
  rest = drop n whole

  abbrev Shifted : ℕ → ℕ → Configuration → Result → Type 0
  Shifted at room z r = (r' : Result) × Runs a rest more at room z r' × (r ≡ moved_by n r')

  bytes_moved : (at from : ℕ) → from ≡ n + at → drop at rest ≡ drop from whole
  bytes_moved at from h = drop-drop at n whole ∙ ap (λ (i : ℕ). drop i whole) (sym h)

  number_moved : (at from : ℕ) (x : Answer) (k : ℕ) (z : Configuration) → from ≡ n + at → number_at more (length (drop from whole)) z.control x ≡ some k →
      number_at more (length (drop at rest)) z.control x ≡ some k
  number_moved at from x k z h q = ap (λ (l : List ℕ). number_at more (length l) z.control x) (bytes_moved at from h) ∙ q

  no_number : (left : ℕ) (c : Control) (x : Answer) (k : ℕ) → number_at more left c x ≡ some k → NoToken x
  no_number left c (Token e next) k q = let y : ◌≡◌ {A = ℕ} 0 1 = cc in omega arith
  no_number left c (Waiting e next) k q = let y : ◌≡◌ {A = ℕ} 0 1 = cc in omega arith
  no_number left c Begun k q = tt
  no_number left c Bad k q = tt
  no_number left c Long k q = tt

  -- a token in the bytes that are left
  left_token : (at from : ℕ) (e : Event) (next : ℕ) (h : from ≡ n + at) → ReadAs more whole from (Token e (record { at = next })) →
      Alike more whole rest from at (sym (bytes_moved at from h)) e next
  left_token at from e next h m = token_there more whole rest from at (sym (bytes_moved at from h)) e next m

  shift : {from room : ℕ} {z : Configuration} {r : Result} → Runs a whole more from room z r → (at : ℕ) → from ≡ n + at → Shifted at room z r
  shift (takes {at = from} {room} {z} e next z' w m t d) at h =
      let l = left_token at from e next h m in
      let i = shift d l.to (omega (arith, l.as_long, h)) in
      (after_writing w i.0, takes l.event l.to z' w l.read (ap (one_token a z room) (l.same a) ∙ t) i.1, ap (after_writing w) i.2)
  shift (halts {at = from} {room} {z} (stops e next k m t)) at h =
      let l = left_token at from e next h m in
      (stopped_at k at z, halts (stops l.event l.to k l.read (ap (one_token a z room) (l.same a) ∙ t)), ap (λ (i : ℕ). stopped_at k i z) h)
  shift (halts {at = from} {room} {z} (full e next m t)) at h =
      let l = left_token at from e next h m in
      (stopped_at 17 at z, halts (full l.event l.to l.read (ap (one_token a z room) (l.same a) ∙ t)), ap (λ (i : ℕ). stopped_at 17 i z) h)
  shift (halts {at = from} {room} {z} (no_token x k m q)) at h =
      let l = none_there more whole rest from at (sym (bytes_moved at from h)) x (no_number (length (drop from whole)) z.control x k q) m in
      (stopped_at k at z, halts (no_token x k l (number_moved at from x k z h q)), ap (λ (i : ℕ). stopped_at k i z) h)

module _ (a : Sheet) (s r : List ℕ) (b more : Bool) (told : EndTold b r more) (room extra : ℕ) where
  -- the call on the whole, from where the part's stopped-at, as a call of its own
  as_call : (r₁ R : Result) (c : Option ℕ) → r₁.held.closing ≡ c → Onward a s r b more told extra room r₁ R c → Continued a (s ++ r) more (room + extra) r₁ R c
  as_call r₁ R none h (r₂, d, q) =
      let i = shift a (s ++ r) more r₁.taken d 0 (omega arith) in (
        i.0,
        subst (λ (c : Option ℕ). CalledBy a (drop r₁.taken (s ++ r)) more (room + extra - length r₁.output) r₁.held.run c i.0) (sym h) i.1,
        q ∙ ap (after_writing r₁.output) i.2,
      )
  as_call r₁ R (some n) h q = q

  by_closing : (z : Configuration) (c : Option ℕ) (r₁ R : Result) → CalledBy a s b room z c r₁ → CalledBy a (s ++ r) more (room + extra) z c R →
      Continued a (s ++ r) more (room + extra) r₁ R r₁.held.closing
  by_closing z none r₁ R d d' = as_call r₁ R r₁.held.closing refl (resume a s r b more told extra d d')
  by_closing z (some n) r₁ R d d' = subst (Continued a (s ++ r) more (room + extra) r₁ R) (sym (ap (λ (x : Result). x.held.closing) d)) (inl (d' ∙ sym d))

  -- a call on the part s in so much room, against a call on s ++ r in more room, from the same state
  pub in_parts : (h : Held) (r₁ R : Result) → Called a s b room h r₁ → Called a (s ++ r) more (room + extra) h R →
      Continued a (s ++ r) more (room + extra) r₁ R r₁.held.closing
  in_parts h r₁ R d d' = by_closing h.run h.closing r₁ R d d'

-- so any calls that feed a stream answer what one call on all of it does
pub record OneCall (a : Sheet) (whole : List ℕ) (more : Bool) (room : ℕ) (h : Held) (r : Result) : Type 0 where
  pub answer : Result
  pub called : Called a whole more room h answer
  pub same : SameAnswer whole r answer

-- a second answer, behind a first
behind_first : (whole : List ℕ) (r₁ r₂ R₂ R : Result) → R ≡ answers_together r₁ R₂ → SameAnswer (drop r₁.taken whole) r₂ R₂ → SameAnswer whole (answers_together r₁ r₂) R
behind_first whole r₁ r₂ R₂ R e (inl q) = inl (e ∙ ap (answers_together r₁) q)
behind_first whole r₁ r₂ R₂ R e (inr c) =
    let d : drop r₂.taken (drop r₁.taken whole) ≡ drop (r₁.taken + r₂.taken) whole = drop-drop r₂.taken r₁.taken whole in
    inr (record { number = c.number; had = c.had; cut = c.cut; stands = subst (λ (l : List ℕ). Starts l c.had) d c.stands; is = e ∙ ap (answers_together r₁) c.is })

pub feeds_as_one : (a : Sheet) (more : Bool) {whole : List ℕ} {room : ℕ} {h : Held} {r : Result} {v : ℕ} → Feeds (CallOf a) more whole room h r v → OneCall a whole more room h r
feeds_as_one a more {r = r} (at_once d) = record { answer = r; called = d.called; same = inl refl }
feeds_as_one a more (closes {h} room extra s later b r₁ n told d c) =
    let R = call_some a (s ++ later) more (room + extra) h in
    record {
      answer = R.0;
      called = R.1;
      same = subst (Continued a (s ++ later) more (room + extra) r₁ R.0) c (in_parts a s later b more told room extra h r₁ R.0 d.called R.1);
    }
feeds_as_one a more (goes_on {h} {h'} {r₂} room extra s later b r₁ told d c f) =
    let R = call_some a (s ++ later) more (room + extra) h in
    let q = subst (Continued a (s ++ later) more (room + extra) r₁ R.0) c (in_parts a s later b more told room extra h r₁ R.0 d.called R.1) in
    let o = feeds_as_one a more f in
    let t = subst (λ (k : Held). Called a (drop r₁.taken (s ++ later)) more (room + extra - length r₁.output) k o.answer) (sym d.handed_back) o.called in
    let e = call_one a (drop r₁.taken (s ++ later)) more (room + extra - length r₁.output) r₁.held q.0 o.answer q.1 t in
    record { answer = R.0; called = R.1; same = behind_first (s ++ later) r₁ r₂ o.answer R.0 (q.2 ∙ ap (answers_together r₁) e) o.same }

-- and the visits told are those counted
pub feeds_visits : (a : Sheet) (more : Bool) {whole : List ℕ} {room : ℕ} {h : Held} {r : Result} {v : ℕ} → Feeds (CallOf a) more whole room h r v → v ≡ r.held.run.store.env.count
feeds_visits a more (at_once d) = d.visits
feeds_visits a more (closes room extra s later b r₁ n told d c) = d.visits
feeds_visits a more (goes_on room extra s later b r₁ told d c f) = feeds_visits a more f

-- calls that each answer as the definition's call on what is held feed as those do
module _ {H : Type 0} {Call : List ℕ → Bool → ℕ → H → H → Result → ℕ → Type 0} (a : Sheet) (holds : H → Held) (Good : H → Type 0)
    (each : (part : List ℕ) (b : Bool) (room : ℕ) (h h' : H) (r : Result) (v : ℕ) → Good h → Call part b room h h' r v → CallOf a part b room (holds h) (holds h') r v × Good h') where
  pub feeds_held : {more : Bool} {whole : List ℕ} {room : ℕ} {h : H} {r : Result} {v : ℕ} → Good h → Feeds Call more whole room h r v → Feeds (CallOf a) more whole room (holds h) r v
  feeds_held g (at_once d) = at_once (each _ _ _ _ _ _ _ g d).0
  feeds_held g (closes room extra s later b r₁ n told d c) = closes room extra s later b r₁ n told (each _ _ _ _ _ _ _ g d).0 c
  feeds_held g (goes_on room extra s later b r₁ told d c f) = goes_on room extra s later b r₁ told (each _ _ _ _ _ _ _ g d).0 c (feeds_held (each _ _ _ _ _ _ _ g d).1 f)

-- what holds of every call holds of each
pub each_call : {H : Type 0} {Call : List ℕ → Bool → ℕ → H → H → Result → ℕ → Type 0}
    (P : (part : List ℕ) (b : Bool) (room : ℕ) (h h' : H) (r : Result) (v : ℕ) → Call part b room h h' r v → Type 0) →
    ((part : List ℕ) (b : Bool) (room : ℕ) (h h' : H) (r : Result) (v : ℕ) (c : Call part b room h h' r v) → P part b room h h' r v c) →
    {more : Bool} {whole : List ℕ} {room : ℕ} {h : H} {r : Result} {v : ℕ} (d : Feeds Call more whole room h r v) → EachCall P d
each_call P k (at_once c) = k _ _ _ _ _ _ _ c
each_call P k (closes room extra s later b r₁ n t c e) = k _ _ _ _ _ _ _ c
each_call P k (goes_on room extra s later b r₁ t c e d) = (k _ _ _ _ _ _ _ c, each_call P k d)
