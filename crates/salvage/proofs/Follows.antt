-- Tokens and stops of a stream, read in its cut: a token that lies before the next dropped stretch is the same token there, since what follows it there is no LF either; where nothing is
-- dropped any more the run stops there as it does here.
-- Assumes nothing.
use mathlib.Core.Path.{◌≡◌, refl, sym, ap, ap₂, ◌∙◌, subst}
use mathlib.Core.Bool.{Bool, true, false}
use mathlib.Core.List.{List, [], ◌∷◌, ◌++◌, append_assoc}
use mathlib.Core.Option.{some}
use Prim.Native.Nat.{ℕ, zero, suc, ◌+◌, ◌-◌, ◌≤◌, ◌<◌}
use native.Mathlib.Omega.{arith}
use lib.Dec.{leb}
use lib.ListN.{length, take, drop, length-append}
use lib.Seq.{drop-drop, drop-append_seam, take-append-add}
use Rattle.text.specs.Chars.{pick}
use Rattle.tokens.specs.declared.Event.{Event}
use Rattle.tokens.specs.declared.Answer.{Answer}
use Rattle.tokens.specs.declared.Answer.TheVariants.{Token, Waiting, Begun, Bad, Long}
use Rattle.tokens.specs.Tokens.{Tok, tag, ref, numeric, line, char, crlf, cr, bytes, event_of}
use Rattle.tokens.specs.Stream.{ReadAs, Followed}
use Rattle.sheet.specs.Sheet.{Sheet}
use Rattle.runs.specs.Visits.{most_visits}
use Rattle.runs.specs.Machine.{Control, before, inside, after, Configuration, took, refused}
use Rattle.runs.specs.Spells.{step_token}
use Rattle.calls.specs.Names.{token_of}
use Rattle.calls.specs.Limits.{output_of, taken, refuses, limited, within, one_token}
use Rattle.calls.specs.Call.{Result, after_writing, room_left, number_at, Stop, stops, full, no_token, Runs, takes}
use Rattle.calls.proofs.Read.{NoToken, none_read, read_token, read_moves, token_reads, token_at, token_of_lem, none_there, token_there}
use Rattle.calls.proofs.Frame.{count_of}
use Rattle.calls.proofs.Steps.{RunToken, RunAnswer, takes_one, one_takes}
use Rattle.salvage.specs.Salvage.{root_only, RecordEnd, whole, broken, InRecord, goes_on, ends, breaks, LostStretch}
use Rattle.salvage.specs.Cut.{ends_reading, cut_from}

-- the room decides nothing but 17
module _ (a : Sheet) (z : Configuration) (room room' : ℕ) (k : RunToken) where
  pub taken_in : (z' : Configuration) (w : List ℕ) → one_token a z room k ≡ taken z' w → length w ≤ room' → one_token a z room' k ≡ taken z' w
  taken_in z' w e f =
      let o = takes_one a z room k z' w e in
      one_takes a z room' k o.reached o.stepped o.counts (omega (arith, ap length o.writes, f)) ∙ ap₂ taken (sym o.silenced) (sym o.writes)

  pub refused_in : (n : ℕ) → one_token a z room k ≡ refuses n → one_token a z room' k ≡ refuses n
  refused_in n e = by (step_token a z k) e
    where
      by_tests : (y : Configuration) (c f f' : Bool) → limited y c f ≡ refuses n → limited y c f' ≡ refuses n
      by_tests y false f f' e = e
      by_tests y true false f' e = absurd (let x : ◌≡◌ {A = ℕ} 0 1 = cc in omega arith)
      by_tests y true true f' e = absurd (let x : ◌≡◌ {A = ℕ} 0 1 = cc in omega arith)

      by : (x : RunAnswer) → within room x ≡ refuses n → within room' x ≡ refuses n
      by (took y) e = by_tests y (leb (count_of y) most_visits) (leb (length (output_of y)) room) (leb (length (output_of y)) room') e
      by (refused m) e = e

pub stop_in : (a : Sheet) (s : List ℕ) (more : Bool) (at room room' : ℕ) (z : Configuration) (n : ℕ) → (n ≡ 17 → ⊥) → Stop a s more at room z n → Stop a s more at room' z n
stop_in a s more at room room' z n h (stops e next k m t) = stops e next k m (refused_in a z room room' (token_of a s e) k t)
stop_in a s more at room room' z n h (full e next m t) = absurd (h refl)
stop_in a s more at room room' z n h (no_token x k m q) = no_token x k m q

no_number : (more : Bool) (left : ℕ) (c : Control) (x : Answer) (k : ℕ) → number_at more left c x ≡ some k → NoToken x
no_number more left c (Token e next) k q = let y : ◌≡◌ {A = ℕ} 0 1 = cc in omega arith
no_number more left c (Waiting e next) k q = let y : ◌≡◌ {A = ℕ} 0 1 = cc in omega arith
no_number more left c Begun k q = tt
no_number more left c Bad k q = tt
no_number more left c Long k q = tt

-- a stop depends on the bytes from there on alone
pub stop_there : (a : Sheet) (s c : List ℕ) (more : Bool) (at at' room : ℕ) (z : Configuration) (n : ℕ) → drop at s ≡ drop at' c → Stop a s more at room z n → Stop a c more at' room z n
stop_there a s c more at at' room z n h (stops e next k m t) =
    let l = token_there more s c at at' h e next m in
    stops l.event l.to k l.read (ap (one_token a z room) (l.same a) ∙ t)
stop_there a s c more at at' room z n h (full e next m t) =
    let l = token_there more s c at at' h e next m in
    full l.event l.to l.read (ap (one_token a z room) (l.same a) ∙ t)
stop_there a s c more at at' room z n h (no_token x k m q) =
    no_token x k (none_there more s c at at' h x (no_number more (length (drop at s)) z.control x k q) m)
    (ap (λ (l : List ℕ). number_at more (length l) z.control x) (sym h) ∙ q)

-- where nothing is left and only the root is open, a stream that is declared ended stops with 27
pub ends_open : (a : Sheet) (c : List ℕ) (at room : ℕ) (z : Configuration) → drop at c ≡ [] → root_only z.control ≡ true → Stop a c false at room z 27
ends_open a c at room z h b =
    no_token Begun 27 (none_read false c at (ap length h)) (ap (λ (l : List ℕ). number_at false (length l) z.control Begun) h ∙ by z.control b)
  where
    by : (k : Control) → root_only k ≡ true → number_at false 0 k Begun ≡ some 27
    by before b = absurd (let y : ◌≡◌ {A = ℕ} 0 1 = cc in omega arith)
    by (inside o []) b = refl
    by (inside o (o' ∷ os)) b = absurd (let y : ◌≡◌ {A = ℕ} 0 1 = cc in omega arith)
    by after b = absurd (let y : ◌≡◌ {A = ℕ} 0 1 = cc in omega arith)

-- the first byte, if there is one, is no LF
abbrev pub NoLF : List ℕ → Type 0
NoLF [] = Unit {0}
NoLF (b ∷ l) = b ≡ 10 → ⊥

-- the stretches from lo on lie in the stream, rise, and no LF comes behind one
abbrev pub Clear : List ℕ → ℕ → List LostStretch → Type 0
Clear s lo [] = Unit {0}
Clear s lo (d ∷ ds) =
    (lo ≤ d.first) × (d.first ≤ d.last) × (d.last < length s) × NoLF (pick (ends_reading d.number) [] (drop (suc d.last) s)) × Clear s (suc d.last) ds

pub clear_sooner : (s : List ℕ) (lo lo' : ℕ) (ds : List LostStretch) → lo' ≤ lo → Clear s lo ds → Clear s lo' ds
clear_sooner s lo lo' [] h k = tt
clear_sooner s lo lo' (d ∷ ds) h (f, l, e, n, k) = (omega arith, l, e, n, k)

module _ (s : List ℕ) where
  no_lf_part : (m : ℕ) (l r : List ℕ) → NoLF l → NoLF r → NoLF (take m l ++ r)
  no_lf_part zero l r h k = k
  no_lf_part (suc m) [] r h k = k
  no_lf_part (suc m) (b ∷ l) r h k = h

  no_lf : (i : ℕ) (ds : List LostStretch) → NoLF (drop i s) → Clear s i ds → NoLF (cut_from s i ds)
  no_lf i [] h k = h
  no_lf i (d ∷ ds) h (f, l, e, n, k) =
      no_lf_part (d.first - i) (drop i s) (pick (ends_reading d.number) [] (cut_from s (suc d.last) ds)) h
      (by (ends_reading d.number) n (λ m. no_lf (suc d.last) ds m k))
    where
      by : (b : Bool) → NoLF (pick b [] (drop (suc d.last) s)) → (NoLF (drop (suc d.last) s) → NoLF (cut_from s (suc d.last) ds)) →
          NoLF (pick b [] (cut_from s (suc d.last) ds))
      by true n f = tt
      by false n f = f n

  pub followed_by : (t : Tok) (u u' : List ℕ) → (NoLF u → NoLF u') → Followed false t u → Followed false t u'
  followed_by (tag k n b) u u' h f = tt
  followed_by (ref x) u u' h f = tt
  followed_by (numeric k ds) u u' h f = tt
  followed_by (line crlf) u u' h f = tt
  followed_by (line cr) [] [] h f = refl
  followed_by (line cr) [] (b ∷ u') h f = h tt
  followed_by (line cr) (x ∷ u) [] h f = refl
  followed_by (line cr) (x ∷ u) (b ∷ u') h f = h f
  followed_by (char c) u u' h f = tt

  -- bytes that lie before the next stretch stay
  cut_keeps : (at : ℕ) (w : List ℕ) (ds : List LostStretch) → drop at s ≡ w ++ drop (at + length w) s → Clear s (at + length w) ds → cut_from s at ds ≡ w ++ cut_from s (at + length w) ds
  cut_keeps at w [] e k = e
  cut_keeps at w (d ∷ ds) e (f, l, b, m, k) =
      let r : List ℕ = pick (ends_reading d.number) [] (cut_from s (suc d.last) ds) in
      let n : ℕ = d.first - (at + length w) in
      let j : d.first - at ≡ length w + n = omega (arith, f) in
      ap₂ (λ (i : ℕ) (l : List ℕ). take i l ++ r) j e ∙ ap (λ (l : List ℕ). l ++ r) (take-append-add w (drop (at + length w) s) n)
      ∙ append_assoc w (take n (drop (at + length w) s)) r

-- a token of the stream, in the cut
pub record InCut (a : Sheet) (s c : List ℕ) (at' : ℕ) (e : Event) (next : ℕ) (ds : List LostStretch) : Type 0 where
  pub event : Event
  pub to : ℕ
  pub reads : ReadAs false c at' (Token event (record { at = to }))
  pub same : token_of a c event ≡ token_of a s e
  pub left : drop to c ≡ cut_from s next ds

pub token_in_cut : (a : Sheet) (s c : List ℕ) (at at' : ℕ) (e : Event) (next : ℕ) (ds : List LostStretch) → ReadAs false s at (Token e (record { at = next })) → Clear s next ds →
    drop at' c ≡ cut_from s at ds → InCut a s c at' e next ds
token_in_cut a s c at at' e next ds m k h =
    let t = read_token false s at e next m in
    let w : List ℕ = bytes t.tok in
    let split : drop at s ≡ w ++ drop (at + length w) s = t.split ∙ ap (λ (i : ℕ). w ++ drop i s) t.ends in
    let stays : cut_from s at ds ≡ w ++ cut_from s next ds =
    cut_keeps s at w ds split (subst (λ (i : ℕ). Clear s i ds) t.ends k) ∙ ap (λ (i : ℕ). w ++ cut_from s i ds) (sym t.ends) in
    let here : drop at' c ≡ w ++ cut_from s next ds = h ∙ stays in
    let after_it : Followed false t.tok (cut_from s next ds) = followed_by s t.tok (drop next s) (cut_from s next ds) (λ n. no_lf s next ds n k) t.whole in
    record {
      event = event_of at' t.tok;
      to = at' + length w;
      reads = token_reads c at' t.tok (cut_from s next ds) here t.good t.short false after_it;
      same = token_at a c t.tok at' (cut_from s next ds) here ∙ sym (token_of_lem a s t);
      left = sym (drop-drop (length w) at' c) ∙ ap (drop (length w)) here ∙ drop-append_seam w (cut_from s next ds);
    }

pub writes_both : (u v : List ℕ) (q : Result) → after_writing u (after_writing v q) ≡ after_writing (u ++ v) q
writes_both u v q = ap (λ (o : List ℕ). record { number = q.number; taken = q.taken; output = o; held = q.held }) (sym (append_assoc u v q.output))

-- a record's tokens move on within the stream
abbrev pub EndOf : ℕ → ℕ → RecordEnd → Type 0
EndOf at n (whole to y next z w) = (at ≤ to) × (at < next) × (next ≤ n)
EndOf at n (broken k to y) = (at ≤ to) × (to ≤ n)

end_sooner : (at at' n : ℕ) (o : RecordEnd) → at < at' → EndOf at' n o → EndOf at n o
end_sooner at at' n (whole to y next z w) h (i, j, k) = (omega arith, omega arith, k)
end_sooner at at' n (broken m to y) h (i, j) = (omega arith, j)

module _ (a : Sheet) (s : List ℕ) (area : ℕ) where
  pub record_moves : {at : ℕ} {y : Configuration} {v : List ℕ} {o : RecordEnd} → InRecord a s area at y v o → at ≤ length s → EndOf at (length s) o
  record_moves (goes_on {at} {o = o} e next y' w m t h d) l =
      let i = read_moves false s at e next m l in
      end_sooner at next (length s) o i.0 (record_moves d i.1)
  record_moves (ends {at} e next z w m t h) l = let i = read_moves false s at e next m l in (omega arith, i.0, i.1)
  record_moves (breaks n q) l = (omega arith, l)

  -- a whole record in the cut: u is what it writes from `at` on
  pub record WholeInCut (c : List ℕ) (at' : ℕ) (y : Configuration) (v : List ℕ) (next : ℕ) (z : Configuration) (w : List ℕ) (ds : List LostStretch) : Type 0 where
    pub to : ℕ
    pub left : drop to c ≡ cut_from s next ds
    pub writes : List ℕ
    pub all : w ≡ v ++ writes
    pub runs : (room : ℕ) (q : Result) → length writes ≤ room → Runs a c false to (room_left room writes) z q → Runs a c false at' room y (after_writing writes q)

  pub record_in_cut : {at : ℕ} {y : Configuration} {v : List ℕ} (to : ℕ) (y₁ : Configuration) (next : ℕ) (z : Configuration) (w : List ℕ) (ds : List LostStretch) →
      InRecord a s area at y v (whole to y₁ next z w) → at ≤ length s → Clear s next ds → (c : List ℕ) (at' : ℕ) → drop at' c ≡ cut_from s at ds → WholeInCut c at' y v next z w ds
  record_in_cut {at} {y} {v} to y₁ next z w ds (goes_on e nx y' u m t h d) l k c at' p =
      let i = read_moves false s at e nx m l in
      let b = record_moves d i.1 in
      let j = token_in_cut a s c at at' e nx ds m (clear_sooner s next nx ds (omega (arith, b.1)) k) p in
      let f = record_in_cut to y₁ next z w ds d i.1 k c j.to j.left in
      record {
        to = f.to;
        left = f.left;
        writes = u ++ f.writes;
        all = f.all ∙ append_assoc v u f.writes;
        runs = λ room q fits r.
            let n = length-append u f.writes in
            let r' = f.runs (room_left room u) q (omega (arith, n, fits)) (subst (λ (k : ℕ). Runs a c false f.to k z q) (omega (arith, n)) r) in
            subst (Runs a c false at' room y) (writes_both u f.writes q)
            (takes j.event j.to y' u j.reads (ap (one_token a y room) j.same ∙ taken_in a y (room_left area v) room (token_of a s e) y' u t (omega (arith, n, fits))) r');
      }
  record_in_cut {at} {y} {v} to y₁ next z w ds (ends e nx z' u m t h) l k c at' p =
      let j = token_in_cut a s c at at' e nx ds m k p in
      record {
        to = j.to;
        left = j.left;
        writes = u;
        all = refl;
        runs = λ room q fits r. takes j.event j.to z' u j.reads (ap (one_token a y room) j.same ∙ taken_in a y (room_left area v) room (token_of a s e) z' u t fits) r;
      }
