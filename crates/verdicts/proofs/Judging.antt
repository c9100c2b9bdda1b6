-- A verdict reached token by token is true of the text: what follows a token is judged by itself, and where none goes on nothing does.
-- Assumes nothing.
use mathlib.Core.Path.{◌≡◌, refl, sym, ◌∙◌, ap, subst}
use mathlib.Core.Logic.{◌⊎◌, inl, inr}
use mathlib.Core.Bool.{Bool, true, false}
use mathlib.Core.Option.{Option, none, some}
use mathlib.Core.List.{List, [], ◌∷◌, ◌++◌, append_assoc, append-nil, append_cancel_left, head-eq_of_cons-eq, tail-eq_of_cons-eq}
use Prim.Native.Nat.{ℕ, zero, suc, ◌+◌, ◌≤◌, ◌<◌}
use native.Mathlib.Omega.{arith}
use lib.ListN.{length, take, drop, length-append, take-append-drop}
use lib.Seq.{take_at, take-length, take-append-add}
use Rattle.text.specs.Names.{blank, All}
use Rattle.text.proofs.Shapes.{cons≢[]}
use Rattle.notation.specs.Rules.{Rules}
use Rattle.notation.specs.Limits.{WithinLimits}
use Rattle.notation.specs.Tokens.{TextToken, token_bytes}
use Rattle.notation.specs.Gaps.{in_comment, Gap, white, comment, Ending}
use Rattle.notation.specs.Spelled.{MayFollow, TypedAs, end, token}
use Rattle.notation.specs.Productions.{RulesAre}
use Rattle.notation.specs.RuleText.{RuleText}
use Rattle.notation.specs.Refusal.{Continues, RefusedAt, ByteOf40}
use Rattle.reading.specs.Machine.{and_then}
use Rattle.reading.specs.Rules.{Progress, beginning, step_rules, value_of_rules, finished_rules, rules}
use Rattle.reading.proofs.Telling.{none≢some, next_is, next_was}
use Rattle.reading.proofs.Rules.{reads_rules}
use Rattle.telling.proofs.Search.{Good}
use Rattle.telling.proofs.Acceptable.{Fine, taken_is_fine}
use Rattle.telling.proofs.Bytes.{OpenTail, InGap, ending_was, within?}
use Rattle.telling.proofs.Lexical.{Solid, solid}
use Rattle.telling.proofs.OneRules.{clash, comment_one, no_line_end, white_solid, sharp_solid, sharp_white, gap_one, gap_no_end, solid_append, one_token}
use Rattle.telling.proofs.Texts.{take_token, run, Spelling, Reached, Rest, Base, Begun, Through, TokenAt, Cases, rest_cases, cases_rest, reached_next, text_spelling, spelling_text}
use Rattle.lexing.specs.Front.{WholeToken, BeginsToken, Stuck}
use Rattle.verdicts.specs.Judged.{Goes, TakesToken, NoGapFirst, Verdict, writes, refused_at, later, Judged, ended, early, stuck, no_comment}
use Rattle.verdicts.specs.Promises.{Says, JudgedRight}

-- a step with the limits, as a relation
goes_taken : (s s' : Progress) (t : TextToken) → Goes s t s' → take_token s t ≡ some s'
goes_taken s s' t h = next_is rules RulesAre WithinLimits within? reads_rules s s' t h.taken h.fits

taken_goes : (s s' : Progress) (t : TextToken) → take_token s t ≡ some s' → Goes s t s'
taken_goes s s' t h = let w = next_was rules RulesAre WithinLimits within? reads_rules s s' t h in record { taken = w.0; fits = w.1 }

fine_token : (s s' : Progress) (t : TextToken) → take_token s t ≡ some s' → Fine t
fine_token s s' t h = taken_is_fine s s' t (taken_goes s s' t h).taken

inked_solid : (x : List ℕ) → NoGapFirst x → Solid x
inked_solid [] h = absurd h
inked_solid (b ∷ x) h = record { lead = b; others = x; are = refl; no_blank = h.0; no_sharp = h.1 }

-- the beginning of a token
front_solid : (y : ℕ) (w u z : List ℕ) → Solid z → z ≡ (y ∷ w) ++ u → Solid (y ∷ w)
front_solid y w u z h e =
    let same : h.lead ≡ y = head-eq_of_cons-eq (sym h.are ∙ e) in
    record { lead = y; others = w; are = refl; no_blank = ap blank (sym same) ∙ h.no_blank; no_sharp = λ i. h.no_sharp (same ∙ i) }

-- behind a gap, bytes that begin with no white space and no # begin with a token
token_solid_at : (b : Bool) (s : Progress) (y : ℕ) (w : List ℕ) (t : TextToken) → TokenAt b s (y ∷ w) t → Solid (y ∷ w)
token_solid_at true s y w t (s', n, inl h) = absurd h
token_solid_at false s y w t (s', n, inl (u, h)) = front_solid y w u (token_bytes t) (solid t (fine_token s s' t n).proper) h
token_solid_at b s y w t (s', n, inr (a, r, e, (i, j))) = subst Solid (sym (e ∙ ap (λ z. z ++ r) i)) (solid_append (token_bytes t) r (solid t (fine_token s s' t n).proper))

at_token : (b : Bool) (s : Progress) (g x : List ℕ) → Gap g → Solid x → Cases b s (g ++ x) → (t : TextToken) × TokenAt b s x t
at_token b s g x h k (inl ((g', w, e, (i, o)), z)) = absurd (gap_no_end i h w x o k (sym e))
at_token b s g x h k (inr (g', [], e, (i, z))) = absurd (gap_no_end i h [] x tt k (sym e))
at_token b s g x h k (inr (g', y ∷ w, e, (i, (t, f, at)))) = (t, subst (λ z. TokenAt b s z t) (gap_one i h (y ∷ w) x (token_solid_at b s y w t at) k (sym e)) at)

nil_of : (a b : List ℕ) → a ++ b ≡ [] → a ≡ []
nil_of [] b e = refl
nil_of (x ∷ a) b e = absurd (cons≢[] e)

may_append : (t : TextToken) (r u : List ℕ) → (r ≡ [] → ⊥) → MayFollow t r → MayFollow t (r ++ u)
may_append t [] u n m = absurd (n refl)
may_append t (b ∷ r) u n m = m

module _ (s s' : Progress) (t : TextToken) (taken : take_token s t ≡ some s') where
  -- no other token stands there
  one_here : (s'' : Progress) (u : TextToken) (r q : List ℕ) → take_token s u ≡ some s'' → MayFollow t r → MayFollow u q → token_bytes t ++ r ≡ token_bytes u ++ q → t ≡ u
  one_here s'' u r q n m k e = one_token s s' s'' t u r q (taken_goes s s' t taken).taken (taken_goes s s'' u n).taken m k e

  no_longer : (s'' : Progress) (u : TextToken) (rest z : List ℕ) → (rest ≡ [] → ⊥) → MayFollow t rest → take_token s u ≡ some s'' → token_bytes u ≡ (token_bytes t ++ rest) ++ z → ⊥
  no_longer s'' u rest z f m n e =
      let i : token_bytes t ++ (rest ++ z) ≡ token_bytes u ++ [] = sym (append_assoc (token_bytes t) rest z) ∙ sym e ∙ sym (append-nil (token_bytes u)) in
      let same = one_here s'' u (rest ++ z) [] n (may_append t rest z f m) tt i in
      f (nil_of rest z (append_cancel_left (token_bytes u) (rest ++ z) [] (ap (λ x. token_bytes x ++ (rest ++ z)) (sym same) ∙ i)))

  same_rest : (b : Bool) (s'' : Progress) (u : TextToken) (rest r : List ℕ) → MayFollow t rest → take_token s u ≡ some s'' → token_bytes t ++ rest ≡ token_bytes u ++ r → MayFollow u r → Rest b s'' r → Rest b s' rest
  same_rest b s'' u rest r m n e k q =
      let same = one_here s'' u rest r n m k e in
      let others : rest ≡ r = append_cancel_left (token_bytes u) rest r (ap (λ x. token_bytes x ++ rest) (sym same) ∙ e) in
      let there : ◌≡◌ {A = Option Progress} (some s') (some s'') = sym taken ∙ ap (take_token s) same ∙ n in
      let state : s' ≡ s'' = cc in
      subst (λ z. Rest b s' z) (sym others) (subst (λ z. Rest b z r) (sym state) q)

  only_token : (b : Bool) (g rest : List ℕ) → Gap g → MayFollow t rest → (rest ≡ [] → b ≡ true) → Cases b s (g ++ (token_bytes t ++ rest)) → Rest b s' rest
  only_token b g rest h m f c = on b f (at_token b s g (token_bytes t ++ rest) h (solid_append (token_bytes t) rest (solid t (fine_token s s' t taken).proper)) c)
    where
      on : (b : Bool) → (rest ≡ [] → b ≡ true) → (u : TextToken) × TokenAt b s (token_bytes t ++ rest) u → Rest b s' rest
      on true f (u, (s'', n, inl k)) = absurd k
      on false f (u, (s'', n, inl (z, k))) = absurd (no_longer s'' u rest z (λ e. clash (sym (f e))) m n k)
      on true f (u, (s'', n, inr (a, r, e, (i, (k, q))))) = same_rest true s'' u rest r m n (e ∙ ap (λ z. z ++ r) i) k q
      on false f (u, (s'', n, inr (a, r, e, (i, (k, q))))) = same_rest false s'' u rest r m n (e ∙ ap (λ z. z ++ r) i) k q

-- where bytes are refused from a state on
record Refused (s : Progress) (x : List ℕ) (k : ℕ) : Type 0 where
  reached : k ≤ length x
  before : Rest false s (take k x)
  no_further : k < length x → Rest false s (take (suc k) x) → ⊥
  unfinished : k ≡ length x → Rest true s x → ⊥

-- the front of bytes with something in front of it
take_behind : (p x : List ℕ) (n k : ℕ) → n ≡ length p → take (n + k) (p ++ x) ≡ p ++ take k x
take_behind p x n k e = ap (λ j. take (j + k) (p ++ x)) e ∙ take-append-add p x k

one_more : (a b : ℕ) → suc (a + b) ≡ a + suc b
one_more a b = omega arith

some_taken : (x : List ℕ) (k : ℕ) → k < length x → take (suc k) x ≡ [] → ⊥
some_taken [] k h e = omega arith
some_taken (b ∷ x) k h e = cons≢[] e

may_take : (t : TextToken) (x : List ℕ) (k : ℕ) → MayFollow t x → MayFollow t (take k x)
may_take t [] zero m = tt
may_take t [] (suc k) m = tt
may_take t (b ∷ x) zero m = tt
may_take t (b ∷ x) (suc k) m = m

in_gap : (g : List ℕ) → Gap g → InGap g
in_gap g h = (g, [], sym (append-nil g), (h, tt))

-- the bytes end in a gap, and the text may not end there
early_refused : (s : Progress) (x : List ℕ) → Reached s → Ending x → value_of_rules s ≡ none → Refused s x (length x)
early_refused s x h e n =
    let i = ending_was e x [] (sym (append-nil x)) in
    record {
      reached = omega arith;
      before = rw take-length (cases_rest false s x h (inl (i, tt)));
      no_further = λ k r. absurd (omega arith);
      unfinished = λ k r. on i (rest_cases true s x r);
    }
  where
    on : InGap x → Cases true s x → ⊥
    on i (inl (j, (v, k))) = none≢some n k
    on (g, w, e, (i, o)) (inr (g', w', e', (j, (t, f, (s', m, inl k))))) = k
    on (g, w, e, (i, o)) (inr (g', w', e', (j, (t, f, (s', m, inr (a, r, c, (d, q))))))) =
        gap_no_end i j w w' o (subst Solid (sym (c ∙ ap (λ z. z ++ r) d)) (solid_append (token_bytes t) r (solid t (fine_token s s' t m).proper))) (sym e ∙ e')

-- a token, and what follows it is refused
later_refused : (s s' : Progress) (t : TextToken) (g rest : List ℕ) (k : ℕ) → Reached s → Gap g → Goes s t s' → MayFollow t rest → Refused s' rest k
    → Refused s (g ++ (token_bytes t ++ rest)) (length g + length (token_bytes t) + k)
later_refused s s' t g rest k h i j m r = record {
  reached = simp length-append (omega (arith, r.reached));
  before = subst (Rest false s) (sym (front k)) (cases_rest false s (g ++ (token_bytes t ++ take k rest)) h
      (inr (g, token_bytes t ++ take k rest, refl, (i, (t, (fine_token s s' t taken).good, (s', taken, inr (token_bytes t, take k rest, refl, (refl, (may_take t rest k m, r.before)))))))));
  no_further = λ l q. r.no_further (omega (arith, simp length-append at l)) (only_token s s' t taken false g (take (suc k) rest) i (may_take t rest (suc k) m)
      (λ e. absurd (some_taken rest k (omega (arith, simp length-append at l)) e)) (rest_cases false s (g ++ (token_bytes t ++ take (suc k) rest)) (subst (Rest false s) (ap (λ n. take n (g ++ (token_bytes t ++ rest))) (one_more (length g + length (token_bytes t)) k) ∙ front (suc k)) q)));
  unfinished = λ l q. r.unfinished (omega (arith, simp length-append at l)) (only_token s s' t taken true g rest i m (λ e. refl) (rest_cases true s (g ++ (token_bytes t ++ rest)) q));
}
  where
    taken : take_token s t ≡ some s'
    taken = goes_taken s s' t j

    front : (n : ℕ) → take (length g + length (token_bytes t) + n) (g ++ (token_bytes t ++ rest)) ≡ g ++ (token_bytes t ++ take n rest)
    front n = ap (take (length g + length (token_bytes t) + n)) (sym (append_assoc g (token_bytes t) rest)) ∙ take_behind (g ++ token_bytes t) rest (length g + length (token_bytes t)) n (simp length-append refl) ∙ append_assoc g (token_bytes t) (take n rest)

-- no token goes on
inked_take : (y : List ℕ) (k : ℕ) → NoGapFirst y → Solid (take (suc k) y)
inked_take [] k h = absurd h
inked_take (b ∷ y) k h = inked_solid (b ∷ take k y) h

module _ (s : Progress) (g y : List ℕ) (k : ℕ) (h : Reached s) (i : Gap g) (inked : NoGapFirst y) (st : Stuck (TakesToken s) y k) where
  begun_rest : Rest false s (g ++ take k y)
  begun_rest = on k st.begun
    where
      on : (n : ℕ) → (1 ≤ n → BeginsToken (TakesToken s) (take n y)) → Rest false s (g ++ take n y)
      on zero b = subst (Rest false s) (sym (append-nil g)) (cases_rest false s g h (inl (in_gap g i, tt)))
      on (suc n) b =
          let t = b (omega arith) in
          let taken = goes_taken s t.may.0 t.token t.may.1 in
          cases_rest false s (g ++ take (suc n) y) h (inr (g, take (suc n) y, refl, (i, (t.token, (fine_token s t.may.0 t.token taken).good, (t.may.0, taken, inl (t.rest, t.are))))))

  further : k < length y → (t : TextToken) × TokenAt false s (take (suc k) y) t → ⊥
  further l (t, (s', n, inl (u, e))) = st.no_further l (record { token = t; may = (s', taken_goes s s' t n); rest = u; are = e })
  further l (t, (s', n, inr (a, [], e, (j, (m, q))))) = st.no_further l (record { token = t; may = (s', taken_goes s s' t n); rest = []; are = sym j ∙ sym (append-nil a) ∙ sym e ∙ sym (append-nil (take (suc k) y)) })
  further l (t, (s', n, inr (a, z ∷ r, e, (j, (m, q))))) = st.no_token t (record {
    may = (s', taken_goes s s' t n);
    rest = (z ∷ r) ++ drop (suc k) y;
    are = sym (take-append-drop (suc k) y) ∙ ap (λ l. l ++ drop (suc k) y) (e ∙ ap (λ l. l ++ z ∷ r) j) ∙ append_assoc (token_bytes t) (z ∷ r) (drop (suc k) y);
    follows = m;
  })

  whole_token : (t : TextToken) × TokenAt true s y t → ⊥
  whole_token (t, (s', n, inl e)) = e
  whole_token (t, (s', n, inr (a, r, e, (j, (m, q))))) = st.no_token t (record { may = (s', taken_goes s s' t n); rest = r; are = e ∙ ap (λ l. l ++ r) j; follows = m })

  stuck_refused : Refused s (g ++ y) (length g + k)
  stuck_refused = record {
    reached = simp length-append (omega (arith, st.reached));
    before = subst (Rest false s) (sym (take_behind g y (length g) k refl)) begun_rest;
    no_further = λ l q. further (omega (arith, simp length-append at l)) (at_token false s g (take (suc k) y) i (inked_take y k inked)
        (rest_cases false s (g ++ take (suc k) y) (subst (Rest false s) (ap (λ n. take n (g ++ y)) (one_more (length g) k) ∙ take_behind g y (length g) (suc k) refl) q)));
    unfinished = λ l q. whole_token (at_token true s g y i (inked_solid y inked) (rest_cases true s (g ++ y) q));
  }

-- a comment with a byte that it may not hold
all_bad : (c : List ℕ) (b : ℕ) → All in_comment (c ++ b ∷ []) → in_comment b ≡ false → ⊥
all_bad [] b h e = clash (sym h.0 ∙ e)
all_bad (k ∷ c) b h e = all_bad c b h.1 e

cut_short : (c d z : List ℕ) (b : ℕ) → All in_comment c → All in_comment d → in_comment b ≡ false → (b ≡ 10 → ⊥) → c ++ b ∷ [] ≡ d ++ 10 ∷ z → ⊥
cut_short [] [] z b i j e n h = n (head-eq_of_cons-eq h)
cut_short [] (k ∷ d) z b i j e n h = clash (sym j.0 ∙ ap in_comment (sym (head-eq_of_cons-eq h)) ∙ e)
cut_short (k ∷ c) [] z b i j e n h = clash (sym i.0 ∙ ap in_comment (head-eq_of_cons-eq h))
cut_short (k ∷ c) (l ∷ d) z b i j e n h = cut_short c d z b i.1 j.1 e n (tail-eq_of_cons-eq h)

module _ (b : ℕ) (bad : in_comment b ≡ false) (no_end : b ≡ 10 → ⊥) where
  bad_comment : {g h : List ℕ} → Gap g → Gap h → (c w : List ℕ) → All in_comment c → OpenTail w ⊎ Solid w → g ++ 35 ∷ (c ++ b ∷ []) ≡ h ++ w → ⊥
  bad_comment Gap.none Gap.none c [] a (inl o) e = cons≢[] e
  bad_comment Gap.none Gap.none c (k ∷ w) a (inl o) e = all_bad c b (subst (All in_comment) (sym (tail-eq_of_cons-eq e)) o.1) bad
  bad_comment Gap.none Gap.none c w a (inr o) e = sharp_solid (c ++ b ∷ []) w o e
  bad_comment Gap.none (white {b = k} i j) c w a o e = sharp_white k (sym (head-eq_of_cons-eq e)) i
  bad_comment Gap.none (comment d {g = l} i j) c w a o e = cut_short c d (l ++ w) b a i bad no_end (tail-eq_of_cons-eq e ∙ append_assoc d (10 ∷ l) w)
  bad_comment (white {b = k} i j) Gap.none c [] a (inl o) e = cons≢[] e
  bad_comment (white {b = k} i j) Gap.none c (l ∷ w) a (inl o) e = sharp_white k (head-eq_of_cons-eq e ∙ o.0) i
  bad_comment (white {b = k} {g = l} i j) Gap.none c w a (inr o) e = white_solid k (l ++ 35 ∷ (c ++ b ∷ [])) w i o e
  bad_comment (white i j) (white i' j') c w a o e = bad_comment j j' c w a o (tail-eq_of_cons-eq e)
  bad_comment (white {b = k} i j) (comment d i' j') c w a o e = sharp_white k (head-eq_of_cons-eq e) i
  bad_comment (comment d i j) Gap.none c [] a (inl o) e = cons≢[] e
  bad_comment (comment d {g = l} i j) Gap.none c (k ∷ w) a (inl o) e = no_line_end w d (l ++ 35 ∷ (c ++ b ∷ [])) o.1 (sym (tail-eq_of_cons-eq e) ∙ append_assoc d (10 ∷ l) (35 ∷ (c ++ b ∷ [])))
  bad_comment (comment d {g = l} i j) Gap.none c w a (inr o) e = sharp_solid ((d ++ 10 ∷ l) ++ 35 ∷ (c ++ b ∷ [])) w o e
  bad_comment (comment d i j) (white {b = k} i' j') c w a o e = sharp_white k (sym (head-eq_of_cons-eq e)) i'
  bad_comment (comment d {g = l} i j) (comment d' {g = m} i' j') c w a o e =
      bad_comment j j' c w a o (comment_one d d' (l ++ 35 ∷ (c ++ b ∷ [])) (m ++ w) i i' (sym (append_assoc d (10 ∷ l) (35 ∷ (c ++ b ∷ []))) ∙ tail-eq_of_cons-eq e ∙ append_assoc d' (10 ∷ m) w))

  comment_refused : (s : Progress) (g c y : List ℕ) → Reached s → Gap g → All in_comment c → Refused s (g ++ 35 ∷ (c ++ b ∷ y)) (length g + suc (length c))
  comment_refused s g c y h i a = record {
    reached = simp length-append (omega arith);
    before = subst (Rest false s) (sym (take_behind g (35 ∷ (c ++ b ∷ y)) (length g) (suc (length c)) refl ∙ ap (λ l. g ++ 35 ∷ l) (take_at c (b ∷ y) (length c) refl)))
        (cases_rest false s (g ++ 35 ∷ c) h (inl ((g, 35 ∷ c, refl, (i, (refl, a))), tt)));
    no_further = λ l q. on (rest_cases false s (g ++ 35 ∷ (c ++ b ∷ [])) (subst (Rest false s) front q));
    unfinished = λ l q. absurd (omega (arith, simp length-append at l));
  }
    where
      front : take (suc (length g + suc (length c))) (g ++ 35 ∷ (c ++ b ∷ y)) ≡ g ++ 35 ∷ (c ++ b ∷ [])
      front =
          ap (λ n. take n (g ++ 35 ∷ (c ++ b ∷ y))) (one_more (length g) (suc (length c))) ∙ take_behind g (35 ∷ (c ++ b ∷ y)) (length g) (suc (suc (length c))) refl
          ∙ ap (λ l. g ++ 35 ∷ l) (ap (take (suc (length c))) (sym (append_assoc c (b ∷ []) y)) ∙ take_at (c ++ b ∷ []) y (suc (length c)) (simp length-append (omega arith)))

      on : Cases false s (g ++ 35 ∷ (c ++ b ∷ [])) → ⊥
      on (inl ((g', w, e, (j, o)), z)) = bad_comment i j c w a (inl o) e
      on (inr (g', [], e, (j, z))) = bad_comment i j c [] a (inl tt) e
      on (inr (g', k ∷ w, e, (j, (t, f, at)))) = bad_comment i j c (k ∷ w) a (inr (token_solid_at false s k w t at)) e

-- from any state that is reached
abbrev SaysFrom : Progress → List ℕ → Verdict → Type 0
SaysFrom s x (writes r) = (p : Spelling s x) × (p.written_rules ≡ r)
SaysFrom s x (refused_at k) = Refused s x k

says_later : (s s' : Progress) (t : TextToken) (g rest : List ℕ) (v : Verdict) → Reached s → Gap g → Goes s t s' → MayFollow t rest → SaysFrom s' rest v
    → SaysFrom s (g ++ (token_bytes t ++ rest)) (later (length g + length (token_bytes t)) v)
says_later s s' t g rest (refused_at k) h i j m r = later_refused s s' t g rest k h i j m r
says_later s s' t g rest (writes r) h i j m (p, e) = (
  record {
    tokens = t ∷ p.tokens;
    last = p.last;
    written_rules = p.written_rules;
    spelled = token t i m p.spelled;
    walked = ap (λ o. and_then o (λ y. run y p.tokens)) (goes_taken s s' t j) ∙ p.walked;
    told = p.told;
  },
  e,
)

judged_from : {s : Progress} {x : List ℕ} {v : Verdict} → Judged s x v → Reached s → SaysFrom s x v
judged_from (ended {s = s} {x = x} {r = r} e i) h = (record { tokens = []; last = s; written_rules = r; spelled = end e; walked = refl; told = i }, refl)
judged_from (early {s = s} {x = x} e i) h = early_refused s x h e i
judged_from (Judged.token {s = s} {s' = s'} {g = g} {rest = rest} {v = v} t e i j m q) h =
    subst (λ z. SaysFrom s z (later (length g + length (token_bytes t)) v)) (sym e) (says_later s s' t g rest v h i j m (judged_from q (reached_next s s' t h (goes_taken s s' t j))))
judged_from (stuck {s = s} {g = g} {y = y} {k = k} e i n st) h = subst (λ z. Refused s z (length g + k)) (sym e) (stuck_refused s g y k h i n st)
judged_from (no_comment {s = s} {b = b} {g = g} c y e i a bad n) h = subst (λ z. Refused s z (length g + suc (length c))) (sym e) (comment_refused b bad n s g c y h i a)

rest_goes : (p : List ℕ) → Rest false beginning p → Continues RuleText p
rest_goes p (q, k, s) = record { rest = q; value = s.written_rules; writes = spelling_text (p ++ q) s }

goes_rest : (p : List ℕ) → Continues RuleText p → Rest false beginning p
goes_rest p g = (g.rest, tt, text_spelling (p ++ g.rest) g.value g.writes)

pub judged_right : JudgedRight
judged_right text (writes r) j = let h = judged_from j ([], refl) in subst (RuleText text) h.1 (spelling_text text h.0)
judged_right text (refused_at k) j =
    let h = judged_from j ([], refl) in
    record {
      reached = h.reached;
      before = rest_goes (take k text) h.before;
      no_further = λ l g. h.no_further l (goes_rest (take (suc k) text) g);
      unfinished = λ l v w. h.unfinished l ([], refl, subst (Spelling beginning) (sym (append-nil text)) (text_spelling text v w));
    }
