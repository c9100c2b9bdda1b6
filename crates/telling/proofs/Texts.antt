-- Of every text it is told which rules it writes, or the byte at which no continuation is possible. Assumes nothing.
use mathlib.Core.Path.{◌≡◌, refl, sym, ◌∙◌, ap, subst}
use mathlib.Core.Logic.{◌⊎◌, inl, inr, ⊎_elim}
use mathlib.Core.Bool.{Bool, true, false}
use mathlib.Core.Option.{Option, none, some}
use mathlib.Core.List.{List, [], ◌∷◌, ◌++◌, append_assoc, append-nil}
use Prim.Native.Nat.{ℕ, zero, suc, ◌+◌, ◌≤◌, ◌<◌}
use native.Mathlib.Omega.{arith}
use lib.ListN.{length, take, length-append}
use lib.Seq.{take_at, take-length}
use Rattle.text.specs.Names.{All}
use Rattle.text.proofs.Shapes.{cons≢[]}
use Rattle.notation.specs.Rules.{Rules}
use Rattle.notation.specs.Limits.{WithinLimits}
use Rattle.notation.specs.Tokens.{TextToken, nonterminal, value, attribute, name, start_tag, end_tag, empty_tag, string, word, sign, token_bytes}
use Rattle.notation.specs.Gaps.{in_comment, Gap, white, comment, Ending, gap, open_comment}
use Rattle.notation.specs.Spelled.{joins, MayFollow, TypedAs, end, token}
use Rattle.notation.specs.Productions.{RulesAre}
use Rattle.notation.specs.RuleText.{RuleText}
use Rattle.notation.specs.Refusal.{Continues, RefusedAt, Told, written, refused}
use Rattle.notation.proofs.Rows.{splits}
use Rattle.reading.specs.Machine.{and_then, walk, next}
use Rattle.reading.specs.Reads.{Limited}
use Rattle.reading.specs.Tests.{both?, either?, true?}
use Rattle.reading.specs.Rules.{Progress, beginning, step_rules, value_of_rules, finished_rules, rules}
use Rattle.telling.specs.Promises.{TellsTexts}
use Rattle.reading.proofs.Telling.{none≢some, cases, walk_on, run_was, next_was, ended, takes_what_goes_on}
use Rattle.reading.proofs.Rules.{reads_rules}
use Rattle.telling.proofs.Search.{Good, token?}
use Rattle.telling.proofs.Acceptable.{Fine, taken_is_fine}
use Rattle.telling.proofs.Bytes.{split?, same?, begins?, gap?, OpenTail, InGap, in_gap?, gap_append, gap_front, ending_was, ending_is, within?}

-- a step of the machine with its limits
abbrev pub take_token : Progress → TextToken → Option Progress
take_token s t = next rules within? s t

abbrev pub run : Progress → List TextToken → Option Progress
run s ts = walk take_token s ts

-- bytes that spell tokens which lead from a state to an end
pub record Spelling (s : Progress) (x : List ℕ) : Type 0 where
  pub tokens : List TextToken
  pub last : Progress
  pub written_rules : Rules
  pub spelled : TypedAs tokens x
  pub walked : run s tokens ≡ some last
  pub told : value_of_rules last ≡ some written_rules

abbrev pub Reached : Progress → Type 0
Reached s = (us : List TextToken) × (run beginning us ≡ some s)

live : (s : Progress) → Reached s → (ts : List TextToken) × (z : Progress) × (v : Rules) × (run s ts ≡ some z) × (value_of_rules z ≡ some v)
live s (us, e) =
    let g = (takes_what_goes_on TextToken Rules rules RulesAre WithinLimits within? reads_rules us).only_if s e in
    let c = ended rules RulesAre WithinLimits within? reads_rules (us ++ g.rest) g.value g.writes in
    (g.rest, c.0, g.value, sym (walk_on take_token beginning s us g.rest e) ∙ c.1, c.2)

pub reached_next : (s s' : Progress) (t : TextToken) → Reached s → take_token s t ≡ some s' → Reached s'
reached_next s s' t (us, e) h = (us ++ t ∷ [], walk_on take_token beginning s us (t ∷ []) e ∙ ap (λ o. and_then o (λ z. some z)) h)

fine : (s s' : Progress) (t : TextToken) → take_token s t ≡ some s' → Fine t
fine s s' t h = taken_is_fine s s' t (next_was rules RulesAre WithinLimits within? reads_rules s s' t h).0

-- tokens with a space in front of each
spell : List TextToken → List ℕ
spell [] = []
spell (t ∷ ts) = 32 ∷ (token_bytes t ++ spell ts)

space_follows : (t : TextToken) → joins t 32 ≡ false
space_follows (nonterminal n) = refl
space_follows (value n) = refl
space_follows (attribute m a) = refl
space_follows (name n) = refl
space_follows (start_tag n) = refl
space_follows (end_tag n) = refl
space_follows (empty_tag n) = refl
space_follows (string cs) = refl
space_follows (word w) = refl
space_follows (sign s) = refl

may_spell : (t : TextToken) (ts : List TextToken) → MayFollow t (spell ts)
unfolding spell
may_spell t [] = tt
may_spell t (u ∷ ts) = space_follows t

spelled_so : (ts : List TextToken) → TypedAs ts (spell ts)
unfolding spell
spelled_so [] = end (gap Gap.none)
spelled_so (t ∷ ts) = token {g = 32 ∷ []} t (white refl Gap.none) (may_spell t ts) (spelled_so ts)

-- a gap more in front
gap_spelled : (g : List ℕ) {ts : List TextToken} {x : List ℕ} → Gap g → TypedAs ts x → TypedAs ts (g ++ x)
gap_spelled g h (end (gap k)) = end (gap (gap_append g _ h k))
gap_spelled g h (end (open_comment {g = y} c k a)) = end (subst Ending (append_assoc g y (35 ∷ c)) (open_comment c (gap_append g y h k) a))
gap_spelled g h (token {g = y} {rest = r} {ts = ts} t k m s) = subst (TypedAs (t ∷ ts)) (append_assoc g y (token_bytes t ++ r)) (token t (gap_append g y h k) m s)

-- for a whole text (true), or for the beginning of one (false)
abbrev pub Target : Bool → List ℕ → Type 0
Target true q = q ≡ []
Target false q = Unit {0}

abbrev pub Rest : Bool → Progress → List ℕ → Type 0
Rest b s p = (q : List ℕ) × Target b q × Spelling s (p ++ q)

abbrev pub Base : Bool → Progress → Type 0
Base true s = (v : Rules) × (value_of_rules s ≡ some v)
Base false s = Unit {0}

abbrev pub Begun : Bool → TextToken → List ℕ → Type 0
Begun true t w = ⊥
Begun false t w = (u : List ℕ) × (token_bytes t ≡ w ++ u)

abbrev pub Through : Bool → Progress → TextToken → List ℕ → List ℕ → Type 0
Through b s t a r = (a ≡ token_bytes t) × (MayFollow t r × Rest b s r)

abbrev pub TokenAt : Bool → Progress → List ℕ → TextToken → Type 0
TokenAt b s w t = (s' : Progress) × (take_token s t ≡ some s') × (Begun b t w ⊎ ((a r : List ℕ) × (w ≡ a ++ r) × Through b s' t a r))

abbrev pub AtToken : Bool → Progress → List ℕ → Type 0
AtToken b s p = (g w : List ℕ) × (p ≡ g ++ w) × (Gap g × ((t : TextToken) × Good t × TokenAt b s w t))

abbrev pub Cases : Bool → Progress → List ℕ → Type 0
Cases b s p = (InGap p × Base b s) ⊎ AtToken b s p

may_front : (t : TextToken) (r q : List ℕ) → MayFollow t (r ++ q) → MayFollow t r
may_front t [] q h = tt
may_front t (x ∷ r) q h = h

may_longer : (t : TextToken) (x : ℕ) (r q : List ℕ) → MayFollow t (x ∷ r) → MayFollow t ((x ∷ r) ++ q)
may_longer t x r q h = h

nil_left : (a b : List ℕ) → a ++ b ≡ [] → a ≡ []
nil_left [] b e = refl
nil_left (x ∷ a) b e = absurd (cons≢[] e)

nil_right : (a b : List ℕ) → a ++ b ≡ [] → b ≡ []
nil_right [] b e = e
nil_right (x ∷ a) b e = absurd (cons≢[] e)

-- in front of the end of p lies a gap or a token
module _ (s z : Progress) (v : Rules) (p q : List ℕ) where
  end_cases : (b : Bool) → InGap p → run s [] ≡ some z → value_of_rules z ≡ some v → Cases b s p
  end_cases true g e h = let same : s ≡ z = cc in inl (g, (v, ap value_of_rules same ∙ h))
  end_cases false g e h = inl (g, tt)

  in_gap_case : (b : Bool) (t : TextToken) (e rest : List ℕ) → Target b q → InGap p → q ≡ e ++ (token_bytes t ++ rest) → (token_bytes t ≡ [] → ⊥) → Cases b s p
  in_gap_case true t e rest k g h f = absurd (f (nil_left (token_bytes t) rest (nil_right e (token_bytes t ++ rest) (sym h ∙ k))))
  in_gap_case false t e rest k g h f = inl (g, tt)

  begun_case : (b : Bool) (s' : Progress) (t : TextToken) (w u rest : List ℕ) → Target b q → take_token s t ≡ some s' → token_bytes t ≡ w ++ u → q ≡ u ++ rest → Spelling s' rest → TokenAt b s w t
  begun_case false s' t w u rest k n i j sp = (s', n, inl (u, i))
  begun_case true s' t w u rest k n i j sp =
      let none_left : u ≡ [] = nil_left u rest (sym j ∙ k) in
      let none_more : rest ≡ [] = nil_right u rest (sym j ∙ k) in
      (s', n, inr (w, [], sym (append-nil w), (sym (i ∙ ap (λ x. w ++ x) none_left ∙ append-nil w), (tt, ([], refl, subst (Spelling s') none_more sp)))))

  token_case : (b : Bool) (s' : Progress) (t : TextToken) (w rest : List ℕ) → Target b q → take_token s t ≡ some s' → w ++ q ≡ token_bytes t ++ rest → MayFollow t rest → Spelling s' rest → TokenAt b s w t
  token_case b s' t w rest k n h m sp = on (splits w q (token_bytes t) rest h)
    where
      on : ((r : List ℕ) × (w ≡ token_bytes t ++ r) × (rest ≡ r ++ q)) ⊎ ((u : List ℕ) × (token_bytes t ≡ w ++ u) × (q ≡ u ++ rest)) → TokenAt b s w t
      on (inl (r, i, j)) = (s', n, inr (token_bytes t, r, i, (refl, (may_front t r q (subst (MayFollow t) j m), (q, k, subst (Spelling s') j sp)))))
      on (inr (u, i, j)) = begun_case b s' t w u rest k n i j sp

  spelled_cases : (b : Bool) {ts : List TextToken} {x : List ℕ} → Target b q → TypedAs ts x → x ≡ p ++ q → run s ts ≡ some z → value_of_rules z ≡ some v → Cases b s p
  spelled_cases b k (end h) e n i = end_cases b (ending_was h p q e) n i
  spelled_cases b k (token {g = g} {rest = rest} {ts = ts} t h m sp) e n i = on (cases (take_token s t))
    where
      with_next : (s' : Progress) → take_token s t ≡ some s' → Cases b s p
      with_next s' j = at (splits p q g (token_bytes t ++ rest) (sym e))
        where
          after_token : Spelling s' rest
          after_token = record { tokens = ts; last = z; written_rules = v; spelled = sp; walked = sym (ap (λ o. and_then o (λ y. run y ts)) j) ∙ n; told = i }

          at : ((w : List ℕ) × (p ≡ g ++ w) × (token_bytes t ++ rest ≡ w ++ q)) ⊎ ((u : List ℕ) × (g ≡ p ++ u) × (q ≡ u ++ (token_bytes t ++ rest))) → Cases b s p
          at (inl (w, c, d)) = inr (g, w, c, (h, (t, (fine s s' t j).good, token_case b s' t w rest k j (sym d) m after_token)))
          at (inr (u, c, d)) = in_gap_case b t u rest k (gap_front h p u c) d (fine s s' t j).some_bytes

      on : (take_token s t ≡ none) ⊎ ((s' : Progress) × (take_token s t ≡ some s')) → Cases b s p
      on (inl j) = absurd (none≢some (ap (λ o. and_then o (λ y. run y ts)) j) n)
      on (inr (s', j)) = with_next s' j

pub rest_cases : (b : Bool) (s : Progress) (p : List ℕ) → Rest b s p → Cases b s p
rest_cases b s p (q, k, sp) = spelled_cases s sp.last sp.written_rules p q b k sp.spelled refl sp.walked sp.told

-- and from there it goes on
in_gap_on : (s : Progress) (p : List ℕ) → Reached s → InGap p → Rest false s p
in_gap_on s p h (g, [], e, (k, w)) =
    let l = live s h in
    (spell l.0, tt, record { tokens = l.0; last = l.1; written_rules = l.2; spelled = subst (λ x. TypedAs l.0 (x ++ spell l.0)) (sym (e ∙ append-nil g)) (gap_spelled g k (spelled_so l.0)); walked = l.3; told = l.4 })
in_gap_on s p h (g, b ∷ c, e, (k, (i, a))) =
    let l = live s h in
    let same : p ++ 10 ∷ spell l.0 ≡ g ++ ((35 ∷ (c ++ 10 ∷ [])) ++ spell l.0) =
    ap (λ x. x ++ 10 ∷ spell l.0) (e ∙ ap (λ x. g ++ x ∷ c) i) ∙ append_assoc g (35 ∷ c) (10 ∷ spell l.0) ∙ ap (λ x. g ++ 35 ∷ x) (sym (append_assoc c (10 ∷ []) (spell l.0))) in (
      10 ∷ spell l.0,
      tt,
      record {
        tokens = l.0;
        last = l.1;
        written_rules = l.2;
        spelled = subst (TypedAs l.0) (sym same) (gap_spelled g k (gap_spelled (35 ∷ (c ++ 10 ∷ [])) (comment c a Gap.none) (spelled_so l.0)));
        walked = l.3;
        told = l.4;
      },
    )

base_on : (b : Bool) (s : Progress) (p : List ℕ) → Reached s → InGap p → Base b s → Rest b s p
base_on false s p h g k = in_gap_on s p h g
base_on true s p h g (v, k) = ([], refl, record { tokens = []; last = s; written_rules = v; spelled = end (subst Ending (sym (append-nil p)) (ending_is p g)); walked = refl; told = k })

-- a token that is begun, and its rest
begun_on : (s s' : Progress) (t : TextToken) (p g w u : List ℕ) → Reached s → take_token s t ≡ some s' → p ≡ g ++ w → Gap g → token_bytes t ≡ w ++ u → Rest false s p
begun_on s s' t p g w u h n e k i =
    let l = live s' (reached_next s s' t h n) in
    let same : p ++ (u ++ spell l.0) ≡ g ++ (token_bytes t ++ spell l.0) =
    ap (λ x. x ++ (u ++ spell l.0)) e ∙ append_assoc g w (u ++ spell l.0) ∙ ap (λ x. g ++ x) (sym (append_assoc w u (spell l.0))) ∙ ap (λ x. g ++ (x ++ spell l.0)) (sym i) in (
      u ++ spell l.0,
      tt,
      record {
        tokens = t ∷ l.0;
        last = l.1;
        written_rules = l.2;
        spelled = subst (TypedAs (t ∷ l.0)) (sym same) (token t k (may_spell t l.0) (spelled_so l.0));
        walked = ap (λ o. and_then o (λ y. run y l.0)) n ∙ l.3;
        told = l.4;
      },
    )

through_on : (b : Bool) (s s' : Progress) (t : TextToken) (p g w a r q : List ℕ) → take_token s t ≡ some s' → p ≡ g ++ w → Gap g → w ≡ a ++ r → a ≡ token_bytes t → MayFollow t (r ++ q) → Target b q → Spelling s' (r ++ q) → Rest b s p
through_on b s s' t p g w a r q n e k i j m tq sp =
    let same : p ++ q ≡ g ++ (token_bytes t ++ (r ++ q)) =
    ap (λ x. x ++ q) e ∙ append_assoc g w q ∙ ap (λ x. g ++ (x ++ q)) i ∙ ap (λ x. g ++ x) (append_assoc a r q) ∙ ap (λ x. g ++ (x ++ (r ++ q))) j in (
      q,
      tq,
      record {
        tokens = t ∷ sp.tokens;
        last = sp.last;
        written_rules = sp.written_rules;
        spelled = subst (TypedAs (t ∷ sp.tokens)) (sym same) (token t k m sp.spelled);
        walked = ap (λ o. and_then o (λ y. run y sp.tokens)) n ∙ sp.walked;
        told = sp.told;
      },
    )

whole_on : (b : Bool) (s s' : Progress) (t : TextToken) (p g w a r : List ℕ) → Reached s → take_token s t ≡ some s' → p ≡ g ++ w → Gap g → w ≡ a ++ r → Through b s' t a r → Rest b s p
whole_on b s s' t p g w a (x ∷ r) h n e k i (j, (m, (q, tq, sp))) = through_on b s s' t p g w a (x ∷ r) q n e k i j (may_longer t x r q m) tq sp
whole_on true s s' t p g w a [] h n e k i (j, (m, (q, tq, sp))) = through_on true s s' t p g w a [] q n e k i j (subst (MayFollow t) (sym tq) tt) tq sp
whole_on false s s' t p g w a [] h n e k i (j, (m, (q, tq, sp))) = begun_on s s' t p g w [] h n e k (sym j ∙ sym (ap (λ x. x ++ []) i ∙ append-nil (a ++ []) ∙ append-nil a))

token_on : (b : Bool) (s s' : Progress) (t : TextToken) (p g w : List ℕ) → Reached s → take_token s t ≡ some s' → p ≡ g ++ w → Gap g → Begun b t w ⊎ ((a r : List ℕ) × (w ≡ a ++ r) × Through b s' t a r) → Rest b s p
token_on true s s' t p g w h n e k (inl i) = absurd i
token_on false s s' t p g w h n e k (inl (u, i)) = begun_on s s' t p g w u h n e k i
token_on true s s' t p g w h n e k (inr (a, r, i, j)) = whole_on true s s' t p g w a r h n e k i j
token_on false s s' t p g w h n e k (inr (a, r, i, j)) = whole_on false s s' t p g w a r h n e k i j

pub cases_rest : (b : Bool) (s : Progress) (p : List ℕ) → Reached s → Cases b s p → Rest b s p
cases_rest b s p h (inl (g, k)) = base_on b s p h g k
cases_rest b s p h (inr (g, w, e, (k, (t, i, (s', n, j))))) = token_on b s s' t p g w h n e k j

-- which of them it is
base? : (b : Bool) (s : Progress) → Dec (Base b s)
base? false s = yes tt
base? true s = on (cases (value_of_rules s))
  where
    on : (value_of_rules s ≡ none) ⊎ ((v : Rules) × (value_of_rules s ≡ some v)) → Dec (Base true s)
    on (inl e) = no (λ h. none≢some e h.1)
    on (inr h) = yes h

begun? : (b : Bool) (t : TextToken) (w : List ℕ) → Dec (Begun b t w)
begun? true t w = no (λ h. h)
begun? false t w = begins? (token_bytes t) w

false? : (b : Bool) → Dec (b ≡ false)
false? false = yes refl
false? true = no (λ e. let z : ◌≡◌ {A = ℕ} 0 1 = cc in omega arith)

may? : (t : TextToken) (r : List ℕ) → Dec (MayFollow t r)
may? t [] = yes tt
may? t (b ∷ r) = false? (joins t b)

-- where the same is known of shorter bytes
module _ (b : Bool) (k : ℕ) (shorter : (s : Progress) → Reached s → (r : List ℕ) → length r < k → Dec (Rest b s r)) where
  through? : (s : Progress) → Reached s → (t : TextToken) (a r : List ℕ) → (token_bytes t ≡ [] → ⊥) → length a + length r ≤ k → Dec (Through b s t a r)
  through? s h t a r f l = on (same? a (token_bytes t))
    where
      some_left : a ≡ token_bytes t → length r < k
      some_left e = count a (λ z. f (sym e ∙ z)) l
        where
          count : (a : List ℕ) → (a ≡ [] → ⊥) → length a + length r ≤ k → length r < k
          count [] n i = absurd (n refl)
          count (x ∷ a) n i = omega arith

      on : Dec (a ≡ token_bytes t) → Dec (Through b s t a r)
      on (yes e) = both? (yes e) (both? (may? t r) (shorter s h r (some_left e)))
      on (no e) = no (λ x. e x.0)

  token_at? : (s : Progress) → Reached s → (w : List ℕ) → length w ≤ k → (t : TextToken) → Dec (TokenAt b s w t)
  token_at? s h w l t = on (cases (take_token s t))
    where
      given : (s' : Progress) → take_token s t ≡ some s' → Dec (Begun b t w ⊎ ((a r : List ℕ) × (w ≡ a ++ r) × Through b s' t a r)) → Dec (TokenAt b s w t)
      given s' n (yes d) = yes (s', n, d)
      given s' n (no d) = no (λ x. let same : x.0 ≡ s' = cc in d (subst (λ z. Begun b t w ⊎ ((a r : List ℕ) × (w ≡ a ++ r) × Through b z t a r)) same x.2))

      on : (take_token s t ≡ none) ⊎ ((s' : Progress) × (take_token s t ≡ some s')) → Dec (TokenAt b s w t)
      on (inl n) = no (λ x. none≢some n x.1)
      on (inr (s', n)) =
          given s' n (either? (begun? b t w)
          (split? w (Through b s' t) (λ a r e. through? s' (reached_next s s' t h n) t a r (fine s s' t n).some_bytes (omega (arith, simp length-append at (ap length e))))))

  cases? : (s : Progress) → Reached s → (p : List ℕ) → length p ≤ k → Dec (Cases b s p)
  cases? s h p l =
      either? (both? (in_gap? p) (base? b s))
      (split? p (λ g w. Gap g × ((t : TextToken) × Good t × TokenAt b s w t))
      (λ g w e. both? (gap? g) (token? (TokenAt b s w) (token_at? s h w (omega (arith, simp length-append at (ap length e)))))))

  rest_by : (s : Progress) → Reached s → (p : List ℕ) → length p ≤ k → Dec (Rest b s p)
  rest_by s h p l = on (cases? s h p l)
    where
      on : Dec (Cases b s p) → Dec (Rest b s p)
      on (yes c) = yes (cases_rest b s p h c)
      on (no c) = no (λ x. c (rest_cases b s p x))

rest_below? : (b : Bool) (k : ℕ) (s : Progress) → Reached s → (p : List ℕ) → length p < k → Dec (Rest b s p)
rest_below? b zero s h p l = absurd (omega arith)
rest_below? b (suc k) s h p l = rest_by b k (λ s' h' r i. rest_below? b k s' h' r i) s h p (omega arith)

pub rest? : (b : Bool) (p : List ℕ) → Dec (Rest b beginning p)
rest? b p = rest_below? b (suc (length p)) beginning ([], refl) p (omega arith)

-- rule texts are what the machine's tokens spell
pub text_spelling : (text : List ℕ) (r : Rules) → RuleText text r → Spelling beginning text
text_spelling text r h =
    let c = ended rules RulesAre WithinLimits within? reads_rules h.tokens r (record { phrase = h.grammatical; fits = h.within }) in
    record { tokens = h.tokens; last = c.0; written_rules = r; spelled = h.spelled; walked = c.1; told = c.2 }

pub spelling_text : (text : List ℕ) (s : Spelling beginning text) → RuleText text s.written_rules
spelling_text text s =
    let w = run_was rules RulesAre WithinLimits within? reads_rules beginning s.last s.tokens reads_rules.starts s.walked in
    record {
      tokens = s.tokens;
      spelled = s.spelled;
      grammatical = reads_rules.sound s.tokens s.last s.written_rules w.0 s.told;
      within = subst WithinLimits (reads_rules.finished_last s.last s.written_rules s.told) w.1;
    }

goes_on? : (p : List ℕ) → Dec (Continues RuleText p)
goes_on? p = on (rest? false p)
  where
    on : Dec (Rest false beginning p) → Dec (Continues RuleText p)
    on (yes (q, k, s)) = yes (record { rest = q; value = s.written_rules; writes = spelling_text (p ++ q) s })
    on (no h) = no (λ g. h (g.rest, tt, text_spelling (p ++ g.rest) g.value g.writes))

writes? : (p : List ℕ) → Dec ((r : Rules) × RuleText p r)
writes? p = on (rest? true p)
  where
    on : Dec (Rest true beginning p) → Dec ((r : Rules) × RuleText p r)
    on (yes (q, k, s)) = yes (s.written_rules, subst (λ x. RuleText x s.written_rules) (ap (λ x. p ++ x) k ∙ append-nil p) (spelling_text (p ++ q) s))
    on (no h) = no (λ g. h ([], refl, subst (Spelling beginning) (sym (append-nil p)) (text_spelling p g.0 g.1)))

-- the bytes so far go on; and the rest
tell : (p rest : List ℕ) → Continues RuleText p → Told RuleText (p ++ rest)
tell p [] g = rw append-nil (on (writes? p))
  where
    on : Dec ((r : Rules) × RuleText p r) → Told RuleText p
    on (yes (r, h)) = written r h
    on (no h) = refused (length p) (record { reached = omega arith; before = rw take-length g; no_further = λ k x. absurd (omega arith); unfinished = λ k v x. h (v, x) })
tell p (b ∷ rest) g = on (λ h. rw append_assoc at (tell (p ++ b ∷ []) rest h)) (goes_on? (p ++ b ∷ []))
  where
    one_more : take (suc (length p)) (p ++ b ∷ rest) ≡ p ++ b ∷ []
    one_more = ap (take (suc (length p))) (sym (append_assoc p (b ∷ []) rest)) ∙ take_at (p ++ b ∷ []) rest (suc (length p)) (simp length-append (omega arith))

    on : (Continues RuleText (p ++ b ∷ []) → Told RuleText (p ++ b ∷ rest)) → Dec (Continues RuleText (p ++ b ∷ [])) → Told RuleText (p ++ b ∷ rest)
    on ih (yes h) = ih h
    on ih (no h) = refused (length p) (record {
      reached = simp length-append (omega arith);
      before = rw (take_at p (b ∷ rest) (length p) refl) g;
      no_further = λ k x. h (subst (Continues RuleText) one_more x);
      unfinished = λ k v x. absurd (omega (arith, simp length-append at k));
    })

nothing_goes_on : Continues RuleText []
nothing_goes_on = let r = in_gap_on beginning [] ([], refl) ([], [], refl, (Gap.none, tt)) in record { rest = r.0; value = r.2.written_rules; writes = spelling_text r.0 r.2 }

pub tells_texts : TellsTexts
tells_texts text = tell [] text nothing_goes_on
