-- A machine that reads a language tells of every row what it writes, or where it is refused.
-- Assumes nothing.
use mathlib.Core.Path.{◌≡◌, refl, sym, ◌∙◌, ap, subst}
use mathlib.Core.Option.{Option, none, some}
use mathlib.Core.Logic.{◌⊎◌, inl, inr}
use mathlib.Core.List.{List, [], ◌∷◌, ◌++◌, append_assoc, append-nil}
use Prim.Native.Nat.{ℕ, suc, ◌+◌, ◌≤◌, ◌<◌}
use native.Mathlib.Omega.{arith}
use native.Mathlib.Numerals.{add-one}
use lib.ListN.{length, take, drop, length-append}
use lib.Seq.{take_at, take-length}
use Rattle.notation.specs.Refusal.{Continues, RefusedAt, Told, written, refused}
use Rattle.reading.specs.Machine.{Machine, and_then, walk, only_where, next}
use Rattle.reading.specs.Reads.{Limited, Ends, ReadBy}
use Rattle.reading.specs.Promises.{TellsAll, TakesWhatGoesOn, WritesOne}

-- a step that was taken and one that was not differ
pub none≢some : {S : Type 0} {s : S} {o : Option S} → o ≡ none → o ≡ some s → ⊥
none≢some {S} {s} {o} p q = let z : ◌≡◌ {A = ℕ} 0 1 = cc in omega arith

pub cases : {S : Type 0} (o : Option S) → (o ≡ none) ⊎ ((s : S) × (o ≡ some s))
cases none = inl refl
cases (some s) = inr (s, refl)

module _ {A S : Type 0} (step : S → A → Option S) where
  -- a walk over two rows, one behind the other
  pub walk_append : (s : S) (u v : List A) → walk step s (u ++ v) ≡ and_then (walk step s u) (λ s'. walk step s' v)
  walk_append s [] v = refl
  walk_append s (a ∷ u) v = go (λ s'. walk_append s' u v) (step s a)
    where
      go : ((s' : S) → walk step s' (u ++ v) ≡ and_then (walk step s' u) (λ s''. walk step s'' v)) → (o : Option S)
          → and_then o (λ s'. walk step s' (u ++ v)) ≡ and_then (and_then o (λ s'. walk step s' u)) (λ s'. walk step s' v)
      go ih none = refl
      go ih (some s') = ih s'

  -- what was walked to the end was walked up to there
  pub walk_front : (s t : S) (u v : List A) → walk step s (u ++ v) ≡ some t → (s' : S) × (walk step s u ≡ some s') × (walk step s' v ≡ some t)
  walk_front s t u v e = go (walk step s u) refl
    where
      go : (o : Option S) → walk step s u ≡ o → (s' : S) × (walk step s u ≡ some s') × (walk step s' v ≡ some t)
      go none h = absurd (none≢some (ap (λ o. and_then o (λ s'. walk step s' v)) h) (sym (walk_append s u v) ∙ e))
      go (some s') h = (s', h, sym (ap (λ o. and_then o (λ s''. walk step s'' v)) h) ∙ sym (walk_append s u v) ∙ e)

  pub walk_on : (s s' : S) (u v : List A) → walk step s u ≡ some s' → walk step s (u ++ v) ≡ walk step s' v
  walk_on s s' u v h = walk_append s u v ∙ ap (λ o. and_then o (λ s''. walk step s'' v)) h

-- what holds where there is a state
abbrev pub IfSome : {S : Type 0} → (S → Type 0) → Option S → Type 0
IfSome P none = Unit {0}
IfSome P (some s) = P s

-- what each step keeps, a walk keeps
module _ {A S : Type 0} (step : S → A → Option S) (Held : S → List A → Type 0) (keeps : (s : S) (a : A) (row : List A) → Held s row → IfSome (λ z. Held z (row ++ a ∷ [])) (step s a)) where
  held_walk : (s : S) (row more : List A) → Held s row → IfSome (λ z. Held z (row ++ more)) (walk step s more)
  held_walk s row [] h = rw append-nil h
  held_walk s row (a ∷ more) h = on (λ z k. held_walk z (row ++ a ∷ []) more k) (step s a) (keeps s a row h)
    where
      on : ((z : S) → Held z (row ++ a ∷ []) → IfSome (λ y. Held y ((row ++ a ∷ []) ++ more)) (walk step z more))
          → (o : Option S) → IfSome (λ z. Held z (row ++ a ∷ [])) o → IfSome (λ y. Held y (row ++ a ∷ more)) (and_then o (λ z. walk step z more))
      on ih none k = tt
      on ih (some z) k = subst (λ l. IfSome (λ y. Held y l) (walk step z more)) (append_assoc row (a ∷ []) more) (ih z k)

  pub held_after : (s z : S) (row : List A) → Held s [] → walk step s row ≡ some z → Held z row
  held_after s z row h e = subst (IfSome (λ y. Held y row)) e (held_walk s [] row h)

module _ {A R : Type 0} (m : Machine A R) (Phrase : List A → R → Type 0) (Fits : R → Type 0) (fits : (r : R) → Dec (Fits r)) (reads : ReadBy m Phrase Fits) where
  -- a step with the limits
  pub next_is : (s s' : m.State) (a : A) → m.step s a ≡ some s' → Fits (m.finished s') → next m fits s a ≡ some s'
  next_is s s' a e f = ap (λ o. and_then o (λ s''. only_where (fits (m.finished s'')) s'')) e ∙ go (fits (m.finished s'))
    where
      go : (d : Dec (Fits (m.finished s'))) → only_where d s' ≡ some s'
      go (yes h) = refl
      go (no h) = absurd (h f)

  pub next_was : (s s' : m.State) (a : A) → next m fits s a ≡ some s' → (m.step s a ≡ some s') × Fits (m.finished s')
  next_was s s' a e = go (m.step s a) refl
    where
      at : (t : m.State) → m.step s a ≡ some t → (d : Dec (Fits (m.finished t))) → only_where d t ≡ some s' → (m.step s a ≡ some s') × Fits (m.finished s')
      at t h (yes f) k = let same : t ≡ s' = cc in (h ∙ ap some same, subst (λ x. Fits (m.finished x)) same f)
      at t h (no f) k = absurd (none≢some refl k)

      go : (o : Option m.State) → m.step s a ≡ o → (m.step s a ≡ some s') × Fits (m.finished s')
      go none h = absurd (none≢some (ap (λ o. and_then o (λ t. only_where (fits (m.finished t)) t)) h) e)
      go (some t) h = at t h (fits (m.finished t)) (sym (ap (λ o. and_then o (λ t. only_where (fits (m.finished t)) t)) h) ∙ e)

  -- what fits at the end fits all along
  fits_along : (s t : m.State) (row : List A) → walk m.step s row ≡ some t → Fits (m.finished t) → Fits (m.finished s)
  fits_along s t [] e f = let same : s ≡ t = cc in subst (λ x. Fits (m.finished x)) (sym same) f
  fits_along s t (a ∷ row) e f = go (λ s'. fits_along s' t row) (m.step s a) refl
    where
      go : ((s' : m.State) → walk m.step s' row ≡ some t → Fits (m.finished t) → Fits (m.finished s')) → (o : Option m.State) → m.step s a ≡ o → Fits (m.finished s)
      go ih none h = absurd (none≢some (ap (λ o. and_then o (λ s'. walk m.step s' row)) h) e)
      go ih (some s') h = reads.grows s s' a h (ih s' (sym (ap (λ o. and_then o (λ s''. walk m.step s'' row)) h) ∙ e) f)

  run_is : (s t : m.State) (row : List A) → walk m.step s row ≡ some t → Fits (m.finished t) → walk (next m fits) s row ≡ some t
  run_is s t [] e f = e
  run_is s t (a ∷ row) e f = go (λ s'. run_is s' t row) (m.step s a) refl
    where
      go : ((s' : m.State) → walk m.step s' row ≡ some t → Fits (m.finished t) → walk (next m fits) s' row ≡ some t) → (o : Option m.State) → m.step s a ≡ o → walk (next m fits) s (a ∷ row) ≡ some t
      go ih none h = absurd (none≢some (ap (λ o. and_then o (λ s'. walk m.step s' row)) h) e)
      go ih (some s') h =
          let w = sym (ap (λ o. and_then o (λ s''. walk m.step s'' row)) h) ∙ e in
          ap (λ o. and_then o (λ s''. walk (next m fits) s'' row)) (next_is s s' a h (fits_along s' t row w f)) ∙ ih s' w f

  pub run_was : (s t : m.State) (row : List A) → Fits (m.finished s) → walk (next m fits) s row ≡ some t → (walk m.step s row ≡ some t) × Fits (m.finished t)
  run_was s t [] f e = let same : s ≡ t = cc in (e, subst (λ x. Fits (m.finished x)) same f)
  run_was s t (a ∷ row) f e = go (λ s'. run_was s' t row) (next m fits s a) refl
    where
      go : ((s' : m.State) → Fits (m.finished s') → walk (next m fits) s' row ≡ some t → (walk m.step s' row ≡ some t) × Fits (m.finished t))
          → (o : Option m.State) → next m fits s a ≡ o → (walk m.step s (a ∷ row) ≡ some t) × Fits (m.finished t)
      go ih none h = absurd (none≢some (ap (λ o. and_then o (λ s'. walk (next m fits) s' row)) h) e)
      go ih (some s') h =
          let w = next_was s s' a h in
          let r = ih s' w.1 (sym (ap (λ o. and_then o (λ s''. walk (next m fits) s'' row)) h) ∙ e) in
          (ap (λ o. and_then o (λ s''. walk m.step s'' row)) w.0 ∙ r.0, r.1)

  abbrev run : List A → Option m.State
  run row = walk (next m fits) m.start row

  took : (row : List A) (s : m.State) → run row ≡ some s → Continues (Limited Phrase Fits) row
  took row s e =
      let w = run_was m.start s row reads.starts e in
      let r = reads.shortest row s w.0 in
      record { rest = r.0; value = m.finished s; writes = record { phrase = r.1; fits = w.1 } }

  pub ended : (row : List A) (v : R) → Limited Phrase Fits row v → (s : m.State) × (run row ≡ some s) × (m.value s ≡ some v)
  ended row v l =
      let c = reads.complete row v l.phrase in
      (c.last, run_is m.start c.last row c.walked (subst Fits (sym (reads.finished_last c.last v c.told)) l.fits), c.told)

  taken : (row : List A) → Continues (Limited Phrase Fits) row → (s : m.State) × (run row ≡ some s)
  taken row g =
      let c = ended (row ++ g.rest) g.value g.writes in
      let f = walk_front (next m fits) m.start c.0 row g.rest c.1 in
      (f.0, f.1)

  -- the row so far, the state there, and the rest
  tell : (p rest : List A) (s : m.State) → run p ≡ some s → Told (Limited Phrase Fits) (p ++ rest)
  tell p [] s e = rw append-nil (go (m.value s) refl)
    where
      go : (o : Option R) → m.value s ≡ o → Told (Limited Phrase Fits) p
      go none h = refused (length p) (record {
        reached = omega arith;
        before = rw take-length (took p s e);
        no_further = λ k g. absurd (omega arith);
        unfinished = λ k v l. let c = ended p v l in let same : c.0 ≡ s = cc in none≢some h (ap m.value (sym same) ∙ c.2);
      })
      go (some v) h =
          let w = run_was m.start s p reads.starts e in
          written v (record { phrase = reads.sound p s v w.0 h; fits = subst Fits (reads.finished_last s v h) w.1 })
  tell p (a ∷ rest) s e = go (λ s' h. rw append_assoc at (tell (p ++ a ∷ []) rest s' h)) (cases (next m fits s a))
    where
      onward : walk (next m fits) m.start (p ++ a ∷ []) ≡ and_then (next m fits s a) (λ s'. some s')
      onward = walk_on (next m fits) m.start s p (a ∷ []) e

      one_more : take (suc (length p)) (p ++ a ∷ rest) ≡ p ++ a ∷ []
      one_more = ap (take (suc (length p))) (sym (append_assoc p (a ∷ []) rest)) ∙ take_at (p ++ a ∷ []) rest (suc (length p)) (simp length-append (omega arith))

      go : ((s' : m.State) → run (p ++ a ∷ []) ≡ some s' → Told (Limited Phrase Fits) (p ++ a ∷ rest)) → (next m fits s a ≡ none) ⊎ ((s' : m.State) × (next m fits s a ≡ some s'))
          → Told (Limited Phrase Fits) (p ++ a ∷ rest)
      go ih (inl h) = refused (length p) (record {
        reached = simp length-append (omega arith);
        before = rw (take_at p (a ∷ rest) (length p) refl) (took p s e);
        no_further = λ k g. let t = taken (p ++ a ∷ []) (subst (Continues (Limited Phrase Fits)) one_more g) in none≢some (onward ∙ ap (λ o. and_then o (λ s'. some s')) h) t.1;
        unfinished = λ k v l. absurd (omega (arith, simp length-append at k));
      })
      go ih (inr (s', h)) = ih s' (onward ∙ ap (λ o. and_then o (λ s'. some s')) h)

pub tells_all : TellsAll
tells_all A R m Phrase Fits fits reads row = tell m Phrase Fits fits reads [] row m.start refl

pub takes_what_goes_on : TakesWhatGoesOn
takes_what_goes_on A R m Phrase Fits fits reads row = record { only_if = took m Phrase Fits fits reads row; taken = taken m Phrase Fits fits reads row }

pub writes_one : WritesOne
writes_one A R m Phrase Fits reads row v w p q =
    let c = reads.complete row v p in
    let d = reads.complete row w q in
    let same : c.last ≡ d.last = cc in
    let told : ◌≡◌ {A = Option R} (some v) (some w) = sym c.told ∙ ap m.value same ∙ d.told in
    cc
