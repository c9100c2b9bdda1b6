-- A record that lacks its end is refused where the next one begins, with 23, or where the root ends, with 22.
-- Assumes nothing.
use mathlib.Core.Path.{◌≡◌, refl, sym, ap, ◌∙◌, subst}
use mathlib.Core.Logic.{◌⊎◌, inl, inr}
use mathlib.Core.Bool.{Bool, true, false, true≢false}
use mathlib.Core.List.{List, [], ◌∷◌, ◌++◌}
use mathlib.Core.Option.{none, some}
use Prim.Native.Nat.{ℕ, zero, suc, ◌+◌, ◌≤◌, ◌<◌}
use native.Mathlib.Omega.{arith}
use lib.Dec.{eqb}
use lib.ListN.{length, drop, length-append}
use borrow.Author.Tests.{eqb-true}
use Rattle.tokens.specs.declared.Event.{Event}
use Rattle.tokens.specs.declared.Answer.TheVariants.{Token}
use Rattle.tokens.specs.Tokens.{start, end, Tok, tag, bytes, event_of}
use Rattle.tokens.specs.Stream.{ReadAs}
use Rattle.tokens.proofs.Streams.{read_one}
use Rattle.sheet.specs.Sheet.{Sheet}
use Rattle.runs.specs.Execute.{name_of}
use Rattle.runs.specs.Fits.{NamesFit}
use Rattle.runs.specs.Machine.{Control, before, inside, after, Configuration}
use Rattle.runs.specs.Spells.{Token as RunToken, start_token, end_token, empty_token, literal, reference, events_of_token}
use Rattle.runs.proofs.Execute.{name_at}
use Rattle.calls.specs.Names.{token_of}
use Rattle.calls.specs.Limits.{Taking, refuses, one_token}
use Rattle.calls.specs.Call.{room_left, number_at, Stop, stops, full, no_token}
use Rattle.calls.proofs.Names.{named_is}
use Rattle.calls.proofs.Read.{token_reads, token_at}
use Rattle.salvage.specs.Shape.{RecordTags, OfShape}
use Rattle.salvage.specs.Resumption.{MayResume}
use Rattle.salvage.specs.Salvage.{root_only, starts_with, whole, broken, InRecord, goes_on, ends, breaks, damaged}
use Rattle.salvage.proofs.One.{damage, read_same}
use Rattle.salvage.proofs.Inside.{Self, Fine, AllNamed, read_named, taken_fine, unless_closed, start_refused, empty_refused, end_refused}

-- a run that stops at a token with 20 to 25 refuses it
stop_refuses : (a : Sheet) (s : List ℕ) (at room : ℕ) (z : Configuration) (n : ℕ) → damaged n ≡ true → Stop a s false at room z n → (e : Event) (next : ℕ) →
    ReadAs false s at (Token e (record { at = next })) → one_token a z room (token_of a s e) ≡ refuses n
stop_refuses a s at room z n b (stops e' next' k m' t') e next m =
    let q = read_same a s false at room z e e' next next' m m' in
    ap (λ (x : Event). one_token a z room (token_of a s x)) q.0 ∙ t'
stop_refuses a s at room z n b (full e' next' m' t') e next m = absurd (let w = damage 17 b in omega (arith, w.0))
stop_refuses a s at room z n b (no_token x k m' t') e next m =
    let q = read_one false s at x (Token e (record { at = next })) m' m in
    let h : ◌≡◌ none (some k) = ap (number_at false (length (drop at s)) z.control) (sym q) ∙ t' in
    absurd (let y : ◌≡◌ {A = ℕ} 0 1 = cc in omega arith)

starts_is : (t : ℕ) (k : RunToken) → starts_with t k ≡ true → (k ≡ start_token (some t)) ⊎ (k ≡ empty_token (some t))
starts_is t (start_token none) h = absurd (true≢false (sym h))
starts_is t (start_token (some u)) h = inl (ap (λ (v : ℕ). start_token (some v)) (eqb-true u t h))
starts_is t (end_token u) h = absurd (true≢false (sym h))
starts_is t (empty_token none) h = absurd (true≢false (sym h))
starts_is t (empty_token (some u)) h = inr (ap (λ (v : ℕ). empty_token (some v)) (eqb-true u t h))
starts_is t (literal c) h = absurd (true≢false (sym h))
starts_is t (reference c) h = absurd (true≢false (sym h))

module _ (a : Sheet) (records : ℕ) (x : RecordTags) (shape : OfShape a records x) where
  -- the root has not been closed
  abbrev Unclosed : Control → Type 0
  Unclosed c = (k : ℕ) → unless_closed a records x shape c k ≡ k

  unclosed : (c : Control) → damaged (unless_closed a records x shape c 23) ≡ true → Unclosed c
  unclosed before h k = refl
  unclosed (inside o os) h k = refl
  unclosed after h k = absurd (true≢false (sym h))

  module _ (s : List ℕ) (area : ℕ) where
    still_open : {at : ℕ} {y : Configuration} {v : List ℕ} (n to : ℕ) (y₁ : Configuration) → InRecord a s area at y v (broken n to y₁) → root_only y.control ≡ false →
        root_only y₁.control ≡ false
    still_open n to y₁ (goes_on e next y' w m t h d) b = still_open n to y₁ d h
    still_open n to y₁ (breaks k q) b = b

    pub open_past : {at : ℕ} {y : Configuration} {v : List ℕ} (n to : ℕ) (y₁ : Configuration) → InRecord a s area at y v (broken n to y₁) → at < to → root_only y₁.control ≡ false
    open_past n to y₁ (goes_on e next y' w m t h d) l = still_open n to y₁ d h
    open_past n to y₁ (breaks k q) l = absurd (omega arith)

    pub broken_fine : {at : ℕ} {y : Configuration} {v : List ℕ} (n to : ℕ) (y₁ : Configuration) → InRecord a s area at y v (broken n to y₁) → Fine a records x shape y.control →
        Fine a records x shape y₁.control
    broken_fine n to y₁ (goes_on {y = y} {v = v} e next y' w m t h d) f = broken_fine n to y₁ d (taken_fine a records x shape s e y (room_left area v) y' w t f)
    broken_fine n to y₁ (breaks k q) f = f

    pub whole_fine : {at : ℕ} {y : Configuration} {v : List ℕ} (to next : ℕ) (y₁ z : Configuration) (u : List ℕ) → InRecord a s area at y v (whole to y₁ next z u) →
        Fine a records x shape y.control → Fine a records x shape z.control
    whole_fine to next y₁ z u (goes_on {y = y} {v = v} e nx y' w m t h d) f = whole_fine to next y₁ z u d (taken_fine a records x shape s e y (room_left area v) y' w t f)
    whole_fine to next y₁ z u (ends {y = y} {v = v} e nx z' w m t h) f = taken_fine a records x shape s e y (room_left area v) z' w t f

    pub stops_so : {at : ℕ} {y : Configuration} {v : List ℕ} (n to : ℕ) (y₁ : Configuration) → InRecord a s area at y v (broken n to y₁) → (room : ℕ) × Stop a s false to room y₁ n
    stops_so n to y₁ (goes_on e next y' w m t h d) = stops_so n to y₁ d
    stops_so n to y₁ (breaks {v = v} k q) = (room_left area v, q)

  -- the next record's start
  module _ (s : List ℕ) (at : ℕ) (e : Event) (next : ℕ) (m : ReadAs false s at (Token e (record { at = next }))) (b : starts_with x.record_tag (token_of a s e) ≡ true) where
    pub record_self : Self a records x shape x.record_tag
    record_self = by (starts_is x.record_tag (token_of a s e) b)
      where
        by : (token_of a s e ≡ start_token (some x.record_tag)) ⊎ (token_of a s e ≡ empty_token (some x.record_tag)) → Self a records x shape x.record_tag
        by (inl h) = (subst (λ (k : RunToken). AllNamed a records x shape (events_of_token k)) h (read_named a records x shape s e)).0
        by (inr h) = (subst (λ (k : RunToken). AllNamed a records x shape (events_of_token k)) h (read_named a records x shape s e)).0

    pub refused_there : (y : Configuration) → root_only y.control ≡ false → Fine a records x shape y.control → (room n : ℕ) → damaged n ≡ true → Stop a s false at room y n →
        (n ≡ 23) × Unclosed y.control
    refused_there y o f room n d q =
        let r = stop_refuses a s at room y n d q e next m in
        by (starts_is x.record_tag (token_of a s e) b) r
      where
        on : refuses (unless_closed a records x shape y.control 23) ≡ refuses n → (n ≡ 23) × Unclosed y.control
        on h =
            let i : unless_closed a records x shape y.control 23 ≡ n = cc in
            let u = unclosed y.control (ap damaged i ∙ d) in
            (sym i ∙ u 23, u)

        by : (token_of a s e ≡ start_token (some x.record_tag)) ⊎ (token_of a s e ≡ empty_token (some x.record_tag)) → one_token a y room (token_of a s e) ≡ refuses n →
            (n ≡ 23) × Unclosed y.control
        by (inl h) r = on (sym (start_refused a records x shape y o f room) ∙ ap (one_token a y room) (sym h) ∙ r)
        by (inr h) r = on (sym (empty_refused a records x shape y o f room) ∙ ap (one_token a y room) (sym h) ∙ r)

  -- where a record begins the root's tag was read
  pub root_self : (c : Control) → root_only c ≡ true → Fine a records x shape c → Self a records x shape x.root_tag
  root_self before b f = absurd (true≢false (sym b))
  root_self (inside o os) b f = f.0
  root_self after b f = absurd (true≢false (sym b))

  -- where one of the two byte strings stands
  module _ (fit : NamesFit a.names) (record_self : Self a records x shape x.record_tag) (root_self : Self a records x shape x.root_tag) (s : List ℕ) (at : ℕ) (y : Configuration)
      (o : root_only y.control ≡ false) (f : Fine a records x shape y.control) where
    pub stops_at : MayResume a x s at → (n : ℕ) × ((n ≡ 22) ⊎ (n ≡ 23)) × ((room : ℕ) → Stop a s false at room y (unless_closed a records x shape y.control n))
    stops_at (inl (r, e)) =
        let name : List ℕ = name_of a.names x.record_tag in
        let i = named_is a.names name x.record_tag record_self in
        let (g, l) = name_at a.names x.record_tag fit i.0 in
        let t : Tok = tag start name [] in
        let k = length-append name (62 ∷ []) in (
          23,
          inr refl,
          (λ room. stops (event_of at t) (at + length (bytes t)) (unless_closed a records x shape y.control 23) (token_reads s at t r e (g, tt) (omega (arith, k, l)) false tt)
              (ap (one_token a y room) (token_at a s t at r e ∙ ap start_token record_self) ∙ start_refused a records x shape y o f room)),
        )
    stops_at (inr (r, e)) =
        let name : List ℕ = name_of a.names x.root_tag in
        let i = named_is a.names name x.root_tag root_self in
        let (g, l) = name_at a.names x.root_tag fit i.0 in
        let t : Tok = tag end name [] in
        let k = length-append name (62 ∷ []) in (
          22,
          inl refl,
          (λ room. stops (event_of at t) (at + length (bytes t)) (unless_closed a records x shape y.control 22) (token_reads s at t r e (g, tt) (omega (arith, k, l)) false tt)
              (ap (one_token a y room) (token_at a s t at r e ∙ ap end_token root_self) ∙ end_refused a records x shape y o f room)),
        )
