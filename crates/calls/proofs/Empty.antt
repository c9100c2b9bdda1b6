-- An empty tag against its start and its end: the machine takes the same two events, and so one may stand for the other in a row of tokens.
-- Assumes nothing.
use mathlib.Core.Path.{◌≡◌, refl, sym, ap, ◌∙◌, subst}
use mathlib.Core.List.{List, [], ◌∷◌, ◌++◌}
use mathlib.Core.Logic.{◌↔◌}
use mathlib.Core.Option.{Option}
use Prim.Native.Nat.{ℕ}
use native.Mathlib.Omega.{arith}
use Rattle.tokens.specs.Tokens.{start, end, empty, Tok, tag}
use Rattle.tokens.specs.Stream.{flat}
use Rattle.tokens.proofs.Streams.{flat_one}
use Rattle.sheet.specs.Sheet.{Sheet}
use Rattle.runs.specs.Visits.{Env}
use Rattle.runs.specs.Events.{starts, ends}
use Rattle.runs.specs.Machine.{Configuration, fresh_configuration, Answer, took, refused, onward, answered, run, step}
use Rattle.runs.specs.Taken.{Passed, closed_with}
use Rattle.runs.specs.Spells.{Token, start_token, end_token, empty_token, step_token, TokenOutcome, through, onward_token, run_tokens}
use Rattle.runs.proofs.Spells.{spelled_iff}
use Rattle.calls.specs.Names.{tag_named, token_for, tokens_for}
use Rattle.calls.specs.Accepted.{Accepted}
use Rattle.calls.specs.Empty.{then_token, EmptyIsBoth, Stream, EmptyForBoth}

module _ (a : Sheet) where
  pub empty_is_both : EmptyIsBoth a
  empty_is_both z t = by (step a z (starts t))
    where
      by : (x : Answer) → answered (onward z (starts t ∷ ends t ∷ []) x (λ y. run a y (ends t ∷ [])))
          ≡ then_token (answered (onward z (starts t ∷ []) x (λ y. run a y []))) (λ y. step_token a y (end_token t))
      by (took y) = refl
      by (refused n) = refl

  -- where a row of tokens is taken, so is the other
  one_for_two : (z z' : Configuration) (t : Option ℕ) (ts : List Token) →
      (run_tokens a z (empty_token t ∷ ts) ≡ through z') ↔ (run_tokens a z (start_token t ∷ end_token t ∷ ts) ≡ through z')
  one_for_two z z' t ts =
      by (step_token a z (start_token t)) (step_token a z (empty_token t)) (empty_is_both z t)
    where
      by_end : (y : Configuration) (w : Answer) → (onward_token z (empty_token t ∷ ts) w (λ x. run_tokens a x ts) ≡ through z') ↔ (onward_token y (end_token t ∷ ts) w (λ x. run_tokens a x ts) ≡ through z')
      by_end y (took x) = ((λ e. e), (λ e. e))
      by_end y (refused n) = ((λ e. absurd (let q : ◌≡◌ {A = ℕ} 0 1 = cc in omega arith)), (λ e. absurd (let q : ◌≡◌ {A = ℕ} 0 1 = cc in omega arith)))

      by : (x w : Answer) → w ≡ then_token x (λ y. step_token a y (end_token t)) →
          (onward_token z (empty_token t ∷ ts) w (λ y. run_tokens a y ts) ≡ through z')
          ↔ (onward_token z (start_token t ∷ end_token t ∷ ts) x (λ y. run_tokens a y (end_token t ∷ ts)) ≡ through z')
      by (took y) w e =
          subst (λ (u : Answer). (onward_token z (empty_token t ∷ ts) u (λ y. run_tokens a y ts) ≡ through z') ↔ (run_tokens a y (end_token t ∷ ts) ≡ through z')) (sym e)
          (by_end y (step_token a y (end_token t)))
      by (refused n) w e =
          subst (λ (u : Answer). (onward_token z (empty_token t ∷ ts) u (λ y. run_tokens a y ts) ≡ through z') ↔ (stops_at n ≡ through z')) (sym e)
          ((λ e. absurd (let q : ◌≡◌ {A = ℕ} 0 1 = cc in omega arith)), (λ e. absurd (let q : ◌≡◌ {A = ℕ} 0 1 = cc in omega arith)))
        where
          stops_at : ℕ → TokenOutcome
          stops_at n = onward_token z (start_token t ∷ end_token t ∷ ts) (refused n) (λ y. run_tokens a y (end_token t ∷ ts))

  -- and behind others
  behind : (ks us vs : List Token) → ((z z' : Configuration) → (run_tokens a z us ≡ through z') ↔ (run_tokens a z vs ≡ through z')) →
      (z z' : Configuration) → (run_tokens a z (ks ++ us) ≡ through z') ↔ (run_tokens a z (ks ++ vs) ≡ through z')
  behind [] us vs f z z' = f z z'
  behind (k ∷ ks) us vs f z z' = by (λ y. behind ks us vs f y z') (step_token a z k)
    where
      by : ((y : Configuration) → (run_tokens a y (ks ++ us) ≡ through z') ↔ (run_tokens a y (ks ++ vs) ≡ through z')) → (x : Answer) → (onward_token z (k ∷ (ks ++ us)) x (λ y. run_tokens a y (ks ++ us)) ≡ through z') ↔ (onward_token z (k ∷ (ks ++ vs)) x (λ y. run_tokens a y (ks ++ vs)) ≡ through z')
      by g (took y) = g y
      by g (refused n) = ((λ e. absurd (let q : ◌≡◌ {A = ℕ} 0 1 = cc in omega arith)), (λ e. absurd (let q : ◌≡◌ {A = ℕ} 0 1 = cc in omega arith)))

  pub tokens_behind : (ts us : List Tok) → tokens_for a (ts ++ us) ≡ tokens_for a ts ++ tokens_for a us
  tokens_behind [] us = refl
  tokens_behind (t ∷ ts) us = ap (λ (l : List Token). token_for a t ∷ l) (tokens_behind ts us)

module _ (a : Sheet) (ok : Passed a) where
  -- a stream of these tokens is accepted where the machine takes them
  abbrev Taken : List Tok → Env → Type 0
  Taken ts v = run_tokens a fresh_configuration (tokens_for a ts) ≡ through (closed_with v)

  same_run : (ts us : List Tok) (v : Env) → Stream ts → Stream us → (Taken ts v → Taken us v) → Accepted a (flat ts) v → Accepted a (flat us) v
  same_run ts us v g h f x =
      let e : ts ≡ x.tokens = flat_one ts x.tokens g.0 x.good g.2 x.whole x.are_bytes in
      record {
        tokens = us;
        good = h.0;
        short = h.1;
        whole = h.2;
        are_bytes = refl;
        spells = (spelled_iff a ok (tokens_for a us) v).0 (f (ap (λ (l : List Tok). run_tokens a fresh_configuration (tokens_for a l)) e ∙ (spelled_iff a ok (tokens_for a x.tokens) v).1 x.spells));
        counts = x.counts;
      }

  pub empty_for_both : EmptyForBoth a
  empty_for_both ts us n b b₁ b₂ g h v =
      let t = tag_named a.names n in
      let ks : List Token = tokens_for a ts in
      let ls : List Token = tokens_for a us in
      let i = behind a ks (empty_token t ∷ ls) (start_token t ∷ end_token t ∷ ls) (λ z z'. one_for_two a z z' t ls) fresh_configuration (closed_with v) in
      let one : tokens_for a (ts ++ tag empty n b ∷ us) ≡ ks ++ empty_token t ∷ ls = tokens_behind a ts (tag empty n b ∷ us) in
      let two : tokens_for a (ts ++ tag start n b₁ ∷ tag end n b₂ ∷ us) ≡ ks ++ start_token t ∷ end_token t ∷ ls = tokens_behind a ts (tag start n b₁ ∷ tag end n b₂ ∷ us) in (
        same_run (ts ++ tag empty n b ∷ us) (ts ++ tag start n b₁ ∷ tag end n b₂ ∷ us) v g h
            (λ e. ap (run_tokens a fresh_configuration) two ∙ i.0 (ap (run_tokens a fresh_configuration) (sym one) ∙ e)),
        same_run (ts ++ tag start n b₁ ∷ tag end n b₂ ∷ us) (ts ++ tag empty n b ∷ us) v h g
            (λ e. ap (run_tokens a fresh_configuration) one ∙ i.1 (ap (run_tokens a fresh_configuration) (sym two) ∙ e)),
      )
