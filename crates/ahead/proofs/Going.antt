-- The laws of the parts: sets and frames compared, what the tried character tells, and the stretches as the call's answers.
-- Assumes nothing.
use Rattle.std.specs.Prelude.{Some, None}
use mathlib.Core.Path.{◌≡◌, refl, sym, ap, ap₂, ◌∙◌, subst}
use mathlib.Core.Bool.{Bool, true, false, beq}
use mathlib.Core.Logic.{inl, inr}
use mathlib.Core.List.{List, [], ◌∷◌, ◌++◌, map, reverse}
use Prim.Native.Nat.{ℕ, ◌+◌, ◌-◌, ◌≤◌, ◌<◌}
use native.Mathlib.Nat.{add-zero}
use native.Mathlib.Numerals.{add-one}
use native.Mathlib.Omega.{arith}
use lib.ListN.{length, take, drop, get_or, take-append-drop}
use lib.Seq.{take-suc}
use Rattle.text.specs.Chars.{Char, utf8}
use Rattle.output.specs.Escape.{escaped_as}
use Rattle.sheet.specs.Sheet.{Sheet, IsSheet}
use Rattle.visits.specs.Written.{Pen}
use Rattle.runs.specs.Visits.{grammar, most_visits, Env, Saved as Kept}
use Rattle.runs.specs.Events.{letter}
use Rattle.runs.specs.Machine.{Open, Control, before, inside, after, Configuration as Standing, Answer, took, refused, step}
use Rattle.runs.specs.Spells.{passes_at}
use Rattle.calls.specs.Limits.{silent}
use Rattle.calls.specs.Call.{Result, after_writing, Runs}
use Rattle.calls.proofs.Frame.{step_number}
use Rattle.state.specs.declared.Saved.{Saved}
use Rattle.state.specs.declared.Frame.{Frame}
use Rattle.state.specs.declared.State.{State}
use Rattle.state.specs.Changes.{top_of}
use Rattle.live.specs.declared.Live.{Live}
use Rattle.live.specs.Live.{full}
use Rattle.live.proofs.Stacks.{top_full}
use Rattle.state.specs.Meaning.{kept_of, sets_of, open_of, meaning_of, Shaped}
use Rattle.state.proofs.Meant.{inside_open}
use Rattle.fit.specs.RunFits.{RunFits}
use Rattle.steps.specs.Seen.{SteppedSeen}
use Rattle.steps.specs.Stepped.{SteppedAs, StepAnswered, Took}
use Rattle.steps.specs.Parts.{PassesAs}
use Rattle.steps.proofs.Places.{inside_at}
use Rattle.steady.specs.Steady.{counting, shown, Steady}
use Rattle.steady.proofs.Steadies.{Unmoved, steady}
use Rattle.steady.proofs.Around.{around_stays}
use Rattle.stretches.specs.declared.Stretch.{Stretch}
use Rattle.stretches.specs.Stretched.{StretchedAs, BlanksAs}
use Rattle.ahead.specs.Ahead.{SameFrame, SameState, ProbedAs, OnwardAs}

-- a test that says no tells nothing
pub not_told : {P : Type 0} → false ≡ true → P
not_told e = absurd (let z : ◌≡◌ {A = ℕ} 0 1 = cc in omega arith)

pub echo_told : (a b : Bool) → beq a b ≡ true → a ≡ b
echo_told true true e = refl
echo_told false false e = refl
echo_told true false e = not_told e
echo_told false true e = not_told e

pub set_told : (a b : Saved) → a.echo ≡ b.echo → a.values ≡ b.values → a ≡ b
set_told a b e f = ap₂ (λ (v : List ℕ) (o : Bool). record { values = v; echo = o }) f e

pub take_more : {X : Type 0} (l m : List X) (i : ℕ) (z : X) → i < length l → i < length m → take i l ≡ take i m → get_or l i z ≡ get_or m i z → take (i + 1) l ≡ take (i + 1) m
take_more {X = X} l m i z h k e f =
    rw (add-one, take-suc l i z h, take-suc m i z k) (ap₂ (λ (u : List X) (x : X). u ++ (x ∷ [])) e f)

pub wide_on : (on : Bool) → on ≡ true → 1 ≡ length (shown on 120)
unfolding escaped_as utf8
wide_on on e = rw e

pub wide_off : (on : Bool) → on ≡ false → 0 ≡ length (shown on 120)
wide_off on e = rw e

pub frame_told : (f g : Frame) (n : ℕ) → n ≡ f.«open» → f.production ≡ g.production → f.place ≡ g.place → f.«open» ≡ g.«open» → take n f.saved ≡ take n g.saved → SameFrame f g
frame_told f g n e p q o t = record { production = p; place = q; as_many = o; sets = subst (λ (m : ℕ). take m f.saved ≡ take m g.saved) e t }

pub state_told : (z y : Live) → z.values ≡ y.values → z.echo ≡ y.echo → (f g : Frame) → f ≡ z.top → g ≡ y.top → SameFrame f g → (b : List ℕ) →
    SameState (full z b) (full y b)
state_told z y e o f g p q s b =
    record {
      values = e;
      echo = o;
      top = λ d d'. subst (λ (u : Frame). SameFrame u (top_of (full y b))) (p ∙ sym (top_full z b d)) (subst (SameFrame f) (q ∙ sym (top_full y b d')) s);
    }

pub sets_same : (f g : Frame) → SameFrame f g → sets_of f ≡ sets_of g
sets_same f g s = ap (λ (l : List Saved). map kept_of (reverse l)) (s.sets ∙ ap (λ (n : ℕ). take n g.saved) s.as_many)

opens_same : (f g : Frame) → SameFrame f g → open_of f ≡ open_of g
opens_same f g s = ap₂ (λ (q p : ℕ). record { production = q; place = p }) s.production s.place

-- attributes, echo and count of what a state stands for
env_is : (z : State) → (meaning_of z).store.env ≡ record { values = z.values; echo = z.echo; out = []; count = z.count }
unfolding meaning_of
env_is z = refl

-- where white space is an event an element is open
open_there : (a : Sheet) (z : State) → passes_at (grammar a) (meaning_of z).control ≡ false → 0 < z.depth
open_there a z p = by (meaning_of z).control refl
  where
    by : (c : Control) → (meaning_of z).control ≡ c → 0 < z.depth
    by before e = absurd (let q : true ≡ false = sym (ap (passes_at (grammar a)) e) ∙ p in let r : ◌≡◌ {A = ℕ} 0 1 = cc in omega arith)
    by after e = absurd (let q : true ≡ false = sym (ap (passes_at (grammar a)) e) ∙ p in let r : ◌≡◌ {A = ℕ} 0 1 = cc in omega arith)
    by (inside o os) e = inside_open z o os e

same_around : {o o' : Open} {os os' : List Open} → inside o os ≡ inside o' os' → os ≡ os'
same_around e = cc

same_tail : {k k' : List Kept} {ks ks' : List (List Kept)} → k ∷ ks ≡ k' ∷ ks' → ks ≡ ks'
same_tail e = cc

-- what the tried character tells
abbrev dry : List ℕ → Pen
dry lent = record { write = false; lent = lent; at = 0 }

module _ {s : List ℕ} {c₀ : ℕ} {z : State} {lent d : List ℕ} (r : SteppedSeen) (S : SteppedAs s (letter c₀) z (dry lent) r d) (number : r.number ≡ 0)
    (wide : r.at ≡ length (shown z.echo c₀)) (k : ℕ) (counts : r.state.count ≡ z.count + k) (same : SameState z r.state) where
  module _ (a : Sheet) (i : IsSheet s a) (h : Shaped z) (f : RunFits a (meaning_of z)) (p : passes_at (grammar a) (meaning_of z).control ≡ false) where
    unmoved : (y : Standing) → step a (meaning_of z) (letter c₀) ≡ took y → Took y z (dry lent) r d → Unmoved a c₀ k (meaning_of z) y
    unmoved y e A =
        let u = inside_at z h (open_there a z p) in
        let v = around_stays a c₀ (open_of (top_of z)) u.around (sets_of (top_of z)) u.kept_around (meaning_of z) y u.stands u.keeps e in
        let control_then : (meaning_of r.state).control ≡ y.control = ap (λ (m : Standing). m.control) A.means in
        let deep_then = inside_open r.state v.innermost_then u.around (control_then ∙ v.control) in
        let w = inside_at r.state A.shaped deep_then in
        let tops = same.top (open_there a z p) deep_then in
        let os_same : w.around ≡ u.around = same_around (sym w.stands ∙ control_then ∙ v.control) in
        let kept_then : (meaning_of r.state).store.kept ≡ y.store.kept = ap (λ (m : Standing). m.store.kept) A.means in
        let kept_same : w.kept_around ≡ u.kept_around = same_tail (sym w.keeps ∙ kept_then ∙ v.kept) in
        let env_then : (meaning_of r.state).store.env ≡ (silent y).store.env = ap (λ (m : Standing). m.store.env) A.means in
        record {
          stepped = e;
          control = sym control_then ∙ w.stands ∙ ap₂ inside (sym (opens_same (top_of z) (top_of r.state) tops)) os_same ∙ sym u.stands;
          kept = sym kept_then ∙ w.keeps ∙ ap₂ (λ (x : List Kept) (l : List (List Kept)). x ∷ l) (sym (sets_same (top_of z) (top_of r.state) tops)) kept_same ∙ sym u.keeps;
          values = sym (ap (λ (x : Env). x.values) env_then) ∙ ap (λ (x : Env). x.values) (env_is r.state) ∙ sym same.values ∙ sym (ap (λ (x : Env). x.values) (env_is z));
          echo = sym (ap (λ (x : Env). x.echo) env_then) ∙ ap (λ (x : Env). x.echo) (env_is r.state) ∙ sym same.echo ∙ sym (ap (λ (x : Env). x.echo) (env_is z));
          count = omega (arith, ap (λ (x : Env). x.count) env_then, ap (λ (x : Env). x.count) (env_is r.state), ap (λ (x : Env). x.count) (env_is z), counts);
          writes = omega (arith, A.written.next, wide, ap (λ (x : Env). length (shown x.echo c₀)) (env_is z));
        }

    by_answer : (x : Answer) → step a (meaning_of z) (letter c₀) ≡ x → StepAnswered x z (dry lent) r d → Steady a z.echo k (meaning_of z)
    by_answer (refused n) e A = absurd (omega (arith, (step_number a (meaning_of z) (letter c₀) n e).0, A, number))
    by_answer (took y) e A =
        subst (λ (b : Bool). Steady a b k (meaning_of z)) (ap (λ (x : Env). x.echo) (env_is z))
        (steady a c₀ k (meaning_of z) y (ap (λ (x : Env). x.out) (env_is z)) p (unmoved y e A))

    pub tells_steady : Steady a z.echo k (meaning_of z)
    tells_steady = by_answer (step a (meaning_of z) (letter c₀)) refl (S.right a i h f)

pub tried_char : Char 120
tried_char = inr (inr (inr (inl (omega arith))))

-- what a probe answers
pub not_probed : (s : List ℕ) (z : State) → ProbedAs s z None
not_probed s z = record { few = tt; right = tt }

pub probed : {s : List ℕ} {z : State} {lent d : List ℕ} (r : SteppedSeen) → SteppedAs s (letter 120) z (dry lent) r d → r.number ≡ 0 → (w : ℕ) → w ≡ length (shown z.echo 120) → r.at ≡ w →
    z.count ≤ r.state.count → SameState z r.state → ProbedAs s z (Some (r.state.count - z.count))
probed {s = s} {z = z} r S number w e g h same =
    record {
      few = omega (arith, S.count);
      right = λ a i k f p. tells_steady r S number (g ∙ e) (r.state.count - z.count) (omega (arith, h)) same a i k f p;
    }

-- the stretches as the call's answers
counting_own : (z : State) → counting (meaning_of z) z.count ≡ meaning_of z
unfolding meaning_of
counting_own z = refl

unwritten : (lent : List ℕ) (put : ℕ) → lent ≡ take put lent ++ ([] ++ drop (put + 0) lent)
unwritten lent put = sym (ap (λ (i : ℕ). take put lent ++ drop i lent) (add-zero put) ∙ take-append-drop put lent)

module _ (s part : List ℕ) (z : State) (lent : List ℕ) (from put : ℕ) (in_part : from ≤ length part) (in_room : put ≤ length lent) (few : z.count ≤ most_visits) where
  -- nothing was written, and the call goes on at another place
  pub silent_stretch : (to : ℕ) → from ≤ to → to ≤ length part →
      ((a : Sheet) → IsSheet s a → Shaped z → RunFits a (meaning_of z) → (more : Bool) (room : ℕ) (x : Result) → Runs a part more to room (meaning_of z) x → Runs a part more from room (meaning_of z) x) →
      OnwardAs s part z lent from put (record { at = to; put = put; count = z.count }) lent
  silent_stretch to j g rest =
      record {
        forward = j;
        within = g;
        room = in_room;
        long = refl;
        count = few;
        written = [];
        next = omega arith;
        left = unwritten lent put;
        rest = λ a i h f more x c. rest a i h f more (length lent - put) x (subst (λ (m : Standing). Runs a part more to (length lent - put) m x) (counting_own z) c);
      }

  pub stays : OnwardAs s part z lent from put (record { at = from; put = put; count = z.count }) lent
  stays = silent_stretch from (omega arith) in_part (λ a i h f more room x c. c)

  pub stays_after : (d : List ℕ) → d ≡ lent → OnwardAs s part z lent from put (record { at = from; put = put; count = z.count }) d
  stays_after d e = subst (λ (x : List ℕ). OnwardAs s part z lent from put (record { at = from; put = put; count = z.count }) x) (sym e) stays

  pub passes_blanks : PassesAs s z true → (to : ℕ) → BlanksAs part from to → OnwardAs s part z lent from put (record { at = to; put = put; count = z.count }) lent
  passes_blanks P to B =
      silent_stretch to B.forward B.within
      (λ a i h f more room x c.
      B.rest a (meaning_of z) (ap (λ (v : Env). v.out) (env_is z)) (omega (arith, ap (λ (v : Env). v.count) (env_is z), few)) (sym (P.is a i h f)) more room x c)

  pub takes_characters : PassesAs s z false → (k : ℕ) →
      ((a : Sheet) → IsSheet s a → Shaped z → RunFits a (meaning_of z) → passes_at (grammar a) (meaning_of z).control ≡ false → Steady a z.echo k (meaning_of z)) →
      (r : Stretch) (d : List ℕ) → StretchedAs part from z.echo k z.count lent put r d → OnwardAs s part z lent from put r d
  takes_characters P k told r d T =
      record {
        forward = T.forward;
        within = T.within;
        room = T.room;
        long = T.long;
        count = T.count;
        written = T.written;
        next = T.next;
        left = T.left;
        rest = λ a i h f more x c.
            subst (λ (m : Standing). Runs a part more from (length lent - put) m (after_writing T.written x)) (counting_own z)
            (T.rest a (meaning_of z) (told a i h f (sym (P.is a i h f))) more x c);
      }

  pub takes_after : PassesAs s z false → (k : ℕ) →
      ((a : Sheet) → IsSheet s a → Shaped z → RunFits a (meaning_of z) → passes_at (grammar a) (meaning_of z).control ≡ false → Steady a z.echo k (meaning_of z)) →
      (mid : List ℕ) → mid ≡ lent → (r : Stretch) (d : List ℕ) → StretchedAs part from z.echo k z.count mid put r d → OnwardAs s part z lent from put r d
  takes_after P k told mid e r d T = takes_characters P k told r d (subst (λ (x : List ℕ). StretchedAs part from z.echo k z.count x put r d) e T)
