-- An event as two acts in a row, the brackets' visits and then the tag's or the character's, and as a refusal: what each return of an event's
-- function needs but what the machine's `move` says of it.
-- Assumes nothing.
use Rattle.std.specs.Prelude.{Option as Taken, Some, None, IfSome}
use Rattle.std.proofs.lemmas.Option.{IfSome_then}
use mathlib.Core.Path.{◌≡◌, refl, sym, ap, ◌∙◌, subst}
use mathlib.Core.Bool.{false}
use mathlib.Core.List.{List, [], ◌∷◌, ◌++◌}
use mathlib.Core.Option.{Option, none, some}
use Prim.Native.Nat.{ℕ, ◌+◌, ◌≤◌}
use native.Mathlib.Omega.{arith}
use Rattle.sheet.specs.Sheet.{Sheet, IsSheet}
use Rattle.visits.specs.Written.{Pen}
use Rattle.runs.specs.Options.{bind}
use Rattle.runs.specs.Visits.{grammar}
use Rattle.runs.specs.Events.{Event}
use Rattle.runs.specs.Acts.{Act, Store, act, acts}
use Rattle.runs.specs.Machine.{Control, Configuration as Standing, Answer, refused, acted, turned, move, most, step}
use Rattle.runs.proofs.Line.{acts_append}
use Rattle.fit.specs.RunFits.{RunFits}
use Rattle.state.specs.Meaning.{meaning_of, Shaped}
use Rattle.state.specs.declared.State.{State}
use Rattle.acts.specs.Acted.{Done, Comes}
use Rattle.acts.specs.Seen.{ActedSeen}
use Rattle.steps.specs.Seen.{SteppedSeen}
use Rattle.steps.specs.Stepped.{event_visits, StepAnswered, SteppedAs, event_reach}
use Rattle.steps.specs.Parts.{answering}
use Rattle.steps.proofs.Joined.{on_pen, join, answered_as}

-- what is owed of an event
abbrev pub Owed : List ℕ → Event → State → Pen → SteppedSeen → List ℕ → Type 0
Owed s x z p r d = (a : Sheet) → IsSheet s a → Shaped z → RunFits a (meaning_of z) → StepAnswered (step a (meaning_of z) x) z p r d

-- refused, and the state as it was
abbrev pub refused_at : ℕ → State → Pen → SteppedSeen
refused_at n z p = record { number = n; at = p.at; state = z }

-- what was written before the refusal stays, but in a dry run
pub refusal_behind : {s : List ℕ} {x : Event} {z : State} {p : Pen} {r : SteppedSeen} {d : List ℕ} (n : ℕ) → r ≡ refused_at n z p → (p.write ≡ false → d ≡ p.lent) →
    ((a : Sheet) → IsSheet s a → Shaped z → RunFits a (meaning_of z) → step a (meaning_of z) x ≡ refused n) → SteppedAs s x z p r d
refusal_behind {s} {x} {z} {p} {r} {d} n e k f =
    record {
      reach = omega (arith, ap (λ (y : SteppedSeen). y.at) e);
      count = omega (arith, ap (λ (y : SteppedSeen). y.state.count) e);
      dry = k;
      right = λ a i h t. subst (λ (y : Answer). StepAnswered y z p r d) (sym (f a i h t)) (ap (λ (y : SteppedSeen). y.number) e);
    }

pub refusal : {s : List ℕ} {x : Event} {z : State} {p : Pen} {r : SteppedSeen} {d : List ℕ} (n : ℕ) → r ≡ refused_at n z p → d ≡ p.lent →
    ((a : Sheet) → IsSheet s a → Shaped z → RunFits a (meaning_of z) → step a (meaning_of z) x ≡ refused n) → SteppedAs s x z p r d
refusal n e k f = refusal_behind n e (λ w. k) f

-- how far acts went
pub record Went (bytes visits : ℕ) (z : State) (p : Pen) (r : Taken ActedSeen) (d : List ℕ) : Type 0 where
  pub reach : IfSome r (λ x. x.at ≤ p.at + bytes)
  pub count : IfSome r (λ x. x.state.count ≤ z.count + visits)
  pub dry : p.write ≡ false → d ≡ p.lent

pub went_as : {s : List ℕ} {x : Event} {z : State} {p : Pen} (e : Taken ActedSeen) {r : SteppedSeen} {d : List ℕ} (bytes visits : ℕ) → bytes ≤ event_reach → visits ≤ event_visits →
    Went bytes visits z p e d → r ≡ answering z p.at e → Owed s x z p (answering z p.at e) d → SteppedAs s x z p r d
went_as {s} {x} {z} {p} e {r} {d} bytes visits b v w q f =
    subst (λ (y : SteppedSeen). SteppedAs s x z p y d) (sym q) (record { reach = reaches e w.reach; count = counts e w.count; dry = w.dry; right = f })
  where
    reaches : (y : Taken ActedSeen) → IfSome y (λ k. k.at ≤ p.at + bytes) → (answering z p.at y).at ≤ p.at + event_reach
    reaches None k = omega arith
    reaches (Some y) k = omega (arith, b, k)

    counts : (y : Taken ActedSeen) → IfSome y (λ k. k.state.count ≤ z.count + visits) → (answering z p.at y).state.count ≤ z.count + event_visits
    counts None k = omega arith
    counts (Some y) k = omega (arith, v, k)

pub went_on : {z : State} {p : Pen} (f : ActedSeen) (e : Taken ActedSeen) {d d' : List ℕ} {b b' v v' : ℕ} → Went b v z p (Some f) d → Went b' v' f.state (on_pen p d f.at) e d' → Went (b + b') (v + v') z p e d'
went_on {z} {p} f e {d} {d'} w w' =
    record {
      reach = IfSome_then e w'.reach (λ x k. omega (arith, w.reach, k));
      count = IfSome_then e w'.count (λ x k. omega (arith, w.count, k));
      dry = λ k. w'.dry k ∙ w.dry k;
    }

-- acts that went on
pub done_is : (o : Option Store) (c : Control) (z : State) (p : Pen) (r : ActedSeen) (d : List ℕ) → Comes o c z p (Some r) d → (m : Store) × (o ≡ some m) × Done c m z p r d
done_is none c z p r d C = absurd C
done_is (some m) c z p r d C = (m, refl, C)

-- where the run stands
pub at_step : (a : Sheet) (m : Standing) (c : Control) → m.control ≡ c → (x : Event) → step a m x ≡ turned a m.store (move (grammar a) a.start_nonterminal most c x)
at_step a m c e x = ap (λ (k : Control). turned a m.store (move (grammar a) a.start_nonterminal most k x)) e

-- one act
pub only_act : (a : Sheet) (x : Act) (m : Store) → acts a (x ∷ []) m ≡ act a x m
only_act a x m = by (act a x m)
  where
    by : (o : Option Store) → bind o (λ m'. some m') ≡ o
    by none = refl
    by (some m') = refl

-- the brackets' visits and one more act, that the event x asks for
module _ (a : Sheet) (z : State) (bs : List Act) (y : Act) (c' : Control) (x : Event) (asks : step a (meaning_of z) x ≡ acted c' (acts a (bs ++ y ∷ []) (meaning_of z).store)) where
  -- one of the visits rejects
  pub rejected_first : acts a bs (meaning_of z).store ≡ none → step a (meaning_of z) x ≡ refused 25
  rejected_first e =
      let k : acts a (bs ++ y ∷ []) (meaning_of z).store ≡ none =
      acts_append a bs (y ∷ []) (meaning_of z).store
      ∙ ap (λ (o : Option Store). bind o (λ m. acts a (y ∷ []) m)) e in
      asks ∙ ap (acted c') k

  pub both_done : (p : Pen) (f : ActedSeen) (d : List ℕ) (c : Control) → Comes (acts a bs (meaning_of z).store) c z p (Some f) d → (e : Taken ActedSeen) (d' : List ℕ) →
      ((m : Store) → Done c m z p f d → Comes (act a y (meaning_of f.state).store) c' f.state (on_pen p d f.at) e d') →
      StepAnswered (step a (meaning_of z) x) z p (answering z p.at e) d'
  both_done p f d c C e d' then_comes =
      let D = done_is (acts a bs (meaning_of z).store) c z p f d C in
      subst (λ (u : Answer). StepAnswered u z p (answering z p.at e) d') (sym asks)
      (answered_as c' (acts a (bs ++ y ∷ []) (meaning_of z).store) z p e d' (join a bs y c' e d' D.0 D.1 D.2 (then_comes D.0 D.2)))
