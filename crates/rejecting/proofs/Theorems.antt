-- Number 25 is given exactly where an act rejects the token (`rejects_exactly`), there is no other act (`one_act`), and any two answers are equal (`one_rejecter`).
-- Assumes nothing.
use mathlib.Core.Path.{◌≡◌, refl, sym, ap, ◌∙◌, subst}
use mathlib.Core.Bool.{Bool, true, false, ◌&&◌}
use mathlib.Core.List.{List, [], ◌∷◌}
use mathlib.Core.Option.{Option, none, some}
use Prim.Native.Nat.{ℕ}
use native.Mathlib.Omega.{arith}
use Rattle.tokens.specs.declared.Event.{Event as Read}
use Rattle.tokens.specs.declared.Answer.TheVariants.{Token}
use Rattle.tokens.proofs.Streams.{read_one}
use Rattle.sheet.specs.Sheet.{Sheet}
use Rattle.sheet.proofs.SheetLaws.{one_sheet}
use Rattle.runs.specs.Visits.{grammar}
use Rattle.runs.specs.Events.{Event}
use Rattle.runs.specs.Acts.{Act, node_first, node_second, start_tag, end_tag, letter_read}
use Rattle.runs.specs.Machine.{go, Configuration, Answer, took, refused, step, onward, answered, run}
use Rattle.runs.specs.Spells.{events_of_token, is_blank, passes_at, unless_blank, step_token}
use Rattle.calls.specs.Names.{token_of}
use Rattle.state.specs.Meaning.{meaning_of}
use Rattle.state.specs.declared.State.{State}
use Rattle.rejecting.specs.First.{FirstRejects, EventRejects, EventsReject, in_first, in_later, TokenRejects}
use Rattle.rejecting.specs.Named.{act_of, Rejects, by_act, by_nobody}
use Rattle.rejecting.specs.Promises.{RejectsExactly, OneAct, OneRejecter}
use Rattle.rejecting.specs.declared.Rejecter.{Rejecter}
use Rattle.rejecting.specs.declared.Rejecter.TheVariants.{Node, Element, Nobody}
use Rattle.rejecting.proofs.Firsts.{one_first}
use Rattle.rejecting.proofs.Asked.{rejected_25, from_25}

module _ (s : Sheet) where
  pub events_25 : {z : Configuration} {xs : List Event} {a : Act} → EventsReject s z xs a → answered (run s z xs) ≡ refused 25
  events_25 (in_first {z} {x} {xs} R) = ap (λ (y : Answer). answered (onward z (x ∷ xs) y (λ z'. run s z' xs))) (rejected_25 s z x R)
  events_25 (in_later {z} {x} {xs} z' e E) = ap (λ (y : Answer). answered (onward z (x ∷ xs) y (λ z''. run s z'' xs))) e ∙ events_25 E

  from_events : (z : Configuration) (xs : List Event) → answered (run s z xs) ≡ refused 25 → (a : Act) × EventsReject s z xs a
  from_events z [] e = absurd (let y : ◌≡◌ {A = ℕ} 0 1 = cc in omega arith)
  from_events z (x ∷ xs) e = by (λ z' k. from_events z' xs k) (step s z x) refl e
    where
      by : ((z' : Configuration) → answered (run s z' xs) ≡ refused 25 → (a : Act) × EventsReject s z' xs a) → (y : Answer) → step s z x ≡ y →
          answered (onward z (x ∷ xs) y (λ z'. run s z' xs)) ≡ refused 25 → (a : Act) × EventsReject s z (x ∷ xs) a
      by f (took z') q k = let E = f z' k in (E.0, in_later z' q E.1)
      by f (refused n) q k = let R = from_25 s z x (q ∙ k) in (R.0, in_first R.1)

  one_event : {z : Configuration} {x : Event} {a b : Act} → EventRejects s z x a → EventRejects s z x b → a ≡ b
  one_event {z} {b = b} R Q =
      let e : go R.row R.to ≡ go Q.row Q.to = sym R.asks ∙ Q.asks in
      let q : Q.row ≡ R.row = cc in
      one_first s R.first (subst (λ (l : List Act). FirstRejects s l z.store b) q Q.first)

  not_both : {z : Configuration} {x : Event} {a : Act} (z' : Configuration) → EventRejects s z x a → step s z x ≡ took z' → ⊥
  not_both {z} {x} z' R e = let k : refused 25 ≡ took z' = sym (rejected_25 s z x R) ∙ e in let y : ◌≡◌ {A = ℕ} 0 1 = cc in omega arith

  one_of_lem : {z : Configuration} {xs : List Event} {a b : Act} → EventsReject s z xs a → EventsReject s z xs b → a ≡ b
  one_of_lem (in_first R) (in_first Q) = one_event R Q
  one_of_lem (in_first R) (in_later z' e E) = absurd (not_both z' R e)
  one_of_lem (in_later z' e E) (in_first Q) = absurd (not_both z' Q e)
  one_of_lem {b = b} (in_later {xs = xs} z' e E) (in_later z'' k F) =
      let q : took z'' ≡ took z' = sym k ∙ e in
      let w : z'' ≡ z' = cc in
      one_of_lem E (subst (λ (z : Configuration). EventsReject s z xs b) w F)

pub rejects_exactly : RejectsExactly
rejects_exactly s z k = ((λ e. by (is_blank k && passes_at (grammar s) z.control) refl e), (λ T. there T.0 T.1))
  where
    by : (b : Bool) → is_blank k && passes_at (grammar s) z.control ≡ b → unless_blank b z (answered (run s z (events_of_token k))) ≡ refused 25 → (a : Act) × TokenRejects s z k a
    by true q e = absurd (let y : ◌≡◌ {A = ℕ} 0 1 = cc in omega arith)
    by false q e = let E = from_events s z (events_of_token k) e in (E.0, record { is_read = q; rejects = E.1 })

    there : (a : Act) → TokenRejects s z k a → step_token s z k ≡ refused 25
    there a T = ap (λ (b : Bool). unless_blank b z (answered (run s z (events_of_token k)))) T.is_read ∙ events_25 s T.rejects

pub one_act : OneAct
one_act s z k a b A B = one_of_lem s A.rejects B.rejects

-- the act says which answer it was
abbrev named : Option Act → Rejecter
named none = Nobody
named (some (node_first q i)) = Node q i false
named (some (node_second q i)) = Node q i true
named (some (start_tag q)) = Element q false
named (some (end_tag q)) = Element q true
named (some (letter_read c)) = Nobody

named_back : (r : Rejecter) → named (act_of r) ≡ r
named_back (Node q i false) = refl
named_back (Node q i true) = refl
named_back (Element q false) = refl
named_back (Element q true) = refl
named_back Nobody = refl

-- one act rejects the front of a part
one_rejects : {s : List ℕ} {z : State} {part : List ℕ} {a b : Act} → Rejects s z part a → Rejects s z part b → a ≡ b
one_rejects {s} {z} {part} {a} {b} A B =
    let w = read_one false part 0 (Token B.event B.next) (Token A.event A.next) B.read A.read in
    let e : B.event ≡ A.event = cc in
    let T : TokenRejects A.sheet (meaning_of z) (token_of A.sheet part B.event) b =
    subst (λ (x : Sheet). TokenRejects x (meaning_of z) (token_of x part B.event) b) (one_sheet B.is_sheet A.is_sheet) B.rejects in
    one_act A.sheet (meaning_of z) (token_of A.sheet part A.event) a b A.rejects
    (subst (λ (x : Read). TokenRejects A.sheet (meaning_of z) (token_of A.sheet part x) b) e T)

pub one_rejecter : OneRejecter
one_rejecter s z part r r' (by_act a A e) (by_act b B k) = sym (named_back r) ∙ ap named (e ∙ ap some (one_rejects A B) ∙ sym k) ∙ named_back r'
one_rejecter s z part r r' (by_act a A e) (by_nobody f k) = absurd (f a A)
one_rejecter s z part r r' (by_nobody f k) (by_act b B e) = absurd (f b B)
one_rejecter s z part r r' (by_nobody f e) (by_nobody g k) = e ∙ sym k
