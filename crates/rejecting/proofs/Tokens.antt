-- A token that a visit rejects: its one event, or of an empty tag's two the second, which sets out from a state that holds no output.
-- Assumes nothing.
use mathlib.Core.Path.{◌≡◌, sym, ap, ◌∙◌, subst}
use mathlib.Core.Bool.{Bool, true, false}
use mathlib.Core.List.{List, [], ◌∷◌}
use mathlib.Core.Option.{Option, none, some}
use Prim.Native.Nat.{ℕ, ◌-◌}
use native.Mathlib.Omega.{arith}
use lib.Dec.{leb}
use lib.ListN.{length, take, drop}
use Rattle.std.specs.Prelude.{Option as Answered, Some, None}
use Rattle.tokens.specs.declared.Event.{Event as Read}
use Rattle.tokens.specs.declared.Event.TheVariants.{Start, End, Empty, Character}
use Rattle.trees.specs.declared.Symbol.TheVariants.{Tag as ForTag, Character as ForCharacter, End as ForEnd}
use Rattle.sheet.specs.Sheet.{Sheet, IsSheet}
use Rattle.sheet.proofs.SheetLaws.{one_sheet}
use Rattle.visits.specs.Written.{Pen}
use Rattle.runs.specs.Visits.{most_visits}
use Rattle.runs.specs.Events.{Event, starts, ends, letter}
use Rattle.runs.specs.Acts.{Act}
use Rattle.runs.specs.Machine.{Control, Configuration as Standing, Answer, took, refused, step, finished, onward, answered}
use Rattle.calls.specs.Limits.{silent, output_of, limited, within, one_token}
use Rattle.calls.specs.Names.{tag_named, token_of, character_token}
use Rattle.calls.proofs.Steps.{out_of, behind_silent}
use Rattle.fit.specs.RunFits.{RunFits}
use Rattle.lookups.specs.Found.{TagFound}
use Rattle.state.specs.Meaning.{meaning_of, Shaped}
use Rattle.state.specs.declared.State.{State}
use Rattle.runs.specs.Spells.{step_token}
use Rattle.steps.specs.Seen.{SteppedSeen}
use Rattle.steps.specs.Stepped.{StepAnswered, tag_in, SteppedAs}
use Rattle.steps.specs.Taken.{TakingIs, TakenAs}
use Rattle.steps.specs.Parts.{RunReady}
use Rattle.steps.proofs.Tokens.{tag_there, start_token, fits_on}
use Rattle.rejecting.specs.First.{EventRejects, EventsReject, in_first, in_later, TokenRejects}
use Rattle.rejecting.specs.Named.{act_of}
use Rattle.rejecting.specs.Told.{for_tag, for_end, for_character, EventTold, StartTold, TokenTold, AnswersFor, names, nobody}
use Rattle.rejecting.specs.declared.Rejecter.{Rejecter}
use Rattle.rejecting.specs.declared.Rejecter.TheVariants.{Nobody}
use Rattle.rejecting.proofs.Firsts.{first_silent}
use Rattle.rejecting.proofs.Asked.{Asked, asked, rejected_25}
use Rattle.rejecting.proofs.Theorems.{events_25, rejects_exactly}

-- one event
alone : {a : Sheet} {z : Standing} {x : Event} {b : Act} → EventsReject a z (x ∷ []) b → EventRejects a z x b
alone (in_first R) = R
alone {a} (in_later z' e E) = absurd (let k : took z' ≡ refused 25 = events_25 a E in let y : ◌≡◌ {A = ℕ} 0 1 = cc in omega arith)

-- the start of a tag as it was looked up: only of one of the sheet's is anything asked
nothing_asked : {g : List _} {n : ℕ} {c : Control} {row : List Act} → Asked g n c (starts none) row → ⊥
nothing_asked A = elim A [ ]

module _ {s : List ℕ} {z : State} {r : Rejecter} where
  pub some_told : {t : ℕ} → EventTold s (ForTag t) z r → StartTold s (Some t) z r
  some_told {t} E = record { right = λ a i h f b R. E.right a i h f (starts (some t)) for_tag b R }

  pub none_told : StartTold s None z r
  none_told = record { right = λ a i h f b R. absurd (nothing_asked (asked a (meaning_of z) (starts none) R)) }

-- the token e of a part is one event
module _ {s : List ℕ} (part : List ℕ) {z : State} {r : Rejecter} where
  module _ (from len : ℕ) {name : List ℕ} (named : name ≡ take len (drop from part)) {t : Answered ℕ} (T : TagFound s name t) (E : StartTold s t z r) where
    start_named : (a : Sheet) → IsSheet s a → Shaped z → RunFits a (meaning_of z) → (b : Act) → EventRejects a (meaning_of z) (starts (tag_named a.names (take len (drop from part)))) b → act_of r ≡ some b
    start_named a i h f b R =
        E.right a i h f b (subst (λ (o : Option ℕ). EventRejects a (meaning_of z) (starts o) b) (sym (tag_there i part from len named T)) R)

    pub start_told : TokenTold s part (Start from len) z r
    start_told = record { right = λ a i h f b X. start_named a i h f b (alone X.rejects) }

  pub end_told : {from len : ℕ} → EventTold s ForEnd z r → TokenTold s part (End from len) z r
  end_told {from} {len} E = record { right = λ a i h f b X. E.right a i h f (ends (tag_named a.names (take len (drop from part)))) for_end b (alone X.rejects) }

  pub text_told : {c : ℕ} {l : Bool} → EventTold s ForCharacter z r → TokenTold s part (Character c l) z r
  text_told {c} {l} E = record { right = λ a i h f b X. E.right a i h f (letter c) for_character b (alone (by a l b X)) }
    where
      by : (a : Sheet) (l : Bool) (b : Act) → TokenRejects a (meaning_of z) (character_token l c) b → EventsReject a (meaning_of z) (letter c ∷ []) b
      by a true b X = X.rejects
      by a false b X = X.rejects

  -- a token as it was matched
  pub as_told : {e e' : Read} → e ≡ e' → TokenTold s part e' z r → TokenTold s part e z r
  as_told q T = subst (λ (y : Read). TokenTold s part y z r) (sym q) T

-- an event from a state without its output
silent_event : (a : Sheet) (m : Standing) (x : Event) {b : Act} → EventRejects a m x b → EventRejects a (silent m) x b
silent_event a m x R =
    record { row = R.row; to = R.to; asks = R.asks; first = first_silent a (out_of m) (silent m).store m.store (ap (λ (y : Standing). y.store) (behind_silent [] m)) R.first }

-- an empty tag's two events
module _ {s : List ℕ} (part : List ℕ) {z : State} {p : Pen} {u : SteppedSeen} {mid : List ℕ} (from len : ℕ) {name : List ℕ} (named : name ≡ take len (drop from part)) {t : Answered ℕ} (T : TagFound s name t)
    (S : SteppedAs s (starts (tag_in t)) z p u mid) where
  began : (a : Sheet) → IsSheet s a → Shaped z → RunFits a (meaning_of z) → (y : Answer) → step a (meaning_of z) (starts (tag_named a.names (take len (drop from part)))) ≡ y → StepAnswered y z p u mid
  began a i h f y e = by y (subst (λ (k : Answer). StepAnswered (answered (onward (meaning_of z) (starts (tag_named a.names (take len (drop from part))) ∷ []) k (λ m. finished m))) z p u mid) e ((start_token {part = part} {from = from} {len = len} named T S).right a i h f))
    where
      by : (y : Answer) → StepAnswered (answered (onward (meaning_of z) (starts (tag_named a.names (take len (drop from part))) ∷ []) y (λ m. finished m))) z p u mid → StepAnswered y z p u mid
      by (took m) A = A
      by (refused n) A = A

  module _ {r : Rejecter} where
    pub empty_first : (u.number ≡ 0 → ⊥) → StartTold s t z r → TokenTold s part (Empty from len) z r
    empty_first n E = record { right = λ a i h f b X. by a i h f b X.rejects }
      where
        by : (a : Sheet) → IsSheet s a → Shaped z → RunFits a (meaning_of z) → (b : Act) →
            EventsReject a (meaning_of z) (starts (tag_named a.names (take len (drop from part))) ∷ ends (tag_named a.names (take len (drop from part))) ∷ []) b → act_of r ≡ some b
        by a i h f b (in_first R) = start_named part from len named T E a i h f b R
        by a i h f b (in_later m e K) = absurd (n (began a i h f (took m) e).number)

    pub empty_second : u.number ≡ 0 → EventTold s ForEnd u.state r → TokenTold s part (Empty from len) z r
    empty_second n E = record { right = λ a i h f b X. by a i h f b X.rejects }
      where
        by : (a : Sheet) → IsSheet s a → Shaped z → RunFits a (meaning_of z) → (b : Act) →
            EventsReject a (meaning_of z) (starts (tag_named a.names (take len (drop from part))) ∷ ends (tag_named a.names (take len (drop from part))) ∷ []) b → act_of r ≡ some b
        by a i h f b (in_first R) = absurd (omega (arith, n, began a i h f (refused 25) (rejected_25 a (meaning_of z) (starts (tag_named a.names (take len (drop from part)))) R)))
        by a i h f b (in_later m e K) =
            let o = tag_named a.names (take len (drop from part)) in
            let G = fits_on S a i h f tt n in
            E.right a i G.0 G.1 (ends o) for_end b
            (subst (λ (y : Standing). EventRejects a y (ends o) b) (sym (began a i h f (took m) e).means) (silent_event a m (ends o) (alone K)))

-- with the number that the token was answered with
module _ {s part : List ℕ} {e : Read} {z : State} {lent : List ℕ} {at : ℕ} {r : SteppedSeen} {d : List ℕ} (y : RunReady s z) (K : TakenAs s part e z lent at r d) where
  took_as : (a : Sheet) → IsSheet s a → TakingIs (one_token a (meaning_of z) (length lent - at) (token_of a part e)) z lent at r d
  took_as a i = K.right a i y.shaped (subst (λ (x : Sheet). RunFits x (meaning_of z)) (one_sheet y.is_sheet i) y.fits)

  pub not_rejected : {q : Rejecter} → (r.number ≡ 25 → ⊥) → q ≡ Nobody → AnswersFor s part e z q
  not_rejected n k = nobody (λ a i b X. n (by a i ((rejects_exactly a (meaning_of z) (token_of a part e)).1 (b, X)))) k
    where
      by : (a : Sheet) → IsSheet s a → step_token a (meaning_of z) (token_of a part e) ≡ refused 25 → r.number ≡ 25
      by a i h = (subst (λ (x : Answer). TakingIs (within (length lent - at) x) z lent at r d) h (took_as a i)).number

  pub is_rejected : {q : Rejecter} → r.number ≡ 25 → TokenTold s part e z q → AnswersFor s part e z q
  is_rejected n T =
      let a = y.sheet in
      let B = (rejects_exactly a (meaning_of z) (token_of a part e)).0 (by (step_token a (meaning_of z) (token_of a part e)) (took_as a y.is_sheet)) in
      names a y.is_sheet B.0 B.1 (T.right a y.is_sheet y.shaped y.fits B.0 B.1)
    where
      by_tests : (m : Standing) (c f : Bool) → TakingIs (limited m c f) z lent at r d → ◌≡◌ {A = Answer} (took m) (refused 25)
      by_tests m false f X = absurd (omega (arith, X.number, n))
      by_tests m true false X = absurd (omega (arith, X.number, n))
      by_tests m true true X = absurd (omega (arith, X.number, n))

      by : (x : Answer) → TakingIs (within (length lent - at) x) z lent at r d → x ≡ refused 25
      by (took m) X = by_tests m (leb m.store.env.count most_visits) (leb (length (output_of m)) (length lent - at)) X
      by (refused k) X = ap refused (sym X.number ∙ n)
