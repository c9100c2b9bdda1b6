-- What one event asks for: the acts of one bracket string, and one act of its own.
-- Assumes nothing.
use mathlib.Core.Path.{◌≡◌, refl, sym, ap, subst}
use mathlib.Core.List.Memᴰ
use mathlib.Core.List.{List, [], ◌∷◌, ◌++◌, Memᴰ}
use mathlib.Core.Logic.{⊎_elim}
use mathlib.Core.Option.{Option, none, some}
use Prim.Native.Nat.{ℕ, ◌+◌, ◌≤◌}
use native.Mathlib.Omega.{arith}
use lib.ListN.{length}
use Rattle.expressions.specs.Words.{Bracket, opening, closing}
use Rattle.expressions.specs.Grammar.{content_of, tag, character, end}
use Rattle.expressions.specs.FaultList.{KeepsS}
use Rattle.sheet.specs.Sheet.{Sheet}
use Rattle.runs.specs.Lookup.{find}
use Rattle.runs.specs.Visits.{grammar}
use Rattle.runs.specs.Events.{Event, starts, ends, letter}
use Rattle.runs.specs.Acts.{Act, start_tag, end_tag, letter_read, bracket_act, bracket_acts, visits_in}
use Rattle.runs.specs.Machine.{Control, before, inside, after, go, root_by, most, Configuration, run, finished}
use Rattle.runs.proofs.Counts.{visits_append, acts_count}
use Rattle.runs.proofs.Moves.{Moves, stay, then, refuse_go, go_inj, moves_run}
use Rattle.runs.proofs.Sound.{started, was_read, ended}
use Rattle.few.specs.Once.{Once}
use Rattle.few.specs.Strings.{FewBrackets}
use Rattle.ceiling.specs.Visits.{FewNodes, for_production, ceiling, count_in, FewActs, EventVisits}
use Rattle.few.proofs.Found.{string_of, few_brackets}

bracket_visits : (q : ℕ) (α : List Bracket) → visits_in (bracket_acts q α) ≡ length α
bracket_visits q [] = refl
bracket_visits q (opening i ∷ α) = let h = bracket_visits q α in omega arith
bracket_visits q (closing i ∷ α) = let h = bracket_visits q α in omega arith

-- a bracket is told by its act
act_inj : (q : ℕ) (c d : Bracket) → bracket_act q c ≡ bracket_act q d → c ≡ d
act_inj q (opening i) (opening j) e = let h : i ≡ j = cc in ap opening h
act_inj q (opening i) (closing j) e = absurd (let z : ◌≡◌ {A = ℕ} 0 1 = cc in omega arith)
act_inj q (closing i) (opening j) e = absurd (let z : ◌≡◌ {A = ℕ} 0 1 = cc in omega arith)
act_inj q (closing i) (closing j) e = let h : i ≡ j = cc in ap closing h

-- the acts of a string and then one that is no bracket's: none twice
module _ (q : ℕ) (a : Act) (other : (c : Bracket) → bracket_act q c ≡ a → ⊥) where
  among : (c : Bracket) (α : List Bracket) → Memᴰ (bracket_act q c) (bracket_acts q α ++ a ∷ []) → Memᴰ c α
  among c [] m = ⊎_elim (λ e. absurd (other c e)) (λ k. absurd (Memᴰ.not-nil k)) (Memᴰ.cases_cons m)
  among c (d ∷ α) m = ⊎_elim (λ e. Memᴰ.head (act_inj q c d e)) (λ k. Memᴰ.tail (among c α k)) (Memᴰ.cases_cons m)

  once_acts : (α : List Bracket) → Once α → Once (bracket_acts q α ++ a ∷ [])
  once_acts [] h = ((λ m. Memᴰ.not-nil m), tt)
  once_acts (c ∷ α) h = ((λ m. h.0 (among c α m)), once_acts α h.1)

no_start : (q q' : ℕ) (c : Bracket) → bracket_act q c ≡ start_tag q' → ⊥
no_start q q' (opening i) e = let z : ◌≡◌ {A = ℕ} 0 1 = cc in omega arith
no_start q q' (closing i) e = let z : ◌≡◌ {A = ℕ} 0 1 = cc in omega arith

no_end : (q q' : ℕ) (c : Bracket) → bracket_act q c ≡ end_tag q' → ⊥
no_end q q' (opening i) e = let z : ◌≡◌ {A = ℕ} 0 1 = cc in omega arith
no_end q q' (closing i) e = let z : ◌≡◌ {A = ℕ} 0 1 = cc in omega arith

no_letter : (q x : ℕ) (c : Bracket) → bracket_act q c ≡ letter_read x → ⊥
no_letter q x (opening i) e = let z : ◌≡◌ {A = ℕ} 0 1 = cc in omega arith
no_letter q x (closing i) e = let z : ◌≡◌ {A = ℕ} 0 1 = cc in omega arith

module _ (s : Sheet) (keeps : KeepsS (grammar s)) (nodes : FewNodes (grammar s)) where
  -- a string's acts and the event's own
  few_acts : (q : ℕ) (α : List Bracket) (a : Act) (x : Event) (bs : List Act) → ((c : Bracket) → bracket_act q c ≡ a → ⊥) → visits_in (a ∷ []) ≤ for_production x →
      bs ≡ bracket_acts q α ++ a ∷ [] → FewBrackets (content_of (grammar s) q) α → FewActs x bs
  few_acts q α a x bs other own e f =
      subst (FewActs x) (sym e) (record {
        once = once_acts q a other α f.once;
        few = omega (arith, visits_append (bracket_acts q α) (a ∷ []), bracket_visits q α, f.few, nodes q, own);
      })

  pub event_visits : EventVisits s
  event_visits before (starts none) bs c' e = refuse_go bs c' e
  event_visits before (starts (some t)) bs c' e = by (find (grammar s) s.start_nonterminal t) e
    where
      by : (f : Option ℕ) → root_by f ≡ go bs c' → FewActs (starts (some t)) bs
      by none e = refuse_go bs c' e
      by (some q) e = subst (FewActs (starts (some t))) (go_inj _ bs _ c' e).0 (record { once = ((λ m. Memᴰ.not-nil m), tt); few = omega arith })
  event_visits before (ends t) bs c' e = refuse_go bs c' e
  event_visits before (letter y) bs c' e = refuse_go bs c' e
  event_visits (inside o os) (starts none) bs c' e = refuse_go bs c' e
  event_visits (inside o os) (starts (some t)) bs c' e =
      let d = started (grammar s) most o os s.start_nonterminal t bs c' e in
      few_acts o.production d.by.string (start_tag d.production) (starts (some t)) bs (no_start o.production d.production) (omega arith) d.are_acts
      (few_brackets (grammar s) keeps o.production o.place (tag t) d.by.string (string_of d.by d.is_way))
  event_visits (inside o os) (ends t) bs c' e =
      let d = ended (grammar s) most o os s.start_nonterminal t bs c' e in
      few_acts o.production d.by (end_tag o.production) (ends t) bs (no_end o.production o.production) (omega arith) d.are_acts
      (few_brackets (grammar s) keeps o.production o.place end d.by d.is_way)
  event_visits (inside o os) (letter y) bs c' e =
      let d = was_read (grammar s) most o os s.start_nonterminal y bs c' e in
      few_acts o.production d.by.string (letter_read y) (letter y) bs (no_letter o.production y) (omega arith) d.are_acts
      (few_brackets (grammar s) keeps o.production o.place character d.by.string (string_of d.by d.is_way))
  event_visits after x bs c' e = refuse_go bs c' e

  -- and so of events one after another
  moves_visits : {c c' : Control} {xs : List Event} {bs : List Act} → Moves (grammar s) s.start_nonterminal most c xs bs c' → visits_in bs ≤ ceiling xs
  moves_visits stay = omega arith
  moves_visits (then {c = c} {c' = c'} {cs = cs} x bs e m) = omega (arith, visits_append bs cs, (event_visits c x bs c' e).few, moves_visits m)

  pub run_visits : (z z' : Configuration) (xs : List Event) → run s z xs ≡ finished z' → count_in z' ≤ count_in z + ceiling xs
  run_visits z z' xs e =
      let t = moves_run s z.control z.store xs z' e in
      omega (arith, acts_count s t.row z.store z'.store t.done, moves_visits t.moved)
