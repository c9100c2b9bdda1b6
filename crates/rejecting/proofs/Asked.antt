-- Which acts an event asks for: the root's start tag, or the brackets of a way and then one act more. No event is refused with 25 but for its acts.
-- Assumes nothing.
use mathlib.Core.Path.{◌≡◌, refl, ap, ◌∙◌, subst}
use mathlib.Core.Bool.{Bool, true, false}
use mathlib.Core.List.{List, [], ◌∷◌, ◌++◌}
use mathlib.Core.Option.{Option, none, some}
use Prim.Native.Nat.{ℕ, suc}
use native.Mathlib.Omega.{arith}
use lib.Dec.{leb}
use lib.ListN.{length}
use Rattle.expressions.specs.Words.{Bracket}
use Rattle.expressions.specs.Grammar.{Production, tags_of, tag, character, content_of}
use Rattle.sheet.specs.Sheet.{Sheet}
use Rattle.runs.specs.Lookup.{tag_of, find}
use Rattle.runs.specs.Visits.{grammar}
use Rattle.runs.specs.Events.{Event, starts, ends, letter}
use Rattle.runs.specs.Acts.{Act, start_tag, end_tag, letter_read, bracket_acts, Store, acts}
use Rattle.runs.specs.Way.{Way, end_way, atom_way}
use Rattle.runs.specs.Machine.{Open, Control, before, inside, after, at_start, at_place_lem, Turn, refuse, go, opening_up, start_at, start_by, production_for, root_by, own_tag, same_tag, end_by, char_by, move, most, Configuration, refused, acted, turned, step}
use Rattle.rejecting.specs.First.{FirstRejects, EventRejects}
use Rattle.rejecting.proofs.Firsts.{first_none, none_first}

-- the acts that an event asks for where a run stands
pub data Asked (g : List Production) (n : ℕ) : Control → Event → List Act → Type 0 where
  of_root : (t q : ℕ) → find g n t ≡ some q → Asked g n before (starts (some t)) (start_tag q ∷ [])
  of_start : (o : Open) (os : List Open) (t q : ℕ) (w : Way) → atom_way (tags_of g) (content_of g o.production) o.place (tag t) ≡ some w → production_for g w.kind t ≡ some q →
      Asked g n (inside o os) (starts (some t)) (bracket_acts o.production w.string ++ start_tag q ∷ [])
  of_end : (o : Open) (os : List Open) (t : Option ℕ) (α : List Bracket) → end_way (content_of g o.production) o.place ≡ some α →
      Asked g n (inside o os) (ends t) (bracket_acts o.production α ++ end_tag o.production ∷ [])
  of_letter : (o : Open) (os : List Open) (c : ℕ) (w : Way) → atom_way (tags_of g) (content_of g o.production) o.place character ≡ some w →
      Asked g n (inside o os) (letter c) (bracket_acts o.production w.string ++ letter_read c ∷ [])

-- a turn with such acts, or a refusal, which is not 25
abbrev Turns : List Production → ℕ → Control → Event → Turn → Type 0
Turns g n c x (refuse k) = k ≡ 25 → ⊥
Turns g n c x (go bs to) = Asked g n c x bs

module _ (g : List Production) (n : ℕ) where
  root_turns : (t : ℕ) (q : Option ℕ) → find g n t ≡ q → Turns g n before (starts (some t)) (root_by q)
  root_turns t none e = λ k. omega arith
  root_turns t (some q) e = of_root t q e

  module _ (o : Open) (os : List Open) where
    opening_turns : (t q : ℕ) (w : Way) → atom_way (tags_of g) (content_of g o.production) o.place (tag t) ≡ some w → production_for g w.kind t ≡ some q → (b : Bool) →
        Turns g n (inside o os) (starts (some t)) (opening_up b (bracket_acts o.production w.string ++ start_tag q ∷ []) (inside (at_start q) (at_place_lem o w.place ∷ os)))
    opening_turns t q w e k false = λ h. omega arith
    opening_turns t q w e k true = of_start o os t q w e k

    at_turns : (t : ℕ) (w : Way) → atom_way (tags_of g) (content_of g o.production) o.place (tag t) ≡ some w → (q : Option ℕ) → production_for g w.kind t ≡ q →
        Turns g n (inside o os) (starts (some t)) (start_at most o os w q)
    at_turns t w e none k = λ h. omega arith
    at_turns t w e (some q) k = opening_turns t q w e k (leb (suc (suc (length os))) most)

    start_turns : (t : ℕ) (v : Option Way) → atom_way (tags_of g) (content_of g o.production) o.place (tag t) ≡ v → Turns g n (inside o os) (starts (some t)) (start_by g most o os t v)
    start_turns t none e = λ h. omega arith
    start_turns t (some w) e = at_turns t w e (production_for g w.kind t) refl

    end_turns : (t : Option ℕ) (b : Bool) (v : Option (List Bracket)) → end_way (content_of g o.production) o.place ≡ v → Turns g n (inside o os) (ends t) (own_tag b (end_by o os v))
    end_turns t false v e = λ h. omega arith
    end_turns t true none e = λ h. omega arith
    end_turns t true (some α) e = of_end o os t α e

    letter_turns : (c : ℕ) (v : Option Way) → atom_way (tags_of g) (content_of g o.production) o.place character ≡ v → Turns g n (inside o os) (letter c) (char_by o os c v)
    letter_turns c none e = λ h. omega arith
    letter_turns c (some w) e = of_letter o os c w e

  turns : (c : Control) (x : Event) → Turns g n c x (move g n most c x)
  turns before (starts none) = λ h. omega arith
  turns before (starts (some t)) = root_turns t (find g n t) refl
  turns before (ends t) = λ h. omega arith
  turns before (letter c) = λ h. omega arith
  turns (inside o os) (starts none) = λ h. omega arith
  turns (inside o os) (starts (some t)) = start_turns o os t (atom_way (tags_of g) (content_of g o.production) o.place (tag t)) refl
  turns (inside o os) (ends t) = end_turns o os t (same_tag t (tag_of g o.production)) (end_way (content_of g o.production) o.place) refl
  turns (inside o os) (letter c) = letter_turns o os c (atom_way (tags_of g) (content_of g o.production) o.place character) refl
  turns after x = λ h. omega arith

module _ (s : Sheet) (z : Configuration) (x : Event) where
  -- what an event whose acts reject asks for
  pub asked : {a : Act} (R : EventRejects s z x a) → Asked (grammar s) s.start_nonterminal z.control x R.row
  asked R = subst (Turns (grammar s) s.start_nonterminal z.control x) R.asks (turns (grammar s) s.start_nonterminal z.control x)

  -- 25 is given exactly where an act rejects
  pub rejected_25 : {a : Act} → EventRejects s z x a → step s z x ≡ refused 25
  rejected_25 R = ap (turned s z.store) R.asks ∙ ap (acted R.to) (first_none s R.first)

  pub from_25 : step s z x ≡ refused 25 → (a : Act) × EventRejects s z x a
  from_25 e = by (move (grammar s) s.start_nonterminal most z.control x) refl (turns (grammar s) s.start_nonterminal z.control x) e
    where
      by_acts : (bs : List Act) (c : Control) (o : Option Store) → acts s bs z.store ≡ o → acted c o ≡ refused 25 → (a : Act) × FirstRejects s bs z.store a
      by_acts bs c none k h = none_first s bs z.store k
      by_acts bs c (some m) k h = absurd (let y : ◌≡◌ {A = ℕ} 0 1 = cc in omega arith)

      by : (u : Turn) → move (grammar s) s.start_nonterminal most z.control x ≡ u → Turns (grammar s) s.start_nonterminal z.control x u → turned s z.store u ≡ refused 25 →
          (a : Act) × EventRejects s z x a
      by (refuse k) q t h = absurd (t (let y : k ≡ 25 = cc in y))
      by (go bs c) q t h = let F = by_acts bs c (acts s bs z.store) refl h in (F.0, record { row = bs; to = c; asks = q; first = F.1 })
