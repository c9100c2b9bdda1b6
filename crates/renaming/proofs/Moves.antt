-- One event, and one token, under two numberings of the tags: the same is answered. Assumes nothing.
use mathlib.Core.Path.{◌≡◌, refl, sym, ◌∙◌, ap, ap₂, subst}
use mathlib.Core.Bool.{Bool, true, false, ◌&&◌}
use mathlib.Core.List.{List, [], ◌∷◌, ◌++◌}
use mathlib.Core.Option.{Option, none, some}
use Prim.Native.Nat.{ℕ, suc, ◌<◌}
use native.Mathlib.Omega.{arith}
use lib.Dec.{leb}
use lib.ListN.{length, take, drop}
use Rattle.expressions.specs.Expr.{Atom, nonterminal, anychar, Content}
use Rattle.expressions.specs.Words.{Bracket, opening, closing}
use Rattle.expressions.specs.Grammar.{Production, content_of, tags_of, tag, character, end}
use Rattle.tokens.specs.declared.Event.{Event as Read}
use Rattle.tokens.specs.declared.Event.TheVariants.{Start, End, Empty, Character}
use Rattle.sheet.specs.Sheet.{Sheet, grammar_of}
use Rattle.runs.specs.Options.{bind}
use Rattle.runs.specs.Lookup.{tag_of, find}
use Rattle.runs.specs.Visits.{grammar}
use Rattle.runs.specs.Events.{Event, starts, ends, letter}
use Rattle.runs.specs.Acts.{Act, start_tag, end_tag, letter_read, bracket_acts, Store, acts}
use Rattle.runs.specs.Way.{Way, end_way, atom_way}
use Rattle.runs.specs.Machine.{Open, Control, before, inside, after, Turn, refuse, go, at_place_lem, at_start, most, opening_up, start_at, production_for, start_by, root_by, outer, end_by, same_tag, own_tag, char_by, move, Configuration, Answer, took, refused, acted, turned, step, Outcome, finished, stopped, onward, run, answered}
use Rattle.runs.specs.Spells.{Token, start_token, end_token, empty_token, literal, reference, events_of_token, is_blank, passes_at, unless_blank, step_token}
use Rattle.calls.specs.Names.{tag_named, character_token, token_of}
use Rattle.calls.specs.Limits.{Taking, taken, refuses, no_room, silent, limited, within, one_token}
use Rattle.naming.specs.ByName.{SameByName}
use Rattle.renaming.proofs.Programs.{AllThere, acts_same}
use Rattle.renaming.proofs.Tags.{NamesDiffer, Alike, TagsThere, names_alike, find_by, find_some, find_none, find_alike, IsThere, find_there, next_for, can_alike, content_alike, own_alike}
use Rattle.renaming.proofs.Ways.{way_same, way_never, can_character}

-- open elements whose productions are there
abbrev AllOpen : ℕ → List Open → Type 0
AllOpen n [] = Unit {0}
AllOpen n (o ∷ os) = (o.production < n) × AllOpen n os

abbrev pub ControlThere : ℕ → Control → Type 0
ControlThere n before = Unit {0}
ControlThere n (inside o os) = (o.production < n) × AllOpen n os
ControlThere n after = Unit {0}

abbrev TurnThere : ℕ → Turn → Type 0
TurnThere n (refuse k) = Unit {0}
TurnThere n (go bs c) = AllThere n bs × ControlThere n c

there_append : (n : ℕ) (xs ys : List Act) → AllThere n xs → AllThere n ys → AllThere n (xs ++ ys)
there_append n [] ys h k = k
there_append n (x ∷ xs) ys h k = (h.0, there_append n xs ys h.1 k)

brackets_there : (n q : ℕ) (α : List Bracket) → AllThere n (bracket_acts q α)
brackets_there n q [] = tt
brackets_there n q (opening i ∷ α) = (tt, brackets_there n q α)
brackets_there n q (closing i ∷ α) = (tt, brackets_there n q α)

-- a start tag, by its name
abbrev production_by : List Production → Atom → Option ℕ → Option ℕ
production_by g (nonterminal m) x = find_by g m x
production_by g anychar x = none

abbrev begun : List Production → ℕ → Open → List Open → Option ℕ → Option Way → Turn
begun g lim o os x none = refuse 23
begun g lim o os x (some w) = start_at lim o os w (production_by g w.kind x)

production_some : (g : List Production) (k : Atom) (t : ℕ) → production_for g k t ≡ production_by g k (some t)
production_some g (nonterminal m) t = sym (find_some g m t)
production_some g anychar t = refl

start_some : (g : List Production) (lim : ℕ) (o : Open) (os : List Open) (t : ℕ) (w : Option Way) → start_by g lim o os t w ≡ begun g lim o os (some t) w
start_some g lim o os t none = refl
start_some g lim o os t (some w) = ap (start_at lim o os w) (production_some g w.kind t)

starts_by : (g : List Production) (n lim : ℕ) (o : Open) (os : List Open) (x : Option ℕ)
    → move g n lim (inside o os) (starts x) ≡ begun g lim o os x (atom_way (tags_of g) (content_of g o.production) o.place (next_for x))
starts_by g n lim o os none = sym (ap (begun g lim o os none) (way_never (tags_of g) (content_of g o.production) o.place))
starts_by g n lim o os (some t) = start_some g lim o os t (atom_way (tags_of g) (content_of g o.production) o.place (tag t))

root_of : (g : List Production) (n lim : ℕ) (x : Option ℕ) → move g n lim before (starts x) ≡ root_by (find_by g n x)
root_of g n lim none = sym (ap root_by (find_none g n))
root_of g n lim (some t) = sym (ap root_by (find_some g n t))

production_alike : (x y : Option ℕ) (g h : List Production) → Alike x y g h → (k : Atom) → production_by g k x ≡ production_by h k y
production_alike x y g h a (nonterminal m) = find_alike x y g h a m
production_alike x y g h a anychar = refl

begun_alike : (x y : Option ℕ) (g h : List Production) → Alike x y g h → (lim : ℕ) (o : Open) (os : List Open) (w : Option Way) → begun g lim o os x w ≡ begun h lim o os y w
begun_alike x y g h a lim o os none = refl
begun_alike x y g h a lim o os (some w) = ap (start_at lim o os w) (production_alike x y g h a w.kind)

-- events that are alike
pub data EventAlike (g h : List Production) : Event → Event → Type 0 where
  both_start : (x y : Option ℕ) → Alike x y g h → EventAlike g h (starts x) (starts y)
  both_end : (x y : Option ℕ) → Alike x y g h → EventAlike g h (ends x) (ends y)
  both_letter : (x y : Option ℕ) → Alike x y g h → (c : ℕ) → EventAlike g h (letter c) (letter c)

move_same : (g h : List Production) (n lim : ℕ) (c : Control) (e f : Event) → EventAlike g h e f → ControlThere (length g) c → move g n lim c e ≡ move h n lim c f
move_same g h n lim before e f (both_start x y a) t = root_of g n lim x ∙ ap root_by (find_alike x y g h a n) ∙ sym (root_of h n lim y)
move_same g h n lim before e f (both_end x y a) t = refl
move_same g h n lim before e f (both_letter x y a c) t = refl
move_same g h n lim (inside o os) e f (both_start x y a) t =
    starts_by g n lim o os x ∙ ap (begun g lim o os x) (way_same (tags_of g) (tags_of h) (next_for x) (next_for y) (can_alike x y g h a) (content_of g o.production) o.place)
    ∙ ap (λ z. begun g lim o os x (atom_way (tags_of h) z o.place (next_for y))) (content_alike x y g h a o.production)
    ∙ begun_alike x y g h a lim o os (atom_way (tags_of h) (content_of h o.production) o.place (next_for y)) ∙ sym (starts_by h n lim o os y)
move_same g h n lim (inside o os) e f (both_end x y a) t = rw (own_alike x y g h a o.production t.0, content_alike x y g h a o.production) refl
move_same g h n lim (inside o os) e f (both_letter x y a c) t =
    ap (char_by o os c) (way_same (tags_of g) (tags_of h) character character (can_character (tags_of g) (tags_of h)) (content_of g o.production) o.place
    ∙ ap (λ z. atom_way (tags_of h) z o.place character) (content_alike x y g h a o.production))
move_same g h n lim after e f a t = refl

-- where a turn leads is there
start_there : (m lim : ℕ) (o : Open) (os : List Open) (w : Way) (q : Option ℕ) → IsThere m q → o.production < m → AllOpen m os → TurnThere m (start_at lim o os w q)
start_there m lim o os w none i h k = tt
start_there m lim o os w (some q) i h k = on (leb (suc (suc (length os))) lim)
  where
    on : (b : Bool) → TurnThere m (opening_up b (bracket_acts o.production w.string ++ start_tag q ∷ []) (inside (at_start q) (at_place_lem o w.place ∷ os)))
    on true = (there_append m (bracket_acts o.production w.string) (start_tag q ∷ []) (brackets_there m o.production w.string) (i, tt), (i, (h, k)))
    on false = tt

begun_there : (g : List Production) (lim : ℕ) (o : Open) (os : List Open) (x : Option ℕ) (w : Option Way) → o.production < length g → AllOpen (length g) os → TurnThere (length g) (begun g lim o os x w)
begun_there g lim o os x none h k = tt
begun_there g lim o os x (some w) h k = start_there (length g) lim o os w (production_by g w.kind x) (on w.kind) h k
  where
    on : (a : Atom) → IsThere (length g) (production_by g a x)
    on (nonterminal m) = find_there g m x
    on anychar = tt

end_there : (m : ℕ) (o : Open) (os : List Open) (α : Option (List Bracket)) (b : Bool) → o.production < m → AllOpen m os → TurnThere m (own_tag b (end_by o os α))
end_there m o os α false h k = tt
end_there m o os none true h k = tt
end_there m o os (some α) true h k = (there_append m (bracket_acts o.production α) (end_tag o.production ∷ []) (brackets_there m o.production α) (h, tt), around os k)
  where
    around : (os : List Open) → AllOpen m os → ControlThere m (outer os)
    around [] k = tt
    around (o ∷ os) k = k

char_there : (m : ℕ) (o : Open) (os : List Open) (c : ℕ) (w : Option Way) → o.production < m → AllOpen m os → TurnThere m (char_by o os c w)
char_there m o os c none h k = tt
char_there m o os c (some w) h k = (there_append m (bracket_acts o.production w.string) (letter_read c ∷ []) (brackets_there m o.production w.string) (tt, tt), (h, k))

root_there : (m : ℕ) (q : Option ℕ) → IsThere m q → TurnThere m (root_by q)
root_there m none h = tt
root_there m (some q) h = ((h, tt), (h, tt))

move_there : (g : List Production) (n lim : ℕ) (c : Control) (e : Event) → ControlThere (length g) c → TurnThere (length g) (move g n lim c e)
move_there g n lim before (starts x) t = subst (TurnThere (length g)) (sym (root_of g n lim x)) (root_there (length g) (find_by g n x) (find_there g n x))
move_there g n lim before (ends x) t = tt
move_there g n lim before (letter c) t = tt
move_there g n lim (inside o os) (starts x) t =
    subst (TurnThere (length g)) (sym (starts_by g n lim o os x)) (begun_there g lim o os x (atom_way (tags_of g) (content_of g o.production) o.place (next_for x)) t.0 t.1)
move_there g n lim (inside o os) (ends x) t = end_there (length g) o os (end_way (content_of g o.production) o.place) (same_tag x (tag_of g o.production)) t.0 t.1
move_there g n lim (inside o os) (letter c) t = char_there (length g) o os c (atom_way (tags_of g) (content_of g o.production) o.place character) t.0 t.1
move_there g n lim after e t = tt

abbrev AnswerThere : ℕ → Answer → Type 0
AnswerThere n (took z) = ControlThere n z.control
AnswerThere n (refused k) = Unit {0}

turned_there : (n : ℕ) (a : Sheet) (m : Store) (t : Turn) → TurnThere n t → AnswerThere n (turned a m t)
turned_there n a m (refuse k) h = tt
turned_there n a m (go bs c) h = on (acts a bs m)
  where
    on : (o : Option Store) → AnswerThere n (acted c o)
    on none = tt
    on (some x) = h.1

pub grammar_long : (xs : List Rattle.sheet.specs.Sheet.Rule) → length (grammar_of xs) ≡ length xs
grammar_long [] = refl
grammar_long (x ∷ xs) = ap suc (grammar_long xs)

module _ (a b : Sheet) (s : SameByName a b) where
  abbrev g : List Production
  g = grammar a

  abbrev h : List Production
  h = grammar b

  turned_same : (m : Store) (t : Turn) → TurnThere (length g) t → turned a m t ≡ turned b m t
  turned_same m (refuse k) i = refl
  turned_same m (go bs c) i = ap (acted c) (acts_same a b s bs m (subst (λ n. AllThere n bs) (grammar_long a.rules) i.0))

  step_same : (z : Configuration) (e f : Event) → EventAlike g h e f → ControlThere (length g) z.control → step a z e ≡ step b z f
  step_same z e f i t =
      let n = a.start_nonterminal in
      let k = s.second_is.start_is in
      let l = s.first_is.start_is in
      turned_same z.store (move g n most z.control e) (move_there g n most z.control e t) ∙ ap (turned b z.store) (move_same g h n most z.control e f i t ∙ ap (λ m. move h m most z.control f) (sym l ∙ k))

  step_there : (z : Configuration) (e : Event) → ControlThere (length g) z.control → AnswerThere (length g) (step a z e)
  step_there z e t = turned_there (length g) a z.store (move g a.start_nonterminal most z.control e) (move_there g a.start_nonterminal most z.control e t)

  -- an event or two, taken together
  abbrev EventsAlike : List Event → List Event → Type 0
  EventsAlike [] [] = Unit {0}
  EventsAlike [] (f ∷ fs) = ⊥
  EventsAlike (e ∷ es) [] = ⊥
  EventsAlike (e ∷ es) (f ∷ fs) = EventAlike g h e f × EventsAlike es fs

  onward_same : (z : Configuration) (es fs : List Event) (x y : Answer) (f k : Configuration → Outcome) → x ≡ y → AnswerThere (length g) x → ((z' : Configuration) → ControlThere (length g) z'.control → answered (f z') ≡ answered (k z'))
      → answered (onward z es x f) ≡ answered (onward z fs y k)
  onward_same z es fs (took u) (took w) f k e t i = let j : u ≡ w = cc in i u t ∙ ap (λ v. answered (k v)) j
  onward_same z es fs (took u) (refused n) f k e t i = absurd (let j : ◌≡◌ {A = ℕ} 0 1 = cc in omega arith)
  onward_same z es fs (refused n) (took w) f k e t i = absurd (let j : ◌≡◌ {A = ℕ} 0 1 = cc in omega arith)
  onward_same z es fs (refused n) (refused m) f k e t i = let j : n ≡ m = cc in ap refused j

  run_same : (es fs : List Event) (z : Configuration) → EventsAlike es fs → ControlThere (length g) z.control → answered (run a z es) ≡ answered (run b z fs)
  run_same [] [] z i t = refl
  run_same [] (f ∷ fs) z i t = absurd i
  run_same (e ∷ es) [] z i t = absurd i
  run_same (e ∷ es) (f ∷ fs) z i t =
      onward_same z (e ∷ es) (f ∷ fs) (step a z e) (step b z f) (λ u. run a u es) (λ u. run b u fs) (step_same z e f i.0 t) (step_there z e t) (λ u v. run_same es fs u i.1 v)

  onward_there : (z : Configuration) (es : List Event) (x : Answer) (f : Configuration → Outcome) → AnswerThere (length g) x → ((z' : Configuration) → ControlThere (length g) z'.control → AnswerThere (length g) (answered (f z')))
      → AnswerThere (length g) (answered (onward z es x f))
  onward_there z es (took u) f t i = i u t
  onward_there z es (refused n) f t i = tt

  run_there : (es : List Event) (z : Configuration) → ControlThere (length g) z.control → AnswerThere (length g) (answered (run a z es))
  run_there [] z t = t
  run_there (e ∷ es) z t = onward_there z (e ∷ es) (step a z e) (λ u. run a u es) (step_there z e t) (λ u v. run_there es u v)

  -- a token, by whether it is white space that passes
  abbrev TokensAlike : Token → Token → Type 0
  TokensAlike k l = (is_blank k ≡ is_blank l) × EventsAlike (events_of_token k) (events_of_token l)

  passes_same : (x y : Option ℕ) → Alike x y g h → (c : Control) → passes_at g c ≡ passes_at h c
  passes_same x y i before = refl
  passes_same x y i (inside o os) = ap Rattle.runs.specs.Spells.blanks_pass (content_alike x y g h i o.production)
  passes_same x y i after = refl

  token_same : (x y : Option ℕ) → Alike x y g h → (k l : Token) (z : Configuration) → TokensAlike k l → ControlThere (length g) z.control → step_token a z k ≡ step_token b z l
  token_same x y i k l z j t =
      ap (λ r. unless_blank (is_blank k && passes_at g z.control) z r) (run_same (events_of_token k) (events_of_token l) z j.1 t)
      ∙ ap₂ (λ p q. unless_blank (p && q) z (answered (run b z (events_of_token l)))) j.0 (passes_same x y i z.control)

  token_there : (k : Token) (z : Configuration) → ControlThere (length g) z.control → AnswerThere (length g) (step_token a z k)
  token_there k z t = on (is_blank k && passes_at g z.control)
    where
      on : (p : Bool) → AnswerThere (length g) (unless_blank p z (answered (run a z (events_of_token k))))
      on true = t
      on false = run_there (events_of_token k) z t

  -- with the limits
  abbrev TakingThere : Taking → Type 0
  TakingThere (taken z w) = ControlThere (length g) z.control
  TakingThere (refuses n) = Unit {0}
  TakingThere no_room = Unit {0}

  within_there : (room : ℕ) (x : Answer) → AnswerThere (length g) x → TakingThere (within room x)
  within_there room (refused n) t = tt
  within_there room (took z) t = on (leb z.store.env.count Rattle.runs.specs.Visits.most_visits) (leb (length (Rattle.calls.specs.Limits.output_of z)) room)
    where
      on : (p q : Bool) → TakingThere (limited z p q)
      on false q = tt
      on true false = tt
      on true true = t

  module _ (differ : NamesDiffer a.names) (differ' : NamesDiffer b.names) (tags : TagsThere (length a.names) a.rules) (tags' : TagsThere (length b.names) b.rules) where
    name_alike : (n : List ℕ) → Alike (tag_named a.names n) (tag_named b.names n) g h
    name_alike n = names_alike a b differ differ' n a.rules b.rules s.rules.productions tags tags' s.first_is.rules_are s.second_is.rules_are

    tokens_alike : (part : List ℕ) (e : Read) → TokensAlike (token_of a part e) (token_of b part e)
    tokens_alike part (Start from len) = let n = take len (drop from part) in (refl, (both_start (tag_named a.names n) (tag_named b.names n) (name_alike n), tt))
    tokens_alike part (End from len) = let n = take len (drop from part) in (refl, (both_end (tag_named a.names n) (tag_named b.names n) (name_alike n), tt))
    tokens_alike part (Empty from len) =
        let n = take len (drop from part) in
        (refl, (both_start (tag_named a.names n) (tag_named b.names n) (name_alike n), (both_end (tag_named a.names n) (tag_named b.names n) (name_alike n), tt)))
    tokens_alike part (Character c true) = (refl, (both_letter (tag_named a.names []) (tag_named b.names []) (name_alike []) c, tt))
    tokens_alike part (Character c false) = (refl, (both_letter (tag_named a.names []) (tag_named b.names []) (name_alike []) c, tt))

    pub one_token_same : (room : ℕ) (part : List ℕ) (e : Read) (z : Configuration) → ControlThere (length g) z.control → one_token a z room (token_of a part e) ≡ one_token b z room (token_of b part e)
    one_token_same room part e z t = ap (within room) (token_same (tag_named a.names []) (tag_named b.names []) (name_alike []) (token_of a part e) (token_of b part e) z (tokens_alike part e) t)

    pub taken_there : (room : ℕ) (part : List ℕ) (e : Read) (z y : Configuration) (w : List ℕ) → ControlThere (length g) z.control → one_token a z room (token_of a part e) ≡ taken y w → ControlThere (length g) y.control
    taken_there room part e z y w t q = subst TakingThere q (within_there room (step_token a z (token_of a part e)) (token_there (token_of a part e) z t))
