-- What the machine answers, in terms of trees and open trees: which events it takes, and with which number and where it stops. Each number comes
-- from what the control does with the event (`Does`); that an event is allowed is that some limit would let the control go over it.
-- Assumes nothing.
use mathlib.Core.Path.{◌≡◌, refl, sym, ◌∙◌, ap, subst}
use mathlib.Core.Bool.{Bool, true, false, true≢false}
use mathlib.Core.List.{List, [], ◌∷◌, ◌++◌, append-nil}
use mathlib.Core.Logic.{⊎_elim, ◌↔◌}
use mathlib.Core.Option.{Option, none, some}
use Prim.Native.Nat.{ℕ, suc, ◌+◌, ◌≤◌, max}
use native.Mathlib.Omega.{arith}
use lib.Dec.{leb}
use lib.ListN.{length}
use borrow.Author.Tests.{eq-eqb, le-leb}
use Rattle.expressions.specs.Words.{Bracket}
use Rattle.expressions.specs.Grammar.{tag, character, Production, tags_of}
use Rattle.sheet.specs.Sheet.{Sheet}
use Rattle.runs.specs.Options.{bind}
use Rattle.expressions.specs.Grammar.{content_of}
use Rattle.runs.specs.Lookup.{tag_of, find}
use Rattle.runs.specs.Visits.{grammar}
use Rattle.runs.specs.Events.{Event, starts, ends, letter, open_tags}
use Rattle.runs.specs.Parse.{yield, element_depth}
use Rattle.runs.specs.Way.{Way, end_way, atom_way}
use Rattle.runs.specs.Acts.{Act, start_tag, bracket_acts, Store, fresh_store, acts}
use Rattle.runs.specs.Machine.{Open, at_place_lem, at_start, Control, before, inside, after, Turn, refuse, go, outer, opening_up, start_at, start_by, root_by, production_for, end_by, same_tag, own_tag, char_by, move, most, Configuration, fresh_configuration, Answer, took, refused, acted, turned, step, finished, stopped, onward, answered, run}
use Rattle.runs.specs.Line.{line}
use Rattle.runs.specs.Taken.{Passed, Allowed, no_event, whole, begun, Reached, RootClosed, Innermost, WrongEnd, AllowedIn, AllowedWithin, Refused, after_root, wrong_end, not_allowed, rejecting, Stopped}
use Rattle.runs.proofs.Rules.{NoTFault, NoSFault, no_T_lem, no_S_lem}
use Rattle.runs.proofs.Line.{acts_append}
use Rattle.runs.proofs.Moves.{Moves, stay, then, moves_append, moves_one, refuse_go, run_moves, run_through, Taken, moves_run}
use Rattle.runs.proofs.Complete.{complete}
use Rattle.runs.proofs.Sound.{same_tag_is}
use Rattle.runs.proofs.OpenTo.{open_to}
use Rattle.runs.proofs.OpenTags.{tags_at_lem, moves_tags}
use Rattle.runs.proofs.Back.{Of-tree, Of-open, run_of}
use Rattle.runs.proofs.Limit.{split, moves_wider, same_refusal}
use Rattle.runs.proofs.Main.{to_tree}

is_same : (t : Option ℕ) (u : ℕ) → t ≡ some u → same_tag t u ≡ true
is_same t u e = ap (λ (v : Option ℕ). same_tag v u) e ∙ eq-eqb u u refl

before_go : (g : List Production) (n lim : ℕ) (c : Control) (x : Event) (bs : List Act) (c' : Control) → move g n lim c x ≡ go bs c' → before ≡ c' → ⊥
before_go g n lim c x bs c' e b = no_before c x (e ∙ ap (go bs) (sym b))
  where
    by_root : (f : Option ℕ) → root_by f ≡ go bs before → ⊥
    by_root none e = refuse_go bs before e
    by_root (some q) e = let z : ◌≡◌ {A = ℕ} 0 1 = cc in omega arith

    by_room : (b : Bool) (row : List Act) (o : Open) (os : List Open) → opening_up b row (inside o os) ≡ go bs before → ⊥
    by_room true row o os e = let z : ◌≡◌ {A = ℕ} 0 1 = cc in omega arith
    by_room false row o os e = refuse_go bs before e

    by_found : (o : Open) (os : List Open) (w : Way) (f : Option ℕ) → start_at lim o os w f ≡ go bs before → ⊥
    by_found o os w none e = refuse_go bs before e
    by_found o os w (some q) e = by_room (leb (suc (suc (length os))) lim) _ (at_start q) (at_place_lem o w.place ∷ os) e

    by_start : (o : Open) (os : List Open) (t : ℕ) (f : Option Way) → start_by g lim o os t f ≡ go bs before → ⊥
    by_start o os t none e = refuse_go bs before e
    by_start o os t (some w) e = by_found o os w (production_for g w.kind t) e

    by_outer : (os : List Open) (row : List Act) → go row (outer os) ≡ go bs before → ⊥
    by_outer [] row e = let z : ◌≡◌ {A = ℕ} 0 1 = cc in omega arith
    by_outer (o ∷ os) row e = let z : ◌≡◌ {A = ℕ} 0 1 = cc in omega arith

    by_end : (o : Open) (os : List Open) (f : Option (List Bracket)) → end_by o os f ≡ go bs before → ⊥
    by_end o os none e = refuse_go bs before e
    by_end o os (some α) e = by_outer os _ e

    by_tag : (b : Bool) (u : Turn) → (u ≡ go bs before → ⊥) → own_tag b u ≡ go bs before → ⊥
    by_tag true u f e = f e
    by_tag false u f e = refuse_go bs before e

    by_char : (o : Open) (os : List Open) (y : ℕ) (f : Option Way) → char_by o os y f ≡ go bs before → ⊥
    by_char o os y none e = refuse_go bs before e
    by_char o os y (some w) e = let z : ◌≡◌ {A = ℕ} 0 1 = cc in omega arith

    no_before : (c : Control) (x : Event) → move g n lim c x ≡ go bs before → ⊥
    no_before before (starts none) e = refuse_go bs before e
    no_before before (starts (some t)) e = by_root (find g n t) e
    no_before before (ends t) e = refuse_go bs before e
    no_before before (letter y) e = refuse_go bs before e
    no_before (inside o os) (starts none) e = refuse_go bs before e
    no_before (inside o os) (starts (some t)) e = by_start o os t (atom_way (tags_of g) (content_of g o.production) o.place (tag t)) e
    no_before (inside o os) (ends t) e = by_tag (same_tag t (tag_of g o.production)) _ (by_end o os (end_way (content_of g o.production) o.place)) e
    no_before (inside o os) (letter y) e = by_char o os y (atom_way (tags_of g) (content_of g o.production) o.place character) e
    no_before after x e = refuse_go bs before e

-- a run of the control that stands before the root has read nothing
before_nothing : (g : List Production) (n lim : ℕ) {c c' : Control} {xs : List Event} {bs : List Act} → Moves g n lim c xs bs c' → before ≡ c' →
    (before ≡ c) × ([] ≡ xs) × ([] ≡ bs)
before_nothing g n lim stay b = (b, refl, refl)
before_nothing g n lim {c} (then {c' = c'} x bs e r) b = absurd (before_go g n lim c x bs c' e (before_nothing g n lim r b).0)

module _ (g : List Production) (n lim : ℕ) where
  -- a run of the control is over events that the grammar allows
  pub moves_allowed : 1 ≤ lim → (xs : List Event) (bs : List Act) (c : Control) → Moves g n lim before xs bs c → (d : ℕ) × Allowed g n xs bs d × (d ≤ lim)
  moves_allowed one xs bs c m = by c m
    where
      begun_by : (c : Control) → Moves g n lim before xs bs c → (before ≡ c → ⊥) → (d : ℕ) × Allowed g n xs bs d × (d ≤ lim)
      begun_by c m b =
          ⊎_elim
          (λ t. let o : Of-tree g n lim xs bs = t.0 in (
            element_depth o.root,
            subst (λ (z : List Event). Allowed g n z bs (element_depth o.root)) o.are_events
                (subst (λ (z : List Act). Allowed g n (yield o.root) z (element_depth o.root)) o.are_acts (whole o.root)),
            o.fits,
          ))
          (λ t. let o : Of-open g n lim xs bs = t.0 in (o.deep, begun o.root, o.fits))
          (run_of g n lim c one xs bs m b)

      by : (c : Control) → Moves g n lim before xs bs c → (d : ℕ) × Allowed g n xs bs d × (d ≤ lim)
      by before m =
          let s = before_nothing g n lim m refl in
          (0, subst (λ (z : List Event). Allowed g n z bs 0) s.1 (subst (λ (z : List Act). Allowed g n [] z 0) s.2 no_event), omega arith)
      by (inside o os) m = begun_by (inside o os) m (λ e. let z : ◌≡◌ {A = ℕ} 0 1 = cc in omega arith)
      by after m = begun_by after m (λ e. let z : ◌≡◌ {A = ℕ} 0 1 = cc in omega arith)

  -- and there is one over all that it allows
  pub allowed_moves : NoTFault g → NoSFault g → {xs : List Event} {bs : List Act} {d : ℕ} → Allowed g n xs bs d → d ≤ lim → (c : Control) × Moves g n lim before xs bs c
  allowed_moves no_T_lem no_S_lem no_event l = (before, stay)
  allowed_moves no_T_lem no_S_lem (whole t) l = (after, complete g n lim no_T_lem no_S_lem t l)
  allowed_moves no_T_lem no_S_lem (begun r) l = let t = open_to g n lim no_T_lem no_S_lem r l in (inside t.0 t.1, t.2)

module _ (g : List Production) (n : ℕ) where
  -- an event that the control goes over, whatever the limit, is allowed
  go_allowed : (lim lim' : ℕ) → lim ≤ lim' → 1 ≤ lim → (xs : List Event) (bs : List Act) (c : Control) → Moves g n lim before xs bs c → (x : Event) (now : List Act) (c' : Control) →
      move g n lim' c x ≡ go now c' → (d : ℕ) × Allowed g n (xs ++ x ∷ []) (bs ++ now) d × (d ≤ lim')
  go_allowed lim lim' l one xs bs c m x now c' e =
      subst (λ (z : List Act). (d : ℕ) × Allowed g n (xs ++ x ∷ []) z d × (d ≤ lim')) (ap (λ (z : List Act). bs ++ z) (append-nil now))
      (moves_allowed g n lim' (omega arith) (xs ++ x ∷ []) (bs ++ (now ++ [])) c' (moves_append (moves_wider g n lim lim' l m) (then x now e stay)))

  -- an end tag, if it is one, is the open element's
  abbrev Own : Control → Event → Type 0
  Own c x = (t : Option ℕ) → x ≡ ends t → Innermost t (tags_at_lem g c)

  -- what the control does with an event
  data Does (lim : ℕ) (c : Control) (x : Event) : Type 0 where
    not_own_tag : move g n lim c x ≡ refuse 22 → (c ≡ after → ⊥) → (t : Option ℕ) → x ≡ ends t → (Innermost t (tags_at_lem g c) → ⊥) → Does lim c x
    no_way : move g n lim c x ≡ refuse 23 → (c ≡ after → ⊥) → Own c x → Does lim c x
    root_closed : move g n lim c x ≡ refuse 26 → c ≡ after → Does lim c x
    too_deep : move g n lim c x ≡ refuse 24 → Own c x → (lim' : ℕ) → lim ≤ lim' → (bs : List Act) (c' : Control) → move g n lim' c x ≡ go bs c' → Does lim c x
    goes : (bs : List Act) (c' : Control) → move g n lim c x ≡ go bs c' → Own c x → Does lim c x

  start_no_end : (t : Option ℕ) (c : Control) → Own c (starts t)
  start_no_end t c u e = absurd (let z : ◌≡◌ {A = ℕ} 0 1 = cc in omega arith)

  letter_no_end : (y : ℕ) (c : Control) → Own c (letter y)
  letter_no_end y c u e = absurd (let z : ◌≡◌ {A = ℕ} 0 1 = cc in omega arith)

  before_after : before ≡ after → ⊥
  before_after e = let z : ◌≡◌ {A = ℕ} 0 1 = cc in omega arith

  inside_after : (o : Open) (os : List Open) → inside o os ≡ after → ⊥
  inside_after o os e = let z : ◌≡◌ {A = ℕ} 0 1 = cc in omega arith

  does : (lim : ℕ) (c : Control) (x : Event) → Does lim c x
  does lim before (starts none) = no_way refl before_after (start_no_end none before)
  does lim before (starts (some t)) = by_found (find g n t) refl
    where
      by_found : (f : Option ℕ) → find g n t ≡ f → Does lim before (starts (some t))
      by_found none e = no_way (ap root_by e) before_after (start_no_end (some t) before)
      by_found (some q) e = goes _ _ (ap root_by e) (start_no_end (some t) before)
  does lim before (ends t) = not_own_tag refl before_after t refl (λ h. h)
  does lim before (letter y) = no_way refl before_after (letter_no_end y before)
  does lim (inside o os) (starts none) = no_way refl (inside_after o os) (start_no_end none (inside o os))
  does lim (inside o os) (starts (some t)) = by_way (atom_way (tags_of g) (content_of g o.production) o.place (tag t)) refl
    where
      by_room : (w : Way) (q : ℕ) → move g n lim (inside o os) (starts (some t)) ≡ start_at lim o os w (some q) →
          ((k : ℕ) → move g n k (inside o os) (starts (some t)) ≡ start_at k o os w (some q)) → (b : Bool) → leb (suc (suc (length os))) lim ≡ b → Does lim (inside o os) (starts (some t))
      by_room w q e f true h =
          let row : List Act = bracket_acts o.production w.string ++ start_tag q ∷ [] in
          let to : Control = inside (at_start q) (at_place_lem o w.place ∷ os) in
          goes row to (e ∙ ap (λ (b : Bool). opening_up b row to) h) (start_no_end (some t) (inside o os))
      by_room w q e f false h =
          let wide : ℕ = lim + suc (suc (length os)) in
          let row : List Act = bracket_acts o.production w.string ++ start_tag q ∷ [] in
          let to : Control = inside (at_start q) (at_place_lem o w.place ∷ os) in
          too_deep (e ∙ ap (λ (b : Bool). opening_up b row to) h) (start_no_end (some t) (inside o os)) wide (omega arith) row to
          (f wide ∙ ap (λ (b : Bool). opening_up b row to) (le-leb (suc (suc (length os))) wide (omega arith)))

      by_found : (w : Way) → atom_way (tags_of g) (content_of g o.production) o.place (tag t) ≡ some w → (f : Option ℕ) → production_for g w.kind t ≡ f →
          Does lim (inside o os) (starts (some t))
      by_found w iw none e = no_way (ap (start_by g lim o os t) iw ∙ ap (start_at lim o os w) e) (inside_after o os) (start_no_end (some t) (inside o os))
      by_found w iw (some q) e =
          by_room w q (ap (start_by g lim o os t) iw ∙ ap (start_at lim o os w) e) (λ k. ap (start_by g k o os t) iw ∙ ap (start_at k o os w) e)
          (leb (suc (suc (length os))) lim) refl

      by_way : (f : Option Way) → atom_way (tags_of g) (content_of g o.production) o.place (tag t) ≡ f → Does lim (inside o os) (starts (some t))
      by_way none iw = no_way (ap (start_by g lim o os t) iw) (inside_after o os) (start_no_end (some t) (inside o os))
      by_way (some w) iw = by_found w iw (production_for g w.kind t) refl
  does lim (inside o os) (ends t) = by_tag (same_tag t (tag_of g o.production)) refl
    where
      own : t ≡ some (tag_of g o.production) → Own (inside o os) (ends t)
      own i u e = let h : t ≡ u = cc in sym h ∙ i

      by_way : (f : Option (List Bracket)) → end_way (content_of g o.production) o.place ≡ f → same_tag t (tag_of g o.production) ≡ true → Does lim (inside o os) (ends t)
      by_way none e h =
          no_way (ap (λ (b : Bool). own_tag b (end_by o os (end_way (content_of g o.production) o.place))) h ∙ ap (end_by o os) e)
          (inside_after o os) (own (same_tag_is t (tag_of g o.production) h))
      by_way (some α) e h =
          goes _ _ (ap (λ (b : Bool). own_tag b (end_by o os (end_way (content_of g o.production) o.place))) h ∙ ap (end_by o os) e)
          (own (same_tag_is t (tag_of g o.production) h))

      by_tag : (b : Bool) → same_tag t (tag_of g o.production) ≡ b → Does lim (inside o os) (ends t)
      by_tag true h = by_way (end_way (content_of g o.production) o.place) refl h
      by_tag false h =
          not_own_tag (ap (λ (b : Bool). own_tag b (end_by o os (end_way (content_of g o.production) o.place))) h) (inside_after o os) t refl
          (λ i. true≢false (sym (is_same t (tag_of g o.production) i) ∙ h))
  does lim (inside o os) (letter y) = by_way (atom_way (tags_of g) (content_of g o.production) o.place character) refl
    where
      by_way : (f : Option Way) → atom_way (tags_of g) (content_of g o.production) o.place character ≡ f → Does lim (inside o os) (letter y)
      by_way none e = no_way (ap (char_by o os y) e) (inside_after o os) (letter_no_end y (inside o os))
      by_way (some w) e = goes _ _ (ap (char_by o os y) e) (letter_no_end y (inside o os))
  does lim after x = root_closed refl refl

pub run_append : (s : Sheet) (z z' : Configuration) (xs ys : List Event) → run s z xs ≡ finished z' → run s z (xs ++ ys) ≡ run s z' ys
run_append s z z' [] ys e = let h : z ≡ z' = cc in ap (λ (y : Configuration). run s y ys) h
run_append s z z' (x ∷ xs) ys e = by (λ y h. run_append s y z' xs ys h) (step s z x) e
  where
    by : ((y : Configuration) → run s y xs ≡ finished z' → run s y (xs ++ ys) ≡ run s z' ys) → (a : Answer) → onward z (x ∷ xs) a (λ y. run s y xs) ≡ finished z' →
        onward z (x ∷ (xs ++ ys)) a (λ y. run s y (xs ++ ys)) ≡ run s z' ys
    by f (took y) e = f y e
    by f (refused k) e = absurd (let y : ◌≡◌ {A = ℕ} 0 1 = cc in omega arith)

-- after events that are taken, the next is refused with a number exactly when `Refused` gives it that number
module _ (s : Sheet) (ok : Passed s) (xs : List Event) (z : Configuration) (ran : run s fresh_configuration xs ≡ finished z) (x : Event) where
  abbrev g : List Production
  g = grammar s

  abbrev n : ℕ
  n = s.start_nonterminal

  no_T : NoTFault g
  no_T = no_T_lem g ok.keeps_T

  no_S : NoSFault g
  no_S = no_S_lem g ok.keeps_S

  taken : Taken s before fresh_store xs z
  taken = moves_run s before fresh_store xs z ran

  by_refuse : (k : ℕ) → move g n most z.control x ≡ refuse k → step s z x ≡ refused k
  by_refuse k e = ap (turned s z.store) e

  -- an event that is allowed is refused, if at all, with 24 or 25
  allowed_goes : AllowedIn s (xs ++ x ∷ []) → (k : ℕ) → (k ≡ 24 → ⊥) → move g n most z.control x ≡ refuse k → ⊥
  allowed_goes a k d e =
      let wide : ℕ = max most a.1 in
      let m = allowed_moves g n wide no_T no_S a.2 (omega arith) in
      let p = split xs x [] m.1 refl in
      let same = moves_one (moves_wider g n most wide (omega arith) taken.moved) p.first_half in
      clash p.now p.to (sym p.moved ∙ ap (λ (c : Control). move g n wide c x) (sym same.1) ∙ same_refusal g n most wide (omega arith) k d z.control x e)
    where
      clash : (bs : List Act) (c : Control) → go bs c ≡ refuse k → ⊥
      clash bs c e = let z : ◌≡◌ {A = ℕ} 0 1 = cc in omega arith

  run_on : answered (run s fresh_configuration (xs ++ x ∷ [])) ≡ step s z x
  run_on = ap answered (run_append s fresh_configuration z xs (x ∷ []) ran) ∙ last (step s z x)
    where
      last : (a : Answer) → answered (onward z (x ∷ []) a (λ y. finished y)) ≡ a
      last (took y) = refl
      last (refused k) = refl

  -- the root is closed exactly where the control stands after it
  pub closed_after : RootClosed s xs → z.control ≡ after
  closed_after r =
      let wide : ℕ = max most (element_depth r.0) in
      let m = complete g n wide no_T no_S r.0 (omega arith) in
      (moves_one (moves_wider g n most wide (omega arith) taken.moved) (subst (λ (ys : List Event). Moves g n wide before ys (line r.0) after) r.1 m)).1

  pub after_closed : z.control ≡ after → RootClosed s xs
  after_closed c = let t = to_tree s xs z ran c in (t.1.root, t.1.are_events)

  open_tags_lem : open_tags xs ≡ tags_at_lem g z.control
  open_tags_lem = moves_tags g n most taken.moved

  not_wrong : Own g n z.control x → WrongEnd xs x → ⊥
  not_wrong own w = w.not_own (subst (Innermost w.its_tag) (sym open_tags_lem) (own w.its_tag w.is_end))

  -- a row that is allowed within the limit is what the machine does
  by_row : (w : AllowedWithin s (xs ++ x ∷ [])) → (c : Control) × (step s z x ≡ acted c (acts s w.0 fresh_store))
  by_row w = let m = allowed_moves g n most no_T no_S w.2 w.3 in (m.0, sym run_on ∙ run_moves s m.1 fresh_store)

  acted_number : (k : ℕ) (c : Control) (o : Option Store) → acted c o ≡ refused k → (25 ≡ k) × (o ≡ none)
  acted_number k c none e = ((cc), refl)
  acted_number k c (some m) e = absurd (let y : ◌≡◌ {A = ℕ} 0 1 = cc in omega arith)

  the_number : (j k : ℕ) → step s z x ≡ refused j → step s z x ≡ refused k → j ≡ k
  the_number j k e e' = let h : refused j ≡ refused k = sym e ∙ e' in cc

  to_refused : (k : ℕ) → step s z x ≡ refused k → Refused s xs x k
  to_refused k h = by (does g n most z.control x)
    where
      numbered : (j : ℕ) → step s z x ≡ refused j → Refused s xs x j → Refused s xs x k
      numbered j e r = subst (Refused s xs x) (the_number j k e h) r

      by : Does g n most z.control x → Refused s xs x k
      by (not_own_tag e c t i d) =
          numbered 22 (by_refuse 22 e) (wrong_end (λ r. c (closed_after r)) (record { its_tag = t; is_end = i; not_own = λ w. d (subst (Innermost t) open_tags_lem w) }))
      by (no_way e c own) = numbered 23 (by_refuse 23 e) (not_allowed (λ r. c (closed_after r)) (not_wrong own) (λ a. allowed_goes a 23 (λ q. omega arith) e))
      by (root_closed e c) = numbered 26 (by_refuse 26 e) (after_root (after_closed c))
      by (too_deep e own lim' l bs c' e') =
          let a = go_allowed g n most lim' l (omega arith) xs taken.row z.control taken.moved x bs c' e' in
          numbered 24 (by_refuse 24 e)
          (Refused.too_deep (taken.row ++ bs, a.0, a.1) (λ w. let r = by_row w in let i = (acted_number 24 r.0 (acts s w.0 fresh_store) (sym r.1 ∙ by_refuse 24 e)).0 in omega arith))
      by (goes bs c' e own) =
          let a = go_allowed g n most most (omega arith) (omega arith) xs taken.row z.control taken.moved x bs c' e in
          let i = acted_number k c' (acts s bs z.store) (sym (ap (turned s z.store) e) ∙ h) in
          subst (Refused s xs x) i.0 (rejecting (taken.row ++ bs, a.0, a.1, a.2)
          (acts_append s taken.row bs fresh_store ∙ ap (λ (o : Option Store). bind o (λ m. acts s bs m)) taken.done ∙ i.1))

  from_refused : (k : ℕ) → Refused s xs x k → step s z x ≡ refused k
  from_refused k (after_root r) = by_refuse 26 (ap (λ (c : Control). move g n most c x) (closed_after r))
  from_refused k (wrong_end c w) = by (does g n most z.control x)
    where
      by : Does g n most z.control x → step s z x ≡ refused 22
      by (not_own_tag e c' t i d) = by_refuse 22 e
      by (no_way e c' own) = absurd (not_wrong own w)
      by (root_closed e c') = absurd (c (after_closed c'))
      by (too_deep e own lim' l bs c' e') = absurd (not_wrong own w)
      by (goes bs c' e own) = absurd (not_wrong own w)
  from_refused k (not_allowed c w a) = by (does g n most z.control x)
    where
      by : Does g n most z.control x → step s z x ≡ refused 23
      by (not_own_tag e c' t i d) = absurd (w (record { its_tag = t; is_end = i; not_own = λ v. d (subst (Innermost t) open_tags_lem v) }))
      by (no_way e c' own) = by_refuse 23 e
      by (root_closed e c') = absurd (c (after_closed c'))
      by (too_deep e own lim' l bs c' e') =
          let r = go_allowed g n most lim' l (omega arith) xs taken.row z.control taken.moved x bs c' e' in absurd (a (taken.row ++ bs, r.0, r.1))
      by (goes bs c' e own) =
          let r = go_allowed g n most most (omega arith) (omega arith) xs taken.row z.control taken.moved x bs c' e in absurd (a (taken.row ++ bs, r.0, r.1))
  from_refused k (Refused.too_deep a w) = by (does g n most z.control x)
    where
      by : Does g n most z.control x → step s z x ≡ refused 24
      by (not_own_tag e c' t i d) = absurd (allowed_goes a 22 (λ q. omega arith) e)
      by (no_way e c' own) = absurd (allowed_goes a 23 (λ q. omega arith) e)
      by (root_closed e c') = absurd (allowed_goes a 26 (λ q. omega arith) e)
      by (too_deep e own lim' l bs c' e') = by_refuse 24 e
      by (goes bs c' e own) =
          let r = go_allowed g n most most (omega arith) (omega arith) xs taken.row z.control taken.moved x bs c' e in absurd (w (taken.row ++ bs, r.0, r.1, r.2))
  from_refused k (rejecting w e) = let r = by_row w in r.1 ∙ ap (acted r.0) e

  pub refused_iff : (k : ℕ) → (step s z x ≡ refused k) ↔ Refused s xs x k
  refused_iff k = (to_refused k, from_refused k)

  -- no two numbers
  pub refused_one : (j k : ℕ) → Refused s xs x j → Refused s xs x k → j ≡ k
  refused_one j k a b = the_number j k (from_refused j a) (from_refused k b)

-- events are taken exactly when the grammar allows them within the limit and none of the acts that they ask for rejects
module _ (s : Sheet) (ok : Passed s) (xs : List Event) (m : Store) where
  pub reached_iff : ((c : Control) × (run s fresh_configuration xs ≡ finished (record { control = c; store = m }))) ↔ Reached s xs m
  reached_iff = (to, from)
    where
      to : (c : Control) × (run s fresh_configuration xs ≡ finished (record { control = c; store = m })) → Reached s xs m
      to p =
          let t = moves_run s before fresh_store xs (record { control = p.0; store = m }) p.1 in
          let a = moves_allowed (grammar s) s.start_nonterminal most (omega arith) xs t.row p.0 t.moved in
          record { row = t.row; deep = a.0; allowed = a.1; fits = a.2; value = t.done }

      from : Reached s xs m → (c : Control) × (run s fresh_configuration xs ≡ finished (record { control = c; store = m }))
      from r =
          let a = allowed_moves (grammar s) s.start_nonterminal most (no_T_lem (grammar s) ok.keeps_T) (no_S_lem (grammar s) ok.keeps_S) r.allowed r.fits in
          (a.0, run_through (run s fresh_configuration xs) (record { control = a.0; store = m }) (run_moves s a.1 fresh_store ∙ ap (acted a.0) r.value))

-- a run that stops does so at the first event that is refused
record StopsAt (s : Sheet) (z : Configuration) (xs : List Event) (k : ℕ) (z' : Configuration) (left : List Event) : Type 0 where
  pub before_it : List Event
  pub event : Event
  pub after_it : List Event
  pub are_events : xs ≡ before_it ++ event ∷ after_it
  pub are_left : left ≡ event ∷ after_it
  pub ran : run s z before_it ≡ finished z'
  pub number : step s z' event ≡ refused k

stops_at : (s : Sheet) (z : Configuration) (xs : List Event) (k : ℕ) (z' : Configuration) (left : List Event) → run s z xs ≡ stopped k z' left → StopsAt s z xs k z' left
stops_at s z [] k z' left e = absurd (let y : ◌≡◌ {A = ℕ} 0 1 = cc in omega arith)
stops_at s z (x ∷ xs) k z' left e = by (λ y h. stops_at s y xs k z' left h) (step s z x) refl e
  where
    by : ((y : Configuration) → run s y xs ≡ stopped k z' left → StopsAt s y xs k z' left) → (a : Answer) → step s z x ≡ a → onward z (x ∷ xs) a (λ y. run s y xs) ≡ stopped k z' left →
        StopsAt s z (x ∷ xs) k z' left
    by f (took y) i e =
        let t = f y e in
        record {
          before_it = x ∷ t.before_it;
          event = t.event;
          after_it = t.after_it;
          are_events = ap (λ (l : List Event). x ∷ l) t.are_events;
          are_left = t.are_left;
          ran = ap (λ (a : Answer). onward z (x ∷ t.before_it) a (λ y. run s y t.before_it)) i ∙ t.ran;
          number = t.number;
        }
    by f (refused j) i e =
        let hz : z ≡ z' = cc in
        let hk : j ≡ k = cc in
        let hl : x ∷ xs ≡ left = cc in
        record {
          before_it = [];
          event = x;
          after_it = xs;
          are_events = refl;
          are_left = sym hl;
          ran = ap finished hz;
          number = ap (λ (y : Configuration). step s y x) (sym hz) ∙ i ∙ ap refused hk;
        }

stops_there : (s : Sheet) (z : Configuration) (xs : List Event) (k : ℕ) (z' : Configuration) (left : List Event) → StopsAt s z xs k z' left → run s z xs ≡ stopped k z' left
stops_there s z xs k z' left t =
    ap (run s z) t.are_events ∙ run_append s z z' t.before_it (t.event ∷ t.after_it) t.ran
    ∙ ap (λ (a : Answer). onward z' (t.event ∷ t.after_it) a (λ y. run s y t.after_it)) t.number ∙ ap (stopped k z') (sym t.are_left)

module _ (s : Sheet) (ok : Passed s) (xs : List Event) (k : ℕ) (m : Store) (left : List Event) where
  pub stopped_iff : ((c : Control) × (run s fresh_configuration xs ≡ stopped k (record { control = c; store = m }) left)) ↔ Stopped s xs k m left
  stopped_iff = (to, from)
    where
      to : (c : Control) × (run s fresh_configuration xs ≡ stopped k (record { control = c; store = m }) left) → Stopped s xs k m left
      to p =
          let z : Configuration = record { control = p.0; store = m } in
          let t = stops_at s fresh_configuration xs k z left p.1 in
          record {
            before_it = t.before_it;
            event = t.event;
            after_it = t.after_it;
            are_events = t.are_events;
            are_left = t.are_left;
            reached = (reached_iff s ok t.before_it m).0 (p.0, t.ran);
            is_refused = (refused_iff s ok t.before_it z t.ran t.event k).0 t.number;
          }

      from : Stopped s xs k m left → (c : Control) × (run s fresh_configuration xs ≡ stopped k (record { control = c; store = m }) left)
      from t =
          let r = (reached_iff s ok t.before_it m).1 t.reached in
          let z : Configuration = record { control = r.0; store = m } in (
            r.0,
            stops_there s fresh_configuration xs k z left (record {
              before_it = t.before_it;
              event = t.event;
              after_it = t.after_it;
              are_events = t.are_events;
              are_left = t.are_left;
              ran = r.1;
              number = (refused_iff s ok t.before_it z r.1 t.event k).1 t.is_refused;
            }),
          )
