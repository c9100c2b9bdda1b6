-- A run of the control is that of a tree or of an open tree: each open element gives back either its parts and the run that is left, or that it is
-- still open, and the parse is put together on the way back. By recursion on the length of what is left. This needs neither rule.
-- Assumes nothing.
use mathlib.Core.Path.{◌≡◌, refl, sym, ◌∙◌, ap, subst}
use mathlib.Core.Bool.{true}
use mathlib.Core.List.{List, [], ◌∷◌, ◌++◌, append_assoc, append-nil}
use mathlib.Core.Logic.{◌⊎◌, inl, inr, ⊎_elim}
use mathlib.Core.Option.{Option, none, some}
use Prim.Native.Nat.{ℕ, zero, suc, ◌+◌, ◌≤◌, max}
use native.Mathlib.Omega.{arith}
use lib.Dec.{T}
use lib.ListN.{length}
use Rattle.expressions.specs.Expr.{Atom, nonterminal, anychar, Content, nothing, tree}
use Rattle.expressions.specs.Words.{Bracket, Sym, at, ◌▷◌, Words}
use Rattle.expressions.specs.Grammar.{tag, character, can_be, Production, tags_of}
use Rattle.expressions.specs.Grammar.{content_of}
use Rattle.runs.specs.Lookup.{tag_of, produces, find}
use Rattle.runs.specs.Events.{Event, starts, ends, letter}
use Rattle.runs.specs.Parse.{Element, element, Children, yield, yield_C, element_depth, depth_C}
use Rattle.runs.specs.Way.{Way}
use Rattle.runs.specs.Acts.{Act, start_tag, end_tag, letter_read, bracket_acts}
use Rattle.runs.specs.Machine.{Open, at_start, Control, before, inside, after, refuse, go, outer, root_by, move}
use Rattle.runs.specs.Line.{line, line_C, Part, mark, filled, lettered, skeleton, events, acts_in, depths, symbol, events_of, acts_of, depth_of, Cut, Opened, opened, deeper}
use Rattle.expressions.proofs.Strings.{▷-left}
use Rattle.expressions.proofs.Rule.{Rest}
use Rattle.runs.proofs.Parts.{flat_C, unflat_C, flat_C_line, flat_C_events, flat_C_depth}
use Rattle.runs.proofs.Ways.{GoesTo, found_end, found_atom}
use Rattle.runs.proofs.Atoms.{atom_pos}
use Rattle.runs.proofs.Find.{find_sound}
use Rattle.runs.proofs.Moves.{Moves, stay, then, go_inj}
use Rattle.runs.proofs.Complete.{open_at, past}
use Rattle.runs.proofs.Live.{start_live, rest_on}
use Rattle.runs.proofs.Sound.{Reaches, reaches_on, marks, marks_skeleton, marks_events, marks_acts, marks_depths, started, was_read, ended}

abbrev Str : Type 0
Str = List Bracket

abbrev Text : Type 0
Text = List Sym

reaches_start : (e : Content) → Reaches e 0 []
reaches_start nothing w r = r
reaches_start (tree e) w r = r

char_kind : (tags : ℕ → List ℕ) (k : Atom) → can_be tags k character ≡ true → k ≡ anychar
char_kind tags (nonterminal n) e = cc
char_kind tags anychar e = refl

-- a word goes on as far as an atom
module _ {g : List Production} where
  abbrev IsAtom : Part g → Type 0
  IsAtom (mark c) = ⊥
  IsAtom (filled j m t) = Unit {0}
  IsAtom (lettered j c) = Unit {0}

  cut_atom : (f : Part g) (fs : List (Part g)) → IsAtom f → Cut fs → Cut (f ∷ fs)
  cut_atom (mark c) fs a k = absurd a
  cut_atom (filled j m t) fs a k = k
  cut_atom (lettered j c) fs a k = k

  cut_marks : (α : Str) (f : Part g) (fs : List (Part g)) → IsAtom f → Cut fs → Cut (marks α ++ f ∷ fs)
  unfolding marks
  cut_marks [] f fs a k = cut_atom f fs a k
  cut_marks (c ∷ []) f fs a k = cut_atom f fs a k
  cut_marks (c ∷ d ∷ α) f fs a k = cut_marks (d ∷ α) f fs a k

-- the rest of an element that is still open; u is the word so far
data Still (g : List Production) (q : ℕ) (u : Text) : List Event → List Act → ℕ → Type 0 where
  here : (fs : List (Part g)) → Cut fs → (v : Text) → Words (content_of g q) (u ++ (skeleton fs ++ v)) → Still g q u (events fs) (acts_in q fs) (depths fs)
  below : (fs : List (Part g)) (j m : ℕ) (v : Text) → Words (content_of g q) (u ++ (skeleton fs ++ at j (nonterminal m) ∷ v)) →
      {xs : List Event} {bs : List Act} {d : ℕ} → Opened g m xs bs d → Still g q u (events fs ++ xs) (acts_in q fs ++ bs) (max (depths fs) d)

still_is : {g : List Production} {q : ℕ} {u : Text} {xs ys : List Event} {bs cs : List Act} {d e : ℕ} → xs ≡ ys → bs ≡ cs → d ≡ e → Still g q u xs bs d → Still g q u ys cs e
still_is {g} {q} {u} {xs} {ys} {bs} {cs} {d} {e} a b c s =
    subst (λ (z : ℕ). Still g q u ys cs z) c (subst (λ (z : List Act). Still g q u ys z d) b (subst (λ (z : List Event). Still g q u z bs d) a s))

-- an open element is its start tag and the rest
opened_of : {g : List Production} {m q : ℕ} {xs : List Event} {bs : List Act} {d : ℕ} → T (produces g m q) → Still g q [] xs bs d →
    Opened g m (starts (some (tag_of g q)) ∷ xs) (start_tag q ∷ bs) (suc d)
opened_of {q = q} h (here fs k v W) = opened q h fs k v W
opened_of {q = q} h (below fs j m v W r) = deeper q h fs j m v W r

-- brackets and an atom in front
module _ {g : List Production} (q : ℕ) (u : Text) (α : Str) (f : Part g) (a : IsAtom f) where
  front_word : (fs : List (Part g)) (v : Text) → Words (content_of g q) ((u ++ (α ▷ symbol f ∷ [])) ++ (skeleton fs ++ v)) →
      Words (content_of g q) (u ++ (skeleton (marks α ++ f ∷ fs) ++ v))
  front_word fs v W =
      subst (λ (z : Text). Words (content_of g q) (u ++ (z ++ v))) (sym (marks_skeleton α (f ∷ fs)))
      (subst (λ (z : Text). Words (content_of g q) (u ++ z)) (sym (▷-left α (symbol f ∷ skeleton fs) v))
      (subst (Words (content_of g q)) (sym (past u α (symbol f) (skeleton fs ++ v))) W))

  before_still : {xs : List Event} {bs : List Act} {d : ℕ} → Still g q (u ++ (α ▷ symbol f ∷ [])) xs bs d →
      Still g q u (events_of f ++ xs) (bracket_acts q α ++ (acts_of q f ++ bs)) (max (depth_of f) d)
  before_still (here fs k v W) =
      still_is (marks_events α (f ∷ fs)) (marks_acts q α (f ∷ fs)) (marks_depths α (f ∷ fs)) (here (marks α ++ f ∷ fs) (cut_marks α f fs a k) v (front_word fs v W))
  before_still (below fs j m v W {xs} {bs} {d} r) =
      let h = marks_depths {g = g} α (f ∷ fs) in
      still_is
      (ap (λ (z : List Event). z ++ xs) (marks_events α (f ∷ fs)) ∙ append_assoc (events_of f) (events fs) xs)
      (ap (λ (z : List Act). z ++ bs) (marks_acts q α (f ∷ fs)) ∙ append_assoc (bracket_acts q α) (acts_of q f ++ acts_in q fs) bs
      ∙ ap (λ (z : List Act). bracket_acts q α ++ z) (append_assoc (acts_of q f) (acts_in q fs) bs))
      (omega arith)
      (below (marks α ++ f ∷ fs) j m v (front_word fs (at j (nonterminal m) ∷ v) W) r)

-- brackets and an open element in front of nothing
still_below : {g : List Production} (q : ℕ) (u : Text) (α : Str) (j m : ℕ) (v : Text) → Words (content_of g q) (u ++ (α ▷ at j (nonterminal m) ∷ v)) →
    {xs : List Event} {bs : List Act} {d : ℕ} → Opened g m xs bs d → Still g q u xs (bracket_acts q α ++ bs) d
still_below {g} q u α j m v W {xs} {bs} {d} r =
    let h = marks_depths {g = g} α [] in
    still_is (ap (λ (z : List Event). z ++ xs) (marks_events {g = g} α []))
    (ap (λ (z : List Act). z ++ bs) (marks_acts {g = g} q α [] ∙ append-nil (bracket_acts q α)))
    (omega arith)
    (below (marks α ++ []) j m v
    (subst (λ (z : Text). Words (content_of g q) (u ++ (z ++ at j (nonterminal m) ∷ v))) (sym (marks_skeleton {g = g} α []))
    (subst (λ (z : Text). Words (content_of g q) (u ++ z)) (sym (▷-left α [] (at j (nonterminal m) ∷ v))) W)) r)

module _ (g : List Production) (n lim : ℕ) (fin : Control) where
  record Front (c : Control) (xs : List Event) (bs : List Act) (c'' : Control) : Type 0 where
    pub event : Event
    pub later : List Event
    pub now : List Act
    pub then_acts : List Act
    pub to : Control
    pub are_events : xs ≡ event ∷ later
    pub are_acts : bs ≡ now ++ then_acts
    pub moved : move g n lim c event ≡ go now to
    pub rest : Moves g n lim to later then_acts c''

  front : {c : Control} {xs : List Event} {bs : List Act} {c'' : Control} → Moves g n lim c xs bs c'' → ((c ≡ c'') × (xs ≡ []) × (bs ≡ [])) ⊎ Front c xs bs c''
  front stay = inl (refl, refl, refl)
  front (then {c' = c'} {xs = xs} {cs = cs} x bs e r) =
      inr (record { event = x; later = xs; now = bs; then_acts = cs; to = c'; are_events = refl; are_acts = refl; moved = e; rest = r })

  -- the rest of an element that is closed; u is the word so far
  record Back (q : ℕ) (os : List Open) (u : Text) (xs : List Event) (bs : List Act) : Type 0 where
    pub parts : List (Part g)
    pub later : List Event
    pub later_acts : List Act
    pub word : Words (content_of g q) (u ++ skeleton parts)
    pub are_events : xs ≡ events parts ++ ends (some (tag_of g q)) ∷ later
    pub are_acts : bs ≡ acts_in q parts ++ end_tag q ∷ later_acts
    pub fits : suc (length os) + depths parts ≤ lim
    pub rest : Moves g n lim (outer os) later later_acts fin
    pub shorter : suc (length later) ≤ length xs

  record Opens (q : ℕ) (os : List Open) (u : Text) (xs : List Event) (bs : List Act) : Type 0 where
    pub deep : ℕ
    pub still : Still g q u xs bs deep
    pub fits : suc (length os) + deep ≤ lim
    pub top : Open
    pub under : List Open
    pub is_inside : fin ≡ inside top under

  abbrev Out : ℕ → List Open → Text → List Event → List Act → Type 0
  Out q os u xs bs = Back q os u xs bs ⊎ Opens q os u xs bs

  abbrev Outs : ℕ → Type 0
  Outs fuel = (q p : ℕ) (os : List Open) (u : Text) (xs : List Event) (bs : List Act) → suc (length os) ≤ lim → Reaches (content_of g q) p u →
      (w : Text) → Rest (content_of g q) p w → Moves g n lim (inside (open_at q p) os) xs bs fin → length xs ≤ fuel → Out q os u xs bs

  module _ (q p : ℕ) (os : List Open) (u : Text) (room : suc (length os) ≤ lim) (reaches : Reaches (content_of g q) p u) where
    back_end : (t : Option ℕ) (xs : List Event) (now cs : List Act) (c : Control) → move g n lim (inside (open_at q p) os) (ends t) ≡ go now c →
        Moves g n lim c xs cs fin → Back q os u (ends t ∷ xs) (now ++ cs)
    back_end t xs now cs c e r =
        let d = ended g lim (open_at q p) os n t now c e in
        let α : Str = d.by in
        let s1 = marks_skeleton {g = g} α [] in
        let s2 = marks_events {g = g} α [] in
        let s3 = marks_acts {g = g} q α [] in
        let s4 = marks_depths {g = g} α [] in
        let it : t ≡ some (tag_of g q) = d.is_tag in
        let ia : now ≡ bracket_acts q α ++ end_tag q ∷ [] = d.are_acts in
        record {
          parts = marks α ++ [];
          later = xs;
          later_acts = cs;
          word = subst (λ (z : Text). Words (content_of g q) (u ++ z)) (sym s1) (reaches (α ▷ []) (found_end (content_of g q) p α d.is_way));
          are_events = ap (λ (z : Option ℕ). ends z ∷ xs) it ∙ ap (λ (z : List Event). z ++ ends (some (tag_of g q)) ∷ xs) (sym s2);
          are_acts =
              ap (λ (z : List Act). z ++ cs) ia ∙ append_assoc (bracket_acts q α) (end_tag q ∷ []) cs
              ∙ ap (λ (z : List Act). z ++ end_tag q ∷ cs) (sym (append-nil (bracket_acts q α)) ∙ sym s3);
          fits = omega arith;
          rest = subst (λ (z : Control). Moves g n lim z xs cs fin) d.is_control r;
          shorter = omega arith;
        }

    module _ (w : Way) where
      abbrev α : Str
      α = w.string

      abbrev j : ℕ
      j = w.place

      -- a character, and then the rest
      glue_char : (x : ℕ) (xs : List Event) (cs : List Act) → Back q os (u ++ (α ▷ at j anychar ∷ [])) xs cs → Back q os u (letter x ∷ xs) ((bracket_acts q α ++ letter_read x ∷ []) ++ cs)
      glue_char x xs cs B =
          let fs : List (Part g) = lettered j x ∷ B.parts in
          let s1 = marks_skeleton {g = g} α fs in
          let s2 = marks_events {g = g} α fs in
          let s3 = marks_acts {g = g} q α fs in
          let s4 = marks_depths {g = g} α fs in
          let fit : suc (length os) + depths B.parts ≤ lim = B.fits in
          let short : suc (length B.later) ≤ length xs = B.shorter in
          record {
            parts = marks α ++ fs;
            later = B.later;
            later_acts = B.later_acts;
            word = subst (λ (z : Text). Words (content_of g q) (u ++ z)) (sym s1) (subst (Words (content_of g q)) (sym (past u α (at j anychar) (skeleton B.parts))) B.word);
            are_events = ap (λ (z : List Event). letter x ∷ z) B.are_events ∙ ap (λ (z : List Event). z ++ ends (some (tag_of g q)) ∷ B.later) (sym s2);
            are_acts =
                append_assoc (bracket_acts q α) (letter_read x ∷ []) cs
                ∙ ap (λ (z : List Act). bracket_acts q α ++ letter_read x ∷ z) B.are_acts
                ∙ sym (append_assoc (bracket_acts q α) (letter_read x ∷ acts_in q B.parts) (end_tag q ∷ B.later_acts))
                ∙ ap (λ (z : List Act). z ++ end_tag q ∷ B.later_acts) (sym s3);
            fits = omega arith;
            rest = B.rest;
            shorter = omega arith;
          }

      open_char : (x : ℕ) (xs : List Event) (cs : List Act) → Opens q os (u ++ (α ▷ at j anychar ∷ [])) xs cs → Opens q os u (letter x ∷ xs) ((bracket_acts q α ++ letter_read x ∷ []) ++ cs)
      open_char x xs cs S =
          let fit : suc (length os) + S.deep ≤ lim = S.fits in
          record {
            deep = max 0 S.deep;
            still = still_is refl (sym (append_assoc (bracket_acts q α) (letter_read x ∷ []) cs)) refl (before_still q u α (lettered j x) tt S.still);
            fits = omega arith;
            top = S.top;
            under = S.under;
            is_inside = S.is_inside;
          }

      module _ (m q' t : ℕ) (F : T (produces g m q')) (it : tag_of g q' ≡ t) where
        abbrev K : Atom
        K = nonterminal m

        -- the element that the start tag opened, if it is closed
        abbrev whole : (xs : List Event) (cs : List Act) → Back q' (open_at q j ∷ os) [] xs cs → Element g m
        whole xs cs B = element q' F (unflat_C (content_of g q') B.parts B.word).0

        whole_events : (xs : List Event) (cs : List Act) (B : Back q' (open_at q j ∷ os) [] xs cs) → starts (some t) ∷ xs ≡ yield (whole xs cs B) ++ B.later
        whole_events xs cs B =
            let P = unflat_C (content_of g q') B.parts B.word in
            let x1 : yield_C P.0 ≡ events B.parts = flat_C_events P.0 ∙ ap events P.1 in
            ap (λ (z : ℕ). starts (some z) ∷ xs) (sym it)
            ∙ ap (λ (z : List Event). starts (some (tag_of g q')) ∷ z) (B.are_events ∙ ap (λ (z : List Event). z ++ ends (some (tag_of g q')) ∷ B.later) (sym x1)
            ∙ sym (append_assoc (yield_C P.0) (ends (some (tag_of g q')) ∷ []) B.later))

        whole_acts : (xs : List Event) (cs : List Act) (B : Back q' (open_at q j ∷ os) [] xs cs) → start_tag q' ∷ cs ≡ line (whole xs cs B) ++ B.later_acts
        whole_acts xs cs B =
            let P = unflat_C (content_of g q') B.parts B.word in
            let y1 : line_C P.0 q' ≡ acts_in q' B.parts = flat_C_line P.0 q' ∙ ap (acts_in q') P.1 in
            ap (λ (z : List Act). start_tag q' ∷ z) (B.are_acts ∙ ap (λ (z : List Act). z ++ end_tag q' ∷ B.later_acts) (sym y1)
            ∙ sym (append_assoc (line_C P.0 q') (end_tag q' ∷ []) B.later_acts))

        whole_depth : (xs : List Event) (cs : List Act) (B : Back q' (open_at q j ∷ os) [] xs cs) → suc (length os) + element_depth (whole xs cs B) ≤ lim
        whole_depth xs cs B =
            let P = unflat_C (content_of g q') B.parts B.word in
            let z1 : depth_C P.0 ≡ depths B.parts = flat_C_depth P.0 ∙ ap depths P.1 in
            let fit : suc (suc (length os)) + depths B.parts ≤ lim = B.fits in
            omega arith

        -- an element, and then the rest
        glue_start : (xs : List Event) (cs : List Act) (B₁ : Back q' (open_at q j ∷ os) [] xs cs) →
            Back q os (u ++ (α ▷ at j K ∷ [])) B₁.later B₁.later_acts → Back q os u (starts (some t) ∷ xs) ((bracket_acts q α ++ start_tag q' ∷ []) ++ cs)
        glue_start xs cs B₁ B₂ =
            let E : Element g m = whole xs cs B₁ in
            let fs : List (Part g) = filled j m E ∷ B₂.parts in
            let s1 = marks_skeleton {g = g} α fs in
            let s2 = marks_events {g = g} α fs in
            let s3 = marks_acts {g = g} q α fs in
            let s4 = marks_depths {g = g} α fs in
            let fit₁ = whole_depth xs cs B₁ in
            let fit₂ : suc (length os) + depths B₂.parts ≤ lim = B₂.fits in
            let short₁ : suc (length B₁.later) ≤ length xs = B₁.shorter in
            let short₂ : suc (length B₂.later) ≤ length B₁.later = B₂.shorter in
            record {
              parts = marks α ++ fs;
              later = B₂.later;
              later_acts = B₂.later_acts;
              word = subst (λ (z : Text). Words (content_of g q) (u ++ z)) (sym s1) (subst (Words (content_of g q)) (sym (past u α (at j K) (skeleton B₂.parts))) B₂.word);
              are_events =
                  whole_events xs cs B₁ ∙ ap (λ (z : List Event). yield E ++ z) B₂.are_events
                  ∙ sym (append_assoc (yield E) (events B₂.parts) (ends (some (tag_of g q)) ∷ B₂.later))
                  ∙ ap (λ (z : List Event). z ++ ends (some (tag_of g q)) ∷ B₂.later) (sym s2);
              are_acts =
                  append_assoc (bracket_acts q α) (start_tag q' ∷ []) cs ∙ ap (λ (z : List Act). bracket_acts q α ++ z) (whole_acts xs cs B₁ ∙ ap (λ (z : List Act). line E ++ z) B₂.are_acts
                  ∙ sym (append_assoc (line E) (acts_in q B₂.parts) (end_tag q ∷ B₂.later_acts)))
                  ∙ sym (append_assoc (bracket_acts q α) (acts_in q fs) (end_tag q ∷ B₂.later_acts))
                  ∙ ap (λ (z : List Act). z ++ end_tag q ∷ B₂.later_acts) (sym s3);
              fits = omega arith;
              rest = B₂.rest;
              shorter = omega arith;
            }

        open_after : (xs : List Event) (cs : List Act) (B₁ : Back q' (open_at q j ∷ os) [] xs cs) →
            Opens q os (u ++ (α ▷ at j K ∷ [])) B₁.later B₁.later_acts → Opens q os u (starts (some t) ∷ xs) ((bracket_acts q α ++ start_tag q' ∷ []) ++ cs)
        open_after xs cs B₁ S =
            let E : Element g m = whole xs cs B₁ in
            let fit₁ = whole_depth xs cs B₁ in
            let fit₂ : suc (length os) + S.deep ≤ lim = S.fits in
            record {
              deep = max (element_depth E) S.deep;
              still = still_is (sym (whole_events xs cs B₁))
                  (sym (append_assoc (bracket_acts q α) (start_tag q' ∷ []) cs ∙ ap (λ (z : List Act). bracket_acts q α ++ z) (whole_acts xs cs B₁)))
                  refl (before_still q u α (filled j m E) tt S.still);
              fits = omega arith;
              top = S.top;
              under = S.under;
              is_inside = S.is_inside;
            }

        open_in : (v : Text) → Words (content_of g q) (u ++ (α ▷ at j K ∷ v)) → (xs : List Event) (cs : List Act) → Opens q' (open_at q j ∷ os) [] xs cs →
            Opens q os u (starts (some t) ∷ xs) ((bracket_acts q α ++ start_tag q' ∷ []) ++ cs)
        open_in v W xs cs S =
            let fit : suc (suc (length os)) + S.deep ≤ lim = S.fits in
            record {
              deep = suc S.deep;
              still = still_is (ap (λ (z : ℕ). starts (some z) ∷ xs) it) (sym (append_assoc (bracket_acts q α) (start_tag q' ∷ []) cs)) refl
                  (still_below q u α j m v W (opened_of F S.still));
              fits = omega arith;
              top = S.top;
              under = S.under;
              is_inside = S.is_inside;
            }

    back_char : (fuel : ℕ) → Outs fuel → (x : ℕ) (xs : List Event) (now cs : List Act) (c : Control) → move g n lim (inside (open_at q p) os) (letter x) ≡ go now c →
        Moves g n lim c xs cs fin → length xs ≤ fuel → Out q os u (letter x ∷ xs) (now ++ cs)
    back_char fuel ih x xs now cs c e r l =
        let d = was_read g lim (open_at q p) os n x now c e in
        let w : Way = d.by in
        let G : GoesTo (tags_of g) character (Rest (content_of g q) p) w = found_atom (tags_of g) character (content_of g q) p w d.is_way in
        let k : w.kind ≡ anychar = char_kind (tags_of g) w.kind G.1 in
        let A : Rest (content_of g q) p (w.string ▷ at w.place anychar ∷ G.0) = subst (λ (z : Atom). Rest (content_of g q) p (w.string ▷ at w.place z ∷ G.0)) k G.2 in
        let pos : 1 ≤ w.place = atom_pos (content_of g q) p w.string w.place anychar G.0 A in
        let B = ih q w.place os (u ++ (w.string ▷ at w.place anychar ∷ [])) xs cs room
        (reaches_on (content_of g q) p w.place anychar u w.string G.0 pos reaches A)
        G.0 (rest_on (content_of g q) p w.string w.place anychar G.0 A)
        (subst (λ (z : Control). Moves g n lim z xs cs fin) d.is_control r) l in
        subst (λ (z : List Act). Out q os u (letter x ∷ xs) (z ++ cs)) (sym d.are_acts)
        (⊎_elim (λ b. inl (glue_char w x xs cs b)) (λ s. inr (open_char w x xs cs s)) B)

    back_start : (fuel : ℕ) → Outs fuel → (t : ℕ) (xs : List Event) (now cs : List Act) (c : Control) → move g n lim (inside (open_at q p) os) (starts (some t)) ≡ go now c →
        Moves g n lim c xs cs fin → length xs ≤ fuel → Out q os u (starts (some t) ∷ xs) (now ++ cs)
    back_start fuel ih t xs now cs c e r l =
        let d = started g lim (open_at q p) os n t now c e in
        let w : Way = d.by in
        let m : ℕ = d.nonterm in
        let q' : ℕ = d.production in
        let F = find_sound g m t q' d.is_found in
        let G : GoesTo (tags_of g) (tag t) (Rest (content_of g q) p) w = found_atom (tags_of g) (tag t) (content_of g q) p w d.is_way in
        let A : Rest (content_of g q) p (w.string ▷ at w.place (nonterminal m) ∷ G.0) =
        subst (λ (z : Atom). Rest (content_of g q) p (w.string ▷ at w.place z ∷ G.0)) d.is_kind G.2 in
        let pos : 1 ≤ w.place = atom_pos (content_of g q) p w.string w.place (nonterminal m) G.0 A in
        let s = start_live (content_of g q') in
        let C₁ = ih q' 0 (open_at q w.place ∷ os) [] xs cs d.room (reaches_start (content_of g q')) s.0 s.1
        (subst (λ (z : Control). Moves g n lim z xs cs fin) d.is_control r) l in
        subst (λ (z : List Act). Out q os u (starts (some t) ∷ xs) (z ++ cs)) (sym d.are_acts)
        (⊎_elim
        (λ B₁.
        let short₁ : suc (length B₁.later) ≤ length xs = B₁.shorter in
        ⊎_elim (λ B₂. inl (glue_start w m q' t F.0 F.1 xs cs B₁ B₂)) (λ S. inr (open_after w m q' t F.0 F.1 xs cs B₁ S))
        (ih q w.place os (u ++ (w.string ▷ at w.place (nonterminal m) ∷ [])) B₁.later B₁.later_acts room
        (reaches_on (content_of g q) p w.place (nonterminal m) u w.string G.0 pos reaches A)
        G.0 (rest_on (content_of g q) p w.string w.place (nonterminal m) G.0 A) B₁.rest (omega arith)))
        (λ S. inr (open_in w m q' t F.0 F.1 G.0 (reaches _ A) xs cs S))
        C₁)

  back_by : (fuel : ℕ) → Outs fuel → (q p : ℕ) (os : List Open) (u : Text) → suc (length os) ≤ lim → Reaches (content_of g q) p u →
      (x : Event) (xs : List Event) (now cs : List Act) (c : Control) → move g n lim (inside (open_at q p) os) x ≡ go now c →
      Moves g n lim c xs cs fin → length xs ≤ fuel → Out q os u (x ∷ xs) (now ++ cs)
  back_by fuel ih q p os u room reaches (starts none) xs now cs c e r l = absurd (let z : ◌≡◌ {A = ℕ} 0 1 = cc in omega arith)
  back_by fuel ih q p os u room reaches (starts (some t)) xs now cs c e r l = back_start q p os u room reaches fuel ih t xs now cs c e r l
  back_by fuel ih q p os u room reaches (ends t) xs now cs c e r l = inl (back_end q p os u room reaches t xs now cs c e r)
  back_by fuel ih q p os u room reaches (letter x) xs now cs c e r l = back_char q p os u room reaches fuel ih x xs now cs c e r l

  stopped : (q p : ℕ) (os : List Open) (u : Text) (xs : List Event) (bs : List Act) → suc (length os) ≤ lim → Reaches (content_of g q) p u → (w : Text) → Rest (content_of g q) p w →
      (inside (open_at q p) os ≡ fin) × (xs ≡ []) × (bs ≡ []) → Out q os u xs bs
  stopped q p os u xs bs room reaches w r s =
      inr (record {
        deep = 0;
        still = still_is (sym s.1) (sym s.2) refl (here [] tt w (reaches w r));
        fits = omega arith;
        top = open_at q p;
        under = os;
        is_inside = sym s.0;
      })

  back : (fuel : ℕ) → Outs fuel
  back zero q p os u xs bs room reaches w r m l =
      ⊎_elim (stopped q p os u xs bs room reaches w r)
      (λ f. let h : length xs ≡ suc (length f.later) = ap length f.are_events in absurd (omega arith))
      (front m)
  back (suc fuel) q p os u xs bs room reaches w r m l =
      ⊎_elim (stopped q p os u xs bs room reaches w r)
      (λ f.
      let h : length xs ≡ suc (length f.later) = ap length f.are_events in
      let b = back_by fuel (λ q p os u xs bs room reaches w r m l. back fuel q p os u xs bs room reaches w r m l) q p os u room reaches
      f.event f.later f.now f.then_acts f.to f.moved f.rest (omega arith) in
      subst (λ (z : List Event). Out q os u z bs) (sym f.are_events) (subst (Out q os u (f.event ∷ f.later)) (sym f.are_acts) b))
      (front m)

-- the tree of a run that ends with the root closed, and the open tree of one that ends inside
pub record Of-tree (g : List Production) (n lim : ℕ) (xs : List Event) (bs : List Act) : Type 0 where
  pub root : Element g n
  pub are_events : yield root ≡ xs
  pub are_acts : line root ≡ bs
  pub fits : element_depth root ≤ lim

pub record Of-open (g : List Production) (n lim : ℕ) (xs : List Event) (bs : List Act) : Type 0 where
  pub deep : ℕ
  pub root : Opened g n xs bs deep
  pub fits : deep ≤ lim

after_ends : {g : List Production} {n lim : ℕ} {c : Control} {xs : List Event} {bs : List Act} {c'' : Control} → Moves g n lim c xs bs c'' → c ≡ after →
    (xs ≡ []) × (bs ≡ []) × (c ≡ c'')
after_ends stay e = (refl, refl, refl)
after_ends {g} {n} {lim} (then {c' = c'} x bs q r) e = absurd (no_more (ap (λ (z : Control). move g n lim z x) (sym e) ∙ q))
  where
    no_more : refuse 26 ≡ go bs c' → ⊥
    no_more h = let z : ◌≡◌ {A = ℕ} 0 1 = cc in omega arith

module _ (g : List Production) (n lim : ℕ) (fin : Control) (one : 1 ≤ lim) where
  -- what a run that has begun is the run of
  abbrev Of : List Event → List Act → Type 0
  Of xs bs = (Of-tree g n lim xs bs × (fin ≡ after)) ⊎ (Of-open g n lim xs bs × ((o : Open) × (os : List Open) × (fin ≡ inside o os)))

  root_closed : (t q : ℕ) → find g n t ≡ some q → (xs : List Event) (cs : List Act) → Back g n lim fin q [] [] xs cs → Of (starts (some t) ∷ xs) (start_tag q ∷ cs)
  root_closed t q f xs cs B =
      let F = find_sound g n t q f in
      let P = unflat_C (content_of g q) B.parts B.word in
      let child : Children g (content_of g q) = P.0 in
      let P1 : flat_C child ≡ B.parts = P.1 in
      let x1 : yield_C child ≡ events B.parts = flat_C_events child ∙ ap events P1 in
      let y1 : line_C child q ≡ acts_in q B.parts = flat_C_line child q ∙ ap (acts_in q) P1 in
      let z1 : depth_C child ≡ depths B.parts = flat_C_depth child ∙ ap depths P1 in
      let fit : 1 + depths B.parts ≤ lim = B.fits in
      let A = after_ends B.rest refl in
      inl (
        record {
          root = element q F.0 child;
          are_events =
              ap (λ (z : ℕ). starts (some z) ∷ (yield_C child ++ ends (some (tag_of g q)) ∷ [])) F.1
              ∙ ap (λ (z : List Event). starts (some t) ∷ z) (ap (λ (z : List Event). z ++ ends (some (tag_of g q)) ∷ []) x1
              ∙ ap (λ (z : List Event). events B.parts ++ ends (some (tag_of g q)) ∷ z) (sym A.0) ∙ sym B.are_events);
          are_acts =
              ap (λ (z : List Act). start_tag q ∷ z) (ap (λ (z : List Act). z ++ end_tag q ∷ []) y1
              ∙ ap (λ (z : List Act). acts_in q B.parts ++ end_tag q ∷ z) (sym A.1) ∙ sym B.are_acts);
          fits = omega arith;
        },
        sym A.2,
      )

  root_open : (t q : ℕ) → find g n t ≡ some q → (xs : List Event) (cs : List Act) → Opens g n lim fin q [] [] xs cs → Of (starts (some t) ∷ xs) (start_tag q ∷ cs)
  root_open t q f xs cs S =
      let F = find_sound g n t q f in
      let fit : 1 + S.deep ≤ lim = S.fits in
      inr (
        record {
          deep = suc S.deep;
          root = subst (λ (z : ℕ). Opened g n (starts (some z) ∷ xs) (start_tag q ∷ cs) (suc S.deep)) F.1 (opened_of F.0 S.still);
          fits = omega arith;
        },
        (S.top, S.under, S.is_inside),
      )

  run_by : (x : Event) (xs : List Event) (now cs : List Act) (c : Control) → move g n lim before x ≡ go now c → Moves g n lim c xs cs fin → Of (x ∷ xs) (now ++ cs)
  run_by (starts none) xs now cs c e r = absurd (let z : ◌≡◌ {A = ℕ} 0 1 = cc in omega arith)
  run_by (starts (some t)) xs now cs c e r = by_found (find g n t) refl e
    where
      by_found : (f : Option ℕ) → find g n t ≡ f → root_by f ≡ go now c → Of (starts (some t) ∷ xs) (now ++ cs)
      by_found none q e = absurd (let z : ◌≡◌ {A = ℕ} 0 1 = cc in omega arith)
      by_found (some q) f e =
          let i = go_inj (start_tag q ∷ []) now (inside (at_start q) []) c e in
          let s = start_live (content_of g q) in
          subst (λ (z : List Act). Of (starts (some t) ∷ xs) (z ++ cs)) i.0
          (⊎_elim (root_closed t q f xs cs) (root_open t q f xs cs)
          (back g n lim fin (length xs) q 0 [] [] xs cs (omega arith) (reaches_start (content_of g q)) s.0 s.1
          (subst (λ (z : Control). Moves g n lim z xs cs fin) (sym i.1) r) (omega arith)))
  run_by (ends t) xs now cs c e r = absurd (let z : ◌≡◌ {A = ℕ} 0 1 = cc in omega arith)
  run_by (letter x) xs now cs c e r = absurd (let z : ◌≡◌ {A = ℕ} 0 1 = cc in omega arith)

  pub run_of : (xs : List Event) (bs : List Act) → Moves g n lim before xs bs fin → (before ≡ fin → ⊥) → Of xs bs
  run_of xs bs m d =
      ⊎_elim (λ s. absurd (d s.0))
      (λ f.
      let o = run_by f.event f.later f.now f.then_acts f.to f.moved f.rest in
      subst (λ (z : List Event). Of z bs) (sym f.are_events) (subst (Of (f.event ∷ f.later)) (sym f.are_acts) o))
      (front g n lim fin m)

before_after : before ≡ after → ⊥
before_after e = let z : ◌≡◌ {A = ℕ} 0 1 = cc in omega arith

before_inside : (o : Open) (os : List Open) → before ≡ inside o os → ⊥
before_inside o os e = let z : ◌≡◌ {A = ℕ} 0 1 = cc in omega arith

after_inside : (o : Open) (os : List Open) → after ≡ inside o os → ⊥
after_inside o os e = let z : ◌≡◌ {A = ℕ} 0 1 = cc in omega arith

pub sound : (g : List Production) (n lim : ℕ) → 1 ≤ lim → (xs : List Event) (bs : List Act) → Moves g n lim before xs bs after → Of-tree g n lim xs bs
sound g n lim one xs bs m = ⊎_elim (λ t. t.0) (λ o. absurd (after_inside o.1.0 o.1.1 o.1.2)) (run_of g n lim after one xs bs m before_after)

pub sound_open : (g : List Production) (n lim : ℕ) → 1 ≤ lim → (xs : List Event) (bs : List Act) (o : Open) (os : List Open) → Moves g n lim before xs bs (inside o os) →
    Of-open g n lim xs bs
sound_open g n lim one xs bs o os m =
    ⊎_elim (λ t. absurd (after_inside o os (sym t.1))) (λ r. r.0) (run_of g n lim (inside o os) one xs bs m (before_inside o os))
