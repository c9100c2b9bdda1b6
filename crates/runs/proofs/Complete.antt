-- Under rules T and S the control goes over the events of a tree by the acts of that tree: over the parts of its parse one after the other, with the
-- brackets since the last atom gathered on the way. By rule S those brackets are the string that the machine finds, by rule T its production is the one.
-- Assumes nothing.
use mathlib.Core.Path.{◌≡◌, refl, sym, ◌∙◌, ap, subst}
use mathlib.Core.Bool.{Bool, true}
use mathlib.Core.List.{List, [], ◌∷◌, ◌++◌, append_assoc, append-nil}
use mathlib.Core.Option.{some}
use Prim.Native.Nat.{ℕ, zero, suc, ◌+◌, ◌≤◌}
use native.Mathlib.Omega.{arith}
use lib.Dec.{leb}
use lib.ListN.{length}
use borrow.Author.Tests.{eq-eqb, le-leb}
use Rattle.expressions.specs.Expr.{Atom, nonterminal, anychar, Exp, nodes, atoms, Content}
use Rattle.expressions.specs.Words.{Bracket, closing, Sym, at, ◌▷◌, Words}
use Rattle.expressions.specs.Grammar.{Next, tag, character, end, can_be, Production, tags_of}
use Rattle.expressions.specs.Fault.{UpTo, Fault}
use Rattle.expressions.specs.Decide.{count}
use Rattle.expressions.specs.Grammar.{content_of}
use Rattle.runs.specs.Lookup.{tag_of, find}
use Rattle.runs.specs.Events.{Event, starts, ends, letter}
use Rattle.runs.specs.Parse.{Element, element, Children, childless, children, Parse, child, one_char, pair, first_of, second_of, repeat, void, Parses, done, next, yield, yield_C, element_depth, depth_C}
use Rattle.runs.specs.Way.{Way, end_way, atom_way}
use Rattle.runs.specs.Acts.{Act, start_tag, end_tag, letter_read, bracket_act, bracket_acts}
use Rattle.runs.specs.Machine.{Open, at_start, before, inside, after, go, outer, opening_up, start_at, start_by, root_by, end_by, own_tag, char_by, move}
use Rattle.runs.specs.Line.{line, line_C, Part, mark, filled, lettered, skeleton, events, acts_in, depths}
use Rattle.expressions.proofs.Strings.{▷-append, ▷-left}
use Rattle.expressions.proofs.Counted.{End, Go}
use Rattle.expressions.proofs.Rule.{Rest, rest_of, many_fault}
use Rattle.runs.proofs.Rules.{NoTFault, NoSFault}
use Rattle.expressions.proofs.Rule.{classed_count, one_way}
use Rattle.runs.proofs.Parts.{enclose, flat, flats, flat_C, flat_C_word, flat_C_line, flat_C_events, flat_C_depth}
use Rattle.runs.proofs.Ways.{GoesTo, end_found, atom_found}
use Rattle.runs.proofs.Atoms.{one_atom_each, atom_pos}
use Rattle.runs.proofs.Find.{produces_memb, find_it}
use Rattle.runs.proofs.Moves.{Moves, stay, then, moves_append}

abbrev Str : Type 0
Str = List Bracket

abbrev Text : Type 0
Text = List Sym

abbrev pub way : Str → ℕ → Atom → Way
way α j k = record { string = α; place = j; kind = k }

-- the machine's bracket string is the only one
module _ (tags : ℕ → List ℕ) (e : Content) (p : ℕ) where
  pub end_is : (Fault tags e p end → ⊥) → (α : Str) → Rest e p (α ▷ []) → end_way e p ≡ some α
  end_is no_fault α a =
      let f = end_found tags e p α a in
      f.1 ∙ ap some (one_way (End (Rest e p)) (count tags e p end) (classed_count tags e p end) (λ m. no_fault (many_fault tags e p end m)) f.0 α f.2 a)

  atom_is : (x : Next) → ((α β : Str) → Go tags (Rest e p) x α → Go tags (Rest e p) x β → α ≡ β) →
      (α : Str) (j : ℕ) (k : Atom) (s : Text) → can_be tags k x ≡ true → Rest e p (α ▷ at j k ∷ s) → atom_way tags e p x ≡ some (way α j k)
  atom_is x unique α j k s c a =
      let f = atom_found tags x e p α (j, k, s, c, a) in
      let w : Way = f.0 in
      let g : GoesTo tags x (Rest e p) w = f.2 in
      let q : w.string ≡ α = unique w.string α (w.place, w.kind, g.0, g.1, g.2) (j, k, s, c, a) in
      let b : Rest e p (α ▷ at w.place w.kind ∷ g.0) = subst (λ (z : Str). Rest e p (z ▷ at w.place w.kind ∷ g.0)) q g.2 in
      let o = one_atom_each e p α w.place j w.kind k g.0 s b a in
      let r : w.place ≡ j = o.0 in
      let t : w.kind ≡ k = o.1 in
      f.1 ∙ (λ i. some (record { string = q i; place = r i; kind = t i }))

  pub tag_is : (t : ℕ) → (Fault tags e p (tag t) → ⊥) → (α : Str) (j : ℕ) (k : Atom) (s : Text) → can_be tags k (tag t) ≡ true →
      Rest e p (α ▷ at j k ∷ s) → atom_way tags e p (tag t) ≡ some (way α j k)
  tag_is t no_fault = atom_is (tag t) (one_way (Go tags (Rest e p) (tag t)) (count tags e p (tag t)) (classed_count tags e p (tag t)) (λ m. no_fault (many_fault tags e p (tag t) m)))

  pub char_is : (Fault tags e p character → ⊥) → (α : Str) (j : ℕ) (k : Atom) (s : Text) → can_be tags k character ≡ true →
      Rest e p (α ▷ at j k ∷ s) → atom_way tags e p character ≡ some (way α j k)
  char_is no_fault = atom_is character (one_way (Go tags (Rest e p) character) (count tags e p character) (classed_count tags e p character) (λ m. no_fault (many_fault tags e p character m)))

pub up_to_at : (v : Text) (j : ℕ) (k : Atom) → 1 ≤ j → UpTo j (v ++ at j k ∷ [])
up_to_at v zero k h = absurd (omega arith)
up_to_at v (suc j) k h = (v, k, refl)

pub up_to_past : (u : Text) (α : Str) (j : ℕ) (k : Atom) → 1 ≤ j → UpTo j (u ++ (α ▷ at j k ∷ []))
up_to_past u α j k h =
    subst (UpTo j) (append_assoc u (α ▷ []) (at j k ∷ []) ∙ ap (λ (z : Text). u ++ z) (▷-left α [] (at j k ∷ []))) (up_to_at (u ++ (α ▷ [])) j k h)

pub past : (u : Text) (α : Str) (q : Sym) (s : Text) → u ++ (α ▷ q ∷ s) ≡ (u ++ (α ▷ q ∷ [])) ++ s
past u α q s = ap (λ (z : Text). u ++ z) (sym (▷-left α (q ∷ []) s)) ∙ sym (append_assoc u (α ▷ q ∷ []) s)

pub visits_append : (q : ℕ) (α β : Str) → bracket_acts q (α ++ β) ≡ bracket_acts q α ++ bracket_acts q β
visits_append q [] β = refl
visits_append q (c ∷ α) β = ap (λ (z : List Act). bracket_act q c ∷ z) (visits_append q α β)

abbrev pub open_at : ℕ → ℕ → Open
open_at q p = record { production = q; place = p }

module _ (g : List Production) (n lim : ℕ) (no_T_lem : NoTFault g) (no_S_lem : NoSFault g) where
  -- from just after its start tag to just after its end tag
  abbrev pub Body : {n' : ℕ} → Element g n' → Type 0
  Body (element q h c) = (os : List Open) → suc (length os) + depth_C c ≤ lim →
      Moves g n lim (inside (at_start q) os) (yield_C c ++ ends (some (tag_of g q)) ∷ []) (line_C c q ++ end_tag q ∷ []) (outer os)

  abbrev pub AllBody : List (Part g) → Type 0
  AllBody [] = Unit {0}
  AllBody (mark c ∷ fs) = AllBody fs
  AllBody (filled j n' t ∷ fs) = Body t × AllBody fs
  AllBody (lettered j c ∷ fs) = AllBody fs

  all_append : (fs gs : List (Part g)) → AllBody fs → AllBody gs → AllBody (fs ++ gs)
  all_append [] gs a b = b
  all_append (mark c ∷ fs) gs a b = all_append fs gs a b
  all_append (filled j n' t ∷ fs) gs a b = (a.0, all_append fs gs a.1 b)
  all_append (lettered j c ∷ fs) gs a b = all_append fs gs a b

  all_enclose : (i : ℕ) (fs : List (Part g)) → AllBody fs → AllBody (enclose i fs)
  all_enclose i fs a = all_append fs (mark (closing i) ∷ []) a tt

  -- the rest of an element, from a place: α is what has been passed since, and fs what is left
  pub walk : (q : ℕ) (os : List Open) (p : ℕ) (u : Text) (α : Str) (fs : List (Part g)) → UpTo p u → Words (content_of g q) (u ++ (α ▷ skeleton fs)) →
      AllBody fs → suc (length os) + depths fs ≤ lim →
      Moves g n lim (inside (open_at q p) os) (events fs ++ ends (some (tag_of g q)) ∷ []) (bracket_acts q α ++ (acts_in q fs ++ end_tag q ∷ [])) (outer os)
  walk q os p u α [] h W a d =
      let e : Content = content_of g q in
      let w : end_way e p ≡ some α = end_is (tags_of g) e p (no_S_lem q p end) α (rest_of e p u _ h W) in
      let m : move g n lim (inside (open_at q p) os) (ends (some (tag_of g q))) ≡ go (bracket_acts q α ++ end_tag q ∷ []) (outer os) =
      ap (λ (b : Bool). own_tag b (end_by (open_at q p) os (end_way e p))) (eq-eqb (tag_of g q) (tag_of g q) refl) ∙ ap (end_by (open_at q p) os) w in
      subst (λ (z : List Act). Moves g n lim (inside (open_at q p) os) (ends (some (tag_of g q)) ∷ []) z (outer os)) (append-nil (bracket_acts q α ++ end_tag q ∷ []))
      (then (ends (some (tag_of g q))) (bracket_acts q α ++ end_tag q ∷ []) m stay)
  walk q os p u α (mark c ∷ fs) h W a d =
      let i = walk q os p u (α ++ c ∷ []) fs h
      (subst (λ (z : Text). Words (content_of g q) (u ++ z)) (sym (▷-append α (c ∷ []) (skeleton fs))) W) a (omega arith) in
      subst (λ (z : List Act). Moves g n lim (inside (open_at q p) os) (events fs ++ ends (some (tag_of g q)) ∷ []) z (outer os))
      (ap (λ (z : List Act). z ++ (acts_in q fs ++ end_tag q ∷ [])) (visits_append q α (c ∷ [])) ∙ append_assoc (bracket_acts q α) (bracket_act q c ∷ []) (acts_in q fs ++ end_tag q ∷ [])) i
  walk q os p u α (filled j n' (element q' h' c') ∷ fs) h W a d =
      let e : Content = content_of g q in
      let k : Atom = nonterminal n' in
      let t : ℕ = tag_of g q' in
      let R : Rest e p (α ▷ at j k ∷ skeleton fs) = rest_of e p u _ h W in
      let w : atom_way (tags_of g) e p (tag t) ≡ some (way α j k) = tag_is (tags_of g) e p t (no_S_lem q p (tag t)) α j k (skeleton fs) (produces_memb g n' q' h') R in
      let f : find g n' t ≡ some q' = find_it g no_T_lem n' q' h' in
      let l : leb (suc (suc (length os))) lim ≡ true = le-leb (suc (suc (length os))) lim (omega arith) in
      let m : move g n lim (inside (open_at q p) os) (starts (some t)) ≡ go (bracket_acts q α ++ start_tag q' ∷ []) (inside (at_start q') (open_at q j ∷ os)) =
      ap (start_by g lim (open_at q p) os t) w ∙ ap (start_at lim (open_at q p) os (way α j k)) f
      ∙ ap (λ (b : Bool). opening_up b (bracket_acts q α ++ start_tag q' ∷ []) (inside (at_start q') (open_at q j ∷ os))) l in
      let b = a.0 (open_at q j ∷ os) (omega arith) in
      let i = walk q os j (u ++ (α ▷ at j k ∷ [])) [] fs (up_to_past u α j k (atom_pos e p α j k (skeleton fs) R))
      (subst (Words e) (past u α (at j k) (skeleton fs)) W) a.1 (omega arith) in
      let x : List Event = yield_C c' ++ ends (some t) ∷ [] in
      let y : List Event = ends (some (tag_of g q)) ∷ [] in
      let x' : List Act = line_C c' q' ++ end_tag q' ∷ [] in
      let y' : List Act = acts_in q fs ++ end_tag q ∷ [] in
      subst (λ (z : List Act). Moves g n lim (inside (open_at q p) os) (starts (some t) ∷ ((x ++ events fs) ++ y)) z (outer os))
      (append_assoc (bracket_acts q α) (start_tag q' ∷ []) (x' ++ y') ∙ ap (λ (z : List Act). bracket_acts q α ++ start_tag q' ∷ z) (sym (append_assoc x' (acts_in q fs) (end_tag q ∷ []))))
      (subst (λ (z : List Event). Moves g n lim (inside (open_at q p) os) (starts (some t) ∷ z) ((bracket_acts q α ++ start_tag q' ∷ []) ++ (x' ++ y')) (outer os))
      (sym (append_assoc x (events fs) y))
      (then (starts (some t)) (bracket_acts q α ++ start_tag q' ∷ []) m (moves_append b i)))
  walk q os p u α (lettered j c ∷ fs) h W a d =
      let e : Content = content_of g q in
      let R : Rest e p (α ▷ at j anychar ∷ skeleton fs) = rest_of e p u _ h W in
      let w : atom_way (tags_of g) e p character ≡ some (way α j anychar) = char_is (tags_of g) e p (no_S_lem q p character) α j anychar (skeleton fs) refl R in
      let m : move g n lim (inside (open_at q p) os) (letter c) ≡ go (bracket_acts q α ++ letter_read c ∷ []) (inside (open_at q j) os) = ap (char_by (open_at q p) os c) w in
      let i = walk q os j (u ++ (α ▷ at j anychar ∷ [])) [] fs (up_to_past u α j anychar (atom_pos e p α j anychar (skeleton fs) R))
      (subst (Words e) (past u α (at j anychar) (skeleton fs)) W) a (omega arith) in
      subst (λ (z : List Act). Moves g n lim (inside (open_at q p) os) (letter c ∷ (events fs ++ ends (some (tag_of g q)) ∷ [])) z (outer os))
      (append_assoc (bracket_acts q α) (letter_read c ∷ []) (acts_in q fs ++ end_tag q ∷ []))
      (then (letter c) (bracket_acts q α ++ letter_read c ∷ []) m i)

  mutual
    pub body : {n' : ℕ} (t : Element g n') → Body t
    body (element q h c) = λ os d.
        let f = flat_C_depth c in
        let w = walk q os 0 [] [] (flat_C c) refl (flat_C_word c) (body_C c) (omega arith) in
        subst (λ (z : List Event). Moves g n lim (inside (at_start q) os) (z ++ ends (some (tag_of g q)) ∷ []) (line_C c q ++ end_tag q ∷ []) (outer os)) (sym (flat_C_events c))
        (subst (λ (z : List Act). Moves g n lim (inside (at_start q) os) (events (flat_C c) ++ ends (some (tag_of g q)) ∷ []) (z ++ end_tag q ∷ []) (outer os)) (sym (flat_C_line c q)) w)

    body_C : {c : Content} (p : Children g c) → AllBody (flat_C p)
    body_C childless = tt
    body_C (children p) = body_P p 1 1

    body_P : {e : Exp} (p : Parse g e) (i j : ℕ) → AllBody (flat p i j)
    body_P (child {n = n'} t) i j = (body t, tt)
    body_P (one_char c) i j = tt
    body_P (pair {l} a b) i j =
        all_enclose i (flat a (suc i) j ++ flat b (suc i + nodes l) (j + atoms l))
        (all_append (flat a (suc i) j) (flat b (suc i + nodes l) (j + atoms l)) (body_P a (suc i) j) (body_P b (suc i + nodes l) (j + atoms l)))
    body_P (first_of a) i j = all_enclose i (flat a (suc i) j) (body_P a (suc i) j)
    body_P (second_of {l} b) i j = all_enclose i (flat b (suc i + nodes l) (j + atoms l)) (body_P b (suc i + nodes l) (j + atoms l))
    body_P (repeat ps) i j = all_enclose i (flats ps (suc i) j) (body_ps ps (suc i) j)
    body_P void i j = tt

    body_ps : {e : Exp} (ps : Parses g e) (i j : ℕ) → AllBody (flats ps i j)
    body_ps done i j = tt
    body_ps (next p ps) i j = all_append (flat p i j) (flats ps i j) (body_P p i j) (body_ps ps i j)

  pub complete : (t : Element g n) → element_depth t ≤ lim → Moves g n lim before (yield t) (line t) after
  complete (element q h c) d =
      then (starts (some (tag_of g q))) (start_tag q ∷ []) (ap root_by (find_it g no_T_lem n q h)) (body (element q h c) [] (omega arith))
