-- What one move of the control tells: the way that it went, the acts and where it stands then; and that what has been read so far goes with whatever
-- may come after the new place, since it did so at the place before (`Swap`).
-- Assumes nothing.
use mathlib.Core.Path.{◌≡◌, refl, sym, ◌∙◌, ap, subst}
use mathlib.Core.Bool.{Bool, true, false}
use mathlib.Core.List.{List, [], ◌∷◌, ◌++◌, append_assoc}
use mathlib.Core.Option.{Option, none, some}
use Prim.Native.Nat.{ℕ, zero, suc, ◌+◌, ◌≤◌}
use native.Mathlib.Omega.{arith}
use lib.Dec.{leb}
use lib.ListN.{length}
use borrow.Author.Tests.{eqb-true, leb-true}
use Rattle.expressions.specs.Expr.{Atom, nonterminal, anychar, Content, nothing, tree}
use Rattle.expressions.specs.Words.{Bracket, Sym, br, at, ◌▷◌, Words}
use Rattle.expressions.specs.Grammar.{tag, character, Production, tags_of}
use Rattle.expressions.specs.Grammar.{content_of}
use Rattle.runs.specs.Lookup.{tag_of, find}
use Rattle.runs.specs.Events.{starts, ends, letter}
use Rattle.runs.specs.Way.{Way, end_way, atom_way}
use Rattle.runs.specs.Acts.{Act, start_tag, end_tag, letter_read, bracket_act, bracket_acts}
use Rattle.runs.specs.Machine.{Open, at_place_lem, at_start, Control, inside, go, outer, opening_up, start_at, start_by, production_for, end_by, same_tag, own_tag, char_by, move}
use Rattle.runs.specs.Line.{Part, mark, skeleton, events, acts_in, depths}
use Rattle.expressions.proofs.Strings.{▷-left}
use Rattle.expressions.proofs.Rule.{Rest}
use Rattle.runs.proofs.Swap.{swap}
use Rattle.runs.proofs.Moves.{refuse_go, go_inj}
use Rattle.runs.proofs.Complete.{past}

abbrev Str : Type 0
Str = List Bracket

abbrev Text : Type 0
Text = List Sym

-- what has been read goes with whatever may come after the place
abbrev pub Reaches : Content → ℕ → Text → Type 0
Reaches e p u = (w : Text) → Rest e p w → Words e (u ++ w)

-- it does so after the next atom too
pub reaches_on : (e : Content) (p j : ℕ) (k : Atom) (u : Text) (α : Str) (s : Text) → 1 ≤ j → Reaches e p u → Rest e p (α ▷ at j k ∷ s) →
    Reaches e j (u ++ (α ▷ at j k ∷ []))
reaches_on nothing p j k u α s h r a w b = absurd (none_there p j α k s w h a b)
  where
    none_there : (p j : ℕ) (α : Str) (k : Atom) (s w : Text) → 1 ≤ j → Rest nothing p (α ▷ at j k ∷ s) → Rest nothing j w → ⊥
    none_there p zero α k s w h a b = omega arith
    none_there p (suc j) α k s w h a b = b
reaches_on (tree e) p zero k u α s h r a w b = absurd (omega arith)
reaches_on (tree e) p (suc j) k u α s h r a w b =
    let v : Text = u ++ (α ▷ []) in
    let front : (z : Text) → u ++ (α ▷ at (suc j) k ∷ z) ≡ v ++ at (suc j) k ∷ z =
    λ z. ap (λ (y : Text). u ++ y) (sym (▷-left α [] (at (suc j) k ∷ z))) ∙ sym (append_assoc u (α ▷ []) (at (suc j) k ∷ z)) in
    subst (Words (tree e)) (sym (front w) ∙ past u α (at (suc j) k) w)
    (swap e 1 1 (suc j) k (u ++ (α ▷ at (suc j) k ∷ s)) (r (α ▷ at (suc j) k ∷ s) a) v s (front s) w b)

unfoldable pub marks : {g : List Production} → Str → List (Part g)
marks [] = []
marks (c ∷ α) = mark c ∷ marks α

module _ {g : List Production} where
  pub marks_skeleton : (α : Str) (fs : List (Part g)) → skeleton (marks α ++ fs) ≡ α ▷ skeleton fs
  unfolding marks
  marks_skeleton [] fs = refl
  marks_skeleton (c ∷ α) fs = ap (λ (z : Text). br c ∷ z) (marks_skeleton α fs)

  pub marks_events : (α : Str) (fs : List (Part g)) → events (marks α ++ fs) ≡ events fs
  unfolding marks
  marks_events [] fs = refl
  marks_events (c ∷ α) fs = marks_events α fs

  pub marks_acts : (q : ℕ) (α : Str) (fs : List (Part g)) → acts_in q (marks α ++ fs) ≡ bracket_acts q α ++ acts_in q fs
  unfolding marks
  marks_acts q [] fs = refl
  marks_acts q (c ∷ α) fs = ap (λ (z : List Act). bracket_act q c ∷ z) (marks_acts q α fs)

  pub marks_depths : (α : Str) (fs : List (Part g)) → depths (marks α ++ fs) ≡ depths fs
  unfolding marks
  marks_depths [] fs = refl
  marks_depths (c ∷ α) fs = let h = marks_depths α fs in omega arith

pub same_tag_is : (t : Option ℕ) (u : ℕ) → same_tag t u ≡ true → t ≡ some u
same_tag_is none u e = absurd (let z : ◌≡◌ {A = ℕ} 0 1 = cc in omega arith)
same_tag_is (some t) u e = ap some (eqb-true t u e)

-- what a move tells
module _ (g : List Production) (lim : ℕ) (o : Open) (os : List Open) where
  pub record Started (t : ℕ) (bs : List Act) (c : Control) : Type 0 where
    pub by : Way
    pub is_way : atom_way (tags_of g) (content_of g o.production) o.place (tag t) ≡ some by
    pub nonterm : ℕ
    pub is_kind : by.kind ≡ nonterminal nonterm
    pub production : ℕ
    pub is_found : find g nonterm t ≡ some production
    pub room : suc (suc (length os)) ≤ lim
    pub are_acts : bs ≡ bracket_acts o.production by.string ++ start_tag production ∷ []
    pub is_control : c ≡ inside (at_start production) (at_place_lem o by.place ∷ os)

  pub record Read (x : ℕ) (bs : List Act) (c : Control) : Type 0 where
    pub by : Way
    pub is_way : atom_way (tags_of g) (content_of g o.production) o.place character ≡ some by
    pub are_acts : bs ≡ bracket_acts o.production by.string ++ letter_read x ∷ []
    pub is_control : c ≡ inside (at_place_lem o by.place) os

  pub record Ended (t : Option ℕ) (bs : List Act) (c : Control) : Type 0 where
    pub by : Str
    pub is_way : end_way (content_of g o.production) o.place ≡ some by
    pub is_tag : t ≡ some (tag_of g o.production)
    pub are_acts : bs ≡ bracket_acts o.production by ++ end_tag o.production ∷ []
    pub is_control : c ≡ outer os

  pub started : (n t : ℕ) (bs : List Act) (c : Control) → move g n lim (inside o os) (starts (some t)) ≡ go bs c → Started t bs c
  started n t bs c e = by_way (atom_way (tags_of g) (content_of g o.production) o.place (tag t)) refl e
    where
      by_room : (w : Way) → atom_way (tags_of g) (content_of g o.production) o.place (tag t) ≡ some w → (m : ℕ) → w.kind ≡ nonterminal m →
          (q : ℕ) → find g m t ≡ some q → (b : Bool) → leb (suc (suc (length os))) lim ≡ b →
          opening_up b (bracket_acts o.production w.string ++ start_tag q ∷ []) (inside (at_start q) (at_place_lem o w.place ∷ os)) ≡ go bs c → Started t bs c
      by_room w iw m ik q iq true ib e =
          let i = go_inj (bracket_acts o.production w.string ++ start_tag q ∷ []) bs (inside (at_start q) (at_place_lem o w.place ∷ os)) c e in
          record {
            by = w;
            is_way = iw;
            nonterm = m;
            is_kind = ik;
            production = q;
            is_found = iq;
            room = leb-true (suc (suc (length os))) lim ib;
            are_acts = sym i.0;
            is_control = sym i.1;
          }
      by_room w iw m ik q iq false ib e = refuse_go bs c e

      by_found : (w : Way) → atom_way (tags_of g) (content_of g o.production) o.place (tag t) ≡ some w → (m : ℕ) → w.kind ≡ nonterminal m →
          (f : Option ℕ) → find g m t ≡ f → start_at lim o os w f ≡ go bs c → Started t bs c
      by_found w iw m ik none iq e = refuse_go bs c e
      by_found w iw m ik (some q) iq e = by_room w iw m ik q iq (leb (suc (suc (length os))) lim) refl e

      by_kind : (w : Way) → atom_way (tags_of g) (content_of g o.production) o.place (tag t) ≡ some w → (k : Atom) → w.kind ≡ k →
          start_at lim o os w (production_for g k t) ≡ go bs c → Started t bs c
      by_kind w iw (nonterminal m) ik e = by_found w iw m ik (find g m t) refl e
      by_kind w iw anychar ik e = refuse_go bs c e

      by_way : (f : Option Way) → atom_way (tags_of g) (content_of g o.production) o.place (tag t) ≡ f → start_by g lim o os t f ≡ go bs c → Started t bs c
      by_way none iw e = refuse_go bs c e
      by_way (some w) iw e = by_kind w iw w.kind refl e

  pub was_read : (n x : ℕ) (bs : List Act) (c : Control) → move g n lim (inside o os) (letter x) ≡ go bs c → Read x bs c
  was_read n x bs c e = by_way (atom_way (tags_of g) (content_of g o.production) o.place character) refl e
    where
      by_way : (f : Option Way) → atom_way (tags_of g) (content_of g o.production) o.place character ≡ f → char_by o os x f ≡ go bs c → Read x bs c
      by_way none iw e = refuse_go bs c e
      by_way (some w) iw e =
          let i = go_inj (bracket_acts o.production w.string ++ letter_read x ∷ []) bs (inside (at_place_lem o w.place) os) c e in
          record { by = w; is_way = iw; are_acts = sym i.0; is_control = sym i.1 }

  pub ended : (n : ℕ) (t : Option ℕ) (bs : List Act) (c : Control) → move g n lim (inside o os) (ends t) ≡ go bs c → Ended t bs c
  ended n t bs c e = by_tag (same_tag t (tag_of g o.production)) refl e
    where
      by_way : t ≡ some (tag_of g o.production) → (f : Option Str) → end_way (content_of g o.production) o.place ≡ f → end_by o os f ≡ go bs c → Ended t bs c
      by_way it none iw e = refuse_go bs c e
      by_way it (some α) iw e =
          let i = go_inj (bracket_acts o.production α ++ end_tag o.production ∷ []) bs (outer os) c e in
          record { by = α; is_way = iw; is_tag = it; are_acts = sym i.0; is_control = sym i.1 }

      by_tag : (b : Bool) → same_tag t (tag_of g o.production) ≡ b → own_tag b (end_by o os (end_way (content_of g o.production) o.place)) ≡ go bs c → Ended t bs c
      by_tag true ib e = by_way (same_tag_is t (tag_of g o.production) ib) (end_way (content_of g o.production) o.place) refl e
      by_tag false ib e = refuse_go bs c e
