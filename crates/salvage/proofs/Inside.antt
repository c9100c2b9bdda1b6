-- Inside a record `<R>` is refused with 23 and the root's end tag with 22. Every open element but the lowest is of a production that an expression names, so none of them is the root's: none
-- has the root's tag, and no expression of theirs names the records' nonterminal.
-- Assumes nothing.
use mathlib.Core.Path.{◌≡◌, refl, sym, ap, ◌∙◌, subst}
use mathlib.Core.Bool.{Bool, true, false, ◌||◌, ◌&&◌, true≢false}
use mathlib.Core.List.{List, [], ◌∷◌, ◌++◌}
use mathlib.Core.Option.{Option, none, some}
use Prim.Native.Nat.{ℕ, zero, suc, ◌+◌, ◌<◌}
use native.Mathlib.Omega.{arith}
use lib.Dec.{T, eqb, leb}
use lib.ListN.{length, take, drop}
use borrow.Author.Tests.{eqb-true, eq-eqb}
use Rattle.expressions.specs.Expr.{Atom, nonterminal, anychar, Exp, atom, cat, alt, star, empty, nodes, atoms, Content, nothing, tree}
use Rattle.expressions.specs.Words.{Bracket}
use Rattle.expressions.specs.Grammar.{Production, tags_of, content_of, memb, can_be, Next, tag, character}
use Rattle.tokens.specs.declared.Event.{Event as ReadEvent}
use Rattle.tokens.specs.declared.Event.TheVariants.{Start, End, Empty, Character}
use Rattle.sheet.specs.Sheet.{Sheet}
use Rattle.runs.specs.Options.{or_else, when_true}
use Rattle.runs.specs.Lookup.{tag_of, produces, find}
use Rattle.runs.specs.Visits.{grammar}
use Rattle.runs.specs.Execute.{name_of}
use Rattle.runs.specs.Events.{Event, starts, ends, letter}
use Rattle.runs.specs.Acts.{Act, start_tag, bracket_acts, Store, acts}
use Rattle.runs.specs.Way.{Way, led, opened, through, into, out_of_lem, across, end_way, atom_way}
use Rattle.runs.specs.Machine.{Open, Control, before, inside, after, Turn, refuse, go, at_place_lem, at_start, most, opening_up, start_at, production_for, start_by, root_by, outer, end_by, same_tag, own_tag, char_by, move, Configuration, Answer, took, refused, acted, turned, step, finished, onward, run, answered}
use Rattle.runs.specs.Spells.{Token, start_token, end_token, empty_token, literal, reference, events_of_token, is_blank, passes_at, unless_blank, step_token}
use Rattle.runs.proofs.Find.{find_sound, produces_memb}
use Rattle.calls.specs.Names.{tag_named, character_token, token_of}
use Rattle.calls.specs.Limits.{taken, refuses, within, one_token}
use Rattle.calls.proofs.Names.{named_is}
use Rattle.calls.proofs.Steps.{takes_one}
use Rattle.salvage.specs.Shape.{RecordTags, names_it, content_names, OfShape}
use Rattle.salvage.specs.Salvage.{root_only}

or_false : (b c : Bool) → b || c ≡ false → (b ≡ false) × (c ≡ false)
or_false true c h = absurd (true≢false h)
or_false false c h = (refl, h)

is_true : (b : Bool) → T b → b ≡ true
is_true true h = refl
is_true false h = absurd h

-- a way leads to an atom that the expression has: not to a nonterminal that it does not name
module _ (tags : ℕ → List ℕ) (x : Next) (m : ℕ) where
  abbrev Apart : Option Way → Type 0
  Apart none = Unit {0}
  Apart (some w) = w.kind ≡ nonterminal m → ⊥

  when_apart : (b : Bool) (w : Way) → (w.kind ≡ nonterminal m → ⊥) → Apart (when_true b w)
  when_apart true w h = h
  when_apart false w h = tt

  opened_apart : (i : ℕ) (o : Option Way) → Apart o → Apart (opened i o)
  opened_apart i none h = tt
  opened_apart i (some w) h = h

  else_apart : (o o' : Option Way) → Apart o → Apart o' → Apart (or_else o o')
  else_apart none o' h k = k
  else_apart (some w) o' h k = h

  led_apart : (s : Option (List Bracket)) (o : Option Way) → Apart o → Apart (led s o)
  led_apart none o h = tt
  led_apart (some α) none h = tt
  led_apart (some α) (some w) h = h

  atom_apart : (k : Atom) → names_it m (atom k) ≡ false → k ≡ nonterminal m → ⊥
  atom_apart (nonterminal k) h e = true≢false (sym (eq-eqb m k (let i : k ≡ m = cc in sym i)) ∙ h)
  atom_apart anychar h e = let y : ◌≡◌ {A = ℕ} 0 1 = cc in omega arith

  into_apart : (e : Exp) (i j : ℕ) → names_it m e ≡ false → Apart (into tags e i j x)
  into_apart (atom k) i j h =
      opened_apart i (when_true (can_be tags k x) (record { string = []; place = j; kind = k })) (when_apart (can_be tags k x) (record { string = []; place = j; kind = k }) (atom_apart k h))
  into_apart (cat l r) i j h =
      let (a, b) = or_false (names_it m l) (names_it m r) h in
      let q : Option Way = into tags r (suc i + nodes l) (j + atoms l) x in
      opened_apart i (or_else (into tags l (suc i) j x) (led (through l (suc i)) q))
      (else_apart (into tags l (suc i) j x) (led (through l (suc i)) q) (into_apart l (suc i) j a) (led_apart (through l (suc i)) q (into_apart r (suc i + nodes l) (j + atoms l) b)))
  into_apart (alt l r) i j h =
      let (a, b) = or_false (names_it m l) (names_it m r) h in
      let q : Option Way = into tags r (suc i + nodes l) (j + atoms l) x in
      opened_apart i (or_else (into tags l (suc i) j x) q) (else_apart (into tags l (suc i) j x) q (into_apart l (suc i) j a) (into_apart r (suc i + nodes l) (j + atoms l) b))
  into_apart (star e) i j h = opened_apart i (into tags e (suc i) j x) (into_apart e (suc i) j h)
  into_apart empty i j h = tt

  across_apart : (e : Exp) (i j p : ℕ) → names_it m e ≡ false → Apart (across tags e i j p x)
  across_apart (atom k) i j p h = tt
  across_apart (cat l r) i j p h =
      let (a, b) = or_false (names_it m l) (names_it m r) h in
      let f : Option Way = across tags l (suc i) j p x in
      let q : Option Way = into tags r (suc i + nodes l) (j + atoms l) x in
      let g : Option Way = across tags r (suc i + nodes l) (j + atoms l) p x in
      else_apart (or_else f (led (out_of_lem l (suc i) j p) q)) g
      (else_apart f (led (out_of_lem l (suc i) j p) q) (across_apart l (suc i) j p a) (led_apart (out_of_lem l (suc i) j p) q (into_apart r (suc i + nodes l) (j + atoms l) b)))
      (across_apart r (suc i + nodes l) (j + atoms l) p b)
  across_apart (alt l r) i j p h =
      let (a, b) = or_false (names_it m l) (names_it m r) h in
      else_apart (across tags l (suc i) j p x) (across tags r (suc i + nodes l) (j + atoms l) p x) (across_apart l (suc i) j p a) (across_apart r (suc i + nodes l) (j + atoms l) p b)
  across_apart (star e) i j p h =
      else_apart (across tags e (suc i) j p x) (led (out_of_lem e (suc i) j p) (into tags e (suc i) j x)) (across_apart e (suc i) j p h)
      (led_apart (out_of_lem e (suc i) j p) (into tags e (suc i) j x) (into_apart e (suc i) j h))
  across_apart empty i j p h = tt

  way_apart : (c : Content) (p : ℕ) → content_names m c ≡ false → Apart (atom_way tags c p x)
  way_apart nothing p h = tt
  way_apart (tree e) zero h = into_apart e 1 1 h
  way_apart (tree e) (suc p) h = across_apart e 1 1 (suc p) h

-- a production is of one nonterminal, and is there
produces_one : (g : List Production) (n m q : ℕ) → produces g n q ≡ true → produces g m q ≡ true → n ≡ m
produces_one [] n m q h k = absurd (true≢false (sym h))
produces_one (d ∷ ds) n m zero h k = eqb-true n d.nonterm h ∙ sym (eqb-true m d.nonterm k)
produces_one (d ∷ ds) n m (suc q) h k = produces_one ds n m q h k

pub produces_in : (g : List Production) (n q : ℕ) → produces g n q ≡ true → q < length g
produces_in [] n q h = absurd (true≢false (sym h))
produces_in (d ∷ ds) n zero h = omega arith
produces_in (d ∷ ds) n (suc q) h = let i = produces_in ds n q h in omega arith

module _ (a : Sheet) (n : ℕ) (x : RecordTags) (shape : OfShape a n x) where
  abbrev g : List Production
  g = grammar a

  abbrev st : ℕ
  st = a.start_nonterminal

  -- production q is not the root's
  abbrev Below : ℕ → Type 0
  Below q = (q < length g) × (produces g st q ≡ false)

  -- where the expression of production o does not name m, what a tag opens there is not of m
  opens_other : (m o p t : ℕ) (w : Way) (q : ℕ) → content_names m (content_of g o) ≡ false → atom_way (tags_of g) (content_of g o) p (tag t) ≡ some w → production_for g w.kind t ≡ some q →
      (q < length g) × (produces g m q ≡ false) × (tag_of g q ≡ t)
  opens_other m o p t w q h e f = by w.kind refl f
    where
      by : (k : Atom) → w.kind ≡ k → production_for g k t ≡ some q → (q < length g) × (produces g m q ≡ false) × (tag_of g q ≡ t)
      by anychar i f = absurd (let y : ◌≡◌ {A = ℕ} 0 1 = cc in omega arith)
      by (nonterminal k) i f =
          let s = find_sound g k t q f in
          let own : produces g k q ≡ true = is_true (produces g k q) s.0 in
          (produces_in g k q own, other (produces g m q) refl own, s.1)
        where
          other : (b : Bool) → produces g m q ≡ b → produces g k q ≡ true → produces g m q ≡ false
          other true j own =
              absurd (subst (Apart (tags_of g) (tag t) m) e (way_apart (tags_of g) (tag t) m (content_of g o) p h) (i ∙ ap nonterminal (produces_one g k m q own j)))
          other false j own = j

  abbrev Deep : Open → List Open → Type 0
  Deep o [] = Unit {0}
  Deep o (o' ∷ os) = Below o.production × Deep o' os

  deep_at : (o : Open) (p : ℕ) (os : List Open) → Deep o os → Deep (at_place_lem o p) os
  deep_at o p [] h = tt
  deep_at o p (o' ∷ os) h = h

  -- t is the tag of its own name
  abbrev pub Self : ℕ → Type 0
  Self t = tag_named a.names (name_of a.names t) ≡ some t

  -- the root's tag was read, and none but the lowest is the root's
  abbrev pub Fine : Control → Type 0
  Fine before = Unit {0}
  Fine (inside o os) = Self x.root_tag × Deep o os
  Fine after = Unit {0}

  abbrev FineTurn : Turn → Type 0
  FineTurn (refuse k) = Unit {0}
  FineTurn (go bs c) = Fine c

  abbrev pub EventNamed : Event → Type 0
  EventNamed (starts none) = Unit {0}
  EventNamed (starts (some t)) = Self t
  EventNamed (ends t) = Unit {0}
  EventNamed (letter c) = Unit {0}

  root_tagged : (t q : ℕ) → find g st t ≡ some q → t ≡ x.root_tag
  root_tagged t q e =
      let s = find_sound g st t q e in
      let m : memb t (x.root_tag ∷ []) ≡ true = subst (λ (l : List ℕ). memb t l ≡ true) shape.one_root (subst (λ (u : ℕ). memb u (tags_of g st) ≡ true) s.1 (produces_memb g st q s.0)) in
      by (eqb t x.root_tag) refl m
    where
      by : (b : Bool) → eqb t x.root_tag ≡ b → b || false ≡ true → t ≡ x.root_tag
      by true h m = eqb-true t x.root_tag h
      by false h m = absurd (true≢false (sym m))

  module _ (o : Open) (os : List Open) (self : Self x.root_tag) (d : Deep o os) where
    start_fine : (t : ℕ) (u : Option Way) → atom_way (tags_of g) (content_of g o.production) o.place (tag t) ≡ u → FineTurn (start_by g most o os t u)
    start_fine t none e = tt
    start_fine t (some w) e = by (production_for g w.kind t) refl
      where
        opened_fine : (b : Bool) (bs : List Act) (q : ℕ) → Below q → FineTurn (opening_up b bs (inside (at_start q) (at_place_lem o w.place ∷ os)))
        opened_fine true bs q h = (self, (h, deep_at o w.place os d))
        opened_fine false bs q h = tt

        by : (v : Option ℕ) → production_for g w.kind t ≡ v → FineTurn (start_at most o os w v)
        by none f = tt
        by (some q) f =
            let i = opens_other st o.production o.place t w q (shape.start_unnamed o.production) e f in
            opened_fine (leb (suc (suc (length os))) most) (bracket_acts o.production w.string ++ start_tag q ∷ []) q (i.0, i.1)

    end_fine : (b : Bool) (u : Option (List Bracket)) → FineTurn (own_tag b (end_by o os u))
    end_fine false u = tt
    end_fine true none = tt
    end_fine true (some α) = by os d
      where
        by : (os : List Open) → Deep o os → Fine (outer os)
        by [] d = tt
        by (o' ∷ os) d = (self, d.1)

    char_fine : (c : ℕ) (u : Option Way) → FineTurn (char_by o os c u)
    char_fine c none = tt
    char_fine c (some w) = (self, deep_at o w.place os d)

  move_fine : (c : Control) → Fine c → (e : Event) → EventNamed e → FineTurn (move g st most c e)
  move_fine before h (starts none) k = tt
  move_fine before h (starts (some t)) k = by (find g st t) refl
    where
      by : (u : Option ℕ) → find g st t ≡ u → FineTurn (root_by u)
      by none e = tt
      by (some q) e = (subst Self (root_tagged t q e) k, tt)
  move_fine before h (ends t) k = tt
  move_fine before h (letter c) k = tt
  move_fine (inside o os) h (starts none) k = tt
  move_fine (inside o os) h (starts (some t)) k = start_fine o os h.0 h.1 t (atom_way (tags_of g) (content_of g o.production) o.place (tag t)) refl
  move_fine (inside o os) h (ends t) k = end_fine o os h.0 h.1 (same_tag t (tag_of g o.production)) (end_way (content_of g o.production) o.place)
  move_fine (inside o os) h (letter c) k = char_fine o os h.0 h.1 c (atom_way (tags_of g) (content_of g o.production) o.place character)
  move_fine after h e k = tt

  abbrev FineAnswer : Answer → Type 0
  FineAnswer (took z) = Fine z.control
  FineAnswer (refused k) = Unit {0}

  abbrev pub AllNamed : List Event → Type 0
  AllNamed [] = Unit {0}
  AllNamed (e ∷ es) = EventNamed e × AllNamed es

  step_fine : (z : Configuration) → Fine z.control → (e : Event) → EventNamed e → FineAnswer (step a z e)
  step_fine z h e k = of_turn (move g st most z.control e) (move_fine z.control h e k)
    where
      of_acts : (c : Control) (m : Option Store) → Fine c → FineAnswer (acted c m)
      of_acts c none h = tt
      of_acts c (some m) h = h

      of_turn : (u : Turn) → FineTurn u → FineAnswer (turned a z.store u)
      of_turn (refuse k) h = tt
      of_turn (go bs c) h = of_acts c (acts a bs z.store) h

  run_fine : (z : Configuration) → Fine z.control → (es : List Event) → AllNamed es → FineAnswer (answered (run a z es))
  run_fine z h [] k = h
  run_fine z h (e ∷ es) k = by (step a z e) (step_fine z h e k.0) (λ y i. run_fine y i es k.1)
    where
      by : (u : Answer) → FineAnswer u → ((y : Configuration) → Fine y.control → FineAnswer (answered (run a y es))) → FineAnswer (answered (onward z (e ∷ es) u (λ y. run a y es)))
      by (took y) i f = f y i
      by (refused j) i f = tt

  token_fine : (z : Configuration) (k : Token) → Fine z.control → AllNamed (events_of_token k) → FineAnswer (step_token a z k)
  token_fine z k h f = by (is_blank k && passes_at g z.control) (run_fine z h (events_of_token k) f)
    where
      by : (b : Bool) → FineAnswer (answered (run a z (events_of_token k))) → FineAnswer (unless_blank b z (answered (run a z (events_of_token k))))
      by true i = h
      by false i = i

  pub self_named : (w : List ℕ) (t : ℕ) → tag_named a.names w ≡ some t → Self t
  self_named w t e = ap (tag_named a.names) (named_is a.names w t e).1 ∙ e

  pub read_named : (s : List ℕ) (e : ReadEvent) → AllNamed (events_of_token (token_of a s e))
  read_named s (Start from len) = (by (tag_named a.names (take len (drop from s))) refl, tt)
    where
      by : (o : Option ℕ) → tag_named a.names (take len (drop from s)) ≡ o → EventNamed (starts o)
      by none h = tt
      by (some t) h = self_named (take len (drop from s)) t h
  read_named s (End from len) = (tt, tt)
  read_named s (Empty from len) = (by (tag_named a.names (take len (drop from s))) refl, (tt, tt))
    where
      by : (o : Option ℕ) → tag_named a.names (take len (drop from s)) ≡ o → EventNamed (starts o)
      by none h = tt
      by (some t) h = self_named (take len (drop from s)) t h
  read_named s (Character c true) = (tt, tt)
  read_named s (Character c false) = (tt, tt)

  -- a token that is taken keeps it so
  pub taken_fine : (s : List ℕ) (e : ReadEvent) (y : Configuration) (room : ℕ) (y' : Configuration) (w : List ℕ) → one_token a y room (token_of a s e) ≡ taken y' w → Fine y.control →
      Fine y'.control
  taken_fine s e y room y' w t h =
      let o = takes_one a y room (token_of a s e) y' w t in
      subst (λ (z : Configuration). Fine z.control) (sym o.silenced) (subst FineAnswer o.stepped (token_fine y (token_of a s e) h (read_named s e)))

  -- behind the root's end every token is 26
  abbrev pub unless_closed : Control → ℕ → ℕ
  unless_closed before k = k
  unless_closed (inside o os) k = k
  unless_closed after k = 26

  start_moves : (c : Control) → root_only c ≡ false → Fine c → move g st most c (starts (some x.record_tag)) ≡ refuse (unless_closed c 23)
  start_moves before b h = by (find g st x.record_tag) refl
    where
      by : (u : Option ℕ) → find g st x.record_tag ≡ u → root_by u ≡ refuse 23
      by none e = refl
      by (some q) e =
          let s = find_sound g st x.record_tag q e in
          let own : produces g st q ≡ true = is_true (produces g st q) s.0 in
          absurd (shape.two_nonterminals (produces_one g n st q (shape.only_record q (produces_in g st q own) s.1) own))
  start_moves (inside o []) b h = absurd (true≢false b)
  start_moves (inside o (o' ∷ os)) b h = by (atom_way (tags_of g) (content_of g o.production) o.place (tag x.record_tag)) refl
    where
      by : (u : Option Way) → atom_way (tags_of g) (content_of g o.production) o.place (tag x.record_tag) ≡ u → start_by g most o (o' ∷ os) x.record_tag u ≡ refuse 23
      by none e = refl
      by (some w) e = on (production_for g w.kind x.record_tag) refl
        where
          on : (v : Option ℕ) → production_for g w.kind x.record_tag ≡ v → start_at most o (o' ∷ os) w v ≡ refuse 23
          on none f = refl
          on (some q) f =
              let (i, j, k) = opens_other n o.production o.place x.record_tag w q (shape.record_unnamed o.production h.1.0.1) e f in
              absurd (true≢false (sym (shape.only_record q i k) ∙ j))
  start_moves after b h = refl

  end_moves : (c : Control) → root_only c ≡ false → Fine c → move g st most c (ends (some x.root_tag)) ≡ refuse (unless_closed c 22)
  end_moves before b h = refl
  end_moves (inside o []) b h = absurd (true≢false b)
  end_moves (inside o (o' ∷ os)) b h = by (eqb x.root_tag (tag_of g o.production)) refl
    where
      u : Turn
      u = end_by o (o' ∷ os) (end_way (content_of g o.production) o.place)

      by : (c : Bool) → eqb x.root_tag (tag_of g o.production) ≡ c → own_tag c u ≡ refuse 22
      by true e =
          let (i, j) = h.1.0 in
          absurd (true≢false (sym (shape.only_root o.production i (sym (eqb-true x.root_tag (tag_of g o.production) e))) ∙ j))
      by false e = refl
  end_moves after b h = refl

  module _ (z : Configuration) (b : root_only z.control ≡ false) (h : Fine z.control) (room : ℕ) where
    pub start_refused : one_token a z room (start_token (some x.record_tag)) ≡ refuses (unless_closed z.control 23)
    start_refused =
        ap (λ (u : Turn). within room (answered (onward z (starts (some x.record_tag) ∷ []) (turned a z.store u) (λ y. finished y)))) (start_moves z.control b h)

    pub empty_refused : one_token a z room (empty_token (some x.record_tag)) ≡ refuses (unless_closed z.control 23)
    empty_refused =
        ap (λ (u : Turn). within room (answered (onward z (starts (some x.record_tag) ∷ ends (some x.record_tag) ∷ []) (turned a z.store u) (λ y. run a y (ends (some x.record_tag) ∷ [])))))
        (start_moves z.control b h)

    pub end_refused : one_token a z room (end_token (some x.root_tag)) ≡ refuses (unless_closed z.control 22)
    end_refused = ap (λ (u : Turn). within room (answered (onward z (ends (some x.root_tag) ∷ []) (turned a z.store u) (λ y. finished y)))) (end_moves z.control b h)
