-- A parse as a row of brackets and filled atoms: a word of the bracketed expression with children plugged in. Both ways, by the expression's tree; the
-- row has the parse's events, acts and depth.
-- Assumes nothing.
use mathlib.Core.Path.{◌≡◌, refl, sym, ◌∙◌, ap, subst}
use mathlib.Core.List.{List, [], ◌∷◌, ◌++◌, append_assoc, append-nil}
use Prim.Native.Nat.{ℕ, suc, ◌+◌, max}
use native.Mathlib.Omega.{arith}
use Rattle.expressions.specs.Expr.{nonterminal, anychar, Exp, atom, cat, alt, star, empty, nodes, atoms, Content, nothing, tree}
use Rattle.expressions.specs.Words.{Bracket, opening, closing, Sym, br, at, Lang, Only, only, Cat, both, Either, left, right, Star, stop, more, Within, within, Word, Words}
use Rattle.expressions.specs.Grammar.{Production}
use Rattle.runs.specs.Events.{Event}
use Rattle.runs.specs.Parse.{Element, Children, childless, children, Parse, child, one_char, pair, first_of, second_of, repeat, void, Parses, done, next, yield, yield_C, yield_P, yield_ps, depth_C, depth_P, depth_ps}
use Rattle.runs.specs.Acts.{Act, node_first}
use Rattle.runs.specs.Line.{wrap, line_C, line_P, line_ps, Part, mark, filled, lettered, symbol, skeleton, events_of, events, acts_of, acts_in, depths}

module _ {g : List Production} where
  pub skeleton_append : (fs gs : List (Part g)) → skeleton (fs ++ gs) ≡ skeleton fs ++ skeleton gs
  skeleton_append [] gs = refl
  skeleton_append (f ∷ fs) gs = ap (λ (w : List Sym). symbol f ∷ w) (skeleton_append fs gs)

  pub events_append : (fs gs : List (Part g)) → events (fs ++ gs) ≡ events fs ++ events gs
  events_append [] gs = refl
  events_append (f ∷ fs) gs = ap (λ (w : List Event). events_of f ++ w) (events_append fs gs) ∙ sym (append_assoc (events_of f) (events fs) (events gs))

  pub acts_in_append : (q : ℕ) (fs gs : List (Part g)) → acts_in q (fs ++ gs) ≡ acts_in q fs ++ acts_in q gs
  acts_in_append q [] gs = refl
  acts_in_append q (f ∷ fs) gs = ap (λ (w : List Act). acts_of q f ++ w) (acts_in_append q fs gs) ∙ sym (append_assoc (acts_of q f) (acts_in q fs) (acts_in q gs))

  pub depths_append : (fs gs : List (Part g)) → depths (fs ++ gs) ≡ max (depths fs) (depths gs)
  depths_append [] gs = omega arith
  depths_append (f ∷ fs) gs = let h = depths_append fs gs in omega arith

abbrev pub enclose : {g : List Production} → ℕ → List (Part g) → List (Part g)
enclose i fs = mark (opening i) ∷ (fs ++ mark (closing i) ∷ [])

enclose_events : {g : List Production} (i : ℕ) (fs : List (Part g)) → events (enclose i fs) ≡ events fs
enclose_events i fs = events_append fs (mark (closing i) ∷ []) ∙ append-nil (events fs)

enclose_depth : {g : List Production} (i : ℕ) (fs : List (Part g)) → depths (enclose i fs) ≡ depths fs
enclose_depth i fs = let h = depths_append fs (mark (closing i) ∷ []) in omega arith

-- the parts of a parse; its first bracket is i and its first atom is j
abbrev mutual
  pub flat : {g : List Production} {e : Exp} → Parse g e → ℕ → ℕ → List (Part g)
  flat (child {n} t) i j = enclose i (filled j n t ∷ [])
  flat (one_char c) i j = enclose i (lettered j c ∷ [])
  flat (pair {l} a b) i j = enclose i (flat a (suc i) j ++ flat b (suc i + nodes l) (j + atoms l))
  flat (first_of a) i j = enclose i (flat a (suc i) j)
  flat (second_of {l} b) i j = enclose i (flat b (suc i + nodes l) (j + atoms l))
  flat (repeat ps) i j = enclose i (flats ps (suc i) j)
  flat void i j = enclose i []

  pub flats : {g : List Production} {e : Exp} → Parses g e → ℕ → ℕ → List (Part g)
  flats done i j = []
  flats (next p ps) i j = flat p i j ++ flats ps i j

abbrev pub flat_C : {g : List Production} {c : Content} → Children g c → List (Part g)
flat_C childless = []
flat_C (children p) = flat p 1 1

-- the parts of a parse are a word of the bracketed expression
enclose_word : {g : List Production} (i : ℕ) (A : Lang) (fs : List (Part g)) → A (skeleton fs) → Within i A (skeleton (enclose i fs))
enclose_word i A fs a =
    subst (λ (w : List Sym). Within i A (br (opening i) ∷ w)) (sym (skeleton_append fs (mark (closing i) ∷ []))) (within (skeleton fs) a)

append_word : {g : List Production} (A B : Lang) (fs gs : List (Part g)) → A (skeleton fs) → B (skeleton gs) → Cat A B (skeleton (fs ++ gs))
append_word A B fs gs a b = subst (Cat A B) (sym (skeleton_append fs gs)) (both (skeleton fs) (skeleton gs) a b)

more_word : {g : List Production} (A : Lang) (fs gs : List (Part g)) → A (skeleton fs) → Star A (skeleton gs) → Star A (skeleton (fs ++ gs))
more_word A fs gs a b = subst (Star A) (sym (skeleton_append fs gs)) (more (skeleton fs) (skeleton gs) a b)

mutual
  pub flat_word : {g : List Production} {e : Exp} (p : Parse g e) (i j : ℕ) → Word e i j (skeleton (flat p i j))
  flat_word (child {n} t) i j = enclose_word i (Only (at j (nonterminal n) ∷ [])) (filled j n t ∷ []) only
  flat_word {g} (one_char c) i j = enclose_word {g = g} i (Only (at j anychar ∷ [])) (lettered j c ∷ []) only
  flat_word (pair {l} {r} a b) i j =
      enclose_word i (Cat (Word l (suc i) j) (Word r (suc i + nodes l) (j + atoms l))) (flat a (suc i) j ++ flat b (suc i + nodes l) (j + atoms l))
      (append_word (Word l (suc i) j) (Word r (suc i + nodes l) (j + atoms l)) (flat a (suc i) j) (flat b (suc i + nodes l) (j + atoms l))
      (flat_word a (suc i) j) (flat_word b (suc i + nodes l) (j + atoms l)))
  flat_word (first_of {l} {r} a) i j =
      enclose_word i (Either (Word l (suc i) j) (Word r (suc i + nodes l) (j + atoms l))) (flat a (suc i) j) (left (flat_word a (suc i) j))
  flat_word (second_of {l} {r} b) i j =
      enclose_word i (Either (Word l (suc i) j) (Word r (suc i + nodes l) (j + atoms l))) (flat b (suc i + nodes l) (j + atoms l))
      (right (flat_word b (suc i + nodes l) (j + atoms l)))
  flat_word (repeat {e} ps) i j = enclose_word i (Star (Word e (suc i) j)) (flats ps (suc i) j) (flats_word ps (suc i) j)
  flat_word {g} void i j = enclose_word {g = g} i (Only []) [] only

  flats_word : {g : List Production} {e : Exp} (ps : Parses g e) (i j : ℕ) → Star (Word e i j) (skeleton (flats ps i j))
  flats_word done i j = stop
  flats_word {e = e} (next p ps) i j = more_word (Word e i j) (flat p i j) (flats ps i j) (flat_word p i j) (flats_word ps i j)

pub flat_C_word : {g : List Production} {c : Content} (p : Children g c) → Words c (skeleton (flat_C p))
flat_C_word childless = only
flat_C_word (children p) = flat_word p 1 1

-- its acts and its events are those of the parts
mutual
  pub flat_line : {g : List Production} {e : Exp} (p : Parse g e) (q i j : ℕ) → line_P p q i ≡ acts_in q (flat p i j)
  flat_line (child {n} t) q i j = ap (λ (w : List Act). node_first q i ∷ w) refl
  flat_line (one_char c) q i j = refl
  flat_line (pair {l} a b) q i j =
      let x : List Act = acts_in q (flat a (suc i) j) in
      ap (λ (w : List Act). wrap q i w) (ap (λ (w : List Act). w ++ line_P b q (suc i + nodes l)) (flat_line a q (suc i) j)
      ∙ ap (λ (w : List Act). x ++ w) (flat_line b q (suc i + nodes l) (j + atoms l))
      ∙ sym (acts_in_append q (flat a (suc i) j) (flat b (suc i + nodes l) (j + atoms l))))
      ∙ ap (λ (w : List Act). node_first q i ∷ w) (sym (acts_in_append q (flat a (suc i) j ++ flat b (suc i + nodes l) (j + atoms l)) (mark (closing i) ∷ [])))
  flat_line (first_of a) q i j =
      ap (λ (w : List Act). wrap q i w) (flat_line a q (suc i) j) ∙ ap (λ (w : List Act). node_first q i ∷ w) (sym (acts_in_append q (flat a (suc i) j) (mark (closing i) ∷ [])))
  flat_line (second_of {l} b) q i j =
      ap (λ (w : List Act). wrap q i w) (flat_line b q (suc i + nodes l) (j + atoms l))
      ∙ ap (λ (w : List Act). node_first q i ∷ w) (sym (acts_in_append q (flat b (suc i + nodes l) (j + atoms l)) (mark (closing i) ∷ [])))
  flat_line (repeat ps) q i j =
      ap (λ (w : List Act). wrap q i w) (flats_line ps q (suc i) j) ∙ ap (λ (w : List Act). node_first q i ∷ w) (sym (acts_in_append q (flats ps (suc i) j) (mark (closing i) ∷ [])))
  flat_line void q i j = refl

  flats_line : {g : List Production} {e : Exp} (ps : Parses g e) (q i j : ℕ) → line_ps ps q i ≡ acts_in q (flats ps i j)
  flats_line done q i j = refl
  flats_line (next p ps) q i j =
      ap (λ (w : List Act). w ++ line_ps ps q i) (flat_line p q i j)
      ∙ ap (λ (w : List Act). acts_in q (flat p i j) ++ w) (flats_line ps q i j)
      ∙ sym (acts_in_append q (flat p i j) (flats ps i j))

pub flat_C_line : {g : List Production} {c : Content} (p : Children g c) (q : ℕ) → line_C p q ≡ acts_in q (flat_C p)
flat_C_line childless q = refl
flat_C_line (children p) q = flat_line p q 1 1

mutual
  pub flat_events : {g : List Production} {e : Exp} (p : Parse g e) (i j : ℕ) → yield_P p ≡ events (flat p i j)
  flat_events (child {n} t) i j = sym (append-nil (yield t))
  flat_events (one_char c) i j = refl
  flat_events (pair {l} a b) i j =
      ap (λ (w : List Event). w ++ yield_P b) (flat_events a (suc i) j)
      ∙ ap (λ (w : List Event). events (flat a (suc i) j) ++ w) (flat_events b (suc i + nodes l) (j + atoms l))
      ∙ sym (events_append (flat a (suc i) j) (flat b (suc i + nodes l) (j + atoms l)))
      ∙ sym (enclose_events i (flat a (suc i) j ++ flat b (suc i + nodes l) (j + atoms l)))
  flat_events (first_of a) i j = flat_events a (suc i) j ∙ sym (enclose_events i (flat a (suc i) j))
  flat_events (second_of {l} b) i j =
      flat_events b (suc i + nodes l) (j + atoms l) ∙ sym (enclose_events i (flat b (suc i + nodes l) (j + atoms l)))
  flat_events (repeat ps) i j = flats_events ps (suc i) j ∙ sym (enclose_events i (flats ps (suc i) j))
  flat_events void i j = refl

  flats_events : {g : List Production} {e : Exp} (ps : Parses g e) (i j : ℕ) → yield_ps ps ≡ events (flats ps i j)
  flats_events done i j = refl
  flats_events (next p ps) i j =
      ap (λ (w : List Event). w ++ yield_ps ps) (flat_events p i j)
      ∙ ap (λ (w : List Event). events (flat p i j) ++ w) (flats_events ps i j)
      ∙ sym (events_append (flat p i j) (flats ps i j))

pub flat_C_events : {g : List Production} {c : Content} (p : Children g c) → yield_C p ≡ events (flat_C p)
flat_C_events childless = refl
flat_C_events (children p) = flat_events p 1 1

mutual
  pub flat_depth : {g : List Production} {e : Exp} (p : Parse g e) (i j : ℕ) → depth_P p ≡ depths (flat p i j)
  flat_depth (child {n} t) i j = omega arith
  flat_depth (one_char c) i j = omega arith
  flat_depth (pair {l} a b) i j =
      let ia = flat_depth a (suc i) j in
      let ib = flat_depth b (suc i + nodes l) (j + atoms l) in
      let x = depths_append (flat a (suc i) j) (flat b (suc i + nodes l) (j + atoms l)) in
      let y = enclose_depth i (flat a (suc i) j ++ flat b (suc i + nodes l) (j + atoms l)) in
      cc (x, y, ia, ib)
  flat_depth (first_of a) i j = flat_depth a (suc i) j ∙ sym (enclose_depth i (flat a (suc i) j))
  flat_depth (second_of {l} b) i j =
      flat_depth b (suc i + nodes l) (j + atoms l) ∙ sym (enclose_depth i (flat b (suc i + nodes l) (j + atoms l)))
  flat_depth (repeat ps) i j = flats_depth ps (suc i) j ∙ sym (enclose_depth i (flats ps (suc i) j))
  flat_depth void i j = omega arith

  flats_depth : {g : List Production} {e : Exp} (ps : Parses g e) (i j : ℕ) → depth_ps ps ≡ depths (flats ps i j)
  flats_depth done i j = refl
  flats_depth (next p ps) i j =
      let ia = flat_depth p i j in
      let ib = flats_depth ps i j in
      let x = depths_append (flat p i j) (flats ps i j) in
      cc (x, ia, ib)

pub flat_C_depth : {g : List Production} {c : Content} (p : Children g c) → depth_C p ≡ depths (flat_C p)
flat_C_depth childless = refl
flat_C_depth (children p) = flat_depth p 1 1

-- parts that are a word of the bracketed expression are those of a parse
module _ {g : List Production} where
  mark_of : (f : Part g) (c : Bracket) → symbol f ≡ br c → f ≡ mark c
  mark_of (mark d) c e = cc
  mark_of (filled j n t) c e = cc
  mark_of (lettered j x) c e = cc

  pub split_parts : (u v : List Sym) (ms : List (Part g)) → skeleton ms ≡ u ++ v →
      (xs : List (Part g)) × (ys : List (Part g)) × (skeleton xs ≡ u) × (skeleton ys ≡ v) × (ms ≡ xs ++ ys)
  split_parts [] v ms e = ([], ms, refl, e, refl)
  split_parts (s ∷ u) v [] e = absurd (let z : ◌≡◌ {A = ℕ} 0 1 = cc in omega arith)
  split_parts (s ∷ u) v (m ∷ ms) e =
      let t : skeleton ms ≡ u ++ v = cc in
      let h : symbol m ≡ s = cc in
      let i = split_parts u v ms t in
      let i2 : skeleton i.0 ≡ u = i.2 in
      let i4 : ms ≡ i.0 ++ i.1 = i.4 in
      (m ∷ i.0, i.1, (cc), i.3, (cc))

  one_mark : (c : Bracket) (ms : List (Part g)) → skeleton ms ≡ br c ∷ [] → ms ≡ mark c ∷ []
  one_mark c [] e = cc
  one_mark c (m ∷ []) e = let h : m ≡ mark c = mark_of m c (cc) in cc
  one_mark c (m ∷ m' ∷ ms) e = cc

  unenclose : (i : ℕ) (m : List Sym) (fs : List (Part g)) → skeleton fs ≡ br (opening i) ∷ (m ++ br (closing i) ∷ []) →
      (ms : List (Part g)) × (skeleton ms ≡ m) × (fs ≡ enclose i ms)
  unenclose i m [] e = absurd (let z : ◌≡◌ {A = ℕ} 0 1 = cc in omega arith)
  unenclose i m (f ∷ fs) e =
      let h : f ≡ mark (opening i) = mark_of f (opening i) (cc) in
      let t : skeleton fs ≡ m ++ br (closing i) ∷ [] = cc in
      let s = split_parts m (br (closing i) ∷ []) fs t in
      let k : s.1 ≡ mark (closing i) ∷ [] = one_mark (closing i) s.1 s.3 in
      let s4 : fs ≡ s.0 ++ s.1 = s.4 in
      (s.0, s.2, (cc))

  one_filled : (j n : ℕ) (ms : List (Part g)) → skeleton ms ≡ at j (nonterminal n) ∷ [] → (t : Element g n) × (ms ≡ filled j n t ∷ [])
  one_filled j n [] e = absurd (let z : ◌≡◌ {A = ℕ} 0 1 = cc in omega arith)
  one_filled j n (mark c ∷ ms) e = absurd (let z : ◌≡◌ {A = ℕ} 0 1 = cc in omega arith)
  one_filled j n (lettered j' c ∷ ms) e = absurd (let z : ◌≡◌ {A = ℕ} 0 1 = cc in omega arith)
  one_filled j n (filled j' n' t ∷ m ∷ ms) e = absurd (let z : ◌≡◌ {A = ℕ} 0 1 = cc in omega arith)
  one_filled j n (filled j' n' t ∷ []) e =
      let a : j' ≡ j = cc in
      let b : n' ≡ n = cc in
      let here : (x : Element g n) × (◌≡◌ {A = List (Part g)} (filled j' n' t ∷ []) (filled j' n x ∷ [])) =
      subst (λ (z : ℕ). (x : Element g z) × (◌≡◌ {A = List (Part g)} (filled j' n' t ∷ []) (filled j' z x ∷ []))) b (t, refl) in
      (here.0, here.1 ∙ ap (λ (z : ℕ). filled z n here.0 ∷ []) a)

  one_lettered : (j : ℕ) (ms : List (Part g)) → skeleton ms ≡ at j anychar ∷ [] → (c : ℕ) × (ms ≡ lettered j c ∷ [])
  one_lettered j [] e = absurd (let z : ◌≡◌ {A = ℕ} 0 1 = cc in omega arith)
  one_lettered j (mark c ∷ ms) e = absurd (let z : ◌≡◌ {A = ℕ} 0 1 = cc in omega arith)
  one_lettered j (filled j' n' t ∷ ms) e = absurd (let z : ◌≡◌ {A = ℕ} 0 1 = cc in omega arith)
  one_lettered j (lettered j' c ∷ m ∷ ms) e = absurd (let z : ◌≡◌ {A = ℕ} 0 1 = cc in omega arith)
  one_lettered j (lettered j' c ∷ []) e = (c, (cc))

  no_parts : (ms : List (Part g)) → skeleton ms ≡ [] → ms ≡ []
  no_parts [] e = refl
  no_parts (m ∷ ms) e = cc

  unflats : (e : Exp) (i j : ℕ) (f : (w : List Sym) (fs : List (Part g)) → Word e i j w → skeleton fs ≡ w → (p : Parse g e) × (flat p i j ≡ fs)) →
      (w : List Sym) (fs : List (Part g)) → Star (Word e i j) w → skeleton fs ≡ w → (ps : Parses g e) × (flats ps i j ≡ fs)
  unflats e i j f w fs stop q = (done, sym (no_parts fs q))
  unflats e i j f w fs (more u v a s) q =
      let t = split_parts u v fs q in
      let x = f u t.0 a t.2 in
      let y = unflats e i j f v t.1 s t.3 in
      let x1 : flat x.0 i j ≡ t.0 = x.1 in
      let y1 : flats y.0 i j ≡ t.1 = y.1 in
      let t4 : fs ≡ t.0 ++ t.1 = t.4 in
      (next x.0 y.0, (cc))

  pub unflat : (e : Exp) (i j : ℕ) (w : List Sym) (fs : List (Part g)) → Word e i j w → skeleton fs ≡ w → (p : Parse g e) × (flat p i j ≡ fs)
  unflat (atom (nonterminal n)) i j w fs (within m only) q =
      let o = unenclose i (at j (nonterminal n) ∷ []) fs q in
      let x = one_filled j n o.0 o.1 in
      (child x.0, ap (λ (ms : List (Part g)). enclose i ms) (sym x.1) ∙ sym o.2)
  unflat (atom anychar) i j w fs (within m only) q =
      let o = unenclose i (at j anychar ∷ []) fs q in
      let x = one_lettered j o.0 o.1 in
      (one_char x.0, ap (λ (ms : List (Part g)). enclose i ms) (sym x.1) ∙ sym o.2)
  unflat (cat l r) i j w fs (within m (both u v a b)) q =
      let o = unenclose i (u ++ v) fs q in
      let t = split_parts u v o.0 o.1 in
      let x = unflat l (suc i) j u t.0 a t.2 in
      let y = unflat r (suc i + nodes l) (j + atoms l) v t.1 b t.3 in
      let x1 : flat x.0 (suc i) j ≡ t.0 = x.1 in
      let y1 : flat y.0 (suc i + nodes l) (j + atoms l) ≡ t.1 = y.1 in
      let t4 : o.0 ≡ t.0 ++ t.1 = t.4 in
      let z : flat x.0 (suc i) j ++ flat y.0 (suc i + nodes l) (j + atoms l) ≡ o.0 = cc in
      (pair x.0 y.0, ap (λ (ms : List (Part g)). enclose i ms) z ∙ sym o.2)
  unflat (alt l r) i j w fs (within m (left a)) q =
      let o = unenclose i m fs q in
      let x = unflat l (suc i) j m o.0 a o.1 in
      (first_of x.0, ap (λ (ms : List (Part g)). enclose i ms) x.1 ∙ sym o.2)
  unflat (alt l r) i j w fs (within m (right b)) q =
      let o = unenclose i m fs q in
      let x = unflat r (suc i + nodes l) (j + atoms l) m o.0 b o.1 in
      (second_of x.0, ap (λ (ms : List (Part g)). enclose i ms) x.1 ∙ sym o.2)
  unflat (star e) i j w fs (within m s) q =
      let o = unenclose i m fs q in
      let x = unflats e (suc i) j (λ w' fs' a q'. unflat e (suc i) j w' fs' a q') m o.0 s o.1 in
      (repeat x.0, ap (λ (ms : List (Part g)). enclose i ms) x.1 ∙ sym o.2)
  unflat empty i j w fs (within m only) q =
      let o = unenclose i [] fs q in
      (void, ap (λ (ms : List (Part g)). enclose i ms) (sym (no_parts o.0 o.1)) ∙ sym o.2)

  pub unflat_C : (c : Content) (fs : List (Part g)) → Words c (skeleton fs) → (p : Children g c) × (flat_C p ≡ fs)
  unflat_C nothing fs a = (childless, sym (no_parts fs (only_nil (skeleton fs) a)))
    where
      only_nil : (w : List Sym) → Only [] w → w ≡ []
      only_nil w only = refl
  unflat_C (tree e) fs a = let x = unflat e 1 1 (skeleton fs) fs a refl in (children x.0, x.1)
