-- How many elements are open where a salvage run stands: between records the root at most, in a record two or more. Another tag than R opens nothing in the root.
-- Assumes nothing.
use mathlib.Core.Path.{◌≡◌, refl, sym, ap, ◌∙◌, subst}
use mathlib.Core.Bool.{Bool, true, false, ◌&&◌, ◌||◌}
use mathlib.Core.List.{List, [], ◌∷◌, ◌++◌}
use mathlib.Core.Option.{Option, none, some}
use Prim.Native.Nat.{ℕ, zero, suc, ◌≤◌}
use native.Mathlib.Omega.{arith}
use lib.Dec.{T, eqb, leb}
use lib.ListN.{length}
use Rattle.expressions.specs.Expr.{nonterminal, atom, star, Content, tree}
use Rattle.expressions.specs.Words.{Bracket}
use Rattle.expressions.specs.Grammar.{Production, tags_of, content_of, tag, character, memb}
use Rattle.sheet.specs.Sheet.{Sheet}
use Rattle.runs.specs.Visits.{grammar}
use Rattle.runs.specs.Events.{Event, starts, ends, letter}
use Rattle.runs.specs.Acts.{Store, acts, bracket_acts, start_tag}
use Rattle.runs.specs.Lookup.{tag_of, find, produces}
use Rattle.runs.specs.Options.{when_true}
use Rattle.runs.specs.Way.{Way, led, opened, out_of_lem, end_way, atom_way}
use Rattle.runs.specs.Machine.{Open, Control, before, inside, after, most, Turn, refuse, go, at_start, at_place_lem, opening_up, start_at, start_by, production_for, root_by, end_by, same_tag, own_tag, char_by, move, Configuration, Answer, took, refused, acted, turned, step, finished, onward, run, answered}
use Rattle.runs.specs.Spells.{Token, start_token, end_token, empty_token, literal, reference, events_of_token, is_blank, passes_at, unless_blank, step_token}
use Rattle.calls.specs.Limits.{taken, one_token}
use Rattle.calls.proofs.Steps.{takes_one}
use Rattle.fit.specs.RunFits.{ChainAt, RunFits}
use Rattle.salvage.specs.Shape.{RecordTags, OfShape}
use Rattle.salvage.specs.Salvage.{root_only, starts_with}
use Rattle.salvage.proofs.Depths.{open_in}

-- an event opens one element at most, and only a start tag's does
abbrev UpTurn : ℕ → Turn → Type 0
UpTurn d (refuse n) = Unit {0}
UpTurn d (go bs c) = open_in c ≤ d

abbrev UpAnswer : ℕ → Answer → Type 0
UpAnswer d (took z) = open_in z.control ≤ d
UpAnswer d (refused n) = Unit {0}

abbrev up_to : Event → ℕ → ℕ
up_to (starts t) d = suc d
up_to (ends t) d = d
up_to (letter c) d = d

root_up : (o : Option ℕ) → UpTurn 1 (root_by o)
root_up none = tt
root_up (some q) = omega arith

start_up : (g : List Production) (o : Open) (os : List Open) (t : ℕ) (w : Option Way) → UpTurn (suc (suc (length os))) (start_by g most o os t w)
start_up g o os t none = tt
start_up g o os t (some w) = by (production_for g w.kind t)
  where
    on : (q : ℕ) (c : Bool) → UpTurn (suc (suc (length os))) (opening_up c (bracket_acts o.production w.string ++ start_tag q ∷ []) (inside (at_start q) (at_place_lem o w.place ∷ os)))
    on q true = omega arith
    on q false = tt

    by : (p : Option ℕ) → UpTurn (suc (suc (length os))) (start_at most o os w p)
    by none = tt
    by (some q) = on q (leb (suc (suc (length os))) most)

end_up : (o : Open) (os : List Open) (b : Bool) (w : Option (List Bracket)) → UpTurn (suc (length os)) (own_tag b (end_by o os w))
end_up o os false w = tt
end_up o os true none = tt
end_up o [] true (some α) = omega arith
end_up o (p ∷ os) true (some α) = omega arith

char_up : (o : Open) (os : List Open) (c : ℕ) (w : Option Way) → UpTurn (suc (length os)) (char_by o os c w)
char_up o os c none = tt
char_up o os c (some w) = omega arith

move_up : (g : List Production) (n : ℕ) (c : Control) (e : Event) → UpTurn (up_to e (open_in c)) (move g n most c e)
move_up g n before (starts none) = tt
move_up g n before (starts (some t)) = root_up (find g n t)
move_up g n before (ends t) = tt
move_up g n before (letter c) = tt
move_up g n (inside o os) (starts none) = tt
move_up g n (inside o os) (starts (some t)) = start_up g o os t (atom_way (tags_of g) (content_of g o.production) o.place (tag t))
move_up g n (inside o os) (ends t) = end_up o os (same_tag t (tag_of g o.production)) (end_way (content_of g o.production) o.place)
move_up g n (inside o os) (letter c) = char_up o os c (atom_way (tags_of g) (content_of g o.production) o.place character)
move_up g n after (starts t) = tt
move_up g n after (ends t) = tt
move_up g n after (letter c) = tt

module _ (a : Sheet) where
  step_up : (z : Configuration) (e : Event) → UpAnswer (up_to e (open_in z.control)) (step a z e)
  step_up z e = of_turn (move (grammar a) a.start_nonterminal most z.control e) (move_up (grammar a) a.start_nonterminal z.control e)
    where
      of_acts : (c : Control) (m : Option Store) → open_in c ≤ up_to e (open_in z.control) → UpAnswer (up_to e (open_in z.control)) (acted c m)
      of_acts c none h = tt
      of_acts c (some m) h = h

      of_turn : (u : Turn) → UpTurn (up_to e (open_in z.control)) u → UpAnswer (up_to e (open_in z.control)) (turned a z.store u)
      of_turn (refuse k) h = tt
      of_turn (go bs c) h = of_acts c (acts a bs z.store) h

  -- a row of events opens as many as it has start tags
  abbrev up_by : List Event → ℕ → ℕ
  up_by [] d = d
  up_by (e ∷ es) d = up_by es (up_to e d)

  up_later : (es : List Event) (d d' : ℕ) → d ≤ d' → up_by es d ≤ up_by es d'
  up_later [] d d' h = h
  up_later (starts t ∷ es) d d' h = up_later es (suc d) (suc d') (omega (arith, h))
  up_later (ends t ∷ es) d d' h = up_later es d d' h
  up_later (letter c ∷ es) d d' h = up_later es d d' h

  run_up : (es : List Event) (z : Configuration) (d : ℕ) → open_in z.control ≤ d → UpAnswer (up_by es d) (answered (run a z es))
  run_up [] z d h = h
  run_up (e ∷ es) z d h = by (step a z e) (step_up z e) (λ y i. run_up es y (up_to e d) i)
    where
      grown : (e : Event) (k : ℕ) → k ≤ up_to e (open_in z.control) → k ≤ up_to e d
      grown (starts t) k i = omega (arith, i, h)
      grown (ends t) k i = omega (arith, i, h)
      grown (letter c) k i = omega (arith, i, h)

      by : (u : Answer) → UpAnswer (up_to e (open_in z.control)) u → ((y : Configuration) → open_in y.control ≤ up_to e d → UpAnswer (up_by es (up_to e d)) (answered (run a y es))) →
          UpAnswer (up_by es (up_to e d)) (answered (onward z (e ∷ es) u (λ y. run a y es)))
      by (took y) i f = f y (grown e (open_in y.control) i)
      by (refused j) i f = tt

  at_least : (es : List Event) (d : ℕ) → d ≤ up_by es d
  at_least [] d = omega arith
  at_least (starts t ∷ es) d = let h = at_least es (suc d) in omega (arith, h)
  at_least (ends t ∷ es) d = at_least es d
  at_least (letter c ∷ es) d = at_least es d

  -- so does a token
  pub taken_up : (z : Configuration) (room : ℕ) (k : Token) (y : Configuration) (w : List ℕ) → one_token a z room k ≡ taken y w →
      open_in y.control ≤ up_by (events_of_token k) (open_in z.control)
  taken_up z room k y w e =
      let o = takes_one a z room k y w e in
      subst (λ (c : Configuration). open_in c.control ≤ up_by (events_of_token k) (open_in z.control)) (sym o.silenced)
      (subst (UpAnswer (up_by (events_of_token k) (open_in z.control))) o.stepped (by (is_blank k && passes_at (grammar a) z.control)))
    where
      by : (b : Bool) → UpAnswer (up_by (events_of_token k) (open_in z.control)) (unless_blank b z (answered (run a z (events_of_token k))))
      by true = at_least (events_of_token k) (open_in z.control)
      by false = run_up (events_of_token k) z (open_in z.control) (omega arith)

  -- one at most
  pub one_up : (k : Token) (d : ℕ) → up_by (events_of_token k) d ≤ suc d
  one_up (start_token t) d = omega arith
  one_up (end_token t) d = omega arith
  one_up (empty_token t) d = omega arith
  one_up (literal c) d = omega arith
  one_up (reference c) d = omega arith

is_true : (b : Bool) → T b → b ≡ true
is_true true h = refl
is_true false h = absurd h

led_none : (o : Option (List Bracket)) → led o none ≡ none
led_none none = refl
led_none (some α) = refl

-- a star over n has no way to another tag than those of n
way_none : (tags : ℕ → List ℕ) (n t p : ℕ) → memb t (tags n) ≡ false → atom_way tags (tree (star (atom (nonterminal n)))) p (tag t) ≡ none
way_none tags n t zero h = ap (λ (b : Bool). opened 1 (opened 2 (when_true b (record { string = []; place = 1; kind = nonterminal n })))) h
way_none tags n t (suc p) h =
    ap (λ (b : Bool). led (out_of_lem (atom (nonterminal n)) 2 1 (suc p)) (opened 2 (when_true b (record { string = []; place = 1; kind = nonterminal n })))) h
    ∙ led_none (out_of_lem (atom (nonterminal n)) 2 1 (suc p))

module _ (a : Sheet) (n : ℕ) (x : RecordTags) (shape : OfShape a n x) where
  abbrev g : List Production
  g = grammar a

  not_member : (t : ℕ) → eqb t x.record_tag ≡ false → memb t (tags_of g n) ≡ false
  not_member t h = ap (memb t) shape.one_record ∙ ap (λ (b : Bool). b || false) h

  -- so in the root another tag than R is refused
  module _ (z : Configuration) (o : Open) (e : z.control ≡ inside o []) (p : T (produces g a.start_nonterminal o.production)) (t : ℕ) (h : eqb t x.record_tag ≡ false) where
    turn_refused : move g a.start_nonterminal most z.control (starts (some t)) ≡ refuse 23
    turn_refused =
        ap (λ (c : Control). move g a.start_nonterminal most c (starts (some t))) e
        ∙ ap (λ (c : Content). start_by g most o [] t (atom_way (tags_of g) c o.place (tag t))) (shape.root_is o.production (is_true (produces g a.start_nonterminal o.production) p))
        ∙ ap (start_by g most o [] t) (way_none (tags_of g) n t o.place (not_member t h))

    start_refused : step_token a z (start_token (some t)) ≡ refused 23
    start_refused = ap (λ (u : Turn). answered (onward z (starts (some t) ∷ []) (turned a z.store u) (λ y. finished y))) turn_refused

    empty_refused : step_token a z (empty_token (some t)) ≡ refused 23
    empty_refused = ap (λ (u : Turn). answered (onward z (starts (some t) ∷ ends (some t) ∷ []) (turned a z.store u) (λ y. run a y (ends (some t) ∷ [])))) turn_refused

  none_refused : (z : Configuration) (o : Open) → z.control ≡ inside o [] → (step_token a z (start_token none) ≡ refused 23) × (step_token a z (empty_token none) ≡ refused 23)
  none_refused z o e = (
    ap (λ (c : Control). answered (onward z (starts none ∷ []) (turned a z.store (move g a.start_nonterminal most c (starts none))) (λ y. finished y))) e,
    ap (λ (c : Control). answered (onward z (starts none ∷ ends none ∷ []) (turned a z.store (move g a.start_nonterminal most c (starts none))) (λ y. run a y (ends none ∷ [])))) e,
  )

  took≢refused : (y : Configuration) (k : ℕ) → took y ≡ refused k → ⊥
  took≢refused y k e = let q : ◌≡◌ {A = ℕ} 0 1 = cc in omega arith

  -- a token that begins no record leaves the root open at most
  module _ (z : Configuration) (room : ℕ) (y : Configuration) (w : List ℕ) where
    in_root : (o : Open) → z.control ≡ inside o [] → T (produces g a.start_nonterminal o.production) → (k : Token) → starts_with x.record_tag k ≡ false →
        one_token a z room k ≡ taken y w → open_in y.control ≤ 1
    in_root o e p (start_token none) h t = absurd (took≢refused _ 23 (sym (takes_one a z room (start_token none) y w t).stepped ∙ (none_refused z o e).0))
    in_root o e p (start_token (some u)) h t = absurd (took≢refused _ 23 (sym (takes_one a z room (start_token (some u)) y w t).stepped ∙ start_refused z o e p u h))
    in_root o e p (empty_token none) h t = absurd (took≢refused _ 23 (sym (takes_one a z room (empty_token none) y w t).stepped ∙ (none_refused z o e).1))
    in_root o e p (empty_token (some u)) h t = absurd (took≢refused _ 23 (sym (takes_one a z room (empty_token (some u)) y w t).stepped ∙ empty_refused z o e p u h))
    in_root o e p (end_token u) h t = let l = taken_up a z room (end_token u) y w t in omega (arith, l, ap open_in e)
    in_root o e p (literal c) h t = let l = taken_up a z room (literal c) y w t in omega (arith, l, ap open_in e)
    in_root o e p (reference c) h t = let l = taken_up a z room (reference c) y w t in omega (arith, l, ap open_in e)

    -- wherever it stands between records
    pub other_leaves : RunFits a z → open_in z.control ≤ 1 → (k : Token) → (root_only z.control && starts_with x.record_tag k) ≡ false → one_token a z room k ≡ taken y w →
        open_in y.control ≤ 1
    other_leaves f l k h t = by z.control refl
      where
        none_open : open_in z.control ≡ 0 → open_in y.control ≤ 1
        none_open q = let u = taken_up a z room k y w t in let v = one_up a k (open_in z.control) in omega (arith, u, v, q)

        by : (c : Control) → z.control ≡ c → open_in y.control ≤ 1
        by before e = none_open (ap open_in e)
        by after e = none_open (ap open_in e)
        by (inside o []) e =
            in_root o e (subst (ChainAt g a.start_nonterminal) e f.chain) k
            (sym (ap (λ (c : Control). root_only c && starts_with x.record_tag k) e) ∙ h) t
        by (inside o (o' ∷ os)) e = absurd (omega (arith, l, ap open_in e))
