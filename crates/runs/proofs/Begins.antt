-- An event that some tree goes on with is not refused with 23; and where every nonterminal that stands in an expression has a tree, whatever is
-- taken is the beginning of some tree's events: each open element can go on to its end, so its word is filled in and the run goes on over it.
-- Assumes nothing.
use mathlib.Core.Path.{◌≡◌, refl, sym, ◌∙◌, ap, subst}
use mathlib.Core.List.{List, [], ◌∷◌, ◌++◌, append_assoc, append-nil}
use mathlib.Core.Option.{Option, none, some}
use Prim.Native.Nat.{ℕ, suc, ◌+◌, ◌≤◌, max}
use native.Mathlib.Omega.{arith}
use lib.ListN.{length}
use Rattle.expressions.specs.Expr.{nonterminal, anychar}
use Rattle.expressions.specs.Words.{Sym, br, at, Words}
use Rattle.expressions.specs.Grammar.{tag, character, Production, tags_of}
use Rattle.expressions.specs.Grammar.{content_of}
use Rattle.runs.specs.Lookup.{find}
use Rattle.sheet.specs.Sheet.{Sheet}
use Rattle.runs.specs.Visits.{grammar}
use Rattle.runs.specs.Events.{Event, starts, ends, letter}
use Rattle.runs.specs.Parse.{Element, yield, element_depth}
use Rattle.runs.specs.Way.{Way}
use Rattle.runs.specs.Acts.{Act, Store, fresh_store, acts}
use Rattle.runs.specs.Machine.{Open, Control, before, inside, after, Turn, refuse, go, outer, root_by, move, most, Configuration, fresh_configuration, refused, acted, turned, finished, run}
use Rattle.runs.specs.Line.{Part, mark, filled, lettered, skeleton, depths}
use Rattle.expressions.proofs.Rule.{Rest}
use Rattle.runs.proofs.Rules.{NoTFault, NoSFault, no_T_lem, no_S_lem}
use Rattle.expressions.proofs.Rule.{begin}
use Rattle.runs.proofs.Ways.{GoesTo, found_atom}
use Rattle.runs.proofs.Moves.{Moves, stay, then, moves_append, moves_one, refuse_go, go_inj, moves_run}
use Rattle.runs.proofs.Complete.{AllBody, walk, body, complete}
use Rattle.runs.proofs.Sound.{started, was_read, ended}
use Rattle.runs.proofs.Live.{start_live, rest_on}
use Rattle.runs.proofs.Back.{sound}
use Rattle.runs.specs.Taken.{Passed, Refused, Productive}
use Rattle.runs.proofs.Answers.{refused_iff}
use Rattle.runs.proofs.Limit.{split, moves_wider, same_refusal}

abbrev Text : Type 0
Text = List Sym

-- an event that some tree goes on with is not refused with 23
not_refused : (g : List Production) (n lim : ℕ) → NoTFault g → NoSFault g → (xs : List Event) (x : Event) (bs : List Act) (c : Control) → Moves g n lim before xs bs c →
    move g n lim c x ≡ refuse 23 → (t : Element g n) (ys : List Event) → yield t ≡ xs ++ x ∷ ys → ⊥
not_refused g n lim keeps_T keeps_S xs x bs c m r t ys e =
    let wide : ℕ = max lim (element_depth t) in
    let s = split xs x ys (complete g n wide keeps_T keeps_S t (omega arith)) e in
    let same = moves_one (moves_wider g n lim wide (omega arith) m) s.first_half in
    refuse_go s.now s.to (sym (sym s.moved ∙ ap (λ (z : Control). move g n wide z x) (sym same.1) ∙ same_refusal g n lim wide (omega arith) 23 (λ q. omega arith) c x r))

-- every open element can go on to its end
abbrev Live : List Production → Open → Type 0
Live g o = (w : Text) × Rest (content_of g o.production) o.place w

abbrev AllLive : List Production → List Open → Type 0
AllLive g [] = Unit {0}
AllLive g (o ∷ os) = Live g o × AllLive g os

abbrev LiveAt : List Production → Control → Type 0
LiveAt g before = Unit {0}
LiveAt g (inside o os) = Live g o × AllLive g os
LiveAt g after = Unit {0}

outer_live : (g : List Production) (os : List Open) → AllLive g os → LiveAt g (outer os)
outer_live g [] a = tt
outer_live g (o ∷ os) a = a

module _ (g : List Production) (n lim : ℕ) where
  live_step : (c : Control) (x : Event) (bs : List Act) (c' : Control) → LiveAt g c → move g n lim c x ≡ go bs c' → LiveAt g c'
  live_step before (starts none) bs c' a e = refuse_go bs c' e
  live_step before (starts (some t)) bs c' a e = by_found (find g n t) e
    where
      by_found : (f : Option ℕ) → root_by f ≡ go bs c' → LiveAt g c'
      by_found none e = refuse_go bs c' e
      by_found (some q) e = let i = go_inj _ bs _ c' e in subst (LiveAt g) i.1 (start_live (content_of g q), tt)
  live_step before (ends t) bs c' a e = refuse_go bs c' e
  live_step before (letter x) bs c' a e = refuse_go bs c' e
  live_step (inside o os) (starts none) bs c' a e = refuse_go bs c' e
  live_step (inside o os) (starts (some t)) bs c' a e =
      let d = started g lim o os n t bs c' e in
      let w : Way = d.by in
      let G : GoesTo (tags_of g) (tag t) (Rest (content_of g o.production) o.place) w = found_atom (tags_of g) (tag t) (content_of g o.production) o.place w d.is_way in
      subst (LiveAt g) (sym d.is_control)
      (start_live (content_of g d.production), ((G.0, rest_on (content_of g o.production) o.place w.string w.place w.kind G.0 G.2), a.1))
  live_step (inside o os) (ends t) bs c' a e = let d = ended g lim o os n t bs c' e in subst (LiveAt g) (sym d.is_control) (outer_live g os a.1)
  live_step (inside o os) (letter x) bs c' a e =
      let d = was_read g lim o os n x bs c' e in
      let w : Way = d.by in
      let G : GoesTo (tags_of g) character (Rest (content_of g o.production) o.place) w = found_atom (tags_of g) character (content_of g o.production) o.place w d.is_way in
      subst (LiveAt g) (sym d.is_control)
      ((G.0, rest_on (content_of g o.production) o.place w.string w.place w.kind G.0 G.2), a.1)
  live_step after x bs c' a e = refuse_go bs c' e

  live_moves : {c c' : Control} {xs : List Event} {bs : List Act} → Moves g n lim c xs bs c' → LiveAt g c → LiveAt g c'
  live_moves stay a = a
  live_moves {c} (then {c' = c'} x bs e r) a = live_moves r (live_step c x bs c' a e)

module _ (g : List Production) (keeps_T : NoTFault g) (keeps_S : NoSFault g) (trees : Productive g) (n : ℕ) where
  -- a word filled in
  fill : (q : ℕ) (u w : Text) → Words (content_of g q) (u ++ w) → (fs : List (Part g)) × (skeleton fs ≡ w)
  fill q u [] W = ([], refl)
  fill q u (br c ∷ w) W =
      let i = fill q (u ++ br c ∷ []) w (subst (Words (content_of g q)) (sym (append_assoc u (br c ∷ []) w)) W) in
      (mark c ∷ i.0, ap (λ (z : Text). br c ∷ z) i.1)
  fill q u (at j (nonterminal m) ∷ w) W =
      let i = fill q (u ++ at j (nonterminal m) ∷ []) w (subst (Words (content_of g q)) (sym (append_assoc u (at j (nonterminal m) ∷ []) w)) W) in
      (filled j m (trees q j m u w W) ∷ i.0, ap (λ (z : Text). at j (nonterminal m) ∷ z) i.1)
  fill q u (at j anychar ∷ w) W =
      let i = fill q (u ++ at j anychar ∷ []) w (subst (Words (content_of g q)) (sym (append_assoc u (at j anychar ∷ []) w)) W) in
      (lettered j 0 ∷ i.0, ap (λ (z : Text). at j anychar ∷ z) i.1)

  all_bodies : (lim : ℕ) (fs : List (Part g)) → AllBody g n lim keeps_T keeps_S fs
  all_bodies lim [] = tt
  all_bodies lim (mark c ∷ fs) = all_bodies lim fs
  all_bodies lim (filled j m t ∷ fs) = (body g n lim keeps_T keeps_S t, all_bodies lim fs)
  all_bodies lim (lettered j c ∷ fs) = all_bodies lim fs

  record Finish (o : Open) (os : List Open) : Type 0 where
    pub limit : ℕ
    pub rest : List Event
    pub row : List Act
    pub moves : Moves g n limit (inside o os) rest row after

  one_more : (o : Open) (os : List Open) → Live g o → (lim₁ : ℕ) → suc (length os) ≤ lim₁ →
      (lim : ℕ) × (lim₁ ≤ lim) × (ys : List Event) × (bs : List Act) × Moves g n lim (inside o os) ys bs (outer os)
  one_more o os l lim₁ h =
      let q : ℕ = o.production in
      let b = begin (content_of g q) o.place l.0 l.1 in
      let f = fill q b.0 l.0 (b.2 l.0 l.1) in
      let W : Words (content_of g q) (b.0 ++ skeleton f.0) = subst (λ (z : Text). Words (content_of g q) (b.0 ++ z)) (sym f.1) (b.2 l.0 l.1) in
      let lim : ℕ = lim₁ + (suc (length os) + depths f.0) in
      (lim, omega arith, _, _, walk g n lim keeps_T keeps_S q os o.place b.0 [] f.0 b.1 W (all_bodies lim f.0) (omega arith))

  finish : (o : Open) (os : List Open) (lim₁ : ℕ) → Live g o → AllLive g os → (lim : ℕ) × (lim₁ ≤ lim) × (ys : List Event) × (bs : List Act) × Moves g n lim (inside o os) ys bs after
  finish o [] lim₁ l a = let m = one_more o [] l (suc lim₁) (omega arith) in (m.0, (let h : suc lim₁ ≤ m.0 = m.1 in omega arith), m.2, m.3, m.4)
  finish o (o' ∷ os) lim₁ l a =
      let m = one_more o (o' ∷ os) l (suc (suc (length os)) + lim₁) (omega arith) in
      let r = finish o' os m.0 a.0 a.1 in
      let h : suc (suc (length os)) + lim₁ ≤ m.0 = m.1 in
      let h' : m.0 ≤ r.0 = r.1 in
      (r.0, omega arith, m.2 ++ r.2, m.3 ++ r.3, moves_append (moves_wider g n m.0 r.0 h' m.4) r.4)

  goes_on : (lim : ℕ) (xs : List Event) (bs : List Act) (o : Open) (os : List Open) → Moves g n lim before xs bs (inside o os) →
      (t : Element g n) × (ys : List Event) × (yield t ≡ xs ++ ys)
  goes_on lim xs bs o os m =
      let a = live_moves g n lim m tt in
      let f = finish o os (suc lim) a.0 a.1 in
      let h : suc lim ≤ f.0 = f.1 in
      let s = sound g n f.0 (omega arith) (xs ++ f.2) (bs ++ f.3) (moves_append (moves_wider g n lim f.0 (omega arith) m) f.4) in
      (s.root, f.2, s.are_events)

  -- and so, where each nonterminal has a tree, whatever is taken is the beginning of some tree's events
  taken_begins : (lim : ℕ) → 1 ≤ lim → (xs : List Event) (bs : List Act) (c : Control) → Moves g n lim before xs bs c → (c ≡ before → ⊥) →
      (t : Element g n) × (ys : List Event) × (yield t ≡ xs ++ ys)
  taken_begins lim one xs bs before m d = absurd (d refl)
  taken_begins lim one xs bs (inside o os) m d = goes_on lim xs bs o os m
  taken_begins lim one xs bs after m d = let s = sound g n lim one xs bs m in (s.root, [], s.are_events ∙ sym (append-nil xs))

-- the same of the machine
module _ (s : Sheet) (ok : Passed s) (xs : List Event) (z : Configuration) (ran : run s fresh_configuration xs ≡ finished z) where
  pub tree_not_refused : (x : Event) → Refused s xs x 23 → (t : Element (grammar s) s.start_nonterminal) (ys : List Event) → yield t ≡ xs ++ x ∷ ys → ⊥
  tree_not_refused x r t ys e =
      let m = moves_run s before fresh_store xs z ran in
      not_refused (grammar s) s.start_nonterminal most (no_T_lem (grammar s) ok.keeps_T) (no_S_lem (grammar s) ok.keeps_S) xs x m.row z.control m.moved
      (by (move (grammar s) s.start_nonterminal most z.control x) refl ((refused_iff s ok xs z ran x 23).1 r)) t ys e
    where
      by_store : (o : Option Store) (c : Control) → acted c o ≡ refused 23 → ⊥
      by_store none c e = let i : ◌≡◌ {A = ℕ} 25 23 = cc in omega arith
      by_store (some m) c e = let i : ◌≡◌ {A = ℕ} 0 1 = cc in omega arith

      by : (u : Turn) → move (grammar s) s.start_nonterminal most z.control x ≡ u → turned s z.store u ≡ refused 23 →
          move (grammar s) s.start_nonterminal most z.control x ≡ refuse 23
      by (refuse k) i e = let h : k ≡ 23 = cc in i ∙ ap refuse h
      by (go bs c) i e = absurd (by_store (acts s bs z.store) c e)

  pub run_begins : Productive (grammar s) → (z.control ≡ before → ⊥) → (t : Element (grammar s) s.start_nonterminal) × (ys : List Event) × (yield t ≡ xs ++ ys)
  run_begins trees d =
      let m = moves_run s before fresh_store xs z ran in
      taken_begins (grammar s) (no_T_lem (grammar s) ok.keeps_T) (no_S_lem (grammar s) ok.keeps_S) trees s.start_nonterminal most (omega arith) xs m.row z.control m.moved d
