-- In a run as many sets are kept of each open element as its place has open nodes, and one for its production: each bracket of a string opens or
-- closes the innermost node and keeps or drops its set.
-- Assumes nothing.
use mathlib.Core.Path.{◌≡◌, refl, sym, ◌∙◌, ap, subst}
use mathlib.Core.Bool.{Bool, true, false}
use mathlib.Core.List.{List, [], ◌∷◌, ◌++◌}
use mathlib.Core.Option.{Option, none, some, none-ne-some as none_some}
use Prim.Native.Nat.{ℕ, suc, ◌+◌}
use native.Mathlib.Omega.{arith}
use lib.Dec.{ltb, eqb}
use lib.ListN.{length}
use Rattle.expressions.specs.Expr.{Content}
use Rattle.expressions.specs.Words.{Bracket, opening, closing}
use Rattle.expressions.specs.Grammar.{tag, character, Production, tags_of}
use Rattle.sheet.specs.Sheet.{Sheet}
use Rattle.expressions.specs.Grammar.{content_of}
use Rattle.runs.specs.Lookup.{find}
use Rattle.runs.specs.Visits.{Env, Saved, saved, opens, closes, enters, leaves, echoed, grammar}
use Rattle.output.specs.Escape.{character as output_character}
use Rattle.runs.specs.Options.{bind}
use Rattle.runs.specs.Events.{Event, starts, ends, letter}
use Rattle.runs.specs.Way.{Way}
use Rattle.runs.specs.Nodes.{deepest, only_if, through_nodes, KeptOfAll, KeptAt}
use Rattle.runs.specs.Acts.{Act, start_tag, end_tag, letter_read, bracket_acts, Store, fresh_store, innermost, without_element, with_kept, act, acts}
use Rattle.runs.specs.Machine.{Open, at_place_lem, at_start, Control, before, inside, after, go, outer, root_by, move, Configuration, finished, run, fresh_configuration}
use Rattle.expressions.proofs.Rule.{Rest}
use Rattle.runs.proofs.Line.{acts_append}
use Rattle.runs.proofs.Ways.{GoesTo, found_end, found_atom}
use Rattle.runs.proofs.Nodes.{atom_nodes, end_nodes}
use Rattle.runs.proofs.Moves.{Moves, stay, then, go_inj, moves_run}
use Rattle.runs.proofs.Sound.{started, was_read, ended}

abbrev Kept : Type 0
Kept = List (List Saved)

abbrev store : Kept → Env → Store
store kss v = record { kept = kss; env = v }

if_some : (b : Bool) (o : Option (List ℕ)) (ms : List ℕ) → only_if b o ≡ some ms → o ≡ some ms
if_some true o ms e = e
if_some false o ms e = absurd (none_some ms e)

module _ (s : Sheet) (q : ℕ) (kss : Kept) where
  -- the visits along a bracket string
  pub kept_string : (lim : ℕ) (α : List Bracket) (ns ms : List ℕ) → through_nodes lim α ns ≡ some ms → (ks : List Saved) (v : Env) → length ks ≡ suc (length ns) →
      (m : Store) → acts s (bracket_acts q α) (store (ks ∷ kss) v) ≡ some m → (ks' : List Saved) × (m.kept ≡ ks' ∷ kss) × (length ks' ≡ suc (length ms))
  kept_string lim [] ns ms t ks v l m e =
      let h : store (ks ∷ kss) v ≡ m = cc in
      let i : ns ≡ ms = cc in
      (ks, ap (λ (z : Store). z.kept) (sym h), l ∙ ap (λ (z : List ℕ). suc (length z)) i)
  kept_string lim (opening b ∷ α) ns ms t ks v l m e =
      by (λ k w e'. kept_string lim α (b ∷ ns) ms (if_some (ltb (length ns) lim) (through_nodes lim α (b ∷ ns)) ms t) (k ∷ ks) w (ap suc l) m e') (opens s q b v) e
    where
      by : ((k : Saved) (w : Env) → acts s (bracket_acts q α) (store ((k ∷ ks) ∷ kss) w) ≡ some m → (ks' : List Saved) × (m.kept ≡ ks' ∷ kss) × (length ks' ≡ suc (length ms))) →
          (o : Option Env) → bind (bind o (λ w. some (store ((saved v w ∷ ks) ∷ kss) w))) (λ m'. acts s (bracket_acts q α) m') ≡ some m →
          (ks' : List Saved) × (m.kept ≡ ks' ∷ kss) × (length ks' ≡ suc (length ms))
      by f none e = absurd (none_some m e)
      by f (some w) e = f (saved v w) w e
  kept_string lim (closing b ∷ α) [] ms t ks v l m e = absurd (none_some ms t)
  kept_string lim (closing b ∷ α) (n ∷ ns) ms t [] v l m e = absurd (let z : ◌≡◌ {A = ℕ} 0 1 = cc in omega arith)
  kept_string lim (closing b ∷ α) (n ∷ ns) ms t (k ∷ ks) v l m e =
      by (λ w e'. kept_string lim α ns ms (if_some (eqb b n) (through_nodes lim α ns) ms t) ks w (let l' : suc (length ks) ≡ suc (suc (length ns)) = l in omega arith) m e') (closes s q b k v) e
    where
      by : ((w : Env) → acts s (bracket_acts q α) (store (ks ∷ kss) w) ≡ some m → (ks' : List Saved) × (m.kept ≡ ks' ∷ kss) × (length ks' ≡ suc (length ms))) →
          (o : Option Env) → bind (bind o (λ w. some (store (ks ∷ kss) w))) (λ m'. acts s (bracket_acts q α) m') ≡ some m →
          (ks' : List Saved) × (m.kept ≡ ks' ∷ kss) × (length ks' ≡ suc (length ms))
      by f none e = absurd (none_some m e)
      by f (some w) e = f w e

-- acts one after the other
acts_two : (s : Sheet) (bs : List Act) (a : Act) (m m' : Store) → acts s (bs ++ a ∷ []) m ≡ some m' → (h : Store) × (acts s bs m ≡ some h) × (act s a h ≡ some m')
acts_two s bs a m m' e = by (acts s bs m) refl (sym (acts_append s bs (a ∷ []) m) ∙ e)
  where
    last : (o : Option Store) → bind o (λ y. some y) ≡ some m' → o ≡ some m'
    last none e = absurd (none_some m' e)
    last (some y) e = e

    by : (o : Option Store) → acts s bs m ≡ o → bind o (λ h. acts s (a ∷ []) h) ≡ some m' → (h : Store) × (acts s bs m ≡ some h) × (act s a h ≡ some m')
    by none q e = absurd (none_some m' e)
    by (some h) q e = (h, q, last (act s a h) e)

start_kept : (s : Sheet) (q : ℕ) (h m : Store) → act s (start_tag q) h ≡ some m → (k : Saved) × (m.kept ≡ (k ∷ []) ∷ h.kept)
start_kept s q h m e = by (enters s q h.env) e
  where
    by : (o : Option Env) → bind o (λ w. some (store ((saved h.env w ∷ []) ∷ h.kept) w)) ≡ some m → (k : Saved) × (m.kept ≡ (k ∷ []) ∷ h.kept)
    by none e = absurd (none_some m e)
    by (some w) e = let i : store ((saved h.env w ∷ []) ∷ h.kept) w ≡ m = cc in (saved h.env w, ap (λ (z : Store). z.kept) (sym i))

char_kept : (s : Sheet) (c : ℕ) (h m : Store) → act s (letter_read c) h ≡ some m → m.kept ≡ h.kept
char_kept s c h m e = let i : store h.kept (echoed (output_character c) h.env) ≡ m = cc in ap (λ (z : Store). z.kept) (sym i)

end_kept : (s : Sheet) (q : ℕ) (ks : List Saved) (kss : Kept) (h m : Store) → h.kept ≡ ks ∷ kss → act s (end_tag q) h ≡ some m → m.kept ≡ kss
end_kept s q ks kss h m i e = by (leaves s q (innermost h.kept) h.env) e
  where
    by : (o : Option Env) → with_kept (without_element h.kept) o ≡ some m → m.kept ≡ kss
    by none e = absurd (none_some m e)
    by (some w) e = let j : store (without_element h.kept) w ≡ m = cc in ap (λ (z : Store). z.kept) (sym j) ∙ ap without_element i

kept_outer : (g : List Production) (os : List Open) (kss : Kept) → KeptOfAll g os kss → KeptAt g (outer os) kss
kept_outer g [] [] h = refl
kept_outer g [] (ks ∷ kss) h = absurd h
kept_outer g (o ∷ os) kss h = h

module _ (s : Sheet) where
  abbrev g : List Production
  g = grammar s

  kept_inside : (n lim : ℕ) (o : Open) (os : List Open) (x : Event) (bs : List Act) (c : Control) → move g n lim (inside o os) x ≡ go bs c →
      (ks : List Saved) (kss : Kept) (v : Env) → KeptOfAll g (o ∷ os) (ks ∷ kss) → (m : Store) → acts s bs (store (ks ∷ kss) v) ≡ some m → KeptAt g c m.kept
  kept_inside n lim o os (starts none) bs c e ks kss v h m a = absurd (let z : ◌≡◌ {A = ℕ} 0 1 = cc in omega arith)
  kept_inside n lim o os (starts (some t)) bs c e ks kss v h m a =
      let d = started g lim o os n t bs c e in
      let w : Way = d.by in
      let C : Content = content_of g o.production in
      let G : GoesTo (tags_of g) (tag t) (Rest C o.place) w = found_atom (tags_of g) (tag t) C o.place w d.is_way in
      let A = acts_two s (bracket_acts o.production w.string) (start_tag d.production) (store (ks ∷ kss) v) m (ap (λ (z : List Act). acts s z (store (ks ∷ kss) v)) (sym d.are_acts) ∙ a) in
      let N = atom_nodes C o.place w.string w.place w.kind G.0 G.2 h.0.0 h.0.1 in
      let Vs = kept_string s o.production kss (deepest C) w.string h.0.0 N.0 N.2 ks v h.0.2 A.0 A.1 in
      let S = start_kept s d.production A.0 m A.2 in
      let k : m.kept ≡ (S.0 ∷ []) ∷ Vs.0 ∷ kss = S.1 ∙ ap (λ (z : Kept). (S.0 ∷ []) ∷ z) Vs.1 in
      subst (λ (y : Control). KeptAt g y m.kept) (sym d.is_control)
      (subst (KeptOfAll g (at_start d.production ∷ at_place_lem o w.place ∷ os)) (sym k) (([], refl, refl), ((N.0, N.1, Vs.2), h.1)))
  kept_inside n lim o os (ends t) bs c e ks kss v h m a =
      let d = ended g lim o os n t bs c e in
      let C : Content = content_of g o.production in
      let A = acts_two s (bracket_acts o.production d.by) (end_tag o.production) (store (ks ∷ kss) v) m (ap (λ (z : List Act). acts s z (store (ks ∷ kss) v)) (sym d.are_acts) ∙ a) in
      let Vs = kept_string s o.production kss (deepest C) d.by h.0.0 []
      (end_nodes C o.place d.by (found_end C o.place d.by d.is_way) h.0.0 h.0.1) ks v h.0.2 A.0 A.1 in
      subst (λ (y : Control). KeptAt g y m.kept) (sym d.is_control)
      (kept_outer g os m.kept (subst (KeptOfAll g os) (sym (end_kept s o.production Vs.0 kss A.0 m Vs.1 A.2)) h.1))
  kept_inside n lim o os (letter x) bs c e ks kss v h m a =
      let d = was_read g lim o os n x bs c e in
      let w : Way = d.by in
      let C : Content = content_of g o.production in
      let G : GoesTo (tags_of g) character (Rest C o.place) w = found_atom (tags_of g) character C o.place w d.is_way in
      let A = acts_two s (bracket_acts o.production w.string) (letter_read x) (store (ks ∷ kss) v) m (ap (λ (z : List Act). acts s z (store (ks ∷ kss) v)) (sym d.are_acts) ∙ a) in
      let N = atom_nodes C o.place w.string w.place w.kind G.0 G.2 h.0.0 h.0.1 in
      let Vs = kept_string s o.production kss (deepest C) w.string h.0.0 N.0 N.2 ks v h.0.2 A.0 A.1 in
      let k : m.kept ≡ Vs.0 ∷ kss = char_kept s x A.0 m A.2 ∙ Vs.1 in
      subst (λ (y : Control). KeptAt g y m.kept) (sym d.is_control) (subst (KeptOfAll g (at_place_lem o w.place ∷ os)) (sym k) ((N.0, N.1, Vs.2), h.1))

  kept_step : (n lim : ℕ) (c : Control) (x : Event) (bs : List Act) (c' : Control) → move g n lim c x ≡ go bs c' → (m m' : Store) → KeptAt g c m.kept → acts s bs m ≡ some m' →
      KeptAt g c' m'.kept
  kept_step n lim before (starts none) bs c' e m m' h a = absurd (let z : ◌≡◌ {A = ℕ} 0 1 = cc in omega arith)
  kept_step n lim before (starts (some t)) bs c' e m m' h a = by (find g n t) e
    where
      by : (f : Option ℕ) → root_by f ≡ go bs c' → KeptAt g c' m'.kept
      by none e = absurd (let z : ◌≡◌ {A = ℕ} 0 1 = cc in omega arith)
      by (some q) e =
          let i = go_inj (start_tag q ∷ []) bs (inside (at_start q) []) c' e in
          let A = acts_two s [] (start_tag q) m m' (ap (λ (z : List Act). acts s z m) i.0 ∙ a) in
          let same : m ≡ A.0 = let q : some m ≡ some A.0 = A.1 in cc in
          let S = start_kept s q A.0 m' A.2 in
          let k : m'.kept ≡ (S.0 ∷ []) ∷ [] = S.1 ∙ ap (λ (z : Store). (S.0 ∷ []) ∷ z.kept) (sym same) ∙ ap (λ (z : Kept). (S.0 ∷ []) ∷ z) h in
          subst (λ (y : Control). KeptAt g y m'.kept) i.1 (subst (KeptOfAll g (at_start q ∷ [])) (sym k) (([], refl, refl), tt))
  kept_step n lim before (ends t) bs c' e m m' h a = absurd (let z : ◌≡◌ {A = ℕ} 0 1 = cc in omega arith)
  kept_step n lim before (letter x) bs c' e m m' h a = absurd (let z : ◌≡◌ {A = ℕ} 0 1 = cc in omega arith)
  kept_step n lim (inside o os) x bs c' e m m' h a = by m.kept refl h
    where
      by : (k : Kept) → m.kept ≡ k → KeptOfAll g (o ∷ os) k → KeptAt g c' m'.kept
      by [] q h = absurd h
      by (ks ∷ kss) q h = kept_inside n lim o os x bs c' e ks kss m.env h m' (ap (λ (z : Kept). acts s bs (store z m.env)) (sym q) ∙ a)
  kept_step n lim after x bs c' e m m' h a = absurd (let z : ◌≡◌ {A = ℕ} 0 1 = cc in omega arith)

  pub kept_moves : {n lim : ℕ} {c c' : Control} {xs : List Event} {bs : List Act} → Moves g n lim c xs bs c' → (m m' : Store) → KeptAt g c m.kept → acts s bs m ≡ some m' → KeptAt g c' m'.kept
  kept_moves {c = c} stay m m' h a = let i : m ≡ m' = cc in subst (λ (z : Store). KeptAt g c z.kept) i h
  kept_moves {n} {lim} {c} {c'} (then {c' = d} {cs = cs} x bs e r) m m' h a =
      by (λ y i j. kept_moves r y m' (kept_step n lim c x bs d e m y h i) j) (acts s bs m) refl (sym (acts_append s bs cs m) ∙ a)
    where
      by : ((y : Store) → acts s bs m ≡ some y → acts s cs y ≡ some m' → KeptAt g c' m'.kept) → (o : Option Store) → acts s bs m ≡ o → bind o (λ y. acts s cs y) ≡ some m' →
          KeptAt g c' m'.kept
      by f none q e = absurd (none_some m' e)
      by f (some y) q e = f y q e

-- in every state that a run comes to, as much is kept as the places say
pub kept_as_open : (s : Sheet) (xs : List Event) (z : Configuration) → run s fresh_configuration xs ≡ finished z → KeptAt (grammar s) z.control z.store.kept
kept_as_open s xs z e = let t = moves_run s before fresh_store xs z e in kept_moves s t.moved fresh_store z.store refl t.done
