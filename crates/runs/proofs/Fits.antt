-- Under a sheet that fits a run keeps and writes only what fits: values in bounds and one for each attribute, tags of the sheet's names and
-- characters of the Char set. Act by act: a visit by its program (`Execute`), an echo by the name or the character.
-- Assumes nothing.
use mathlib.Core.Path.{◌≡◌, refl, sym, ◌∙◌, subst}
use mathlib.Core.Bool.{Bool, true, false}
use mathlib.Core.List.{List, [], ◌∷◌, ◌++◌}
use mathlib.Core.Logic.{◌↔◌}
use mathlib.Core.Option.{Option, none, some}
use Prim.Native.Nat.{ℕ, zero, suc, ◌<◌}
use native.Mathlib.Omega.{arith}
use lib.ListN.{length, replicate, length-replicate}
use Rattle.expressions.specs.Words.{Bracket, opening, closing}
use Rattle.expressions.specs.Grammar.{Production}
use Rattle.programs.specs.Program.{Program}
use Rattle.programs.specs.Limits.{Attribute, Visit, first, second}
use Rattle.output.specs.Escape.{Piece, start, end, character, PieceFits, AllFit}
use Rattle.sheet.specs.Sheet.{Sheet}
use Rattle.runs.specs.Options.{bind}
use Rattle.runs.specs.Execute.{Effect}
use Rattle.runs.specs.Lookup.{tag_of, find}
use Rattle.runs.specs.Visits.{grammar, programs_of, tag_name, Env, attributes, Saved, saved, performed, visited, visit, while_on, echoed, returned, opens, revisits, closes, enters, leaves, reads}
use Rattle.runs.specs.Acts.{Act, node_first, node_second, start_tag, end_tag, letter_read, bracket_acts, Store, fresh_store, with_node, innermost, without_node, without_element, act, acts}
use Rattle.runs.specs.Events.{Event, starts, ends, letter}
use Rattle.runs.specs.Machine.{at_start, Control, before, inside, after, go, root_by, move, most, Configuration, finished, run}
use Rattle.runs.specs.Fits.{EventsFit, ProgramFits, SheetFits, AllValues, ValuesFit, AllKeptFit, StoreFits, LettersFit}
use Rattle.runs.proofs.Moves.{Moves, stay, then, refuse_go, go_inj, moves_run}
use Rattle.runs.proofs.Sound.{started, was_read, ended}
use Rattle.runs.proofs.Execute.{name_at, fit_append, Fine, execute_fine}

abbrev EnvFits : Env → Type 0
EnvFits v = ValuesFit v.values × AllFit v.out

abbrev EnvOk : Option Env → Type 0
EnvOk none = Unit {0}
EnvOk (some v) = EnvFits v

abbrev StoreOk : Option Store → Type 0
StoreOk none = Unit {0}
StoreOk (some m) = StoreFits m

then_ok : (f : Env → Env) → ((v : Env) → EnvFits v → EnvFits (f v)) → (o : Option Env) → EnvOk o → EnvOk (bind o (λ x. some (f x)))
then_ok f F none h = tt
then_ok f F (some v) h = F v h

echo_fits : (p : Piece) → PieceFits p → (v : Env) → EnvFits v → EnvFits (echoed p v)
echo_fits p f v h = (h.0, fit_append v.out (while_on v.echo p) h.1 (on v.echo))
  where
    on : (b : Bool) → AllFit (while_on b p)
    on true = (f, tt)
    on false = tt

module _ (s : Sheet) (ok : SheetFits s) where
  performed_fine : (v : Visit) (k : List ℕ) → AllValues k → (p : Option Program) → ProgramFits s v p → (vs : List ℕ) (on : Bool) → AllValues vs → Fine (length vs) (performed s k p vs on)
  performed_fine v k h none f vs on w = (w, refl, tt)
  performed_fine v k h (some p) f vs on w = execute_fine s ok.names_fit k h p f.0.fits vs on w

  visit_ok : (a : Visit) (k : List ℕ) → AllValues k → (p : Option Program) → ProgramFits s a p → (v : Env) → EnvFits v → EnvOk (visit s k p v)
  visit_ok a k h p f v e = by (performed s k p v.values v.echo) (performed_fine a k h p f v.values v.echo e.0.1)
    where
      by : (o : Option Effect) → Fine (length v.values) o → EnvOk (bind o (λ x. some (visited v x)))
      by none g = tt
      by (some x) g = ((g.1 ∙ e.0.0, g.0), fit_append v.out x.printed e.1 g.2)

  opens_ok : (q i : ℕ) (v : Env) → EnvFits v → EnvOk (opens s q i v)
  opens_ok q i v e = visit_ok first [] tt (programs_of s.rules q i).first_visit (ok.first_fits q i) v e

  revisits_ok : (q i : ℕ) (k : Saved) → AllValues k.values → (v : Env) → EnvFits v → EnvOk (revisits s q i k v)
  revisits_ok q i k h v e = visit_ok second k.values h (programs_of s.rules q i).second_visit (ok.second_fits q i) v e

  closes_ok : (q i : ℕ) (k : Saved) → AllValues k.values → (v : Env) → EnvFits v → EnvOk (closes s q i k v)
  closes_ok q i k h v e = then_ok (returned k.echo) (λ w x. x) (revisits s q i k v) (revisits_ok q i k h v e)

  enters_ok : (q : ℕ) (v : Env) → EnvFits v → EnvOk (enters s q v)
  enters_ok q v e =
      let n = name_at s.names (tag_of (grammar s) q) ok.names_fit (ok.tags_named q) in
      then_ok (echoed (start (tag_name s q))) (echo_fits (start (tag_name s q)) (n.0, (let l = n.1 in omega arith))) (opens s q 0 v) (opens_ok q 0 v e)

  leaves_ok : (q : ℕ) (k : Saved) → AllValues k.values → (v : Env) → EnvFits v → EnvOk (leaves s q k v)
  leaves_ok q k h v e =
      let n = name_at s.names (tag_of (grammar s) q) ok.names_fit (ok.tags_named q) in
      then_ok (λ x. returned k.echo (echoed (end (tag_name s q)) x)) (echo_fits (end (tag_name s q)) (n.0, (let l = n.1 in omega arith))) (revisits s q 0 k v)
      (revisits_ok q 0 k h v e)

  -- with what is kept after it
  store_ok : (f : Env → List (List Saved)) → ((w : Env) → EnvFits w → AllKeptFit (f w)) → (o : Option Env) → EnvOk o → StoreOk (bind o (λ w. some (record { kept = f w; env = w })))
  store_ok f F none h = tt
  store_ok f F (some w) h = record { values_fit = h.0; kept_fit = F w h; output_fits = h.1 }

  pushed_fit : (k : Saved) (kss : List (List Saved)) → ValuesFit k.values → AllKeptFit kss → AllKeptFit (with_node k kss)
  pushed_fit k [] h e = tt
  pushed_fit k (ks ∷ kss) h e = ((h, e.0), e.1)

  innermost_fits : (kss : List (List Saved)) → AllKeptFit kss → AllValues (innermost kss).values
  innermost_fits [] h = tt
  innermost_fits ([] ∷ kss) h = tt
  innermost_fits ((k ∷ ks) ∷ kss) h = h.0.0.1

  node_fit : (kss : List (List Saved)) → AllKeptFit kss → AllKeptFit (without_node kss)
  node_fit [] h = tt
  node_fit ([] ∷ kss) h = h
  node_fit ((k ∷ ks) ∷ kss) h = (h.0.1, h.1)

  element_fit : (kss : List (List Saved)) → AllKeptFit kss → AllKeptFit (without_element kss)
  element_fit [] h = tt
  element_fit (ks ∷ kss) h = h.1

  act_ok : (a : Act) → LettersFit (a ∷ []) → (m : Store) → StoreFits m → StoreOk (act s a m)
  act_ok (node_first q i) l m h =
      store_ok (λ w. with_node (saved m.env w) m.kept) (λ w e. pushed_fit (saved m.env w) m.kept e.0 h.kept_fit) (opens s q i m.env)
      (opens_ok q i m.env (h.values_fit, h.output_fits))
  act_ok (node_second q i) l m h =
      let k : Saved = innermost m.kept in
      store_ok (λ w. without_node m.kept) (λ w e. node_fit m.kept h.kept_fit) (closes s q i k m.env)
      (closes_ok q i k (innermost_fits m.kept h.kept_fit) m.env (h.values_fit, h.output_fits))
  act_ok (start_tag q) l m h =
      store_ok (λ w. (saved m.env w ∷ []) ∷ m.kept) (λ w e. ((e.0, tt), h.kept_fit)) (enters s q m.env) (enters_ok q m.env (h.values_fit, h.output_fits))
  act_ok (end_tag q) l m h =
      let k : Saved = innermost m.kept in
      store_ok (λ w. without_element m.kept) (λ w e. element_fit m.kept h.kept_fit) (leaves s q k m.env)
      (leaves_ok q k (innermost_fits m.kept h.kept_fit) m.env (h.values_fit, h.output_fits))
  act_ok (letter_read c) l m h =
      store_ok (λ w. m.kept) (λ w e. h.kept_fit) (reads s c m.env) (echo_fits (character c) l.0 m.env (h.values_fit, h.output_fits))

  letters_split : (a : Act) (bs : List Act) → LettersFit (a ∷ bs) → LettersFit (a ∷ []) × LettersFit bs
  letters_split (node_first q i) bs l = (tt, l)
  letters_split (node_second q i) bs l = (tt, l)
  letters_split (start_tag q) bs l = (tt, l)
  letters_split (end_tag q) bs l = (tt, l)
  letters_split (letter_read c) bs l = ((l.0, tt), l.1)

  acts_ok : (bs : List Act) → LettersFit bs → (m : Store) → StoreFits m → StoreOk (acts s bs m)
  acts_ok [] l m h = h
  acts_ok (a ∷ bs) l m h =
      let i = letters_split a bs l in
      by (λ m' h'. acts_ok bs i.1 m' h') (act s a m) (act_ok a i.0 m h)
    where
      by : ((m' : Store) → StoreFits m' → StoreOk (acts s bs m')) → (o : Option Store) → StoreOk o → StoreOk (bind o (λ m'. acts s bs m'))
      by f none h = tt
      by f (some m') h = f m' h

  pub acts_fit : (bs : List Act) → LettersFit bs → (m m' : Store) → StoreFits m → acts s bs m ≡ some m' → StoreFits m'
  acts_fit bs l m m' h e = subst StoreOk e (acts_ok bs l m h)

zeros_fit : (n : ℕ) → AllValues (replicate n 0)
zeros_fit zero = tt
zeros_fit (suc n) = (omega arith, zeros_fit n)

pub fresh_fits : StoreFits fresh_store
fresh_fits = record { values_fit = (length-replicate {A = ℕ} attributes 0, zeros_fit attributes); kept_fit = tt; output_fits = tt }

-- the characters that a run's acts read are those of its events
brackets_fit : (q : ℕ) (α : List Bracket) (bs : List Act) → LettersFit bs → LettersFit (bracket_acts q α ++ bs)
brackets_fit q [] bs h = h
brackets_fit q (opening i ∷ α) bs h = brackets_fit q α bs h
brackets_fit q (closing i ∷ α) bs h = brackets_fit q α bs h

letters_append : (bs cs : List Act) → LettersFit bs → LettersFit cs → LettersFit (bs ++ cs)
letters_append [] cs h k = k
letters_append (node_first q i ∷ bs) cs h k = letters_append bs cs h k
letters_append (node_second q i ∷ bs) cs h k = letters_append bs cs h k
letters_append (start_tag q ∷ bs) cs h k = letters_append bs cs h k
letters_append (end_tag q ∷ bs) cs h k = letters_append bs cs h k
letters_append (letter_read c ∷ bs) cs h k = (h.0, letters_append bs cs h.1 k)

module _ (g : List Production) (n lim : ℕ) where
  move_letters : (c : Control) (x : Event) (bs : List Act) (c' : Control) → move g n lim c x ≡ go bs c' → EventsFit (x ∷ []) → LettersFit bs
  move_letters before (starts none) bs c' e h = refuse_go bs c' e
  move_letters before (starts (some t)) bs c' e h = by (find g n t) e
    where
      by : (f : Option ℕ) → root_by f ≡ go bs c' → LettersFit bs
      by none e = refuse_go bs c' e
      by (some q) e = subst LettersFit (go_inj (start_tag q ∷ []) bs (inside (at_start q) []) c' e).0 tt
  move_letters before (ends t) bs c' e h = refuse_go bs c' e
  move_letters before (letter y) bs c' e h = refuse_go bs c' e
  move_letters (inside o os) (starts none) bs c' e h = refuse_go bs c' e
  move_letters (inside o os) (starts (some t)) bs c' e h =
      let d = started g lim o os n t bs c' e in
      subst LettersFit (sym d.are_acts) (brackets_fit o.production d.by.string (start_tag d.production ∷ []) tt)
  move_letters (inside o os) (ends t) bs c' e h =
      let d = ended g lim o os n t bs c' e in
      subst LettersFit (sym d.are_acts) (brackets_fit o.production d.by (end_tag o.production ∷ []) tt)
  move_letters (inside o os) (letter y) bs c' e h =
      let d = was_read g lim o os n y bs c' e in
      subst LettersFit (sym d.are_acts) (brackets_fit o.production d.by.string (letter_read y ∷ []) (h.0, tt))
  move_letters after x bs c' e h = refuse_go bs c' e

  events_split : (x : Event) (xs : List Event) → EventsFit (x ∷ xs) → EventsFit (x ∷ []) × EventsFit xs
  events_split (starts t) xs h = (tt, h)
  events_split (ends t) xs h = (tt, h)
  events_split (letter y) xs h = ((h.0, tt), h.1)

  pub moves_letters : {c c' : Control} {xs : List Event} {bs : List Act} → Moves g n lim c xs bs c' → EventsFit xs → LettersFit bs
  moves_letters stay h = tt
  moves_letters {c} (then {c' = c'} {xs = xs} {cs = cs} x bs e r) h =
      let i = events_split x xs h in
      letters_append bs cs (move_letters c x bs c' e i.0) (moves_letters r i.1)

-- under a sheet that fits every state that a run comes to from one that fits keeps and has written only what fits
pub run_fits : (s : Sheet) → SheetFits s → (z : Configuration) → StoreFits z.store → (xs : List Event) → EventsFit xs → (z' : Configuration) → run s z xs ≡ finished z' → StoreFits z'.store
run_fits s ok z f xs h z' e =
    let t = moves_run s z.control z.store xs z' e in
    acts_fit s ok t.row (moves_letters (grammar s) s.start_nonterminal most t.moved h) z.store z'.store f t.done

-- there are as many values as a program may name attributes
pub attribute_iff : (a : ℕ) → Attribute a ↔ (a < attributes)
attribute_iff a = ((λ h. omega arith), (λ h. omega arith))
