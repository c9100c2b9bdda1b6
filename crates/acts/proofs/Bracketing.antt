-- A bracket's visit on a state, and brackets in turn. A node's act is by cases of what its program comes to; then what is left of a string, from
-- the state and the output so far, makes the whole: acts do not look at the output before them. The nodes that a string opens and closes keep
-- count of the sets in use.
-- Assumes nothing.
use mathlib.Core.Path.{◌≡◌, refl, sym, ap, ap₂, ◌∙◌, subst}
use Rattle.std.specs.Prelude.{Option as Taken, Some, None}
use mathlib.Core.Bool.{Bool, true, false}
use mathlib.Core.List.{List, [], ◌∷◌, ◌++◌, append-nil}
use mathlib.Core.Option.{Option, none, some, none-ne-some as none_some}
use Prim.Native.Nat.{ℕ, zero, suc, ◌+◌, ◌-◌, ◌*◌, ◌/◌, ◌%◌, ◌≤◌, ◌<◌}
use native.Mathlib.Omega.{arith}
use native.Mathlib.Numerals.{add-one}
use borrow.Author.Tests.{lt-ltb, ltb-true}
use lib.Dec.{eqb, ltb}
use lib.ListN.{length, get_or, drop}
use lib.Seq.{get_or-set_same, drop-length}
use Rattle.lent.specs.Put.{PutAs}
use Rattle.lent.proofs.Laws.{nothing_put}
use Rattle.expressions.specs.Words.{Bracket, opening, closing}
use Rattle.sheet.specs.Sheet.{Sheet, IsSheet}
use Rattle.output.specs.Escape.{Piece, render}
use Rattle.output.proofs.Writing.{put_then, same_bytes, render_append}
use Rattle.runs.specs.Options.{bind}
use Rattle.runs.specs.Execute.{Effect}
use Rattle.runs.specs.Visits.{programs_of, performed, Env as Running, saved, visited, returned}
use Rattle.runs.specs.Acts.{Act, bracket_act, bracket_acts, Store, with_node, innermost, without_node, act, acts, store_behind}
use Rattle.runs.specs.Machine.{Open, Control, inside, Configuration as Run}
use Rattle.runs.specs.Nodes.{only_if, through_nodes}
use Rattle.runs.proofs.Frame.{acts_frame}
use Rattle.calls.specs.Limits.{silent}
use Rattle.state.specs.Bounds.{most_sets}
use Rattle.state.specs.Changes.{bare_frame, last_of, put_last, keeping, top_of, with_top, saving, restored, with_env}
use Rattle.state.specs.Meaning.{meaning_of, Shaped}
use Rattle.state.specs.declared.Saved.{Saved}
use Rattle.state.specs.declared.Frame.{Frame}
use Rattle.state.specs.declared.State.{State}
use Rattle.state.proofs.Meant.{inside_open, meaning_saved, meaning_restored, shaped_env, shaped_saved}
use Rattle.visits.specs.Written.{Pen}
use Rattle.visits.specs.Ran.{Came}
use Rattle.visits.proofs.Settling.{no_effect}
use Rattle.visits.proofs.Running.{pen_at}
use Rattle.ways.specs.Held.{code_of, codes}
use Rattle.few.specs.Strings.{most_brackets}
use Rattle.ways.proofs.Holds.{length_codes}
use Rattle.acts.specs.Seen.{ActedSeen}
use Rattle.acts.specs.Acted.{Done, Comes, visit_reach, BracketsAs}
use Rattle.acts.specs.Visited.{VisitedAs, SetRoom, sets_after, NodeAs, BracketAs}
use Rattle.acts.proofs.Acting.{after, state_after, back, back_env, back_shaped, recalls}

-- ---- an opening bracket
opened_means : (z : State) (x : Effect) (o : Open) (os : List Open) → Shaped z → (meaning_of z).control ≡ inside o os → (top_of z).«open» < most_sets →
    meaning_of (saving (after z x) (record { values = x.values; echo = z.echo })) ≡
    silent (record {
      control = (meaning_of z).control;
      store = record { kept = with_node (saved (meaning_of z).store.env (visited (meaning_of z).store.env x)) (meaning_of z).store.kept; env = visited (meaning_of z).store.env x };
    })
unfolding meaning_of
opened_means z x o os h e n = meaning_saved (after z x) (record { values = x.values; echo = z.echo }) (shaped_env z x.values x.echo (suc z.count) h) (inside_open z o os e) n

-- the innermost element is the one that was put there
top_put : (z : State) (f : Frame) → Shaped z → 0 < z.depth → top_of (with_top z f) ≡ f
top_put z f h deep = by z.depth deep (omega arith)
  where
    by : (n : ℕ) → 0 < n → n ≤ length z.frames → last_of bare_frame (put_last z.frames n f) n ≡ f
    by zero p k = absurd (omega arith)
    by (suc n) p k = get_or-set_same z.frames n f bare_frame (omega arith)

sets_kept : (f : Frame) (k : Saved) → f.«open» < most_sets → (keeping f k).«open» ≡ f.«open» + 1
unfolding keeping
sets_kept f k p = rw (lt-ltb f.«open» most_sets p)

saved_sets : (z : State) (k : Saved) → Shaped z → 0 < z.depth → (top_of z).«open» < most_sets → (top_of (saving z k)).«open» ≡ (top_of z).«open» + 1
saved_sets z k h deep n = ap (λ (f : Frame). f.«open») (top_put z (keeping (top_of z) k) h deep) ∙ sets_kept (top_of z) k n

restored_sets : (z : State) → Shaped z → 0 < z.depth → (top_of (restored z).state).«open» ≡ (top_of z).«open» - 1
restored_sets z h deep = ap (λ (f : Frame). f.«open») (top_put z (record { production = (top_of z).production; place = (top_of z).place; «open» = (top_of z).«open» - 1; saved = (top_of z).saved }) h deep)

abbrev opening_comes : State → Option Effect → Option Store
opening_comes z t = bind (bind t (λ x. some (visited (meaning_of z).store.env x))) (λ w. some (record { kept = with_node (saved (meaning_of z).store.env w) (meaning_of z).store.kept; env = w }))

pub open_rejected : (s : List ℕ) (q i : ℕ) (kept : List ℕ) (z : State) (p : Pen) (d : List ℕ) → VisitedAs s q i false kept z p None d → NodeAs s q (opening i) z p None d
unfolding meaning_of
open_rejected s q i kept z p d G =
    record {
      reach = tt;
      count = tt;
      deep = tt;
      dry = G.dry;
      sets = λ h deep n. tt;
      right = λ a y h o os e n. go (performed a [] (programs_of a.rules q i).first_visit z.values z.echo) (G.right a y);
    }
  where
    go : (t : Option Effect) → t ≡ none → opening_comes z t ≡ none
    go none c = refl
    go (some x) c = absurd (no_effect x (sym c))

module _ (s : List ℕ) (q i : ℕ) (kept : List ℕ) (z : State) (p : Pen) (v : ActedSeen) (d : List ℕ) (G : VisitedAs s q i false kept z p (Some v) d) where
  pub opened : (st : State) → st ≡ saving v.state (record { values = v.state.values; echo = z.echo }) → NodeAs s q (opening i) z p (Some (record { at = v.at; state = st })) d
  unfolding meaning_of
  opened st is =
      record {
        reach = omega (arith, G.reach);
        count = omega (arith, ap (λ (u : State). u.count) is, G.count);
        deep = ap (λ (u : State). u.depth) is ∙ ap (λ (u : State). u.depth) G.state_is;
        dry = G.dry;
        sets = sets_are;
        right = λ a y h o os e n. go h o os e n (performed a [] (programs_of a.rules q i).first_visit z.values z.echo) (G.right a y);
      }
    where
      sets_are : Shaped z → 0 < z.depth → (top_of z).«open» < most_sets → (top_of st).«open» ≡ (top_of z).«open» + 1
      sets_are h deep n =
          let k : Saved = record { values = v.state.values; echo = z.echo } in
          ap (λ (u : State). (top_of u).«open») (is ∙ ap (λ (u : State). saving u k) G.state_is)
          ∙ saved_sets (with_env z v.state.values v.state.echo (suc z.count)) k (shaped_env z v.state.values v.state.echo (suc z.count) h) deep n

      done : Shaped z → (o : Open) (os : List Open) → (meaning_of z).control ≡ inside o os → (top_of z).«open» < most_sets → (x : Effect) → v.state.values ≡ x.values → v.state.echo ≡ x.echo →
          PutAs p.write p.lent p.at (render x.printed) d v.at → Comes (opening_comes z (some x)) (meaning_of z).control z p (Some (record { at = v.at; state = st })) d
      done h o os e n x vs echo_is P =
          let k : Saved = record { values = x.values; echo = z.echo } in
          let same : st ≡ saving (after z x) k = is ∙ ap₂ (λ (u : State) (w : List ℕ). saving u (record { values = w; echo = z.echo })) (state_after s q i false kept z p v d G x vs echo_is) vs in
          record {
            means = ap meaning_of same ∙ opened_means z x o os h e n;
            shaped = subst Shaped (sym same) (shaped_saved (after z x) k (shaped_env z x.values x.echo (suc z.count) h) (inside_open z o os e));
            closed = ap (λ (u : State). u.closed) same;
            written = P;
          }

      go : Shaped z → (o : Open) (os : List Open) → (meaning_of z).control ≡ inside o os → (top_of z).«open» < most_sets → (t : Option Effect) → Came t p v.at (record { values = v.state.values; echo = v.state.echo }) d →
          Comes (opening_comes z t) (meaning_of z).control z p (Some (record { at = v.at; state = st })) d
      go h o os e n none c = absurd c
      go h o os e n (some x) c = done h o os e n x c.0 c.1 c.2

-- ---- a closing bracket
closed_means : (z : State) (x : Effect) (o : Open) (os : List Open) → Shaped z → (meaning_of z).control ≡ inside o os → 0 < (top_of z).«open» →
    meaning_of (back z x) ≡
    silent (record {
      control = (meaning_of z).control;
      store = record { kept = without_node (meaning_of z).store.kept; env = returned (innermost (meaning_of z).store.kept).echo (visited (meaning_of z).store.env x) };
    })
unfolding meaning_of
closed_means z x o os h e n =
    ap₂ (λ (m : Run) (w : Running). record { control = m.control; store = record { kept = m.store.kept; env = w } }) (meaning_restored z h (inside_open z o os e) n).0 (back_env z x h (inside_open z o os e) n)

abbrev closing_comes : State → Option Effect → Option Store
closing_comes z t =
    bind (bind (bind t (λ x. some (visited (meaning_of z).store.env x))) (λ w. some (returned (innermost (meaning_of z).store.kept).echo w)))
    (λ w. some (record { kept = without_node (meaning_of z).store.kept; env = w }))

pub close_rejected : (s : List ℕ) (q i : ℕ) (z : State) (p : Pen) (d : List ℕ) → VisitedAs s q i true (restored z).saved.values (restored z).state p None d → NodeAs s q (closing i) z p None d
unfolding meaning_of
close_rejected s q i z p d G =
    record {
      reach = tt;
      count = tt;
      deep = tt;
      dry = G.dry;
      sets = λ h deep n. tt;
      right = λ a y h o os e n. go (performed a (innermost (meaning_of z).store.kept).values (programs_of a.rules q i).second_visit z.values z.echo) (recalls s q i z p None d G a y h o os e n);
    }
  where
    go : (t : Option Effect) → t ≡ none → closing_comes z t ≡ none
    go none c = refl
    go (some x) c = absurd (no_effect x (sym c))

module _ (s : List ℕ) (q i : ℕ) (z : State) (p : Pen) (v : ActedSeen) (d : List ℕ) (G : VisitedAs s q i true (restored z).saved.values (restored z).state p (Some v) d) where
  pub closed : (st : State) → st ≡ with_env v.state v.state.values (restored z).saved.echo v.state.count → NodeAs s q (closing i) z p (Some (record { at = v.at; state = st })) d
  unfolding meaning_of
  closed st is =
      record {
        reach = omega (arith, G.reach);
        count = omega (arith, ap (λ (u : State). u.count) is, G.count);
        deep = ap (λ (u : State). u.depth) is ∙ ap (λ (u : State). u.depth) G.state_is;
        dry = G.dry;
        sets = λ h deep n. ap (λ (u : State). (top_of u).«open») (is ∙ ap (λ (u : State). with_env u v.state.values (restored z).saved.echo v.state.count) G.state_is) ∙ restored_sets z h deep;
        right = λ a y h o os e n. go h o os e n (performed a (innermost (meaning_of z).store.kept).values (programs_of a.rules q i).second_visit z.values z.echo) (recalls s q i z p (Some v) d G a y h o os e n);
      }
    where
      done : Shaped z → (o : Open) (os : List Open) → (meaning_of z).control ≡ inside o os → 0 < (top_of z).«open» → (x : Effect) → v.state.values ≡ x.values → v.state.echo ≡ x.echo →
          PutAs p.write p.lent p.at (render x.printed) d v.at → Comes (closing_comes z (some x)) (meaning_of z).control z p (Some (record { at = v.at; state = st })) d
      done h o os e n x vs echo_is P =
          let same : st ≡ back z x = is ∙ ap (λ (u : State). with_env u u.values (restored z).saved.echo u.count) (state_after s q i true (restored z).saved.values (restored z).state p v d G x vs echo_is) in
          record {
            means = ap meaning_of same ∙ closed_means z x o os h e n;
            shaped = subst Shaped (sym same) (back_shaped z x h (inside_open z o os e));
            closed = ap (λ (u : State). u.closed) same;
            written = P;
          }

      go : Shaped z → (o : Open) (os : List Open) → (meaning_of z).control ≡ inside o os → 0 < (top_of z).«open» → (t : Option Effect) → Came t p v.at (record { values = v.state.values; echo = v.state.echo }) d →
          Comes (closing_comes z t) (meaning_of z).control z p (Some (record { at = v.at; state = st })) d
      go h o os e n none c = absurd c
      go h o os e n (some x) c = done h o os e n x c.0 c.1 c.2

-- ---- the bracket of a byte
module _ (s : List ℕ) (q c : ℕ) (z : State) (p : Pen) (r : Taken ActedSeen) (d : List ℕ) where
  pub even_bracket : c % 2 ≡ 0 → NodeAs s q (opening (c / 2)) z p r d → BracketAs s q c z p r d
  even_bracket even N = record { reach = N.reach; count = N.count; deep = N.deep; dry = N.dry; right = go }
    where
      go : (b : Bracket) → c ≡ code_of b → NodeAs s q b z p r d
      go (opening j) e = let same : c / 2 ≡ j = omega (arith, e) in subst (λ (k : ℕ). NodeAs s q (opening k) z p r d) same N
      go (closing j) e = absurd (omega (arith, e, even))

  pub odd_bracket : (c % 2 ≡ 0 → ⊥) → NodeAs s q (closing (c / 2)) z p r d → BracketAs s q c z p r d
  odd_bracket odd N = record { reach = N.reach; count = N.count; deep = N.deep; dry = N.dry; right = go }
    where
      go : (b : Bracket) → c ≡ code_of b → NodeAs s q b z p r d
      go (opening j) e = let even : c % 2 ≡ 0 = omega (arith, e) in absurd (odd even)
      go (closing j) e = let same : c / 2 ≡ j = omega (arith, e) in subst (λ (k : ℕ). NodeAs s q (closing k) z p r d) same N

-- ---- one act after another
silent_behind : (m : Store) (n : Run) (k : Control) → n ≡ silent (record { control = k; store = m }) → m ≡ store_behind m.env.out n.store
silent_behind m n k e =
    ap (λ (o : List Piece). record { kept = m.kept; env = record { values = m.env.values; echo = m.env.echo; out = o; count = m.env.count } }) (sym (append-nil m.env.out))
    ∙ ap (λ (u : Run). store_behind m.env.out u.store) (sym e)

-- the first was rejected
pub comes_stop : (a : Sheet) (bs : List Act) (t : Option Store) → t ≡ none → bind t (λ m. acts a bs m) ≡ none
comes_stop a bs none c = refl
comes_stop a bs (some m) c = absurd (none_some m (sym c))

-- the others go on from the state and the output that the first left
module _ (a : Sheet) (bs : List Act) (k : Control) (z : State) (p : Pen) (v : ActedSeen) (d d₂ : List ℕ) where
  behind_comes : (m : Store) → Done k m z p v d → (t : Option Store) (r : Taken ActedSeen) → Comes t k v.state (pen_at p d v.at) r d₂ → Comes (bind t (λ m'. some (store_behind m.env.out m'))) k z p r d₂
  behind_comes m D none None c = refl
  behind_comes m D none (Some r) c = c
  behind_comes m D (some n) None c = absurd (none_some n (sym c))
  behind_comes m D (some n) (Some r) c =
      record {
        means = c.means;
        shaped = c.shaped;
        closed = c.closed ∙ D.closed;
        written = same_bytes p.write p.lent p.at (render m.env.out ++ render n.env.out) (render (m.env.out ++ n.env.out)) d₂ r.at (sym (render_append m.env.out n.env.out))
            (put_then p.write p.lent p.at (render m.env.out) (render n.env.out) d d₂ v.at r.at D.written c.written);
      }

  pub comes_on : (r : Taken ActedSeen) (t : Option Store) → Comes t k z p (Some v) d → Comes (acts a bs (meaning_of v.state).store) k v.state (pen_at p d v.at) r d₂ → Comes (bind t (λ m. acts a bs m)) k z p r d₂
  comes_on r none c rest = absurd c
  comes_on r (some m) c rest =
      let n = meaning_of v.state in
      let e : acts a bs m ≡ bind (acts a bs n.store) (λ m'. some (store_behind m.env.out m')) = ap (acts a bs) (silent_behind m n k c.means) ∙ acts_frame a m.env.out bs n.store in
      subst (λ (t : Option Store). Comes t k z p r d₂) (sym e) (behind_comes m c (acts a bs n.store) r rest)

-- ---- the sets in use along a string
pub record Passed (b : Bracket) (β : List Bracket) (n : ℕ) (ns' : List ℕ) : Type 0 where
  pub room : SetRoom b n
  pub nodes : List ℕ
  pub through : through_nodes 12 β nodes ≡ some ns'
  pub sets : sets_after b n ≡ suc (length nodes)

pass : (b : Bracket) (β : List Bracket) (ns ns' : List ℕ) (n : ℕ) → through_nodes 12 (b ∷ β) ns ≡ some ns' → n ≡ suc (length ns) → Passed b β n ns'
pass (opening i) β ns ns' n e m = by (ltb (length ns) 12) refl e
  where
    by : (t : Bool) → ltb (length ns) 12 ≡ t → only_if t (through_nodes 12 β (i ∷ ns)) ≡ some ns' → Passed (opening i) β n ns'
    by true l f = record { room = omega (arith, ltb-true (length ns) 12 l); nodes = i ∷ ns; through = f; sets = omega arith }
    by false l f = absurd (none_some ns' f)
pass (closing i) β [] ns' n e m = absurd (none_some ns' e)
pass (closing i) β (k ∷ ns) ns' n e m = by (eqb i k) e
  where
    by : (t : Bool) → only_if t (through_nodes 12 β ns) ≡ some ns' → Passed (closing i) β n ns'
    by true f = record { room = omega arith; nodes = ns; through = f; sets = omega arith }
    by false f = absurd (none_some ns' f)

-- a state holds no output
silent_is : (z : State) → meaning_of z ≡ silent (record { control = (meaning_of z).control; store = (meaning_of z).store })
unfolding meaning_of
silent_is z = refl

out_none : (z : State) (write : Bool) (d : List ℕ) (at : ℕ) → PutAs write d at (render (meaning_of z).store.env.out) d at
unfolding meaning_of
out_none z write d at = nothing_put write d at

-- ---- what is left of a string
pub record LeftOf (a : Sheet) (q : ℕ) (α β : List Bracket) (ns' : List ℕ) (z₀ z : State) (p : Pen) (at : ℕ) (d : List ℕ) : Type 0 where
  pub shaped : Shaped z
  pub control : (meaning_of z).control ≡ (meaning_of z₀).control
  pub nodes : List ℕ
  pub through : through_nodes 12 β nodes ≡ some ns'
  pub sets : (top_of z).«open» ≡ suc (length nodes)
  pub whole : (r : Taken ActedSeen) (d₂ : List ℕ) → Comes (acts a (bracket_acts q β) (meaning_of z).store) (meaning_of z₀).control z (pen_at p d at) r d₂ → Comes (acts a (bracket_acts q α) (meaning_of z₀).store) (meaning_of z₀).control z₀ p r d₂

pub left_all : (a : Sheet) (q : ℕ) (α : List Bracket) (ns ns' : List ℕ) (z : State) (p : Pen) → Shaped z → through_nodes 12 α ns ≡ some ns' → (top_of z).«open» ≡ suc (length ns) → LeftOf a q α α ns' z z p p.at p.lent
left_all a q α ns ns' z p h t n = record { shaped = h; control = refl; nodes = ns; through = t; sets = n; whole = λ r d₂ c. c }

module _ (s : List ℕ) (a : Sheet) (y : IsSheet s a) (q : ℕ) (α : List Bracket) (ns' : List ℕ) (z₀ z : State) (p : Pen) (at : ℕ) (d : List ℕ) (o : Open) (os : List Open) (e : (meaning_of z₀).control ≡ inside o os) where
  pub left_none : LeftOf a q α [] ns' z₀ z p at d → Comes (acts a (bracket_acts q α) (meaning_of z₀).store) (meaning_of z₀).control z₀ p (Some (record { at = at; state = z })) d
  left_none L = L.whole (Some (record { at = at; state = z })) d (record { means = its_means (meaning_of z₀).control L.control; shaped = L.shaped; closed = refl; written = its_out })
    where
      its_means : (k : Control) → (meaning_of z).control ≡ k → meaning_of z ≡ silent (record { control = k; store = (meaning_of z).store })
      its_means k f = silent_is z ∙ ap (λ (u : Control). silent (record { control = u; store = (meaning_of z).store })) f

      its_out : PutAs p.write d at (render (meaning_of z).store.env.out) d at
      its_out = out_none z p.write d at

  module _ (b : Bracket) (β : List Bracket) (L : LeftOf a q α (b ∷ β) ns' z₀ z p at d) where
    passed : Passed b β (top_of z).«open» ns'
    passed = pass b β L.nodes ns' (top_of z).«open» L.through L.sets

    its_act : (v : Taken ActedSeen) (d₁ : List ℕ) → NodeAs s q b z (pen_at p d at) v d₁ → Comes (act a (bracket_act q b) (meaning_of z).store) (meaning_of z₀).control z (pen_at p d at) v d₁
    its_act v d₁ N = subst (λ (k : Control). Comes (act a (bracket_act q b) (meaning_of z).store) k z (pen_at p d at) v d₁) L.control (N.right a y L.shaped o os (L.control ∙ e) passed.room)

    pub left_stops : (d₁ : List ℕ) → NodeAs s q b z (pen_at p d at) None d₁ → acts a (bracket_acts q α) (meaning_of z₀).store ≡ none
    left_stops d₁ N = L.whole None d₁ (comes_stop a (bracket_acts q β) (act a (bracket_act q b) (meaning_of z).store) (its_act None d₁ N))

    pub left_on : (v : ActedSeen) (d₁ : List ℕ) → NodeAs s q b z (pen_at p d at) (Some v) d₁ → LeftOf a q α β ns' z₀ v.state p v.at d₁
    left_on v d₁ N = go (act a (bracket_act q b) (meaning_of z).store) (its_act (Some v) d₁ N)
      where
        go : (t : Option Store) → Comes t (meaning_of z₀).control z (pen_at p d at) (Some v) d₁ → LeftOf a q α β ns' z₀ v.state p v.at d₁
        go none c = absurd c
        go (some m) c =
            record {
              shaped = c.shaped;
              control = ap (λ (u : Run). u.control) c.means;
              nodes = passed.nodes;
              through = passed.through;
              sets = N.sets L.shaped (inside_open z o os (L.control ∙ e)) passed.room ∙ passed.sets;
              whole = λ r d₂ rest. L.whole r d₂ (comes_on a (bracket_acts q β) (meaning_of z₀).control z (pen_at p d at) v d₁ d₂ r (act a (bracket_act q b) (meaning_of z).store) (its_act (Some v) d₁ N) rest);
            }

-- ---- the bytes of a string
pub record BracketAt (α : List Bracket) (l : List ℕ) (i : ℕ) : Type 0 where
  pub it : Bracket
  pub rest : drop i α ≡ it ∷ drop (suc i) α
  pub byte : get_or l i 0 ≡ code_of it

bracket_at : (α : List Bracket) (i : ℕ) → i < length α → BracketAt α (codes α) i
bracket_at [] i h = absurd (omega arith)
bracket_at (b ∷ α) zero h = record { it = b; rest = refl; byte = refl }
bracket_at (b ∷ α) (suc i) h = let u = bracket_at α i (omega arith) in record { it = u.it; rest = u.rest; byte = u.byte }

codes_long : (α : List Bracket) (line : List ℕ) → line ≡ codes α → length line ≡ length α
codes_long α line l = ap length l ∙ length_codes α

pub line_bracket : (α : List Bracket) (line : List ℕ) → line ≡ codes α → (i : ℕ) → i < length line → BracketAt α line i
line_bracket α line l i h = subst (λ (bytes : List ℕ). BracketAt α bytes i) (sym l) (bracket_at α i (omega (arith, codes_long α line l)))

-- ---- the loop: after i brackets, what is left
pub record LeftIn (s : List ℕ) (q : ℕ) (line : List ℕ) (i : ℕ) (z₀ : State) (p : Pen) (z : State) (at : ℕ) (d : List ℕ) : Type 0 where
  pub few : i ≤ length line
  pub reach : at ≤ p.at + visit_reach * i
  pub count : z.count ≤ z₀.count + i
  pub deep : z.depth ≡ z₀.depth
  pub dry : p.write ≡ false → d ≡ p.lent
  pub left_of : (a : Sheet) → IsSheet s a → (α : List Bracket) → line ≡ codes α → Shaped z₀ → (o : Open) (os : List Open) → (meaning_of z₀).control ≡ inside o os →
      (ns ns' : List ℕ) → through_nodes 12 α ns ≡ some ns' → (top_of z₀).«open» ≡ suc (length ns) → LeftOf a q α (drop i α) ns' z₀ z p at d

none_behind : (α : List Bracket) (i : ℕ) → i ≡ length α → drop i α ≡ []
none_behind α i e = ap (λ (k : ℕ). drop k α) e ∙ drop-length α

module _ (s : List ℕ) (q : ℕ) (line : List ℕ) (z₀ : State) (p : Pen) where
  pub all_left : LeftIn s q line 0 z₀ p z₀ p.at p.lent
  all_left = record { few = omega arith; reach = omega arith; count = omega arith; deep = refl; dry = λ u. refl; left_of = λ a y α l h o os e ns ns' t n. left_all a q α ns ns' z₀ p h t n }

  module _ (i : ℕ) (z : State) (at : ℕ) (d : List ℕ) (L : LeftIn s q line i z₀ p z at d) where
    -- the string has ended
    pub none_left : length line ≤ most_brackets → length line ≤ i → BracketsAs s q line z₀ p (Some (record { at = at; state = z })) d
    none_left few past =
        record {
          reach = omega (arith, L.few, L.reach);
          count = omega (arith, L.few, L.count);
          deep = L.deep;
          dry = L.dry;
          right = λ a y α l h o os e ns ns' t n.
              left_none s a y q α ns' z₀ z p at d o os e (subst (λ (β : List Bracket). LeftOf a q α β ns' z₀ z p at d) (none_behind α i (omega (arith, codes_long α line l, past, L.few))) (L.left_of a y α l h o os e ns ns' t n));
        }

    -- one more bracket
    module _ (here : i < length line) where
      abbrev it : (α : List Bracket) → line ≡ codes α → BracketAt α (line) i
      it α l = line_bracket α line l i here

      at_it : (a : Sheet) → IsSheet s a → (α : List Bracket) (l : line ≡ codes α) → Shaped z₀ → (o : Open) (os : List Open) → (meaning_of z₀).control ≡ inside o os →
          (ns ns' : List ℕ) → through_nodes 12 α ns ≡ some ns' → (top_of z₀).«open» ≡ suc (length ns) → LeftOf a q α ((it α l).it ∷ drop (suc i) α) ns' z₀ z p at d
      at_it a y α l h o os e ns ns' t n = subst (λ (β : List Bracket). LeftOf a q α β ns' z₀ z p at d) (it α l).rest (L.left_of a y α l h o os e ns ns' t n)

      pub stops_here : (d₁ : List ℕ) → BracketAs s q (get_or line i 0) z (pen_at p d at) None d₁ → BracketsAs s q line z₀ p None d₁
      stops_here d₁ B =
          record {
            reach = tt;
            count = tt;
            deep = tt;
            dry = λ u. B.dry u ∙ L.dry u;
            right = λ a y α l h o os e ns ns' t n.
                left_stops s a y q α ns' z₀ z p at d o os e (it α l).it (drop (suc i) α) (at_it a y α l h o os e ns ns' t n) d₁ (B.right (it α l).it (it α l).byte);
          }

      pub one_less : (v : ActedSeen) (d₁ : List ℕ) → BracketAs s q (get_or line i 0) z (pen_at p d at) (Some v) d₁ → LeftIn s q line (i + 1) z₀ p v.state v.at d₁
      one_less v d₁ B =
          record {
            few = omega arith;
            reach = omega (arith, L.reach, B.reach);
            count = omega (arith, L.count, B.count);
            deep = B.deep ∙ L.deep;
            dry = λ u. B.dry u ∙ L.dry u;
            left_of = λ a y α l h o os e ns ns' t n.
                subst (λ (k : ℕ). LeftOf a q α (drop k α) ns' z₀ v.state p v.at d₁) (sym (add-one i))
                (left_on s a y q α ns' z₀ z p at d o os e (it α l).it (drop (suc i) α) (at_it a y α l h o os e ns ns' t n) v d₁ (B.right (it α l).it (it α l).byte));
          }

-- a bracket of a string always has room for its set, or a set to take off
pub no_room : (s : List ℕ) (q : ℕ) (line : List ℕ) (z₀ : State) (p : Pen) (i : ℕ) (z : State) (at : ℕ) (d : List ℕ) → LeftIn s q line i z₀ p z at d → i < length line →
    ((b : Bracket) → get_or line i 0 ≡ code_of b → Shaped z → 0 < z.depth → SetRoom b (top_of z).«open» → ⊥) → BracketsAs s q line z₀ p None d
no_room s q line z₀ p i z at d L here never =
    record {
      reach = tt;
      count = tt;
      deep = tt;
      dry = L.dry;
      right = λ a y α l h o os e ns ns' t n. absurd (go a y α l h o os e ns ns' t n (line_bracket α line l i here) (L.left_of a y α l h o os e ns ns' t n));
    }
  where
    go : (a : Sheet) → IsSheet s a → (α : List Bracket) → line ≡ codes α → Shaped z₀ → (o : Open) (os : List Open) → (meaning_of z₀).control ≡ inside o os → (ns ns' : List ℕ) → through_nodes 12 α ns ≡ some ns' → (top_of z₀).«open» ≡ suc (length ns) →
        BracketAt α line i → LeftOf a q α (drop i α) ns' z₀ z p at d → ⊥
    go a y α l h o os e ns ns' t n it L' =
        never it.it it.byte L'.shaped (inside_open z o os (L'.control ∙ e))
        (pass it.it (drop (suc i) α) L'.nodes ns' (top_of z).«open» (subst (λ (β : List Bracket). through_nodes 12 β L'.nodes ≡ some ns') it.rest L'.through) L'.sets).room
