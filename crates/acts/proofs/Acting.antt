-- From a visit to an act: a visit changes attributes, echo and count as the meaning says, or its program rejects; what is then written and kept
-- makes the act. Each act is by cases of what the program comes to.
-- Assumes nothing.
use mathlib.Core.Path.{◌≡◌, refl, sym, ap, ap₂, ◌∙◌, subst}
use Rattle.std.specs.Prelude.{Option as Taken, Some, None}
use mathlib.Core.Bool.{Bool, true, false}
use mathlib.Core.List.{List, [], ◌∷◌, ◌++◌, append-nil}
use mathlib.Core.Option.{Option, none, some}
use Prim.Native.Nat.{ℕ, suc, ◌+◌, ◌≤◌, ◌<◌}
use native.Mathlib.Omega.{arith}
use native.Mathlib.Numerals.{add-one}
use Rattle.lent.specs.Put.{PutAs}
use Rattle.programs.specs.Limits.{second}
use Rattle.sheet.specs.Sheet.{Sheet, IsSheet}
use Rattle.lent.proofs.Laws.{put_dry, nothing_put}
use Rattle.output.specs.Escape.{Piece, start, end, character, escaped, render}
use Rattle.output.proofs.Writing.{put_then, same_bytes, render_append}
use Rattle.runs.specs.Options.{bind}
use Rattle.runs.specs.Execute.{Effect}
use Rattle.runs.specs.Visits.{programs_of, performed, tag_name, while_on, Env as Running, Saved as Kept, saved, visited, echoed, returned}
use Rattle.runs.specs.Acts.{letter_read, Store, innermost, without_node, without_element, act}
use Rattle.runs.specs.Machine.{Open, inside, outer, at_start, most, Configuration as Run}
use Rattle.calls.specs.Limits.{silent}
use Rattle.state.specs.Changes.{top_of, started, pushed, popped, Restored, restored, with_env}
use Rattle.state.specs.Meaning.{meaning_of, opens_of, Fits, Shaped}
use Rattle.state.specs.declared.Saved.{Saved}
use Rattle.state.specs.declared.Frame.{Frame}
use Rattle.state.specs.declared.State.{State}
use Rattle.state.proofs.Meant.{inside_open, meaning_pushed, meaning_popped, meaning_restored, fits_started, shaped_env, shaped_restored}
use Rattle.visits.specs.Written.{Pen}
use Rattle.visits.specs.Ran.{Came}
use Rattle.visits.specs.Performed.{CameTo, PerformedAs}
use Rattle.visits.specs.declared.Performed.{Performed}
use Rattle.visits.proofs.Printing.{escaped_short}
use Rattle.visits.proofs.Settling.{no_effect}
use Rattle.visits.proofs.Running.{pen_at}
use Rattle.visits.proofs.Theorems.{first_visit_recalls_nothing}
use Rattle.acts.specs.Seen.{ActedSeen}
use Rattle.acts.specs.Acted.{Done, Comes, EntersAs, LeavesAs, ReadsAs}
use Rattle.acts.specs.Visited.{program_for, recalled_in, FieldFound, VisitTo, VisitedAs, EchoedAs}

-- ---- a visit: its program performed
module _ (s : List ℕ) (q i field : ℕ) (kept : List ℕ) (z : State) (p : Pen) (d : List ℕ) where
  abbrev Performs : Taken Performed → Type 0
  Performs r = PerformedAs s field kept (record { values = z.values; echo = z.echo }) p r d

  came : (r : Taken Performed) → Performs r → (a : Sheet) (y : IsSheet s a) (b : Bool) → FieldFound s q i b field → CameTo (performed a (recalled_in b kept) (program_for b (programs_of a.rules q i)) z.values z.echo) p r d
  came r R a y false G = first_visit_recalls_nothing s field kept (record { values = z.values; echo = z.echo }) p r d R a y [] (programs_of a.rules q i).first_visit (G.is a y)
  came r R a y true G = R.right a y second (programs_of a.rules q i).second_visit (G.is a y)

  pub rejected_visit : Performs None → (again : Bool) → FieldFound s q i again field → VisitedAs s q i again kept z p None d
  rejected_visit R again F = record { reach = tt; count = tt; dry = R.dry; state_is = tt; right = λ a y. came None R a y again F }

  module _ (r : Performed) (R : Performs (Some r)) where
    its_visit : (again : Bool) → FieldFound s q i again field → VisitedAs s q i again kept z p (Some (record { at = r.at; state = with_env z r.env.values r.env.echo (z.count + 1) })) d
    its_visit again F = record { reach = R.reach; count = refl; dry = R.dry; state_is = ap (with_env z r.env.values r.env.echo) (add-one z.count); right = λ a y. came (Some r) R a y again F }

    pub a_visit : (again : Bool) → FieldFound s q i again field → (st : State) → st ≡ with_env z r.env.values r.env.echo (z.count + 1) → VisitedAs s q i again kept z p (Some (record { at = r.at; state = st })) d
    a_visit again F st e = subst (λ (u : State). VisitedAs s q i again kept z p (Some (record { at = r.at; state = u })) d) (sym e) (its_visit again F)

-- what a visit that does x makes of a state
abbrev pub after : State → Effect → State
after z x = with_env z x.values x.echo (suc z.count)

module _ (s : List ℕ) (q i : ℕ) (again : Bool) (kept : List ℕ) (z : State) (p : Pen) (v : ActedSeen) (d : List ℕ) (G : VisitedAs s q i again kept z p (Some v) d) where
  pub state_after : (x : Effect) → v.state.values ≡ x.values → v.state.echo ≡ x.echo → v.state ≡ after z x
  state_after x e f = G.state_is ∙ ap₂ (λ (vs : List ℕ) (b : Bool). with_env z vs b (suc z.count)) e f

-- output of a program, then an echo
pub put_both : (p : Pen) (x : Effect) (o : List Piece) (d₁ d₂ : List ℕ) (n r : ℕ) → PutAs p.write p.lent p.at (render x.printed) d₁ n → PutAs p.write d₁ n (render o) d₂ r →
    PutAs p.write p.lent p.at (render (([] ++ x.printed) ++ o)) d₂ r
put_both p x o d₁ d₂ n r P Q =
    same_bytes p.write p.lent p.at (render x.printed ++ render o) (render (x.printed ++ o)) d₂ r (sym (render_append x.printed o))
    (put_then p.write p.lent p.at (render x.printed) (render o) d₁ d₂ n r P Q)

-- a state holds no output, so what a visit and an echo add to its is all
pub out_empty : (z : State) (x : Effect) (o : List Piece) (p : Pen) (d : List ℕ) (r : ℕ) → PutAs p.write p.lent p.at (render (([] ++ x.printed) ++ o)) d r →
    PutAs p.write p.lent p.at (render (((meaning_of z).store.env.out ++ x.printed) ++ o)) d r
unfolding meaning_of
out_empty z x o p d r P = P

-- ---- a start tag
entered_means : (z : State) (x : Effect) (q : ℕ) (o : Piece) → Shaped z → z.depth < most →
    meaning_of (pushed (after z x) (started q (record { values = x.values; echo = z.echo }))).state ≡
    silent (record {
      control = inside (at_start q) (opens_of (meaning_of z).control);
      store = record {
        kept = (saved (meaning_of z).store.env (echoed o (visited (meaning_of z).store.env x)) ∷ []) ∷ (meaning_of z).store.kept;
        env = echoed o (visited (meaning_of z).store.env x);
      };
    })
unfolding meaning_of
entered_means z x q o h deep = meaning_pushed (after z x) q (record { values = x.values; echo = z.echo }) (shaped_env z x.values x.echo (suc z.count) h) deep

abbrev entering : Sheet → ℕ → State → Option Effect → Option Store
entering a q z o =
    bind (bind (bind o (λ x. some (visited (meaning_of z).store.env x))) (λ w. some (echoed (start (tag_name a q)) w))) (λ w. some (record { kept = (saved (meaning_of z).store.env w ∷ []) ∷ (meaning_of z).store.kept; env = w }))

pub enter_rejected : (s : List ℕ) (q : ℕ) (kept : List ℕ) (z : State) (p : Pen) (d : List ℕ) → VisitedAs s q 0 false kept z p None d → EntersAs s q z p None d
unfolding meaning_of
enter_rejected s q kept z p d G = record { reach = tt; count = tt; dry = G.dry; right = λ a y h deep. go a (performed a [] (programs_of a.rules q 0).first_visit z.values z.echo) (G.right a y) }
  where
    go : (a : Sheet) (o : Option Effect) → o ≡ none → entering a q z o ≡ none
    go a none c = refl
    go a (some x) c = absurd (no_effect x (sym c))

module _ (s : List ℕ) (q : ℕ) (kept : List ℕ) (z : State) (p : Pen) (v : ActedSeen) (d : List ℕ) (G : VisitedAs s q 0 false kept z p (Some v) d) where
  module _ (r : ActedSeen) (d₂ : List ℕ) (E : EchoedAs s q false v.state.echo (pen_at p d v.at) r.at d₂) where
    abbrev new : Frame
    new = started q (record { values = v.state.values; echo = z.echo })

    pub entered : r.state.count ≡ v.state.count → r.state.closed ≡ v.state.closed →
        (Shaped v.state → meaning_of r.state ≡ meaning_of (pushed v.state new).state) → (Shaped v.state → Fits new → Shaped r.state) → EntersAs s q z p (Some r) d₂
    unfolding meaning_of
    entered same_count same_closed means shaped = record { reach = omega (arith, G.reach, E.reach); count = few; dry = λ u. E.dry u ∙ G.dry u; right = λ a y h deep. go a y h deep (performed a [] (programs_of a.rules q 0).first_visit z.values z.echo) (G.right a y) }
      where
        few : r.state.count ≤ z.count + 1
        few = omega (arith, same_count, G.count)

        done : (a : Sheet) → IsSheet s a → Shaped z → z.depth < most → (x : Effect) → v.state.values ≡ x.values → v.state.echo ≡ x.echo → PutAs p.write p.lent p.at (render x.printed) d v.at →
            Done (inside (at_start q) (opens_of (meaning_of z).control)) (record { kept = (saved (meaning_of z).store.env (echoed (start (tag_name a q)) (visited (meaning_of z).store.env x)) ∷ []) ∷ (meaning_of z).store.kept; env = echoed (start (tag_name a q)) (visited (meaning_of z).store.env x) }) z p r d₂
        done a y h deep x e f P =
            let k : Saved = record { values = x.values; echo = z.echo } in
            let visited_is = state_after s q 0 false kept z p v d G x e f in
            let same : (pushed v.state new).state ≡ (pushed (after z x) (started q k)).state =
            ap₂ (λ (u : State) (vs : List ℕ). (pushed u (started q (record { values = vs; echo = z.echo }))).state) visited_is e in
            let visited_shaped : Shaped v.state = subst Shaped (sym visited_is) (shaped_env z x.values x.echo (suc z.count) h) in
            record {
              means = means visited_shaped ∙ ap meaning_of same ∙ entered_means z x q (start (tag_name a q)) h deep;
              shaped = shaped visited_shaped (fits_started q (record { values = v.state.values; echo = z.echo }));
              closed = same_closed ∙ ap (λ (u : State). u.closed) visited_is;
              written = out_empty z x (while_on x.echo (start (tag_name a q))) p d₂ r.at (put_both p x (while_on x.echo (start (tag_name a q))) d d₂ v.at r.at P (subst (λ (b : Bool). PutAs p.write d v.at (render (while_on b (start (tag_name a q)))) d₂ r.at) f (E.right a y)));
            }

        go : (a : Sheet) → IsSheet s a → Shaped z → z.depth < most → (o : Option Effect) → Came o p v.at (record { values = v.state.values; echo = v.state.echo }) d →
            Comes (entering a q z o) (inside (at_start q) (opens_of (meaning_of z).control)) z p (Some r) d₂
        go a y h deep none c = absurd c
        go a y h deep (some x) c = done a y h deep x c.0 c.1 c.2

-- ---- an end tag
without_both : (kss : List (List Kept)) → without_element (without_node kss) ≡ without_element kss
without_both [] = refl
without_both ([] ∷ kss) = refl
without_both ((k ∷ ks) ∷ kss) = refl

-- a second visit is on the state that the set was taken off
pub visited_again : (s : List ℕ) (q i : ℕ) (z : State) (p : Pen) (v : Taken ActedSeen) (d : List ℕ) (t : Restored) → t ≡ restored z → VisitedAs s q i true t.saved.values t.state p v d →
    VisitedAs s q i true (restored z).saved.values (restored z).state p v d
visited_again s q i z p v d t e G = subst (λ (u : Restored). VisitedAs s q i true u.saved.values u.state p v d) e G

-- the state after the second visit and the return of echo, and with the element closed
abbrev pub back : State → Effect → State
back z x = with_env (restored z).state x.values (restored z).saved.echo (suc z.count)

back_inside : (z : State) (x : Effect) (o : Open) (os : List Open) → Shaped z → (meaning_of z).control ≡ inside o os → 0 < (top_of z).«open» → (meaning_of (back z x)).control ≡ inside o os
unfolding meaning_of
back_inside z x o os h e p = ap (λ (m : Run). m.control) (meaning_restored z h (inside_open z o os e) p).0 ∙ e

back_kept : (z : State) (x : Effect) → Shaped z → 0 < z.depth → 0 < (top_of z).«open» → without_element (meaning_of (back z x)).store.kept ≡ without_element (meaning_of z).store.kept
unfolding meaning_of
back_kept z x h deep p = ap (λ (u : Run). without_element u.store.kept) (meaning_restored z h deep p).0 ∙ without_both (meaning_of z).store.kept

pub back_env : (z : State) (x : Effect) → Shaped z → 0 < z.depth → 0 < (top_of z).«open» → (meaning_of (back z x)).store.env ≡
    record { values = x.values; echo = (innermost (meaning_of z).store.kept).echo; out = []; count = suc (meaning_of z).store.env.count }
unfolding meaning_of
back_env z x h deep p = ap (λ (k : Kept). record { values = x.values; echo = k.echo; out = []; count = suc z.count }) (meaning_restored z h deep p).1

pub back_shaped : (z : State) (x : Effect) → Shaped z → 0 < z.depth → Shaped (back z x)
back_shaped z x h deep = shaped_env (restored z).state x.values (restored z).saved.echo (suc z.count) (shaped_restored z h deep)

left_means : (z : State) (x : Effect) (o : Open) (os : List Open) (n : Piece) → Shaped z → (meaning_of z).control ≡ inside o os → 0 < (top_of z).«open» →
    meaning_of (popped (back z x)) ≡
    silent (record {
      control = outer os;
      store = record { kept = without_element (meaning_of z).store.kept; env = returned (innermost (meaning_of z).store.kept).echo (echoed n (visited (meaning_of z).store.env x)) };
    })
left_means z x o os n h e p =
    let deep = inside_open z o os e in
    meaning_popped (back z x) (back_shaped z x h deep) o os (back_inside z x o os h e p)
    ∙ ap₂ (λ (kss : List (List Kept)) (v : Running). record { control = outer os; store = record { kept = kss; env = v } }) (back_kept z x h deep p) (back_env z x h deep p)

-- the values that a second visit recalls are those kept of the innermost open node
pub recalls : (s : List ℕ) (q i : ℕ) (z : State) (p : Pen) (v : Taken ActedSeen) (d : List ℕ) → VisitedAs s q i true (restored z).saved.values (restored z).state p v d → (a : Sheet) → IsSheet s a →
    Shaped z → (o : Open) (os : List Open) → (meaning_of z).control ≡ inside o os → 0 < (top_of z).«open» →
    VisitTo (performed a (innermost (meaning_of z).store.kept).values (programs_of a.rules q i).second_visit z.values z.echo) p v d
recalls s q i z p v d G a y h o os e n =
    subst (λ (k : Kept). VisitTo (performed a k.values (programs_of a.rules q i).second_visit z.values z.echo) p v d)
    (meaning_restored z h (inside_open z o os e) n).1 (G.right a y)

abbrev leaving : ℕ → State → Sheet → Option Effect → Option Store
leaving q z a t =
    bind (bind (bind t (λ x. some (visited (meaning_of z).store.env x))) (λ w. some (returned (innermost (meaning_of z).store.kept).echo (echoed (end (tag_name a q)) w))))
    (λ w. some (record { kept = without_element (meaning_of z).store.kept; env = w }))

pub leave_rejected : (s : List ℕ) (q : ℕ) (z : State) (p : Pen) (d : List ℕ) → VisitedAs s q 0 true (restored z).saved.values (restored z).state p None d → LeavesAs s q z p None d
unfolding meaning_of
leave_rejected s q z p d G =
    record {
      reach = tt;
      count = tt;
      dry = G.dry;
      right = λ a y h o os e n. go a (performed a (innermost (meaning_of z).store.kept).values (programs_of a.rules q 0).second_visit z.values z.echo) (recalls s q 0 z p None d G a y h o os e n);
    }
  where
    go : (a : Sheet) (t : Option Effect) → t ≡ none → leaving q z a t ≡ none
    go a none c = refl
    go a (some x) c = absurd (no_effect x (sym c))

module _ (s : List ℕ) (q : ℕ) (z : State) (p : Pen) (v : ActedSeen) (d : List ℕ) (G : VisitedAs s q 0 true (restored z).saved.values (restored z).state p (Some v) d) where
  module _ (r : ActedSeen) (d₂ : List ℕ) (E : EchoedAs s q true v.state.echo (pen_at p d v.at) r.at d₂) where
    pub left : (X : State) → X ≡ with_env v.state v.state.values (restored z).saved.echo v.state.count → r.state.count ≡ X.count → r.state.closed ≡ X.closed →
        (0 < X.depth → meaning_of r.state ≡ meaning_of (popped X)) → (0 < X.depth → Shaped X → Shaped r.state) → LeavesAs s q z p (Some r) d₂
    unfolding meaning_of
    left X st as_many as_closed M S =
        record {
          reach = omega (arith, G.reach, E.reach);
          count = few;
          dry = λ u. E.dry u ∙ G.dry u;
          right = λ a y h o os e n. go a y h o os e n (performed a (innermost (meaning_of z).store.kept).values (programs_of a.rules q 0).second_visit z.values z.echo) (recalls s q 0 z p (Some v) d G a y h o os e n);
        }
      where
        few : r.state.count ≤ z.count + 1
        few = omega (arith, as_many, ap (λ (k : State). k.count) st, G.count)

        done : (a : Sheet) → IsSheet s a → Shaped z → (o : Open) (os : List Open) → (meaning_of z).control ≡ inside o os → 0 < (top_of z).«open» →
            (x : Effect) → v.state.values ≡ x.values → v.state.echo ≡ x.echo → PutAs p.write p.lent p.at (render x.printed) d v.at →
            Comes (leaving q z a (some x)) (outer os) z p (Some r) d₂
        done a y h o os e n x vs on P =
            let deep = inside_open z o os e in
            let same : X ≡ back z x = st ∙ ap (λ (u : State). (with_env u u.values (restored z).saved.echo u.count)) (state_after s q 0 true (restored z).saved.values (restored z).state p v d G x vs on) in
            let there : 0 < X.depth = omega (arith, ap (λ (u : State). u.depth) same, deep) in
            record {
              means = M there ∙ ap (λ (u : State). meaning_of (popped u)) same ∙ left_means z x o os (end (tag_name a q)) h e n;
              shaped = S there (subst Shaped (sym same) (back_shaped z x h deep));
              closed = as_closed ∙ ap (λ (u : State). u.closed) same;
              written = out_empty z x (while_on x.echo (end (tag_name a q))) p d₂ r.at (put_both p x (while_on x.echo (end (tag_name a q))) d d₂ v.at r.at P (subst (λ (b : Bool). PutAs p.write d v.at (render (while_on b (end (tag_name a q)))) d₂ r.at) on (E.right a y)));
            }

        go : (a : Sheet) → IsSheet s a → Shaped z → (o : Open) (os : List Open) → (meaning_of z).control ≡ inside o os → 0 < (top_of z).«open» →
            (t : Option Effect) → Came t p v.at (record { values = v.state.values; echo = v.state.echo }) d → Comes (leaving q z a t) (outer os) z p (Some r) d₂
        go a y h o os e n none c = absurd c
        go a y h o os e n (some x) c = done a y h o os e n x c.0 c.1 c.2

-- ---- a character
module _ (c : ℕ) (z : State) (p : Pen) where
  reads_done : (r : ℕ) (d : List ℕ) → Shaped z → PutAs p.write p.lent p.at (render (while_on z.echo (character c))) d r → (a : Sheet) →
      Comes (act a (letter_read c) (meaning_of z).store) (meaning_of z).control z p (Some (record { at = r; state = z })) d
  unfolding meaning_of
  reads_done r d h P a = record { means = refl; shaped = h; closed = refl; written = P }

  pub read_echoed : z.echo ≡ true → (r : ℕ) (d : List ℕ) → PutAs p.write p.lent p.at (escaped c) d r → ReadsAs c z p (record { at = r; state = z }) d
  read_echoed e r d P =
      record {
        reach = omega (arith, P.next, escaped_short c);
        count = omega arith;
        dry = λ u. P.left ∙ put_dry p.write p.lent p.at (escaped c) u;
        right = λ a h. reads_done r d h (same_bytes p.write p.lent p.at (escaped c) (render (while_on z.echo (character c))) d r (sym (append-nil (escaped c)) ∙ ap (λ (b : Bool). render (while_on b (character c))) (sym e)) P) a;
      }

  pub read_silent : z.echo ≡ false → ReadsAs c z p (record { at = p.at; state = z }) p.lent
  read_silent e =
      record {
        reach = omega arith;
        count = omega arith;
        dry = λ u. refl;
        right = λ a h. reads_done p.at p.lent h (same_bytes p.write p.lent p.at [] (render (while_on z.echo (character c))) p.lent p.at (ap (λ (b : Bool). render (while_on b (character c))) (sym e)) (nothing_put p.write p.lent p.at)) a;
      }
