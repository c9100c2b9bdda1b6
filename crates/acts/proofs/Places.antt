-- The brackets of a string where the sets of the innermost element are changed in place: each turn is a bracket's visit on the state that stands there.
-- Assumes nothing.
use mathlib.Core.Path.{◌≡◌, refl, sym, ap, ◌∙◌, subst}
use mathlib.Core.Bool.{Bool, true, false}
use mathlib.Core.List.{List}
use Prim.Native.Nat.{ℕ, zero, suc, ◌+◌, ◌-◌, ◌/◌, ◌%◌, ◌≤◌, ◌<◌}
use native.Mathlib.Omega.{arith}
use borrow.Author.Tests.{lt-ltb, ne_eqb, eq-eqb}
use lib.Dec.{eqb}
use lib.ListN.{length, get_or, set}
use Rattle.state.specs.Bounds.{most_sets}
use Rattle.state.specs.Changes.{bare_saved, keeping, top_of, Restored, restored, with_env}
use Rattle.state.specs.Meaning.{Shaped}
use Rattle.state.specs.declared.Saved.{Saved}
use Rattle.state.specs.declared.Frame.{Frame}
use Rattle.state.proofs.Laws.{last_at}
use Rattle.state.proofs.Meant.{fits_top}
use Rattle.live.specs.Live.{full, kept_in, env_in, RestoredIn}
use Rattle.live.specs.declared.Live.{Live}
use Rattle.live.proofs.Stacks.{full_kept, full_restored, top_full}
use Rattle.visits.specs.Written.{Pen}
use Rattle.visits.specs.declared.Env.{Env}
use Rattle.visits.proofs.Running.{pen_at}
use Rattle.visits.specs.declared.Performed.{Performed}
use Rattle.expressions.specs.Words.{Bracket, opening, closing}
use Rattle.ways.specs.Held.{code_of}
use Rattle.acts.specs.Seen.{ActedSeen}
use Rattle.acts.specs.Acted.{BracketsAs}
use Rattle.acts.specs.Standing.{SlotIs, standing_at}
use Rattle.acts.specs.Visited.{PerformsAs, SetRoom, VisitedAs, BracketAs}
use Rattle.std.specs.Prelude.{Option as Taken, Some, None}
use Rattle.acts.proofs.Acting.{rejected_visit, a_visit, visited_again}
use Rattle.acts.proofs.Bracketing.{open_rejected, opened, close_rejected, closed, even_bracket, odd_bracket, LeftIn, stops_here, one_less, no_room}

-- before the first bracket
pub begins : (z : Live) → standing_at z 0 (record { values = z.values; echo = z.echo }) z.top.«open» z.top.saved ≡ z
begins z =
    ap (λ (k : ℕ). record { values = z.values; echo = z.echo; count = k; rooted = z.rooted; closed = z.closed; depth = z.depth; top = z.top }) (omega arith)

module _ (s : List ℕ) (q c : ℕ) (z : Live) (i : ℕ) (e : Env) (n : ℕ) (sets : List Saved) (old : Saved) (p : Pen) (d b : List ℕ) where
  abbrev here : Live
  here = standing_at z i e n sets

  abbrev Performs : Bool → Taken Performed → Type 0
  Performs again r = PerformsAs s q (c / 2) again old.values e p r d

  -- ---- an opening bracket
  first_one : (r : Taken Performed) → Performs (eqb (c % 2) 1) r → c % 2 ≡ 0 → Performs false r
  first_one r P even = subst (λ (g : Bool). Performs g r) (ne_eqb (c % 2) 1 (λ o. omega (arith, o, even))) P

  pub even_stop : Performs (eqb (c % 2) 1) None → c % 2 ≡ 0 → BracketAs s q c (full here b) p None d
  even_stop P even =
      let Q = first_one None P even in
      even_bracket s q c (full here b) p None d even (open_rejected s q (c / 2) old.values (full here b) p d (rejected_visit s q (c / 2) Q.field old.values (full here b) p d Q.done false Q.found))

  module _ (r : Performed) (P : Performs (eqb (c % 2) 1) (Some r)) where
    first_visit : c % 2 ≡ 0 → VisitedAs s q (c / 2) false old.values (full here b) p (Some (record { at = r.at; state = with_env (full here b) r.env.values r.env.echo (z.count + i + 1) })) d
    first_visit even =
        let Q = first_one (Some r) P even in
        a_visit s q (c / 2) Q.field old.values (full here b) p d r Q.done false Q.found _ refl

    kept_there : (x : Saved) → n < most_sets → standing_at z (i + 1) r.env (n + 1) (set sets n x) ≡ kept_in (env_in here r.env.values r.env.echo (z.count + i + 1)) x
    unfolding keeping
    kept_there x h =
        rw (lt-ltb n most_sets h)
        (ap
        (λ (k : ℕ). record { values = r.env.values; echo = r.env.echo; count = k; rooted = z.rooted; closed = z.closed; depth = z.depth; top = record { production = z.top.production; place = z.top.place; «open» = n + 1; saved = set sets n x } })
        (omega arith))

    pub even_turn : c % 2 ≡ 0 → n < most_sets →
        BracketAs s q c (full here b) p (Some (record { at = r.at; state = full (standing_at z (i + 1) r.env (n + 1) (set sets n (record { values = r.env.values; echo = e.echo }))) b })) d
    even_turn even room =
        even_bracket s q c (full here b) p _ d even
        (opened s q (c / 2) old.values (full here b) p _ d (first_visit even) _ (ap (λ (h : Live). full h b) (kept_there (record { values = r.env.values; echo = e.echo }) room) ∙ full_kept (env_in here r.env.values r.env.echo (z.count + i + 1)) (record { values = r.env.values; echo = e.echo }) b))

  -- ---- a closing bracket
  module _ (j : ℕ) (odd : c % 2 ≡ 0 → ⊥) (deep : 0 < z.depth) (is : n ≡ j + 1) (few : j < length sets) (at_j : old ≡ get_or sets j bare_saved) where
    abbrev less : Live
    less = standing_at z i e (n - 1) sets

    taken_off : RestoredIn here (record { saved = old; live = less })
    taken_off =
        record {
          saved = rw (ne_eqb z.depth 0 (λ o. omega (arith, o, deep))) (at_j ∙ ap (λ (k : ℕ). get_or sets k bare_saved) (omega (arith, is)) ∙ sym (last_at bare_saved bare_saved sets n (omega (arith, is)) (omega (arith, is, few))));
          live = refl;
        }

    second_one : (r : Taken Performed) → Performs (eqb (c % 2) 1) r → Performs true r
    second_one r P = subst (λ (g : Bool). Performs g r) (eq-eqb (c % 2) 1 (one odd)) P
      where
        one : (c % 2 ≡ 0 → ⊥) → c % 2 ≡ 1
        one o = omega (arith, o)

    off_state : record { saved = old; state = full less b } ≡ restored (full here b)
    off_state = full_restored here (record { saved = old; live = less }) b taken_off

    again_here : (v : Taken ActedSeen) → VisitedAs s q (c / 2) true old.values (full less b) p v d → VisitedAs s q (c / 2) true (restored (full here b)).saved.values (restored (full here b)).state p v d
    again_here v = visited_again s q (c / 2) (full here b) p v d (record { saved = old; state = full less b }) off_state

    pub odd_stop : Performs (eqb (c % 2) 1) None → BracketAs s q c (full here b) p None d
    odd_stop P =
        let Q = second_one None P in
        odd_bracket s q c (full here b) p None d odd
        (close_rejected s q (c / 2) (full here b) p d (again_here None (rejected_visit s q (c / 2) Q.field old.values (full less b) p d Q.done true Q.found)))

    module _ (r : Performed) (P : Performs (eqb (c % 2) 1) (Some r)) where
      abbrev v : ActedSeen
      v = record { at = r.at; state = with_env (full less b) r.env.values r.env.echo (z.count + i + 1) }

      second_visit : VisitedAs s q (c / 2) true old.values (full less b) p (Some v) d
      second_visit =
          let Q = second_one (Some r) P in
          a_visit s q (c / 2) Q.field old.values (full less b) p d r Q.done true Q.found _ refl

      pub odd_turn : BracketAs s q c (full here b) p (Some (record { at = r.at; state = full (standing_at z (i + 1) (record { values = r.env.values; echo = old.echo }) (n - 1) sets) b })) d
      odd_turn =
          odd_bracket s q c (full here b) p _ d odd
          (closed s q (c / 2) (full here b) p v d (again_here (Some v) second_visit) _
          (ap (λ (k : ℕ). with_env (full less b) r.env.values old.echo k) (omega arith) ∙ ap (λ (u : Restored). with_env v.state v.state.values u.saved.echo v.state.count) off_state))

-- ---- a turn of the loop: the bracket at i, whose set stands at j
module _ (s : List ℕ) (q : ℕ) (line : List ℕ) (z : Live) (p : Pen) (i : ℕ) (e : Env) (n : ℕ) (sets : List Saved) (at : ℕ) (d b : List ℕ)
    (L : LeftIn s q line i (full z b) p (full (standing_at z i e n sets) b) at d) (within : i < length line) (j : ℕ) (J : SlotIs (get_or line i 0) n z.depth j) where
  abbrev code : ℕ
  code = get_or line i 0

  pub no_slot : most_sets ≤ j → BracketsAs s q line (full z b) p None d
  no_slot past = no_room s q line (full z b) p i (full (standing_at z i e n sets) b) at d L within never
    where
      never : (k : Bracket) → code ≡ code_of k → Shaped (full (standing_at z i e n sets) b) → 0 < z.depth → SetRoom k (top_of (full (standing_at z i e n sets) b)).«open» → ⊥
      never (opening m) is h deep room =
          let same : (top_of (full (standing_at z i e n sets) b)).«open» ≡ n = ap (λ (f : Frame). f.«open») (top_full (standing_at z i e n sets) b deep) in
          let even : code % 2 ≡ 0 = omega (arith, is) in
          omega (arith, J.none_even even deep, past, same, room)
      never (closing m) is h deep room =
          let same : (top_of (full (standing_at z i e n sets) b)).«open» ≡ n = ap (λ (f : Frame). f.«open») (top_full (standing_at z i e n sets) b deep) in
          omega (arith, J.none_odd (λ o. omega (arith, o, is)) deep past (omega (arith, same, (fits_top (full (standing_at z i e n sets) b) h deep).room)), same, room)

  module _ (old : Saved) (d₁ : List ℕ) (slot : j < most_sets) where
    abbrev Turned : Taken Performed → Type 0
    Turned r = PerformsAs s q (code / 2) (eqb (code % 2) 1) old.values e (pen_at p d at) r d₁

    pub even_goes : (r : Performed) → Turned (Some r) → code % 2 ≡ 0 → (m : ℕ) (ys : List Saved) (f : Env) → m ≡ n + 1 → ys ≡ set sets j (record { values = r.env.values; echo = e.echo }) → f ≡ r.env →
        LeftIn s q line (i + 1) (full z b) p (full (standing_at z (i + 1) f m ys) b) r.at d₁
    even_goes r P even m ys f em ey ef =
        let x : Saved = record { values = r.env.values; echo = e.echo } in
        let there : j ≡ n = J.even even slot in
        let same : standing_at z (i + 1) f m ys ≡ standing_at z (i + 1) r.env (n + 1) (set sets n x) =
        ap (λ (k : ℕ). standing_at z (i + 1) f k ys) em ∙ ap (λ (k : List Saved). standing_at z (i + 1) f (n + 1) k) (ey ∙ ap (λ (k : ℕ). set sets k x) there) ∙ ap (λ (k : Env). standing_at z (i + 1) k (n + 1) (set sets n x)) ef in
        subst (λ (h : Live). LeftIn s q line (i + 1) (full z b) p (full h b) r.at d₁) (sym same)
        (one_less s q line (full z b) p i (full (standing_at z i e n sets) b) at d L within _ d₁ (even_turn s q code z i e n sets old (pen_at p d at) d₁ b r P even (omega (arith, there, slot))))

    module _ (long : length sets ≡ most_sets) (at_j : old ≡ get_or sets j bare_saved) where
      pub odd_goes : (r : Performed) → Turned (Some r) → (code % 2 ≡ 0 → ⊥) → (m : ℕ) (ys : List Saved) (f : Env) → m ≡ n - 1 → ys ≡ sets → f ≡ record { values = r.env.values; echo = old.echo } →
          LeftIn s q line (i + 1) (full z b) p (full (standing_at z (i + 1) f m ys) b) r.at d₁
      odd_goes r P odd m ys f em ey ef =
          let g : Env = record { values = r.env.values; echo = old.echo } in
          let same : standing_at z (i + 1) f m ys ≡ standing_at z (i + 1) g (n - 1) sets =
          ap (λ (k : ℕ). standing_at z (i + 1) f k ys) em ∙ ap (λ (k : List Saved). standing_at z (i + 1) f (n - 1) k) ey ∙ ap (λ (k : Env). standing_at z (i + 1) k (n - 1) sets) ef in
          subst (λ (h : Live). LeftIn s q line (i + 1) (full z b) p (full h b) r.at d₁) (sym same)
          (one_less s q line (full z b) p i (full (standing_at z i e n sets) b) at d L within _ d₁
          (odd_turn s q code z i e n sets old (pen_at p d at) d₁ b j odd (J.deep slot) (J.odd odd slot) (omega (arith, long, slot)) at_j r P))

      pub rejects : Turned None → BracketsAs s q line (full z b) p None d₁
      rejects P = stops_here s q line (full z b) p i (full (standing_at z i e n sets) b) at d L within d₁ (by (code % 2) refl)
        where
          by : (k : ℕ) → code % 2 ≡ k → BracketAs s q code (full (standing_at z i e n sets) b) (pen_at p d at) None d₁
          by zero even = even_stop s q code z i e n sets old (pen_at p d at) d₁ b P even
          by (suc k) is =
              let odd : code % 2 ≡ 0 → ⊥ = λ o. omega (arith, o, is) in
              odd_stop s q code z i e n sets old (pen_at p d at) d₁ b j odd (J.deep slot) (J.odd odd slot) (omega (arith, long, slot)) at_j P
