-- Following a way: the brackets' visits, whose string fits the sets that are kept of the element, and then the element at the way's place.
-- Assumes nothing.
use Rattle.std.specs.Prelude.{Option as Taken, Some, None}
use mathlib.Core.Path.{◌≡◌, sym, ap, ◌∙◌, subst}
use mathlib.Core.List.{List}
use mathlib.Core.Option.{Option, some}
use Prim.Native.Nat.{ℕ}
use Rattle.expressions.specs.Grammar.{Next, tags_of, content_of}
use Rattle.sheet.specs.Sheet.{Sheet, IsSheet}
use Rattle.visits.specs.Written.{Pen}
use Rattle.ways.specs.Held.{codes}
use Rattle.runs.specs.Acts.{Store, bracket_acts, acts}
use Rattle.runs.specs.Way.{Way as Found, atom_way}
use Rattle.runs.specs.Visits.{grammar}
use Rattle.runs.specs.Machine.{Open, inside, at_place_lem, Configuration as Standing}
use Rattle.fit.specs.RunFits.{RunFits}
use Rattle.state.specs.declared.State.{State}
use Rattle.state.specs.Changes.{top_of, placed}
use Rattle.state.specs.Meaning.{open_of, meaning_of, Shaped}
use Rattle.state.proofs.Meant.{inside_open, meaning_placed, shaped_placed}
use Rattle.acts.specs.Acted.{Done, Comes, BracketsAs}
use Rattle.acts.specs.Seen.{ActedSeen}
use Rattle.steps.specs.Parts.{FollowsAs}
use Rattle.steps.proofs.Tops.{top_balanced}
use Rattle.steps.proofs.Turns.{done_is}

-- another place of the innermost element
moved : (o : Open) (os : List Open) (m : Store) (z : State) (p : Pen) (b : ActedSeen) (d : List ℕ) (n : ℕ) → (meaning_of z).control ≡ inside o os → Done (meaning_of z).control m z p b d →
    Done (inside (at_place_lem o n) os) m z p (record { at = b.at; state = placed b.state n }) d
moved o os m z p b d n e D =
    let c : (meaning_of b.state).control ≡ inside o os = ap (λ (y : Standing). y.control) D.means ∙ e in
    record {
      means = meaning_placed b.state n D.shaped o os c ∙ ap (λ (y : Standing). record { control = inside (at_place_lem o n) os; store = y.store }) D.means;
      shaped = shaped_placed b.state n D.shaped (inside_open b.state o os c);
      closed = D.closed;
      written = D.written;
    }

module _ {s : List ℕ} {line : List ℕ} {z : State} {p : Pen} {d : List ℕ} where
  came : (b : Taken ActedSeen) → BracketsAs s (top_of z).production line z p b d → (a : Sheet) → IsSheet s a → Shaped z → RunFits a (meaning_of z) → (os : List Open) → (meaning_of z).control ≡ inside (open_of (top_of z)) os →
      (x : Next) (v : Found) → atom_way (tags_of (grammar a)) (content_of (grammar a) (top_of z).production) (top_of z).place x ≡ some v → line ≡ codes v.string →
      Comes (acts a (bracket_acts (top_of z).production v.string) (meaning_of z).store) (meaning_of z).control z p b d
  came b B a i h f os c x v e W =
      let t = top_balanced i h f (inside_open z (open_of (top_of z)) os c) x v e in
      B.right a i v.string W h (open_of (top_of z)) os c t.0 t.1 t.2 t.3

  pub follow_rejected : {place : ℕ} → BracketsAs s (top_of z).production line z p None d → FollowsAs s place line z p None d
  follow_rejected {place} B = record { reach = tt; count = tt; deep = tt; dry = B.dry; right = λ a i h f os c x v e P W. came None B a i h f os c x v e W }

  pub follow_done : {place : ℕ} (b : ActedSeen) → BracketsAs s (top_of z).production line z p (Some b) d → (r : ActedSeen) → r ≡ record { at = b.at; state = placed b.state place } → FollowsAs s place line z p (Some r) d
  follow_done {place} b B r q =
      subst (λ (y : ActedSeen). FollowsAs s place line z p (Some y) d) (sym q)
      (record {
        reach = B.reach;
        count = B.count;
        deep = B.deep;
        dry = B.dry;
        right = λ a i h f os c x v e P W.
            let D = done_is (acts a (bracket_acts (top_of z).production v.string) (meaning_of z).store) (meaning_of z).control z p b d (came (Some b) B a i h f os c x v e W) in
            subst (λ (y : Option Store). Comes y (inside (at_place_lem (open_of (top_of z)) v.place) os) z p (Some (record { at = b.at; state = placed b.state place })) d) (sym D.1)
            (subst (λ (n : ℕ). Done (inside (at_place_lem (open_of (top_of z)) n) os) D.0 z p (record { at = b.at; state = placed b.state place }) d) P
            (moved (open_of (top_of z)) os D.0 z p b d place c D.2));
      })
