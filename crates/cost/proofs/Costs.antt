-- A reply is a call's answer, and so the ceiling of a call is the code's.
-- Assumes nothing.
use mathlib.Core.Path.{◌≡◌, refl, sym, ◌∙◌, ap, subst}
use mathlib.Core.Bool.{Bool, not}
use mathlib.Core.List.{List, [], ◌∷◌}
use Prim.Native.Nat.{ℕ}
use native.Mathlib.Omega.{arith}
use lib.ListN.{length}
use lib.Dec.{eqb}
use Rattle.tokens.specs.Stream.{Reads}
use Rattle.calls.specs.Held.{Held}
use Rattle.state.specs.Meaning.{meaning_of}
use Rattle.state.specs.Bytes.{state_from}
use Rattle.state.specs.declared.State.{State}
use Rattle.ceiling.specs.Visits.{count_in}
use Rattle.ceiling.proofs.Calls.{ceiling_kept}
use Rattle.converter.specs.declared.Reply.{Reply}
use Rattle.converter.specs.Answered.{held_of, Ran, as_given, runs}
use Rattle.converter.specs.Bytes.{BytesAnsweredAs}
use Rattle.cost.specs.Cost.{AtMost, CallsCost, BytesCost, HostsCost}

nothing_taken : (more : Bool) (part : List ℕ) (before taken visits : ℕ) → taken ≡ 0 → visits ≡ before → AtMost more part before taken visits
nothing_taken more part before taken visits t v = record { tokens = []; are_taken = sym t; few = omega (arith, v) }

count_held : (z : State) → count_in (held_of z).run ≡ z.count
unfolding meaning_of
count_held z = refl

ran_cost : (s : List ℕ) (z : State) (part : List ℕ) (ended : Bool) (lent after : List ℕ) (r : Reply) → Ran s z part ended lent after r →
    AtMost (not ended) part z.count r.taken r.state.count
ran_cost s z part ended lent after r w =
    let c = (ceiling_kept s w.sheet w.is_sheet w.passed).of_calls part _ (length lent) (held_of z) w.answer w.called in
    record {
      tokens = c.0;
      are_taken = subst (Reads (not ended) part 0 c.0) (sym w.taken) c.1;
      few = omega (arith, c.2, count_held z, count_held r.state, ap (λ (h : Held). count_in h.run) w.held);
    }

pub calls_cost : CallsCost
calls_cost s z part ended lent after r (as_given g k v) = nothing_taken (not ended) part z.count r.taken r.visits k.taken v
calls_cost s z part ended lent after r (runs w v) = subst (AtMost (not ended) part z.count r.taken) (sym v) (ran_cost s z part ended lent after r w)

pub bytes_cost : BytesCost
bytes_cost s b b' part ended lent after r (BytesAnsweredAs.as_given g k) = nothing_taken (not ended) part (state_from b).count r.taken r.visits k.taken k.visits
bytes_cost s b b' part ended lent after r (BytesAnsweredAs.runs i q w n e f) =
    let c = ran_cost s (state_from b) part ended lent after q w in
    record {
      tokens = c.tokens;
      are_taken = subst (Reads (not ended) part 0 c.tokens) (sym n.taken) c.are_taken;
      few = omega (arith, c.few, n.visits);
    }

head_is : (l l' : List ℕ) (x y : ℕ) → x ∷ l ≡ y ∷ l' → (x ≡ y) × (l ≡ l')
head_is l l' x y e = ((cc), (cc))

pub hosts_cost : HostsCost
hosts_cost s b b' part ended lent after counts w h taken written visits e =
    let one = head_is _ _ _ _ (sym h.counted ∙ e) in
    let two = head_is _ _ _ _ one.1 in
    let three = head_is _ _ _ _ two.1 in
    subst (λ (t : ℕ). AtMost (not (not (eqb ended 0))) part (state_from b).count t visits) one.0
    (subst (AtMost (not (not (eqb ended 0))) part (state_from b).count h.answer.taken) three.0 (bytes_cost s b b' part _ lent after h.answer h.as_answered))
