use borrow.Author.Rules.{rules}
use native.Mathlib.Omega.{arith}
use mathlib.Core.List.{[]}
use mathlib.Core.Path.{◌≡◌, refl, sym, ap, ◌∙◌, subst}
use Prim.Native.Nat.{ℕ, ◌<◌}
use lib.ListN.{length, length-set, get_or}
use Rattle.state.specs.Bounds.{most_sets}
use Rattle.state.specs.Changes.{bare_saved}
use Rattle.state.proofs.Laws.{get_d_any}
use Rattle.state.proofs.Sizes.{frame_sized}
use Rattle.live.specs.Live.{full}
use Rattle.live.specs.declared.Live.{Live}
use Rattle.acts.specs.declared.Acted.{Acted}
use Rattle.std.specs.Prelude.{Option as Taken, Some}
use Rattle.acts.specs.Seen.{seen_if}
use Rattle.acts.specs.Acted.{BracketsAs}
use Rattle.acts.specs.Standing.{standing_at}
use Rattle.acts.proofs.Bracketing.{LeftIn, all_left, none_left}
use Rattle.acts.proofs.Places.{begins, no_slot, even_goes, odd_goes, rejects}
use Rattle.acts.proofs.brackets.Goals as goal
use Rattle.acts.proofs.brackets.Goals.{then-c-eq0, else-c-eq0}

pub loop-c-init : goal.loop-c-init
loop-c-init c = (
  refl,
  (
    (frame_sized c.args.z.top _ c.well_formed.1.1.1.1.0.1.1.1.1.1.1.1.1.0).saved,
    λ b. subst (λ (h : Live). LeftIn c.args.s.now c.args.q c.args.line.now 0 (full c.args.z b) (record { write = c.args.write; lent = c.args.out.now; at = c.args.at }) (full h b) c.args.at c.args.out.now) (sym (begins c.args.z))
        (all_left c.args.s.now c.args.q c.args.line.now (full c.args.z b) (record { write = c.args.write; lent = c.args.out.now; at = c.args.at })),
  ),
)

pub returns-then-j-ge-SETS : goal.returns-then-j-ge-SETS
returns-then-j-ge-SETS c =
    let l = c.loop-c in
    let j = c.slot-j in
    λ b. no_slot c.args.s.now c.args.q c.args.line.now c.args.z (record { write = c.args.write; lent = c.args.out.now; at = c.args.at }) l.c-index l.env l.n l.sets l.to l.out b (l.invariant.1.1 b) (omega arith) j.result j.ensures c.if-j-ge-SETS.true

pub perform-requires : goal.perform-requires
perform-requires c =
    let left = c.loop-c.invariant.1.1 [] in
    record { laid_out = c.requires.laid_out; q_lt_productions = c.requires.q_lt_productions; at_bound = omega (arith, c.requires.line_len_bound, c.requires.at_bound, left.few, left.reach); well_formed = c.requires.well_formed }

pub returns-in_err-done : goal.returns-in_err-done
returns-in_err-done c =
    let l = c.loop-c in
    let j = c.slot-j in
    let few : j.result < most_sets = omega (arith, c.if-j-ge-SETS.false) in
    λ b. subst (λ (x : Taken Acted). BracketsAs c.args.s.now c.args.q c.args.line.now (full c.args.z b) (record { write = c.args.write; lent = c.args.out.now; at = c.args.at }) (seen_if x b) c.perform.new.out) (sym c.from_residual.ensures)
    (rejects c.args.s.now c.args.q c.args.line.now c.args.z (record { write = c.args.write; lent = c.args.out.now; at = c.args.at }) l.c-index l.env l.n l.sets l.to l.out b (l.invariant.1.1 b) (omega arith) j.result j.ensures (get_or l.sets j.result _) _ few l.invariant.1.0 (get_d_any l.sets j.result _ bare_saved (omega (arith, few, l.invariant.1.0))) c.in_err-done.ensures)

pub overflow_add-n : goal.overflow_add-n
overflow_add-n c =
    let j = c.slot-j in
    let few : j.result < most_sets = omega (arith, c.if-j-ge-SETS.false) in
    record { fits = omega (arith, j.ensures.even c.if-c-eq0.true few, few) }

pub overflow_sub-n : goal.overflow_sub-n
overflow_sub-n c =
    let j = c.slot-j in
    let few : j.result < most_sets = omega (arith, c.if-j-ge-SETS.false) in
    search (j.ensures.odd c.if-c-eq0.false few, rules)

pub loop-c-preserved : goal.loop-c-preserved
loop-c-preserved c =
    let l = c.loop-c in
    let j = c.slot-j in
    let r = c.in_ok-done in
    let few : j.result < most_sets = omega (arith, c.if-j-ge-SETS.false) in (
      search (c.perform.auto.out, l.invariant.0, rules),
      (
        elim c.if-c-eq0.branch [ then-c-eq0 w ↦ ap length w.sets-is ∙ length-set l.sets j.result _ ∙ l.invariant.1.0 | else-c-eq0 w ↦ ap length w.sets-is ∙ l.invariant.1.0 ],
        λ b. elim c.if-c-eq0.branch [
          | then-c-eq0 w ↦ even_goes c.args.s.now c.args.q c.args.line.now c.args.z (record { write = c.args.write; lent = c.args.out.now; at = c.args.at }) l.c-index l.env l.n l.sets l.to l.out b (l.invariant.1.1 b) (omega arith) j.result j.ensures (get_or l.sets j.result _) _ few _ r.ensures w.if-c-eq0.true _ _ _ w.n-is w.sets-is w.env-is
          | else-c-eq0 w ↦ odd_goes c.args.s.now c.args.q c.args.line.now c.args.z (record { write = c.args.write; lent = c.args.out.now; at = c.args.at }) l.c-index l.env l.n l.sets l.to l.out b (l.invariant.1.1 b) (omega arith) j.result j.ensures (get_or l.sets j.result _) _ few l.invariant.1.0 (get_d_any l.sets j.result _ bare_saved (omega (arith, few, l.invariant.1.0))) _ r.ensures w.if-c-eq0.false _ _ _ w.n-is w.sets-is w.env-is
        ],
      ),
    )

pub standing-requires : goal.standing-requires
standing-requires c =
    omega (arith, c.requires.line_len_bound, c.requires.count_bound, (c.loop-c.invariant.1.1 []).few)

pub returns : goal.returns
returns c =
    let l = c.loop-c in
    let e : l.c-index ≡ length c.args.line.now = omega arith in
    λ b. subst (λ (h : Live). BracketsAs c.args.s.now c.args.q c.args.line.now (full c.args.z b) (record { write = c.args.write; lent = c.args.out.now; at = c.args.at }) (Some (record { at = l.to; state = full h b })) l.out)
    (ap (λ (n : ℕ). standing_at c.args.z n l.env l.n l.sets) e ∙ sym c.standing.ensures)
    (none_left c.args.s.now c.args.q c.args.line.now (full c.args.z b) (record { write = c.args.write; lent = c.args.out.now; at = c.args.at }) l.c-index (full (standing_at c.args.z l.c-index l.env l.n l.sets) b) l.to l.out (l.invariant.1.1 b) c.requires.line_len_bound (omega arith))

pub overflow_cast-c : goal.overflow_cast-c
overflow_cast-c c = search (c.slot-j.ensures.byte, rules)
