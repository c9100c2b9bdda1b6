-- Any two answers that a run for a host may have are one, to the byte: so it is of the call over bytes, and the number and the counts are that call's own.
-- Assumes nothing.
use mathlib.Core.Path.{◌≡◌, ap, sym, ◌∙◌}
use mathlib.Core.Bool.{not}
use mathlib.Core.List.{List, [], ◌∷◌}
use Prim.Native.Nat.{ℕ}
use lib.Dec.{eqb}
use Rattle.converter.specs.declared.Counts.{Counts}
use Rattle.converter.specs.Bytes.{SameCounts}
use Rattle.converter.proofs.BytesLaws.{one_bytes}
use Rattle.rescued.specs.declared.SalvageCounts.{SalvageCounts}
use Rattle.rescued.proofs.One.{one_salvaged}
use Rattle.capi.specs.RunAnswer.{RunAs}
use Rattle.capi.specs.Salvaging.{SalvageRunAs, OneSalvageRun}

pub one_run : {s b x y part : List ℕ} {ended : ℕ} {lent after after' c d : List ℕ} {v w : ℕ} (p : RunAs s b x part ended lent after c v)
    (q : RunAs s b y part ended lent after' d w) → (v ≡ w) × (c ≡ d) × SameCounts x y after after' p.answer q.answer
one_run p q =
    let o = one_bytes p.as_answered q.as_answered in (
      p.number ∙ ap (λ (r : Counts). r.number) o.counts ∙ sym q.number,
      p.counted ∙ ap (λ (r : Counts). r.taken ∷ r.written ∷ r.visits ∷ []) o.counts ∙ sym q.counted,
      o,
    )

pub one_salvage_run : OneSalvageRun
one_salvage_run s part ended l l' l'' c d v w p q =
    let o = one_salvaged s part (not (eqb ended 0)) l l' l'' p.answer q.answer p.as_answered q.as_answered in (
      p.number ∙ ap (λ (r : SalvageCounts). r.number) o.0 ∙ sym q.number,
      p.counted ∙ ap (λ (r : SalvageCounts). r.taken ∷ r.written ∷ r.reported ∷ r.waited ∷ r.visits ∷ []) o.0 ∙ sym q.counted,
      o.1,
    )
