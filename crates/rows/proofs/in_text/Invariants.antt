use Rattle.drafts.specs.Drafted.{SoundDraft}
use Rattle.rows.proofs.Rows.{Filled, MarkIn}
use Rattle.rows.proofs.in_text.Given as goal

-- The loop keeps that the kinds tried so far are marked.
abbrev pub invariant-loop-k : goal.invariant-loop-k
invariant-loop-k l = SoundDraft l.d × Filled (MarkIn l.d) l.may l.k
