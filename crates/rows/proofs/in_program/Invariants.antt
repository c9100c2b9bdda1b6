use Rattle.programs.specs.Parsed.{which_visit}
use Rattle.scripts.specs.Scripts.{Standing}
use Rattle.rows.specs.Rows.{Marked}
use Rattle.rows.proofs.Rows.{Filled}
use Rattle.rows.proofs.in_program.Given as goal

-- The loop keeps that the kinds tried so far are marked; the brace is marked last.
abbrev pub invariant-loop-k : goal.invariant-loop-k
invariant-loop-k l = Standing l.s × Filled (Marked (which_visit l.second) l.s) l.may l.k
