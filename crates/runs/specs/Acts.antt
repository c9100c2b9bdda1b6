-- The acts of a run, what each does to the attributes, echo, output, count and what is kept of open nodes, and how many of them are visits.
-- Assumes nothing.
use Rattle.std.specs.Prelude.{false, List, [], ◌∷◌, ◌++◌, ℕ, suc}
use Rattle.std.proofs.Math.Option.{Option, some}
use Rattle.expressions.specs.Words.{Bracket, opening, closing}
use Rattle.sheet.specs.Sheet.{Sheet}
use Rattle.output.specs.Escape.{Piece}
use Rattle.runs.specs.Options.{bind}
use Rattle.runs.specs.Visits.{Env, Saved, saved, fresh, opens, closes, enters, leaves, reads, behind}

pub data Act : Type 0 where
  node_first : ℕ → ℕ → Act  -- the first visit of production q's node i
  node_second : ℕ → ℕ → Act  -- its second visit
  start_tag : ℕ → Act  -- production q's first visit, with its start tag
  end_tag : ℕ → Act  -- its second visit, with its end tag
  letter_read : ℕ → Act  -- a character

-- the acts of a bracket string of production q
abbrev pub bracket_act : ℕ → Bracket → Act
bracket_act q (opening i) = node_first q i
bracket_act q (closing i) = node_second q i

abbrev pub bracket_acts : ℕ → List Bracket → List Act
bracket_acts q [] = []
bracket_acts q (c ∷ α) = bracket_act q c ∷ bracket_acts q α

-- how many of the acts are visits: all but the characters
abbrev pub visits_in : List Act → ℕ
visits_in [] = 0
visits_in (node_first q i ∷ bs) = suc (visits_in bs)
visits_in (node_second q i ∷ bs) = suc (visits_in bs)
visits_in (start_tag q ∷ bs) = suc (visits_in bs)
visits_in (end_tag q ∷ bs) = suc (visits_in bs)
visits_in (letter_read c ∷ bs) = visits_in bs

-- what the acts work on: for each open element, innermost first, what is kept of its open nodes, innermost first and its production last
pub record Store : Type 0 where
  pub kept : List (List Saved)
  pub env : Env

abbrev pub fresh_store : Store
fresh_store = record { kept = []; env = fresh }

abbrev pub with_node : Saved → List (List Saved) → List (List Saved)
with_node k [] = []
with_node k (ks ∷ kss) = (k ∷ ks) ∷ kss

-- what is kept of the innermost open node. In every run something is kept where a node closes
abbrev pub nothing_kept : Saved
nothing_kept = record { values = []; echo = false }

abbrev pub innermost : List (List Saved) → Saved
innermost [] = nothing_kept
innermost ([] ∷ kss) = nothing_kept
innermost ((k ∷ ks) ∷ kss) = k

abbrev pub without_node : List (List Saved) → List (List Saved)
without_node [] = []
without_node ([] ∷ kss) = [] ∷ kss
without_node ((k ∷ ks) ∷ kss) = ks ∷ kss

abbrev pub without_element : List (List Saved) → List (List Saved)
without_element [] = []
without_element (ks ∷ kss) = kss

abbrev pub with_kept : List (List Saved) → Option Env → Option Store
with_kept kss o = bind o (λ w. some (record { kept = kss; env = w }))

-- none is always a program's rejection
abbrev pub act : Sheet → Act → Store → Option Store
act s (node_first q i) m =
    bind (opens s q i m.env) (λ w. some (record { kept = with_node (saved m.env w) m.kept; env = w }))
act s (node_second q i) m = with_kept (without_node m.kept) (closes s q i (innermost m.kept) m.env)
act s (start_tag q) m = bind (enters s q m.env) (λ w. some (record { kept = (saved m.env w ∷ []) ∷ m.kept; env = w }))
act s (end_tag q) m = with_kept (without_element m.kept) (leaves s q (innermost m.kept) m.env)
act s (letter_read c) m = with_kept m.kept (reads s c m.env)

abbrev pub acts : Sheet → List Act → Store → Option Store
acts s [] m = some m
acts s (a ∷ bs) m = bind (act s a m) (λ m'. acts s bs m')

-- the same after more output
abbrev pub store_behind : List Piece → Store → Store
store_behind o m = record { kept = m.kept; env = behind o m.env }
