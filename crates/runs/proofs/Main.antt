-- Demand 2 over events: under a passed sheet the machine takes events to the root's end exactly when they have a parse tree, no step in it rejects
-- and it keeps the limit on depth, and then what it comes to is what the attributes over that tree come to. One way by the run of the control over
-- a tree (`Complete`), the other by the tree of such a run (`Back`); a tree's acts do what its evaluation does (`Line`).
-- Assumes nothing.
use mathlib.Core.Path.{◌≡◌, refl, sym, ◌∙◌, ap, subst}
use mathlib.Core.List.{List, []}
use mathlib.Core.Logic.{◌↔◌}
use mathlib.Core.Option.{Option, none, some}
use Prim.Native.Nat.{ℕ, ◌*◌, ◌≤◌}
use native.Mathlib.Omega.{arith}
use Rattle.sheet.specs.Sheet.{Sheet}
use Rattle.runs.specs.Options.{bind}
use Rattle.runs.specs.Visits.{grammar, Env, fresh}
use Rattle.runs.specs.Events.{Event}
use Rattle.runs.specs.Parse.{Element, yield, size, element_depth, eval}
use Rattle.runs.specs.Acts.{Act, visits_in, Store, fresh_store, acts}
use Rattle.runs.specs.Machine.{Control, before, after, Configuration, acted, fresh_configuration, finished, stopped, answered, run, most}
use Rattle.runs.specs.Line.{line}
use Rattle.runs.specs.Taken.{Passed, ParsedTo, closed_with, Reached}
use Rattle.runs.proofs.Rules.{no_T_lem, no_S_lem}
use Rattle.runs.proofs.Line.{line_eval}
use Rattle.runs.proofs.Moves.{Moves, run_moves, run_through, run_stops, moves_run}
use Rattle.runs.proofs.Complete.{complete}
use Rattle.runs.proofs.Back.{sound}
use Rattle.runs.proofs.Unique.{tree_one}
use Rattle.runs.proofs.Counts.{acts_count, line_visits}

abbrev kept_nothing : Option Env → Option Store
kept_nothing o = bind o (λ v. some (record { kept = []; env = v }))

-- the machine on the events of a tree: it rejects where the tree's evaluation does, and otherwise comes to the same
run_tree : (s : Sheet) → Passed s → (t : Element (grammar s) s.start_nonterminal) → element_depth t ≤ most →
    answered (run s fresh_configuration (yield t)) ≡ acted after (kept_nothing (eval t s fresh))
run_tree s ok t d =
    run_moves s (complete (grammar s) s.start_nonterminal most (no_T_lem (grammar s) ok.keeps_T) (no_S_lem (grammar s) ok.keeps_S) t d) fresh_store
    ∙ ap (acted after) (line_eval t s [] fresh)

-- on the events of a tree whose evaluation rejects the machine stops with 25
pub rejected : (s : Sheet) → Passed s → (t : Element (grammar s) s.start_nonterminal) → element_depth t ≤ most → eval t s fresh ≡ none →
    (z : Configuration) × (left : List Event) × (run s fresh_configuration (yield t) ≡ stopped 25 z left)
rejected s ok t d e = run_stops (run s fresh_configuration (yield t)) 25 (run_tree s ok t d ∙ ap (λ (o : Option Env). acted after (kept_nothing o)) e)

from_tree : (s : Sheet) → Passed s → (xs : List Event) (v : Env) → ParsedTo s xs v → run s fresh_configuration xs ≡ finished (closed_with v)
from_tree s ok xs v p =
    run_through (run s fresh_configuration xs) (closed_with v)
    (ap (λ (ys : List Event). answered (run s fresh_configuration ys)) (sym p.are_events) ∙ run_tree s ok p.root p.fits
    ∙ ap (λ (o : Option Env). acted after (kept_nothing o)) p.value)

kept_inv : (o : Option Env) (m : Store) → kept_nothing o ≡ some m → (v : Env) × (o ≡ some v) × (m ≡ record { kept = []; env = v })
kept_inv none m e = absurd (let z : ◌≡◌ {A = ℕ} 0 1 = cc in omega arith)
kept_inv (some v) m e = (v, refl, (cc))

-- a run that ends with the root closed has a tree. This needs neither rule
pub to_tree : (s : Sheet) (xs : List Event) (z : Configuration) → run s fresh_configuration xs ≡ finished z → z.control ≡ after →
    (v : Env) × ParsedTo s xs v × (z ≡ closed_with v)
to_tree s xs z e c =
    let t = moves_run s before fresh_store xs z e in
    let o = sound (grammar s) s.start_nonterminal most (omega arith) xs t.row
    (subst (λ (y : Control). Moves (grammar s) s.start_nonterminal most before xs t.row y) c t.moved) in
    let a : kept_nothing (eval o.root s fresh) ≡ some z.store =
    sym (line_eval o.root s [] fresh) ∙ ap (λ (y : List Act). acts s y fresh_store) o.are_acts ∙ t.done in
    let k = kept_inv (eval o.root s fresh) z.store a in
    let kc : z.store ≡ record { kept = []; env = k.0 } = k.2 in
    (k.0, record { root = o.root; are_events = o.are_events; fits = o.fits; value = k.1 }, λ i. record { control = c i; store = kc i })

env_of : (v v' : Env) → closed_with v ≡ closed_with v' → v ≡ v'
env_of v v' e = ap (λ (z : Configuration). z.store.env) e

-- demand 2
pub taken_iff : (s : Sheet) → Passed s → (xs : List Event) (v : Env) → (run s fresh_configuration xs ≡ finished (closed_with v)) ↔ ParsedTo s xs v
taken_iff s ok xs v =
    ((λ e. let t = to_tree s xs (closed_with v) e refl in subst (ParsedTo s xs) (sym (env_of v t.0 t.2)) t.1), from_tree s ok xs v)

-- the tree of a stream is one, and so is what it comes to
pub parsed_one : (s : Sheet) → Passed s → (xs : List Event) (v v' : Env) (p : ParsedTo s xs v) (p' : ParsedTo s xs v') → (p.root ≡ p'.root) × (v ≡ v')
parsed_one s ok xs v v' p p' =
    let t : p.root ≡ p'.root =
    tree_one (grammar s) s.start_nonterminal (no_T_lem (grammar s) ok.keeps_T) (no_S_lem (grammar s) ok.keeps_S) p.root p'.root (p.are_events ∙ sym p'.are_events) in
    let a : some v ≡ some v' = sym p.value ∙ ap (λ (y : Element (grammar s) s.start_nonterminal). eval y s fresh) t ∙ p'.value in
    (t, (cc))

-- the count of a stream that is taken is twice the number of nodes of its tree
pub parsed_count : (s : Sheet) (xs : List Event) (v : Env) (p : ParsedTo s xs v) → v.count ≡ 2 * size p.root
parsed_count s xs v p =
    let a : acts s (line p.root) fresh_store ≡ some (record { kept = []; env = v }) = line_eval p.root s [] fresh ∙ ap kept_nothing p.value in
    let h = acts_count s (line p.root) fresh_store (record { kept = []; env = v }) a in
    let i = line_visits p.root in
    omega arith

-- and after any events the number of visits among the acts that they ask for
pub reached_count : (s : Sheet) (xs : List Event) (m : Store) (r : Reached s xs m) → m.env.count ≡ visits_in r.row
reached_count s xs m r = let h = acts_count s r.row fresh_store m r.value in omega arith
