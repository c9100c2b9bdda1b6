-- The field of a visit: production q's record is that of its rule, and the record of its node i, the (i - 1)th from its first node on, that of the
-- rule's node i; past its last node a rule has no programs. By induction along the sheet's rules and along a rule's nodes.
-- Assumes nothing.
use mathlib.Core.Path.{◌≡◌, refl, sym, ap, ◌∙◌, subst}
use mathlib.Core.Bool.{Bool, true, false}
use mathlib.Core.List.{List, [], ◌∷◌}
use Prim.Native.Nat.{ℕ, zero, suc, ◌+◌, ◌-◌, ◌≤◌, ◌<◌}
use native.Mathlib.Omega.{arith}
use Rattle.programs.specs.Program.{Program}
use Rattle.programs.specs.Section.{FieldIs, no_program}
use Rattle.layout.specs.Layout.{production_count, node_count}
use Rattle.layout.specs.Records.{first_node_of, node_count_of, first_program_of, second_program_of, first_program_of_node, second_program_of_node}
use Rattle.layout.specs.LaidOut.{LaidOut}
use Rattle.layout.specs.declared.Layout.{Layout}
use Rattle.sheet.specs.Fields.{Visits, FieldsAre}
use Rattle.sheet.specs.Defect.{WellFormed}
use Rattle.sheet.proofs.DefectLaws.{runs_inside}
use Rattle.sheet.specs.Sheet.{Rule, Sheet, grammar_of, From, NodeIs, RuleAt, IsSheet}
use Rattle.runs.specs.Lookup.{tag_of}
use Rattle.runs.specs.Visits.{no_programs_lem, of_node, of_rule, programs_of}
use Rattle.acts.specs.Visited.{visit_of, program_for, FieldFound}

-- a node's programs, along the nodes of a rule
node_of : (s : List ℕ) (ps : List Program) (i k : ℕ) (vs : List Visits) → From (NodeIs s ps) i k vs → (j : ℕ) → i + j < k → NodeIs s ps (i + j) (of_node vs j)
node_of s ps i k [] f j h = absurd (omega (arith, f))
node_of s ps i k (v ∷ vs) f zero h = subst (λ (n : ℕ). NodeIs s ps n v) (omega arith) f.0
node_of s ps i k (v ∷ vs) f (suc j) h = subst (λ (n : ℕ). NodeIs s ps n (of_node vs j)) (omega arith) (node_of s ps (suc i) k vs f.1 j (omega arith))

from_low : (s : List ℕ) (ps : List Program) (i k : ℕ) (vs : List Visits) → From (NodeIs s ps) i k vs → i ≤ k
from_low s ps i k [] f = omega (arith, f)
from_low s ps i k (v ∷ vs) f = omega (arith, from_low s ps (suc i) k vs f.1)

no_node : (s : List ℕ) (ps : List Program) (i k : ℕ) (vs : List Visits) → From (NodeIs s ps) i k vs → (j : ℕ) → k ≤ i + j → of_node vs j ≡ no_programs_lem
no_node s ps i k [] f j h = refl
no_node s ps i k (v ∷ vs) f zero h = absurd (omega (arith, from_low s ps (suc i) k vs f.1))
no_node s ps i k (v ∷ vs) f (suc j) h = no_node s ps (suc i) k vs f.1 j (omega arith)

-- the rule of production i + q, along the rules from production i on
pub record RuleOf (s : List ℕ) (ps : List Program) (rs : List Rule) (n q : ℕ) : Type 0 where
  pub rule : Rule
  pub at : RuleAt s ps n rule
  pub programs_are : (i : ℕ) → programs_of rs q i ≡ of_rule rule i
  pub tag_is : tag_of (grammar_of rs) q ≡ rule.production.tagno

rule_from : (s : List ℕ) (ps : List Program) (i k : ℕ) (rs : List Rule) → From (RuleAt s ps) i k rs → (q : ℕ) → i + q < k → RuleOf s ps rs (i + q) q
rule_from s ps i k [] f q h = absurd (omega (arith, f))
rule_from s ps i k (r ∷ rs) f zero h = record { rule = r; at = subst (λ (n : ℕ). RuleAt s ps n r) (omega arith) f.0; programs_are = λ j. refl; tag_is = refl }
rule_from s ps i k (r ∷ rs) f (suc q) h =
    let u = rule_from s ps (suc i) k rs f.1 q (omega arith) in
    record { rule = u.rule; at = subst (λ (n : ℕ). RuleAt s ps n u.rule) (omega arith) u.at; programs_are = u.programs_are; tag_is = u.tag_is }

field_for : (ps : List Program) (one two : ℕ) (v : Visits) → FieldsAre ps one two v → (again : Bool) (r : ℕ) → (again ≡ false → r ≡ one) → (again ≡ true → r ≡ two) → FieldIs ps (visit_of again) r (program_for again v)
field_for ps one two v F false r e f = subst (λ (n : ℕ). FieldIs ps (visit_of false) n v.first_visit) (sym (e refl)) F.first_is
field_for ps one two v F true r e f = subst (λ (n : ℕ). FieldIs ps (visit_of true) n v.second_visit) (sym (f refl)) F.second_is

none_for : (ps : List Program) (again : Bool) (v : Visits) → v ≡ no_programs_lem → FieldIs ps (visit_of again) 65535 (program_for again v)
none_for ps false v e = rw e (no_program refl)
none_for ps true v e = rw e (no_program refl)

abbrev pub field_of : List ℕ → ℕ → Bool → ℕ
field_of s q false = first_program_of s q
field_of s q true = second_program_of s q

abbrev pub field_of_node : List ℕ → ℕ → Bool → ℕ
field_of_node s i false = first_program_of_node s i
field_of_node s i true = second_program_of_node s i

module _ (s : List ℕ) (l : Layout) (L : LaidOut s l) (q : ℕ) (h : q < l.productions) where
  pub rule_of : (a : Sheet) (y : IsSheet s a) → RuleOf s y.well_formed_lem.programs.programs a.rules q q
  rule_of a y =
      let ps = y.well_formed_lem.programs.programs in
      let same : 0 + q ≡ q = omega arith in
      subst (λ (n : ℕ). RuleOf s ps a.rules n q) same
      (rule_from s ps 0 (production_count s) a.rules y.rules_are q (omega (arith, L.layout_is.productions_is.is)))

  -- a node that the production has is one of the sheet's
  pub node_inside : WellFormed s → (i : ℕ) → (i ≡ 0 → ⊥) → (k : ℕ) → k ≡ node_count_of s q → i ≤ k → (n : ℕ) → n ≡ first_node_of s q → n + (i - 1) < l.nodes
  node_inside w zero e k m few n f = absurd (e refl)
  node_inside w (suc i) e k m few n f =
      let u : first_node_of s q + node_count_of s q ≤ node_count s = (runs_inside s w.productions).inside q (omega (arith, L.layout_is.productions_is.is)) in
      let v = L.layout_is.nodes_is.is in
      omega (arith, u, v, m, f)

  module _ (again b : Bool) (same : again ≡ b) where
    -- the production's own
    pub own_found : (i : ℕ) → i ≡ 0 → (r : ℕ) → r ≡ field_of s q b → FieldFound s q i again r
    own_found i e r f = record { is = go }
      where
        go : (a : Sheet) (y : IsSheet s a) → FieldIs y.well_formed_lem.programs.programs (visit_of again) r (program_for again (programs_of a.rules q i))
        go a y =
            let u = rule_of a y in
            let ps = y.well_formed_lem.programs.programs in
            rw (e, u.programs_are 0)
            (field_for ps (first_program_of s q) (second_program_of s q) u.rule.own u.at.own_are again r (λ z. f ∙ ap (field_of s q) (sym same ∙ z)) (λ z. f ∙ ap (field_of s q) (sym same ∙ z)))

    -- node i's
    pub node_found : (i : ℕ) → (i ≡ 0 → ⊥) → i ≤ node_count_of s q → (n : ℕ) → n ≡ first_node_of s q + (i - 1) → (r : ℕ) → r ≡ field_of_node s n b → FieldFound s q i again r
    node_found zero e few n m r f = absurd (e refl)
    node_found (suc i) e few n m r f = record { is = go }
      where
        there : n ≡ first_node_of s q + i
        there = omega arith

        go : (a : Sheet) (y : IsSheet s a) → FieldIs y.well_formed_lem.programs.programs (visit_of again) r (program_for again (programs_of a.rules q (suc i)))
        go a y =
            let u = rule_of a y in
            let ps = y.well_formed_lem.programs.programs in
            let N = node_of s ps (first_node_of s q) (first_node_of s q + node_count_of s q) u.rule.of_nodes u.at.nodes_are i (omega arith) in
            let f' : r ≡ field_of_node s (first_node_of s q + i) b = f ∙ ap (λ (k : ℕ). field_of_node s k b) there in
            rw (u.programs_are (suc i))
            (field_for ps (first_program_of_node s (first_node_of s q + i)) (second_program_of_node s (first_node_of s q + i)) (of_node u.rule.of_nodes i) N again r (λ z. f' ∙ ap (field_of_node s (first_node_of s q + i)) (sym same ∙ z)) (λ z. f' ∙ ap (field_of_node s (first_node_of s q + i)) (sym same ∙ z)))

  -- past its last node
  pub none_found : (again : Bool) (i : ℕ) → (i ≡ 0 → ⊥) → node_count_of s q < i → FieldFound s q i again 65535
  none_found again zero e far = absurd (e refl)
  none_found again (suc i) e far = record { is = go }
    where
      go : (a : Sheet) (y : IsSheet s a) → FieldIs y.well_formed_lem.programs.programs (visit_of again) 65535 (program_for again (programs_of a.rules q (suc i)))
      go a y =
          let u = rule_of a y in
          let ps = y.well_formed_lem.programs.programs in
          none_for ps again (programs_of a.rules q (suc i)) (u.programs_are (suc i) ∙ no_node s ps (first_node_of s q) (first_node_of s q + node_count_of s q) u.rule.of_nodes u.at.nodes_are i (omega arith))
