-- Well-formed bytes are a sheet, and one sheet only; and what its grammar is. Things that are numbered in order are built, and are one list, where each is there and is one.
-- Assumes nothing.
use mathlib.Core.Path.{◌≡◌, refl, sym, ap, subst, ◌∙◌}
use mathlib.Core.List.{List, [], ◌∷◌, ◌++◌}
use Prim.Native.Nat.{ℕ, zero, suc, ◌+◌, ◌-◌, ◌≤◌, ◌<◌}
use native.Mathlib.Omega.{arith}
use lib.ListN.{length, take, replicate}
use lib.Seq.{take_at}
use Rattle.expressions.specs.Grammar.{Production, Small, nodes_in}
use Rattle.programs.specs.Program.{Program}
use Rattle.programs.specs.Limits.{first, second}
use Rattle.programs.proofs.Sections.{one_filling, one_field}
use Rattle.layout.specs.Layout.{tag_count, production_count, programs_in, strings_in, start}
use Rattle.layout.specs.Records.{nonterminal_of, tag_number_of, first_node_of, node_count_of, first_program_of, second_program_of, first_program_of_node, second_program_of_node}
use Rattle.trees.specs.GrammarAt.{GrammarFrom, GrammarIs}
use Rattle.trees.proofs.Unique.{one_production}
use Rattle.trees.proofs.Grammars.{length_grammar, small_grammar, nodes_of_grammar}
use Rattle.sheet.specs.Tags.{TagAt}
use Rattle.sheet.specs.Fields.{Visits, FieldsAre}
use Rattle.sheet.specs.Defect.{WellFormed}
use Rattle.sheet.specs.Sheet.{Rule, Sheet, grammar_of, From, NodeIs, RuleAt, IsSheet}
use Rattle.sheet.proofs.DefectLaws.{runs_inside}

module _ {A : Type 0} (P : ℕ → A → Type 0) where
  pub from_counted : (i k : ℕ) (xs : List A) → From P i k xs → i + length xs ≡ k
  from_counted i k [] h = omega arith
  from_counted i k (x ∷ xs) h = omega (arith, from_counted (suc i) k xs h.1)

  pub from_there : (n i k : ℕ) → i + n ≡ k → ((j : ℕ) → i ≤ j → j < k → (x : A) × P j x) → (xs : List A) × From P i k xs
  from_there zero i k e h = ([], omega arith)
  from_there (suc n) i k e h =
      let x = h i (omega arith) (omega arith) in
      let r = from_there n (suc i) k (omega arith) (λ j lo hi. h j (omega arith) hi) in
      (x.0 ∷ r.0, (x.1, r.1))

  pub one_from : ((j : ℕ) (x y : A) → P j x → P j y → x ≡ y) → (i k : ℕ) (xs ys : List A) → From P i k xs → From P i k ys → xs ≡ ys
  one_from one i k [] [] h g = refl
  one_from one i k [] (y ∷ ys) h g = absurd (omega (arith, from_counted (suc i) k ys g.1))
  one_from one i k (x ∷ xs) [] h g = absurd (omega (arith, from_counted (suc i) k xs h.1))
  one_from one i k (x ∷ xs) (y ∷ ys) h g =
      let e = one i x y h.0 g.0 in
      let r = one_from one (suc i) k xs ys h.1 g.1 in
      cc

-- a tag has one name
pub one_name : (s : List ℕ) (t : ℕ) (n m : List ℕ) → TagAt s t n → TagAt s t m → n ≡ m
one_name s t n m a b =
    let fill : List ℕ = replicate (15 - length n) 0 in
    let fill' : List ℕ = replicate (15 - length m) 0 in
    let e : ◌≡◌ {A = List ℕ} (length n ∷ (n ++ fill)) (length m ∷ (m ++ fill')) = sym a.spelled ∙ b.spelled in
    let l : length n ≡ length m = cc in
    let r : n ++ fill ≡ m ++ fill' = cc in
    sym (take_at n fill (length n) refl) ∙ ap (take (length n)) r ∙ take_at m fill' (length n) (sym l)

-- fields say one thing
visits_by : {v w : Visits} → v.first_visit ≡ w.first_visit → v.second_visit ≡ w.second_visit → v ≡ w
visits_by {v} {w} x y = let z : record { first_visit = v.first_visit; second_visit = v.second_visit } ≡ w = rw (x, y) refl in z

one_visits : (ps : List Program) (one two : ℕ) (v w : Visits) → FieldsAre ps one two v → FieldsAre ps one two w → v ≡ w
one_visits ps one two v w a b =
    visits_by (one_field ps first one v.first_visit w.first_visit a.first_is b.first_is)
    (one_field ps second two v.second_visit w.second_visit a.second_is b.second_is)

rule_by : {r q : Rule} → r.production ≡ q.production → r.own ≡ q.own → r.of_nodes ≡ q.of_nodes → r ≡ q
rule_by {r} {q} x y z = let w : record { production = r.production; own = r.own; of_nodes = r.of_nodes } ≡ q = rw (x, y, z) refl in w

pub one_rule : (s : List ℕ) (ps : List Program) (q : ℕ) (r t : Rule) → RuleAt s ps q r → RuleAt s ps q t → r ≡ t
one_rule s ps q r t a b =
    rule_by (one_production s q r.production t.production a.production_is b.production_is)
    (one_visits ps (first_program_of s q) (second_program_of s q) r.own t.own a.own_are b.own_are)
    (one_from (NodeIs s ps) (λ j. one_visits ps (first_program_of_node s j) (second_program_of_node s j)) (first_node_of s q) (first_node_of s q + node_count_of s q) r.of_nodes t.of_nodes
    a.nodes_are b.nodes_are)

pub sheet_by : {a b : Sheet} → a.names ≡ b.names → a.rules ≡ b.rules → a.strings ≡ b.strings → a.start_nonterminal ≡ b.start_nonterminal → a ≡ b
sheet_by {a} {b} x y z u =
    let w : record { names = a.names; rules = a.rules; strings = a.strings; start_nonterminal = a.start_nonterminal } ≡ b = rw (x, y, z, u) refl in
    w

pub one_sheet : {s : List ℕ} {a b : Sheet} → IsSheet s a → IsSheet s b → a ≡ b
one_sheet {s} {a} {b} h g =
    let ps = h.well_formed_lem.programs.programs in
    let qs = g.well_formed_lem.programs.programs in
    let e : qs ≡ ps = one_filling (tag_count s) (strings_in s) (programs_in s) qs ps g.well_formed_lem.programs.fill h.well_formed_lem.programs.fill in
    let rules : From (RuleAt s ps) 0 (production_count s) b.rules =
    subst (λ (z : List Program). From (RuleAt s z) 0 (production_count s) b.rules) e g.rules_are in
    sheet_by (one_from (TagAt s) (one_name s) 0 (tag_count s) a.names b.names h.names_are g.names_are)
    (one_from (RuleAt s ps) (one_rule s ps) 0 (production_count s) a.rules b.rules h.rules_are rules)
    (h.strings_are ∙ sym g.strings_are) (h.start_is ∙ sym g.start_is)

module _ {s : List ℕ} (w : WellFormed s) where
  rule_there : (q : ℕ) → q < production_count s → (r : Rule) × RuleAt s w.programs.programs q r
  rule_there q h =
      let e = w.trees.each q h in
      let v = w.programs.of_productions q h in
      let inside = (runs_inside s w.productions).inside q h in
      let ns = from_there (NodeIs s w.programs.programs) (node_count_of s q) (first_node_of s q) (first_node_of s q + node_count_of s q) refl (λ j lo hi. w.programs.of_nodes j (omega (arith, hi, inside))) in (
        record { production = record { nonterm = nonterminal_of s q; tagno = tag_number_of s q; content = e.0 }; own = v.0; of_nodes = ns.0 },
        record { production_is = record { nonterminal_is = refl; tag_is = refl; content_is = e.1 }; own_are = v.1; nodes_are = ns.1 },
      )

  pub is_sheet : (a : Sheet) × IsSheet s a
  is_sheet =
      let names = from_there (TagAt s) (tag_count s) 0 (tag_count s) (omega arith) (λ t lo hi. w.tags.named t hi) in
      let rules = from_there (RuleAt s w.programs.programs) (production_count s) 0 (production_count s) (omega arith) (λ q lo hi. rule_there q hi) in (
        record { names = names.0; rules = rules.0; strings = strings_in s; start_nonterminal = start s },
        record { well_formed_lem = w; names_are = names.1; rules_are = rules.1; strings_are = refl; start_is = refl },
      )

  -- the limits of its grammar
  pub few_productions : (g : List Production) → GrammarIs s g → length g ≤ 64
  few_productions g h = omega (arith, length_grammar s g h, w.sections.few_productions)

  pub numbered_productions : (g : List Production) → GrammarIs s g → Small (tag_count s) g
  numbered_productions g h = small_grammar s (λ q b. (w.productions.each q b).nonterminal) (λ q b. (w.productions.each q b).tag) w.sections g h

  pub few_nodes : (g : List Production) → GrammarIs s g → nodes_in g ≤ 256
  few_nodes g h = omega (arith, nodes_of_grammar s g h, w.productions.every_node, w.sections.few_nodes)

-- the grammar of a sheet is that of its bytes
pub grammar_from : (s : List ℕ) (ps : List Program) (q : ℕ) (rs : List Rule) → From (RuleAt s ps) q (production_count s) rs → GrammarFrom s q (grammar_of rs)
grammar_from s ps q [] h = h
grammar_from s ps q (r ∷ rs) h = (h.0.production_is, grammar_from s ps (suc q) rs h.1)

pub sheet_grammar : {s : List ℕ} {a : Sheet} → IsSheet s a → GrammarIs s (grammar_of a.rules)
sheet_grammar {s} {a} h = grammar_from s h.well_formed_lem.programs.programs 0 a.rules h.rules_are
