-- Every fault is marked at its sign. Assumes nothing.
use mathlib.Core.Path.{◌≡◌, refl, sym, ◌∙◌, ap, subst}
use mathlib.Core.List.{List, [], ◌∷◌}
use mathlib.Core.Option.{Option, none, some}
use Prim.Native.Nat.{ℕ, zero, suc, ◌≤◌}
use native.Mathlib.Omega.{arith}
use Rattle.expressions.specs.Expr.{Exp, Content, nothing, tree}
use Rattle.expressions.specs.Words.{Bracket}
use Rattle.expressions.specs.Grammar.{Production, Nth}
use Rattle.parting.specs.Parting.{Node, PartingSign, round_or_end, end_or_round, left_or_right, right_or_left, PartingSignOf, PartAt}
use Rattle.notation.specs.Rules.{Tree, expression, content_inside, TextRule, Rules}
use Rattle.notation.specs.RuleText.{RuleText}
use Rattle.encoding.specs.Encoded.{Room, rule_of, rules_of, sheet_of}
use Rattle.packing.specs.Packed.{sheet_bytes}
use Rattle.packing.proofs.Packing.{is_its_sheet}
use Rattle.sheet.specs.Defect.{DefectIs, well_formed_lem, its_size, its_sections, a_tag, a_production, a_tree, a_program, not_grounded}
use Rattle.sheet.specs.Sheet.{Sheet, grammar_of, IsSheet}
use Rattle.sheet.proofs.SheetLaws.{one_sheet}
use Rattle.trees.specs.declared.Symbol.{Symbol}
use Rattle.witness.specs.declared.Reason.{Reason}
use Rattle.witness.specs.Answers.{WitnessAs, malformed, no_fault, a_fault}
use Rattle.posts.specs.declared.Wanted.{Wanted}
use Rattle.posts.specs.declared.Halt.{Halt}
use Rattle.posts.specs.Found.{HaltIs}
use Rattle.posts.specs.Promises.{Kth}
use Rattle.signs.specs.Order.{rank, PostIs}
use Rattle.signs.proofs.Stands.{sign_stands}
use Rattle.marked.specs.Marked.{Parts, at_star, at_union, MarkedAt, FaultsMarked}

-- there is no defect past 7
seven : {s : List ℕ} {n : ℕ} → DefectIs s n → n ≤ 7
seven (well_formed_lem w) = omega arith
seven (its_size a) = omega arith
seven (its_sections a b) = omega arith
seven (a_tag a b c) = omega arith
seven (a_production a b c d) = omega arith
seven (a_tree a b c d e) = omega arith
seven (a_program a b c d e f) = omega arith
seven (not_grounded a b c d e f g) = omega arith

-- the rule of the text that a production of its sheet is
record Typed (v : Rules) (ds : List TextRule) (q : ℕ) (d : Production) : Type 0 where
  rule : TextRule
  is_rule : Kth ds q rule
  content_is : d.content ≡ content_inside rule.inside

typed : (v : Rules) (ds : List TextRule) (q : ℕ) (d : Production) → Nth (grammar_of (rules_of v ds)) q d → Typed v ds q d
typed v [] q d m = absurd m
typed v (r ∷ ds) zero d m = record { rule = r; is_rule = refl; content_is = ap (λ (z : Production). z.content) m }
typed v (r ∷ ds) (suc q) d m = let t = typed v ds q d m in record { rule = t.rule; is_rule = t.is_rule; content_is = t.content_is }

-- the node of the sign
record Signed (e : Exp) (n : ℕ) : Type 0 where
  node : Exp
  is_node : Node e 1 n node
  parts : Parts node

signed : {e : Exp} {n : ℕ} {b c : Bracket} → PartingSign e 1 n b c → Signed e n
signed (round_or_end {f = f} h) = record { node = Exp.star f; is_node = h; parts = at_star }
signed (end_or_round {f = f} h) = record { node = Exp.star f; is_node = h; parts = at_star }
signed (left_or_right {l = l} {r = r} h) = record { node = Exp.alt l r; is_node = h; parts = at_union }
signed (right_or_left {l = l} {r = r} h) = record { node = Exp.alt l r; is_node = h; parts = at_union }

module _ (text : List ℕ) (v : Rules) (h : RuleText text v) (q n k : ℕ) (r : Halt) (halt : HaltIs text (Wanted.Post (suc q) k) r) (rule : TextRule) (is_rule : Kth v.productions q rule) where
  marked_in : (o : Option Tree) → rule.inside ≡ o → (b c : Bracket) → PartingSignOf (content_inside o) n b c → ((e : Exp) → content_inside o ≡ tree e → k ≡ suc (rank e 1 n)) → MarkedAt text v q n r
  marked_in none i b c s f = absurd s
  marked_in (some t) i b c s f =
      let z = signed s in
      record {
        rule = rule;
        is_rule = is_rule;
        tree = t;
        is_tree = i;
        node = z.node;
        is_node = z.is_node;
        parts = z.parts;
        own = sign_stands text v h q rule is_rule t i n z.node z.is_node r (subst (λ (j : ℕ). HaltIs text (Wanted.Post (suc q) j) r) (f (expression t) refl) halt);
      }

pub faults_marked : FaultsMarked
faults_marked text v h room q p x w wit nine k post r halt = on wit
  where
    on : WitnessAs (sheet_bytes v) q p x w → MarkedAt text v q w.sign r
    on (malformed one d w') = absurd (omega (arith, seven d, w'.number_is, nine))
    on (no_fault a i f w') = absurd (omega (arith, w'.number_is, nine))
    on (a_fault a i d m α β fs by num s t part) =
        let same : a ≡ sheet_of v = one_sheet i (is_its_sheet text v h room i.well_formed_lem.grounded) in
        let y = typed v v.productions q d (subst (λ (z : Sheet). Nth (grammar_of z.rules) q d) same m) in
        marked_in text v h q w.sign k r halt y.rule y.is_rule y.rule.inside refl part.first_next part.second_next
        (subst (λ (c : Content). PartingSignOf c w.sign part.first_next part.second_next) y.content_is part.sign)
        (λ e c. post.is a i d m e (y.content_is ∙ c))
