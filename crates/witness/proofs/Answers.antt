-- From the first two strings of the sheet's grammar to what is answered.
-- Assumes nothing.
use mathlib.Core.Path.{◌≡◌, refl, sym, ◌∙◌, ap, subst}
use mathlib.Core.List.{List}
use Prim.Native.Nat.{ℕ, ◌≤◌, ◌<◌}
use native.Mathlib.Omega.{arith}
use Rattle.expressions.specs.Expr.{Content}
use Rattle.expressions.specs.Words.{Bracket}
use Rattle.expressions.specs.Grammar.{Production, Nth, tags_of, Next}
use Rattle.expressions.specs.Fault.{Fault}
use Rattle.layout.specs.Layout.{production_count}
use Rattle.parting.specs.Parting.{PartAt}
use Rattle.parting.specs.Firsts.{Firsts, no_string, one_string, two_strings, firsts}
use Rattle.parting.specs.Laws.{FaultBy, TellsFault}
use Rattle.parting.proofs.Parting.{part_at_one_sign}
use Rattle.parting.proofs.Faults.{firsts_tell_faults}
use Rattle.sheet.specs.Sheet.{Sheet, grammar_of, IsSheet}
use Rattle.sheet.proofs.SheetLaws.{sheet_grammar}
use Rattle.trees.specs.declared.Symbol.{Symbol}
use Rattle.trees.specs.Symbol.{next_of}
use Rattle.trees.proofs.Grammars.{nth_there, nth_below}
use Rattle.witness.specs.declared.Row.{Row}
use Rattle.witness.specs.declared.Pair.{Pair}
use Rattle.witness.specs.declared.Reason.{Reason}
use Rattle.witness.specs.Held.{StringIn, AreHeld}
use Rattle.witness.specs.Walks.{FirstsAre}
use Rattle.witness.specs.Answers.{SignBetween, NoWitness, WitnessAs, no_fault, a_fault}

-- fewer than two strings are no fault
few_no_fault : (tags : ℕ → List ℕ) (e : Content) (p : ℕ) (x : Next) (r : Pair) (f : Firsts) → AreHeld f r → r.count < 2 → TellsFault tags e p x f → Fault tags e p x → ⊥
few_no_fault tags e p x r no_string h z t = t
few_no_fault tags e p x r (one_string α) h z t = t
few_no_fault tags e p x r (two_strings α β) h z t = absurd (omega (arith, z, h.0))

-- a fault's strings part at the sign that is told
parts : (tags : ℕ → List ℕ) (e : Content) (p : ℕ) (x : Next) (α β : List Bracket) → FaultBy tags e p x α β → (n : ℕ) × PartAt e n α β
parts tags e p x α β f =
    let g = f.fault in
    subst (λ (z : List Bracket). (n : ℕ) × PartAt e n z β) f.first_is
    (subst (λ (z : List Bracket). (n : ℕ) × PartAt e n g.first_string z) f.second_is
    (part_at_one_sign tags e p g.agreed g.agreed g.up_to g.up_to x x g.first_string g.second_string g.first_goes g.second_goes g.different))

module _ {s : List ℕ} {a : Sheet} (i : IsSheet s a) (q p : ℕ) (x : Symbol) where
  abbrev g : List Production
  g = grammar_of a.rules

  pub no_production : production_count s ≤ q → (r : Reason) → NoWitness 0 r → WitnessAs s q p x r
  no_production z r w = no_fault a i (λ d m _. let b = nth_below s g (sheet_grammar i) q d m in omega (arith, z, b)) w

  module _ (f : Pair) (h : FirstsAre s q p x f) where
    pub too_few : f.count < 2 → (r : Reason) → NoWitness 0 r → WitnessAs s q p x r
    too_few z r w =
        no_fault a i
        (λ d m. few_no_fault (tags_of g) d.content p (next_of x) f (firsts (tags_of g) d.content p (next_of x)) (h.is g (sheet_grammar i) d m) z
        (firsts_tell_faults (tags_of g) d.content p (next_of x))) w

    module _ (r : Reason) (number_is : r.number ≡ 9) (first_is : r.first ≡ f.first) (second_is : r.second ≡ f.second) (sign : SignBetween f.first f.second r.sign)
        (enough : 2 ≤ f.count) (d : Production) (m : Nth g q d) where
      by_strings : (o : Firsts) → firsts (tags_of g) d.content p (next_of x) ≡ o → AreHeld o f → TellsFault (tags_of g) d.content p (next_of x) o → WitnessAs s q p x r
      by_strings no_string e k t = absurd (omega (arith, enough, k))
      by_strings (one_string α) e k t = absurd (omega (arith, enough, k.0))
      by_strings (two_strings α β) e k t =
          let n = parts (tags_of g) d.content p (next_of x) α β t in
          let same : r.sign ≡ n.0 = sign.is d.content n.0 α β k.1 k.2 n.1 in
          a_fault a i d m α β e t number_is
          (subst (λ (z : Row). StringIn α z) (sym first_is) k.1) (subst (λ (z : Row). StringIn β z) (sym second_is) k.2)
          (subst (λ (z : ℕ). PartAt d.content z α β) (sym same) n.1)

      by_fault : WitnessAs s q p x r
      by_fault = by_strings (firsts (tags_of g) d.content p (next_of x)) refl (h.is g (sheet_grammar i) d m) (firsts_tell_faults (tags_of g) d.content p (next_of x))

    pub two_found : (r : Reason) → r.number ≡ 9 → r.first ≡ f.first → r.second ≡ f.second → SignBetween f.first f.second r.sign → 2 ≤ f.count →
        q < production_count s → WitnessAs s q p x r
    two_found r n u v sign enough below =
        let t = nth_there s g (sheet_grammar i) q below in
        by_fault r n u v sign enough t.0 t.1
