-- The first two strings make a fault, and where there are not two there is none: they are as many as the count says.
-- Assumes nothing.
use mathlib.Core.Path.{◌≡◌, refl, sym, ◌∙◌}
use mathlib.Core.List.{List, ◌++◌}
use Prim.Native.Nat.{ℕ}
use native.Mathlib.Omega.{arith}
use Rattle.expressions.specs.Expr.{Content}
use Rattle.expressions.specs.Words.{Words}
use Rattle.expressions.specs.Grammar.{Next, tag, character, end}
use Rattle.expressions.specs.Count.{none, one, many}
use Rattle.expressions.specs.Fault.{GoesOn, Fault}
use Rattle.expressions.proofs.Strings.{Str, Text}
use Rattle.expressions.proofs.Rule.{Rest, Paths, begin, fault_many}
use Rattle.parting.specs.Firsts.{Firsts, no_string, one_string, two_strings, firsts}
use Rattle.parting.specs.Laws.{FaultBy, TellsFault, FirstsTellFaults}
use Rattle.parting.proofs.Listed.{Listed, listed_firsts}
use Rattle.parting.proofs.Tallied.{tally, tally_firsts}

none_many : none ≡ many → ⊥
none_many e = let z : ◌≡◌ {A = ℕ} 0 1 = cc in omega arith

one_many : one ≡ many → ⊥
one_many e = let z : ◌≡◌ {A = ℕ} 0 1 = cc in omega arith

module _ (tags : ℕ → List ℕ) (e : Content) (p : ℕ) where
  going : (u : Text) → ((w : Text) → Rest e p w → Words e (u ++ w)) → (x : Next) (α : Str) → Paths tags (Rest e p) x α → GoesOn tags e u x α
  going u f (tag t) α g = (g.0, g.1, g.2, g.3, f _ g.4)
  going u f character α g = (g.0, g.1, g.2, g.3, f _ g.4)
  going u f end α g = f _ g

  rest_text : (x : Next) (α : Str) → Paths tags (Rest e p) x α → (w : Text) × Rest e p w
  rest_text (tag t) α g = (_, g.4)
  rest_text character α g = (_, g.4)
  rest_text end α g = (_, g)

  tells : (x : Next) (f : Firsts) → firsts tags e p x ≡ f → Listed (Paths tags (Rest e p) x) f → TellsFault tags e p x f
  tells x no_string q l = λ h. none_many (let c = tally_firsts tags e p x in let m = fault_many tags e p x h in cc)
  tells x (one_string α) q l = λ h. one_many (let c = tally_firsts tags e p x in let m = fault_many tags e p x h in cc)
  tells x (two_strings α β) q l =
      let w = rest_text x α l.0 in
      let b = begin e p w.0 w.1 in
      record {
        fault =
            record {
              agreed = b.0;
              up_to = b.1;
              first_string = α;
              second_string = β;
              different = l.2;
              first_goes = going b.0 b.2 x α l.0;
              second_goes = going b.0 b.2 x β l.1;
            };
        first_is = refl;
        second_is = refl;
      }

pub firsts_tell_faults : FirstsTellFaults
firsts_tell_faults tags e p x = tells tags e p x (firsts tags e p x) refl (listed_firsts tags e p x)
