-- A program between braces: its own machine reads it up to the }, which no list of statements takes. Assumes nothing.
use mathlib.Core.Path.{◌≡◌, refl, sym, ◌∙◌, ap}
use mathlib.Core.Option.{Option, none, some}
use mathlib.Core.List.{List, [], ◌∷◌, ◌++◌, append-nil}
use Prim.Native.Nat.{ℕ}
use Rattle.programs.specs.Program.{Condition}
use Rattle.programs.specs.Limits.{Visit}
use Rattle.notation.specs.Program.{TextProgram}
use Rattle.notation.specs.Statements.{parentheses, ListIs}
use Rattle.notation.specs.Tokens.{TextToken, sign, UNBRACE}
use Rattle.reading.specs.Machine.{and_then, walk}
use Rattle.reading.specs.Conditions.{other, Reading, step_part, value_of_condition}
use Rattle.reading.specs.Statements.{ListLevel, nothing, Listing, wants, target, assigning, printing, testing, after, thenned, tested, list_start, step_statements, value_of_list}
use Rattle.reading.specs.Expressions.{ExpressionPart, piece_of, an_unbrace, unbraces, listing}
use Rattle.reading.proofs.Telling.{none≢some}
use Rattle.reading.proofs.StatementWalk.{ListEnd}
use Rattle.reading.proofs.Statements.{ends}

pub part_stops : (p : ℕ) (s : Reading) → step_part p s other ≡ none
part_stops p (Reading.wants l ls) = refl
part_stops p (Reading.compares x l ls) = refl
part_stops p (Reading.wants_other x l ls) = refl
part_stops p (Reading.after d o ls) = refl

pub then_stops : (o : Option Condition) (l : ListLevel) (ls : List ListLevel) → thenned o l ls nothing ≡ none
then_stops none l ls = refl
then_stops (some c) l ls = refl

pub list_stops : (v : Visit) (s : Listing) → step_statements v s (sign UNBRACE) ≡ none
list_stops v (wants w l ls) = refl
list_stops v (target a l ls) = refl
list_stops v (assigning a l ls) = refl
list_stops v (printing l ls) = refl
list_stops v (testing r l ls) = ap (λ q. tested q (value_of_condition r) l ls nothing) (part_stops parentheses r) ∙ then_stops (value_of_condition r) l ls
list_stops v (after b p l ls) = refl

-- inside a machine that holds a list, and goes on with what the list is behind the }
module _ {S : Type 0} (step : S → TextToken → Option S) (v : Visit) (holds : Listing → S) (ended : TextProgram → S)
    (is : (q : Listing) (t : TextToken) → step (holds q) t ≡ listing (step_statements v q t) holds (unbraces (piece_of t) (value_of_list q) ended)) where
  list_lift : (q r : Listing) (us rest : List TextToken) → walk (step_statements v) q us ≡ some r → walk step (holds q) (us ++ rest) ≡ walk step (holds r) rest
  list_lift q r [] rest e = let same : q ≡ r = cc in ap (λ x. walk step (holds x) rest) same
  list_lift q r (t ∷ us) rest e = on (λ x. list_lift x r us rest) (step_statements v q t) refl
    where
      on : ((x : Listing) → walk (step_statements v) x us ≡ some r → walk step (holds x) (us ++ rest) ≡ walk step (holds r) rest)
          → (o : Option Listing) → step_statements v q t ≡ o → walk step (holds q) (t ∷ (us ++ rest)) ≡ walk step (holds r) rest
      on ih none h = absurd (none≢some (ap (λ o. and_then o (λ x. walk (step_statements v) x us)) h) e)
      on ih (some x) h =
          ap (λ o. and_then o (λ s. walk step s (us ++ rest))) (is q t ∙ ap (λ o. listing o holds (unbraces (piece_of t) (value_of_list q) ended)) h)
          ∙ ih x (sym (ap (λ o. and_then o (λ y. walk (step_statements v) y us)) h) ∙ e)

  unbrace_step : (q : Listing) (p : TextProgram) → value_of_list q ≡ some p → step (holds q) (sign UNBRACE) ≡ some (ended p)
  unbrace_step q p e =
      is q (sign UNBRACE)
      ∙ ap (λ o. listing o holds (unbraces an_unbrace (value_of_list q) ended)) (list_stops v q)
      ∙ ap (λ o. unbraces an_unbrace o ended) e

  pub braces_walk : {ts : List TextToken} {p : TextProgram} → ListIs v ts p → (rest : List TextToken) → walk step (holds list_start) (ts ++ sign UNBRACE ∷ rest) ≡ walk step (ended p) rest
  braces_walk {ts} {p} h rest =
      let w = ends v ts p h in
      list_lift list_start w.last ts (sign UNBRACE ∷ rest) w.walked ∙ ap (λ o. and_then o (λ s. walk step s rest)) (unbrace_step w.last p w.told)
