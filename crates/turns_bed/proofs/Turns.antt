-- A bed behind a token: in a program, at the tag's parenthesis, within. Assumes nothing.
use mathlib.Core.Path.{◌≡◌, refl, sym, ◌∙◌, ap, subst}
use mathlib.Core.Bool.{Bool, true, false}
use mathlib.Core.List.{List, []}
use mathlib.Core.Option.{Option, none, some}
use Prim.Native.Nat.{ℕ}
use native.Mathlib.Omega.{arith}
use Rattle.programs.specs.Limits.{Visit, first, second}
use Rattle.programs.specs.Parsed.{which_visit}
use Rattle.notation.specs.Program.{TextProgram}
use Rattle.notation.specs.Rules.{node, Rules}
use Rattle.notation.specs.Limits.{WithinLimits}
use Rattle.notation.specs.Tokens.{TextToken, sign, UNBRACE}
use Rattle.reading.specs.Statements.{Listing, step_statements, value_of_list}
use Rattle.reading.specs.Expressions.{piece_of, unbraces, listing, expression_level, fresh_expression, Parsing, wants, in_front, after, behind, over, step_expression}
use Rattle.reading.specs.Rules.{Head, Progress, within, finished_rules}
use Rattle.reading.proofs.Braces.{list_stops}
use Rattle.lexemes.specs.Kinds.{token_kind, token_number}
use Rattle.sketches.specs.Moves.{Sketch, program_at}
use Rattle.sketches.specs.Sketched.{point_of, sketch, listing_in}
use Rattle.sketches.proofs.Braces.{unbrace_kind}
use Rattle.drafts.specs.Drafted.{program_if}
use Rattle.packing.specs.Packed.{field}
use Rattle.beds.specs.declared.Bed.{Bed}
use Rattle.beds.specs.Bedded.{Lays, Bedded, FewNodesRead, FreshIs, BedStepIs, UnbracedIs}
use Rattle.beds.proofs.Beds.{none_some, some_same}
use Rattle.beds.proofs.Promises.{sheet_nodes, stays, few_within}
use Rattle.mentions.proofs.Expressions.{unbraced}
use Rattle.turns_bed.specs.Turned.{BedHolds, BedStands, EndedAt, BedTurned}
use Rattle.turns_bed.specs.Promises.{ClosesWith}
use Rattle.turns_bed.proofs.Inside.{CameFrom, from_tag, from_inside, came_from, content_is}

-- the field of a program in the sheet of rules
abbrev fields : Rules → TextProgram → ℕ
fields r p = field r (some p)

-- a program is being read where the point says so
in_program : (x : Parsing) (v : Visit) → program_at (point_of x) ≡ some v → (q : Listing) × (listing_in x ≡ some q)
in_program (wants w l ls) v e = none_some e
in_program (in_front q ls) v e = (q, refl)
in_program (after a l ls) v e = none_some e
in_program (behind q f k ls) v e = (q, refl)
in_program (over a ls) v e = none_some e

no_program : (x : Parsing) → program_at (point_of x) ≡ none → listing_in x ≡ none
no_program (wants w l ls) e = refl
no_program (in_front q ls) e = none_some (sym e)
no_program (after a l ls) e = refl
no_program (behind q f k ls) e = none_some (sym e)
no_program (over a ls) e = refl

-- in a program a token goes on with it, or is the } that ends it
data InProgram (q : Listing) (t : TextToken) (x' : Parsing) : Type 0 where
  goes_on : (v : Visit) (q' : Listing) → step_statements v q t ≡ some q' → listing_in x' ≡ some q' → InProgram q t x'
  ends : (p : TextProgram) → t ≡ sign UNBRACE → value_of_list q ≡ some p → InProgram q t x'

by_list : (v : Visit) (q : Listing) (t : TextToken) (x' : Parsing) (o : Option Listing) (hold : Listing → Parsing) (g : TextProgram → Parsing) → step_statements v q t ≡ o
    → listing o hold (unbraces (piece_of t) (value_of_list q) g) ≡ some x' → ((m : Listing) → listing_in (hold m) ≡ some m) → InProgram q t x'
by_list v q t x' none hold g i e a = let z = unbraced t (value_of_list q) g x' e in ends z.program z.token_is z.is
by_list v q t x' (some m) hold g i e a = goes_on v m i (ap listing_in (sym (some_same e)) ∙ a m)

in_list : (x x' : Parsing) (q : Listing) (t : TextToken) → listing_in x ≡ some q → step_expression x t ≡ some x' → InProgram q t x'
in_list (wants w l ls) x' q t e s = none_some e
in_list (in_front m ls) x' q t e s =
    subst (λ n. InProgram n t x') (some_same e) (by_list first m t x' (step_statements first m t) (λ n. in_front n ls) (λ p. wants false (expression_level (some p) none none) ls) refl s (λ n. refl))
in_list (after a l ls) x' q t e s = none_some e
in_list (behind m f k ls) x' q t e s =
    subst (λ n. InProgram n t x') (some_same e) (by_list second m t x' (step_statements second m t) (λ n. behind n f k ls) (λ p. over (node f (some p) k) ls) refl s (λ n. refl))
in_list (over a ls) x' q t e s = none_some e

module _ (b : Bed) (here kind number place : ℕ) (reads second' : Bool) where
  -- behind a token the reader stands within: it came from the tag, or was there
  turned_by : (b' : Bed) → ((field : TextProgram → ℕ) → here ≡ 6 → none ≡ program_if reads second' → Bedded field (wants true fresh_expression []) b')
      → ((r : Rules) (x x' : Parsing) (f : Option TextProgram) (u : List ℕ) (h : Head) (t : TextToken) → here ≡ 7 → program_at (point_of x) ≡ program_if reads second' → step_expression x t ≡ some x' → FewNodesRead x' → kind ≡ token_kind t → number ≡ token_number t
      → EndedAt r (within x f u h) t place → Bedded (fields r) x b → Bedded (fields r) x' b')
      → BedTurned b here kind number place reads second' b'
  turned_by b' tag inside = record {
    is = λ r s s' k t drawn prog st goes ek en ended holds x' f u h e.
        let reading : program_at (sketch s).point ≡ program_if reads second' = ap (λ z. program_at z.point) drawn.numbers ∙ prog in
        go r s k t st ek en ended holds reading x' f u h (few_within x' f u h (subst (λ z. WithinLimits (finished_rules z)) e goes.fits)) (came_from t x' f u h s (goes.taken ∙ ap some e));
  }
    where
      go : (r : Rules) (s : Progress) (k : Sketch) (t : TextToken) → BedStands s here → kind ≡ token_kind t → number ≡ token_number t → EndedAt r s t place → BedHolds r s b → program_at (sketch s).point ≡ program_if reads second'
          → (x' : Parsing) (f : Option TextProgram) (u : List ℕ) (h : Head) → FewNodesRead x' → CameFrom t x' f u h s → Bedded (fields r) x' b'
      go r s k t st ek en ended holds reading x' f u h few (from_tag es ex) =
          subst (λ z. Bedded (fields r) z b') ex (tag (fields r) (st.at_tag f u h es) (sym (ap (λ z. program_at (sketch z).point) es) ∙ reading))
      go r s k t st ek en ended holds reading x' f u h few (from_inside x es step) =
          inside r x x' f u h t (st.inside x f u h es) (sym (ap (λ z. program_at (sketch z).point) es) ∙ reading) step few ek en (subst (λ z. EndedAt r z t place) es ended) (holds x f u h es)

  pub ended_turn : (b' : Bed) → reads ≡ true → kind ≡ 28 → UnbracedIs b second' place b' → BedTurned b here kind number place reads second' b'
  ended_turn b' e₀ e n = turned_by b' (λ field i none_is. none_some (none_is ∙ ap (λ z. program_if z second') e₀)) (λ r x x' f u h t i prog step few ek en ended held.
      let reading = prog ∙ ap (λ z. program_if z second') e₀ in
      let q = in_program x (which_visit second') reading in
      ending r x x' f u h t q.0 q.1 reading step ek ended held (in_list x x' q.0 t q.1 step))
    where
      ending : (r : Rules) (x x' : Parsing) (f : Option TextProgram) (u : List ℕ) (h : Head) (t : TextToken) (q : Listing) → listing_in x ≡ some q → program_at (point_of x) ≡ some (which_visit second') → step_expression x t ≡ some x' → kind ≡ token_kind t
          → EndedAt r (within x f u h) t place → Bedded (fields r) x b → InProgram q t x' → Bedded (fields r) x' b'
      ending r x x' f u h t q l reading step ek ended held (goes_on v q' i l') = none_some (sym (list_stops v q) ∙ ap (step_statements v q) (sym (unbrace_kind t (sym ek ∙ e))) ∙ i)
      ending r x x' f u h t q l reading step ek ended held (ends p token v) =
          let place_is = ended q p token l v in
          n.is (fields r) x x' q p reading l v (sym (ap (step_expression x) token) ∙ step) place_is.0 place_is.1 held

  pub same_turn : reads ≡ true → (kind ≡ 28 → ⊥) → BedTurned b here kind number place reads second' b
  same_turn e₀ e = turned_by b (λ field i none_is. none_some (none_is ∙ ap (λ z. program_if z second') e₀)) (λ r x x' f u h t i prog step few ek en ended held.
      let q = in_program x (which_visit second') (prog ∙ ap (λ z. program_if z second') e₀) in
      going r x x' t q.0 q.1 step ek held (in_list x x' q.0 t q.1 step))
    where
      going : (r : Rules) (x x' : Parsing) (t : TextToken) (q : Listing) → listing_in x ≡ some q → step_expression x t ≡ some x' → kind ≡ token_kind t → Bedded (fields r) x b → InProgram q t x' → Bedded (fields r) x' b
      going r x x' t q l step ek held (goes_on v q' i l') = stays (fields r) x x' t q q' b l l' step held
      going r x x' t q l step ek held (ends p token v) = absurd (e (ek ∙ ap token_kind token))

  pub fresh_turn : (b' : Bed) → reads ≡ false → here ≡ 6 → FreshIs b' → BedTurned b here kind number place reads second' b'
  fresh_turn b' e₀ e n = turned_by b' (λ field i none_is. n.is field) (λ r x x' f u h t i prog step few ek en ended held. absurd (omega (arith, e, i)))

  pub step_turn : (b' : Bed) → reads ≡ false → (here ≡ 6 → ⊥) → BedStepIs b kind number b' → BedTurned b here kind number place reads second' b'
  step_turn b' e₀ e n = turned_by b' (λ field i none_is. absurd (e i)) (λ r x x' f u h t i prog step few ek en ended held.
      n.is (fields r) x x' t (sym ek) (sym en) (no_program x (prog ∙ ap (λ z. program_if z second') e₀)) step few held)

pub closes_with : ClosesWith
closes_with r x f f' u u' h h' e t b row goes holds n =
    subst (λ l. Lays l row) (sheet_nodes r e) (n.is (fields r) x e (content_is t x f f' u u' h h' e goes.taken) (holds x f u h refl))
