-- An ink behind a token: outside programs, at an item, at a } and at any other token of a program. Assumes nothing.
use mathlib.Core.Path.{◌≡◌, refl, sym, ◌∙◌, ap, subst}
use mathlib.Core.Bool.{Bool, true, false}
use mathlib.Core.Option.{Option, none, some}
use Prim.Native.Nat.{ℕ, ◌≤◌, ◌<◌}
use native.Mathlib.Omega.{arith}
use Rattle.programs.specs.Parsed.{which_visit}
use Rattle.notation.specs.Rules.{Rules}
use Rattle.notation.specs.Tokens.{plain, left, right, TextToken, nonterminal, value, attribute, name, start_tag, end_tag, empty_tag, string, word, CHAR, ECHO, ECHO-OFF, REJECT, PRINT, IF, THEN, ELSE, BEGIN, END, AND, OR, NOT, EMPTY, sign, DEFINED, ASSIGNED, OPEN, CLOSE, BRACE, UNBRACE, DOT, BAR, STAR, SEMICOLON, EQUALS}
use Rattle.reading.specs.Statements.{Listing, step_statements}
use Rattle.reading.specs.Rules.{Progress}
use Rattle.reading.proofs.Braces.{list_stops}
use Rattle.encoding.specs.Distinct.{place_of, offset_of}
use Rattle.encoding.specs.Encoded.{tags_stored, strings_stored}
use Rattle.lexemes.specs.Kinds.{token_kind, token_number, TokenFits}
use Rattle.outlines.specs.Promises.{MachineKeeps}
use Rattle.sketches.specs.Figures.{present}
use Rattle.sketches.specs.Moves.{Sketch, program_at}
use Rattle.sketches.specs.Sketched.{listing_of}
use Rattle.sketches.specs.Promises.{Drawn, ProgramTaken, goes_on, ends}
use Rattle.sketches.proofs.Promises.{programs_alike, plain_takes, program_takes}
use Rattle.drafts.specs.Drafted.{program_if}
use Rattle.strokes.specs.Strokes.{no_ink, writes, inked, stroke_of, item_bytes}
use Rattle.strokes.specs.Promises.{NoItem, ItemAt}
use Rattle.inks.specs.declared.Ink.{Ink}
use Rattle.inks.specs.Held.{inks_in, Trim, InkIs}
use Rattle.inks.specs.Promises.{Inked}
use Rattle.inks.proofs.Promises.{starts_inked, puts_inked, items_inked}
use Rattle.sketches.proofs.Braces.{unbrace_kind}
use Rattle.turns_ink.specs.Turned.{ItemPlaced, InkTurned}

none_some : {A B : Type 0} {x : A} → none ≡ some x → B
none_some {A} {B} {x} e = absurd (let z : ◌≡◌ {A = ℕ} 0 1 = cc in omega arith)

-- a token by its kind: an item, or none
item_at : (r : Rules) (t : TextToken) (place : ℕ) → 6 ≤ token_kind t → token_kind t < 10 → ItemPlaced r t place → ItemAt (place_of (tags_stored r)) (offset_of (strings_stored r)) place t
item_at r (nonterminal n) place l h p = absurd (omega (arith, l))
item_at r (value v) place l h p = absurd (omega (arith, l))
item_at r (attribute plain a) place l h p = absurd (omega (arith, l))
item_at r (attribute left a) place l h p = absurd (omega (arith, l))
item_at r (attribute right a) place l h p = absurd (omega (arith, l))
item_at r (name n) place l h p = absurd (omega (arith, l))
item_at r (start_tag n) place l h p = p
item_at r (end_tag n) place l h p = p
item_at r (empty_tag n) place l h p = p
item_at r (string cs) place l h p = p
item_at r (word CHAR) place l h p = absurd (omega (arith, h))
item_at r (word ECHO) place l h p = absurd (omega (arith, h))
item_at r (word ECHO-OFF) place l h p = absurd (omega (arith, h))
item_at r (word REJECT) place l h p = absurd (omega (arith, h))
item_at r (word PRINT) place l h p = absurd (omega (arith, h))
item_at r (word IF) place l h p = absurd (omega (arith, h))
item_at r (word THEN) place l h p = absurd (omega (arith, h))
item_at r (word ELSE) place l h p = absurd (omega (arith, h))
item_at r (word BEGIN) place l h p = absurd (omega (arith, h))
item_at r (word END) place l h p = absurd (omega (arith, h))
item_at r (word AND) place l h p = absurd (omega (arith, h))
item_at r (word OR) place l h p = absurd (omega (arith, h))
item_at r (word NOT) place l h p = absurd (omega (arith, h))
item_at r (word EMPTY) place l h p = absurd (omega (arith, h))
item_at r (sign DEFINED) place l h p = absurd (omega (arith, h))
item_at r (sign ASSIGNED) place l h p = absurd (omega (arith, h))
item_at r (sign OPEN) place l h p = absurd (omega (arith, h))
item_at r (sign CLOSE) place l h p = absurd (omega (arith, h))
item_at r (sign BRACE) place l h p = absurd (omega (arith, h))
item_at r (sign UNBRACE) place l h p = absurd (omega (arith, h))
item_at r (sign DOT) place l h p = absurd (omega (arith, h))
item_at r (sign BAR) place l h p = absurd (omega (arith, h))
item_at r (sign STAR) place l h p = absurd (omega (arith, h))
item_at r (sign SEMICOLON) place l h p = absurd (omega (arith, h))
item_at r (sign EQUALS) place l h p = absurd (omega (arith, h))

no_item : (t : TextToken) → (6 ≤ token_kind t → token_kind t < 10 → ⊥) → NoItem t
no_item (nonterminal n) h = tt
no_item (value v) h = tt
no_item (attribute m a) h = tt
no_item (name n) h = tt
no_item (start_tag n) h = h (omega arith) (omega arith)
no_item (end_tag n) h = h (omega arith) (omega arith)
no_item (empty_tag n) h = h (omega arith) (omega arith)
no_item (string cs) h = h (omega arith) (omega arith)
no_item (word w) h = tt
no_item (sign g) h = tt

-- the program that is being read
some_listing : (o : Option Listing) → present o ≡ true → (q : Listing) × (o ≡ some q)
some_listing none e = absurd (let z : ◌≡◌ {A = ℕ} 0 1 = cc in omega arith)
some_listing (some q) e = (q, refl)

no_listing : (o : Option Listing) → present o ≡ false → o ≡ none
no_listing none e = refl
no_listing (some q) e = absurd (let z : ◌≡◌ {A = ℕ} 0 1 = cc in omega arith)

module _ (s : Progress) (k : Sketch) (reads second : Bool) (drawn : Drawn s k) (prog : program_at k.point ≡ program_if reads second) where
  told : present (listing_of s) ≡ present (program_if reads second)
  told = programs_alike s ∙ ap (λ z. present (program_at z.point)) drawn.numbers ∙ ap present prog

  reading : reads ≡ true → (q : Listing) × (listing_of s ≡ some q)
  reading e = some_listing (listing_of s) (told ∙ ap (λ z. present (program_if z second)) e)

  outside : reads ≡ false → listing_of s ≡ none
  outside e = no_listing (listing_of s) (told ∙ ap (λ z. present (program_if z second)) e)

module _ (i : Ink) (kind number place : ℕ) (reads second : Bool) where
  -- in a program that goes on
  turned_by : (i' : Ink) → reads ≡ true → Trim i'
      → ((r : Rules) (q q' : Listing) (t : TextToken) → MachineKeeps (which_visit second) q t q' → TokenFits t → kind ≡ token_kind t → number ≡ token_number t → ItemPlaced r t place
      → Inked (place_of (tags_stored r)) (offset_of (strings_stored r)) q i → Inked (place_of (tags_stored r)) (offset_of (strings_stored r)) q' i')
      → InkTurned i kind number place reads second i'
  turned_by i' e trim f = record {
    trim = trim;
    is = λ r s s' k t drawn prog goes fits ek en placed holds q' l'.
        let q = reading s k reads second drawn prog e in
        let at : program_at k.point ≡ some (which_visit second) = prog ∙ ap (λ z. program_if z second) e in
        go r s s' k t q.0 q' fits ek en placed (holds q.0 q.1) l' (program_takes s s' k (which_visit second) q.0 t drawn q.1 at goes);
  }
    where
      go : (r : Rules) (s s' : Progress) (k : Sketch) (t : TextToken) (q q' : Listing) → TokenFits t → kind ≡ token_kind t → number ≡ token_number t → ItemPlaced r t place → Inked (place_of (tags_stored r)) (offset_of (strings_stored r)) q i
          → listing_of s' ≡ some q' → ProgramTaken (which_visit second) q t k s' → Inked (place_of (tags_stored r)) (offset_of (strings_stored r)) q' i'
      go r s s' k t q q' fits ek en placed held l' (goes_on m step within fits' drawn l) =
          let same : m ≡ q' = cc in
          subst (λ z. Inked (place_of (tags_stored r)) (offset_of (strings_stored r)) z i') same (f r q m t (record { taken = step; within = within }) fits ek en placed held)
      go r s s' k t q q' fits ek en placed held l' (ends p token v drawn l) = none_some (sym l ∙ l')

  pub fresh_turn : (i' : Ink) → reads ≡ false → InkIs no_ink i' → InkTurned i kind number place reads second i'
  fresh_turn i' e h = record {
    trim = h.trim;
    is = λ r s s' k t drawn prog goes fits ek en placed holds q l.
        subst (λ z. Inked (place_of (tags_stored r)) (offset_of (strings_stored r)) z i') ((plain_takes s s' k t drawn (outside s k reads second drawn prog e) goes).begun q l) (starts_inked (place_of (tags_stored r)) (offset_of (strings_stored r)) i' h);
  }

  put_turn : (i' : Ink) → reads ≡ true → (6 ≤ kind → kind < 10 → ⊥) → InkIs (inked (stroke_of second kind number) (inks_in i)) i' → InkTurned i kind number place reads second i'
  put_turn i' e n h = turned_by i' e h.trim (λ r q q' t keeps fits ek en placed held.
      puts_inked (place_of (tags_stored r)) (offset_of (strings_stored r)) second q q' t i i' held (no_item t (λ l u. n (omega (arith, l, ek)) (omega (arith, u, ek)))) fits keeps
      (subst (λ m. InkIs (inked (stroke_of second (token_kind t) m) (inks_in i)) i') en (subst (λ m. InkIs (inked (stroke_of second m number) (inks_in i)) i') ek h)))

  pub low_turn : (i' : Ink) → reads ≡ true → kind < 6 → InkIs (inked (stroke_of second kind number) (inks_in i)) i' → InkTurned i kind number place reads second i'
  low_turn i' e n h = put_turn i' e (λ l u. absurd (omega (arith, n, l))) h

  pub high_turn : (i' : Ink) → reads ≡ true → 10 ≤ kind → InkIs (inked (stroke_of second kind number) (inks_in i)) i' → InkTurned i kind number place reads second i'
  high_turn i' e n h = put_turn i' e (λ l u. absurd (omega (arith, n, u))) h

  pub item_turn : (i' : Ink) → reads ≡ true → 6 ≤ kind → kind < 10 → InkIs (inked (writes (item_bytes kind place number)) (inks_in i)) i' → InkTurned i kind number place reads second i'
  item_turn i' e l u h = turned_by i' e h.trim (λ r q q' t keeps fits ek en placed held.
      items_inked (place_of (tags_stored r)) (offset_of (strings_stored r)) second q q' t place i i' held (item_at r t place (omega (arith, l, ek)) (omega (arith, u, ek)) placed) fits keeps
      (subst (λ m. InkIs (inked (writes (item_bytes (token_kind t) place m)) (inks_in i)) i') en (subst (λ m. InkIs (inked (writes (item_bytes m place number)) (inks_in i)) i') ek h)))

  pub same_turn : reads ≡ true → kind ≡ 28 → Trim i → InkTurned i kind number place reads second i
  same_turn e n trim = turned_by i e trim (λ r q q' t keeps fits ek en placed held.
      none_some (sym (list_stops (which_visit second) q) ∙ ap (step_statements (which_visit second) q) (sym (unbrace_kind t (sym ek ∙ n))) ∙ keeps.taken))
