-- Sketches step as the machine does. Assumes nothing.
use mathlib.Core.Path.{◌≡◌, refl, sym, ◌∙◌, ap, subst}
use mathlib.Core.Bool.{Bool, true, false}
use mathlib.Core.Logic.{◌⊎◌, inl, inr}
use mathlib.Core.Option.{Option, none, some, map}
use mathlib.Core.List.{List, [], ◌∷◌}
use Prim.Native.Nat.{ℕ, ◌<◌}
use native.Mathlib.Omega.{arith}
use lib.ListN.{get_or}
use Rattle.expressions.specs.Expr.{Atom}
use Rattle.programs.specs.Limits.{Visit, first, second}
use Rattle.notation.specs.Program.{TextProgram}
use Rattle.notation.specs.Rules.{Tree, node, Form}
use Rattle.notation.specs.Limits.{ProgramWithin, OptionWithin, ContentWithin, EachWithin, WithinLimits}
use Rattle.notation.specs.Tokens.{TextToken, nonterminal, value, attribute, name, start_tag, end_tag, empty_tag, string, word, Keyword, CHAR, ECHO, ECHO-OFF, REJECT, PRINT, IF, THEN, ELSE, BEGIN, END, AND, OR, NOT, EMPTY, sign, Sign, DEFINED, ASSIGNED, OPEN, CLOSE, BRACE, UNBRACE, DOT, BAR, STAR, SEMICOLON, EQUALS}
use Rattle.reading.specs.Statements.{Listing, list_start, step_statements, value_of_list, finished_list}
use Rattle.reading.specs.Expressions.{ExpressionPart, a_leaf, a_star, a_dot, a_bar, an_open, a_close, a_brace, an_unbrace, other, piece_of, nonterminal?, atom_if, unbraces, listing, Parsing, wants, in_front, after, behind, over, expression_level}
use Rattle.reading.specs.Rules.{Key, a_nonterminal, a_name, a_definition, key_of, Head, Progress, beginning, first_word, named, defined, own_front, wants_tag, tagged, within, closed, own_back, complete, rule_read, closes_content, parsing, step_rules, value_of_rules, finished_rules}
use Rattle.reading.proofs.Telling.{none≢some}
use Rattle.reading.proofs.Statements.{finished_value}
use Rattle.lexemes.specs.Kinds.{kinds, token_kind, TokenFits, MarkedKind}
use Rattle.lexemes.proofs.Found.{kind_below}
use Rattle.verdicts.specs.Judged.{Goes, TakesToken}
use Rattle.verdicts.specs.Steps.{Marks}
use Rattle.sketches.specs.Figures.{present}
use Rattle.sketches.specs.Moves.{Sketch, sketched, after_move_lem, move_of, sketch_fits, sketch_if, where_fit, step_sketch, program_at, unbraced_sketch, text_ends}
use Rattle.sketches.specs.Sketched.{sketch, listing_of}
use Rattle.sketches.specs.Kept.{KeptSoFar}
use Rattle.sketches.specs.Promises.{Drawn, DrawnFirst, ProgramsAlike, TextEndsAlike, PlainTaken, PlainTakes, PlainGoes, GoesOnIn, ProgramGoes, EndsIn, ProgramEnds, ProgramTaken, goes_on, ends, ProgramTakes, PlainMarks, ProgramRow, ProgramMarks}
use Rattle.sketches.proofs.Kept.{kept_within, within_fits, within_list, ListKept}
use Rattle.sketches.proofs.Fitting.{no_unbrace, listed_fits, plain_fits}
use Rattle.sketches.proofs.Entered.{Entered, EnteredIf, plain_enters}
use Rattle.sketches.proofs.Steps.{plain_follows}

pub drawn_first : DrawnFirst
drawn_first = record { numbers = refl; kept = tt; fitting = refl }

-- a drawn state keeps the limits
drawn_within : (s : Progress) (k : Sketch) → Drawn s k → WithinLimits (finished_rules s)
drawn_within s k d = kept_within s d.kept (ap sketch_fits d.numbers ∙ d.fitting)

pub programs_alike : ProgramsAlike
programs_alike beginning = refl
programs_alike (first_word n) = refl
programs_alike (named h) = refl
programs_alike (defined h) = refl
programs_alike (own_front q h) = refl
programs_alike (wants_tag f h) = refl
programs_alike (tagged f u h) = refl
programs_alike (within (wants b l ls) f u h) = refl
programs_alike (within (in_front q ls) f u h) = refl
programs_alike (within (after e l ls) f u h) = refl
programs_alike (within (behind q g j ls) f u h) = refl
programs_alike (within (over e ls) f u h) = refl
programs_alike (closed f u e h) = refl
programs_alike (own_back q f u e h) = refl
programs_alike (complete r h) = refl

pub ends_alike : TextEndsAlike
ends_alike beginning = refl
ends_alike (first_word n) = refl
ends_alike (named h) = refl
ends_alike (defined h) = refl
ends_alike (own_front q h) = refl
ends_alike (wants_tag f h) = refl
ends_alike (tagged f u h) = refl
ends_alike (within (wants b l ls) f u h) = refl
ends_alike (within (in_front q ls) f u h) = refl
ends_alike (within (after e l ls) f u h) = refl
ends_alike (within (behind q g j ls) f u h) = refl
ends_alike (within (over e ls) f u h) = refl
ends_alike (closed f u e h) = refl
ends_alike (own_back q f u e h) = refl
ends_alike (complete r h) = refl

pub plain_takes : PlainTakes
plain_takes s s' k t d z g =
    let fit = plain_fits s s' t z g.taken in
    let w = drawn_within s k d in
    let n = subst EnteredIf g.taken (plain_enters s t z d.kept w) in
    let f = within_fits s' g.fits in
    let m : after_move_lem k (move_of k.point (token_kind t)) ≡ some (sketch s') =
    ap (λ x. after_move_lem x (move_of x.point (token_kind t))) (sym d.numbers) ∙ sym (plain_follows s t z fit) ∙ ap (map sketch) g.taken in
    record {
      fit = fit;
      stepped = ap where_fit m ∙ ap (λ b. sketch_if b (sketch s')) f;
      drawn = record { numbers = refl; kept = n.kept (within_list s' g.fits); fitting = f };
      begun = n.begun;
    }

-- of a sketch that was taken
taken_fits : (o : Option Sketch) (k : Sketch) → where_fit o ≡ some k → (o ≡ some k) × (sketch_fits k ≡ true)
taken_fits none k e = absurd (none≢some refl e)
taken_fits (some x) k e = on (sketch_fits x) refl e
  where
    on : (b : Bool) → sketch_fits x ≡ b → sketch_if b x ≡ some k → (some x ≡ some k) × (sketch_fits k ≡ true)
    on true f i = (i, let same : x ≡ k = cc in ap sketch_fits (sym same) ∙ f)
    on false f i = absurd (none≢some refl i)

-- a program that begins keeps its limits
start_kept : (q : Listing) → list_start ≡ q → ProgramWithin (finished_list q)
start_kept q e = subst (λ x. ProgramWithin (finished_list x)) e (record { short = omega arith; shallow = omega arith })

begun_kept : (s : Progress) → ((q : Listing) → listing_of s ≡ some q → list_start ≡ q) → ListKept s
begun_kept beginning i = tt
begun_kept (first_word n) i = tt
begun_kept (named h) i = tt
begun_kept (defined h) i = tt
begun_kept (own_front q h) i = start_kept q (i q refl)
begun_kept (wants_tag f h) i = tt
begun_kept (tagged f u h) i = tt
begun_kept (within (wants b l ls) f u h) i = tt
begun_kept (within (in_front q ls) f u h) i = start_kept q (i q refl)
begun_kept (within (after e l ls) f u h) i = tt
begun_kept (within (behind q g j ls) f u h) i = start_kept q (i q refl)
begun_kept (within (over e ls) f u h) i = tt
begun_kept (closed f u e h) i = tt
begun_kept (own_back q f u e h) i = start_kept q (i q refl)
begun_kept (complete r h) i = tt

pub plain_goes : PlainGoes
plain_goes s k k' t d z fit e = on (step_rules s t) refl
  where
    a : (after_move_lem k (move_of k.point (token_kind t)) ≡ some k') × (sketch_fits k' ≡ true)
    a = taken_fits (after_move_lem k (move_of k.point (token_kind t))) k' e

    m : map sketch (step_rules s t) ≡ some k'
    m = plain_follows s t z fit ∙ ap (λ x. after_move_lem x (move_of x.point (token_kind t))) d.numbers ∙ a.0

    on : (o : Option Progress) → step_rules s t ≡ o → (s' : Progress) × Goes s t s' × (sketch s' ≡ k')
    on none i = absurd (none≢some (ap (map sketch) i) m)
    on (some s') i =
        let n = subst EnteredIf i (plain_enters s t z d.kept (drawn_within s k d)) in
        let j : some (sketch s') ≡ some k' = sym (ap (map sketch) i) ∙ m in
        let same : sketch s' ≡ k' = cc in
        (s', record { taken = i; fits = kept_within s' (n.kept (begun_kept s' n.begun)) (ap sketch_fits same ∙ a.1) }, same)

-- a state that reads a program: it holds the list that is being read, and is left with the program
record ReadsProgram (s : Progress) : Type 1 where
  visit : Visit
  list : Listing
  hold : Listing → Progress
  done : TextProgram → Progress
  reads : listing_of s ≡ some list
  at : program_at (sketch s).point ≡ some visit
  steps : (t : TextToken) → step_rules s t ≡ listing (step_statements visit list t) hold (unbraces (piece_of t) (value_of_list list) done)
  held : (r : Listing) → (sketch (hold r) ≡ sketch s) × (listing_of (hold r) ≡ some r)
  left : (p : TextProgram) → (sketch (done p) ≡ unbraced_sketch (sketch s)) × (listing_of (done p) ≡ none)
  same_fits : sketch_fits (unbraced_sketch (sketch s)) ≡ sketch_fits (sketch s)
  was_kept : ProgramWithin (finished_list list)
  held_list : (r : Listing) → ListKept (hold r) → ProgramWithin (finished_list r)
  held_kept : (r : Listing) → ProgramWithin (finished_list r) → KeptSoFar (hold r)
  left_kept : (p : TextProgram) → ProgramWithin p → KeptSoFar (done p)

module _ (f : Option TextProgram) (u : List ℕ) (h : Head) where
  no_closes : (k : Key) → closes_content k none f u h ≡ none
  no_closes (a_nonterminal n) = refl
  no_closes (a_name v) = refl
  no_closes a_definition = refl
  no_closes Key.an_open = refl
  no_closes Key.a_close = refl
  no_closes Key.a_brace = refl
  no_closes Key.other = refl

  listing_within : (o : Option Listing) (a : Listing → Parsing) (d : TextProgram → Parsing) (p : ExpressionPart) (v : Option TextProgram)
      → parsing (listing o a (unbraces p v d)) none f u h ≡ listing o (λ r. within (a r) f u h) (unbraces p v (λ x. within (d x) f u h))
  listing_within (some r) a d p v = refl
  listing_within none a d (a_leaf k) v = refl
  listing_within none a d a_star v = refl
  listing_within none a d a_dot v = refl
  listing_within none a d a_bar v = refl
  listing_within none a d an_open v = refl
  listing_within none a d a_close v = refl
  listing_within none a d a_brace v = refl
  listing_within none a d other v = refl
  listing_within none a d an_unbrace none = refl
  listing_within none a d an_unbrace (some p) = refl

program_view : (s : Progress) → KeptSoFar s → (listing_of s ≡ none) ⊎ ReadsProgram s
program_view beginning k = inl refl
program_view (first_word n) k = inl refl
program_view (named h) k = inl refl
program_view (defined h) k = inl refl
program_view (own_front q h) k = inr (record {
  visit = first;
  list = q;
  hold = λ r. own_front r h;
  done = λ p. wants_tag (some p) h;
  reads = refl;
  at = refl;
  steps = λ t. refl;
  held = λ r. (refl, refl);
  left = λ p. (refl, refl);
  same_fits = refl;
  was_kept = k.0;
  held_list = λ r w. w;
  held_kept = λ r w. (w, k.1);
  left_kept = λ p w. (w, k.1);
})
program_view (wants_tag f h) k = inl refl
program_view (tagged f u h) k = inl refl
program_view (within (wants b l ls) f u h) k = inl refl
program_view (within (in_front q ls) f u h) k = inr (record {
  visit = first;
  list = q;
  hold = λ r. within (in_front r ls) f u h;
  done = λ p. within (wants false (expression_level (some p) none none) ls) f u h;
  reads = refl;
  at = refl;
  steps = λ t.
      ap (λ y. parsing (listing (step_statements first q t) (λ r. in_front r ls) (unbraces (piece_of t) (value_of_list q) (λ p. wants false (expression_level (some p) none none) ls))) y f u h) (no_closes f u h (key_of t))
      ∙ listing_within f u h (step_statements first q t) (λ r. in_front r ls) (λ p. wants false (expression_level (some p) none none) ls) (piece_of t) (value_of_list q);
  held = λ r. (refl, refl);
  left = λ p. (refl, refl);
  same_fits = refl;
  was_kept = k.0.0;
  held_list = λ r w. w;
  held_kept = λ r w. ((w, k.0.1), k.1);
  left_kept = λ p w. (((w, (tt, tt)), k.0.1), k.1);
})
program_view (within (after e l ls) f u h) k = inl refl
program_view (within (behind q g j ls) f u h) k = inr (record {
  visit = second;
  list = q;
  hold = λ r. within (behind r g j ls) f u h;
  done = λ p. within (over (node g (some p) j) ls) f u h;
  reads = refl;
  at = refl;
  steps = λ t.
      ap (λ y. parsing (listing (step_statements second q t) (λ r. behind r g j ls) (unbraces (piece_of t) (value_of_list q) (λ p. over (node g (some p) j) ls))) y f u h) (no_closes f u h (key_of t))
      ∙ listing_within f u h (step_statements second q t) (λ r. behind r g j ls) (λ p. over (node g (some p) j) ls) (piece_of t) (value_of_list q);
  held = λ r. (refl, refl);
  left = λ p. (refl, refl);
  same_fits = refl;
  was_kept = k.0.0;
  held_list = λ r w. w;
  held_kept = λ r w. ((w, k.0.1), k.1);
  left_kept = λ p w. ((((k.0.1.0, w), k.0.1.1.0), k.0.1.1.1), k.1);
})
program_view (within (over e ls) f u h) k = inl refl
program_view (closed f u e h) k = inl refl
program_view (own_back q f u e h) k = inr (record {
  visit = second;
  list = q;
  hold = λ r. own_back r f u e h;
  done = λ p. complete (rule_read f (some p) u e h) h;
  reads = refl;
  at = refl;
  steps = λ t. refl;
  held = λ r. (refl, refl);
  left = λ p. (refl, refl);
  same_fits = refl;
  was_kept = k.0;
  held_list = λ r w. w;
  held_kept = λ r w. (w, k.1);
  left_kept = λ p w. (record { own = (k.1.1.0, w); inside = k.1.0 }, k.1.1.1);
})
program_view (complete r h) k = inl refl

-- where it goes from there, with the list and the visit that it has
module _ (s : Progress) (k : Sketch) (d : Drawn s k) (r : ReadsProgram s) where
  visit_same : (v : Visit) → program_at k.point ≡ some v → r.visit ≡ v
  visit_same v a = let b : program_at k.point ≡ some r.visit = ap (λ x. program_at x.point) (sym d.numbers) ∙ r.at in cc

  list_same : (q : Listing) → listing_of s ≡ some q → r.list ≡ q
  list_same q z = let b = r.reads in cc

  drawn_held : (q : Listing) → ProgramWithin (finished_list q) → Drawn (r.hold q) k
  drawn_held q w = record { numbers = (r.held q).0 ∙ d.numbers; kept = r.held_kept q w; fitting = d.fitting }

  drawn_left : (p : TextProgram) → ProgramWithin p → Drawn (r.done p) (unbraced_sketch k)
  drawn_left p w = record {
    numbers = (r.left p).0 ∙ ap unbraced_sketch d.numbers;
    kept = r.left_kept p w;
    fitting = ap (λ x. sketch_fits (unbraced_sketch x)) (sym d.numbers) ∙ r.same_fits ∙ ap sketch_fits d.numbers ∙ d.fitting;
  }

  goes_held : (q : Listing) (t : TextToken) → step_statements r.visit r.list t ≡ some q → ProgramWithin (finished_list q) → GoesOnIn s k t q
  goes_held q t e w =
      let n = drawn_held q w in
      record {
        next = r.hold q;
        goes = record { taken = r.steps t ∙ ap (λ o. listing o r.hold (unbraces (piece_of t) (value_of_list r.list) r.done)) e; fits = drawn_within (r.hold q) k n };
        drawn = n;
        reads = (r.held q).1;
      }

  goes_left : (p : TextProgram) → value_of_list r.list ≡ some p → EndsIn s k
  goes_left p e =
      let n = drawn_left p (subst ProgramWithin (finished_value r.list p e) r.was_kept) in
      record {
        next = r.done p;
        goes = record {
          taken = r.steps (sign UNBRACE) ∙ ap (λ o. listing o r.hold (unbraces an_unbrace (value_of_list r.list) r.done)) (no_unbrace r.visit r.list) ∙ ap (λ o. unbraces an_unbrace o r.done) e;
          fits = drawn_within (r.done p) (unbraced_sketch k) n;
        };
        drawn = n;
        plain = (r.left p).1;
      }

  -- a brace that is taken ends the program
  braced_taken : (t : TextToken) (s' : Progress) (p : ExpressionPart) (v : Option TextProgram) → piece_of t ≡ p → value_of_list r.list ≡ v → unbraces p v r.done ≡ some s'
      → (piece_of t ≡ an_unbrace) × ((x : TextProgram) × (value_of_list r.list ≡ some x) × (r.done x ≡ s'))
  braced_taken t s' (a_leaf k) v i j e = absurd (none≢some refl e)
  braced_taken t s' a_star v i j e = absurd (none≢some refl e)
  braced_taken t s' a_dot v i j e = absurd (none≢some refl e)
  braced_taken t s' a_bar v i j e = absurd (none≢some refl e)
  braced_taken t s' an_open v i j e = absurd (none≢some refl e)
  braced_taken t s' a_close v i j e = absurd (none≢some refl e)
  braced_taken t s' a_brace v i j e = absurd (none≢some refl e)
  braced_taken t s' other v i j e = absurd (none≢some refl e)
  braced_taken t s' an_unbrace none i j e = absurd (none≢some refl e)
  braced_taken t s' an_unbrace (some x) i j e = (i, (x, j, cc))

-- the only token that is a closing brace
is_unbrace : (t : TextToken) → piece_of t ≡ an_unbrace → t ≡ sign UNBRACE
is_unbrace (nonterminal n) e = absurd (on (nonterminal? n) e)
  where
    on : {P : Type 0} (d : Dec P) → atom_if d (Atom.nonterminal n) ≡ an_unbrace → ⊥
    on (yes h) i = let z : ◌≡◌ {A = ℕ} 0 1 = cc in omega arith
    on (no h) i = let z : ◌≡◌ {A = ℕ} 0 1 = cc in omega arith
is_unbrace (value n) e = absurd (let z : ◌≡◌ {A = ℕ} 0 1 = cc in omega arith)
is_unbrace (attribute m a) e = absurd (let z : ◌≡◌ {A = ℕ} 0 1 = cc in omega arith)
is_unbrace (name n) e = absurd (let z : ◌≡◌ {A = ℕ} 0 1 = cc in omega arith)
is_unbrace (start_tag n) e = absurd (let z : ◌≡◌ {A = ℕ} 0 1 = cc in omega arith)
is_unbrace (end_tag n) e = absurd (let z : ◌≡◌ {A = ℕ} 0 1 = cc in omega arith)
is_unbrace (empty_tag n) e = absurd (let z : ◌≡◌ {A = ℕ} 0 1 = cc in omega arith)
is_unbrace (string cs) e = absurd (let z : ◌≡◌ {A = ℕ} 0 1 = cc in omega arith)
is_unbrace (word CHAR) e = absurd (let z : ◌≡◌ {A = ℕ} 0 1 = cc in omega arith)
is_unbrace (word ECHO) e = absurd (let z : ◌≡◌ {A = ℕ} 0 1 = cc in omega arith)
is_unbrace (word ECHO-OFF) e = absurd (let z : ◌≡◌ {A = ℕ} 0 1 = cc in omega arith)
is_unbrace (word REJECT) e = absurd (let z : ◌≡◌ {A = ℕ} 0 1 = cc in omega arith)
is_unbrace (word PRINT) e = absurd (let z : ◌≡◌ {A = ℕ} 0 1 = cc in omega arith)
is_unbrace (word IF) e = absurd (let z : ◌≡◌ {A = ℕ} 0 1 = cc in omega arith)
is_unbrace (word THEN) e = absurd (let z : ◌≡◌ {A = ℕ} 0 1 = cc in omega arith)
is_unbrace (word ELSE) e = absurd (let z : ◌≡◌ {A = ℕ} 0 1 = cc in omega arith)
is_unbrace (word BEGIN) e = absurd (let z : ◌≡◌ {A = ℕ} 0 1 = cc in omega arith)
is_unbrace (word END) e = absurd (let z : ◌≡◌ {A = ℕ} 0 1 = cc in omega arith)
is_unbrace (word AND) e = absurd (let z : ◌≡◌ {A = ℕ} 0 1 = cc in omega arith)
is_unbrace (word OR) e = absurd (let z : ◌≡◌ {A = ℕ} 0 1 = cc in omega arith)
is_unbrace (word NOT) e = absurd (let z : ◌≡◌ {A = ℕ} 0 1 = cc in omega arith)
is_unbrace (word EMPTY) e = absurd (let z : ◌≡◌ {A = ℕ} 0 1 = cc in omega arith)
is_unbrace (sign DEFINED) e = absurd (let z : ◌≡◌ {A = ℕ} 0 1 = cc in omega arith)
is_unbrace (sign ASSIGNED) e = absurd (let z : ◌≡◌ {A = ℕ} 0 1 = cc in omega arith)
is_unbrace (sign OPEN) e = absurd (let z : ◌≡◌ {A = ℕ} 0 1 = cc in omega arith)
is_unbrace (sign CLOSE) e = absurd (let z : ◌≡◌ {A = ℕ} 0 1 = cc in omega arith)
is_unbrace (sign BRACE) e = absurd (let z : ◌≡◌ {A = ℕ} 0 1 = cc in omega arith)
is_unbrace (sign UNBRACE) e = refl
is_unbrace (sign DOT) e = absurd (let z : ◌≡◌ {A = ℕ} 0 1 = cc in omega arith)
is_unbrace (sign BAR) e = absurd (let z : ◌≡◌ {A = ℕ} 0 1 = cc in omega arith)
is_unbrace (sign STAR) e = absurd (let z : ◌≡◌ {A = ℕ} 0 1 = cc in omega arith)
is_unbrace (sign SEMICOLON) e = absurd (let z : ◌≡◌ {A = ℕ} 0 1 = cc in omega arith)
is_unbrace (sign EQUALS) e = absurd (let z : ◌≡◌ {A = ℕ} 0 1 = cc in omega arith)

pub program_goes : ProgramGoes
program_goes s k v q q' t d z a e w = on (program_view s d.kept)
  where
    on : (listing_of s ≡ none) ⊎ ReadsProgram s → GoesOnIn s k t q'
    on (inl i) = absurd (none≢some i z)
    on (inr r) = goes_held s k d r q' t (ap (λ x. step_statements x r.list t) (visit_same s k d r v a) ∙ ap (λ x. step_statements v x t) (list_same s k d r q z) ∙ e) w

pub program_ends : ProgramEnds
program_ends s k q p d z e = on (program_view s d.kept)
  where
    on : (listing_of s ≡ none) ⊎ ReadsProgram s → EndsIn s k
    on (inl i) = absurd (none≢some i z)
    on (inr r) = goes_left s k d r p (ap value_of_list (list_same s k d r q z) ∙ e)

pub program_takes : ProgramTakes
program_takes s s' k v q t d z a g = on (program_view s d.kept)
  where
    on : (listing_of s ≡ none) ⊎ ReadsProgram s → ProgramTaken v q t k s'
    on (inl i) = absurd (none≢some i z)
    on (inr r) = with_list (step_statements r.visit r.list t) refl
      where
        old : step_statements r.visit r.list t ≡ step_statements v q t
        old = ap (λ x. step_statements x r.list t) (visit_same s k d r v a) ∙ ap (λ x. step_statements v x t) (list_same s k d r q z)

        with_list : (o : Option Listing) → step_statements r.visit r.list t ≡ o → ProgramTaken v q t k s'
        with_list (some q') i =
            let j : r.hold q' ≡ s' = (let y = sym (ap (λ o. listing o r.hold (unbraces (piece_of t) (value_of_list r.list) r.done)) i) ∙ sym (r.steps t) ∙ g.taken in cc) in
            let w = subst (λ x. WithinLimits (finished_rules x)) (sym j) g.fits in
            let l : ProgramWithin (finished_list q') = r.held_list q' (within_list (r.hold q') w) in
            goes_on q' (sym old ∙ i) l (listed_fits v q q' t (sym old ∙ i)) (subst (λ x. Drawn x k) j (drawn_held s k d r q' l)) (ap listing_of (sym j) ∙ (r.held q').1)
        with_list none i =
            let y = sym (ap (λ o. listing o r.hold (unbraces (piece_of t) (value_of_list r.list) r.done)) i) ∙ sym (r.steps t) ∙ g.taken in
            let b = braced_taken s k d r t s' (piece_of t) (value_of_list r.list) refl refl y in
            let p = b.1.0 in
            let e = b.1.1 in
            let w = subst ProgramWithin (finished_value r.list p e) r.was_kept in
            ends p (is_unbrace t b.0) (ap value_of_list (sym (list_same s k d r q z)) ∙ e) (subst (λ x. Drawn x (unbraced_sketch k)) b.1.2 (drawn_left s k d r p w)) (ap listing_of (sym b.1.2) ∙ (r.left p).1)

-- the kinds that may come
some_there : {A : Type 0} (o : Option A) → present o ≡ true → (x : A) × (o ≡ some x)
some_there none e = absurd (let z : ◌≡◌ {A = ℕ} 0 1 = cc in omega arith)
some_there (some x) e = (x, refl)

pub plain_marks : PlainMarks
plain_marks s k may d z h = record {
  taken = λ t a.
      let x = some_there (step_sketch k (token_kind t)) (sym (h (token_kind t) (kind_below t)) ∙ a.marked) in
      let y = plain_goes s k x.0 t d z a.fit x.1 in
      (y.0, y.1);
  marked = λ t g.
      let x = plain_takes s g.0 k t d z g.1 in
      record { marked = h (token_kind t) (kind_below t) ∙ ap present x.stepped; fit = x.fit };
}

unbrace? : (t : TextToken) → Dec (t ≡ sign UNBRACE)
unbrace? t = on (piece_of t) refl
  where
    on : (p : ExpressionPart) → piece_of t ≡ p → Dec (t ≡ sign UNBRACE)
    on an_unbrace i = yes (is_unbrace t i)
    on (a_leaf x) i = no (λ e. let y : an_unbrace ≡ (a_leaf x) = ap piece_of (sym e) ∙ i in let z : ◌≡◌ {A = ℕ} 0 1 = cc in omega arith)
    on a_star i = no (λ e. let y : an_unbrace ≡ a_star = ap piece_of (sym e) ∙ i in let z : ◌≡◌ {A = ℕ} 0 1 = cc in omega arith)
    on a_dot i = no (λ e. let y : an_unbrace ≡ a_dot = ap piece_of (sym e) ∙ i in let z : ◌≡◌ {A = ℕ} 0 1 = cc in omega arith)
    on a_bar i = no (λ e. let y : an_unbrace ≡ a_bar = ap piece_of (sym e) ∙ i in let z : ◌≡◌ {A = ℕ} 0 1 = cc in omega arith)
    on an_open i = no (λ e. let y : an_unbrace ≡ an_open = ap piece_of (sym e) ∙ i in let z : ◌≡◌ {A = ℕ} 0 1 = cc in omega arith)
    on a_close i = no (λ e. let y : an_unbrace ≡ a_close = ap piece_of (sym e) ∙ i in let z : ◌≡◌ {A = ℕ} 0 1 = cc in omega arith)
    on a_brace i = no (λ e. let y : an_unbrace ≡ a_brace = ap piece_of (sym e) ∙ i in let z : ◌≡◌ {A = ℕ} 0 1 = cc in omega arith)
    on other i = no (λ e. let y : an_unbrace ≡ other = ap piece_of (sym e) ∙ i in let z : ◌≡◌ {A = ℕ} 0 1 = cc in omega arith)

pub program_marks : ProgramMarks
program_marks s k v q may d z a h = record { taken = λ t m. takes t m (unbrace? t); marked = λ t g. marks t (program_takes s g.0 k v q t d z a g.1) }
  where
    takes : (t : TextToken) → MarkedKind may t → Dec (t ≡ sign UNBRACE) → TakesToken s t
    takes t m (yes e) =
        let x = some_there (value_of_list q) (sym h.brace ∙ ap (λ y. get_or may (token_kind y) false) (sym e) ∙ m.marked) in
        let y = program_ends s k q x.0 d z x.1 in
        subst (TakesToken s) (sym e) (y.next, y.goes)
    takes t m (no e) =
        let x = h.goes_on t m.fit e m.marked in
        let y = program_goes s k v q x.0 t d z a x.1 x.2 in
        (y.next, y.goes)

    marks : (t : TextToken) {s' : Progress} → ProgramTaken v q t k s' → MarkedKind may t
    marks t (goes_on q' e w f n r) = record { marked = h.marked t q' f e w; fit = f }
    marks t (ends p e i n r) = subst (MarkedKind may) (sym e) (record { marked = h.brace ∙ ap present i; fit = tt })
