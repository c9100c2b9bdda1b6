-- What a token is in an expression, by its kind; and the } behind a program. Assumes nothing.
use mathlib.Core.Path.{◌≡◌, refl, sym, ◌∙◌, ap, subst}
use mathlib.Core.Bool.{Bool, true, false}
use mathlib.Core.List.{List, [], ◌∷◌, ◌++◌}
use mathlib.Core.Option.{Option, none, some}
use Prim.Native.Nat.{ℕ, zero, suc, ◌+◌, ◌/◌, ◌%◌, ◌≤◌, ◌<◌}
use native.Mathlib.Omega.{arith}
use lib.ListN.{length, get_or, length-append}
use Rattle.expressions.specs.Expr.{Atom, anychar}
use Rattle.expressions.specs.Grammar.{nonterminals}
use Rattle.programs.specs.Limits.{first, second}
use Rattle.programs.specs.Parsed.{which_visit}
use Rattle.notation.specs.Program.{TextProgram}
use Rattle.notation.specs.Rules.{node, Form}
use Rattle.notation.specs.Tokens.{Dollar, plain, left, right, TextToken, nonterminal, value, attribute, name, start_tag, end_tag, empty_tag, string, word, CHAR, ECHO, ECHO-OFF, REJECT, PRINT, IF, THEN, ELSE, BEGIN, END, AND, OR, NOT, EMPTY, sign, DEFINED, ASSIGNED, OPEN, CLOSE, BRACE, UNBRACE, DOT, BAR, STAR, SEMICOLON, EQUALS}
use Rattle.reading.specs.Statements.{Listing, value_of_list}
use Rattle.reading.specs.Expressions.{ExpressionPart, a_leaf, a_star, a_dot, a_bar, an_open, a_close, a_brace, an_unbrace, other, nonterminal?, atom_if, piece_of, unbraces, listing, ExpressionLevel, expression_level, fresh_expression, Parsing, wants, in_front, after, behind, over, step_piece, step_expression}
use Rattle.reading.proofs.Braces.{list_stops}
use Rattle.lexemes.specs.Kinds.{mark_number, token_kind, token_number}
use Rattle.packing.specs.Packed.{word as word_of, kind as kind_of_lem, argument as argument_of_lem}
use Rattle.sketches.specs.Moves.{program_at}
use Rattle.sketches.specs.Sketched.{point_of, listing_in}
use Rattle.beds.specs.declared.Row.{Row}
use Rattle.beds.specs.declared.Bed.{Bed}
use Rattle.beds.specs.Nodes.{field_of, form_nodes, up_to_union, up_to_cat, up_to_operand}
use Rattle.beds.specs.Bedded.{Lays, FieldIn, Bedded, LeafIs, PieceIs, SettledIs, BedStepIs, UnbracedIs}
use Rattle.beds.proofs.Lists.{fresh_operand, second_apart}
use Rattle.beds.proofs.Rows.{lays_as}
use Rattle.beds.proofs.Beds.{bed, pair, none_some, some_same, braced_is}

-- the pieces by the kinds of the tokens that they are, but for nonterminals
abbrev pieces : List ExpressionPart
pieces =
    other ∷ other ∷ other ∷ other ∷ other ∷ other ∷ other ∷ other ∷ other ∷ other
    ∷ a_leaf (some anychar) ∷ other ∷ other ∷ other ∷ other ∷ other ∷ other ∷ other ∷ other ∷ other
    ∷ other ∷ other ∷ other ∷ other ∷ other ∷ an_open ∷ a_close ∷ a_brace ∷ an_unbrace ∷ a_dot
    ∷ a_bar ∷ a_star ∷ other ∷ other ∷ a_leaf none ∷ []

abbrev pub piece_at : ℕ → ℕ → ExpressionPart
piece_at zero n = atom_if (nonterminal? n) (Atom.nonterminal n)
piece_at (suc k) n = get_or pieces (suc k) other

piece_is : (t : TextToken) → piece_of t ≡ piece_at (token_kind t) (token_number t)
piece_is (nonterminal n) = refl
piece_is (value v) = refl
piece_is (attribute m a) = marks m
  where
    marks : (m : Dollar) → other ≡ piece_at (mark_number m) a
    marks plain = refl
    marks left = refl
    marks right = refl
piece_is (name n) = refl
piece_is (start_tag n) = refl
piece_is (end_tag n) = refl
piece_is (empty_tag n) = refl
piece_is (string cs) = refl
piece_is (word CHAR) = refl
piece_is (word ECHO) = refl
piece_is (word ECHO-OFF) = refl
piece_is (word REJECT) = refl
piece_is (word PRINT) = refl
piece_is (word IF) = refl
piece_is (word THEN) = refl
piece_is (word ELSE) = refl
piece_is (word BEGIN) = refl
piece_is (word END) = refl
piece_is (word AND) = refl
piece_is (word OR) = refl
piece_is (word NOT) = refl
piece_is (word EMPTY) = refl
piece_is (sign DEFINED) = refl
piece_is (sign ASSIGNED) = refl
piece_is (sign OPEN) = refl
piece_is (sign CLOSE) = refl
piece_is (sign BRACE) = refl
piece_is (sign UNBRACE) = refl
piece_is (sign DOT) = refl
piece_is (sign BAR) = refl
piece_is (sign STAR) = refl
piece_is (sign SEMICOLON) = refl
piece_is (sign EQUALS) = refl

-- outside programs a step goes by the piece alone
by_piece : (x : Parsing) (t : TextToken) → listing_in x ≡ none → step_expression x t ≡ step_piece x (piece_of t)
by_piece (wants b l ls) t e = refl
by_piece (in_front q ls) t e = none_some (sym e)
by_piece (after e' l ls) t e = refl
by_piece (behind q f k ls) t e = none_some (sym e)
by_piece (over e' ls) t e = refl

-- pieces that no state takes
none_other : (x : Parsing) → step_piece x other ≡ none
none_other (wants b l ls) = refl
none_other (in_front q ls) = refl
none_other (after e l ls) = refl
none_other (behind q f k ls) = refl
none_other (over e ls) = refl

none_unbrace : (x : Parsing) → step_piece x an_unbrace ≡ none
none_unbrace (wants b l ls) = refl
none_unbrace (in_front q ls) = refl
none_unbrace (after e l ls) = refl
none_unbrace (behind q f k ls) = refl
none_unbrace (over e ls) = refl

module _ (b : Bed) (kind number : ℕ) where
  -- a token of a kind is a piece
  by_kind : (r : Bed) → PieceIs b (piece_at kind number) r → BedStepIs b kind number r
  by_kind r h = record {
    is = λ field x x' t k n outside s few d. h.is field x x' (
        ap (step_piece x) (sym (piece_is t ∙ ap (λ m. piece_at m (token_number t)) k ∙ ap (piece_at kind) n)) ∙ sym (by_piece x t outside) ∙ s) few d;
  }

  kind_is : (r : Bed) (k : ℕ) → kind ≡ k → PieceIs b (piece_at k number) r → BedStepIs b kind number r
  kind_is r k e h = by_kind r (subst (λ m. PieceIs b (piece_at m number) r) (sym e) h)

  -- no state takes a token of another kind
  pub other_kind : (kind ≡ 0 → ⊥) → (kind ≡ 10 → ⊥) → (kind ≡ 25 → ⊥) → (kind ≡ 26 → ⊥) → (kind ≡ 27 → ⊥) → (kind ≡ 29 → ⊥) → (kind ≡ 30 → ⊥) → (kind ≡ 31 → ⊥) → (kind ≡ 34 → ⊥) → BedStepIs b kind number b
  other_kind n0 n10 n25 n26 n27 n29 n30 n31 n34 = record { is = λ field x x' t k n outside s few d. none_some (sym (none_takes x t k) ∙ sym (by_piece x t outside) ∙ s) }
    where
      none_takes : (x : Parsing) (t : TextToken) → token_kind t ≡ kind → step_piece x (piece_of t) ≡ none
      none_takes x (nonterminal n) k = absurd (n0 (sym k))
      none_takes x (value v) k = none_other x
      none_takes x (attribute m a) k = none_other x
      none_takes x (name n) k = none_other x
      none_takes x (start_tag n) k = none_other x
      none_takes x (end_tag n) k = none_other x
      none_takes x (empty_tag n) k = none_other x
      none_takes x (string cs) k = none_other x
      none_takes x (word CHAR) k = absurd (n10 (sym k))
      none_takes x (word ECHO) k = none_other x
      none_takes x (word ECHO-OFF) k = none_other x
      none_takes x (word REJECT) k = none_other x
      none_takes x (word PRINT) k = none_other x
      none_takes x (word IF) k = none_other x
      none_takes x (word THEN) k = none_other x
      none_takes x (word ELSE) k = none_other x
      none_takes x (word BEGIN) k = none_other x
      none_takes x (word END) k = none_other x
      none_takes x (word AND) k = none_other x
      none_takes x (word OR) k = none_other x
      none_takes x (word NOT) k = none_other x
      none_takes x (word EMPTY) k = absurd (n34 (sym k))
      none_takes x (sign DEFINED) k = none_other x
      none_takes x (sign ASSIGNED) k = none_other x
      none_takes x (sign OPEN) k = absurd (n25 (sym k))
      none_takes x (sign CLOSE) k = absurd (n26 (sym k))
      none_takes x (sign BRACE) k = absurd (n27 (sym k))
      none_takes x (sign UNBRACE) k = none_unbrace x
      none_takes x (sign DOT) k = absurd (n29 (sym k))
      none_takes x (sign BAR) k = absurd (n30 (sym k))
      none_takes x (sign STAR) k = absurd (n31 (sym k))
      none_takes x (sign SEMICOLON) k = none_other x
      none_takes x (sign EQUALS) k = none_other x

  pub open_kind : (r : Bed) → kind ≡ 25 → PieceIs b an_open r → BedStepIs b kind number r
  open_kind r e h = kind_is r 25 e h

  pub close_kind : (r : Bed) → kind ≡ 26 → PieceIs b a_close r → BedStepIs b kind number r
  close_kind r e h = kind_is r 26 e h

  pub brace_kind : (r : Bed) → kind ≡ 27 → SettledIs b r → BedStepIs b kind number r
  brace_kind r e h = kind_is r 27 e (braced_is b r h)

  pub dot_kind : (r : Bed) → kind ≡ 29 → PieceIs b a_dot r → BedStepIs b kind number r
  dot_kind r e h = kind_is r 29 e h

  pub bar_kind : (r : Bed) → kind ≡ 30 → PieceIs b a_bar r → BedStepIs b kind number r
  bar_kind r e h = kind_is r 30 e h

  pub star_kind : (r : Bed) → kind ≡ 31 → PieceIs b a_star r → BedStepIs b kind number r
  star_kind r e h = kind_is r 31 e h

  pub character_is : (r : Bed) → kind ≡ 10 → LeafIs b 2 0 r → BedStepIs b kind number r
  character_is r e h = kind_is r 10 e (h.is (some anychar) refl refl)

  pub empty_is : (r : Bed) → kind ≡ 34 → LeafIs b 6 0 r → BedStepIs b kind number r
  empty_is r e h = kind_is r 34 e (h.is none refl refl)

  pub nonterminal_is : (r : Bed) → kind ≡ 0 → LeafIs b 1 (number % 256) r → BedStepIs b kind number r
  nonterminal_is r e h = kind_is r 0 e (go (nonterminal? number))
    where
      go : (d : Dec (number < nonterminals)) → PieceIs b (atom_if d (Atom.nonterminal number)) r
      go (yes l) = h.is (some (Atom.nonterminal number)) refl (omega (arith, l))
      go (no l) = record { is = λ field x x' s few d. none_some (sym (none_other x) ∙ s) }

-- behind a program: the state that the } leads to
ended_front : (q : Listing) (ls : List ExpressionLevel) (p : TextProgram) → value_of_list q ≡ some p → step_expression (in_front q ls) (sign UNBRACE) ≡ some (wants false (expression_level (some p) none none) ls)
ended_front q ls p v =
    ap (λ o. listing o (λ r. in_front r ls) (unbraces an_unbrace (value_of_list q) (λ p. wants false (expression_level (some p) none none) ls))) (list_stops first q)
    ∙ ap (λ o. unbraces an_unbrace o (λ p. wants false (expression_level (some p) none none) ls)) v

ended_behind : (q : Listing) (f : Option TextProgram) (k : Form) (ls : List ExpressionLevel) (p : TextProgram) → value_of_list q ≡ some p → step_expression (behind q f k ls) (sign UNBRACE) ≡ some (over (node f (some p) k) ls)
ended_behind q f k ls p v =
    ap (λ o. listing o (λ r. behind r f k ls) (unbraces an_unbrace (value_of_list q) (λ p. over (node f (some p) k) ls))) (list_stops second q)
    ∙ ap (λ o. unbraces an_unbrace o (λ p. over (node f (some p) k) ls)) v

same_list : (q q' : Listing) (p : TextProgram) → some q ≡ some q' → value_of_list q' ≡ some p → value_of_list q ≡ some p
same_list q q' p e v = ap value_of_list (some_same e) ∙ v

high_byte : (n : ℕ) → n ≤ 0xFFFF → n / 256 % 256 ≡ n / 256
high_byte n h = omega (arith, h)

module _ (b : Bed) (n : ℕ) where
  pub unbraced_front : (second' : Bool) → second' ≡ false
      → UnbracedIs b second' n (bed b.row (pair b.here.union b.here.cat b.here.operand true (n % 256) (n / 256 % 256)) b.around b.«open»)
  unbraced_front second' absent = record { is = go }
    where
      go : (field : TextProgram → ℕ) (x x' : Parsing) (q : Listing) (p : TextProgram) → program_at (point_of x) ≡ some (which_visit second') → listing_in x ≡ some q → value_of_list q ≡ some p → step_expression x (sign UNBRACE) ≡ some x'
          → n ≡ field p → n ≤ 0xFFFF → Bedded field x b → Bedded field x' (bed b.row (pair b.here.union b.here.cat b.here.operand true (n % 256) (n / 256 % 256)) b.around b.«open»)
      go field (wants w l ls) x' q p v e t s i few h = none_some e
      go field (in_front q₀ ls) x' q p v e t s i few h =
          subst (λ z. Bedded field z (bed b.row (pair b.here.union b.here.cat b.here.operand true (n % 256) (n / 256 % 256)) b.around b.«open»))
          (some_same (sym (ended_front q₀ ls p (same_list q₀ q p e t)) ∙ s))
          (record {
            begun = tt;
            few_open = h.few_open;
            laid = lays_as (sym (fresh_operand field ls)) h.laid;
            here_is = ap (λ o. pair o.union o.cat o.operand true (n % 256) (n / 256 % 256)) h.here_is
                ∙ ap (λ m. pair (length (up_to_union field ls)) (length (up_to_cat field fresh_expression ls)) (length (up_to_operand field fresh_expression ls)) true (n % 256) m) (high_byte n few)
                ∙ ap (λ m. pair (length (up_to_union field ls)) (length (up_to_cat field fresh_expression ls)) (length (up_to_operand field fresh_expression ls)) true (m % 256) (m / 256)) i;
            around_are = h.around_are;
          })
      go field (after a l ls) x' q p v e t s i few h = none_some e
      go field (behind q₀ f k ls) x' q p v e t s i few h = absurd (
          let z : some second ≡ some first = v ∙ ap (λ o. some (which_visit o)) absent in
          let y : ◌≡◌ {A = ℕ} 0 1 = cc in
          omega arith)
      go field (over a ls) x' q p v e t s i few h = none_some e

  pub unbraced_behind : (second' : Bool) (row : Row) → second' ≡ true → FieldIn b.row (b.here.union + 4) (n % 256) (n / 256 % 256) row → UnbracedIs b second' n (bed row b.here b.around b.«open»)
  unbraced_behind second' row there put = record { is = go }
    where
      go : (field : TextProgram → ℕ) (x x' : Parsing) (q : Listing) (p : TextProgram) → program_at (point_of x) ≡ some (which_visit second') → listing_in x ≡ some q → value_of_list q ≡ some p → step_expression x (sign UNBRACE) ≡ some x'
          → n ≡ field p → n ≤ 0xFFFF → Bedded field x b → Bedded field x' (bed row b.here b.around b.«open»)
      go field (wants w l ls) x' q p v e t s i few h = none_some e
      go field (in_front q₀ ls) x' q p v e t s i few h = absurd (
          let z : some first ≡ some second = v ∙ ap (λ o. some (which_visit o)) there in
          let y : ◌≡◌ {A = ℕ} 0 1 = cc in
          omega arith)
      go field (after a l ls) x' q p v e t s i few h = none_some e
      go field (behind q₀ f k ls) x' q p v e t s i few h =
          let u = up_to_union field ls in
          let front = kind_of_lem k ∷ argument_of_lem k ∷ word_of (field_of field f) [] in
          let place : b.here.union + 4 ≡ length (u ++ front) = ap (λ o. o.union + 4) h.here_is ∙ sym (length-append u front) in
          let laid : Lays ((u ++ front) ++ (n % 256) ∷ (n / 256 % 256) ∷ form_nodes field k) row = put.is (u ++ front) (form_nodes field k) 255 255 (lays_as (second_apart field u f none k) h.laid) place in
          let high : Lays ((u ++ front) ++ (n % 256) ∷ (n / 256) ∷ form_nodes field k) row = lays_as (ap (λ m. (u ++ front) ++ (n % 256) ∷ m ∷ form_nodes field k) (high_byte n few)) laid in
          let its : Lays ((u ++ front) ++ word_of (field p) (form_nodes field k)) row = lays_as (ap (λ m. (u ++ front) ++ word_of m (form_nodes field k)) i) high in
          subst (λ z. Bedded field z (bed row b.here b.around b.«open»)) (some_same (sym (ended_behind q₀ f k ls p (same_list q₀ q p e t)) ∙ s))
          (record { begun = tt; few_open = h.few_open; laid = lays_as (sym (second_apart field u f (some p) k)) its; here_is = h.here_is; around_are = h.around_are })
      go field (over a ls) x' q p v e t s i few h = none_some e
