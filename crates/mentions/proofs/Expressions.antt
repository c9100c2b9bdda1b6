-- What an expression mentions, token by token. Assumes nothing.
use mathlib.Core.Path.{◌≡◌, refl, sym, ◌∙◌, ap, subst}
use mathlib.Core.Logic.{◌⊎◌, inl, inr}
use mathlib.Core.Bool.{Bool, true, false}
use mathlib.Core.Option.{Option, none, some}
use mathlib.Core.List.{List, [], ◌∷◌, ◌++◌, append_assoc, append-nil}
use Prim.Native.Nat.{ℕ}
use lib.Dec.{ltb}
use lib.ListN.{length}
use Rattle.expressions.specs.Expr.{Atom}
use Rattle.programs.specs.Limits.{Visit, first, second}
use Rattle.notation.specs.Program.{TextProgram, done}
use Rattle.notation.specs.Rules.{Tree, node, Form, atom, cat, alt, star, empty}
use Rattle.notation.specs.Statements.{parentheses}
use Rattle.notation.specs.Tokens.{TextToken, nonterminal, value, attribute, name, start_tag, end_tag, empty_tag, string, word, Keyword, CHAR, ECHO, ECHO-OFF, REJECT, PRINT, IF, THEN, ELSE, BEGIN, END, AND, OR, NOT, EMPTY, sign, Sign, DEFINED, ASSIGNED, OPEN, CLOSE, BRACE, UNBRACE, DOT, BAR, STAR, SEMICOLON, EQUALS}
use Rattle.encoding.specs.Mentions.{Mention, a_program, in_program, in_braces, in_tree, in_form, in_content}
use Rattle.reading.specs.Statements.{Listing, list_start, step_statements, value_of_list}
use Rattle.reading.specs.Expressions.{ExpressionPart, a_leaf, a_star, a_dot, a_bar, an_open, a_close, a_brace, an_unbrace, other, nonterminal?, word_piece, piece_of, atom_if, ExpressionLevel, expression_level, fresh_expression, joined_cat, joined_alt, whole_expression, one_of, fronted, fronted_with, Parsing, wants, in_front, after, behind, over, expression_opened, expression_closed, braced, backed, leaf_form, step_piece, unbraces, listing, step_expression, whole_value, empty_value, value_of_content}
use Rattle.reading.proofs.Telling.{none≢some}
use Rattle.sketches.specs.Sketched.{listing_in}
use Rattle.mentions.specs.SoFar.{in_listing, in_paren, in_parens, in_parsing, in_token, ended, ended_by, whole_in, mention_with, TidyList, TidyParsing}
use Rattle.mentions.proofs.Statements.{ListGrown, list_grows, list_value, no_unbrace}

abbrev Ms : Type 0
Ms = List Mention

cat_mentions : (c : Option Tree) (e : Tree) → in_tree (joined_cat c e) ≡ in_content c ++ in_tree e
cat_mentions none e = refl
cat_mentions (some c) e = append-nil (in_tree c ++ in_tree e)

alt_mentions : (c : Option Tree) (e : Tree) → in_tree (joined_alt c e) ≡ in_content c ++ in_tree e
alt_mentions none e = refl
alt_mentions (some c) e = append-nil (in_tree c ++ in_tree e)

whole_mentions : (l : ExpressionLevel) (e : Tree) → in_tree (whole_expression l e) ≡ in_content l.alt_left ++ (in_content l.cat_left ++ in_tree e)
whole_mentions l e = alt_mentions l.alt_left (joined_cat l.cat_left e) ∙ ap (λ (z : Ms). in_content l.alt_left ++ z) (cat_mentions l.cat_left e)

fronted_mentions : (b : Option TextProgram) (e e' : Tree) → fronted b e ≡ some e' → in_tree e' ≡ in_braces b ++ in_tree e
fronted_mentions none (node f g k) e' h = let same : node f g k ≡ e' = cc in ap in_tree (sym same)
fronted_mentions (some p) (node none g k) e' h = let same : node (some p) g k ≡ e' = cc in ap in_tree (sym same)
fronted_mentions (some p) (node (some q) g k) e' h = absurd (none≢some refl h)

-- four in a row
to_the_front : (a b c d e : Ms) → a ++ (b ++ (c ++ (d ++ e))) ≡ (a ++ (b ++ (c ++ d))) ++ e
to_the_front a b c d e =
    ap (λ (z : Ms). a ++ (b ++ z)) (sym (append_assoc c d e)) ∙ ap (λ (z : Ms). a ++ z) (sym (append_assoc b (c ++ d) e)) ∙ sym (append_assoc a (b ++ (c ++ d)) e)

-- the tree of a pair of parentheses, with the program in front
closed_mentions : (l : ExpressionLevel) (ls : List ExpressionLevel) (e e' : Tree) → fronted l.before (whole_expression l e) ≡ some e' → in_parens ls ++ in_tree e' ≡ in_parens (l ∷ ls) ++ in_tree e
closed_mentions l ls e e' h =
    ap (λ (z : Ms). in_parens ls ++ z) (fronted_mentions l.before (whole_expression l e) e' h ∙ ap (λ (z : Ms). in_braces l.before ++ z) (whole_mentions l e))
    ∙ to_the_front (in_parens ls) (in_braces l.before) (in_content l.alt_left) (in_content l.cat_left) (in_tree e)

-- a token outside programs mentions what it says
pub outside_mentions : (t : TextToken) → mention_with none t ≡ in_token t
outside_mentions (nonterminal n) = refl
outside_mentions (value v) = refl
outside_mentions (attribute m a) = refl
outside_mentions (name n) = refl
outside_mentions (start_tag n) = refl
outside_mentions (end_tag n) = refl
outside_mentions (empty_tag n) = refl
outside_mentions (string cs) = refl
outside_mentions (word w) = refl
outside_mentions (sign DEFINED) = refl
outside_mentions (sign ASSIGNED) = refl
outside_mentions (sign OPEN) = refl
outside_mentions (sign CLOSE) = refl
outside_mentions (sign BRACE) = refl
outside_mentions (sign UNBRACE) = refl
outside_mentions (sign DOT) = refl
outside_mentions (sign BAR) = refl
outside_mentions (sign STAR) = refl
outside_mentions (sign SEMICOLON) = refl
outside_mentions (sign EQUALS) = refl

-- and so does one that a program goes on with
pub inside_mentions : (v : Visit) (q q' : Listing) (t : TextToken) → step_statements v q t ≡ some q' → mention_with (some q) t ≡ in_token t
inside_mentions v q q' (nonterminal n) e = refl
inside_mentions v q q' (value n) e = refl
inside_mentions v q q' (attribute m a) e = refl
inside_mentions v q q' (name n) e = refl
inside_mentions v q q' (start_tag n) e = refl
inside_mentions v q q' (end_tag n) e = refl
inside_mentions v q q' (empty_tag n) e = refl
inside_mentions v q q' (string cs) e = refl
inside_mentions v q q' (word w) e = refl
inside_mentions v q q' (sign DEFINED) e = refl
inside_mentions v q q' (sign ASSIGNED) e = refl
inside_mentions v q q' (sign OPEN) e = refl
inside_mentions v q q' (sign CLOSE) e = refl
inside_mentions v q q' (sign BRACE) e = refl
inside_mentions v q q' (sign UNBRACE) e = absurd (none≢some (no_unbrace v q) e)
inside_mentions v q q' (sign DOT) e = refl
inside_mentions v q q' (sign BAR) e = refl
inside_mentions v q q' (sign STAR) e = refl
inside_mentions v q q' (sign SEMICOLON) e = refl
inside_mentions v q q' (sign EQUALS) e = refl

-- only a } ends a program
pub record Unbraced {S : Type 0} (t : TextToken) (o : Option TextProgram) (f : TextProgram → S) (s : S) : Type 0 where
  pub token_is : t ≡ sign UNBRACE
  pub program : TextProgram
  pub is : o ≡ some program
  pub behind : f program ≡ s

pub unbraced : {S : Type 0} (t : TextToken) (o : Option TextProgram) (f : TextProgram → S) (s : S) → unbraces (piece_of t) o f ≡ some s → Unbraced t o f s
unbraced {S} (nonterminal n) o f s e = on (nonterminal? n) e
  where
    on : {P : Type 0} (d : Dec P) → unbraces (atom_if d (Atom.nonterminal n)) o f ≡ some s → Unbraced (nonterminal n) o f s
    on (yes h) k = absurd (none≢some refl k)
    on (no h) k = absurd (none≢some refl k)
unbraced (value n) o f s e = absurd (none≢some refl e)
unbraced (attribute m a) o f s e = absurd (none≢some refl e)
unbraced (name n) o f s e = absurd (none≢some refl e)
unbraced (start_tag n) o f s e = absurd (none≢some refl e)
unbraced (end_tag n) o f s e = absurd (none≢some refl e)
unbraced (empty_tag n) o f s e = absurd (none≢some refl e)
unbraced (string cs) o f s e = absurd (none≢some refl e)
unbraced (word w) o f s e = absurd (none≢some (words w) e)
  where
    words : (w : Keyword) → unbraces (word_piece w) o f ≡ none
    words CHAR = refl
    words ECHO = refl
    words ECHO-OFF = refl
    words REJECT = refl
    words PRINT = refl
    words IF = refl
    words THEN = refl
    words ELSE = refl
    words BEGIN = refl
    words END = refl
    words AND = refl
    words OR = refl
    words NOT = refl
    words EMPTY = refl
unbraced (sign DEFINED) o f s e = absurd (none≢some refl e)
unbraced (sign ASSIGNED) o f s e = absurd (none≢some refl e)
unbraced (sign OPEN) o f s e = absurd (none≢some refl e)
unbraced (sign CLOSE) o f s e = absurd (none≢some refl e)
unbraced (sign BRACE) o f s e = absurd (none≢some refl e)
unbraced (sign UNBRACE) none f s e = absurd (none≢some refl e)
unbraced (sign UNBRACE) (some p) f s e = record { token_is = refl; program = p; is = refl; behind = let same : f p ≡ s = cc in same }
unbraced (sign DOT) o f s e = absurd (none≢some refl e)
unbraced (sign BAR) o f s e = absurd (none≢some refl e)
unbraced (sign STAR) o f s e = absurd (none≢some refl e)
unbraced (sign SEMICOLON) o f s e = absurd (none≢some refl e)
unbraced (sign EQUALS) o f s e = absurd (none≢some refl e)

-- what is mentioned with the }
pub unbraced_mentions : (t : TextToken) (q : Listing) (p : TextProgram) → t ≡ sign UNBRACE → value_of_list q ≡ some p → mention_with (some q) t ≡ a_program p ∷ []
unbraced_mentions t q p h e = ap (mention_with (some q)) h ∙ ap ended e

piece_silent : (t : TextToken) → (piece_of t ≡ other) ⊎ (in_token t ≡ [])
piece_silent (nonterminal n) = inr refl
piece_silent (value n) = inr refl
piece_silent (attribute m a) = inr refl
piece_silent (name n) = inl refl
piece_silent (start_tag n) = inl refl
piece_silent (end_tag n) = inl refl
piece_silent (empty_tag n) = inl refl
piece_silent (string cs) = inl refl
piece_silent (word w) = inr refl
piece_silent (sign s) = inr refl

pub record ParsingGrown (x ms : Ms) (y : Parsing) : Type 0 where
  pub tidy : TidyParsing y
  pub grown : in_parsing y ≡ x ++ ms

grown_to : (x ms : Ms) (y z : Parsing) → some y ≡ some z → TidyParsing y → in_parsing y ≡ x ++ ms → ParsingGrown x ms z
grown_to x ms y z e h k = let same : y ≡ z = cc in subst (ParsingGrown x ms) same (record { tidy = h; grown = k })

silently : (x : Ms) (y z : Parsing) → some y ≡ some z → TidyParsing y → in_parsing y ≡ x → ParsingGrown x [] z
silently x y z e h k = grown_to x [] y z e h (k ∙ sym (append-nil x))

opened_grown : (b : Bool) (l : ExpressionLevel) (ls : List ExpressionLevel) (z : Parsing) → expression_opened b l ls ≡ some z → ParsingGrown (in_parens (l ∷ ls)) [] z
opened_grown true l ls z e = silently _ (wants true fresh_expression (l ∷ ls)) z e refl (append-nil (in_parens (l ∷ ls)))
opened_grown false l ls z e = absurd (none≢some refl e)

braced_grown : (b : Bool) (l : ExpressionLevel) (ls : List ExpressionLevel) (z : Parsing) → TidyParsing (wants b l ls) → braced b ls ≡ some z → ParsingGrown (in_parens (l ∷ ls)) [] z
braced_grown true l ls z d e = silently _ (in_front list_start ls) z e refl (ap (λ (m : Ms). in_parens ls ++ m) (sym (ap in_paren d)))
braced_grown false l ls z d e = absurd (none≢some refl e)

closed_grown : (x : Ms) (o : Option Tree) (ls : List ExpressionLevel) (z : Parsing) → ((e : Tree) → o ≡ some e → in_parens ls ++ in_tree e ≡ x) → expression_closed ls o ≡ some z → ParsingGrown x [] z
closed_grown x none ls z f e = absurd (none≢some refl e)
closed_grown x (some u) [] z f e = absurd (none≢some refl e)
closed_grown x (some u) (m ∷ ls) z f e = silently x (after u m ls) z e tt (f u refl)

backed_grown : (x : Ms) (o : Option Tree) (ls : List ExpressionLevel) (z : Parsing) → ((e : Tree) → o ≡ some e → in_parens ls ++ in_tree e ≡ x) → backed o ls ≡ some z → ParsingGrown x [] z
backed_grown x none ls z f e = absurd (none≢some refl e)
backed_grown x (some (node a none k)) ls z f e = silently x (behind list_start a k ls) z e refl (f (node a none k) refl)
backed_grown x (some (node a (some g) k)) ls z f e = absurd (none≢some refl e)

-- outside programs nothing is mentioned
piece_grown : (x z : Parsing) (k : ExpressionPart) → TidyParsing x → step_piece x k ≡ some z → ParsingGrown (in_parsing x) [] z
piece_grown (wants b l ls) z (a_leaf none) d e = silently _ (after (node none none empty) l ls) z e tt (append-nil (in_parens (l ∷ ls)))
piece_grown (wants b l ls) z (a_leaf (some a)) d e = silently _ (after (node none none (atom a)) l ls) z e tt (append-nil (in_parens (l ∷ ls)))
piece_grown (wants b l ls) z a_star d e = absurd (none≢some refl e)
piece_grown (wants b l ls) z a_dot d e = absurd (none≢some refl e)
piece_grown (wants b l ls) z a_bar d e = absurd (none≢some refl e)
piece_grown (wants b l ls) z an_open d e = opened_grown (ltb (length ls) parentheses) l ls z e
piece_grown (wants b l ls) z a_close d e = absurd (none≢some refl e)
piece_grown (wants b l ls) z a_brace d e = braced_grown b l ls z d e
piece_grown (wants b l ls) z an_unbrace d e = absurd (none≢some refl e)
piece_grown (wants b l ls) z other d e = absurd (none≢some refl e)
piece_grown (in_front q ls) z k d e = absurd (none≢some refl e)
piece_grown (after u l ls) z (a_leaf a) d e = absurd (none≢some refl e)
piece_grown (after u l ls) z a_star d e = silently _ (after (node none none (star u)) l ls) z e tt (ap (λ (m : Ms). in_parens (l ∷ ls) ++ m) (append-nil (in_tree u)))
piece_grown (after u l ls) z a_dot d e =
    silently _ (wants false (expression_level l.before l.alt_left (some (joined_cat l.cat_left u))) ls) z e tt
    (ap (λ (m : Ms). in_parens ls ++ (in_braces l.before ++ (in_content l.alt_left ++ m))) (cat_mentions l.cat_left u)
    ∙ to_the_front (in_parens ls) (in_braces l.before) (in_content l.alt_left) (in_content l.cat_left) (in_tree u))
piece_grown (after u l ls) z a_bar d e =
    silently _ (wants false (expression_level l.before (some (whole_expression l u)) none) ls) z e tt
    (ap (λ (m : Ms). in_parens ls ++ (in_braces l.before ++ m)) (append-nil (in_tree (whole_expression l u)) ∙ whole_mentions l u)
    ∙ to_the_front (in_parens ls) (in_braces l.before) (in_content l.alt_left) (in_content l.cat_left) (in_tree u))
piece_grown (after u l ls) z an_open d e = absurd (none≢some refl e)
piece_grown (after u l ls) z a_close d e = closed_grown _ (fronted l.before (whole_expression l u)) ls z (λ w h. closed_mentions l ls u w h) e
piece_grown (after u l ls) z a_brace d e = backed_grown _ (fronted l.before (whole_expression l u)) ls z (λ w h. closed_mentions l ls u w h) e
piece_grown (after u l ls) z an_unbrace d e = absurd (none≢some refl e)
piece_grown (after u l ls) z other d e = absurd (none≢some refl e)
piece_grown (behind q f k ls) z j d e = absurd (none≢some refl e)
piece_grown (over u ls) z (a_leaf a) d e = absurd (none≢some refl e)
piece_grown (over u ls) z a_star d e = absurd (none≢some refl e)
piece_grown (over u ls) z a_dot d e = absurd (none≢some refl e)
piece_grown (over u ls) z a_bar d e = absurd (none≢some refl e)
piece_grown (over u ls) z an_open d e = absurd (none≢some refl e)
piece_grown (over u ls) z a_close d e = closed_grown _ (some u) ls z (λ w h. let same : u ≡ w = cc in ap (λ (m : Tree). in_parens ls ++ in_tree m) (sym same)) e
piece_grown (over u ls) z a_brace d e = absurd (none≢some refl e)
piece_grown (over u ls) z an_unbrace d e = absurd (none≢some refl e)
piece_grown (over u ls) z other d e = absurd (none≢some refl e)

other_stops : (x : Parsing) → step_piece x other ≡ none
other_stops (wants b l ls) = refl
other_stops (in_front q ls) = refl
other_stops (after u l ls) = refl
other_stops (behind q f k ls) = refl
other_stops (over u ls) = refl

plain_grown : (x z : Parsing) (t : TextToken) → TidyParsing x → step_piece x (piece_of t) ≡ some z → ParsingGrown (in_parsing x) (mention_with none t) z
plain_grown x z t d e = on (piece_silent t)
  where
    on : (piece_of t ≡ other) ⊎ (in_token t ≡ []) → ParsingGrown (in_parsing x) (mention_with none t) z
    on (inl h) = absurd (none≢some (ap (step_piece x) h ∙ other_stops x) e)
    on (inr h) = subst (λ (m : Ms). ParsingGrown (in_parsing x) m z) (sym (outside_mentions t ∙ h)) (piece_grown x z (piece_of t) d e)

front_grown : (q : Listing) (ls : List ExpressionLevel) (z : Parsing) (t : TextToken) (o : Option Listing) → TidyList q → step_statements first q t ≡ o
    → listing o (λ r. in_front r ls) (unbraces (piece_of t) (value_of_list q) (λ p. wants false (expression_level (some p) none none) ls)) ≡ some z → ParsingGrown (in_parens ls ++ in_listing q) (mention_with (some q) t) z
front_grown q ls z t (some r) d s e =
    let g = list_grows first q r t d s in
    grown_to _ _ (in_front r ls) z e g.tidy
    (ap (λ (m : Ms). in_parens ls ++ m) (g.grown ∙ ap (λ (m : Ms). in_listing q ++ m) (sym (inside_mentions first q r t s))) ∙ sym (append_assoc (in_parens ls) (in_listing q) (mention_with (some q) t)))
front_grown q ls z t none d s e =
    let u = unbraced t (value_of_list q) (λ p. wants false (expression_level (some p) none none) ls) z e in
    let p = u.program in
    grown_to _ _ (wants false (expression_level (some p) none none) ls) z (ap some u.behind) tt
    (ap (λ (m : Ms). in_parens ls ++ m) (append-nil (in_braces (some p)) ∙ ap (λ (m : Ms). m ++ a_program p ∷ []) (sym (list_value q p d u.is))
    ∙ ap (λ (m : Ms). in_listing q ++ m) (sym (unbraced_mentions t q p u.token_is u.is)))
    ∙ sym (append_assoc (in_parens ls) (in_listing q) (mention_with (some q) t)))

back_grown : (q : Listing) (f : Option TextProgram) (k : Form) (ls : List ExpressionLevel) (z : Parsing) (t : TextToken) (o : Option Listing) → TidyList q → step_statements second q t ≡ o
    → listing o (λ r. behind r f k ls) (unbraces (piece_of t) (value_of_list q) (λ p. over (node f (some p) k) ls)) ≡ some z
    → ParsingGrown (in_parens ls ++ (in_braces f ++ (in_form k ++ in_listing q))) (mention_with (some q) t) z
back_grown q f k ls z t (some r) d s e =
    let g = list_grows second q r t d s in
    grown_to _ _ (behind r f k ls) z e g.tidy
    (ap (λ (m : Ms). in_parens ls ++ (in_braces f ++ (in_form k ++ m))) (g.grown ∙ ap (λ (m : Ms). in_listing q ++ m) (sym (inside_mentions second q r t s)))
    ∙ to_the_front (in_parens ls) (in_braces f) (in_form k) (in_listing q) (mention_with (some q) t))
back_grown q f k ls z t none d s e =
    let u = unbraced t (value_of_list q) (λ p. over (node f (some p) k) ls) z e in
    let p = u.program in
    grown_to _ _ (over (node f (some p) k) ls) z (ap some u.behind) tt
    (ap (λ (m : Ms). in_parens ls ++ (in_braces f ++ (in_form k ++ m))) (ap (λ (m : Ms). m ++ a_program p ∷ []) (sym (list_value q p d u.is))
    ∙ ap (λ (m : Ms). in_listing q ++ m) (sym (unbraced_mentions t q p u.token_is u.is)))
    ∙ to_the_front (in_parens ls) (in_braces f) (in_form k) (in_listing q) (mention_with (some q) t))

pub parsing_grows : (x z : Parsing) (t : TextToken) → TidyParsing x → step_expression x t ≡ some z → ParsingGrown (in_parsing x) (mention_with (listing_in x) t) z
parsing_grows (wants b l ls) z t d e = plain_grown (wants b l ls) z t d e
parsing_grows (in_front q ls) z t d e = front_grown q ls z t (step_statements first q t) d refl e
parsing_grows (after u l ls) z t d e = plain_grown (after u l ls) z t d e
parsing_grows (behind q f k ls) z t d e = back_grown q f k ls z t (step_statements second q t) d refl e
parsing_grows (over u ls) z t d e = plain_grown (over u ls) z t d e

-- what stands between a tag's parentheses mentions what was read of it
pub record ContentIs (x : Parsing) (e : Option Tree) : Type 0 where
  pub no_program : listing_in x ≡ none
  pub mentions : in_parsing x ≡ in_content e

whole_content : (ls : List ExpressionLevel) (o : Option Tree) (e : Option Tree) (x : Parsing) → whole_value ls o ≡ some e → listing_in x ≡ none → ((u : Tree) → ls ≡ [] → o ≡ some u → in_parsing x ≡ in_tree u) → ContentIs x e
whole_content [] none e x h n f = absurd (none≢some refl h)
whole_content [] (some u) e x h n f = let same : some u ≡ e = cc in record { no_program = n; mentions = f u refl refl ∙ ap in_content same }
whole_content (l ∷ ls) o e x h n f = absurd (none≢some refl h)

pub content_value : (x : Parsing) (e : Option Tree) → TidyParsing x → value_of_content x ≡ some e → ContentIs x e
content_value (wants true l []) e d h = let same : none ≡ e = cc in record { no_program = refl; mentions = ap in_paren d ∙ ap in_content same }
content_value (wants true l (m ∷ ls)) e d h = absurd (none≢some refl h)
content_value (wants false l ls) e d h = absurd (none≢some refl h)
content_value (in_front q ls) e d h = absurd (none≢some refl h)
content_value (after u l ls) e d h =
    whole_content ls (fronted l.before (whole_expression l u)) e (after u l ls) h refl (λ w a b. sym (closed_mentions l ls u w b) ∙ ap (λ (m : List ExpressionLevel). in_parens m ++ in_tree w) a)
content_value (behind q f k ls) e d h = absurd (none≢some refl h)
content_value (over u ls) e d h = whole_content ls (some u) e (over u ls) h refl (λ w a b. let same : u ≡ w = cc in ap (λ (m : List ExpressionLevel). in_parens m ++ in_tree u) a ∙ ap in_tree same)
