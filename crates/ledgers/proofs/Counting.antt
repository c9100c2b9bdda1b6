-- How many tags, strings and programs a row of tokens has mentioned, and room for them. Assumes nothing.
use mathlib.Core.Path.{◌≡◌, refl, sym, ◌∙◌, ap, ap₂, subst}
use mathlib.Core.Option.{Option, none, some}
use mathlib.Core.List.{List, [], ◌∷◌, ◌++◌, append_assoc, append-nil}
use Prim.Native.Nat.{ℕ, ◌+◌, ◌≤◌}
use native.Mathlib.Omega.{arith}
use lib.ListN.{length, take, length-append}
use lib.Seq.{take-append_seam}
use Rattle.limits.specs.Limits.{most_tags, most_program_bytes, most_string_bytes}
use Rattle.programs.specs.Limits.{first, second}
use Rattle.notation.specs.Program.{TextProgram}
use Rattle.notation.specs.Rules.{Rules}
use Rattle.notation.specs.Tokens.{TextToken, nonterminal, value, attribute, name, start_tag, end_tag, empty_tag, string, word, sign, Sign, DEFINED, ASSIGNED, OPEN, CLOSE, BRACE, UNBRACE, DOT, BAR, STAR, SEMICOLON, EQUALS}
use Rattle.encoding.specs.Mentions.{Mention, a_tag, a_string, a_program, in_rules, tags_mentioned, strings_mentioned, programs_mentioned}
use Rattle.encoding.specs.Distinct.{added, distinct, run_together}
use Rattle.encoding.specs.Encoded.{bytes_of_each, Room}
use Rattle.reading.specs.Machine.{and_then, walk}
use Rattle.reading.specs.Statements.{Listing, step_statements, value_of_list}
use Rattle.reading.specs.Expressions.{Parsing, wants, in_front, after, behind, over, an_unbrace, unbraces, listing, step_expression, value_of_content}
use Rattle.reading.specs.Rules.{other, Progress, beginning, first_word, named, defined, own_front, wants_tag, tagged, within, closed, own_back, complete, parsing, closes_content, step_rules}
use Rattle.reading.proofs.Telling.{none≢some}
use Rattle.sketches.specs.Sketched.{listing_in, listing_of}
use Rattle.stores.proofs.Grows.{grows_behind}
use Rattle.stores.proofs.Behind.{together}
use Rattle.mentions.specs.SoFar.{so_far, ended_by, whole_in, mention_of, Tidy}
use Rattle.mentions.proofs.Statements.{no_unbrace}
use Rattle.mentions.proofs.Rules.{grows_by_token}
use Rattle.writing.specs.TooMany.{programs_ended, HowMany, plus_each, counted, up_to, RoomFor}
use Rattle.ledgers.specs.Space.{SpaceFor}

abbrev Ms : Type 0
Ms = List Mention

tags_append : (ms ns : Ms) → tags_mentioned (ms ++ ns) ≡ tags_mentioned ms ++ tags_mentioned ns
tags_append [] ns = refl
tags_append (a_tag n ∷ ms) ns = ap (λ (z : List (List ℕ)). n ∷ z) (tags_append ms ns)
tags_append (a_string s ∷ ms) ns = tags_append ms ns
tags_append (a_program p ∷ ms) ns = tags_append ms ns

strings_append : (ms ns : Ms) → strings_mentioned (ms ++ ns) ≡ strings_mentioned ms ++ strings_mentioned ns
strings_append [] ns = refl
strings_append (a_tag n ∷ ms) ns = strings_append ms ns
strings_append (a_string s ∷ ms) ns = ap (λ (z : List (List ℕ)). s ∷ z) (strings_append ms ns)
strings_append (a_program p ∷ ms) ns = strings_append ms ns

programs_append : (ms ns : Ms) → programs_mentioned (ms ++ ns) ≡ programs_mentioned ms ++ programs_mentioned ns
programs_append [] ns = refl
programs_append (a_tag n ∷ ms) ns = programs_append ms ns
programs_append (a_string s ∷ ms) ns = programs_append ms ns
programs_append (a_program p ∷ ms) ns = ap (λ (z : List TextProgram). p ∷ z) (programs_append ms ns)

bytes_append : (r : Rules) (ps qs : List TextProgram) → bytes_of_each r (ps ++ qs) ≡ bytes_of_each r ps ++ bytes_of_each r qs
bytes_append r [] qs = refl
bytes_append r (p ∷ ps) qs = ap₂ (λ (x : List ℕ) (z : List (List ℕ)). x ∷ z) refl (bytes_append r ps qs)

bytes_many : (r : Rules) (ps : List TextProgram) → length (bytes_of_each r ps) ≡ length ps
bytes_many r [] = refl
bytes_many r (p ∷ ps) = omega (arith, bytes_many r ps)

-- rows of each sort, where the mentions begin so
pub tags_begin : (ms more all : Ms) → all ≡ ms ++ more → tags_mentioned all ≡ tags_mentioned ms ++ tags_mentioned more
tags_begin ms more all e = ap tags_mentioned e ∙ tags_append ms more

pub strings_begin : (ms more all : Ms) → all ≡ ms ++ more → strings_mentioned all ≡ strings_mentioned ms ++ strings_mentioned more
strings_begin ms more all e = ap strings_mentioned e ∙ strings_append ms more

pub programs_begin : (r : Rules) (ms more all : Ms) → all ≡ ms ++ more → bytes_of_each r (programs_mentioned all) ≡ bytes_of_each r (programs_mentioned ms) ++ bytes_of_each r (programs_mentioned more)
programs_begin r ms more all e = ap (λ (z : Ms). bytes_of_each r (programs_mentioned z)) e ∙ ap (bytes_of_each r) (programs_append ms more) ∙ bytes_append r (programs_mentioned ms) (programs_mentioned more)

pub record Counted (ms : Ms) (n : HowMany) : Type 0 where
  pub tags : length (tags_mentioned ms) ≡ n.tags
  pub strings : length (strings_mentioned ms) ≡ n.strings
  pub programs : length (programs_mentioned ms) ≡ n.programs

-- the rows of a sort that are counted are the first ones
first_ones : (l more all : List (List ℕ)) (n : ℕ) → all ≡ l ++ more → length l ≡ n → take n all ≡ l
first_ones l more all n e c = ap₂ (λ (k : ℕ) (z : List (List ℕ)). take k z) (sym c) e ∙ take-append_seam l more

module _ (r : Rules) (ms more : Ms) (n : HowMany) (e : in_rules r.productions ≡ ms ++ more) (c : Counted ms n) where
  abbrev all : Ms
  all = in_rules r.productions

  tags_are : take n.tags (tags_mentioned all) ≡ tags_mentioned ms
  tags_are = first_ones (tags_mentioned ms) (tags_mentioned more) (tags_mentioned all) n.tags (tags_begin ms more all e) c.tags

  strings_are : take n.strings (strings_mentioned all) ≡ strings_mentioned ms
  strings_are = first_ones (strings_mentioned ms) (strings_mentioned more) (strings_mentioned all) n.strings (strings_begin ms more all e) c.strings

  programs_are : take n.programs (bytes_of_each r (programs_mentioned all)) ≡ bytes_of_each r (programs_mentioned ms)
  programs_are =
      first_ones (bytes_of_each r (programs_mentioned ms)) (bytes_of_each r (programs_mentioned more)) (bytes_of_each r (programs_mentioned all)) n.programs (programs_begin r ms more all e)
      (bytes_many r (programs_mentioned ms) ∙ c.programs)

  pub room_counted : SpaceFor r ms → RoomFor r n
  room_counted s = record {
    few_tags = subst (λ (z : List (List ℕ)). length (distinct z) ≤ most_tags) (sym tags_are) s.few_tags;
    short_programs = subst (λ (z : List (List ℕ)). length (run_together (distinct z)) ≤ most_program_bytes) (sym programs_are) s.short_programs;
    short_strings = subst (λ (z : List (List ℕ)). length (run_together (distinct z)) ≤ most_string_bytes) (sym strings_are) s.short_strings;
  }

  pub counted_room : RoomFor r n → SpaceFor r ms
  counted_room s = record {
    few_tags = subst (λ (z : List (List ℕ)). length (distinct z) ≤ most_tags) tags_are s.few_tags;
    short_programs = subst (λ (z : List (List ℕ)). length (run_together (distinct z)) ≤ most_program_bytes) programs_are s.short_programs;
    short_strings = subst (λ (z : List (List ℕ)). length (run_together (distinct z)) ≤ most_string_bytes) strings_are s.short_strings;
  }

-- those that stand first are no more, and have no more bytes, than all
fewer : (l more all : List (List ℕ)) → all ≡ l ++ more → length (distinct l) ≤ length (distinct all)
fewer l more all e = omega (arith, ap (λ (z : List (List ℕ)). length (distinct z)) e, ap length (grows_behind l more), length-append (distinct l) (added (distinct l) more))

shorter : (l more all : List (List ℕ)) → all ≡ l ++ more → length (run_together (distinct l)) ≤ length (run_together (distinct all))
shorter l more all e =
    omega (
      arith,
      ap (λ (z : List (List ℕ)). length (run_together (distinct z))) e,
      ap (λ (z : List (List ℕ)). length (run_together z)) (grows_behind l more),
      ap length (together (distinct l) (added (distinct l) more)),
      length-append (run_together (distinct l)) (run_together (added (distinct l) more)),
    )

pub room_space : (r : Rules) (ms more : Ms) → in_rules r.productions ≡ ms ++ more → Room r → SpaceFor r ms
room_space r ms more e o =
    let all : Ms = in_rules r.productions in
    record {
      few_tags = omega (arith, o.few_tags, fewer (tags_mentioned ms) (tags_mentioned more) (tags_mentioned all) (tags_begin ms more all e));
      short_programs = omega (arith, o.short_programs, shorter (bytes_of_each r (programs_mentioned ms)) (bytes_of_each r (programs_mentioned more)) (bytes_of_each r (programs_mentioned all)) (programs_begin r ms more all e));
      short_strings = omega (arith, o.short_strings, shorter (strings_mentioned ms) (strings_mentioned more) (strings_mentioned all) (strings_begin ms more all e));
    }

-- a } that is taken ends a program
in_list : {S : Type 0} (q : Listing) (o : Option Listing) (f : Listing → S) (g : TextProgram → S) (z : S) → o ≡ none → listing o f (unbraces an_unbrace (value_of_list q) g) ≡ some z → (p : TextProgram) × (value_of_list q ≡ some p)
in_list q none f g z n e = on (value_of_list q) refl e
  where
    on : (o : Option TextProgram) → value_of_list q ≡ o → unbraces an_unbrace o g ≡ some z → (p : TextProgram) × (value_of_list q ≡ some p)
    on none h k = absurd (none≢some refl k)
    on (some p) h k = (p, h)
in_list q (some r) f g z n e = absurd (none≢some n refl)

in_parsing : (x y : Parsing) → step_expression x (sign UNBRACE) ≡ some y → (p : TextProgram) × (whole_in (listing_in x) ≡ some p)
in_parsing (wants b l ls) y e = absurd (none≢some refl e)
in_parsing (in_front q ls) y e = in_list q (step_statements first q (sign UNBRACE)) _ _ y (no_unbrace first q) e
in_parsing (after u l ls) y e = absurd (none≢some refl e)
in_parsing (behind q f k ls) y e = in_list q (step_statements second q (sign UNBRACE)) _ _ y (no_unbrace second q) e
in_parsing (over u ls) y e = absurd (none≢some refl e)

pub ends_a_program : (s z : Progress) → step_rules s (sign UNBRACE) ≡ some z → (p : TextProgram) × (whole_in (listing_of s) ≡ some p)
ends_a_program beginning z e = absurd (none≢some refl e)
ends_a_program (first_word n) z e = absurd (none≢some refl e)
ends_a_program (named h) z e = absurd (none≢some refl e)
ends_a_program (defined h) z e = absurd (none≢some refl e)
ends_a_program (own_front q h) z e = in_list q (step_statements first q (sign UNBRACE)) _ _ z (no_unbrace first q) e
ends_a_program (wants_tag f h) z e = absurd (none≢some refl e)
ends_a_program (tagged f u h) z e = absurd (none≢some refl e)
ends_a_program (within x f u h) z e = on (step_expression x (sign UNBRACE)) refl e
  where
    on : (o : Option Parsing) → step_expression x (sign UNBRACE) ≡ o → parsing o (closes_content other (value_of_content x) f u h) f u h ≡ some z → (p : TextProgram) × (whole_in (listing_in x) ≡ some p)
    on none h k = absurd (none≢some refl k)
    on (some y) h k = in_parsing x y h
ends_a_program (closed f u c h) z e = absurd (none≢some refl e)
ends_a_program (own_back q f u c h) z e = in_list q (step_statements second q (sign UNBRACE)) _ _ z (no_unbrace second q) e
ends_a_program (complete r h) z e = absurd (none≢some refl e)

same_count : (ms : Ms) (n : HowMany) → Counted ms n → Counted ms (plus_each 0 0 0 n)
same_count ms n c = record { tags = omega (arith, c.tags); strings = omega (arith, c.strings); programs = omega (arith, c.programs) }

-- a token that is taken is counted for what it mentions
token_counted : (s z : Progress) (t : TextToken) (ms : Ms) (n : HowMany) → step_rules s t ≡ some z → Counted ms n → Counted (mention_of s t ++ ms) (counted t n)
token_counted s z (nonterminal k) ms n e c = c
token_counted s z (value v) ms n e c = c
token_counted s z (attribute m a) ms n e c = c
token_counted s z (name k) ms n e c = record { tags = omega (arith, c.tags); strings = omega (arith, c.strings); programs = omega (arith, c.programs) }
token_counted s z (start_tag k) ms n e c = record { tags = omega (arith, c.tags); strings = omega (arith, c.strings); programs = omega (arith, c.programs) }
token_counted s z (end_tag k) ms n e c = record { tags = omega (arith, c.tags); strings = omega (arith, c.strings); programs = omega (arith, c.programs) }
token_counted s z (empty_tag k) ms n e c = record { tags = omega (arith, c.tags); strings = omega (arith, c.strings); programs = omega (arith, c.programs) }
token_counted s z (string cs) ms n e c = record { tags = omega (arith, c.tags); strings = omega (arith, c.strings); programs = omega (arith, c.programs) }
token_counted s z (word w) ms n e c = c
token_counted s z (sign DEFINED) ms n e c = same_count ms n c
token_counted s z (sign ASSIGNED) ms n e c = same_count ms n c
token_counted s z (sign OPEN) ms n e c = same_count ms n c
token_counted s z (sign CLOSE) ms n e c = same_count ms n c
token_counted s z (sign BRACE) ms n e c = same_count ms n c
token_counted s z (sign UNBRACE) ms n e c =
    let p = ends_a_program s z e in
    subst (λ (o : Option TextProgram). Counted (ended_by UNBRACE o ++ ms) (counted (sign UNBRACE) n)) (sym p.1)
    (record { tags = omega (arith, c.tags); strings = omega (arith, c.strings); programs = omega (arith, c.programs) })
token_counted s z (sign DOT) ms n e c = same_count ms n c
token_counted s z (sign BAR) ms n e c = same_count ms n c
token_counted s z (sign STAR) ms n e c = same_count ms n c
token_counted s z (sign SEMICOLON) ms n e c = same_count ms n c
token_counted s z (sign EQUALS) ms n e c = same_count ms n c

-- what a walk has mentioned
pub record Walked (s z : Progress) (ts : List TextToken) : Type 0 where
  pub tidy : Tidy z
  pub mentioned : Ms
  pub grown : so_far z ≡ so_far s ++ mentioned
  pub counted : Counted mentioned (up_to ts)

pub walked_counted : (s z : Progress) (ts : List TextToken) → Tidy s → walk step_rules s ts ≡ some z → Walked s z ts
walked_counted s z [] d w =
    let same : s ≡ z = cc in
    record { tidy = subst Tidy same d; mentioned = []; grown = ap so_far (sym same) ∙ sym (append-nil (so_far s)); counted = record { tags = refl; strings = refl; programs = refl } }
walked_counted s z (t ∷ ts) d w = on (λ y k v. walked_counted y z ts k v) (step_rules s t) refl
  where
    on : ((y : Progress) → Tidy y → walk step_rules y ts ≡ some z → Walked y z ts) → (o : Option Progress) → step_rules s t ≡ o → Walked s z (t ∷ ts)
    on ih none h = absurd (none≢some (ap (λ o. and_then o (λ y. walk step_rules y ts)) h) w)
    on ih (some y) h =
        let g = grows_by_token s y t d h in
        let b = ih y g.tidy (sym (ap (λ o. and_then o (λ y. walk step_rules y ts)) h) ∙ w) in
        record {
          tidy = b.tidy;
          mentioned = mention_of s t ++ b.mentioned;
          grown = b.grown ∙ ap (λ (m : Ms). m ++ b.mentioned) g.grown ∙ append_assoc (so_far s) (mention_of s t) b.mentioned;
          counted = token_counted s y t b.mentioned (up_to ts) h b.counted;
        }
