-- What a token mentions is filed, or has no room. Assumes nothing.
use mathlib.Core.Path.{◌≡◌, refl, sym, ◌∙◌, ap, subst}
use mathlib.Core.Logic.{◌⊎◌, inl, inr}
use Rattle.std.specs.Prelude.{Option as Taken, Some, None}
use mathlib.Core.Option.{Option, some}
use mathlib.Core.List.{List, [], ◌∷◌, ◌++◌, append_assoc, append-nil}
use Prim.Native.Nat.{ℕ, suc, ◌*◌, ◌≤◌, ◌<◌}
use native.Mathlib.Omega.{arith}
use lib.ListN.{length}
use Rattle.limits.specs.Limits.{most_tags}
use Rattle.programs.specs.Program.{program_bytes}
use Rattle.notation.specs.Program.{TextProgram}
use Rattle.notation.specs.Rules.{Rules}
use Rattle.notation.specs.Tokens.{Dollar, plain, left, right, TextToken, nonterminal, value, attribute, name, start_tag, end_tag, empty_tag, string, word, Keyword, CHAR, ECHO, ECHO-OFF, REJECT, PRINT, IF, THEN, ELSE, BEGIN, END, AND, OR, NOT, EMPTY, sign, Sign, DEFINED, ASSIGNED, OPEN, CLOSE, BRACE, UNBRACE, DOT, BAR, STAR, SEMICOLON, EQUALS}
use Rattle.encoding.specs.Mentions.{Mention, a_tag, a_string, a_program, in_rules, tags_mentioned, strings_mentioned, programs_mentioned}
use Rattle.encoding.specs.Distinct.{distinct, offset_of, run_together}
use Rattle.encoding.specs.Encoded.{bytes_of_each, program_of}
use Rattle.packing.specs.Packed.{field}
use Rattle.reading.specs.Rules.{Progress, step_rules}
use Rattle.lexemes.specs.Kinds.{mark_number, word_number, sign_number, token_kind, TokenFits}
use Rattle.verdicts.specs.Judged.{Goes}
use Rattle.stores.specs.Rows.{RowsIn}
use Rattle.mentions.specs.SoFar.{so_far, ended, mention_of, Tidy}
use Rattle.mentions.proofs.Rules.{grows_by_token}
use Rattle.ledgers.specs.Trodden.{LeadsToRules}
use Rattle.ledgers.proofs.Counting.{tags_begin, strings_begin, programs_begin, ends_a_program}
use Rattle.ledgers.proofs.Telling.{leads_through}
use Rattle.desks.specs.Kept.{StoresHold, PlaceOfTag, PlaceOfString, PlaceOfProgram, RowPlaceIs}
use Rattle.shelves.specs.declared.Filing.{Filing}
use Rattle.shelves.specs.declared.Shelved.{Shelved}
use Rattle.shelves.specs.Shelves.{FilingIs, RowMentioned, ShelvedAs}
use Rattle.shelves.proofs.Places.{final_place, final_offset, twice, short_with, too_long, too_many_tags}

abbrev Ms : Type 0
Ms = List Mention

abbrev Rows : Type 0
Rows = List (List ℕ)

abbrev pub shelved : ℕ → ℕ → ℕ → ℕ → Shelved
shelved p a b c = record { place = p; tags = a; strings = b; programs = c }

-- with the row filed among those of its sort
abbrev pub with_tag : ℕ → ℕ → Taken Filing → Taken Shelved
with_tag b c (Some a) = Some (shelved a.place a.count b c)
with_tag b c None = None

abbrev pub with_string : ℕ → ℕ → Taken Filing → Taken Shelved
with_string a c (Some f) = Some (shelved f.offset a f.count c)
with_string a c None = None

abbrev pub with_program : ℕ → ℕ → Taken Filing → Taken Shelved
with_program a b (Some f) = Some (shelved f.offset a b f.count)
with_program a b None = None

pub word_kind : (w : Keyword) → ((10 ≤ word_number w) × (word_number w < 23)) ⊎ (word_number w ≡ 34)
word_kind CHAR = inl (omega arith, omega arith)
word_kind ECHO = inl (omega arith, omega arith)
word_kind ECHO-OFF = inl (omega arith, omega arith)
word_kind REJECT = inl (omega arith, omega arith)
word_kind PRINT = inl (omega arith, omega arith)
word_kind IF = inl (omega arith, omega arith)
word_kind THEN = inl (omega arith, omega arith)
word_kind ELSE = inl (omega arith, omega arith)
word_kind BEGIN = inl (omega arith, omega arith)
word_kind END = inl (omega arith, omega arith)
word_kind AND = inl (omega arith, omega arith)
word_kind OR = inl (omega arith, omega arith)
word_kind NOT = inl (omega arith, omega arith)
word_kind EMPTY = inr refl

pub mark_kind : (m : Dollar) → (mark_number m < 5)
mark_kind plain = omega arith
mark_kind left = omega arith
mark_kind right = omega arith

pub sign_kind : (g : Sign) → (23 ≤ sign_number g)
sign_kind DEFINED = omega arith
sign_kind ASSIGNED = omega arith
sign_kind OPEN = omega arith
sign_kind CLOSE = omega arith
sign_kind BRACE = omega arith
sign_kind UNBRACE = omega arith
sign_kind DOT = omega arith
sign_kind BAR = omega arith
sign_kind STAR = omega arith
sign_kind SEMICOLON = omega arith
sign_kind EQUALS = omega arith

pub no_word : {A : Type 0} (w : Keyword) (k : ℕ) → k ≡ word_number w → (k < 10) ⊎ (k ≡ 28) → A
no_word w k e h = absurd (on (word_kind w) h)
  where
    on : ((10 ≤ word_number w) × (word_number w < 23)) ⊎ (word_number w ≡ 34) → (k < 10) ⊎ (k ≡ 28) → ⊥
    on (inl a) (inl b) = omega (arith, a.0, b, e)
    on (inl a) (inr b) = omega (arith, a.1, b, e)
    on (inr a) (inl b) = omega (arith, a, b, e)
    on (inr a) (inr b) = omega (arith, a, b, e)

-- two of the sorts stay as they were
pub hold_on : (r : Rules) (s s' : Progress) (tb te : List ℕ) (a : ℕ) (sb se : List ℕ) (b : ℕ) (pb pe : List ℕ) (c : ℕ) → so_far s' ≡ so_far s → StoresHold r s tb te a sb se b pb pe c → StoresHold r s' tb te a sb se b pb pe c
hold_on r s s' tb te a sb se b pb pe c e h = record {
  tags_held = subst (λ (m : Ms). RowsIn tb te a (distinct (tags_mentioned m))) (sym e) h.tags_held;
  strings_held = subst (λ (m : Ms). RowsIn sb se b (distinct (strings_mentioned m))) (sym e) h.strings_held;
  programs_held = subst (λ (m : Ms). RowsIn pb pe c (distinct (bytes_of_each r (programs_mentioned m)))) (sym e) h.programs_held;
  tags_short = subst (λ (m : Ms). length (run_together (distinct (tags_mentioned m))) ≤ 15 * length (distinct (tags_mentioned m))) (sym e) h.tags_short;
}

-- one store of strings or programs, with one row more
module _ (l l' all rest : Rows) (x b e b' e' : List ℕ) (n cap : ℕ) (rows : RowsIn b e n (distinct l)) (grown : l' ≡ l ++ x ∷ []) (whole : all ≡ l' ++ rest) (lb : length b ≡ cap) (le : length e ≡ suc cap) where
  all_are : all ≡ (l ++ x ∷ []) ++ rest
  all_are = whole ∙ ap (λ (z : Rows). z ++ rest) grown

  row_stored : (a : Filing) → FilingIs b e n x b' e' (Some a) → RowsIn b' e' a.count (distinct l')
  row_stored a f = subst (λ (z : Rows). RowsIn b' e' a.count (distinct z)) (sym grown) (f.is l rows).rows

  row_offset : (a : Filing) → FilingIs b e n x b' e' (Some a) → a.offset ≡ offset_of (distinct all) x
  row_offset a f = (f.is l rows).offset_is ∙ final_offset l rest all x all_are

  row_small : (a : Filing) → FilingIs b e n x b' e' (Some a) → a.offset ≤ cap
  row_small a f = let h = (f.is l rows).inside in omega (arith, h, f.long_bytes, lb)

  row_too_long : FilingIs b e n x b' e' None → length (run_together (distinct l')) ≤ cap → ⊥
  row_too_long f h =
      too_long [] b' e' (l ++ x ∷ []) cap (f.long_bytes ∙ lb) (f.long_ends ∙ le) (f.is l rows) (subst (λ (z : Rows). length (run_together (distinct z)) ≤ cap) grown h)

module _ (r : Rules) (s s' : Progress) (t : TextToken) (tb te : List ℕ) (na : ℕ) (sb se : List ℕ) (nb : ℕ) (pb pe : List ℕ) (nc : ℕ) (held : StoresHold r s tb te na sb se nb pb pe nc) (more : Ms)
    (ends : in_rules r.productions ≡ so_far s' ++ more) where
  abbrev all : Ms
  all = in_rules r.productions

  silent_outcome : (p : ℕ) → so_far s' ≡ so_far s ++ [] → RowPlaceIs r s t p → ShelvedAs r s s' t (Some (shelved p na nb nc)) tb te sb se pb pe
  silent_outcome p e k = record { stored = hold_on r s s' tb te na sb se nb pb pe nc (e ∙ append-nil (so_far s)) held; placed = k; no_space = tt }

  -- a tag, once or twice
  module _ (n : List ℕ) (ns : Ms) (tb' te' : List ℕ) (short : length n ≤ 15) (grown : so_far s' ≡ so_far s ++ a_tag n ∷ ns) (once : distinct (tags_mentioned (so_far s) ++ n ∷ tags_mentioned ns) ≡ distinct (tags_mentioned (so_far s) ++ n ∷ []))
      (no_strings : strings_mentioned ns ≡ []) (no_programs_lem : programs_mentioned ns ≡ []) (lb : length tb ≡ 960) (le : length te ≡ 64) where
    l : Rows
    l = tags_mentioned (so_far s)

    tags_now : tags_mentioned (so_far s') ≡ tags_mentioned (so_far s) ++ n ∷ tags_mentioned ns
    tags_now = tags_begin (so_far s) (a_tag n ∷ ns) (so_far s') grown

    same : distinct (tags_mentioned (so_far s')) ≡ distinct (tags_mentioned (so_far s) ++ n ∷ [])
    same = ap distinct tags_now ∙ once

    all_tags : tags_mentioned all ≡ (tags_mentioned (so_far s) ++ n ∷ []) ++ (tags_mentioned ns ++ tags_mentioned more)
    all_tags =
        tags_begin (so_far s') more all ends ∙ ap (λ (z : Rows). z ++ tags_mentioned more) tags_now
        ∙ append_assoc (tags_mentioned (so_far s)) (n ∷ tags_mentioned ns) (tags_mentioned more) ∙ sym (append_assoc (tags_mentioned (so_far s)) (n ∷ []) (tags_mentioned ns ++ tags_mentioned more))

    strings_now : strings_mentioned (so_far s') ≡ strings_mentioned (so_far s)
    strings_now = strings_begin (so_far s) (a_tag n ∷ ns) (so_far s') grown ∙ ap (λ (z : Rows). strings_mentioned (so_far s) ++ z) no_strings ∙ append-nil (strings_mentioned (so_far s))

    programs_now : bytes_of_each r (programs_mentioned (so_far s')) ≡ bytes_of_each r (programs_mentioned (so_far s))
    programs_now =
        programs_begin r (so_far s) (a_tag n ∷ ns) (so_far s') grown ∙ ap (λ (z : List TextProgram). bytes_of_each r (programs_mentioned (so_far s)) ++ bytes_of_each r z) no_programs_lem
        ∙ append-nil (bytes_of_each r (programs_mentioned (so_far s)))

    short_now : length (run_together (distinct (tags_mentioned (so_far s) ++ n ∷ []))) ≤ 15 * length (distinct (tags_mentioned (so_far s) ++ n ∷ []))
    short_now = short_with (tags_mentioned (so_far s)) n short held.tags_short

    tag_outcome : (o : Taken Filing) → FilingIs tb te na n tb' te' o → ((p : ℕ) → PlaceOfTag r n p → RowPlaceIs r s t p) → ShelvedAs r s s' t (with_tag nb nc o) tb' te' sb se pb pe
    tag_outcome (Some a) f so =
        let k = f.is (tags_mentioned (so_far s)) held.tags_held in
        record {
          stored = record {
            tags_held = subst (λ (z : Rows). RowsIn tb' te' a.count z) (sym same) k.rows;
            strings_held = subst (λ (z : Rows). RowsIn sb se nb (distinct z)) (sym strings_now) held.strings_held;
            programs_held = subst (λ (z : Rows). RowsIn pb pe nc (distinct z)) (sym programs_now) held.programs_held;
            tags_short = subst (λ (z : Rows). length (run_together z) ≤ 15 * length z) (sym same) short_now;
          };
          placed = so a.place (record {
            is = k.place_is ∙ final_place (tags_mentioned (so_far s)) (tags_mentioned ns ++ tags_mentioned more) (tags_mentioned all) n all_tags;
            small = omega (arith, k.low, f.long_ends, le);
          });
          no_space = tt;
        }
    tag_outcome None f so = record {
      stored = tt;
      placed = tt;
      no_space = λ h. too_many_tags tb' te' (tags_mentioned (so_far s) ++ n ∷ []) (f.long_bytes ∙ lb) (f.long_ends ∙ le) (f.is (tags_mentioned (so_far s)) held.tags_held) short_now
          (subst (λ (z : Rows). length z ≤ most_tags) same h.few_tags);
    }

  -- a string
  module _ (x sb' se' : List ℕ) (grown : so_far s' ≡ so_far s ++ a_string x ∷ []) (lb : length sb ≡ 8192) (le : length se ≡ 8193) where
    tags_as : tags_mentioned (so_far s') ≡ tags_mentioned (so_far s)
    tags_as = tags_begin (so_far s) (a_string x ∷ []) (so_far s') grown ∙ append-nil (tags_mentioned (so_far s))

    strings_as : strings_mentioned (so_far s') ≡ strings_mentioned (so_far s) ++ x ∷ []
    strings_as = strings_begin (so_far s) (a_string x ∷ []) (so_far s') grown

    programs_as : bytes_of_each r (programs_mentioned (so_far s')) ≡ bytes_of_each r (programs_mentioned (so_far s))
    programs_as = programs_begin r (so_far s) (a_string x ∷ []) (so_far s') grown ∙ append-nil (bytes_of_each r (programs_mentioned (so_far s)))

    strings_go : strings_mentioned all ≡ strings_mentioned (so_far s') ++ strings_mentioned more
    strings_go = strings_begin (so_far s') more all ends

    string_outcome : (o : Taken Filing) → FilingIs sb se nb x sb' se' o → ((p : ℕ) → PlaceOfString r x p → RowPlaceIs r s t p) → ShelvedAs r s s' t (with_string na nc o) tb te sb' se' pb pe
    string_outcome (Some a) f so = record {
      stored = record {
        tags_held = subst (λ (z : Rows). RowsIn tb te na (distinct z)) (sym tags_as) held.tags_held;
        strings_held = row_stored (strings_mentioned (so_far s)) (strings_mentioned (so_far s')) (strings_mentioned all) (strings_mentioned more) x sb se sb' se' nb 8192 held.strings_held strings_as strings_go lb le a f;
        programs_held = subst (λ (z : Rows). RowsIn pb pe nc (distinct z)) (sym programs_as) held.programs_held;
        tags_short = subst (λ (z : Rows). length (run_together (distinct z)) ≤ 15 * length (distinct z)) (sym tags_as) held.tags_short;
      };
      placed = so a.offset (record {
        is = row_offset (strings_mentioned (so_far s)) (strings_mentioned (so_far s')) (strings_mentioned all) (strings_mentioned more) x sb se sb' se' nb 8192 held.strings_held strings_as strings_go lb le a f;
        small = row_small (strings_mentioned (so_far s)) (strings_mentioned (so_far s')) (strings_mentioned all) (strings_mentioned more) x sb se sb' se' nb 8192 held.strings_held strings_as strings_go lb le a f;
      });
      no_space = tt;
    }
    string_outcome None f so = record {
      stored = tt;
      placed = tt;
      no_space = λ h. row_too_long (strings_mentioned (so_far s)) (strings_mentioned (so_far s')) (strings_mentioned all) (strings_mentioned more) x sb se sb' se' nb 8192 held.strings_held strings_as strings_go lb le f h.short_strings;
    }

  -- a program
  module _ (p : TextProgram) (x pb' pe' : List ℕ) (grown : so_far s' ≡ so_far s ++ a_program p ∷ []) (is : x ≡ program_bytes (program_of r p)) (lb : length pb ≡ 16384) (le : length pe ≡ 16385) where
    tags_so : tags_mentioned (so_far s') ≡ tags_mentioned (so_far s)
    tags_so = tags_begin (so_far s) (a_program p ∷ []) (so_far s') grown ∙ append-nil (tags_mentioned (so_far s))

    strings_so : strings_mentioned (so_far s') ≡ strings_mentioned (so_far s)
    strings_so = strings_begin (so_far s) (a_program p ∷ []) (so_far s') grown ∙ append-nil (strings_mentioned (so_far s))

    programs_so : bytes_of_each r (programs_mentioned (so_far s')) ≡ bytes_of_each r (programs_mentioned (so_far s)) ++ x ∷ []
    programs_so = programs_begin r (so_far s) (a_program p ∷ []) (so_far s') grown ∙ ap (λ (z : List ℕ). bytes_of_each r (programs_mentioned (so_far s)) ++ z ∷ []) (sym is)

    abbrev before : Rows
    before = bytes_of_each r (programs_mentioned (so_far s))

    abbrev now : Rows
    now = bytes_of_each r (programs_mentioned (so_far s'))

    abbrev every : Rows
    every = bytes_of_each r (programs_mentioned all)

    abbrev rest : Rows
    rest = bytes_of_each r (programs_mentioned more)

    programs_go : every ≡ now ++ rest
    programs_go = programs_begin r (so_far s') more all ends

    program_outcome : (o : Taken Filing) → FilingIs pb pe nc x pb' pe' o → ((k : ℕ) → PlaceOfProgram r (some p) k → RowPlaceIs r s t k) → ShelvedAs r s s' t (with_program na nb o) tb te sb se pb' pe'
    program_outcome (Some a) f so = record {
      stored = record {
        tags_held = subst (λ (z : Rows). RowsIn tb te na (distinct z)) (sym tags_so) held.tags_held;
        strings_held = subst (λ (z : Rows). RowsIn sb se nb (distinct z)) (sym strings_so) held.strings_held;
        programs_held = row_stored before now every rest x pb pe pb' pe' nc 16384 held.programs_held programs_so programs_go lb le a f;
        tags_short = subst (λ (z : Rows). length (run_together (distinct z)) ≤ 15 * length (distinct z)) (sym tags_so) held.tags_short;
      };
      placed = so a.offset (record {
        is = λ q e. let same : p ≡ q = cc in
            row_offset before now every rest x pb pe pb' pe' nc 16384 held.programs_held programs_so programs_go lb le a f ∙ ap (λ (z : List ℕ). offset_of (distinct every) z) is ∙ ap (λ (z : TextProgram). field r (some z)) same;
        small = row_small before now every rest x pb pe pb' pe' nc 16384 held.programs_held programs_so programs_go lb le a f;
      });
      no_space = tt;
    }
    program_outcome None f so = record { stored = tt; placed = tt; no_space = λ h. row_too_long before now every rest x pb pe pb' pe' nc 16384 held.programs_held programs_so programs_go lb le f h.short_programs }

-- by the token's kind
module _ (r : Rules) (s s' : Progress) (t : TextToken) (tidy : Tidy s) (goes : Goes s t s') (leads : LeadsToRules s' r) (old : Shelved) (tb te sb se pb pe row : List ℕ)
    (held : StoresHold r s tb te old.tags sb se old.strings pb pe old.programs) where
  grown_by : so_far s' ≡ so_far s ++ mention_of s t
  grown_by = (grows_by_token s s' t tidy goes.taken).grown

  after_all : (more : Ms) × (in_rules r.productions ≡ so_far s' ++ more)
  after_all = leads_through s' r (grows_by_token s s' t tidy goes.taken).tidy leads

  pub as_string : (sb' se' : List ℕ) (a : Taken Filing) (u : TextToken) → u ≡ t → 9 ≡ token_kind u → RowMentioned r s u row → FilingIs sb se old.strings row sb' se' a → length sb ≡ 8192 → length se ≡ 8193
      → ShelvedAs r s s' t (with_string old.tags old.programs a) tb te sb' se' pb pe
  as_string sb' se' a (nonterminal n) q k i f lb le = absurd (omega arith)
  as_string sb' se' a (value v) q k i f lb le = absurd (omega arith)
  as_string sb' se' a (attribute m n) q k i f lb le = absurd (let h = mark_kind m in omega (arith, h, k))
  as_string sb' se' a (name n) q k i f lb le = absurd (omega arith)
  as_string sb' se' a (start_tag n) q k i f lb le = absurd (omega arith)
  as_string sb' se' a (end_tag n) q k i f lb le = absurd (omega arith)
  as_string sb' se' a (empty_tag n) q k i f lb le = absurd (omega arith)
  as_string sb' se' a (string cs) q k i f lb le =
      string_outcome r s s' t tb te old.tags sb se old.strings pb pe old.programs held after_all.0 after_all.1 row sb' se'
      (grown_by ∙ ap (λ (u : TextToken). so_far s ++ mention_of s u) (sym q) ∙ ap (λ (z : List ℕ). so_far s ++ a_string z ∷ []) (sym i)) lb le a f
      (λ p h. subst (λ (u : TextToken). RowPlaceIs r s u p) q (subst (λ (z : List ℕ). PlaceOfString r z p) i h))
  as_string sb' se' a (word w) q k i f lb le = no_word w 9 k (inl (omega arith))
  as_string sb' se' a (sign g) q k i f lb le = absurd (let h = sign_kind g in omega (arith, h, k))

  pub as_program : (pb' pe' : List ℕ) (a : Taken Filing) (u : TextToken) → u ≡ t → 28 ≡ token_kind u → RowMentioned r s u row → FilingIs pb pe old.programs row pb' pe' a → length pb ≡ 16384 → length pe ≡ 16385
      → ShelvedAs r s s' t (with_program old.tags old.strings a) tb te sb se pb' pe'
  as_program pb' pe' a (nonterminal n) q k i f lb le = absurd (omega arith)
  as_program pb' pe' a (value v) q k i f lb le = absurd (omega arith)
  as_program pb' pe' a (attribute m n) q k i f lb le = absurd (let h = mark_kind m in omega (arith, h, k))
  as_program pb' pe' a (name n) q k i f lb le = absurd (omega arith)
  as_program pb' pe' a (start_tag n) q k i f lb le = absurd (omega arith)
  as_program pb' pe' a (end_tag n) q k i f lb le = absurd (omega arith)
  as_program pb' pe' a (empty_tag n) q k i f lb le = absurd (omega arith)
  as_program pb' pe' a (string cs) q k i f lb le = absurd (omega arith)
  as_program pb' pe' a (word w) q k i f lb le = no_word w 28 k (inr refl)
  as_program pb' pe' a (sign DEFINED) q k i f lb le = absurd (omega arith)
  as_program pb' pe' a (sign ASSIGNED) q k i f lb le = absurd (omega arith)
  as_program pb' pe' a (sign OPEN) q k i f lb le = absurd (omega arith)
  as_program pb' pe' a (sign CLOSE) q k i f lb le = absurd (omega arith)
  as_program pb' pe' a (sign BRACE) q k i f lb le = absurd (omega arith)
  as_program pb' pe' a (sign UNBRACE) q k i f lb le =
      let e = ends_a_program s s' (subst (λ (u : TextToken). step_rules s u ≡ some s') (sym q) goes.taken) in
      program_outcome r s s' t tb te old.tags sb se old.strings pb pe old.programs held after_all.0 after_all.1 e.0 row pb' pe'
      (grown_by ∙ ap (λ (u : TextToken). so_far s ++ mention_of s u) (sym q) ∙ ap (λ (o : Option TextProgram). so_far s ++ ended o) e.1) (i e.0 e.1) lb le a f
      (λ p h. subst (λ (u : TextToken). RowPlaceIs r s u p) q (subst (λ (o : Option TextProgram). PlaceOfProgram r o p) (sym e.1) h))
  as_program pb' pe' a (sign DOT) q k i f lb le = absurd (omega arith)
  as_program pb' pe' a (sign BAR) q k i f lb le = absurd (omega arith)
  as_program pb' pe' a (sign STAR) q k i f lb le = absurd (omega arith)
  as_program pb' pe' a (sign SEMICOLON) q k i f lb le = absurd (omega arith)
  as_program pb' pe' a (sign EQUALS) q k i f lb le = absurd (omega arith)

  -- a tag once
  a_tag_once : (tb' te' : List ℕ) (a : Taken Filing) (n : List ℕ) → so_far s' ≡ so_far s ++ a_tag n ∷ [] → length n ≤ 15 → row ≡ n → FilingIs tb te old.tags row tb' te' a → length tb ≡ 960 → length te ≡ 64
      → ((p : ℕ) → PlaceOfTag r n p → RowPlaceIs r s t p) → ShelvedAs r s s' t (with_tag old.strings old.programs a) tb' te' sb se pb pe
  a_tag_once tb' te' a n g short i f lb le so =
      tag_outcome r s s' t tb te old.tags sb se old.strings pb pe old.programs held after_all.0 after_all.1 n [] tb' te' short g refl refl refl lb le a
      (subst (λ (z : List ℕ). FilingIs tb te old.tags z tb' te' a) i f) so

  pub as_tag : (tb' te' : List ℕ) (a : Taken Filing) (u : TextToken) → u ≡ t → 5 ≤ token_kind u → token_kind u < 9 → TokenFits u → RowMentioned r s u row → FilingIs tb te old.tags row tb' te' a → length tb ≡ 960 → length te ≡ 64
      → ShelvedAs r s s' t (with_tag old.strings old.programs a) tb' te' sb se pb pe
  as_tag tb' te' a (nonterminal n) q k j h i f lb le = absurd (omega arith)
  as_tag tb' te' a (value v) q k j h i f lb le = absurd (omega arith)
  as_tag tb' te' a (attribute m n) q k j h i f lb le = absurd (let z = mark_kind m in omega (arith, z, k))
  as_tag tb' te' a (name n) q k j h i f lb le = a_tag_once tb' te' a n (grown_by ∙ ap (λ (u : TextToken). so_far s ++ mention_of s u) (sym q)) h.short i f lb le (λ p z. subst (λ (u : TextToken). RowPlaceIs r s u p) q z)
  as_tag tb' te' a (start_tag n) q k j h i f lb le = a_tag_once tb' te' a n (grown_by ∙ ap (λ (u : TextToken). so_far s ++ mention_of s u) (sym q)) h.short i f lb le (λ p z. subst (λ (u : TextToken). RowPlaceIs r s u p) q z)
  as_tag tb' te' a (end_tag n) q k j h i f lb le = a_tag_once tb' te' a n (grown_by ∙ ap (λ (u : TextToken). so_far s ++ mention_of s u) (sym q)) h.short i f lb le (λ p z. subst (λ (u : TextToken). RowPlaceIs r s u p) q z)
  as_tag tb' te' a (empty_tag n) q k j h i f lb le =
      tag_outcome r s s' t tb te old.tags sb se old.strings pb pe old.programs held after_all.0 after_all.1 n (a_tag n ∷ []) tb' te' h.short
      (grown_by ∙ ap (λ (u : TextToken). so_far s ++ mention_of s u) (sym q)) (ap distinct (sym (append_assoc (tags_mentioned (so_far s)) (n ∷ []) (n ∷ []))) ∙ twice (tags_mentioned (so_far s)) n) refl refl lb le a
      (subst (λ (z : List ℕ). FilingIs tb te old.tags z tb' te' a) i f) (λ p z. subst (λ (u : TextToken). RowPlaceIs r s u p) q z)
  as_tag tb' te' a (string cs) q k j h i f lb le = absurd (omega arith)
  as_tag tb' te' a (word w) q k j h i f lb le = no_word w (word_number w) refl (inl (omega (arith, j)))
  as_tag tb' te' a (sign g) q k j h i f lb le = absurd (let z = sign_kind g in omega (arith, z, j))

  -- nothing is mentioned
  nothing_said : (u : TextToken) → u ≡ t → mention_of s u ≡ [] → RowPlaceIs r s u old.place → ShelvedAs r s s' t (Some (shelved old.place old.tags old.strings old.programs)) tb te sb se pb pe
  nothing_said u q e i =
      silent_outcome r s s' t tb te old.tags sb se old.strings pb pe old.programs held after_all.0 after_all.1 old.place
      (grown_by ∙ ap (λ (z : TextToken). so_far s ++ mention_of s z) (sym q) ∙ ap (λ (z : Ms). so_far s ++ z) e) (subst (λ (z : TextToken). RowPlaceIs r s z old.place) q i)

  pub as_nothing : (u : TextToken) → u ≡ t → (token_kind u ≡ 9 → ⊥) → (token_kind u ≡ 28 → ⊥) → (token_kind u < 5) ⊎ (9 ≤ token_kind u) → ShelvedAs r s s' t (Some (shelved old.place old.tags old.strings old.programs)) tb te sb se pb pe
  as_nothing (nonterminal n) q a b c = nothing_said (nonterminal n) q refl tt
  as_nothing (value v) q a b c = nothing_said (value v) q refl tt
  as_nothing (attribute m n) q a b c = nothing_said (attribute m n) q refl tt
  as_nothing (name n) q a b (inl c) = absurd (omega arith)
  as_nothing (name n) q a b (inr c) = absurd (omega arith)
  as_nothing (start_tag n) q a b (inl c) = absurd (omega arith)
  as_nothing (start_tag n) q a b (inr c) = absurd (omega arith)
  as_nothing (end_tag n) q a b (inl c) = absurd (omega arith)
  as_nothing (end_tag n) q a b (inr c) = absurd (omega arith)
  as_nothing (empty_tag n) q a b (inl c) = absurd (omega arith)
  as_nothing (empty_tag n) q a b (inr c) = absurd (omega arith)
  as_nothing (string cs) q a b c = absurd (a refl)
  as_nothing (word w) q a b c = nothing_said (word w) q refl tt
  as_nothing (sign DEFINED) q a b c = nothing_said (sign DEFINED) q refl tt
  as_nothing (sign ASSIGNED) q a b c = nothing_said (sign ASSIGNED) q refl tt
  as_nothing (sign OPEN) q a b c = nothing_said (sign OPEN) q refl tt
  as_nothing (sign CLOSE) q a b c = nothing_said (sign CLOSE) q refl tt
  as_nothing (sign BRACE) q a b c = nothing_said (sign BRACE) q refl tt
  as_nothing (sign UNBRACE) q a b c = absurd (b refl)
  as_nothing (sign DOT) q a b c = nothing_said (sign DOT) q refl tt
  as_nothing (sign BAR) q a b c = nothing_said (sign BAR) q refl tt
  as_nothing (sign STAR) q a b c = nothing_said (sign STAR) q refl tt
  as_nothing (sign SEMICOLON) q a b c = nothing_said (sign SEMICOLON) q refl tt
  as_nothing (sign EQUALS) q a b c = nothing_said (sign EQUALS) q refl tt
