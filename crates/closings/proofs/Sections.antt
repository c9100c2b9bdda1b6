-- What is ready is bound together. Assumes nothing.
use mathlib.Core.Path.{◌≡◌, refl, sym, ◌∙◌, ap, ap₂, subst}
use mathlib.Core.List.{List, [], ◌∷◌, ◌++◌, append-nil}
use Prim.Native.Nat.{ℕ, zero, suc, ◌+◌, ◌-◌, ◌*◌, ◌≤◌, ◌<◌}
use native.Mathlib.Omega.{arith}
use lib.ListN.{length, take, get_or, length-append}
use lib.Seq.{take-append_seam, length-take-le}
use Rattle.limits.specs.Limits.{most_tags, most_productions, most_nodes, most_program_bytes, most_string_bytes, longest_name}
use Rattle.notation.specs.Rules.{Rules}
use Rattle.notation.specs.RuleText.{RuleText}
use Rattle.encoding.specs.Distinct.{run_together}
use Rattle.encoding.specs.Encoded.{tags_stored, strings_stored, programs_stored}
use Rattle.encoding.specs.Keeps.{AllNames}
use Rattle.encoding.proofs.Sheets.{sheets_keep}
use Rattle.packing.specs.Packed.{nodes_section, productions_section}
use Rattle.stores.specs.Rows.{ends_from, RowsIn}
use Rattle.binding.specs.Bound.{ShortNames, TagRows, SectionsFit}
use Rattle.shelves.specs.declared.Shelved.{Shelved}
use Rattle.shelves.proofs.Rows.{rows_fit}
use Rattle.pasts.specs.declared.Past.{Past}
use Rattle.sealing.specs.declared.Outcome.{Outcome}
use Rattle.sealing.specs.Sealed.{SectionsOf, SealedIs}
use Rattle.closings.specs.Closings.{UsedIs, AllThere, SomeReady, BoundAs}

-- the last end is where the rows end
last_end : (at : ℕ) (x : List ℕ) (l : List (List ℕ)) (free : List ℕ) → get_or (ends_from at (x ∷ l) ++ free) (length l) 0 ≡ at + length (run_together (x ∷ l))
last_end at x [] free = omega (arith, length-append x [])
last_end at x (y ∷ l) free = last_end (at + length x) y l free ∙ (let k = length-append x (y ++ run_together l) in omega (arith, k))

empty_rows : (l : List (List ℕ)) → 0 ≡ length l → 0 ≡ length (run_together l)
empty_rows [] e = refl
empty_rows (x ∷ l) e = absurd (omega arith)

pub used_none : (ends : List ℕ) (count : ℕ) → count ≡ 0 → UsedIs ends count 0
used_none ends count e = record { is = λ bytes l h. empty_rows l (sym e ∙ h.number) }

pub used_some : (ends : List ℕ) (count : ℕ) → (count ≡ 0 → ⊥) → UsedIs ends count (get_or ends (count - 1) 0)
used_some ends count e = record { is = λ bytes l h. on bytes l h }
  where
    on : (bytes : List ℕ) (l : List (List ℕ)) → RowsIn bytes ends count l → get_or ends (count - 1) 0 ≡ length (run_together l)
    on bytes [] h = absurd (e h.number)
    on bytes (x ∷ l) h =
        let k : count - 1 ≡ length l = omega (arith, h.number) in
        ap₂ (λ (n : ℕ) (z : List ℕ). get_or z n 0) k h.ends_are ∙ last_end 0 x l h.free_ends ∙ (let z : 0 + length (x ++ run_together l) ≡ length (x ++ run_together l) = omega arith in z)

names_short : (l : List (List ℕ)) → AllNames l → ShortNames l
names_short [] h = tt
names_short (n ∷ l) h = (h.0.short, names_short l h.1)

module _ (text : List ℕ) (r : Rules) (start : ℕ) (counts : Shelved) (past : Past) (tags tagends productions nodes strings stringends programs programends : List ℕ)
    (w : AllThere text r start counts past tags tagends productions nodes strings stringends programs programends) where
  pub tag_rows : TagRows tags tagends counts.tags
  tag_rows = record {
    few = omega (arith, w.tags_held.number, w.room.few_tags);
    rows = tags_stored r;
    are = w.tags_held;
    short = names_short (tags_stored r) (sheets_keep text r w.is_text).names;
  }

  rows_of : (bytes ends : List ℕ) (n : ℕ) (l : List (List ℕ)) (k : ℕ) → RowsIn bytes ends n l → k ≡ length (run_together l) → take k bytes ≡ run_together l
  rows_of bytes ends n l k h e = ap₂ (λ (i : ℕ) (z : List ℕ). take i z) e h.bytes_are ∙ take-append_seam (run_together l) h.free_bytes

  past_productions : take (12 * past.productions) productions ≡ productions_section r 0 r.productions
  past_productions = w.past_held.records

  past_nodes : take past.nodes nodes ≡ nodes_section r r.productions
  past_nodes = w.past_held.laid ∙ append-nil (nodes_section r r.productions)

  -- the lengths
  pub productions_inside : 12 * past.productions ≤ length productions
  productions_inside = omega (arith, w.past_held.productions_are, w.is_text.within.few_productions, w.production_room)

  pub nodes_inside : past.nodes ≤ length nodes
  nodes_inside = omega (arith, w.past_held.nodes_are, w.past_held.before_is, w.is_text.within.few_nodes, w.node_room)

  pub programs_inside : (c : ℕ) → UsedIs programends counts.programs c → c ≤ length programs
  programs_inside c u = omega (arith, u.is programs (programs_stored r) w.programs_held, (rows_fit programs programends counts.programs (programs_stored r) w.programs_held).1)

  pub strings_inside : (d : ℕ) → UsedIs stringends counts.strings d → d ≤ length strings
  strings_inside d u = omega (arith, u.is strings (strings_stored r) w.strings_held, (rows_fit strings stringends counts.strings (strings_stored r) w.strings_held).1)

  pub counts_inside : (counts.programs ≤ length programends) × (counts.strings ≤ length stringends)
  counts_inside =
      (omega (arith, w.programs_held.number, (rows_fit programs programends counts.programs (programs_stored r) w.programs_held).0), omega (arith, w.strings_held.number, (rows_fit strings stringends counts.strings (strings_stored r) w.strings_held).0))

  pub sections_of : (c d : ℕ) → UsedIs programends counts.programs c → UsedIs stringends counts.strings d
      → SectionsOf r tags tagends counts.tags (take (12 * past.productions - 0) productions) (take (past.nodes - 0) nodes) (take (c - 0) programs) (take (d - 0) strings) start
  sections_of c d u v =
      let i : 12 * past.productions - 0 ≡ 12 * past.productions = omega arith in
      let j : past.nodes - 0 ≡ past.nodes = omega arith in
      let k : c - 0 ≡ c = omega arith in
      let l : d - 0 ≡ d = omega arith in
      record {
        tags_are = w.tags_held;
        productions_are = ap (λ (n : ℕ). take n productions) i ∙ past_productions;
        nodes_are = ap (λ (n : ℕ). take n nodes) j ∙ past_nodes;
        programs_are = ap (λ (n : ℕ). take n programs) k ∙ rows_of programs programends counts.programs (programs_stored r) c w.programs_held (u.is programs (programs_stored r) w.programs_held);
        strings_are = ap (λ (n : ℕ). take n strings) l ∙ rows_of strings stringends counts.strings (strings_stored r) d w.strings_held (v.is strings (strings_stored r) w.strings_held);
        start_is = w.start_is;
      }

  part_long : (n : ℕ) (x : List ℕ) → n ≤ length x → length (take (n - 0) x) ≡ n
  part_long n x h = let k : n - 0 ≡ n = omega arith in ap (λ (i : ℕ). length (take i x)) k ∙ length-take-le n x h

  pub sections_fit : (c d : ℕ) → UsedIs programends counts.programs c → UsedIs stringends counts.strings d
      → SectionsFit (take (12 * past.productions - 0) productions) (take (past.nodes - 0) nodes) (take (c - 0) programs) (take (d - 0) strings) start
  sections_fit c d u v = record {
    few_productions = omega (arith, part_long (12 * past.productions) productions productions_inside, w.past_held.productions_are, w.is_text.within.few_productions);
    few_nodes = omega (arith, part_long past.nodes nodes nodes_inside, w.past_held.nodes_are, w.past_held.before_is, w.is_text.within.few_nodes);
    short_programs = omega (arith, part_long c programs (programs_inside c u), u.is programs (programs_stored r) w.programs_held, w.room.short_programs);
    short_strings = omega (arith, part_long d strings (strings_inside d v), v.is strings (strings_stored r) w.strings_held, w.room.short_strings);
    start_fits = w.start_small;
  }

pub bound_as : (start : ℕ) (counts : Shelved) (past : Past) (tags tagends productions nodes strings stringends programs programends area after : List ℕ) (c d : ℕ) (o : Outcome)
    → UsedIs programends counts.programs c → UsedIs stringends counts.strings d
    → SealedIs tags tagends counts.tags (take (12 * past.productions - 0) productions) (take (past.nodes - 0) nodes) (take (c - 0) programs) (take (d - 0) strings) start area after o
    → BoundAs start counts past tags tagends productions nodes strings stringends programs programends area after o
bound_as start counts past tags tagends productions nodes strings stringends programs programends area after c d o u v f = record {
  is = λ text r w. f.is text r w.is_text w.room (sections_of text r start counts past tags tagends productions nodes strings stringends programs programends w c d u v);
}

module _ (start : ℕ) (counts : Shelved) (past : Past) (tags tagends productions nodes strings stringends programs programends : List ℕ)
    (w : SomeReady start counts past tags tagends productions nodes strings stringends programs programends) where
  pub ask_programs : counts.programs ≤ length programends
  ask_programs = (counts_inside w.text w.rules start counts past tags tagends productions nodes strings stringends programs programends w.ready).0

  pub ask_strings : counts.strings ≤ length stringends
  ask_strings = (counts_inside w.text w.rules start counts past tags tagends productions nodes strings stringends programs programends w.ready).1

  pub part_programs : (c : ℕ) → UsedIs programends counts.programs c → c ≤ length programs
  part_programs c u = programs_inside w.text w.rules start counts past tags tagends productions nodes strings stringends programs programends w.ready c u

  pub part_strings : (d : ℕ) → UsedIs stringends counts.strings d → d ≤ length strings
  part_strings d u = strings_inside w.text w.rules start counts past tags tagends productions nodes strings stringends programs programends w.ready d u

  pub part_productions : 12 * past.productions ≤ length productions
  part_productions = productions_inside w.text w.rules start counts past tags tagends productions nodes strings stringends programs programends w.ready

  pub part_nodes : past.nodes ≤ length nodes
  part_nodes = nodes_inside w.text w.rules start counts past tags tagends productions nodes strings stringends programs programends w.ready

  pub ask_tags : TagRows tags tagends counts.tags
  ask_tags = tag_rows w.text w.rules start counts past tags tagends productions nodes strings stringends programs programends w.ready

  pub ask_sections : (c d : ℕ) → UsedIs programends counts.programs c → UsedIs stringends counts.strings d
      → SectionsFit (take (12 * past.productions - 0) productions) (take (past.nodes - 0) nodes) (take (c - 0) programs) (take (d - 0) strings) start
  ask_sections c d u v = sections_fit w.text w.rules start counts past tags tagends productions nodes strings stringends programs programends w.ready c d u v
