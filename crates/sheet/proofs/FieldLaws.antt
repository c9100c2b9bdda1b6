-- Laws of number 6: two fields from their tests, and the programs of a sheet from the fields of its records. One list of programs fills a section.
-- Assumes nothing.
use mathlib.Core.Path.{◌≡◌, sym, ap, subst, ◌∙◌}
use mathlib.Core.Bool.{Bool, true, false, ◌&&◌}
use mathlib.Core.List.{List}
use Prim.Native.Nat.{ℕ, ◌+◌, ◌-◌, ◌*◌, ◌<◌}
use native.Mathlib.Omega.{arith}
use lib.ListN.{length, take, drop}
use Rattle.programs.specs.Program.{Program}
use Rattle.tells.specs.Tells.{Tells}
use Rattle.layout.specs.Layout.{word_at, tag_count, production_count, node_count, programs_in, strings_in, program_length, string_length}
use Rattle.layout.specs.Records.{production_at, first_program_of, second_program_of, node_at, first_program_of_node, second_program_of_node}
use Rattle.layout.specs.LaidOut.{LaidOut}
use Rattle.layout.specs.declared.Layout.{Layout}
use Rattle.sheet.specs.Fields.{Visits, FieldsAre, Programs}
use Rattle.sheet.specs.FieldTests.{Named, EachNamed}
use Rattle.programs.proofs.Sections.{one_filling}
use Rattle.tells.proofs.Laws.{as_told, both_told}
use Rattle.programs.specs.Parsed.{Filled, FieldTold}

pub named_told :
    (tags : ℕ) (strings section : List ℕ) (one two : ℕ) → Filled tags strings section → {a b : Bool} →
    FieldTold tags strings section one false a → FieldTold tags strings section two true b → Tells (Named tags strings section one two) (a && b)
named_told tags strings section one two f x y =
    as_told
    (λ z ps g. subst (λ (qs : List Program). (v : Visits) × FieldsAre qs one two v) (one_filling tags strings section f.0 ps f.1 g)
    (record { first_visit = z.0.0; second_visit = z.1.0 }, record { first_is = z.0.1; second_is = z.1.1 }))
    (λ h. let w = h f.0 f.1 in ((w.0.first_visit, w.1.first_is), (w.0.second_visit, w.1.second_is)))
    (both_told (x f.0 f.1) (y f.0 f.1))

-- the fields of a production and of a node, as their records have them
abbrev pub EachProductionNamed : List ℕ → Type 0
EachProductionNamed s = (q : ℕ) → q < production_count s → Named (tag_count s) (strings_in s) (programs_in s) (first_program_of s q) (second_program_of s q)

abbrev pub EachNodeNamed : List ℕ → Type 0
EachNodeNamed s = (i : ℕ) → i < node_count s → Named (tag_count s) (strings_in s) (programs_in s) (first_program_of_node s i) (second_program_of_node s i)

pub programs_from : (s : List ℕ) → Filled (tag_count s) (strings_in s) (programs_in s) → EachProductionNamed s → EachNodeNamed s → Programs s
programs_from s f p n = record { programs = f.0; fill = f.1; of_productions = λ q h. p q h f.0 f.1; of_nodes = λ i h. n i h f.0 f.1 }

module _ (s : List ℕ) (h : Programs s) where
  pub filled_of : Filled (tag_count s) (strings_in s) (programs_in s)
  filled_of = (h.programs, h.fill)

  other : (one two : ℕ) → (v : Visits) × FieldsAre h.programs one two v → Named (tag_count s) (strings_in s) (programs_in s) one two
  other one two w ps g = subst (λ (qs : List Program). (v : Visits) × FieldsAre qs one two v) (one_filling (tag_count s) (strings_in s) (programs_in s) h.programs ps h.fill g) w

  pub productions_named : EachProductionNamed s
  productions_named q b = other (first_program_of s q) (second_program_of s q) (h.of_productions q b)

  pub nodes_named : EachNodeNamed s
  nodes_named i b = other (first_program_of_node s i) (second_program_of_node s i) (h.of_nodes i b)

named_at :
    {t t' x x' y y' : ℕ} {a a' b b' : List ℕ} → t ≡ t' → a ≡ a' → b ≡ b' → x ≡ x' → y ≡ y' → Named t a b x y → Named t' a' b' x' y'
named_at {t} {t'} {x} {x'} {y} {y'} {a} {a'} {b} {b'} et ea eb ex ey h =
    subst (λ (z : ℕ). Named z a' b' x' y') et
    (subst (λ (z : List ℕ). Named t z b' x' y') ea
    (subst (λ (z : List ℕ). Named t a z x' y') eb
    (subst (λ (z : ℕ). Named t a b z y') ex (subst (λ (z : ℕ). Named t a b x z) ey h))))

-- what the code's tests tell, of parts of the sheet by its layout, is told of the sheet
module _ (s : List ℕ) (l : Layout) (d : LaidOut s l) where
  abbrev section : List ℕ
  section = take (l.programs_at + l.programs - l.programs_at) (drop l.programs_at s)

  abbrev strings : List ℕ
  strings = take (l.strings_at + l.strings - l.strings_at) (drop l.strings_at s)

  section_is : section ≡ programs_in s
  section_is =
      let e : l.programs_at + l.programs - l.programs_at ≡ program_length s = omega (arith, d.layout_is.programs_is.is) in
      ap (λ (k : ℕ). take k (drop l.programs_at s)) e ∙ ap (λ (k : ℕ). take (program_length s) (drop k s)) d.layout_is.programs_at_is.is

  strings_is : strings ≡ strings_in s
  strings_is =
      let e : l.strings_at + l.strings - l.strings_at ≡ string_length s = omega (arith, d.layout_is.strings_is.is) in
      ap (λ (k : ℕ). take k (drop l.strings_at s)) e ∙ ap (λ (k : ℕ). take (string_length s) (drop k s)) d.layout_is.strings_at_is.is

  pub fill_told : {b : Bool} → Tells (Filled l.tags strings section) b → Tells (Filled (tag_count s) (strings_in s) (programs_in s)) b
  fill_told {b} h =
      subst (λ (z : ℕ). Tells (Filled z (strings_in s) (programs_in s)) b) d.layout_is.tags_is.is
      (subst (λ (z : List ℕ). Tells (Filled l.tags z (programs_in s)) b) strings_is
      (subst (λ (z : List ℕ). Tells (Filled l.tags strings z) b) section_is h))

  each_told :
      (at width count n : ℕ) (x y : ℕ → ℕ) → count ≡ n → ((k : ℕ) → at + width * k ≡ x k) → ((k : ℕ) → at + width * k + 2 ≡ y k) → {b : Bool} →
      Tells (EachNamed l.tags strings section s at width count) b →
      Tells ((k : ℕ) → k < n → Named (tag_count s) (strings_in s) (programs_in s) (word_at s (x k)) (word_at s (y k))) b
  each_told at width count n x y e ex ey =
      let et = d.layout_is.tags_is.is in
      as_told
      (λ h k z. named_at et strings_is section_is (ap (word_at s) (ex k)) (ap (word_at s) (ey k)) (h k (omega (arith, z, e))))
      (λ h k z. named_at (sym et) (sym strings_is) (sym section_is) (ap (word_at s) (sym (ex k))) (ap (word_at s) (sym (ey k))) (h k (omega (arith, z, e))))

  pub productions_told : {b : Bool} → Tells (EachNamed l.tags strings section s (l.productions_at + 6) 12 l.productions) b → Tells (EachProductionNamed s) b
  productions_told =
      let e = d.layout_is.productions_at_is.is in
      each_told (l.productions_at + 6) 12 l.productions (production_count s) (λ q. production_at s q + 6) (λ q. production_at s q + 8) d.layout_is.productions_is.is
      (λ k. omega (arith, e)) (λ k. omega (arith, e))

  pub nodes_told : {b : Bool} → Tells (EachNamed l.tags strings section s (l.nodes_at + 2) 6 l.nodes) b → Tells (EachNodeNamed s) b
  nodes_told =
      let e = d.layout_is.nodes_at_is.is in
      each_told (l.nodes_at + 2) 6 l.nodes (node_count s) (λ i. node_at s i + 2) (λ i. node_at s i + 4) d.layout_is.nodes_is.is
      (λ k. omega (arith, e)) (λ k. omega (arith, e))

  -- the fields lie in the sheet
  pub production_inside : (k : ℕ) → k < l.productions → l.productions_at + 6 + 12 * k + 3 < length s
  production_inside k h = omega (arith, d.productions_before, d.nodes_before, d.programs_before, d.strings_before)

  pub node_inside : (k : ℕ) → k < l.nodes → l.nodes_at + 2 + 6 * k + 3 < length s
  node_inside k h = omega (arith, d.nodes_before, d.programs_before, d.strings_before)
