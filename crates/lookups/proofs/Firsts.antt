-- The first of a sheet's things that passes a test, found by passing over the numbers of those before it: an induction on the things from some number on.
-- Assumes nothing.
use mathlib.Core.Path.{◌≡◌, refl, sym, ap, ap₂, ◌∙◌}
use mathlib.Core.Bool.{Bool, true, false, ◌&&◌}
use mathlib.Core.List.{List, [], ◌∷◌}
use mathlib.Core.Option.{Option, none, some}
use Prim.Native.Nat.{ℕ, zero, suc, ◌+◌, ◌-◌, ◌*◌, ◌<◌}
use native.Mathlib.Omega.{arith}
use lib.Dec.{eqb}
use Rattle.std.specs.Prelude.{Some, None}
use lib.ListN.{take, drop}
use Rattle.layout.specs.Layout.{tag_count, production_count}
use Rattle.layout.specs.LaidOut.{LaidOut}
use Rattle.layout.specs.declared.Layout.{Layout}
use Rattle.layout.specs.Records.{nonterminal_of, tag_number_of}
use Rattle.trees.specs.GrammarAt.{ProductionIs}
use Rattle.sheet.specs.Tags.{TagAt}
use Rattle.sheet.specs.Sheet.{Rule, grammar_of, From, RuleAt}
use Rattle.sheet.proofs.SheetLaws.{from_counted}
use Rattle.sheet.proofs.TagLaws.{tag_part}
use Rattle.runs.specs.Lookup.{or_later, find}
use Rattle.calls.specs.Names.{same_name, tag_named}
use Rattle.lookups.specs.Tests.{NameTold}
use Rattle.lookups.specs.Found.{answer_of, TagFound, ProductionFound}

module _ {A : Type 0} (passes : A → Bool) where
  abbrev first_of : List A → Option ℕ
  first_of [] = none
  first_of (x ∷ xs) = or_later (passes x) (first_of xs)

  module _ (P : ℕ → A → Type 0) where
    none_passes : (i k : ℕ) (xs : List A) → From P i k xs → ((j : ℕ) → j < k → (x : A) → P j x → passes x ≡ false) → first_of xs ≡ none
    none_passes i k [] h f = refl
    none_passes i k (x ∷ xs) h f = ap₂ or_later (f i (omega (arith, from_counted P (suc i) k xs h.1)) x h.0) (none_passes (suc i) k xs h.1 f)

    first_passes : (t i k : ℕ) (xs : List A) → From P i k xs → i + t < k → ((j : ℕ) → j < i + t → (x : A) → P j x → passes x ≡ false) → ((j : ℕ) → j ≡ i + t → (x : A) → P j x → passes x ≡ true) →
        first_of xs ≡ some t
    first_passes t i k [] h b f g = absurd (omega arith)
    first_passes zero i k (x ∷ xs) h b f g = ap (λ (c : Bool). or_later c (first_of xs)) (g i (omega arith) x h.0)
    first_passes (suc t) i k (x ∷ xs) h b f g =
        ap₂ or_later (f i (omega arith) x h.0) (first_passes t (suc i) k xs h.1 (omega arith) (λ j z. f j (omega arith)) (λ j z. g j (omega arith)))

-- tags
named_first : (ns : List (List ℕ)) (name : List ℕ) → tag_named ns name ≡ first_of (λ m. same_name m name) ns
named_first [] name = refl
named_first (m ∷ ns) name = ap (or_later (same_name m name)) (named_first ns name)

-- tag t is tested: `b` says whether it has the name
abbrev pub TagTells : List ℕ → List ℕ → Bool → ℕ → Type 0
TagTells s name b t = (m : List ℕ) → TagAt s t m → same_name m name ≡ b

pub tag_tells : (s : List ℕ) (l : Layout) → LaidOut s l → (name : List ℕ) (t : ℕ) {r : Bool} (b : Bool) →
    NameTold (take (l.tags_at + 16 * t + 16 - (l.tags_at + 16 * t)) (drop (l.tags_at + 16 * t) s)) name r → r ≡ b → TagTells s name b t
tag_tells s l d name t b h e m k = sym (h.is m k.short (tag_part s l d t ∙ k.spelled)) ∙ e

module _ (s name : List ℕ) where
  pub tag_found : (t : ℕ) → t < 256 → t < tag_count s → ((j : ℕ) → j < t → TagTells s name false j) → TagTells s name true t → TagFound s name (Some t)
  tag_found t few b before here =
      record {
        few = few;
        is = λ a i.
            let e = first_passes (λ m. same_name m name) (TagAt s) t 0 (tag_count s) a.names i.names_are (omega arith) (λ j z. before j (omega arith)) (λ j z. let k : j ≡ t = omega arith in rw k here) in
            sym (ap answer_of (named_first a.names name ∙ e));
      }

  pub no_tag_found : ((j : ℕ) → j < tag_count s → TagTells s name false j) → TagFound s name None
  no_tag_found none_has =
      record {
        few = tt;
        is = λ a i. sym (ap answer_of (named_first a.names name ∙ none_passes (λ m. same_name m name) (TagAt s) 0 (tag_count s) a.names i.names_are none_has));
      }

-- productions
abbrev is_of : ℕ → ℕ → Rule → Bool
is_of n t r = eqb n r.production.nonterm && eqb t r.production.tagno

find_first : (rs : List Rule) (n t : ℕ) → find (grammar_of rs) n t ≡ first_of (is_of n t) rs
find_first [] n t = refl
find_first (r ∷ rs) n t = ap (or_later (is_of n t r)) (find_first rs n t)

-- the record of production q, tested
abbrev pub is_for : List ℕ → ℕ → ℕ → ℕ → Bool
is_for s n t q = eqb n (nonterminal_of s q) && eqb t (tag_number_of s q)

module _ (s : List ℕ) (n t : ℕ) where
  rule_tells : (q : ℕ) (b : Bool) → is_for s n t q ≡ b → (r : Rule) → ProductionIs s q r.production → is_of n t r ≡ b
  rule_tells q b e r h = ap₂ (λ (x y : ℕ). eqb n x && eqb t y) h.nonterminal_is h.tag_is ∙ e

  pub production_found : (q : ℕ) → q < 256 → q < production_count s → ((j : ℕ) → j < q → is_for s n t j ≡ false) → is_for s n t q ≡ true → ProductionFound s n t (Some q)
  production_found q few b before here =
      record {
        few = few;
        is = λ a i.
            let ps = i.well_formed_lem.programs.programs in
            let e = first_passes (is_of n t) (RuleAt s ps) q 0 (production_count s) a.rules i.rules_are (omega arith) (λ j z r h. rule_tells j false (before j (omega arith)) r h.production_is) (λ j z r h. rule_tells j true (let k : j ≡ q = omega arith in rw k here) r h.production_is) in
            sym (ap answer_of (find_first a.rules n t ∙ e));
      }

  pub no_production_found : ((j : ℕ) → j < production_count s → is_for s n t j ≡ false) → ProductionFound s n t None
  no_production_found none_is =
      record {
        few = tt;
        is = λ a i.
            let ps = i.well_formed_lem.programs.programs in
            sym (ap answer_of (find_first a.rules n t ∙ none_passes (is_of n t) (RuleAt s ps) 0 (production_count s) a.rules i.rules_are (λ j z r h. rule_tells j false (none_is j z) r h.production_is)));
      }
