-- Declarations of the family that a sheet can hold are rules that can be typed, with room in a sheet. Assumes nothing.
use mathlib.Core.Path.{◌≡◌, refl, sym, ap, subst}
use mathlib.Core.Bool.{Bool, true, false, cond}
use mathlib.Core.List.{List, [], ◌∷◌, ◌++◌}
use Prim.Native.Nat.{ℕ, suc, ◌≤◌, ◌<◌}
use native.Mathlib.Omega.{arith}
use lib.ListN.{length}
use Rattle.expressions.specs.Expr.{nonterminal, anychar, Exp, atom, alt, nodes_of}
use Rattle.expressions.specs.Grammar.{nonterminals}
use Rattle.notation.specs.Tokens.{TagName}
use Rattle.notation.specs.Limits.{content_depth, AllWithin, EachWithin, WithinLimits}
use Rattle.encoding.specs.Distinct.{equal, has, added, distinct, place_of, run_together}
use Rattle.encoding.specs.Keeps.{AllNames}
use Rattle.encoding.specs.Sound.{SoundTree, SoundContent, AllSound, SoundRules}
use Rattle.encoding.proofs.Stored.{AllHad, distinct_all, equal_true, or_parts, place_below}
use Rattle.packing.specs.Packed.{sheet_bytes}
use Rattle.packing.specs.Packs.{Packs}
use Rattle.packing.proofs.Packing.{packs_sheets, none_of_six, is_its_sheet}
use Rattle.sheet.specs.Sheet.{IsSheet}
use Rattle.printed.specs.Text.{text_of}
use Rattle.printed.proofs.Text.{printed_is_text}
use Rattle.models.specs.Models.{Model, called, sequence, choice, optional, any_number, at_least_one, ContentSpec, nothing_inside, mixed, children, Declaration}
use Rattle.models.specs.Expressions.{model_expression, or_names, spec_content}
use Rattle.models.specs.Family.{EachFewNodes, Shallow, names_in, names_in_spec, mentioned, Family, Holdable}
use Rattle.models.specs.Sheets.{declared_names, number_of_name}
use Rattle.models.proofs.Counted.{nodes_counted, depth_counted}
use Rattle.models.proofs.Sheets.{had_behind, declared_sheets_keep}
use Rattle.declaring.specs.Rules.{plain_tree, plain_content, declaration_rules, rules_of_dtd}
use Rattle.declaring.specs.Promises.{DeclarationsHaveText, DeclarationsHaveRoom, PacksDeclarations, NoneOfSixDeclared, IsDeclaredSheet}
use Rattle.declaring.proofs.Plain.{content_plain, visits_none, none_within}
use Rattle.declaring.proofs.Rules.{tags_declared, strings_none, programs_none, nodes_together_lem, as_many, sheet_is_declared}

pub had_front : (l a b : List (List ℕ)) → AllHad l (a ++ b) → AllHad l a
had_front l [] b h = tt
had_front l (x ∷ a) b h = (h.0, had_front l a b h.1)

-- a name that is stored among names is one
named : (l : List (List ℕ)) (n : List ℕ) → AllNames l → has l n ≡ true → TagName n
named [] n a h = absurd (let z : ◌≡◌ {A = ℕ} 0 1 = cc in omega arith)
named (m ∷ l) n a h = on (equal n m) refl (λ f. named l n a.1 (or_parts (equal n m) (has l n) h f))
  where
    on : (b : Bool) → equal n m ≡ b → (equal n m ≡ false → TagName n) → TagName n
    on true f ih = subst TagName (sym (equal_true n m f)) a.0
    on false f ih = ih f

-- nonterminals by their place among names that are few
module _ (l : List (List ℕ)) (few : length l ≤ nonterminals) where
  below : (n : List ℕ) → has l n ≡ true → place_of l n < nonterminals
  below n h = omega (arith, place_below l n h, few)

  sound_model : (x : Model) → AllHad l (names_in x) → SoundTree (plain_tree (model_expression (place_of l) x))
  sound_model (called n) h = (tt, (tt, below n h.0))
  sound_model (sequence x y) h = (tt, (tt, (sound_model x (had_front l (names_in x) (names_in y) h), sound_model y (had_behind l (names_in x) (names_in y) h))))
  sound_model (choice x y) h = (tt, (tt, (sound_model x (had_front l (names_in x) (names_in y) h), sound_model y (had_behind l (names_in x) (names_in y) h))))
  sound_model (optional x) h = (tt, (tt, (sound_model x h, (tt, (tt, tt)))))
  sound_model (any_number x) h = (tt, (tt, sound_model x h))
  sound_model (at_least_one x) h = (tt, (tt, (sound_model x h, (tt, (tt, sound_model x h)))))

  sound_names : (e : Exp) (ns : List (List ℕ)) → SoundTree (plain_tree e) → AllHad l ns → SoundTree (plain_tree (or_names (place_of l) e ns))
  sound_names e [] s h = s
  sound_names e (n ∷ ns) s h = sound_names (alt e (atom (nonterminal (place_of l n)))) ns (tt, (tt, (s, (tt, (tt, below n h.0))))) h.1

  sound_content : (c : ContentSpec) → AllHad l (names_in_spec c) → SoundContent (plain_content (spec_content (place_of l) c))
  sound_content nothing_inside h = tt
  sound_content (mixed ns) h = (tt, (tt, sound_names (atom anychar) ns (tt, (tt, tt)) h))
  sound_content (children x) h = sound_model x h

sound_each : (all ds : List Declaration) → Holdable all → AllNames (distinct (declared_names all)) → AllHad (distinct (mentioned all)) (mentioned ds) → AllHad (distinct (declared_names all)) (declared_names ds)
    → AllSound (declaration_rules all ds)
sound_each all [] h n a b = tt
sound_each all (d ∷ ds) h n a b = (
  record {
    numbered = below (distinct (mentioned all)) h.few_names d.declared a.0;
    named = named (distinct (declared_names all)) d.declared n b.0;
    before = tt;
    after = tt;
    content = sound_content (distinct (mentioned all)) h.few_names d.content (had_front (distinct (mentioned all)) (names_in_spec d.content) (mentioned ds) a.1);
  },
  sound_each all ds h n (had_behind (distinct (mentioned all)) (names_in_spec d.content) (mentioned ds) a.1) b.1,
)

within_each : (all ds : List Declaration) → EachFewNodes ds → Shallow ds → EachWithin (declaration_rules all ds)
within_each all [] f s = tt
within_each all (d ∷ ds) f s =
    let c = spec_content (number_of_name all) d.content in (
      record {
        own = (tt, tt);
        inside = record {
          few_nodes = omega (arith, ap nodes_of (content_plain c), nodes_counted (number_of_name all) d.content, f.0);
          shallow = omega (arith, ap content_depth (content_plain c), depth_counted (number_of_name all) d.content, s.0);
          programs = subst AllWithin (sym (visits_none c)) (none_within (nodes_of c));
        };
      },
      within_each all ds f.1 s.1,
    )

some_of : (ds : List Declaration) → (ds ≡ [] → ⊥) → 1 ≤ length ds
some_of [] h = absurd (h refl)
some_of (d ∷ ds) h = omega arith

can_be_typed : (text : List ℕ) (ds : List Declaration) → Family text ds → Holdable ds → SoundRules (rules_of_dtd ds)
unfolding rules_of_dtd
can_be_typed text ds f h = record {
  its_start = omega arith;
  some_productions = omega (arith, as_many ds ds, some_of ds f.spelled.some);
  each = sound_each ds ds h (declared_sheets_keep text ds f h).names (distinct_all (mentioned ds)) (distinct_all (declared_names ds));
}

are_within : (text : List ℕ) (ds : List Declaration) → Family text ds → Holdable ds → WithinLimits (rules_of_dtd ds)
unfolding rules_of_dtd
are_within text ds f h = record {
  few_productions = omega (arith, as_many ds ds, h.few_declarations);
  few_nodes = omega (arith, nodes_together_lem ds ds, h.few_nodes);
  each = within_each ds ds f.few_nodes f.shallow;
}

pub have_text : DeclarationsHaveText
have_text text ds f h = printed_is_text (rules_of_dtd ds) (can_be_typed text ds f h) (are_within text ds f h)

-- no more are different than there are
pub few_added : (seen l : List (List ℕ)) → length (added seen l) ≤ length l
few_added seen [] = omega arith
few_added seen (x ∷ l) = on (has seen x) (few_added seen l) (few_added (seen ++ x ∷ []) l)
  where
    on : (b : Bool) → length (added seen l) ≤ length l → length (added (seen ++ x ∷ []) l) ≤ length l → length (cond b (added seen l) (x ∷ added (seen ++ x ∷ []) l)) ≤ suc (length l)
    on true a c = omega (arith, a)
    on false a c = omega (arith, c)

pub as_many_names : (ds : List Declaration) → length (declared_names ds) ≡ length ds
as_many_names [] = refl
as_many_names (d ∷ ds) = ap suc (as_many_names ds)

pub have_room : DeclarationsHaveRoom
have_room ds h = record {
  few_tags = omega (arith, ap length (tags_declared ds), few_added [] (declared_names ds), as_many_names ds, h.few_declarations);
  short_programs = omega (arith, ap (λ (l : List (List ℕ)). length (run_together l)) (programs_none ds));
  short_strings = omega (arith, ap (λ (l : List (List ℕ)). length (run_together l)) (strings_none ds));
}

pub packs_declarations : PacksDeclarations
packs_declarations text ds f h = subst (Packs (sheet_bytes (rules_of_dtd ds))) (sheet_is_declared ds) (packs_sheets (text_of (rules_of_dtd ds)) (rules_of_dtd ds) (have_text text ds f h) (have_room ds h))

pub none_of_six_declared : NoneOfSixDeclared
none_of_six_declared text ds d f h = none_of_six (text_of (rules_of_dtd ds)) (rules_of_dtd ds) d (have_text text ds f h) (have_room ds h)

pub is_declared_sheet : IsDeclaredSheet
is_declared_sheet text ds f h g = subst (IsSheet (sheet_bytes (rules_of_dtd ds))) (sheet_is_declared ds) (is_its_sheet (text_of (rules_of_dtd ds)) (rules_of_dtd ds) (have_text text ds f h) (have_room ds h) g)
