-- Any two answers of a printing are equal. Assumes nothing.
use mathlib.Core.Path.{◌≡◌, refl, sym, ◌∙◌, ap, subst}
use mathlib.Core.List.{List, ◌++◌}
use Prim.Native.Nat.{ℕ, ◌≤◌, ◌<◌}
use native.Mathlib.Omega.{arith}
use lib.ListN.{length, drop}
use Rattle.limits.specs.Limits.{most_string_bytes}
use Rattle.programs.specs.Program.{Program}
use Rattle.programs.proofs.Sections.{one_filling}
use Rattle.layout.specs.Layout.{tag_count, production_count, programs_in, strings_in}
use Rattle.sheet.specs.Tags.{TagAt}
use Rattle.sheet.specs.Sheet.{Sheet, From, RuleAt}
use Rattle.sheet.specs.Defect.{DefectIs, well_formed_lem, its_size, its_sections, a_tag, a_production, a_tree, a_program, not_grounded}
use Rattle.sheet.proofs.SheetLaws.{one_from, one_name, one_rule, sheet_by}
use Rattle.sheet.proofs.DefectLaws.{one_defect}
use Rattle.notation.specs.Rules.{Rules}
use Rattle.encoding.specs.Distinct.{run_together}
use Rattle.encoding.specs.Encoded.{strings_stored}
use Rattle.packing.specs.Packs.{Packs}
use Rattle.printed.specs.Text.{text_of}
use Rattle.naming.specs.ByName.{ByName}
use Rattle.naming.proofs.One.{one_by_name}
use Rattle.printing.specs.Printed.{HasText, PrintedAs, no_sheet, no_room, too_short, printed}
use Rattle.printing.specs.Promises.{OnePrinting}

-- bytes are one sheet at most
pub one_packed : (s : List ℕ) (a b : Sheet) → Packs s a → Packs s b → a ≡ b
one_packed s a b h g =
    let ps = h.programs.programs in
    let qs = g.programs.programs in
    let e : qs ≡ ps = one_filling (tag_count s) (strings_in s) (programs_in s) qs ps g.programs.fill h.programs.fill in
    let rules : From (RuleAt s ps) 0 (production_count s) b.rules = subst (λ (z : List Program). From (RuleAt s z) 0 (production_count s) b.rules) e g.rules_are in
    sheet_by (one_from (TagAt s) (one_name s) 0 (tag_count s) a.names b.names h.names_are g.names_are) (one_from (RuleAt s ps) (one_rule s ps) 0 (production_count s) a.rules b.rules h.rules_are rules)
    (h.strings_are ∙ sym g.strings_are) (h.start_is ∙ sym g.start_is)

-- and one rules, whose text is theirs
its_rules : (s : List ℕ) (a : Sheet) (r q : Rules) → Packs s a → ByName a r → HasText s q → r ≡ q
its_rules s a r q p b h = one_by_name h.its_sheet r q (subst (λ z. ByName z r) (one_packed s a h.its_sheet p h.packed) b) h.by_name

pub one_text : (s : List ℕ) (r q : Rules) → HasText s r → HasText s q → r ≡ q
one_text s r q h k = its_rules s h.its_sheet r q h.packed h.by_name k

no_text : (s : List ℕ) (a : Sheet) (r q : Rules) → Packs s a → ByName a r → most_string_bytes < length (run_together (strings_stored r)) → HasText s q → ⊥
no_text s a r q p b t h = omega (arith, t, h.short, ap (λ z. length (run_together (strings_stored z))) (its_rules s a r q p b h))

-- what keeps 1 to 6 has none of these numbers
none_of_six : (s : List ℕ) (a : Sheet) (d : ℕ) → Packs s a → DefectIs s d → 1 ≤ d → d ≤ 6 → ⊥
none_of_six s a d p (well_formed_lem w) i j = omega arith
none_of_six s a d p (its_size n) i j = n p.size
none_of_six s a d p (its_sections x n) i j = n p.sections
none_of_six s a d p (a_tag x y n) i j = n p.tags
none_of_six s a d p (a_production x y z n) i j = n p.productions
none_of_six s a d p (a_tree x y z u n) i j = n p.trees
none_of_six s a d p (a_program x y z u w n) i j = n p.programs
none_of_six s a d p (not_grounded x y z u w v n) i j = omega arith

same_length : (s : List ℕ) (r q : Rules) → HasText s r → HasText s q → length (text_of r) ≡ length (text_of q)
same_length s r q h k = ap (λ z. length (text_of z)) (one_text s r q h k)

pub one_printing : OnePrinting
one_printing s area m n j k x y (no_sheet d i l) (no_sheet e i' l') = (one_defect d e, refl, refl)
one_printing s area m n j k x y (no_sheet d i l) (no_room a r p b t) = absurd (none_of_six s a m p d i l)
one_printing s area m n j k x y (no_sheet d i l) (too_short r h t) = absurd (none_of_six s h.its_sheet m h.packed d i l)
one_printing s area m n j k x y (no_sheet d i l) (printed r h t) = absurd (none_of_six s h.its_sheet m h.packed d i l)
one_printing s area m n j k x y (no_room a r p b t) (no_sheet e i l) = absurd (none_of_six s a n p e i l)
one_printing s area m n j k x y (no_room a r p b t) (no_room a' q p' b' u) = (refl, refl, refl)
one_printing s area m n j k x y (no_room a r p b t) (too_short q h u) = absurd (no_text s a r q p b t h)
one_printing s area m n j k x y (no_room a r p b t) (printed q h u) = absurd (no_text s a r q p b t h)
one_printing s area m n j k x y (too_short r h t) (no_sheet e i l) = absurd (none_of_six s h.its_sheet n h.packed e i l)
one_printing s area m n j k x y (too_short r h t) (no_room a q p b u) = absurd (no_text s a q r p b u h)
one_printing s area m n j k x y (too_short r h t) (too_short q g u) = (refl, same_length s r q h g, refl)
one_printing s area m n j k x y (too_short r h t) (printed q g u) = absurd (omega (arith, same_length s r q h g))
one_printing s area m n j k x y (printed r h t) (no_sheet e i l) = absurd (none_of_six s h.its_sheet n h.packed e i l)
one_printing s area m n j k x y (printed r h t) (no_room a q p b u) = absurd (no_text s a q r p b u h)
one_printing s area m n j k x y (printed r h t) (too_short q g u) = absurd (omega (arith, same_length s r q h g))
one_printing s area m n j k x y (printed r h t) (printed q g u) = (refl, same_length s r q h g, ap (λ z. text_of z ++ drop (length (text_of z)) area) (one_text s r q h g))
