-- The sheet of declarations keeps what numbers 3 to 6 ask of names, productions, trees and programs. Assumes nothing.
use mathlib.Core.Path.{◌≡◌, refl, sym, ◌∙◌, ap, subst}
use mathlib.Core.Bool.{Bool, true, false, cond}
use mathlib.Core.List.{List, [], ◌∷◌, ◌++◌}
use Prim.Native.Nat.{ℕ, zero, suc, ◌≤◌, ◌<◌}
use native.Mathlib.Omega.{arith}
use lib.ListN.{length, replicate, length-replicate}
use Rattle.expressions.specs.Grammar.{nonterminals}
use Rattle.notation.specs.Tokens.{TagName}
use Rattle.sheet.specs.Sheet.{Sheet}
use Rattle.encoding.specs.Distinct.{has, added, distinct, AllDifferent, place_of}
use Rattle.encoding.specs.Keeps.{AllNames, AllKeep, EachKeeps, SheetKeeps}
use Rattle.encoding.proofs.Stored.{AllHad, distinct_all, added_different, place_below}
use Rattle.models.specs.Models.{Declaration}
use Rattle.models.specs.Expressions.{spec_nodes}
use Rattle.models.specs.Spelling.{DeclarationIs, declaration, DeclarationsAre}
use Rattle.models.specs.Family.{names_in_spec, mentioned, EachFewNodes, Shallow, Family, Holdable}
use Rattle.models.specs.Sheets.{declared_names, number_of_name, tag_of_name, no_programs, declared_rules, declared_sheet, DeclaredSheetsKeep}
use Rattle.models.proofs.Counted.{nodes_counted, depth_counted}

more_names : (ds : List Declaration) (d : Declaration) → AllNames (declared_names ds) → TagName d.declared → AllNames (declared_names (ds ++ d ∷ []))
more_names [] d h t = (t, tt)
more_names (x ∷ ds) d h t = (h.0, more_names ds d h.1 t)

its_name : {p : ℕ} {w : List ℕ} {d : Declaration} → DeclarationIs p w d → TagName d.declared
its_name (declaration s t s' c s'' e) = t

all_names : {p : ℕ} {w : List ℕ} {ds : List Declaration} → DeclarationsAre p w ds → AllNames (declared_names ds)
all_names (DeclarationsAre.none h) = tt
all_names (DeclarationsAre.one_more {ds = ds} {d = d} a h s e) = more_names ds d (all_names a) (its_name h)

names_added : (seen l : List (List ℕ)) → AllNames l → AllNames (added seen l)
names_added seen [] h = tt
names_added seen (x ∷ l) h = on (has seen x) (names_added seen l h.1) (names_added (seen ++ x ∷ []) l h.1)
  where
    on : (b : Bool) → AllNames (added seen l) → AllNames (added (seen ++ x ∷ []) l) → AllNames (cond b (added seen l) (x ∷ added (seen ++ x ∷ []) l))
    on true a c = a
    on false a c = (h.0, c)

pub had_behind : (l a b : List (List ℕ)) → AllHad l (a ++ b) → AllHad l b
had_behind l [] b h = h
had_behind l (x ∷ a) b h = had_behind l a b h.1

none_kept : (s : Sheet) (k : ℕ) → AllKeep s (replicate k no_programs)
none_kept s zero = tt
none_kept s (suc k) = ((tt, tt), none_kept s k)

rules_kept : (all ds : List Declaration) → Holdable all → AllHad (distinct (mentioned all)) (mentioned ds) → AllHad (distinct (declared_names all)) (declared_names ds) → EachFewNodes ds → Shallow ds
    → EachKeeps (declared_sheet all) (declared_rules all ds)
rules_kept all [] h a b f s = tt
rules_kept all (d ∷ ds) h a b f s = (
  record {
    nonterminal = omega (arith, place_below (distinct (mentioned all)) d.declared a.0, h.few_names);
    tag = place_below (distinct (declared_names all)) d.declared b.0;
    each_node = length-replicate (spec_nodes d.content) no_programs ∙ sym (nodes_counted (number_of_name all) d.content);
    few_nodes = omega (arith, nodes_counted (number_of_name all) d.content, f.0);
    shallow = omega (arith, depth_counted (number_of_name all) d.content, s.0);
    own = (tt, tt);
    nodes = none_kept (declared_sheet all) (spec_nodes d.content);
  },
  rules_kept all ds h (had_behind (distinct (mentioned all)) (names_in_spec d.content) (mentioned ds) a.1) b.1 f.1 s.1,
)

pub declared_sheets_keep : DeclaredSheetsKeep
declared_sheets_keep text ds f h = record {
  names = names_added [] (declared_names ds) (all_names f.spelled.are);
  different = added_different [] (declared_names ds);
  rules = rules_kept ds ds h (distinct_all (mentioned ds)) (distinct_all (declared_names ds)) f.few_nodes f.shallow;
  start = omega arith;
}
