-- The sheet of a rule text keeps what numbers 3 to 6 ask. Assumes nothing.
use mathlib.Core.Path.{◌≡◌, refl, sym, ◌∙◌, ap, ap₂, subst}
use mathlib.Core.Bool.{Bool, true, false, cond, ◌&&◌}
use mathlib.Core.List.{List, [], ◌∷◌, ◌++◌}
use mathlib.Core.Option.{Option, none, some}
use Prim.Native.Nat.{ℕ, suc, ◌+◌, ◌≤◌, ◌<◌}
use native.Mathlib.Omega.{arith}
use lib.ListN.{length, length-append}
use Rattle.expressions.specs.Expr.{nodes, nodes_of}
use Rattle.expressions.specs.Grammar.{nonterminals}
use Rattle.programs.specs.Program.{Program}
use Rattle.programs.specs.Limits.{StatementFits, StatementsFit, IsProgram, Visit, first, second, statement_allowed, allowed}
use Rattle.sheet.specs.Sheet.{Sheet}
use Rattle.notation.specs.Program.{TextStatement, become, copy, recall, reject, print_start, print_end, print_text, echo, branch, TextProgram, done, step, statement_in, program_in}
use Rattle.notation.specs.Rules.{TextVisits, Tree, node, Form, atom, cat, alt, star, empty, expression, expression_of, visits, visits_of, content_inside, visits_inside, TextRule, Rules}
use Rattle.notation.specs.Limits.{ProgramWithin, OptionWithin, VisitsWithin, AllWithin, RuleWithin, EachWithin}
use Rattle.notation.specs.Tokens.{TagName}
use Rattle.notation.specs.RuleText.{RuleText}
use Rattle.notation.proofs.Sizes.{size_in_every_sheet, nesting_in_every_sheet}
use Rattle.encoding.specs.Mentions.{Mention, a_tag, a_string, a_program, in_statement, in_program, in_braces, in_tree, in_form, in_content, in_rule, in_rules, tags_mentioned, strings_mentioned}
use Rattle.encoding.specs.Distinct.{has, added, distinct, place_of, offset_of, run_together}
use Rattle.encoding.specs.Encoded.{tags_stored, strings_stored, program_of, maybe, both_of, each, rule_of, rules_of, sheet_of}
use Rattle.encoding.specs.Keeps.{AllNames, ProgramKeeps, VisitsKeep, AllKeep, RuleKeeps, EachKeeps, SheetKeeps}
use Rattle.encoding.specs.Promises.{SheetsKeep}
use Rattle.encoding.specs.Sound.{SoundStatement, Sound, SoundIf, SoundTree, SoundForm, SoundContent, SoundRule, AllSound}
use Rattle.encoding.proofs.Sound.{and_true, rules_sound}
use Rattle.encoding.proofs.Stored.{AllHad, distinct_all, added_different, place_below, printable}

-- each tag and string that is mentioned is stored
abbrev pub Had : List (List ℕ) → List (List ℕ) → List Mention → Type 0
Had names strs [] = Unit {0}
Had names strs (a_tag n ∷ ms) = (has names n ≡ true) × Had names strs ms
Had names strs (a_string s ∷ ms) = (has strs s ≡ true) × Had names strs ms
Had names strs (a_program p ∷ ms) = Had names strs ms

pub had_all : (names strs : List (List ℕ)) (ms : List Mention) → AllHad names (tags_mentioned ms) → AllHad strs (strings_mentioned ms) → Had names strs ms
had_all names strs [] h k = tt
had_all names strs (a_tag n ∷ ms) h k = (h.0, had_all names strs ms h.1 k)
had_all names strs (a_string s ∷ ms) h k = (k.0, had_all names strs ms h k.1)
had_all names strs (a_program p ∷ ms) h k = had_all names strs ms h k

pub had_front : (names strs : List (List ℕ)) (ms ns : List Mention) → Had names strs (ms ++ ns) → Had names strs ms
had_front names strs [] ns h = tt
had_front names strs (a_tag n ∷ ms) ns h = (h.0, had_front names strs ms ns h.1)
had_front names strs (a_string s ∷ ms) ns h = (h.0, had_front names strs ms ns h.1)
had_front names strs (a_program p ∷ ms) ns h = had_front names strs ms ns h

pub had_back : (names strs : List (List ℕ)) (ms ns : List Mention) → Had names strs (ms ++ ns) → Had names strs ns
had_back names strs [] ns h = h
had_back names strs (a_tag n ∷ ms) ns h = had_back names strs ms ns h.1
had_back names strs (a_string s ∷ ms) ns h = had_back names strs ms ns h.1
had_back names strs (a_program p ∷ ms) ns h = had_back names strs ms ns h

module _ (names strs : List (List ℕ)) (v : Visit) where
  mutual
    statement_fits : (t : TextStatement) → SoundStatement v t → Had names strs (in_statement t)
        → StatementFits (length names) (run_together strs) (statement_in (place_of names) (offset_of strs) t) × (statement_allowed v (statement_in (place_of names) (offset_of strs) t) ≡ true)
    statement_fits (become a x) s h = (s, refl)
    statement_fits (copy a b) s h = (s, refl)
    statement_fits (recall a b) s h = (s.0, s.1)
    statement_fits reject s h = (tt, refl)
    statement_fits (print_start n) s h = (place_below names n h.0, refl)
    statement_fits (print_end n) s h = (place_below names n h.0, refl)
    statement_fits (print_text x) s h = (printable strs x h.0 s.0, refl)
    statement_fits (echo on) s h = (tt, s)
    statement_fits (branch c l m) s h =
        let a = program_fits l s.1.0 (had_front names strs (in_program l) (in_program m) h) in
        let b = program_fits m s.1.1 (had_back names strs (in_program l) (in_program m) h) in
        ((s.0.0, a.0, b.0), and_true _ _ s.0.1 (and_true _ _ a.1 b.1))

    program_fits : (p : TextProgram) → Sound v p → Had names strs (in_program p)
        → StatementsFit (length names) (run_together strs) (program_in (place_of names) (offset_of strs) p) × (allowed v (program_in (place_of names) (offset_of strs) p) ≡ true)
    program_fits done s h = (tt, refl)
    program_fits (step t p) s h =
        let a = statement_fits t s.0 (had_front names strs (in_statement t) (in_program p) h) in
        let b = program_fits p s.1 (had_back names strs (in_statement t) (in_program p) h) in
        ((a.0, b.0), and_true _ _ a.1 b.1)

-- one pair of programs for each node
each_length : (r : Rules) (vs : List TextVisits) → length (each r vs) ≡ length vs
each_length r [] = refl
each_length r (v ∷ vs) = ap suc (each_length r vs)

mutual
  pub tree_length : (e : Tree) → length (visits e) ≡ nodes (expression e)
  tree_length (node f g k) = form_length k

  form_length : (k : Form) → suc (length (visits_of k)) ≡ nodes (expression_of k)
  form_length (atom a) = refl
  form_length (cat l m) = ap suc (simp length-append (ap₂ ◌+◌ (tree_length l) (tree_length m)))
  form_length (alt l m) = ap suc (simp length-append (ap₂ ◌+◌ (tree_length l) (tree_length m)))
  form_length (star e) = ap suc (tree_length e)
  form_length empty = refl

content_length : (r : Rules) (o : Option Tree) → length (each r (visits_inside o)) ≡ nodes_of (content_inside o)
content_length r none = refl
content_length r (some e) = each_length r (visits e) ∙ tree_length e

module _ (r : Rules) where
  abbrev Stored : List Mention → Type 0
  Stored ms = Had (tags_stored r) (strings_stored r) ms

  front : (ms ns : List Mention) → Stored (ms ++ ns) → Stored ms
  front ms ns h = had_front (tags_stored r) (strings_stored r) ms ns h

  back : (ms ns : List Mention) → Stored (ms ++ ns) → Stored ns
  back ms ns h = had_back (tags_stored r) (strings_stored r) ms ns h

  braces_keep : (v : Visit) (o : Option TextProgram) → SoundIf v o → OptionWithin o → Stored (in_braces o) → ProgramKeeps (sheet_of r) v (maybe r o)
  braces_keep v none s w h = tt
  braces_keep v (some p) s w h =
      let f = program_fits (tags_stored r) (strings_stored r) v p s (front (in_program p) (a_program p ∷ []) h) in (
        record {
          short = subst (λ n. n ≤ 256) (sym (size_in_every_sheet (place_of (tags_stored r)) (offset_of (strings_stored r)) p)) w.short;
          shallow = subst (λ n. n ≤ 8) (sym (nesting_in_every_sheet (place_of (tags_stored r)) (offset_of (strings_stored r)) p)) w.shallow;
          fits = f.0;
        },
        f.1,
      )

  keep_append : (us ws : List TextVisits) → AllKeep (sheet_of r) (each r us) → AllKeep (sheet_of r) (each r ws) → AllKeep (sheet_of r) (each r (us ++ ws))
  keep_append [] ws h k = k
  keep_append (u ∷ us) ws h k = (h.0, keep_append us ws h.1 k)

  within_front : (us ws : List TextVisits) → AllWithin (us ++ ws) → AllWithin us
  within_front [] ws h = tt
  within_front (u ∷ us) ws h = (h.0, within_front us ws h.1)

  within_back : (us ws : List TextVisits) → AllWithin (us ++ ws) → AllWithin ws
  within_back [] ws h = h
  within_back (u ∷ us) ws h = within_back us ws h.1

  mutual
    tree_keeps : (e : Tree) → SoundTree e → AllWithin (visits e) → Stored (in_tree e) → AllKeep (sheet_of r) (each r (visits e))
    tree_keeps (node f g k) s w h =
        let t = back (in_braces f) (in_form k ++ in_braces g) h in (
          (braces_keep first f s.0 w.0.0 (front (in_braces f) (in_form k ++ in_braces g) h), braces_keep second g s.1.0 w.0.1 (back (in_form k) (in_braces g) t)),
          form_keeps k s.1.1 w.1 (front (in_form k) (in_braces g) t),
        )

    form_keeps : (k : Form) → SoundForm k → AllWithin (visits_of k) → Stored (in_form k) → AllKeep (sheet_of r) (each r (visits_of k))
    form_keeps (atom a) s w h = tt
    form_keeps (cat l m) s w h =
        keep_append (visits l) (visits m) (tree_keeps l s.0 (within_front (visits l) (visits m) w) (front (in_tree l) (in_tree m) h)) (tree_keeps m s.1 (within_back (visits l) (visits m) w) (back (in_tree l) (in_tree m) h))
    form_keeps (alt l m) s w h =
        keep_append (visits l) (visits m) (tree_keeps l s.0 (within_front (visits l) (visits m) w) (front (in_tree l) (in_tree m) h)) (tree_keeps m s.1 (within_back (visits l) (visits m) w) (back (in_tree l) (in_tree m) h))
    form_keeps (star e) s w h = tree_keeps e s w h
    form_keeps empty s w h = tt

  content_keeps : (o : Option Tree) → SoundContent o → AllWithin (visits_inside o) → Stored (in_content o) → AllKeep (sheet_of r) (each r (visits_inside o))
  content_keeps none s w h = tt
  content_keeps (some e) s w h = tree_keeps e s w h

  rule_keeps : (d : TextRule) → SoundRule d → RuleWithin d → Stored (in_rule d) → RuleKeeps (sheet_of r) (rule_of r d)
  rule_keeps d s w h =
      let t = back (in_braces d.own.first_visit) (a_tag d.tag ∷ (in_content d.inside ++ in_braces d.own.second_visit)) h in
      record {
        nonterminal = s.numbered;
        tag = place_below (tags_stored r) d.tag t.0;
        each_node = content_length r d.inside;
        few_nodes = w.inside.few_nodes;
        shallow = w.inside.shallow;
        own = (
          braces_keep first d.own.first_visit s.before w.own.0 (front (in_braces d.own.first_visit) (a_tag d.tag ∷ (in_content d.inside ++ in_braces d.own.second_visit)) h),
          braces_keep second d.own.second_visit s.after w.own.1 (back (in_content d.inside) (in_braces d.own.second_visit) t.1),
        );
        nodes = content_keeps d.inside s.content w.inside.programs (front (in_content d.inside) (in_braces d.own.second_visit) t.1);
      }

  rules_keep : (ds : List TextRule) → AllSound ds → EachWithin ds → Stored (in_rules ds) → EachKeeps (sheet_of r) (rules_of r ds)
  rules_keep [] s w h = tt
  rules_keep (d ∷ ds) s w h = (rule_keeps d s.0 w.0 (front (in_rule d) (in_rules ds) h), rules_keep ds s.1 w.1 (back (in_rule d) (in_rules ds) h))

-- the tags that are mentioned are names
abbrev Named : List Mention → Type 0
Named ms = AllNames (tags_mentioned ms)

named_append : (ms ns : List Mention) → Named ms → Named ns → Named (ms ++ ns)
named_append [] ns h k = k
named_append (a_tag n ∷ ms) ns h k = (h.0, named_append ms ns h.1 k)
named_append (a_string s ∷ ms) ns h k = named_append ms ns h k
named_append (a_program p ∷ ms) ns h k = named_append ms ns h k

module _ (v : Visit) where
  mutual
    statement_named : (t : TextStatement) → SoundStatement v t → Named (in_statement t)
    statement_named (become a x) s = tt
    statement_named (copy a b) s = tt
    statement_named (recall a b) s = tt
    statement_named reject s = tt
    statement_named (print_start n) s = (s, tt)
    statement_named (print_end n) s = (s, tt)
    statement_named (print_text x) s = tt
    statement_named (echo on) s = tt
    statement_named (branch c l m) s = named_append (in_program l) (in_program m) (program_named l s.1.0) (program_named m s.1.1)

    program_named : (p : TextProgram) → Sound v p → Named (in_program p)
    program_named done s = tt
    program_named (step t p) s = named_append (in_statement t) (in_program p) (statement_named t s.0) (program_named p s.1)

  braces_named : (o : Option TextProgram) → SoundIf v o → Named (in_braces o)
  braces_named none s = tt
  braces_named (some p) s = named_append (in_program p) (a_program p ∷ []) (program_named p s) tt

mutual
  tree_named : (e : Tree) → SoundTree e → Named (in_tree e)
  tree_named (node f g k) s = named_append (in_braces f) (in_form k ++ in_braces g) (braces_named first f s.0) (named_append (in_form k) (in_braces g) (form_named k s.1.1) (braces_named second g s.1.0))

  form_named : (k : Form) → SoundForm k → Named (in_form k)
  form_named (atom a) s = tt
  form_named (cat l m) s = named_append (in_tree l) (in_tree m) (tree_named l s.0) (tree_named m s.1)
  form_named (alt l m) s = named_append (in_tree l) (in_tree m) (tree_named l s.0) (tree_named m s.1)
  form_named (star e) s = tree_named e s
  form_named empty s = tt

content_named : (o : Option Tree) → SoundContent o → Named (in_content o)
content_named none s = tt
content_named (some e) s = tree_named e s

rules_named : (ds : List TextRule) → AllSound ds → Named (in_rules ds)
rules_named [] s = tt
rules_named (d ∷ ds) s =
    named_append (in_rule d) (in_rules ds)
    (named_append (in_braces d.own.first_visit) (a_tag d.tag ∷ (in_content d.inside ++ in_braces d.own.second_visit)) (braces_named first d.own.first_visit s.0.before)
    (s.0.named, named_append (in_content d.inside) (in_braces d.own.second_visit) (content_named d.inside s.0.content) (braces_named second d.own.second_visit s.0.after)))
    (rules_named ds s.1)

added_named : (seen l : List (List ℕ)) → AllNames l → AllNames (added seen l)
added_named seen [] h = tt
added_named seen (x ∷ l) h = on (has seen x) (added_named seen l h.1) (added_named (seen ++ x ∷ []) l h.1)
  where
    on : (b : Bool) → AllNames (added seen l) → AllNames (added (seen ++ x ∷ []) l) → AllNames (cond b (added seen l) (x ∷ added (seen ++ x ∷ []) l))
    on true a k = a
    on false a k = (h.0, k)

pub sheets_keep : SheetsKeep
sheets_keep text r t =
    let s = rules_sound t.grammatical in
    let ms = in_rules r.productions in
    record {
      different = added_different [] (tags_mentioned ms);
      names = added_named [] (tags_mentioned ms) (rules_named r.productions s.1);
      rules = rules_keep r r.productions s.1 t.within.each (had_all (tags_stored r) (strings_stored r) ms (distinct_all (tags_mentioned ms)) (distinct_all (strings_mentioned ms)));
      start = s.0;
    }
