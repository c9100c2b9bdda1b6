-- The sheet of rules, by name, is those rules. Assumes nothing.
use mathlib.Core.Path.{◌≡◌, refl, sym, ◌∙◌, ap, ap₂}
use mathlib.Core.Bool.{Bool, true, false, cond}
use mathlib.Core.List.{List, [], ◌∷◌, ◌++◌}
use mathlib.Core.Option.{Option, none, some}
use Prim.Native.Nat.{ℕ, suc}
use native.Mathlib.Omega.{arith}
use lib.ListN.{length, take, drop}
use Rattle.runs.specs.Execute.{name_of}
use Rattle.notation.specs.Program.{TextStatement, become, copy, recall, reject, print_start, print_end, print_text, echo, branch, TextProgram, done, step, statement_in, program_in}
use Rattle.notation.specs.Rules.{TextVisits, Tree, node, Form, atom, cat, alt, star, empty, visits, visits_of, visits_inside, TextRule, Rules}
use Rattle.encoding.specs.Mentions.{Mention, a_tag, a_string, a_program, in_statement, in_program, in_braces, in_tree, in_form, in_content, in_rule, in_rules, tags_mentioned, strings_mentioned}
use Rattle.encoding.specs.Distinct.{equal, has, place_of, offset_of}
use Rattle.encoding.specs.Encoded.{tags_stored, strings_stored, program_of, maybe, both_of, each, rule_of, rules_of, sheet_of}
use Rattle.encoding.proofs.Stored.{equal_true, or_parts, distinct_all, lies}
use Rattle.encoding.proofs.Sheets.{Had, had_all, had_front, had_back}
use Rattle.naming.specs.ByName.{statement_named, program_named, option_named, visits_named, each_named, RuleByName, EachByName, ByName}
use Rattle.naming.specs.Promises.{SheetIsItsRules}

-- a name at its place
name_back : (l : List (List ℕ)) (n : List ℕ) → has l n ≡ true → name_of l (place_of l n) ≡ n
name_back [] n e = absurd (let z : ◌≡◌ {A = ℕ} 0 1 = cc in omega arith)
name_back (m ∷ l) n e = on (equal n m) refl (λ f. name_back l n (or_parts (equal n m) (has l n) e f))
  where
    on : (b : Bool) → equal n m ≡ b → (equal n m ≡ false → name_of l (place_of l n) ≡ n) → name_of (m ∷ l) (cond b 0 (suc (place_of l n))) ≡ n
    on true f ih = sym (equal_true n m f)
    on false f ih = ih f

module _ (r : Rules) where
  abbrev Stored : List Mention → Type 0
  Stored ms = Had (tags_stored r) (strings_stored r) ms

  front : (ms ns : List Mention) → Stored (ms ++ ns) → Stored ms
  front ms ns h = had_front (tags_stored r) (strings_stored r) ms ns h

  back : (ms ns : List Mention) → Stored (ms ++ ns) → Stored ns
  back ms ns h = had_back (tags_stored r) (strings_stored r) ms ns h

  mutual
    statement_back : (t : TextStatement) → Stored (in_statement t) → statement_named (sheet_of r) (statement_in (place_of (tags_stored r)) (offset_of (strings_stored r)) t) ≡ t
    statement_back (become a v) h = refl
    statement_back (copy a b) h = refl
    statement_back (recall a b) h = refl
    statement_back reject h = refl
    statement_back (print_start n) h = ap print_start (name_back (tags_stored r) n h.0)
    statement_back (print_end n) h = ap print_end (name_back (tags_stored r) n h.0)
    statement_back (print_text s) h = ap print_text (lies (strings_stored r) s h.0).there
    statement_back (echo on) h = refl
    statement_back (branch c l m) h = ap₂ (branch c) (program_back l (front (in_program l) (in_program m) h)) (program_back m (back (in_program l) (in_program m) h))

    program_back : (p : TextProgram) → Stored (in_program p) → program_named (sheet_of r) (program_of r p) ≡ p
    program_back done h = refl
    program_back (step t p) h = ap₂ step (statement_back t (front (in_statement t) (in_program p) h)) (program_back p (back (in_statement t) (in_program p) h))

  option_back : (o : Option TextProgram) → Stored (in_braces o) → option_named (sheet_of r) (maybe r o) ≡ o
  option_back none h = refl
  option_back (some p) h = ap some (program_back p (front (in_program p) (a_program p ∷ []) h))

  abbrev Back : List TextVisits → Type 0
  Back vs = each_named (sheet_of r) (each r vs) ≡ vs

  back_append : (us ws : List TextVisits) → Back us → Back ws → Back (us ++ ws)
  back_append [] ws h k = k
  back_append (u ∷ us) ws h k = ap₂ ◌∷◌ (mathlib.Core.List.head-eq_of_cons-eq h) (back_append us ws (mathlib.Core.List.tail-eq_of_cons-eq h) k)

  mutual
    tree_back : (e : Tree) → Stored (in_tree e) → Back (visits e)
    tree_back (node f g k) h =
        let t = back (in_braces f) (in_form k ++ in_braces g) h in
        ap₂ ◌∷◌ (ap₂ (λ x y. record { first_visit = x; second_visit = y }) (option_back f (front (in_braces f) (in_form k ++ in_braces g) h)) (option_back g (back (in_form k) (in_braces g) t))) (form_back k (front (in_form k) (in_braces g) t))

    form_back : (k : Form) → Stored (in_form k) → Back (visits_of k)
    form_back (atom a) h = refl
    form_back (cat l m) h = back_append (visits l) (visits m) (tree_back l (front (in_tree l) (in_tree m) h)) (tree_back m (back (in_tree l) (in_tree m) h))
    form_back (alt l m) h = back_append (visits l) (visits m) (tree_back l (front (in_tree l) (in_tree m) h)) (tree_back m (back (in_tree l) (in_tree m) h))
    form_back (star e) h = tree_back e h
    form_back empty h = refl

  content_back : (o : Option Tree) → Stored (in_content o) → Back (visits_inside o)
  content_back none h = refl
  content_back (some e) h = tree_back e h

  rule_back : (d : TextRule) → Stored (in_rule d) → RuleByName (sheet_of r) (rule_of r d) d
  rule_back d h =
      let f = in_braces d.own.first_visit in
      let g = in_braces d.own.second_visit in
      let t = back f (a_tag d.tag ∷ (in_content d.inside ++ g)) h in
      let x = option_back d.own.first_visit (front f (a_tag d.tag ∷ (in_content d.inside ++ g)) h) in
      let y = option_back d.own.second_visit (back (in_content d.inside) g t.1) in
      record {
        nonterminal_is = refl;
        tag_is = sym (name_back (tags_stored r) d.tag t.0);
        nodes_are = refl;
        own_are = λ i. record { first_visit = sym x i; second_visit = sym y i };
        of_nodes_are = sym (content_back d.inside (front (in_content d.inside) g t.1));
      }

  rules_back : (ds : List TextRule) → Stored (in_rules ds) → EachByName (sheet_of r) (rules_of r ds) ds
  rules_back [] h = tt
  rules_back (d ∷ ds) h = (rule_back d (front (in_rule d) (in_rules ds) h), rules_back ds (back (in_rule d) (in_rules ds) h))

pub sheet_is_its_rules : SheetIsItsRules
sheet_is_its_rules r =
    let ms = in_rules r.productions in
    record { start_is = refl; rules_are = rules_back r r.productions (had_all (tags_stored r) (strings_stored r) ms (distinct_all (tags_mentioned ms)) (distinct_all (strings_mentioned ms))) }
