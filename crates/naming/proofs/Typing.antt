-- The rules of a sheet that keeps numbers 1 to 6 can be typed, keep the limits, and have room but for their strings. Assumes nothing.
use mathlib.Core.Path.{◌≡◌, refl, sym, ◌∙◌, ap, subst}
use mathlib.Core.Bool.{Bool, true, false, ◌&&◌}
use mathlib.Core.List.{List, [], ◌∷◌, ◌++◌}
use mathlib.Core.Option.{Option, none, some}
use Prim.Native.Nat.{ℕ, zero, suc, ◌+◌, ◌≤◌, ◌<◌}
use native.Mathlib.Omega.{arith}
use lib.ListN.{length, length-append, take, drop, length-drop}
use lib.Seq.{length-take-le}
use Rattle.text.specs.Names.{All}
use Rattle.expressions.specs.Expr.{Atom, Exp, nodes, depth, Content, nothing, tree, nodes_of}
use Rattle.expressions.specs.Expr.{empty as empty_node}
use Rattle.expressions.specs.Grammar.{nonterminals, nodes_in}
use Rattle.programs.specs.Program.{Program, Statement, program_bytes}
use Rattle.programs.specs.Limits.{StatementFits, StatementsFit, condition_allowed, statement_allowed, allowed, Visit, first, second, IsProgram}
use Rattle.programs.specs.Section.{back_to_back, AllPrograms, FieldIs, no_program, names}
use Rattle.layout.specs.Layout.{tag_count, production_count, node_count, programs_in, program_length, program_offset, strings_in}
use Rattle.layout.specs.Records.{first_node_of, node_count_of}
use Rattle.trees.specs.Trees.{TreeAt, ContentAt}
use Rattle.trees.proofs.Grammars.{nodes_of_grammar}
use Rattle.sheet.specs.Tags.{TagAt}
use Rattle.sheet.specs.Fields.{FieldsAre}
use Rattle.sheet.specs.Fields.{Visits}
use Rattle.sheet.specs.Sheet.{Rule, Sheet, grammar_of, From, NodeIs, RuleAt}
use Rattle.sheet.proofs.SheetLaws.{from_counted, grammar_from}
use Rattle.runs.specs.Execute.{name_of}
use Rattle.runs.proofs.SheetFits.{one_of_all}
use Rattle.notation.specs.Program.{TextStatement, TextProgram, statement_in, program_in}
use Rattle.notation.specs.Rules.{TextVisits, Tree, node, Form, atom, cat, alt, star, empty, expression, expression_of, visits, visits_of, content_inside, visits_inside, TextRule, Rules}
use Rattle.notation.specs.Tokens.{TagName}
use Rattle.notation.specs.Limits.{OptionWithin, VisitsWithin, AllWithin, content_depth, ContentWithin, RuleWithin, EachWithin, nodes_in_all, WithinLimits}
use Rattle.encoding.specs.Mentions.{Mention, a_tag, a_string, a_program, in_statement, in_program, in_braces, in_tree, in_form, in_content, in_rule, in_rules, tags_mentioned, programs_mentioned}
use Rattle.encoding.specs.Distinct.{equal, has, run_together, place_of, offset_of}
use Rattle.encoding.specs.Encoded.{tags_stored, strings_stored, program_of, bytes_of_each, Room}
use Rattle.encoding.specs.Keeps.{AllNames}
use Rattle.encoding.specs.Sound.{SoundStatement, Sound, SoundIf, SoundTree, SoundForm, SoundContent, SoundRule, AllSound, SoundRules}
use Rattle.encoding.proofs.Stored.{and_parts, equal_same, or_left, or_right, AllHad}
use Rattle.packing.specs.Packs.{Packs}
use Rattle.naming.specs.ByName.{statement_named, program_named, option_named, visits_named, each_named, RuleByName, EachByName, ByName}
use Rattle.naming.specs.Promises.{is_byte, SheetsAreTyped, OnlyStringsGrow}
use Rattle.naming.proofs.Sizes.{program_size, program_nesting, all_front, all_back, all_take, all_drop, ShortStatement, ShortPrints, short_prints}
use Rattle.naming.proofs.Fewest.{few_distinct, short_distinct}

-- a tag's name
name_typed : (ns : List (List ℕ)) → AllNames ns → (t : ℕ) → t < length ns → TagName (name_of ns t)
name_typed [] h t l = absurd (omega arith)
name_typed (n ∷ ns) h zero l = h.0
name_typed (n ∷ ns) h (suc t) l = name_typed ns h.1 t (omega arith)

name_had : (ns : List (List ℕ)) (t : ℕ) → t < length ns → has ns (name_of ns t) ≡ true
name_had [] t l = absurd (omega arith)
name_had (n ∷ ns) zero l = or_left (equal n n) (has ns n) (equal_same n)
name_had (n ∷ ns) (suc t) l = or_right (equal (name_of ns t) n) (has ns (name_of ns t)) (name_had ns t (omega arith))

-- the programs of the section, as rules have them in a sheet
abbrev images : Sheet → Rules → List Program → List (List ℕ)
images a r [] = []
images a r (p ∷ ps) = program_bytes (program_of r (program_named a p)) ∷ images a r ps

image_had : (a : Sheet) (r : Rules) (before : List Program) (p : Program) (after : List Program) → has (images a r (before ++ p ∷ after)) (program_bytes (program_of r (program_named a p))) ≡ true
image_had a r [] p after = let x = program_bytes (program_of r (program_named a p)) in or_left (equal x x) (has (images a r after) x) (equal_same x)
image_had a r (q ∷ before) p after = let x = program_bytes (program_of r (program_named a p)) in or_right (equal x (program_bytes (program_of r (program_named a q)))) (has (images a r (before ++ p ∷ after)) x) (image_had a r before p after)

images_long : (a : Sheet) (r : Rules) (ps : List Program) → length (run_together (images a r ps)) ≡ length (back_to_back ps)
images_long a r [] = refl
images_long a r (p ∷ ps) = simp length-append (omega (arith, program_size a (place_of (tags_stored r)) (offset_of (strings_stored r)) p, images_long a r ps))

one_of_bytes : (before : List Program) (p : Program) (after : List Program) → All is_byte (back_to_back (before ++ p ∷ after)) → All is_byte (program_bytes p)
one_of_bytes [] p after h = all_front is_byte (program_bytes p) (back_to_back after) h
one_of_bytes (q ∷ before) p after h = one_of_bytes before p after (all_back is_byte (program_bytes q) (back_to_back (before ++ p ∷ after)) h)

-- an expression's nonterminals
abbrev Nonterminals : Exp → Type 0
Nonterminals (Exp.atom (Atom.nonterminal n)) = n < nonterminals
Nonterminals (Exp.atom Atom.anychar) = Unit {0}
Nonterminals (Exp.cat l r) = Nonterminals l × Nonterminals r
Nonterminals (Exp.alt l r) = Nonterminals l × Nonterminals r
Nonterminals (Exp.star e) = Nonterminals e
Nonterminals empty_node = Unit {0}

tree_nonterminals : (s : List ℕ) (e : Exp) (i : ℕ) → TreeAt s i e → Nonterminals e
tree_nonterminals s (Exp.atom (Atom.nonterminal n)) i h = omega (arith, h.2)
tree_nonterminals s (Exp.atom Atom.anychar) i h = tt
tree_nonterminals s (Exp.cat l r) i h = (tree_nonterminals s l (suc i) h.2, tree_nonterminals s r (suc i + nodes l) h.3)
tree_nonterminals s (Exp.alt l r) i h = (tree_nonterminals s l (suc i) h.2, tree_nonterminals s r (suc i + nodes l) h.3)
tree_nonterminals s (Exp.star e) i h = tree_nonterminals s e (suc i) h.2
tree_nonterminals s empty_node i h = tt

abbrev ContentNonterminals : Content → Type 0
ContentNonterminals nothing = Unit {0}
ContentNonterminals (tree e) = Nonterminals e

pub record ContentGood (c : Content) : Type 0 where
  few : nodes_of c ≤ 32
  shallow : content_depth c ≤ 12
  numbered : ContentNonterminals c

content_good : (s : List ℕ) (q : ℕ) (c : Content) → node_count_of s q ≤ 32 → ContentAt s q c → ContentGood c
content_good s q nothing l h = record { few = omega arith; shallow = omega arith; numbered = tt }
content_good s q (tree e) l h = record { few = omega (arith, h.1, l); shallow = h.2; numbered = tree_nonterminals s e (first_node_of s q) h.0 }

module _ (a : Sheet) (r : Rules) (ps : List Program) (all : AllPrograms (length a.names) a.strings ps) (bytes : All is_byte (back_to_back ps)) (named : AllNames a.names) where
  -- mentioned tags are the sheet's, mentioned programs those of the section
  abbrev Known : List Mention → Type 0
  Known [] = Unit {0}
  Known (a_tag n ∷ ms) = (has a.names n ≡ true) × Known ms
  Known (a_string s ∷ ms) = Known ms
  Known (a_program p ∷ ms) = (has (images a r ps) (program_bytes (program_of r p)) ≡ true) × Known ms

  known_append : (ms ns : List Mention) → Known ms → Known ns → Known (ms ++ ns)
  known_append [] ns h k = k
  known_append (a_tag n ∷ ms) ns h k = (h.0, known_append ms ns h.1 k)
  known_append (a_string s ∷ ms) ns h k = known_append ms ns h k
  known_append (a_program p ∷ ms) ns h k = (h.0, known_append ms ns h.1 k)

  record Statements (v : Visit) (p : TextProgram) : Type 0 where
    sound : Sound v p
    known : Known (in_program p)

  record One (v : Visit) (t : TextStatement) : Type 0 where
    sound : SoundStatement v t
    known : Known (in_statement t)

  module _ (v : Visit) where
    mutual
      statement_good : (t : Statement) → StatementFits (length a.names) a.strings t → statement_allowed v t ≡ true → ShortStatement t → One v (statement_named a t)
      statement_good (Statement.become x n) f e h = record { sound = (f.0, f.1); known = tt }
      statement_good (Statement.copy x y) f e h = record { sound = (f.0, f.1); known = tt }
      statement_good (Statement.recall x y) f e h = record { sound = ((f.0, f.1), e); known = tt }
      statement_good Statement.reject f e h = record { sound = tt; known = tt }
      statement_good (Statement.print_start t) f e h = record { sound = name_typed a.names named t f; known = (name_had a.names t f, tt) }
      statement_good (Statement.print_end t) f e h = record { sound = name_typed a.names named t f; known = (name_had a.names t f, tt) }
      statement_good (Statement.print_text o n) f e h = record { sound = (f.whole, omega (arith, h, length-take-le n (drop o a.strings) (omega (arith, length-drop o a.strings, f.inside)))); known = tt }
      statement_good (Statement.echo on) f e h = record { sound = e; known = tt }
      statement_good (Statement.branch c l m) f e h =
          let x = and_parts (condition_allowed v c) (allowed v l && allowed v m) e in
          let y = and_parts (allowed v l) (allowed v m) x.1 in
          let i = program_good l f.1 y.0 h.0 in
          let j = program_good m f.2 y.1 h.1 in
          record { sound = ((f.0, x.0), (i.sound, j.sound)); known = known_append (in_program (program_named a l)) (in_program (program_named a m)) i.known j.known }

      program_good : (p : Program) → StatementsFit (length a.names) a.strings p → allowed v p ≡ true → ShortPrints p → Statements v (program_named a p)
      program_good Program.done f e h = record { sound = tt; known = tt }
      program_good (Program.step t p) f e h =
          let x = and_parts (statement_allowed v t) (allowed v p) e in
          let i = statement_good t f.0 x.0 h.0 in
          let j = program_good p f.1 x.1 h.1 in
          record { sound = (i.sound, j.sound); known = known_append (in_statement (statement_named a t)) (in_program (program_named a p)) i.known j.known }

  -- what a field names
  record Good (v : Visit) (o : Option TextProgram) : Type 0 where
    sound : SoundIf v o
    within : OptionWithin o
    known : Known (in_braces o)

  field_good : (v : Visit) (field : ℕ) (m : Option Program) → FieldIs ps v field m → Good v (option_named a m)
  field_good v field none f = record { sound = tt; within = tt; known = tt }
  field_good v field (some p) (names n q S w) =
      let i = one_of_all (length a.names) a.strings S.before p S.after (subst (AllPrograms (length a.names) a.strings) S.are all) in
      let b = one_of_bytes S.before p S.after (subst (λ l. All is_byte (back_to_back l)) S.are bytes) in
      let g = program_good v p i.fits w (short_prints p b) in
      record {
        sound = g.sound;
        within = record { short = omega (arith, i.short, program_size a (λ x. 0) (λ x. 0) p); shallow = omega (arith, i.shallow, program_nesting a (λ x. 0) (λ x. 0) p) };
        known = known_append (in_program (program_named a p)) (a_program (program_named a p) ∷ []) g.known (subst (λ l. has (images a r l) (program_bytes (program_of r (program_named a p))) ≡ true) (sym S.are) (image_had a r S.before p S.after), tt);
      }

  abbrev BothGood : TextVisits → Type 0
  BothGood u = Good first u.first_visit × Good second u.second_visit

  abbrev AllGood : List TextVisits → Type 0
  AllGood [] = Unit {0}
  AllGood (u ∷ us) = BothGood u × AllGood us

  fields_good : (one two : ℕ) (w : Visits) → FieldsAre ps one two w → BothGood (visits_named a w)
  fields_good one two w f = (field_good first one w.first_visit f.first_is, field_good second two w.second_visit f.second_is)

  good_front : (us ws : List TextVisits) → AllGood (us ++ ws) → AllGood us
  good_front [] ws h = tt
  good_front (u ∷ us) ws h = (h.0, good_front us ws h.1)

  good_back : (us ws : List TextVisits) → AllGood (us ++ ws) → AllGood ws
  good_back [] ws h = h
  good_back (u ∷ us) ws h = good_back us ws h.1

  all_within : (us : List TextVisits) → AllGood us → AllWithin us
  all_within [] h = tt
  all_within (u ∷ us) h = ((h.0.0.within, h.0.1.within), all_within us h.1)

  record TreeGood (t : Tree) : Type 0 where
    sound : SoundTree t
    known : Known (in_tree t)

  record FormGood (k : Form) : Type 0 where
    sound : SoundForm k
    known : Known (in_form k)

  mutual
    tree_good : (t : Tree) → AllGood (visits t) → Nonterminals (expression t) → TreeGood t
    tree_good (node f g k) h n =
        let i = form_good k h.1 n in
        record { sound = (h.0.0.sound, (h.0.1.sound, i.sound)); known = known_append (in_braces f) (in_form k ++ in_braces g) h.0.0.known (known_append (in_form k) (in_braces g) i.known h.0.1.known) }

    form_good : (k : Form) → AllGood (visits_of k) → Nonterminals (expression_of k) → FormGood k
    form_good (atom (Atom.nonterminal m)) h n = record { sound = n; known = tt }
    form_good (atom Atom.anychar) h n = record { sound = tt; known = tt }
    form_good (cat l m) h n =
        let i = tree_good l (good_front (visits l) (visits m) h) n.0 in
        let j = tree_good m (good_back (visits l) (visits m) h) n.1 in
        record { sound = (i.sound, j.sound); known = known_append (in_tree l) (in_tree m) i.known j.known }
    form_good (alt l m) h n =
        let i = tree_good l (good_front (visits l) (visits m) h) n.0 in
        let j = tree_good m (good_back (visits l) (visits m) h) n.1 in
        record { sound = (i.sound, j.sound); known = known_append (in_tree l) (in_tree m) i.known j.known }
    form_good (star e) h n = let i = tree_good e h n in record { sound = i.sound; known = i.known }
    form_good empty h n = record { sound = tt; known = tt }

  record InsideGood (o : Option Tree) : Type 0 where
    sound : SoundContent o
    known : Known (in_content o)

  inside_good : (o : Option Tree) → AllGood (visits_inside o) → ContentNonterminals (content_inside o) → InsideGood o
  inside_good none h n = record { sound = tt; known = tt }
  inside_good (some t) h n = let i = tree_good t h n in record { sound = i.sound; known = i.known }

  pub record RuleGood (d : TextRule) : Type 0 where
    sound : SoundRule d
    within : RuleWithin d
    known : Known (in_rule d)

  module _ (s : List ℕ) where
    nodes_good : (j k : ℕ) (vs : List Visits) → From (NodeIs s ps) j k vs → AllGood (each_named a vs)
    nodes_good j k [] f = tt
    nodes_good j k (v ∷ vs) f = (fields_good _ _ v f.0, nodes_good (suc j) k vs f.1)

    rule_good : (q : ℕ) (x : Rule) (d : TextRule) → Rattle.sheet.specs.Productions.ProductionFits s q → tag_count s ≡ length a.names → RuleAt s ps q x → RuleByName a x d → RuleGood d
    rule_good q x d f e h b =
        let c = subst ContentGood (sym b.nodes_are) (content_good s q x.production.content f.few_nodes h.production_is.content_is) in
        let o = subst BothGood (sym b.own_are) (fields_good _ _ x.own h.own_are) in
        let n = subst AllGood (sym b.of_nodes_are) (nodes_good _ _ x.of_nodes h.nodes_are) in
        let i = inside_good d.inside n c.numbered in
        let t : x.production.tagno < length a.names = omega (arith, h.production_is.tag_is, f.tag, e) in
        record {
          sound = record {
            numbered = omega (arith, b.nonterminal_is, h.production_is.nonterminal_is, f.nonterminal);
            named = subst TagName (sym b.tag_is) (name_typed a.names named x.production.tagno t);
            before = o.0.sound;
            after = o.1.sound;
            content = i.sound;
          };
          within = record { own = (o.0.within, o.1.within); inside = record { few_nodes = c.few; shallow = c.shallow; programs = all_within (visits_inside d.inside) n } };
          known = known_append (in_braces d.own.first_visit) (a_tag d.tag ∷ (in_content d.inside ++ in_braces d.own.second_visit)) o.0.known
              (subst (λ z. has a.names z ≡ true) (sym b.tag_is) (name_had a.names x.production.tagno t), known_append (in_content d.inside) (in_braces d.own.second_visit) i.known o.1.known);
        }

    rules_good : (i : ℕ) (xs : List Rule) (ds : List TextRule) → ((q : ℕ) → q < production_count s → Rattle.sheet.specs.Productions.ProductionFits s q) → tag_count s ≡ length a.names
        → From (RuleAt s ps) i (production_count s) xs → EachByName a xs ds → AllSound ds × EachWithin ds × Known (in_rules ds)
    rules_good i [] [] f e h b = (tt, tt, tt)
    rules_good i [] (d ∷ ds) f e h b = absurd b
    rules_good i (x ∷ xs) [] f e h b = absurd b
    rules_good i (x ∷ xs) (d ∷ ds) f e h b =
        let g = rule_good i x d (f i (omega (arith, from_counted (RuleAt s ps) (suc i) (production_count s) xs h.1))) e h.0 b.0 in
        let m = rules_good (suc i) xs ds f e h.1 b.1 in
        ((g.sound, m.0), (g.within, m.1), known_append (in_rule d) (in_rules ds) g.known m.2)

  tags_had : (ms : List Mention) → Known ms → AllHad a.names (tags_mentioned ms)
  tags_had [] h = tt
  tags_had (a_tag n ∷ ms) h = (h.0, tags_had ms h.1)
  tags_had (a_string s ∷ ms) h = tags_had ms h
  tags_had (a_program p ∷ ms) h = tags_had ms h.1

  programs_had : (ms : List Mention) → Known ms → AllHad (images a r ps) (bytes_of_each r (programs_mentioned ms))
  programs_had [] h = tt
  programs_had (a_tag n ∷ ms) h = programs_had ms h.1
  programs_had (a_string s ∷ ms) h = programs_had ms h
  programs_had (a_program p ∷ ms) h = (h.0, programs_had ms h.1)

pub same_length : (a : Sheet) (xs : List Rule) (ds : List TextRule) → EachByName a xs ds → length ds ≡ length xs
same_length a [] [] h = refl
same_length a [] (d ∷ ds) h = absurd h
same_length a (x ∷ xs) [] h = absurd h
same_length a (x ∷ xs) (d ∷ ds) h = ap suc (same_length a xs ds h.1)

same_nodes : (a : Sheet) (xs : List Rule) (ds : List TextRule) → EachByName a xs ds → nodes_in_all ds ≡ nodes_in (grammar_of xs)
same_nodes a [] [] h = refl
same_nodes a [] (d ∷ ds) h = absurd h
same_nodes a (x ∷ xs) [] h = absurd h
same_nodes a (x ∷ xs) (d ∷ ds) h = omega (arith, ap nodes_of h.0.nodes_are, same_nodes a xs ds h.1)

names_typed : (s : List ℕ) (i k : ℕ) (ns : List (List ℕ)) → From (TagAt s) i k ns → AllNames ns
names_typed s i k [] f = tt
names_typed s i k (n ∷ ns) f = (record { a_name = f.0.a_name; short = f.0.short }, names_typed s (suc i) k ns f.1)

taken_short : (n : ℕ) (l : List ℕ) → length (take n l) ≤ n
taken_short zero l = omega arith
taken_short (suc n) [] = omega arith
taken_short (suc n) (x ∷ l) = omega (arith, taken_short n l)

module _ (s : List ℕ) (a : Sheet) (r : Rules) (bytes : All is_byte s) (p : Packs s a) (b : ByName a r) where
  counted : tag_count s ≡ length a.names
  counted = omega (arith, from_counted (TagAt s) 0 (tag_count s) a.names p.names_are)

  all_programs : AllPrograms (length a.names) a.strings p.programs.programs
  all_programs = subst (λ (n : ℕ). AllPrograms n a.strings p.programs.programs) counted (subst (λ (l : List ℕ). AllPrograms (tag_count s) l p.programs.programs) (sym p.strings_are) p.programs.fill.programs)

  program_bytes_lem : All is_byte (back_to_back p.programs.programs)
  program_bytes_lem = subst (All is_byte) p.programs.fill.filled (all_take is_byte (program_length s) (drop (program_offset s) s) (all_drop is_byte (program_offset s) s bytes))

  all_named : AllNames a.names
  all_named = names_typed s 0 (tag_count s) a.names p.names_are

  good : AllSound r.productions × EachWithin r.productions × Known a r p.programs.programs all_programs program_bytes_lem all_named (in_rules r.productions)
  good = rules_good a r p.programs.programs all_programs program_bytes_lem all_named s 0 a.rules r.productions p.productions.each counted p.rules_are b.rules_are

  as_many : length r.productions ≡ production_count s
  as_many = omega (arith, same_length a a.rules r.productions b.rules_are, from_counted (RuleAt s p.programs.programs) 0 (production_count s) a.rules p.rules_are)

  nodes_few : nodes_in_all r.productions ≤ 256
  nodes_few =
      omega (arith, same_nodes a a.rules r.productions b.rules_are, nodes_of_grammar s (grammar_of a.rules) (grammar_from s p.programs.programs 0 a.rules p.rules_are), p.productions.every_node, p.sections.few_nodes)

  rules_typed : SoundRules r × WithinLimits r
  rules_typed = (
    record { its_start = omega (arith, b.start_is, p.start_is, p.productions.start_fits); some_productions = omega (arith, as_many, p.sections.some_productions); each = good.0 },
    record { few_productions = omega (arith, as_many, p.sections.few_productions); few_nodes = nodes_few; each = good.1 },
  )

  room : length (run_together (strings_stored r)) ≤ 8192 → Room r
  room h =
      let ms = in_rules r.productions in
      let qs = p.programs.programs in
      record {
        few_tags = omega (arith, few_distinct a.names (tags_mentioned ms) (tags_had a r qs all_programs program_bytes_lem all_named ms good.2), counted, p.sections.few_tags);
        short_programs = omega (
          arith,
          short_distinct (images a r qs) (bytes_of_each r (programs_mentioned ms)) (programs_had a r qs all_programs program_bytes_lem all_named ms good.2),
          images_long a r qs,
          ap length p.programs.fill.filled,
          taken_short (program_length s) (drop (program_offset s) s),
          p.sections.short_programs,
        );
        short_strings = h;
      }

pub sheets_are_typed : SheetsAreTyped
sheets_are_typed s a r bytes p b = rules_typed s a r bytes p b

pub only_strings_grow : OnlyStringsGrow
only_strings_grow s a r bytes p b h = room s a r bytes p b h
