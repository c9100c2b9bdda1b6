-- Programs that are the same by name do the same. Assumes nothing.
use mathlib.Core.Path.{◌≡◌, refl, sym, ◌∙◌, ap, subst}
use mathlib.Core.Bool.{Bool, true, false}
use mathlib.Core.List.{List, [], ◌∷◌, ◌++◌, head-eq_of_cons-eq, tail-eq_of_cons-eq}
use mathlib.Core.Option.{Option, none, some}
use Prim.Native.Nat.{ℕ, zero, suc, ◌<◌}
use native.Mathlib.Omega.{arith}
use lib.ListN.{length, get_or, set, take, drop}
use Rattle.programs.specs.Program.{Statement, Program}
use Rattle.sheet.specs.Fields.{Visits}
use Rattle.sheet.specs.Sheet.{Rule, Sheet, grammar_of}
use Rattle.output.specs.Escape.{start, end, characters}
use Rattle.runs.specs.Options.{bind}
use Rattle.runs.specs.Characters.{characters_of}
use Rattle.runs.specs.Execute.{Effect, name_of, holds, chosen, after_print, execute_one, execute}
use Rattle.runs.specs.Lookup.{tag_of}
use Rattle.runs.specs.Visits.{grammar, of_node, of_rule, programs_of, tag_name, Env, Saved, performed, visited, visit, opens, closes, enters, leaves, revisits}
use Rattle.runs.specs.Acts.{Act, node_first, node_second, start_tag, end_tag, letter_read, Store, act, acts}
use Rattle.notation.specs.Program.{TextStatement, become, copy, recall, reject, print_start, print_end, print_text, echo, branch, TextProgram, done, step}
use Rattle.notation.specs.Rules.{TextVisits, visits_inside, TextRule}
use Rattle.naming.specs.ByName.{statement_named, program_named, option_named, visits_named, each_named, RuleByName, EachByName, ByName, SameByName}

pub bind_same : {A B : Type 0} (o u : Option A) (f g : A → Option B) → o ≡ u → ((x : A) → f x ≡ g x) → bind o f ≡ bind u g
bind_same none none f g e h = refl
bind_same none (some y) f g e h = absurd (let z : ◌≡◌ {A = ℕ} 0 1 = cc in omega arith)
bind_same (some x) none f g e h = absurd (let z : ◌≡◌ {A = ℕ} 0 1 = cc in omega arith)
bind_same (some x) (some y) f g e h = let i : x ≡ y = cc in h x ∙ ap g i

-- what a program does, by name
abbrev mutual
  done_one : List ℕ → TextStatement → List ℕ → Bool → Option Effect
  done_one k (become a v) vs on = some (record { values = set vs a v; echo = on; printed = [] })
  done_one k (copy a b) vs on = some (record { values = set vs a (get_or vs b 0); echo = on; printed = [] })
  done_one k (recall a b) vs on = some (record { values = set vs a (get_or k b 0); echo = on; printed = [] })
  done_one k reject vs on = none
  done_one k (print_start n) vs on = some (record { values = vs; echo = on; printed = start n ∷ [] })
  done_one k (print_end n) vs on = some (record { values = vs; echo = on; printed = end n ∷ [] })
  done_one k (print_text s) vs on = some (record { values = vs; echo = on; printed = characters (characters_of s) })
  done_one k (echo b) vs on = some (record { values = vs; echo = b; printed = [] })
  done_one k (branch c l m) vs on = chosen (holds k c vs) (done_all k l vs on) (done_all k m vs on)

  done_all : List ℕ → TextProgram → List ℕ → Bool → Option Effect
  done_all k done vs on = some (record { values = vs; echo = on; printed = [] })
  done_all k (step t p) vs on = bind (done_one k t vs on) (λ x. after_print x.printed (done_all k p x.values x.echo))

module _ (a : Sheet) (k : List ℕ) where
  mutual
    one_named : (t : Statement) (vs : List ℕ) (on : Bool) → execute_one a k t vs on ≡ done_one k (statement_named a t) vs on
    one_named (Statement.become x v) vs on = refl
    one_named (Statement.copy x y) vs on = refl
    one_named (Statement.recall x y) vs on = refl
    one_named Statement.reject vs on = refl
    one_named (Statement.print_start t) vs on = refl
    one_named (Statement.print_end t) vs on = refl
    one_named (Statement.print_text o n) vs on = refl
    one_named (Statement.echo b) vs on = refl
    one_named (Statement.branch c l m) vs on = rw (all_named l vs on, all_named m vs on) refl

    all_named : (p : Program) (vs : List ℕ) (on : Bool) → execute a k p vs on ≡ done_all k (program_named a p) vs on
    all_named Program.done vs on = refl
    all_named (Program.step t p) vs on =
        bind_same (execute_one a k t vs on) (done_one k (statement_named a t) vs on) (λ x. after_print x.printed (execute a k p x.values x.echo)) (λ x. after_print x.printed (done_all k (program_named a p) x.values x.echo))
        (one_named t vs on) (λ x. ap (after_print x.printed) (all_named p x.values x.echo))

abbrev done_if : List ℕ → Option TextProgram → List ℕ → Bool → Option Effect
done_if k none vs on = some (record { values = vs; echo = on; printed = [] })
done_if k (some p) vs on = done_all k p vs on

performed_named : (a : Sheet) (k : List ℕ) (o : Option Program) (vs : List ℕ) (on : Bool) → performed a k o vs on ≡ done_if k (option_named a o) vs on
performed_named a k none vs on = refl
performed_named a k (some p) vs on = all_named a k p vs on

visit_same : (a b : Sheet) (k : List ℕ) (o u : Option Program) (v : Env) → option_named a o ≡ option_named b u → visit a k o v ≡ visit b k u v
visit_same a b k o u v e =
    ap (λ x. bind x (λ y. some (visited v y))) (performed_named a k o v.values v.echo ∙ ap (λ z. done_if k z v.values v.echo) e ∙ sym (performed_named b k u v.values v.echo))

-- the programs of a node or a production
nodes_same : (a b : Sheet) (vs ws : List Visits) → each_named a vs ≡ each_named b ws → (i : ℕ) → visits_named a (of_node vs i) ≡ visits_named b (of_node ws i)
nodes_same a b [] [] e i = refl
nodes_same a b [] (w ∷ ws) e i = absurd (let z : ◌≡◌ {A = ℕ} 0 1 = cc in omega arith)
nodes_same a b (v ∷ vs) [] e i = absurd (let z : ◌≡◌ {A = ℕ} 0 1 = cc in omega arith)
nodes_same a b (v ∷ vs) (w ∷ ws) e zero = head-eq_of_cons-eq e
nodes_same a b (v ∷ vs) (w ∷ ws) e (suc i) = nodes_same a b vs ws (tail-eq_of_cons-eq e) i

rule_same : (a b : Sheet) (x y : Rule) (d : TextRule) → RuleByName a x d → RuleByName b y d → (i : ℕ) → visits_named a (of_rule x i) ≡ visits_named b (of_rule y i)
rule_same a b x y d h k zero = sym h.own_are ∙ k.own_are
rule_same a b x y d h k (suc i) = nodes_same a b x.of_nodes y.of_nodes (sym h.of_nodes_are ∙ k.of_nodes_are) i

programs_same : (a b : Sheet) (xs ys : List Rule) (ds : List TextRule) → EachByName a xs ds → EachByName b ys ds → (q i : ℕ) → visits_named a (programs_of xs q i) ≡ visits_named b (programs_of ys q i)
programs_same a b [] [] [] h k q i = refl
programs_same a b [] (y ∷ ys) [] h k q i = absurd k
programs_same a b (x ∷ xs) ys [] h k q i = absurd h
programs_same a b [] ys (d ∷ ds) h k q i = absurd h
programs_same a b (x ∷ xs) [] (d ∷ ds) h k q i = absurd k
programs_same a b (x ∷ xs) (y ∷ ys) (d ∷ ds) h k zero i = rule_same a b x y d h.0 k.0 i
programs_same a b (x ∷ xs) (y ∷ ys) (d ∷ ds) h k (suc q) i = programs_same a b xs ys ds h.1 k.1 q i

names_same : (a b : Sheet) (xs ys : List Rule) (ds : List TextRule) → EachByName a xs ds → EachByName b ys ds → (q : ℕ) → q < length xs
    → name_of a.names (tag_of (grammar_of xs) q) ≡ name_of b.names (tag_of (grammar_of ys) q)
names_same a b [] ys ds h k q l = absurd (omega arith)
names_same a b (x ∷ xs) ys [] h k q l = absurd h
names_same a b (x ∷ xs) [] (d ∷ ds) h k q l = absurd k
names_same a b (x ∷ xs) (y ∷ ys) (d ∷ ds) h k zero l = sym h.0.tag_is ∙ k.0.tag_is
names_same a b (x ∷ xs) (y ∷ ys) (d ∷ ds) h k (suc q) l = names_same a b xs ys ds h.1 k.1 q (omega arith)

-- acts of productions that are there
abbrev pub ActThere : ℕ → Act → Type 0
ActThere n (node_first q i) = Unit {0}
ActThere n (node_second q i) = Unit {0}
ActThere n (start_tag q) = q < n
ActThere n (end_tag q) = q < n
ActThere n (letter_read c) = Unit {0}

abbrev pub AllThere : ℕ → List Act → Type 0
AllThere n [] = Unit {0}
AllThere n (x ∷ xs) = ActThere n x × AllThere n xs

module _ (a b : Sheet) (s : SameByName a b) where
  visits_same : (q i : ℕ) → visits_named a (programs_of a.rules q i) ≡ visits_named b (programs_of b.rules q i)
  visits_same q i = programs_same a b a.rules b.rules s.rules.productions s.first_is.rules_are s.second_is.rules_are q i

  pub tag_same : (q : ℕ) → q < length a.rules → tag_name a q ≡ tag_name b q
  tag_same q l = names_same a b a.rules b.rules s.rules.productions s.first_is.rules_are s.second_is.rules_are q l

  opens_same : (q i : ℕ) (v : Env) → opens a q i v ≡ opens b q i v
  opens_same q i v = visit_same a b [] (programs_of a.rules q i).first_visit (programs_of b.rules q i).first_visit v (ap (λ z. z.first_visit) (visits_same q i))

  revisits_same : (q i : ℕ) (k : Saved) (v : Env) → revisits a q i k v ≡ revisits b q i k v
  revisits_same q i k v = visit_same a b k.values (programs_of a.rules q i).second_visit (programs_of b.rules q i).second_visit v (ap (λ z. z.second_visit) (visits_same q i))

  act_same : (x : Act) (m : Store) → ActThere (length a.rules) x → act a x m ≡ act b x m
  act_same (node_first q i) m h = rw (opens_same q i m.env) refl
  act_same (node_second q i) m h = rw (revisits_same q i (Rattle.runs.specs.Acts.innermost m.kept) m.env) refl
  act_same (start_tag q) m h = rw (opens_same q 0 m.env, tag_same q h) refl
  act_same (end_tag q) m h = rw (revisits_same q 0 (Rattle.runs.specs.Acts.innermost m.kept) m.env, tag_same q h) refl
  act_same (letter_read c) m h = refl

  pub acts_same : (xs : List Act) (m : Store) → AllThere (length a.rules) xs → acts a xs m ≡ acts b xs m
  acts_same [] m h = refl
  acts_same (x ∷ xs) m h = bind_same (act a x m) (act b x m) (λ m'. acts a xs m') (λ m'. acts b xs m') (act_same x m h.0) (λ m'. acts_same xs m' h.1)
