-- Programs that fit: values stay in bounds and as many as they were, and what is printed may be written. A first visit's program recalls nothing, and
-- a second visit's leaves echo. All by the statements, once over the program.
-- Assumes nothing.
use mathlib.Core.Path.{◌≡◌, refl, sym, ◌∙◌, ap, subst}
use mathlib.Core.Bool.{Bool, true, false, not, ◌&&◌, ◌||◌}
use mathlib.Core.List.{List, [], ◌∷◌, ◌++◌}
use mathlib.Core.Option.{Option, none, some}
use Prim.Native.Nat.{ℕ, zero, suc, ◌≤◌, ◌<◌}
use native.Mathlib.Omega.{arith}
use lib.Dec.{eqb}
use lib.ListN.{length, get_or, set, length-set, take, drop}
use Rattle.text.specs.Names.{Name}
use Rattle.programs.specs.Program.{Operand, constant, current, recalled, Condition, equal, negated, both, either, Statement, become, copy, recall, reject, print_start, print_end, print_text, echo, branch, Program, done, step}
use Rattle.text.specs.Characters.{AllChar}
use Rattle.programs.specs.Limits.{Value, Printable, StatementFits, StatementsFit, first, second, operand_allowed, condition_allowed, statement_allowed, allowed}
use Rattle.sheet.specs.Sheet.{Sheet}
use Rattle.output.specs.Escape.{Piece, characters, AllFit}
use Rattle.runs.specs.Options.{bind}
use Rattle.runs.specs.Characters.{characters_of}
use Rattle.runs.specs.Execute.{Effect, name_of, operand_value, holds, chosen, after_print, execute_one, execute}
use Rattle.runs.specs.Fits.{NamesFit, AllValues}
use Rattle.runs.proofs.Characters.{characters_of_lem}

pub value_at : (vs : List ℕ) (a : ℕ) → AllValues vs → Value (get_or vs a 0)
value_at [] a h = omega arith
value_at (v ∷ vs) zero h = h.0
value_at (v ∷ vs) (suc a) h = value_at vs a h.1

set_values : (vs : List ℕ) (a v : ℕ) → AllValues vs → Value v → AllValues (set vs a v)
set_values [] a v h k = tt
set_values (w ∷ vs) zero v h k = (k, h.1)
set_values (w ∷ vs) (suc a) v h k = (h.0, set_values vs a v h.1 k)

pub name_at : (ns : List (List ℕ)) (t : ℕ) → NamesFit ns → t < length ns → Name (name_of ns t) × (length (name_of ns t) ≤ 15)
name_at [] t h l = absurd (omega arith)
name_at (n ∷ ns) zero h l = h.0
name_at (n ∷ ns) (suc t) h l = name_at ns t h.1 (omega arith)

pub fit_append : (o p : List Piece) → AllFit o → AllFit p → AllFit (o ++ p)
fit_append [] p h k = k
fit_append (x ∷ o) p h k = (h.0, fit_append o p h.1 k)

chars_fit : (cs : List ℕ) → AllChar cs → AllFit (characters cs)
chars_fit [] h = tt
chars_fit (c ∷ cs) h = (h.0, chars_fit cs h.1)

text_fits : (strings : List ℕ) (o n : ℕ) → Printable strings o n → AllFit (characters (characters_of (take n (drop o strings))))
text_fits strings o n p =
    let w = p.whole in
    let e : characters_of (take n (drop o strings)) ≡ w.characters = ap characters_of w.spelled ∙ characters_of_lem w.characters in
    subst (λ (cs : List ℕ). AllFit (characters cs)) (sym e) (chars_fit w.characters w.are_chars)

-- n values in bounds, and output that may be written
abbrev pub Fine : ℕ → Option Effect → Type 0
Fine n none = Unit {0}
Fine n (some x) = AllValues x.values × (length x.values ≡ n) × AllFit x.printed

chosen_fine : (n : ℕ) (b : Bool) (x y : Option Effect) → Fine n x → Fine n y → Fine n (chosen b x y)
chosen_fine n true x y h k = h
chosen_fine n false x y h k = k

after_fine : (n : ℕ) (o : List Piece) (x : Option Effect) → AllFit o → Fine n x → Fine n (after_print o x)
after_fine n o none h k = tt
after_fine n o (some x) h k = (k.0, k.1, fit_append o x.printed h k.2)

module _ (s : Sheet) (named : NamesFit s.names) (k : List ℕ) (k_fits : AllValues k) where
  mutual
    one_fine : (t : Statement) → StatementFits (length s.names) s.strings t → (vs : List ℕ) (on : Bool) → AllValues vs → Fine (length vs) (execute_one s k t vs on)
    one_fine (become a v) f vs on h = (set_values vs a v h f.1, length-set vs a v, tt)
    one_fine (copy a b) f vs on h = (set_values vs a (get_or vs b 0) h (value_at vs b h), length-set vs a (get_or vs b 0), tt)
    one_fine (recall a b) f vs on h = (set_values vs a (get_or k b 0) h (value_at k b k_fits), length-set vs a (get_or k b 0), tt)
    one_fine reject f vs on h = tt
    one_fine (print_start t) f vs on h = let n = name_at s.names t named f in (h, refl, ((n.0, (let l = n.1 in omega arith)), tt))
    one_fine (print_end t) f vs on h = let n = name_at s.names t named f in (h, refl, ((n.0, (let l = n.1 in omega arith)), tt))
    one_fine (print_text o n) f vs on h = (h, refl, text_fits s.strings o n f)
    one_fine (echo b) f vs on h = (h, refl, tt)
    one_fine (branch c l m) f vs on h =
        chosen_fine (length vs) (holds k c vs) (execute s k l vs on) (execute s k m vs on) (all_fine l f.1 vs on h) (all_fine m f.2 vs on h)

    all_fine : (p : Program) → StatementsFit (length s.names) s.strings p → (vs : List ℕ) (on : Bool) → AllValues vs → Fine (length vs) (execute s k p vs on)
    all_fine done f vs on h = (h, refl, tt)
    all_fine (step t p) f vs on h = by (λ ws b w. all_fine p f.1 ws b w) (execute_one s k t vs on) (one_fine t f.0 vs on h)
      where
        by : ((ws : List ℕ) (b : Bool) → AllValues ws → Fine (length ws) (execute s k p ws b)) → (o : Option Effect) → Fine (length vs) o →
            Fine (length vs) (bind o (λ x. after_print x.printed (execute s k p x.values x.echo)))
        by rest none e = tt
        by rest (some x) e =
            after_fine (length vs) x.printed (execute s k p x.values x.echo) e.2
            (subst (λ (n : ℕ). Fine n (execute s k p x.values x.echo)) e.1 (rest x.values x.echo e.0))

  -- values stay in bounds and as many as they were, and what is printed may be written
  pub execute_fine : (p : Program) → StatementsFit (length s.names) s.strings p → (vs : List ℕ) (on : Bool) → AllValues vs → Fine (length vs) (execute s k p vs on)
  execute_fine = all_fine

-- the parts of a test
pub both_true : (a b : Bool) → a && b ≡ true → (a ≡ true) × (b ≡ true)
both_true true b h = (refl, h)
both_true false b h = absurd (let z : ◌≡◌ {A = ℕ} 0 1 = cc in omega arith)

false_true : {X : Type 0} → false ≡ true → X
false_true e = absurd (let z : ◌≡◌ {A = ℕ} 0 1 = cc in omega arith)

-- a first visit recalls nothing
module _ (k k' : List ℕ) (vs : List ℕ) where
  operand_same : (x : Operand) → operand_allowed first x ≡ true → operand_value k x vs ≡ operand_value k' x vs
  operand_same (constant v) h = refl
  operand_same (current a) h = refl
  operand_same (recalled a) h = false_true h

  holds_same : (c : Condition) → condition_allowed first c ≡ true → holds k c vs ≡ holds k' c vs
  holds_same (equal x y) h =
      let i = both_true (operand_allowed first x) (operand_allowed first y) h in
      ap (λ (n : ℕ). eqb n (operand_value k y vs)) (operand_same x i.0) ∙ ap (eqb (operand_value k' x vs)) (operand_same y i.1)
  holds_same (negated c) h = ap not (holds_same c h)
  holds_same (both c d) h =
      let i = both_true (condition_allowed first c) (condition_allowed first d) h in
      ap (λ (b : Bool). b && holds k d vs) (holds_same c i.0) ∙ ap (λ (b : Bool). holds k' c vs && b) (holds_same d i.1)
  holds_same (either c d) h =
      let i = both_true (condition_allowed first c) (condition_allowed first d) h in
      ap (λ (b : Bool). b || holds k d vs) (holds_same c i.0) ∙ ap (λ (b : Bool). holds k' c vs || b) (holds_same d i.1)

module _ (s : Sheet) (k k' : List ℕ) where
  mutual
    one_same : (t : Statement) → statement_allowed first t ≡ true → (vs : List ℕ) (on : Bool) → execute_one s k t vs on ≡ execute_one s k' t vs on
    one_same (become a v) h vs on = refl
    one_same (copy a b) h vs on = refl
    one_same (recall a b) h vs on = false_true h
    one_same reject h vs on = refl
    one_same (print_start t) h vs on = refl
    one_same (print_end t) h vs on = refl
    one_same (print_text o n) h vs on = refl
    one_same (echo b) h vs on = refl
    one_same (branch c l m) h vs on =
        let i = both_true (condition_allowed first c) (allowed first l && allowed first m) h in
        let j = both_true (allowed first l) (allowed first m) i.1 in
        ap (λ (b : Bool). chosen b (execute s k l vs on) (execute s k m vs on)) (holds_same k k' vs c i.0)
        ∙ ap (λ (x : Option Effect). chosen (holds k' c vs) x (execute s k m vs on)) (all_same l j.0 vs on)
        ∙ ap (λ (x : Option Effect). chosen (holds k' c vs) (execute s k' l vs on) x) (all_same m j.1 vs on)

    all_same : (p : Program) → allowed first p ≡ true → (vs : List ℕ) (on : Bool) → execute s k p vs on ≡ execute s k' p vs on
    all_same done h vs on = refl
    all_same (step t p) h vs on =
        let i = both_true (statement_allowed first t) (allowed first p) h in
        ap (λ (o : Option Effect). bind o (λ x. after_print x.printed (execute s k p x.values x.echo))) (one_same t i.0 vs on)
        ∙ by (λ ws b. all_same p i.1 ws b) (execute_one s k' t vs on)
      where
        by : ((ws : List ℕ) (b : Bool) → execute s k p ws b ≡ execute s k' p ws b) → (o : Option Effect) →
            bind o (λ x. after_print x.printed (execute s k p x.values x.echo)) ≡ bind o (λ x. after_print x.printed (execute s k' p x.values x.echo))
        by f none = refl
        by f (some x) = ap (after_print x.printed) (f x.values x.echo)

  pub recalls_nothing : (p : Program) → allowed first p ≡ true → (vs : List ℕ) (on : Bool) → execute s k p vs on ≡ execute s k' p vs on
  recalls_nothing = all_same

-- a second visit leaves echo
abbrev pub EchoIs : Bool → Option Effect → Type 0
EchoIs on none = Unit {0}
EchoIs on (some x) = x.echo ≡ on

module _ (s : Sheet) (k : List ℕ) where
  mutual
    one_echo : (t : Statement) → statement_allowed second t ≡ true → (vs : List ℕ) (on : Bool) → EchoIs on (execute_one s k t vs on)
    one_echo (become a v) h vs on = refl
    one_echo (copy a b) h vs on = refl
    one_echo (recall a b) h vs on = refl
    one_echo reject h vs on = tt
    one_echo (print_start t) h vs on = refl
    one_echo (print_end t) h vs on = refl
    one_echo (print_text o n) h vs on = refl
    one_echo (echo b) h vs on = false_true h
    one_echo (branch c l m) h vs on =
        let i = both_true (condition_allowed second c) (allowed second l && allowed second m) h in
        let j = both_true (allowed second l) (allowed second m) i.1 in
        by (holds k c vs) (execute s k l vs on) (execute s k m vs on) (all_echo l j.0 vs on) (all_echo m j.1 vs on)
      where
        by : (b : Bool) (x y : Option Effect) → EchoIs on x → EchoIs on y → EchoIs on (chosen b x y)
        by true x y h k = h
        by false x y h k = k

    all_echo : (p : Program) → allowed second p ≡ true → (vs : List ℕ) (on : Bool) → EchoIs on (execute s k p vs on)
    all_echo done h vs on = refl
    all_echo (step t p) h vs on =
        let i = both_true (statement_allowed second t) (allowed second p) h in
        by (λ ws b. all_echo p i.1 ws b) (execute_one s k t vs on) (one_echo t i.0 vs on)
      where
        rest : (o : List Piece) (x : Option Effect) (b : Bool) → EchoIs b x → b ≡ on → EchoIs on (after_print o x)
        rest o none b h e = tt
        rest o (some x) b h e = h ∙ e

        by : ((ws : List ℕ) (b : Bool) → EchoIs b (execute s k p ws b)) → (o : Option Effect) → EchoIs on o →
            EchoIs on (bind o (λ x. after_print x.printed (execute s k p x.values x.echo)))
        by f none e = tt
        by f (some x) e = rest x.printed (execute s k p x.values x.echo) x.echo (f x.values x.echo) e

  pub keeps_echo : (p : Program) → allowed second p ≡ true → (vs : List ℕ) (on : Bool) → EchoIs on (execute s k p vs on)
  keeps_echo = all_echo
