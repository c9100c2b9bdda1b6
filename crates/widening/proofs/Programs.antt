-- A program that assigns no attribute past the highest does the same to values that are alike: it rejects both or neither, and prints the same.
-- Assumes nothing.
use mathlib.Core.Path.{◌≡◌, refl, ap, ap₂, subst}
use mathlib.Core.Bool.{Bool, true, false, not, ◌&&◌, ◌||◌}
use mathlib.Core.List.{List, [], ◌∷◌, ◌++◌}
use mathlib.Core.Option.{Option, none, some}
use Prim.Native.Nat.{ℕ}
use lib.Dec.{eqb}
use Rattle.programs.specs.Program.{Operand, constant, current, recalled, Condition, equal, negated, both, either, Statement, become, copy, recall, reject, print_start, print_end, print_text, echo, branch, Program, done, step}
use Rattle.programs.specs.Bounds.{Bounds}
use Rattle.programs.specs.Limits.{StatementFitsIn, StatementsFitIn}
use Rattle.sheet.specs.Sheet.{Sheet}
use Rattle.output.specs.Escape.{Piece}
use Rattle.runs.specs.Execute.{Effect, operand_value, holds, chosen, after_print, execute_one, execute}
use Rattle.widening.proofs.Alike.{Same, Values, set_alike, Both, neither, each, both_bind}

pub record Effects (top : ℕ) (x y : Effect) : Type 0 where
  pub values : Values top x.values y.values
  pub echo : x.echo ≡ y.echo
  pub printed : x.printed ≡ y.printed

module _ (k k' : List ℕ) (K : Same k k') (vs ws : List ℕ) (W : Same vs ws) where
  operand_alike : (x : Operand) → operand_value k x vs ≡ operand_value k' x ws
  operand_alike (constant v) = refl
  operand_alike (current a) = W a
  operand_alike (recalled a) = K a

  holds_alike : (c : Condition) → holds k c vs ≡ holds k' c ws
  holds_alike (equal x y) = ap₂ (λ (m n : ℕ). eqb m n) (operand_alike x) (operand_alike y)
  holds_alike (negated c) = ap not (holds_alike c)
  holds_alike (both c d) = ap₂ (λ (p q : Bool). p && q) (holds_alike c) (holds_alike d)
  holds_alike (either c d) = ap₂ (λ (p q : Bool). p || q) (holds_alike c) (holds_alike d)

chosen_alike : {top : ℕ} (p q : Bool) → p ≡ q → {x y x' y' : Option Effect} → Both (Effects top) x x' → Both (Effects top) y y' →
    Both (Effects top) (chosen p x y) (chosen q x' y')
chosen_alike {top} p q e {x} {y} {x'} {y'} h g = subst (λ (c : Bool). Both (Effects top) (chosen p x y) (chosen c x' y')) e (by p)
  where
    by : (c : Bool) → Both (Effects top) (chosen c x y) (chosen c x' y')
    by true = h
    by false = g

after_alike : {top : ℕ} (o o' : List Piece) → o ≡ o' → {x y : Option Effect} → Both (Effects top) x y → Both (Effects top) (after_print o x) (after_print o' y)
after_alike o o' e h =
    both_bind _ _ h (λ x y r. each (record { values = r.values; echo = r.echo; printed = ap₂ (λ (l m : List Piece). l ++ m) e r.printed }))

module _ (a : Sheet) (b : Bounds) (tags : ℕ) (strings : List ℕ) (k k' : List ℕ) (K : Same k k') where
  abbrev top : ℕ
  top = b.highest_attribute

  -- nothing but the values may differ
  plain : (vs ws : List ℕ) (on : Bool) (o : List Piece) → Values top vs ws →
      Both (Effects top) (some (record { values = vs; echo = on; printed = o })) (some (record { values = ws; echo = on; printed = o }))
  plain vs ws on o h = each (record { values = h; echo = refl; printed = refl })

  mutual
    one_alike : (t : Statement) → StatementFitsIn b tags strings t → (vs ws : List ℕ) (on : Bool) → Values top vs ws →
        Both (Effects top) (execute_one a k t vs on) (execute_one a k' t ws on)
    one_alike (become x v) f vs ws on h = plain _ _ on [] (set_alike top vs ws h x f.0 v v refl)
    one_alike (copy x y) f vs ws on h = plain _ _ on [] (set_alike top vs ws h x f.0 _ _ (h.same y))
    one_alike (recall x y) f vs ws on h = plain _ _ on [] (set_alike top vs ws h x f.0 _ _ (K y))
    one_alike reject f vs ws on h = neither
    one_alike (print_start t) f vs ws on h = plain vs ws on _ h
    one_alike (print_end t) f vs ws on h = plain vs ws on _ h
    one_alike (print_text o n) f vs ws on h = plain vs ws on _ h
    one_alike (echo e) f vs ws on h = plain vs ws e [] h
    one_alike (branch c l m) f vs ws on h =
        chosen_alike (holds k c vs) (holds k' c ws) (holds_alike k k' K vs ws h.same c) (all_alike l f.1 vs ws on h) (all_alike m f.2 vs ws on h)

    pub all_alike : (p : Program) → StatementsFitIn b tags strings p → (vs ws : List ℕ) (on : Bool) → Values top vs ws →
        Both (Effects top) (execute a k p vs on) (execute a k' p ws on)
    all_alike done f vs ws on h = plain vs ws on [] h
    all_alike (step t p) f vs ws on h =
        both_bind _ _ (one_alike t f.0 vs ws on h)
        (λ x y r. after_alike x.printed y.printed r.printed
        (subst (λ (e : Bool). Both (Effects top) (execute a k p x.values x.echo) (execute a k' p y.values e)) r.echo
        (all_alike p f.1 x.values y.values x.echo r.values)))
