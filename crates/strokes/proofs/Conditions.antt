-- The bytes of a condition go on as the machine does, part by part. Assumes nothing.
use mathlib.Core.Path.{◌≡◌, refl, sym, ◌∙◌, ap}
use mathlib.Core.Option.{Option, none, some}
use mathlib.Core.List.{List, [], ◌∷◌, ◌++◌, append-nil, append_assoc}
use Prim.Native.Nat.{ℕ, zero, suc}
use lib.ListN.{replicate}
use Rattle.programs.specs.Program.{Operand, operand_bytes, Condition, equal, negated, condition_bytes}
use Rattle.reading.specs.Conditions.{ConditionLevel, condition_level, disjoined, conjoined, negated_by, up_to_and, got, after}
use Rattle.strokes.specs.Conditions.{or_part, and_part, levels_on, reading_on}
use Rattle.strokes.proofs.Lists.{at_either_end}

pub or_bytes : (o : Option Condition) (d : Condition) → condition_bytes (disjoined o d) ≡ or_part o ++ condition_bytes d
or_bytes none d = refl
or_bytes (some c) d = refl

and_bytes : (o : Option Condition) (d : Condition) → condition_bytes (conjoined o d) ≡ and_part o ++ condition_bytes d
and_bytes none d = refl
and_bytes (some c) d = refl

nots_bytes : (k : ℕ) (c : Condition) → condition_bytes (negated_by k c) ≡ replicate k 1 ++ condition_bytes c
nots_bytes zero c = refl
nots_bytes (suc k) c = nots_bytes k (negated c) ∙ at_either_end k 1 (condition_bytes c)

up_bytes : (l : ConditionLevel) (c : Condition) → condition_bytes (up_to_and l c) ≡ and_part l.and_left ++ (replicate l.nots 1 ++ condition_bytes c)
up_bytes l c = and_bytes l.and_left (negated_by l.nots c) ∙ ap (λ z. and_part l.and_left ++ z) (nots_bytes l.nots c)

four : (a b c d e : List ℕ) → a ++ (b ++ (c ++ (d ++ e))) ≡ (a ++ (b ++ (c ++ d))) ++ e
four a b c d e = sym (simp append_assoc)

-- a single condition is read
pub got_bytes : (xs : List ℕ) (l : ConditionLevel) (ls : List ConditionLevel) (c : Condition) → levels_on xs (l ∷ ls) ++ condition_bytes c ≡ reading_on xs (got l ls c)
got_bytes xs l ls c =
    sym (ap (λ z. levels_on xs ls ++ (or_part l.or_left ++ z)) (up_bytes l c)
    ∙ four (levels_on xs ls) (or_part l.or_left) (and_part l.and_left) (replicate l.nots 1) (condition_bytes c))

pub close_bytes : (xs : List ℕ) (d : Condition) (o : Option Condition) (l : ConditionLevel) (ls : List ConditionLevel) → reading_on xs (after d o (l ∷ ls)) ≡ reading_on xs (got l ls (disjoined o d))
close_bytes xs d o l ls = ap (λ z. levels_on xs (l ∷ ls) ++ z) (sym (or_bytes o d)) ∙ got_bytes xs l ls (disjoined o d)

pub other_bytes : (xs : List ℕ) (x y : Operand) (l : ConditionLevel) (ls : List ConditionLevel) → (levels_on xs (l ∷ ls) ++ 0 ∷ operand_bytes x) ++ operand_bytes y ≡ reading_on xs (got l ls (equal x y))
other_bytes xs x y l ls = append_assoc (levels_on xs (l ∷ ls)) (0 ∷ operand_bytes x) (operand_bytes y) ∙ got_bytes xs l ls (equal x y)

not_behind : (a b c : List ℕ) (k : ℕ) → (a ++ (b ++ (c ++ replicate k 1))) ++ 1 ∷ [] ≡ a ++ (b ++ (c ++ replicate (suc k) 1))
not_behind a b c k = sym (four a b c (replicate k 1) (1 ∷ [])) ∙ ap (λ z. a ++ (b ++ (c ++ z))) (at_either_end k 1 [] ∙ ap (λ z. 1 ∷ z) (append-nil (replicate k 1)))

pub not_bytes : (xs : List ℕ) (l : ConditionLevel) (ls : List ConditionLevel) → levels_on xs (l ∷ ls) ++ 1 ∷ [] ≡ levels_on xs (condition_level l.or_left l.and_left (suc l.nots) ∷ ls)
not_bytes xs l ls = not_behind (levels_on xs ls) (or_part l.or_left) (and_part l.and_left) l.nots

-- an and is put in front of what is read up to it, and an or in front of all that stands within the parentheses
pub and_in : (xs : List ℕ) (d : Condition) (o : Option Condition) (ls : List ConditionLevel) → (levels_on xs ls ++ or_part o) ++ 2 ∷ condition_bytes d ≡ levels_on xs (condition_level o (some d) 0 ∷ ls)
and_in xs d o ls = append_assoc (levels_on xs ls) (or_part o) (2 ∷ condition_bytes d) ∙ ap (λ z. levels_on xs ls ++ (or_part o ++ z)) (sym (append-nil (2 ∷ condition_bytes d)))

pub or_in : (xs : List ℕ) (d : Condition) (o : Option Condition) (ls : List ConditionLevel) → levels_on xs ls ++ 3 ∷ (or_part o ++ condition_bytes d) ≡ levels_on xs (condition_level (some (disjoined o d)) none 0 ∷ ls)
or_in xs d o ls = ap (λ z. levels_on xs ls ++ z) (ap (λ z. 3 ∷ z) (sym (or_bytes o d)) ∙ sym (append-nil (3 ∷ condition_bytes (disjoined o d))))
