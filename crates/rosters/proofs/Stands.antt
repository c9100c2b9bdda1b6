-- The name that is being read is the last of the bytes read, and short. Assumes nothing.
use mathlib.Core.Path.{◌≡◌, refl, sym, ◌∙◌, ap, subst}
use mathlib.Core.Logic.{inl, inr}
use mathlib.Core.Option.{Option}
use mathlib.Core.List.{List, ◌++◌, append_assoc}
use Prim.Native.Nat.{ℕ}
use Rattle.notation.specs.Statements.{parentheses}
use Rattle.reading.proofs.Telling.{IfSome}
use Rattle.models.specs.Spelling.{element_word}
use Rattle.models.specs.Names.{own_name, inner_name}
use Rattle.models.specs.Reader.{Phase, opening, naming, named, contents, emptying, inside, hashing, mixing, barred, mixed_name, mixed_closed, wants, in_name, marking, after, group_closed, ended, within}
use Rattle.models.proofs.Held.{PhaseHeld}
use Rattle.models.proofs.Shortest.{held}
use Rattle.rosters.specs.Promises.{NameLast, NamesStand}

-- behind the bytes before it, in two parts
two_fronts : (row before u front w : List ℕ) → row ≡ before ++ u → u ≡ front ++ w → (v m : List ℕ) → w ≡ v ++ m → row ≡ (before ++ (front ++ v)) ++ m
two_fronts row before u front w e f v m g =
    e ∙ ap (λ (l : List ℕ). before ++ l) (f ∙ ap (λ (l : List ℕ). front ++ l) g ∙ sym (append_assoc front v m)) ∙ sym (append_assoc before (front ++ v) m)

abbrev Last : List ℕ → Option (List ℕ) → Type 0
Last row o = IfSome (λ n. NameLast n row) o

own_last : (q : Phase) (row before u : List ℕ) → PhaseHeld parentheses q u → row ≡ before ++ u → Last row (own_name q)
own_last (opening rest) row before u h e = tt
own_last naming row before u h e = tt
own_last (named n) row before u h e = record {
  last = record { before = before ++ (element_word ++ h.gap); is = two_fronts row before u element_word (h.gap ++ n) e h.is h.gap n refl };
  short = h.name.short;
}
own_last (contents n) row before u h e = tt
own_last (emptying n rest) row before u h e = tt
own_last (inside n) row before u h e = tt
own_last (hashing n rest) row before u h e = tt
own_last (mixing n names) row before u h e = tt
own_last (barred n names) row before u h e = tt
own_last (mixed_name n names m) row before u h e = tt
own_last (mixed_closed n names) row before u h e = tt
own_last (wants n l ls) row before u h e = tt
own_last (in_name n m l ls) row before u h e = tt
own_last (marking n x l ls) row before u h e = tt
own_last (after n x l ls) row before u h e = tt
own_last (group_closed n x) row before u h e = tt
own_last (ended n c) row before u h e = tt

inner_last : (q : Phase) (row before u : List ℕ) → PhaseHeld parentheses q u → row ≡ before ++ u → Last row (inner_name q)
inner_last (opening rest) row before u h e = tt
inner_last naming row before u h e = tt
inner_last (named n) row before u h e = tt
inner_last (contents n) row before u h e = tt
inner_last (emptying n rest) row before u h e = tt
inner_last (inside n) row before u h e = tt
inner_last (hashing n rest) row before u h e = tt
inner_last (mixing n names) row before u h e = tt
inner_last (barred n names) row before u h e = tt
inner_last (mixed_name n names m) row before u h e = record {
  last = record { before = before ++ (h.front ++ h.held.front); is = two_fronts row before u h.front h.content_bytes e h.is h.held.front m h.held.is };
  short = h.held.name.short;
}
inner_last (mixed_closed n names) row before u h e = tt
inner_last (wants n l ls) row before u h e = tt
inner_last (in_name n m l ls) row before u h e = record {
  last = record { before = before ++ (h.front ++ h.held.before); is = two_fronts row before u h.front h.content_bytes e h.is h.held.before m h.held.is };
  short = h.held.name.short;
}
inner_last (marking n x l ls) row before u h e = tt
inner_last (after n x l ls) row before u h e = tt
inner_last (group_closed n x) row before u h e = tt
inner_last (ended n c) row before u h e = tt

pub names_stand : NamesStand
names_stand row ds q n e (inl f) = let h = held 31 (within ds q) row e in subst (Last row) f (own_last q row h.before h.bytes h.held h.is)
names_stand row ds q n e (inr f) = let h = held 31 (within ds q) row e in subst (Last row) f (inner_last q row h.before h.bytes h.held h.is)
