-- The names of a declaration that is being read. Assumes nothing.
use Rattle.std.proofs.Math.Option.{Option, none, some}
use Rattle.std.specs.Prelude.{List, [], ◌∷◌, ◌++◌, ℕ}
use Rattle.models.specs.Family.{names_in, names_in_spec}
use Rattle.models.specs.Reader.{LeftOf, fresh, commas, bars, Phase, opening, naming, named, contents, emptying, inside, hashing, mixing, barred, mixed_name, mixed_closed, wants, in_name, marking, after, group_closed, ended}

-- the names to the left, in one pair and in all
abbrev pub names_left : LeftOf → List (List ℕ)
names_left fresh = []
names_left (commas y) = names_in y
names_left (bars y) = names_in y

abbrev pub names_around : List LeftOf → List (List ℕ)
names_around [] = []
names_around (l ∷ ls) = names_around ls ++ names_left l

-- the names of the content that are whole, in the order of the text
abbrev pub whole_names : Phase → List (List ℕ)
whole_names (opening rest) = []
whole_names naming = []
whole_names (named n) = []
whole_names (contents n) = []
whole_names (emptying n rest) = []
whole_names (inside n) = []
whole_names (hashing n rest) = []
whole_names (mixing n names) = names
whole_names (barred n names) = names
whole_names (mixed_name n names m) = names
whole_names (mixed_closed n names) = names
whole_names (wants n l ls) = names_around (l ∷ ls)
whole_names (in_name n m l ls) = names_around (l ∷ ls)
whole_names (marking n x l ls) = names_around (l ∷ ls) ++ names_in x
whole_names (after n x l ls) = names_around (l ∷ ls) ++ names_in x
whole_names (group_closed n x) = names_in x
whole_names (ended n c) = names_in_spec c

-- the element's own name, and a name of its content, while it is read
abbrev pub own_name : Phase → Option (List ℕ)
own_name (opening rest) = none
own_name naming = none
own_name (named n) = some n
own_name (contents n) = none
own_name (emptying n rest) = none
own_name (inside n) = none
own_name (hashing n rest) = none
own_name (mixing n names) = none
own_name (barred n names) = none
own_name (mixed_name n names m) = none
own_name (mixed_closed n names) = none
own_name (wants n l ls) = none
own_name (in_name n m l ls) = none
own_name (marking n x l ls) = none
own_name (after n x l ls) = none
own_name (group_closed n x) = none
own_name (ended n c) = none

abbrev pub inner_name : Phase → Option (List ℕ)
inner_name (opening rest) = none
inner_name naming = none
inner_name (named n) = none
inner_name (contents n) = none
inner_name (emptying n rest) = none
inner_name (inside n) = none
inner_name (hashing n rest) = none
inner_name (mixing n names) = none
inner_name (barred n names) = none
inner_name (mixed_name n names m) = some m
inner_name (mixed_closed n names) = none
inner_name (wants n l ls) = none
inner_name (in_name n m l ls) = some m
inner_name (marking n x l ls) = none
inner_name (after n x l ls) = none
inner_name (group_closed n x) = none
inner_name (ended n c) = none
