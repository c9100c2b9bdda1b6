-- The names of a declaration that is being read: those mentioned so far, in the order of the text, and the one that a byte ends. Assumes nothing.
use Rattle.std.specs.Prelude.{cond, List, [], ◌∷◌, ◌++◌, ℕ}
use Rattle.std.proofs.Math.Option.{Option, none, some}
use Rattle.text.specs.Names.{name_byte}
use Rattle.models.specs.Family.{names_in_spec}
use Rattle.models.specs.Names.{whole_names, own_name, inner_name}
use Rattle.models.specs.Reader.{Phase, opening, naming, named, contents, emptying, inside, hashing, mixing, barred, mixed_name, mixed_closed, wants, in_name, marking, after, group_closed, ended, Move, to, over}

-- the element's name, once it is whole
abbrev pub declared_in : Phase → List (List ℕ)
declared_in (opening rest) = []
declared_in naming = []
declared_in (named n) = []
declared_in (contents n) = n ∷ []
declared_in (emptying n rest) = n ∷ []
declared_in (inside n) = n ∷ []
declared_in (hashing n rest) = n ∷ []
declared_in (mixing n names) = n ∷ []
declared_in (barred n names) = n ∷ []
declared_in (mixed_name n names m) = n ∷ []
declared_in (mixed_closed n names) = n ∷ []
declared_in (wants n l ls) = n ∷ []
declared_in (in_name n m l ls) = n ∷ []
declared_in (marking n x l ls) = n ∷ []
declared_in (after n x l ls) = n ∷ []
declared_in (group_closed n x) = n ∷ []
declared_in (ended n c) = n ∷ []

abbrev pub mentioned_in : Phase → List (List ℕ)
mentioned_in q = declared_in q ++ whole_names q

-- a byte of a name goes on with it; any other ends it
abbrev pub names_ended : Option (List ℕ) → ℕ → List (List ℕ)
names_ended none b = []
names_ended (some n) b = cond (name_byte b) [] (n ∷ [])

abbrev pub ending_at : Phase → ℕ → List (List ℕ)
ending_at q b = names_ended (own_name q) b ++ names_ended (inner_name q) b

-- behind a move
abbrev pub declared_by : Move → List (List ℕ)
declared_by (to q) = declared_in q
declared_by (over d) = d.declared ∷ []

abbrev pub mentioned_by : Move → List (List ℕ)
mentioned_by (to q) = mentioned_in q
mentioned_by (over d) = d.declared ∷ names_in_spec d.content
