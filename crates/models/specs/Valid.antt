-- Which rows of children and characters XML 1.0 finds valid under a content model. Assumes nothing.
use Rattle.std.specs.Prelude.{◌≡◌, ℕ}
use mathlib.Core.List.{List, [], ◌∷◌, ◌++◌, Memᴰ}
use Rattle.models.specs.Models.{Model, called, sequence, choice, optional, any_number, at_least_one, ContentSpec, nothing_inside, mixed, children}

-- what stands in an element: a child element, by its name, or a character
pub data Child : Type 0 where
  element : List ℕ → Child
  character : Child

-- the rows that a model matches
pub data Matches : Model → List Child → Type 0 where
  its_element : {n : List ℕ} → Matches (called n) (element n ∷ [])
  in_order : {x y : Model} {w : List Child} (u v : List Child) → Matches x u → Matches y v → w ≡ u ++ v → Matches (sequence x y) w
  the_first : {x y : Model} {w : List Child} → Matches x w → Matches (choice x y) w
  the_second : {x y : Model} {w : List Child} → Matches y w → Matches (choice x y) w
  left_out : {x : Model} → Matches (optional x) []
  not_left_out : {x : Model} {w : List Child} → Matches x w → Matches (optional x) w
  none : {x : Model} → Matches (any_number x) []
  one_more : {x : Model} {w : List Child} (u v : List Child) → Matches x u → Matches (any_number x) v → w ≡ u ++ v → Matches (any_number x) w
  just_one : {x : Model} {w : List Child} → Matches x w → Matches (at_least_one x) w
  one_and_more : {x : Model} {w : List Child} (u v : List Child) → Matches x u → Matches (at_least_one x) v → w ≡ u ++ v → Matches (at_least_one x) w

-- characters, and elements of these names, in any order
abbrev pub Mixture : List (List ℕ) → List Child → Type 0
Mixture names [] = Unit {0}
Mixture names (character ∷ w) = Mixture names w
Mixture names (element n ∷ w) = Memᴰ n names × Mixture names w

abbrev pub Valid : ContentSpec → List Child → Type 0
Valid nothing_inside w = w ≡ []
Valid (mixed names) w = Mixture names w
Valid (children x) w = Matches x w
