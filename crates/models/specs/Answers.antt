-- What is told of a text of declarations: the declarations, or one of the numbers 50 to 56 with its byte. Assumes nothing.
use Rattle.std.specs.Prelude.{◌≡◌, true, List, [], ◌∷◌, ◌++◌, ◌⊎◌, ℕ, suc, ◌≤◌, ◌<◌, length, take, drop}
use Rattle.text.specs.Names.{name_byte}
use Rattle.notation.specs.Refusal.{Continues, RefusedAt}
use Rattle.models.specs.Models.{Declaration}
use Rattle.models.specs.Spelling.{empty_word}
use Rattle.models.specs.Family.{Grammatical, WithFewNodes, Family, Holdable}

-- a word stands at the front of the bytes, and no byte of a name behind it
pub record WordAt (word bytes : List ℕ) : Type 0 where
  pub rest : List ℕ
  pub is : bytes ≡ word ++ rest
  pub whole : (b : ℕ) (after : List ℕ) → rest ≡ b ∷ after → name_byte b ≡ true → ⊥

pub record EndsWith (front bytes : List ℕ) : Type 0 where
  pub before : List ℕ
  pub is : bytes ≡ before ++ front

-- the A of ANY, where a content may begin: EMPTY> could stand there
pub record AnyAt (text : List ℕ) (k : ℕ) : Type 0 where
  pub declarations : List Declaration
  pub could_be : Family (take k text ++ (empty_word ++ 62 ∷ [])) declarations
  pub any : WordAt (65 ∷ 78 ∷ 89 ∷ []) (drop k text)

-- the N of <!ENTITY
pub record EntityWordAt (text : List ℕ) (k : ℕ) : Type 0 where
  pub behind : EndsWith (60 ∷ 33 ∷ 69 ∷ []) (take k text)
  pub entity : WordAt (78 ∷ 84 ∷ 73 ∷ 84 ∷ 89 ∷ []) (drop k text)

-- % or & or the N of <!ENTITY
abbrev pub EntityAt : List ℕ → ℕ → Type 0
EntityAt text k = ((rest : List ℕ) × (drop k text ≡ 37 ∷ rest)) ⊎ (((rest : List ℕ) × (drop k text ≡ 38 ∷ rest)) ⊎ EntityWordAt text k)

-- the A of <!ATTLIST
pub record AttlistAt (text : List ℕ) (k : ℕ) : Type 0 where
  pub behind : EndsWith (60 ∷ 33 ∷ []) (take k text)
  pub attlist : WordAt (65 ∷ 84 ∷ 84 ∷ 76 ∷ 73 ∷ 83 ∷ 84 ∷ []) (drop k text)

-- what stands at a byte at which no text goes on
pub data Stands (text : List ℕ) (k : ℕ) : ℕ → Type 0 where
  any : AnyAt text k → Stands text k 50
  entity : EntityAt text k → Stands text k 51
  attlist : AttlistAt text k → Stands text k 52
  other : (AnyAt text k → ⊥) → (EntityAt text k → ⊥) → (AttlistAt text k → ⊥) → Stands text k 55

-- the first k + 1 bytes go on
abbrev pub GoesOnPast : (List ℕ → List Declaration → Type 0) → List ℕ → ℕ → Type 0
GoesOnPast Writes text k = (k < length text) × Continues Writes (take (suc k) text)

-- of the family, but more than a sheet can hold: the first k + 1 bytes are too, and no fewer are
pub record TooMuchAt (text : List ℕ) (k : ℕ) : Type 0 where
  pub declarations : List Declaration
  pub of_family : Family (take (suc k) text) declarations
  pub too_much : Holdable declarations → ⊥
  pub no_fewer : (j : ℕ) → j ≤ k → (ds : List Declaration) → Family (take j text) ds → Holdable ds

pub data ModelsTold : Type 0 where
  declares : List Declaration → ModelsTold
  refuses : (number byte : ℕ) → ModelsTold

pub data ReadModels (text : List ℕ) : ModelsTold → Type 0 where
  declared : {ds : List Declaration} → Family text ds → Holdable ds → ReadModels text (declares ds)
  no_family : {k n : ℕ} → RefusedAt Family text k → (GoesOnPast Grammatical text k → ⊥) → Stands text k n → ReadModels text (refuses n k)
  too_large : {k : ℕ} → RefusedAt Family text k → GoesOnPast Grammatical text k → (GoesOnPast WithFewNodes text k → ⊥) → ReadModels text (refuses 53 k)
  too_deep : {k : ℕ} → RefusedAt Family text k → GoesOnPast WithFewNodes text k → ReadModels text (refuses 54 k)
  too_much : {k : ℕ} {ds : List Declaration} → Family text ds → (Holdable ds → ⊥) → TooMuchAt text k → ReadModels text (refuses 56 k)
