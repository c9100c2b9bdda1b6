-- How content models and their declarations are spelled: XML 1.0, productions 3 and 45 to 51, with names of at most 15 bytes. Assumes nothing.
use Rattle.std.specs.Prelude.{◌≡◌, true, List, [], ◌∷◌, ◌++◌, ℕ, suc}
use Rattle.text.specs.Names.{blank}
use Rattle.notation.specs.Tokens.{TagName}
use Rattle.models.specs.Models.{Model, called, sequence, choice, optional, any_number, at_least_one, ContentSpec, nothing_inside, mixed, children, Declaration}

-- S? and S: white space, of any length, and of one byte or more
pub data Blanks : List ℕ → Type 0 where
  no_blank : Blanks []
  a_blank : {b : ℕ} {s : List ℕ} → blank b ≡ true → Blanks s → Blanks (b ∷ s)

pub data Space : List ℕ → Type 0 where
  space : {b : ℕ} {s : List ℕ} → blank b ≡ true → Blanks s → Space (b ∷ s)

-- <!ELEMENT  EMPTY  #PCDATA
abbrev pub element_word : List ℕ
element_word = 60 ∷ 33 ∷ 69 ∷ 76 ∷ 69 ∷ 77 ∷ 69 ∷ 78 ∷ 84 ∷ []

abbrev pub empty_word : List ℕ
empty_word = 69 ∷ 77 ∷ 80 ∷ 84 ∷ 89 ∷ []

abbrev pub pcdata_word : List ℕ
pcdata_word = 35 ∷ 80 ∷ 67 ∷ 68 ∷ 65 ∷ 84 ∷ 65 ∷ []

-- a mark behind a model: none, ?, * or +
pub data MarkIs (x : Model) : List ℕ → Model → Type 0 where
  unmarked : MarkIs x [] x
  question : MarkIs x (63 ∷ []) (optional x)
  asterisk : MarkIs x (42 ∷ []) (any_number x)
  plus : MarkIs x (43 ∷ []) (at_least_one x)

-- with at most so many parentheses open at once; 40 and 41 are ( and ), 44 is the comma, 124 is |
mutual
  -- production 48
  pub data ParticleIs : ℕ → List ℕ → Model → Type 0 where
    a_name : {p : ℕ} {n m w : List ℕ} {x : Model} → TagName n → MarkIs (called n) m x → w ≡ n ++ m → ParticleIs p w x
    a_group : {p : ℕ} {t m w : List ℕ} {x y : Model} → GroupIs p t y → MarkIs y m x → w ≡ t ++ m → ParticleIs p w x

  pub data GroupIs : ℕ → List ℕ → Model → Type 0 where
    a_choice : {p : ℕ} {s t s' w : List ℕ} {x : Model} → Blanks s → ChoiceIs p t x → Blanks s' → w ≡ 40 ∷ (s ++ (t ++ (s' ++ 41 ∷ []))) → GroupIs (suc p) w x
    a_sequence : {p : ℕ} {s t s' w : List ℕ} {x : Model} → Blanks s → SequenceIs p t x → Blanks s' → w ≡ 40 ∷ (s ++ (t ++ (s' ++ 41 ∷ []))) → GroupIs (suc p) w x

  -- production 49: two or more
  pub data ChoiceIs : ℕ → List ℕ → Model → Type 0 where
    two : {p : ℕ} {t s s' u w : List ℕ} {x y : Model} → ParticleIs p t x → Blanks s → Blanks s' → ParticleIs p u y → w ≡ t ++ (s ++ 124 ∷ (s' ++ u)) → ChoiceIs p w (choice x y)
    or_more : {p : ℕ} {t s s' u w : List ℕ} {x y : Model} → ChoiceIs p t x → Blanks s → Blanks s' → ParticleIs p u y → w ≡ t ++ (s ++ 124 ∷ (s' ++ u)) → ChoiceIs p w (choice x y)

  -- production 50: one or more
  pub data SequenceIs : ℕ → List ℕ → Model → Type 0 where
    one : {p : ℕ} {t : List ℕ} {x : Model} → ParticleIs p t x → SequenceIs p t x
    and_more : {p : ℕ} {t s s' u w : List ℕ} {x y : Model} → SequenceIs p t x → Blanks s → Blanks s' → ParticleIs p u y → w ≡ t ++ (s ++ 44 ∷ (s' ++ u)) → SequenceIs p w (sequence x y)

-- production 51: names, each with | in front; with names, mixed content needs its *
pub data BarredNames : List ℕ → List (List ℕ) → Type 0 where
  none : BarredNames [] []
  a_name : {s s' n t w : List ℕ} {names : List (List ℕ)} → Blanks s → Blanks s' → TagName n → BarredNames t names → w ≡ s ++ 124 ∷ (s' ++ (n ++ t)) → BarredNames w (n ∷ names)

pub data MixedIs : List ℕ → List (List ℕ) → Type 0 where
  starred : {s t s' w : List ℕ} {names : List (List ℕ)} → Blanks s → BarredNames t names → Blanks s' → w ≡ 40 ∷ (s ++ (pcdata_word ++ (t ++ (s' ++ 41 ∷ 42 ∷ [])))) → MixedIs w names
  characters : {s s' w : List ℕ} → Blanks s → Blanks s' → w ≡ 40 ∷ (s ++ (pcdata_word ++ (s' ++ 41 ∷ []))) → MixedIs w []

-- productions 46 and 47, without ANY
pub data SpecIs (p : ℕ) : List ℕ → ContentSpec → Type 0 where
  is_empty : SpecIs p empty_word nothing_inside
  is_mixed : {w : List ℕ} {names : List (List ℕ)} → MixedIs w names → SpecIs p w (mixed names)
  are_children : {t m w : List ℕ} {x y : Model} → GroupIs p t y → MarkIs y m x → w ≡ t ++ m → SpecIs p w (children x)

-- production 45; 62 is >
pub data DeclarationIs (p : ℕ) : List ℕ → Declaration → Type 0 where
  declaration : {s n s' t s'' w : List ℕ} {c : ContentSpec} → Space s → TagName n → Space s' → SpecIs p t c → Blanks s''
      → w ≡ element_word ++ (s ++ (n ++ (s' ++ (t ++ (s'' ++ 62 ∷ []))))) → DeclarationIs p w (record { declared = n; content = c })

-- declarations in order, with white space before, between and after them
pub data DeclarationsAre (p : ℕ) : List ℕ → List Declaration → Type 0 where
  none : {s : List ℕ} → Blanks s → DeclarationsAre p s []
  one_more : {v t s w : List ℕ} {ds : List Declaration} {d : Declaration} → DeclarationsAre p v ds → DeclarationIs p t d → Blanks s → w ≡ v ++ (t ++ s) → DeclarationsAre p w (ds ++ d ∷ [])

-- at least one
pub record DtdIs (p : ℕ) (w : List ℕ) (ds : List Declaration) : Type 0 where
  pub are : DeclarationsAre p w ds
  pub some : ds ≡ [] → ⊥
