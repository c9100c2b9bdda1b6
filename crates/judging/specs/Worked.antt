-- Texts of declarations and what is told of them. Assumes nothing.
use Rattle.std.specs.Prelude.{List, [], ◌∷◌, ℕ}
use Rattle.models.specs.Answers.{refuses, ReadModels}

-- <!ELEMENT a ANY>
abbrev pub any_text : List ℕ
any_text = 60 ∷ 33 ∷ 69 ∷ 76 ∷ 69 ∷ 77 ∷ 69 ∷ 78 ∷ 84 ∷ 32 ∷ 97 ∷ 32 ∷ 65 ∷ 78 ∷ 89 ∷ 62 ∷ []

-- <!ELEMENT a ANYTHING>
abbrev pub anything_text : List ℕ
anything_text = 60 ∷ 33 ∷ 69 ∷ 76 ∷ 69 ∷ 77 ∷ 69 ∷ 78 ∷ 84 ∷ 32 ∷ 97 ∷ 32 ∷ 65 ∷ 78 ∷ 89 ∷ 84 ∷ 72 ∷ 73 ∷ 78 ∷ 71 ∷ 62 ∷ []

-- <!ENTITY x 'y'>
abbrev pub entity_text : List ℕ
entity_text = 60 ∷ 33 ∷ 69 ∷ 78 ∷ 84 ∷ 73 ∷ 84 ∷ 89 ∷ 32 ∷ 120 ∷ 32 ∷ 39 ∷ 121 ∷ 39 ∷ 62 ∷ []

-- <!ELEMENT a (%x;)>
abbrev pub reference_text : List ℕ
reference_text = 60 ∷ 33 ∷ 69 ∷ 76 ∷ 69 ∷ 77 ∷ 69 ∷ 78 ∷ 84 ∷ 32 ∷ 97 ∷ 32 ∷ 40 ∷ 37 ∷ 120 ∷ 59 ∷ 41 ∷ 62 ∷ []

-- <!ATTLIST a b CDATA #IMPLIED>
abbrev pub attlist_text : List ℕ
attlist_text = 60 ∷ 33 ∷ 65 ∷ 84 ∷ 84 ∷ 76 ∷ 73 ∷ 83 ∷ 84 ∷ 32 ∷ 97 ∷ 32 ∷ 98 ∷ 32 ∷ 67 ∷ 68 ∷ 65 ∷ 84 ∷ 65 ∷ 32 ∷ 35 ∷ 73 ∷ 77 ∷ 80 ∷ 76 ∷ 73 ∷ 69 ∷ 68 ∷ 62 ∷ []

-- <!ELEMENT a ((((b)+)+)+)+>
abbrev pub doubled_text : List ℕ
doubled_text = 60 ∷ 33 ∷ 69 ∷ 76 ∷ 69 ∷ 77 ∷ 69 ∷ 78 ∷ 84 ∷ 32 ∷ 97 ∷ 32 ∷ 40 ∷ 40 ∷ 40 ∷ 40 ∷ 98 ∷ 41 ∷ 43 ∷ 41 ∷ 43 ∷ 41 ∷ 43 ∷ 41 ∷ 43 ∷ 62 ∷ []

-- <!ELEMENT a (b,c,d,e,f,g,h,i,j,k,l,m,n)>
abbrev pub thirteen_text : List ℕ
thirteen_text = 60 ∷ 33 ∷ 69 ∷ 76 ∷ 69 ∷ 77 ∷ 69 ∷ 78 ∷ 84 ∷ 32 ∷ 97 ∷ 32 ∷ 40 ∷ 98 ∷ 44 ∷ 99 ∷ 44 ∷ 100 ∷ 44 ∷ 101 ∷ 44 ∷ 102 ∷ 44 ∷ 103 ∷ 44 ∷ 104 ∷ 44 ∷ 105 ∷ 44 ∷ 106 ∷ 44 ∷ 107 ∷ 44 ∷ 108 ∷ 44 ∷ 109 ∷ 44 ∷ 110 ∷ 41 ∷ 62 ∷ []

-- <!ELEMENT a (b,c|d)>
abbrev pub mingled_text : List ℕ
mingled_text = 60 ∷ 33 ∷ 69 ∷ 76 ∷ 69 ∷ 77 ∷ 69 ∷ 78 ∷ 84 ∷ 32 ∷ 97 ∷ 32 ∷ 40 ∷ 98 ∷ 44 ∷ 99 ∷ 124 ∷ 100 ∷ 41 ∷ 62 ∷ []

-- <!ELEMENT a (#PCDATA|b)>
abbrev pub unstarred_text : List ℕ
unstarred_text = 60 ∷ 33 ∷ 69 ∷ 76 ∷ 69 ∷ 77 ∷ 69 ∷ 78 ∷ 84 ∷ 32 ∷ 97 ∷ 32 ∷ 40 ∷ 35 ∷ 80 ∷ 67 ∷ 68 ∷ 65 ∷ 84 ∷ 65 ∷ 124 ∷ 98 ∷ 41 ∷ 62 ∷ []

pub record ToldOfTexts : Type 0 where
  pub any_content : ReadModels any_text (refuses 50 12)
  pub no_whole_word : ReadModels anything_text (refuses 55 12)
  pub entity_declared : ReadModels entity_text (refuses 51 3)
  pub entity_referred_to : ReadModels reference_text (refuses 51 13)
  pub attributes_declared : ReadModels attlist_text (refuses 52 2)
  pub doubled_too_often : ReadModels doubled_text (refuses 53 24)
  pub thirteen_names : ReadModels thirteen_text (refuses 54 36)
  pub commas_and_bars : ReadModels mingled_text (refuses 55 16)
  pub without_a_star : ReadModels unstarred_text (refuses 55 23)
  pub no_text : ReadModels [] (refuses 55 0)
