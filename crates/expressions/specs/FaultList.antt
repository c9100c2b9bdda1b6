-- The faults of rules T and S as bytes, and the list of all of them, which rises.
-- Assumes nothing.
use Rattle.std.specs.Prelude.{◌≡◌, ◌⊎◌, ◌↔◌, ℕ, ◌<◌}
use mathlib.Core.List.{List, [], ◌∷◌, ◌++◌, Memᴰ}
use Rattle.expressions.specs.Grammar.{Production, Nth, tags_of, Next, byte_of}
use Rattle.expressions.specs.Fault.{Fault}

-- production number q is of nonterminal n and tag t
pub record Has (g : List Production) (n t q : ℕ) : Type 0 where
  pub production : Production
  pub is_production : Nth g q production
  pub its_nonterminal : production.nonterm ≡ n
  pub its_tag : production.tagno ≡ t

-- rule T's fault, 8, nonterminal, tag, 0: two productions share both
pub record TFault (g : List Production) (bytes : List ℕ) : Type 0 where
  pub nonterm : ℕ
  pub tagno : ℕ
  pub first : ℕ
  pub second : ℕ
  pub two : first ≡ second → ⊥
  pub first_has : Has g nonterm tagno first
  pub second_has : Has g nonterm tagno second
  pub are_bytes : bytes ≡ 8 ∷ nonterm ∷ tagno ∷ 0 ∷ []

-- rule S's fault: 9, production, place, next
pub record SFault (g : List Production) (bytes : List ℕ) : Type 0 where
  pub number : ℕ
  pub production : Production
  pub place : ℕ
  pub next : Next
  pub is_production : Nth g number production
  pub fault : Fault (tags_of g) production.content place next
  pub are_bytes : bytes ≡ 9 ∷ number ∷ place ∷ byte_of next ∷ []

-- a grammar keeps rule T, or rule S, where it has no such fault
abbrev pub KeepsT : List Production → Type 0
KeepsT g = (b : List ℕ) → TFault g b → ⊥

abbrev pub KeepsS : List Production → Type 0
KeepsS g = (b : List ℕ) → SFault g b → ⊥

-- the order of bytes: by the first that differs
abbrev pub Before : List ℕ → List ℕ → Type 0
Before [] [] = ⊥
Before [] (y ∷ ys) = Unit {0}
Before (x ∷ xs) [] = ⊥
Before (x ∷ xs) (y ∷ ys) = (x < y) ⊎ ((x ≡ y) × Before xs ys)

-- each entry stands before the next
abbrev pub Rising : List (List ℕ) → Type 0
Rising [] = Unit {0}
Rising (b ∷ []) = Unit {0}
Rising (b ∷ c ∷ l) = Before b c × Rising (c ∷ l)

-- the list of a grammar's faults: it rises, and holds the T and S faults and nothing else
pub record IsFaultList (g : List Production) (l : List (List ℕ)) : Type 0 where
  pub rises : Rising l
  pub holds : (b : List ℕ) → (TFault g b ⊎ SFault g b) ↔ Memᴰ b l

-- the list as it is written, one entry after the other
abbrev pub list_bytes : List (List ℕ) → List ℕ
list_bytes [] = []
list_bytes (b ∷ l) = b ++ list_bytes l

-- the number that a grammar's faults give: 8 for a T fault, 9 for S faults only, 0 for none
pub data FaultNumber (g : List Production) : ℕ → Type 0 where
  passes : KeepsT g → KeepsS g → FaultNumber g 0
  t_fault : {b : List ℕ} → TFault g b → FaultNumber g 8
  s_faults : {b : List ℕ} → KeepsT g → SFault g b → FaultNumber g 9
