-- The bounds of attributes and values: how far each goes, from 0 on. The code's constants are these. Assumes nothing.
use Rattle.std.specs.Prelude.{ℕ, suc, ◌≤◌}

pub record Bounds : Type 0 where
  pub highest_attribute : ℕ
  pub highest_value : ℕ

-- attributes are 0 to 7, values 0 to 63
abbrev pub bounds : Bounds
bounds = record { highest_attribute = 7; highest_value = 63 }

-- how many attributes and how many values there are
abbrev pub attributes_in : Bounds → ℕ
attributes_in b = suc b.highest_attribute

abbrev pub values_in : Bounds → ℕ
values_in b = suc b.highest_value

abbrev pub AttributeIn : Bounds → ℕ → Type 0
AttributeIn b a = a ≤ b.highest_attribute

abbrev pub ValueIn : Bounds → ℕ → Type 0
ValueIn b v = v ≤ b.highest_value
