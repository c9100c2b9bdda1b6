-- None, one and many add and multiply as numbers do.
-- Assumes nothing.
use mathlib.Core.Path.{◌≡◌, refl}
use Rattle.expressions.specs.Count.{Count, none, one, many, add, mul}

pub add_assoc : (a b c : Count) → add (add a b) c ≡ add a (add b c)
add_assoc none b c = refl
add_assoc one none c = refl
add_assoc one one none = refl
add_assoc one one one = refl
add_assoc one one many = refl
add_assoc one many c = refl
add_assoc many b c = refl

pub add_comm : (a b : Count) → add a b ≡ add b a
add_comm none none = refl
add_comm none one = refl
add_comm none many = refl
add_comm one none = refl
add_comm one one = refl
add_comm one many = refl
add_comm many none = refl
add_comm many one = refl
add_comm many many = refl

pub mul_assoc : (a b c : Count) → mul (mul a b) c ≡ mul a (mul b c)
mul_assoc none b c = refl
mul_assoc one b c = refl
mul_assoc many none c = refl
mul_assoc many one c = refl
mul_assoc many many none = refl
mul_assoc many many one = refl
mul_assoc many many many = refl

-- the first over a sum
pub over_right : (a b c : Count) → mul a (add b c) ≡ add (mul a b) (mul a c)
over_right none b c = refl
over_right one b c = refl
over_right many none c = refl
over_right many one none = refl
over_right many one one = refl
over_right many one many = refl
over_right many many c = refl

-- a sum over the last
pub over_left : (a b c : Count) → mul (add a b) c ≡ add (mul a c) (mul b c)
over_left none b c = refl
over_left one none none = refl
over_left one none one = refl
over_left one none many = refl
over_left one one none = refl
over_left one one one = refl
over_left one one many = refl
over_left one many none = refl
over_left one many one = refl
over_left one many many = refl
over_left many none none = refl
over_left many one none = refl
over_left many many none = refl
over_left many b one = refl
over_left many b many = refl
