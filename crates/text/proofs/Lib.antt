pub mod Shapes
pub mod Decoding
pub mod Unique
pub mod NameLaws
pub mod NumeralLaws
pub mod Numbers
