mod Laws
pub mod ShownLaws
