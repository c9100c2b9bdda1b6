pub mod Replies
pub mod BytesLaws
pub mod Theorems
pub mod Told
pub mod Going
pub mod Entering
pub mod HandedBack
pub mod InPlace
