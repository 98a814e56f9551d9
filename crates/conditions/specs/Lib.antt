pub mod Choose
pub mod Both
pub mod Between
pub mod All
