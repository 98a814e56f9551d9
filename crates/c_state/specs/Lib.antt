pub mod Stored
pub mod Layout
