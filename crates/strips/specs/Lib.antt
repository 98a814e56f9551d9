pub mod Strips
pub mod Check
pub mod Holds
