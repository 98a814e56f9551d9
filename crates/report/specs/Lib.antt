pub mod Listing
pub mod Fix
pub mod Answers
pub mod Holds
