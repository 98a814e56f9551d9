pub mod Limits
pub mod Cases
pub mod Choice
pub mod HandLegs
pub mod Ways
