pub mod WordLaws
pub mod Anchors
