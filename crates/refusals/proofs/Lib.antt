pub mod Anchors
pub mod OutcomeLaws
pub mod SweepLaws
pub mod GivenLaws
pub mod OrderLaws
pub mod FoundLaws
