pub mod CallLaws
pub mod Anchors
pub mod StripsLaws
