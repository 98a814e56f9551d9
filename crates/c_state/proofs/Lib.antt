pub mod HoldsLaws
pub mod TakenLaws
pub mod StoredLaws
pub mod Anchors
