pub mod LeavesLaws
pub mod CallLaws
pub mod HeldLaws
pub mod FixLaws
pub mod TwoBuffersLaws
pub mod DistanceLaws
pub mod Anchors
