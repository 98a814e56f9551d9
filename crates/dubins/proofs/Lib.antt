mod HandLegLaws
pub mod PathBounds
pub mod ExistenceLaws
pub mod ShortestLaws
pub mod FarLaws
mod LeastLaws
mod OrderLaws
pub mod SideLaws
