pub mod LevelLaws
pub mod LegLaws
pub mod HalfLaws
