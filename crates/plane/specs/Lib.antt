pub mod Area
pub mod Level
pub mod Half
pub mod Samples
