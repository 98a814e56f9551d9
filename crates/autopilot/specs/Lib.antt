pub mod Calls
pub mod Held
pub mod CallList
pub mod TwoBuffers
pub mod Distances
pub mod Example
