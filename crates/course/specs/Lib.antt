pub mod Table
pub mod Vectors
pub mod Direction
pub mod Bearing
pub mod Offset
