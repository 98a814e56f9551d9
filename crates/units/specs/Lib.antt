pub mod Decimetres
pub mod Pattern
pub mod Position
pub mod Metres
pub mod CheckedExamples
