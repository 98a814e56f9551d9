pub mod Lengths
pub mod Table
pub mod Pass
pub mod Kept
pub mod Holds
