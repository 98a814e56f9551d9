pub mod Bounds
pub mod Floats
pub mod Root
pub mod Round
pub mod TwosComplement
pub mod Wide
pub mod Wrap
