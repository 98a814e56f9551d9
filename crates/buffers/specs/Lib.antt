pub mod Splice
pub mod Facts
