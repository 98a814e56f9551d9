pub mod Ascii
pub mod Digits
pub mod Written
pub mod Added
pub mod Parts
pub mod Holds
