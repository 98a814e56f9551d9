pub mod StripListing
pub mod Holds
