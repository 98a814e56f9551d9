pub mod Anchors
pub mod StripListingLaws
