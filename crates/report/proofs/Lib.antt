pub mod ListingLaws
pub mod FixLaws
pub mod HoldsLaws
