pub mod DigitLaws
pub mod WrittenLaws
pub mod AddedLaws
pub mod ReadLaws
pub mod BytesLaws
pub mod HoldsLaws
