pub mod Magnitudes
pub mod BoundLaws
pub mod ValueLaws
pub mod Ring
pub mod TwosComplementLaws
pub mod Tests
pub mod FloatLaws
pub mod RootLaws
mod DigitLaws
pub mod RoundLaws
pub mod WrapLaws
mod WideLaws
pub mod SignLaws
