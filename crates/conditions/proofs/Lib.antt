pub mod ChooseLaws
pub mod Bools
pub mod BetweenLaws
pub mod AllLaws
