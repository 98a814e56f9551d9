pub mod ConversionLaws
pub mod LimitLaws
pub mod DecimetreLaws
pub mod PatternLaws
pub mod PositionLaws
pub mod QuotientLaws
pub mod CheckedExamples
