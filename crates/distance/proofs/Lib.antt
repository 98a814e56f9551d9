pub mod Anchors
pub mod SumLaws
pub mod PassLaws
pub mod TableLaws
pub mod SummaryLaws
pub mod KeptLaws
