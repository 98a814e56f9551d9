pub mod Anchors
pub mod RuleLaws
pub mod CheckLaws
pub mod ThereLaws
pub mod RowLaws
pub mod TiedLaws
