pub mod Anchors
pub mod FillLaws
pub mod SpliceLaws
pub mod CopyLaws
