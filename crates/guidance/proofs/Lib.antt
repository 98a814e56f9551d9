pub mod EndLaws
pub mod CommandLaws
