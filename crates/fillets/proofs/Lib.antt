pub mod EasyLaws
pub mod TangentLaws
pub mod CornerLaws
mod HandCornerLaws
