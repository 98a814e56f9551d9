pub mod Commands
pub mod Guide
