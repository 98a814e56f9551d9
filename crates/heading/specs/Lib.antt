pub mod Heading
pub mod CheckedExamples
