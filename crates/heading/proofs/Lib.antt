pub mod CheckedExamples
