pub mod Answers
pub mod Writing
pub mod Scans
pub mod Props
