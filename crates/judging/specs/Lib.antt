pub mod Props
pub mod Table
pub mod Judging
pub mod Whole
