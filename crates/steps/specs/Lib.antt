pub mod Keywords
pub mod Outcome
pub mod Met
pub mod Sizes
pub mod Read
