pub mod Calls
pub mod Meaning
pub mod Exactly
