pub mod Types
pub mod Modified
pub mod Defs
pub mod Reading
