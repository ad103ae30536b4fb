-- That a refusal depends on no token behind the next one, and that what it counts as consumed are tokens. The theorems are in Theorem.antt.
pub mod Combinators
pub mod Steps
pub mod Rows
pub mod Patterns
pub mod Exprs
pub mod Types
pub mod Defs
pub mod Bytes
pub mod Theorem
pub mod Examples
