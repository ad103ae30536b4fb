pub mod Lexical
pub mod Grammar
pub mod Depth
pub mod Nesting
pub mod Meaning
pub mod Examples
