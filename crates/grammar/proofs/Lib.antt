-- That reading is exact for the grammar. The theorems are in Theorem.antt, Places.antt and Exactly.antt.
pub mod Exact
pub mod Known
pub mod Lexemes
pub mod Laws
pub mod TokenKinds
pub mod Rows
pub mod Pattern
pub mod Expr
pub mod Options
pub mod Types
pub mod Rules
pub mod Defs
pub mod Theorem
pub mod Places
pub mod Exactly
pub mod Examples
