pub mod Expr
pub mod Examples
