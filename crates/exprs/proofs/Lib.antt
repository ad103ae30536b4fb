pub mod ExprLaws
pub mod IfletLaws
pub mod Examples
