pub mod TokenLaws
pub mod ByteLaws
pub mod Theorem
pub mod Exactly
pub mod AsLent
