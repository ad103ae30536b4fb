pub mod CallLaws
pub mod Theorem
pub mod Exactly
