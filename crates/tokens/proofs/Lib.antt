pub mod TokenLaws
pub mod NameLaws
pub mod LentLaws
