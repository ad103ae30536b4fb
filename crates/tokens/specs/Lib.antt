pub mod Token
pub mod Ident
pub mod Lent
pub mod Input
pub mod Kind
