pub mod HeldLaws
pub mod AgreedLaws
pub mod CountLaws
pub mod Meaning
