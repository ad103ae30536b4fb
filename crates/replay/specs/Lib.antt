pub mod Said
pub mod Agreed
pub mod Counted
pub mod SmallCase
pub mod SmallOpening
