pub mod Tests
pub mod Kinds
pub mod Sorts
pub mod Table
pub mod Forms
pub mod Lists
pub mod Depth
pub mod Stack
