pub mod Wrote
pub mod Ends
pub mod Made
pub mod Walk
pub mod Store
pub mod Answers
pub mod Lent
pub mod Work
