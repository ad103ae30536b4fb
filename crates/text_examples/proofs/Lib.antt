-- That the worked cases come out is in Examples.antt, and what the theorems say of real texts in Worth.antt.
pub mod Examples
pub mod Worth
