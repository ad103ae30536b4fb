pub mod Stages
pub mod Facts
pub mod Order
pub mod Opening
pub mod Leaves
