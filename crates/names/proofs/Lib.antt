pub mod CompareLaws
pub mod Laws
