-- That the examples of document 01 come out is in Examples.antt.
pub mod CallLaws
pub mod Examples
pub mod Opening
