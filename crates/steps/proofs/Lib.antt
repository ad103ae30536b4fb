pub mod SizeLaws
pub mod MetLaws
pub mod StepLaws
pub mod NameLaws
pub mod RowLaws
pub mod ReadLaws
