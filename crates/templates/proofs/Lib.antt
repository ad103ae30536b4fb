pub mod WriteLaws
pub mod ScanLaws
pub mod AnswerLaws
pub mod MakeLaws
pub mod FillLaws
pub mod Meaning
pub mod Examples
