pub mod TextReading
pub mod Checked
