pub mod Fields
pub mod Numbers
pub mod Hex
pub mod Written
pub mod Gathered
pub mod Added
