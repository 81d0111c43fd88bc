pub mod Faults
pub mod Alike
pub mod Molfiles
pub mod Runs
pub mod Read
pub mod Fits
pub mod Cards
