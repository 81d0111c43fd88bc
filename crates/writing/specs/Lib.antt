pub mod Room
pub mod Shown
pub mod Walked
pub mod Nameable
