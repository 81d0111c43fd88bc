pub mod Begun
pub mod Examples
pub mod Held
pub mod Named
pub mod Placed
pub mod Worded
