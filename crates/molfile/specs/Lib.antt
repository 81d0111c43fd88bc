pub mod Cutting
pub mod Numbers
pub mod Taking
pub mod Passing
pub mod Filing
pub mod Reading
