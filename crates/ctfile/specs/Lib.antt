pub mod Lines
pub mod Fields
pub mod Forms
pub mod Filed
pub mod Drawings
pub mod Molfiles
pub mod Promises
