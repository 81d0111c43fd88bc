pub mod Arrays
pub mod View
pub mod Changes
pub mod Flood
