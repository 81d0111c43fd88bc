pub mod Arrays
pub mod Known
