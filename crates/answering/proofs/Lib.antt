pub mod Inputs
pub mod Requested
pub mod Printed
