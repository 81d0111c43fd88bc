pub mod Items
pub mod Scanned
pub mod Reading
pub mod Faults
pub mod Folded
pub mod Walk
pub mod Printed
