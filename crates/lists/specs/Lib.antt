pub mod Upto
pub mod Tests
pub mod Order
pub mod Shuffle
pub mod Quoted
