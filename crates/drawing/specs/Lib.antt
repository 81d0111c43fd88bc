pub mod View
pub mod Tests
pub mod Folding
