pub mod Scanning
pub mod Holding
pub mod Changing
pub mod Judging
pub mod Outcomes
pub mod Folding
pub mod Answering
