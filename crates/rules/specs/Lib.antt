pub mod Answers
pub mod Allowed
pub mod Promises
pub mod Runs
