pub mod Open
mod TenExamples
mod Examples
pub mod Stopped
pub mod Settled
pub mod Whole
pub mod Answered
pub mod Through
pub mod Same
pub mod Again
pub mod Read
pub mod Runs
