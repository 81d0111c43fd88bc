pub mod Judgements
pub mod Ready
pub mod Runs
