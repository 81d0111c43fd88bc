pub mod Numbered
pub mod Left
pub mod Judged
