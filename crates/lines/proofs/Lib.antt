pub mod Fronted
pub mod HexDigits
pub mod Parts
pub mod Putting
pub mod Spelling
pub mod Shown
pub mod Words
