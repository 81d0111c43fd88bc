pub mod Open
mod ReadExamples
mod WriteExamples
pub mod Numbers
pub mod Symbols
pub mod Tokens
pub mod Walks
pub mod Tidy
pub mod Folds
pub mod Limits
pub mod Places
pub mod Strokes
pub mod Ready
pub mod Finished
pub mod Clear
pub mod Followed
pub mod Codes
pub mod Ranks
pub mod Hydrogens
pub mod Order
pub mod Fits
pub mod Lengths
pub mod Names
pub mod Alike
pub mod Marks
pub mod Rooted
pub mod Texts
pub mod Depths
