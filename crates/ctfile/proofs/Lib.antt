pub mod Open
mod Files
mod Examples
mod RefusalExamples
pub mod Clean
pub mod Judging
pub mod Checked
pub mod AsText
pub mod Hydrogens
pub mod HeavyPlaces
pub mod FoldedSound
pub mod Folding
pub mod Redrawing
pub mod Named
pub mod Same
pub mod AsCard
pub mod Kept
