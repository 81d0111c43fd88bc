pub mod Open
mod Examples
pub mod KindsTable
pub mod Renumberings
pub mod Neighbours
pub mod Sound
pub mod Connected
pub mod BondLists
pub mod Judging
pub mod Checked
pub mod Alike
pub mod BondsOf
pub mod BondsFit
pub mod Fields
pub mod CardRead
pub mod CardBack
