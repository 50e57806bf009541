pub mod Placement
pub mod LiveRanks
pub mod Points
pub mod Packed
pub mod Ranks
pub mod Examples
