pub mod Blocks
pub mod Sources
pub mod Workers
pub mod Shares
pub mod LastRounds
pub mod Columns
