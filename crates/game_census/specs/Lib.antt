pub mod Calls
pub mod Gaps
pub mod Censuses
pub mod Stops
pub mod Tasks
pub mod Saved
