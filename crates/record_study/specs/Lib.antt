pub mod Studies
pub mod Matches
pub mod Keeping
