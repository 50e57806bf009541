pub mod Matches
pub mod Moves
pub mod Starts
pub mod Turns
