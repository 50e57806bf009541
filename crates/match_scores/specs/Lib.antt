pub mod Openings
pub mod Payoffs
pub mod Ladders
pub mod Keepers
