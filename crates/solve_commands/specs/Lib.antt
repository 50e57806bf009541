pub mod Checkers
pub mod Truth
pub mod Races
pub mod Solves
pub mod Ladders
