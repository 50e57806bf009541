pub mod Bounds
pub mod Races
pub mod Files
pub mod Ladder
