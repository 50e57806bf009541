mod AwayScores
mod Faulty
mod Mapped
mod Numbers
mod PlaceRoom
mod Positions
pub mod Rightness
