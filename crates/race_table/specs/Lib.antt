pub mod Races
pub mod TurnsLeft
pub mod RacePairs
pub mod FreePlays
pub mod Orders
pub mod Tables
