pub mod Ids
pub mod Readings
