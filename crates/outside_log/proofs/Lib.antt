pub mod Filling
pub mod Logs
pub mod Readings
mod Walks
pub mod Written
