pub mod Calls
pub mod Notes
