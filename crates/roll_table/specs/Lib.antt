pub mod Rolls
pub mod Text
