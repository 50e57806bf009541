pub mod Opened
pub mod Parts
pub mod Written
