pub mod Counting
pub mod Keeps
pub mod Reaching
pub mod Steps
