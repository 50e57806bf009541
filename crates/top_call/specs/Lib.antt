pub mod Boards
pub mod Outcomes
