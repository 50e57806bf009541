pub mod Views
pub mod Claiming
pub mod Events
