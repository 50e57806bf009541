pub mod Reports
pub mod Games
pub mod Files
pub mod Unheld
pub mod Records
pub mod Refusals
pub mod Choices
