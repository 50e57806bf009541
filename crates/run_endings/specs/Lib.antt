pub mod Endings
pub mod Beginnings
pub mod Loads
pub mod Games
pub mod Pages
pub mod Scores
pub mod Notes
