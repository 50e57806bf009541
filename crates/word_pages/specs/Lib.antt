pub mod Words
pub mod Sealed
pub mod Flaws
pub mod Pages
