pub mod Beginning
pub mod Completing
pub mod Loaded
pub mod Pages
