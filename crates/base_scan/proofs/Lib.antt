pub mod TestTexts
pub mod Readings
pub mod Telling
pub mod Looks
pub mod Listing
pub mod Numbered
pub mod Advised
pub mod Scans
