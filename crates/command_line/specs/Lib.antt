pub mod Away
pub mod Plain
pub mod Values
pub mod Commands
pub mod Words
pub mod Reading
pub mod Stops
pub mod Right
