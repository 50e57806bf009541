pub mod Draws
pub mod Makers
pub mod Making
pub mod Sizes
