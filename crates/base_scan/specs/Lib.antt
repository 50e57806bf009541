pub mod Groups
pub mod Conditions
pub mod Cuts
pub mod Meets
pub mod Sides
pub mod Found
