pub mod Quotients
pub mod Points
pub mod Plans
