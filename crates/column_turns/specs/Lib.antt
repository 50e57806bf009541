pub mod Moments
pub mod Rows
pub mod Turns
pub mod SumsOfKinds
pub mod Columns
