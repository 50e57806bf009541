pub mod Analyses
pub mod Full
