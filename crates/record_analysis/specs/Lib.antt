pub mod Analyses
pub mod Judging
pub mod Totals
pub mod Truth
