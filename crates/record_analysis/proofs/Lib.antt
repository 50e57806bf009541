pub mod Judgings
pub mod Sums
pub mod Analysed
