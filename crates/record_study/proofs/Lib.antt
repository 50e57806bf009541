pub mod Records
pub mod Regrets
pub mod AtScore
pub mod Keeping
pub mod Matches
