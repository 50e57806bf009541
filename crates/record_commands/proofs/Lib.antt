pub mod Losses
mod ByFile
pub mod Recorded
pub mod Matches
pub mod MatchTruth
pub mod ReadRecords
mod Studied
