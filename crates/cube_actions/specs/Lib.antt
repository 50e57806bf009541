pub mod Ladder
pub mod MatchKinds
pub mod Matches
pub mod Money
pub mod Names
pub mod Scores
pub mod Stakes
pub mod Starts
