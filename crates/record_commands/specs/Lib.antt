pub mod Records
pub mod Studies
pub mod Makes
pub mod ByFile
pub mod MatchAnalyses
pub mod Analyses
