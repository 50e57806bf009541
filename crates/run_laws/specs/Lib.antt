pub mod RightFiles
pub mod RightRecords
pub mod RightRuns
pub mod Headline
pub mod SolvedFiles
