pub mod Members
pub mod StayLive
pub mod EndsExact
pub mod LinesAdded
pub mod LineCounts
pub mod EarlierAndLater
pub mod FullLines
pub mod RollLines
mod FirstLines
pub mod SomeEnd
pub mod FaultLaws
pub mod WrittenLaws
mod NoFault
mod WrittenLegal
pub mod CountsAbove
mod OpeningPlays
mod MoveCases
mod WonCases
