pub mod PlayWorths
pub mod Laters
pub mod LivePoints
pub mod RowCells
pub mod MoreRanks
pub mod Places
pub mod SumsFound
pub mod SlicesFound
pub mod ColumnStates
mod RowsFound
