pub mod MetFirst
pub mod Ahead
pub mod Enclosing
pub mod Tighter
mod LossLemmas
pub mod PairLists
mod OtherPlays
mod OtherRows
mod LossPairs
mod PlayLosses
mod CubeLosses
mod RowLemmas
mod OneList
mod AdvisedLosses
pub mod Weighing
