mod Answered
mod ColumnLemmas
mod Marks
mod Found
mod Orders
mod Parts
mod Shares
mod Whole
