pub mod Bases
pub mod Batches
pub mod FileTexts
pub mod Places
pub mod FrontBytes
pub mod KeepingPages
pub mod KeptPages
pub mod Loading
pub mod ManyPages
pub mod OpenedFiles
pub mod PageLists
pub mod PageWords
pub mod PagedLooks
pub mod PagedWords
pub mod RightFiles
pub mod Writing
mod Fronts
mod Words
