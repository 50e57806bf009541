pub mod Calls
pub mod Disks
pub mod MemFiles
pub mod Pile
pub mod Telling
