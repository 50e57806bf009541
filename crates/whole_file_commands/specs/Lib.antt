pub mod Verifies
pub mod Migrates
pub mod Plans
pub mod Scans
pub mod Replies
