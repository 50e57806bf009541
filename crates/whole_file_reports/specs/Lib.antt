pub mod Files
pub mod Scans
pub mod Replies
