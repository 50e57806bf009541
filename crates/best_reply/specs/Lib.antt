pub mod Policies
pub mod Advised
pub mod Replies
pub mod ReplyPairs
pub mod Tables
pub mod Outcomes
pub mod Columns
pub mod Sides
