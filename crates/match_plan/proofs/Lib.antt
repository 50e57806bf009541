pub mod Places
pub mod Centred
pub mod Shares
pub mod Enclosing
