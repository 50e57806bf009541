pub mod Plain
pub mod Cuts
pub mod PlainLines
