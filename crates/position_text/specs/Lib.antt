pub mod Text
pub mod TextParts
