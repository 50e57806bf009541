pub mod Bits
pub mod Told
pub mod Placements
pub mod Decoded
pub mod Steps
pub mod RoundTrip
pub mod Made
