pub mod Moves
pub mod Sequences
pub mod Ends
pub mod Order
pub mod Listing
pub mod Faults
pub mod Written
pub mod Payoff
