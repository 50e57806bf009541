pub mod LiveIndex
pub mod Numbers
pub mod Core
pub mod Events
pub mod Seats
pub mod Rule
pub mod WordLists
