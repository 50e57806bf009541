pub mod Examples
pub mod Faults
pub mod FrontTexts
pub mod Fronts
pub mod HeaderFaults
pub mod Headers
pub mod Heads
