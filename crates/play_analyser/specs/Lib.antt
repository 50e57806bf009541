pub mod Losses
pub mod Choices
pub mod Regrets
pub mod Sought
pub mod Advice
pub mod Rankings
pub mod Advised
pub mod Bests
