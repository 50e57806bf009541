mod LadderExact
mod LadderOfFive
mod MatchTerms
mod NamesDistinct
mod NamesKnown
pub mod Unlimited
pub mod FirstPassing
mod WinsLeadDown
