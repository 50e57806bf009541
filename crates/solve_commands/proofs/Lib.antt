mod Puts
mod Residuals
mod LadderSteps
mod LadderEnds
mod Written
mod LadderKeeping
