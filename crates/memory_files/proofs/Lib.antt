mod Fronts
mod TellsLemmas
