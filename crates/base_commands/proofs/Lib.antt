mod Fitting
mod ListLines
mod LookedUp
mod ShowLaws
mod AdviseLaws
mod AdviseFiles
mod ListLaws
