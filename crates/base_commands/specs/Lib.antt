pub mod Shows
pub mod Lists
pub mod Advises
pub mod ShowLists
pub mod AdviseLists
pub mod ListAnswers
