pub mod Texts
pub mod Pairs
pub mod Seals
pub mod PageFlaws
pub mod Within
pub mod Back
pub mod PageTexts
pub mod Bound
