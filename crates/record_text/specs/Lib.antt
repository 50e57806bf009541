pub mod Drafts
pub mod Faults
pub mod FormWords
pub mod Forms
pub mod Texts
