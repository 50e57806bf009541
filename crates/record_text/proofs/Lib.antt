mod Ascii
mod Cuts
mod DraftLaws
mod FormLaws
pub mod LineForms
mod LineLaws
mod LineWords
mod Printing
mod ReadingLaws
mod RecordLaws
mod TextLaws
