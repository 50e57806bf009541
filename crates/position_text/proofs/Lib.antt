pub mod PlaceTexts
mod TextPlacements
mod TextLists
mod TextPrint
mod TextReads
mod TextSides
mod TextRoundTrip
