mod DigitPairs
pub mod Encoding
pub mod FieldTexts
pub mod Joining
pub mod FirstLines
pub mod Inputs
pub mod LineParts
pub mod TextRooms
pub mod Numbers
pub mod Output
pub mod Searches
pub mod Steps
