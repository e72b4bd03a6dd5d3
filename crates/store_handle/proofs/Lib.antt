pub mod Taken
pub mod Values
