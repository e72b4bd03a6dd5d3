-- The definitions that the contracts of the calls cite.
pub mod Answers
pub mod Keeping
pub mod Calls
pub mod Rows
pub mod Lines
pub mod Filing
