-- The definitions that a reader has to trust, each file after those it uses.
pub mod Refusals
pub mod Shares
pub mod Names
pub mod Counts
