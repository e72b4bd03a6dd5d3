-- The definitions that a reader has to trust, each file after those it uses.
pub mod Checks
pub mod Files
pub mod Keys
pub mod Lists
pub mod Sums
pub mod inner
