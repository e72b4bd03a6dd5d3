-- The definitions that a reader has to trust, each file after those it uses; inner has those that only proofs and private functions use.
pub mod CommandLine
pub mod Ranges
pub mod Stated
pub mod inner
