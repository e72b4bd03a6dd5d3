-- The definitions that a reader has to trust, each file after those it uses; inner has those that only proofs and private functions use.
pub mod Fields
pub mod Lines
pub mod Output
pub mod Causes
pub mod inner
