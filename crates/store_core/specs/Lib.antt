-- The definitions that a reader has to trust, each file after those it uses; inner has those that only proofs and private functions use.
pub mod Model
pub mod Redone
pub mod Commands
pub mod Questions
pub mod Carried
pub mod Seen
pub mod Runs
pub mod Following
pub mod inner
