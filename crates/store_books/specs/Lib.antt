-- The definitions that a reader has to trust, each file after those it uses; inner has those that only proofs and private functions use.
pub mod Books
pub mod Commands
pub mod Questions
pub mod Pages
pub mod Refusals
pub mod Totals
pub mod Kept
pub mod Bare
pub mod Forgetting
pub mod Staying
pub mod inner
