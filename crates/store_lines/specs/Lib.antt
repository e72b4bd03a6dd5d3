-- The definitions that a reader has to trust, each file after those it uses; inner has those that only proofs and private functions use.
pub mod Grammar
pub mod Texts
pub mod Redo
pub mod Questions
pub mod Script
pub mod Lines
pub mod Spelling
pub mod Requests
pub mod Filing
pub mod Session
pub mod Access
pub mod Owning
pub mod Turns
pub mod Running
pub mod Loading
pub mod inner
