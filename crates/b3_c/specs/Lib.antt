-- The definitions that a reader has to trust, each file after those it uses.
pub mod Hashers
pub mod Modes
pub mod Answers
pub mod Nodes
