-- The definitions that a reader has to trust, each file after those it uses; inner has those that only proofs and private functions use.
pub mod Compression
pub mod Tree
pub mod ExtendedOutput
pub mod Lanes
pub mod Laws
pub mod Modes
pub mod Work
pub mod Hashers
pub mod Kept
pub mod HasherStates
pub mod Texts
pub mod inner
