-- Definitions that only proofs and private functions use.
pub mod Blocks
pub mod Lines
pub mod Parts
pub mod Rounds
pub mod Takers
