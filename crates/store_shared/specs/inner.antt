-- Definitions that only proofs and private functions use.
pub mod Gates
pub mod HistoryMoves
pub mod Uploading
pub mod Workers
