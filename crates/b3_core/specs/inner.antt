-- Definitions that only proofs and private functions use.
pub mod Compression
pub mod Hashers
pub mod Lanes
pub mod Rows
