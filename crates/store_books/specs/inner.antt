-- Definitions that only proofs and private functions use.
pub mod Catalog
pub mod Kept
