-- Definitions that only proofs and private functions use.
pub mod Declared
pub mod Faults
