-- Definitions that only proofs and private functions use.
pub mod Journals
pub mod Uploads
