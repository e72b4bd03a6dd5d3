-- Definitions that only proofs and private functions use.
pub mod Digits
pub mod Requests
pub mod Answers
pub mod Script
pub mod Reads
pub mod Reporting
