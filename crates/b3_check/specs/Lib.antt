-- The definitions that a reader has to trust, each file after those it uses.
pub mod Faults
pub mod Names
pub mod Lines
pub mod Files
pub mod Reports
pub mod Laws
pub mod inner
