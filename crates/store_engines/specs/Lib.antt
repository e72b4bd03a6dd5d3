-- The definitions that a reader has to trust, each file after those it uses.
pub mod Journals
pub mod Audits
pub mod Migrations
pub mod Uploads
pub mod ClientSteps
pub mod SharedSessions
pub mod ClientLaws
pub mod inner
