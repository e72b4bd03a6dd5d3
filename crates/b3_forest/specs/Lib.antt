-- The definitions that a reader has to trust, each file after those it uses.
pub mod Borrowed
pub mod Stretches
pub mod Parts
pub mod Gaps
pub mod Texts
pub mod Pieces
pub mod Forests
pub mod Uploads
pub mod Subtrees
pub mod Followed
pub mod inner
