pub mod Writes
pub mod Judging
pub mod UploadTexts
mod Accepted
mod Along
mod ObjectsStay
mod Promises
mod Slices
mod Steps
mod UploadsStay
