pub mod ScriptSteps
pub mod Joining
pub mod Patterns
pub mod Read
pub mod Rows
pub mod LineOutcomes
mod Told
mod Words
pub mod Lengths
mod Frames
mod Lines
pub mod Steps
mod Puts
mod FileParts
mod Files
mod Reports
mod Owned
mod Begun
mod Serves
mod Under
mod Logs
mod Alone
mod RedoLengths
