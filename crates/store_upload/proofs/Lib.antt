pub mod Places
pub mod Ranges
pub mod Ends
pub mod Complete
pub mod Least
