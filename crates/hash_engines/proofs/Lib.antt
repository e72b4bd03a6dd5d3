pub mod FileSums
pub mod Flushing
pub mod ListNames
