pub mod Carrying
pub mod Consuming
pub mod Counting
pub mod Fitting
pub mod Lining
pub mod Standing
pub mod Placing
pub mod TakingOn
