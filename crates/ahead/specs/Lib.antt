pub mod Ahead
pub mod Waiting
