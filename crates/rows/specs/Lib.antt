pub mod Limits
pub mod Tests
pub mod Kinds
pub mod Refusals
pub mod Releases
pub mod Words
