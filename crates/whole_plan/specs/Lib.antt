pub mod Planning
pub mod Ends
pub mod Serving
pub mod Answering
