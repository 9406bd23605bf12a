pub mod Tags
pub mod Counts
pub mod Ranks
pub mod Shares
pub mod Order
pub mod Distances
pub mod Bounds
pub mod Chosen
pub mod Processors
pub mod Runners
pub mod Turns
pub mod Stepping
pub mod Readback
pub mod Segments
pub mod Placing
pub mod Course
pub mod Releases
pub mod Fits
pub mod Accepted
pub mod Resting
pub mod Fitting
pub mod Finishes
pub mod Calls
pub mod Theorem
pub mod Largest
mod Listed
mod Examples
