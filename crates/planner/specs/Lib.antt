pub mod Views
pub mod Admission
pub mod Looking
pub mod Segments
pub mod Upcoming
pub mod Lining
pub mod Runs
