pub mod Lent
pub mod Tags
pub mod Fault
pub mod NextRecord
pub mod Undo
pub mod ReadOn
pub mod WholeFile
pub mod Copied
