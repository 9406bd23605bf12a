pub mod Tables
pub mod Left
