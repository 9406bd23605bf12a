pub mod TableRows
