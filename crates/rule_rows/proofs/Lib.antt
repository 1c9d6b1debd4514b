pub mod TableRows
pub mod Scopes
pub mod Views
