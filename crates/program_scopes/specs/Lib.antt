pub mod Judging
pub mod Scopes
pub mod Resolved
