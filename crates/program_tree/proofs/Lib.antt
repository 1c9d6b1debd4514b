pub mod Listed
pub mod Limits
pub mod StructureLaws
pub mod Outcomes
pub mod TreeLaws
pub mod TreeLoop
pub mod Rows
