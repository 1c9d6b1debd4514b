pub mod Bounds
pub mod Passed
pub mod Roots
pub mod Contract
