pub mod Stored
pub mod Contract
