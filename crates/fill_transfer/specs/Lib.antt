pub mod AfterSteps
pub mod Bounds
pub mod Transfers
pub mod Shows
