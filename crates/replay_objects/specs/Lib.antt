pub mod Stored
pub mod Uses
