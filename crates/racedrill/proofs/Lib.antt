pub mod Lines
pub mod Seeds
pub mod Pairs
