pub mod Copying
pub mod Pairing
pub mod Counting
pub mod Writing
pub mod Clearing
pub mod Halting
