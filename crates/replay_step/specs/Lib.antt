pub mod Calls
pub mod Slots
pub mod Words
