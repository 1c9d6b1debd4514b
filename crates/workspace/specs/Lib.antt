pub mod Layout
pub mod Region
pub mod Steps
pub mod Holds
pub mod Sheets
