-- Laws of the definitions by themselves, whatever is typed.
pub mod Maps
pub mod Places
pub mod Order
pub mod Total
pub mod NextWord
pub mod Questions
pub mod Names
pub mod Waiting
pub mod Runs
