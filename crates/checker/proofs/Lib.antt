pub mod Promises
pub mod Stages
