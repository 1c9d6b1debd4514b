pub mod Answer
pub mod Lets
