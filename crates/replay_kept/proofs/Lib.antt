pub mod Keeping
pub mod Rereading
