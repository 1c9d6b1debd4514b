pub mod Records
pub mod Threads
