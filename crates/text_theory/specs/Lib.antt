pub mod Text
pub mod Plain
pub mod Sheet
pub mod Writable
