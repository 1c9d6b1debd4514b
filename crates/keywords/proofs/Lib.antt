pub mod SameBytes
pub mod Words
pub mod TypeLines
