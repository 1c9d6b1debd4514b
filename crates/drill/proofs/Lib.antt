pub mod Parts
pub mod Drilling
