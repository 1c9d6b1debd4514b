pub mod FilledMaps
pub mod Columns
pub mod Numbers
pub mod Stages
