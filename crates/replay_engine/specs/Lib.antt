pub mod ControlPoints
pub mod Steps
pub mod Races
