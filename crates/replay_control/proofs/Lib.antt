pub mod Advances
pub mod Linking
pub mod Modes
