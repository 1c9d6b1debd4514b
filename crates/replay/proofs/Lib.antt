pub mod Fronts
pub mod Starting
pub mod Copying
pub mod Joined
pub mod Runs
pub mod Promises
