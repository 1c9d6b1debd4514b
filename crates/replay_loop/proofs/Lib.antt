pub mod Steadying
pub mod Playing
