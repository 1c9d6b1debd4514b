pub mod Walking
pub mod Asked
pub mod Claims
pub mod HandedDown
pub mod Transfer
