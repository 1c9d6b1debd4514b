pub mod Start
pub mod Pieces
