pub mod TailLaws
pub mod CountLaws
pub mod LineLaws
