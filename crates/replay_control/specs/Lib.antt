pub mod Layout
pub mod Shapes
pub mod Modes
pub mod Control
pub mod Continuations
